pub mod Keys
pub mod KeyLaws
pub mod Parts
pub mod PartLaws
pub mod BeginLaws
pub mod TwoLaws
pub mod FillLaws
