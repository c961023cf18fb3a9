pub mod Serve
pub mod AnyLaws
pub mod Gather
pub mod GatherLaws
pub mod WriteLaws
pub mod Posed
pub mod PosedLaws
pub mod OneLaws
