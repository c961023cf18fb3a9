pub mod Code
pub mod CodeLaws
pub mod Answered
pub mod Fill
pub mod FillLaws
pub mod PromiseLaws
pub mod Table
