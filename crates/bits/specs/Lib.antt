pub mod BitsSplit
pub mod Windows
pub mod Parts
pub mod Only
