pub mod Ends
pub mod AnyLoop
pub mod AllLoop
