pub mod Verdict
pub mod RoomLaws
pub mod Numbers
pub mod Record
pub mod QueryLaws
pub mod Standing
pub mod Unique
