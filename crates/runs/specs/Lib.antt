pub mod Run
pub mod RunLaws
pub mod Reached
pub mod AnyVisits
pub mod AllVisits
pub mod Found
