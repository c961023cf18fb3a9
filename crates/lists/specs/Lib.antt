pub mod Tests
pub mod Each
pub mod Put
pub mod Front
pub mod Sorted
pub mod SortedLaws
pub mod Settling
pub mod Places
