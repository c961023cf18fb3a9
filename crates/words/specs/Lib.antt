pub mod Lanes
pub mod Masks
pub mod Weighing
pub mod Gathering
