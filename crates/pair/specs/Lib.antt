pub mod Alone
pub mod Pair
pub mod PairLaws
pub mod TurnLaws
pub mod Eager
