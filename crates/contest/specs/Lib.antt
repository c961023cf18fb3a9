pub mod Contest
pub mod ContestLaws
