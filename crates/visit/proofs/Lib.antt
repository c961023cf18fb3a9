pub mod NextLaws
pub mod Walking
pub mod Postings
