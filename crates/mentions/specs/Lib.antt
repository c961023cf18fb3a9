pub mod Mentions
pub mod MeantLaws
