pub mod Left
pub mod Sound
pub mod Steps
pub mod PostingLaws
pub mod ReadingLaws
pub mod CursorLaws
pub mod StepLaws
pub mod ListLaws
