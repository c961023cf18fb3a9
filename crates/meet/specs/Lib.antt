pub mod Meet
pub mod MeetLaws
pub mod LeadLaws
