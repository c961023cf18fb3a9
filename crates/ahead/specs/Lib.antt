pub mod Room
pub mod RoomLaws
pub mod Side
pub mod SideLaws
pub mod PostingLaws
