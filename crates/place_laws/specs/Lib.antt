pub mod Aligned
pub mod Untaken
