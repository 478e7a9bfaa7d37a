pub mod Covered
pub mod Does
pub mod Follows
pub mod Says
pub mod Worked
