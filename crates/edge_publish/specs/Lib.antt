pub mod Board
pub mod Look
pub mod Receipt
