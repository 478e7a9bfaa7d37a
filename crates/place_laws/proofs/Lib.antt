mod Acts
mod Aligning
mod Directions
