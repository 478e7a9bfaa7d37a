mod Closing
mod Passing
mod Pigeons
mod Room
mod Searching
