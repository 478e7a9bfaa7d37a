pub mod SlowShelf
