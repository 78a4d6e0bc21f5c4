mod Held
mod Raised
mod Sums
mod Words
