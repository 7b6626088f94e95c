pub mod Choices
pub mod CommandLine
pub mod Options
pub mod Words
pub mod Plain
