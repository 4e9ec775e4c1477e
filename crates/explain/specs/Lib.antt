pub mod Versions
pub mod ShellWords
pub mod Commands
