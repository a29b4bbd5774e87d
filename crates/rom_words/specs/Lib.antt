-- What words of the command line ask for.
pub mod Words
pub mod Wanted
pub mod CommandLine
