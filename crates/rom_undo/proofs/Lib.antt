-- Words that are stored over and put back.
pub mod Noting
