-- What stood where words were stored over, and what the words are when it is put back.
pub mod RolledBack
