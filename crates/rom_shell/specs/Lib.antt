-- What the commands promise.
pub mod Stat
pub mod Drilled
pub mod Run
pub use Rattle.rom_words.specs.Words
