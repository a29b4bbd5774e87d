-- The language of a queue, a set and a map: its lines, its texts and its drill.
pub mod Lines
pub mod Longest
pub mod Asking
pub mod Members
pub mod Scripts
pub mod Trio
pub mod Drill
pub mod Summaries
pub use Rattle.rom_text.specs.Streams
pub use Rattle.rom_text.specs.Limits
pub use Rattle.rom_text.specs.Memory
pub use Rattle.rom_text.specs.Adapts
pub use Rattle.rom_text.specs.Phrases
pub use Rattle.rom_text.specs.Text
pub mod Stat
