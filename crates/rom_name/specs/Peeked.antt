-- What a contract sees of a source of which the first bytes were read already.
use Rattle.std.specs.Prelude.{◌≡◌, ℕ, Bool, IsFalse, if◌then◌else◌, List, [], ◌++◌, take, drop, Some}
use Rattle.std.specs.Io.KnownBytes.{Consumes, IsAtEnd, Keeps, prepend_known}
use Rattle.rom_text.specs.Streams.{ReadFailed, ShownSource}
use Rattle.rom_frame.specs.Heads.{AreWords, head}
use Rattle.rom_frame.specs.Messages.{GaveOn}
use Rattle.rom_frame.specs.declared.head.Head.{Head}
use Rattle.rom_name.specs.declared.peeked.First.{First}
use Rattle.rom_name.specs.declared.peeked.First.TheVariants as first
use Rattle.rom_name.specs.declared.peeked.Peeked.{Peeked}

module _ {S : Type 0} {bound : _} where
  -- the bytes that were read already and are given first
  abbrev pub held_of : Peeked S bound → List ℕ
  held_of p = drop p.at (take p.len p.held)

  -- the source behind them
  abbrev pub source_of : Peeked S bound → S
  source_of p = p.source

  -- whether the source came to its end while it was peeked into, which is yet to be told
  abbrev pub is_pending : Peeked S bound → Bool
  is_pending p = p.pending

  -- Nothing was read of it.
  pub record IsUnread (p : Peeked S bound) : Type 0 where
    pub held : held_of p ≡ []
    pub pending : IsFalse (is_pending p)
    pub before : p.before.value ≡ p.source
    pub ended : IsFalse p.ended

  module _ (shown : ShownSource S) where
    -- It shows the bytes that it holds before those of the source, and counts what was told of the source's reads.
    abbrev pub shown_peeked : ShownSource (Peeked S bound)
    shown_peeked = record {
      left = λ p. prepend_known (held_of p) (shown.left (source_of p));
      faults = λ p. shown.faults (source_of p);
      idle = λ p. shown.idle (if is_pending p then p.before.value else source_of p);
      ended = λ p. p.ended;
    }

    -- For whoever reads on it is as it was.
    pub record IsHandedOn (old new : Peeked S bound) : Type 0 where
      pub left : Keeps (shown_peeked.left old) (shown_peeked.left new)
      pub faults : shown_peeked.faults new ≡ shown_peeked.faults old
      pub idle : shown_peeked.idle new ≡ shown_peeked.idle old

    -- no bytes of a head stand at its front, as far as it tells them
    abbrev pub HasNoHead : Peeked S bound → Type 0
    HasNoHead p = (h : Head) (rest : List ℕ) → AreWords h → shown_peeked.left p ≡ Some (head h ++ rest) → ⊥

    -- What stands first in the stream: a head, which was taken from it; or anything else, or nothing, and then all is there still.
    abbrev pub IsFirst : First → Peeked S bound → Peeked S bound → Type 0
    IsFirst (first.Headed h) old new = AreWords h × Consumes (shown_peeked.left old) (shown_peeked.left new) (head h) × GaveOn shown_peeked old new
    IsFirst first.Headless old new = HasNoHead old × IsHandedOn old new
    IsFirst first.Empty old new = IsAtEnd (shown_peeked.left old) × IsHandedOn old new
    IsFirst first.Failed old new = ReadFailed shown_peeked old new
