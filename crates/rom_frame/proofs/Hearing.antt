-- What the bytes behind the first word of a message make of it.
use Rattle.std.proofs.Common.{◌≡◌, ℕ, ◌+◌, ◌-◌, ◌*◌, ◌<◌, ◌≤◌, List, ◌++◌, Option, length, take, drop, inr, refl, sym, ap, ◌∙◌, subst, arith}
use Rattle.std.specs.Io.KnownBytes.{Consumes}
use Rattle.std.proofs.KnownBytes.{Consumes-trans}
use Rattle.std.proofs.lemmas.List.{length-take, length-take-le, take-append-drop, take-append-le}
use Rattle.byteorder.specs.Numbers.{little_from-take}
use Rattle.rom_model.specs.Faults.{counted}
use Rattle.rom_text.specs.Limits.{CameToEnd}
use Rattle.rom_text.specs.Streams.{ReadFailed, ShownSource}
use Rattle.rom_frame.specs.declared.stream.message.MessageKind.{MessageKind}
use Rattle.rom_frame.specs.declared.stream.message.MessageKind.TheVariants.{Whole, End, Broken, Failed, TooLong}
use Rattle.rom_frame.specs.declared.stream.message.TheConstants.{MAX_STREAM}
use Rattle.rom_frame.specs.Messages.{GaveOn, IsCount, IsMessageHeard, IsUnfinished, first_word}

module _ {S : Type 0} (shown : ShownSource S) (old mid new : S) where
  -- reads that gave bytes, and then those up to the end
  pub came_on : GaveOn shown old mid → CameToEnd shown mid new → CameToEnd shown old new
  came_on gave came = record {
    at_end = came.at_end;
    last = record { once = came.last.once ∙ ap counted gave.idle; last = came.last.last };
    unfailed = came.unfailed ∙ gave.faults;
  }

  -- or up to one that failed
  pub failed_on : GaveOn shown old mid → ReadFailed shown mid new → ReadFailed shown old new
  failed_on gave failed = record {
    once = failed.once ∙ ap counted gave.faults;
    last = record { once = failed.last.once ∙ ap counted gave.idle; last = failed.last.last };
  }

  -- or more that gave bytes
  pub gave_on : GaveOn shown old mid → GaveOn shown mid new → GaveOn shown old new
  gave_on first second = record { idle = second.idle ∙ first.idle; faults = second.faults ∙ first.faults }

-- the first word of the first bytes is that of all
pub same_word : (many : ℕ) (bytes : List ℕ) → 8 ≤ many → first_word (take many bytes) ≡ first_word bytes
same_word many bytes some = little_from-take 0 8 many bytes some

-- bytes without their last are unfinished, where their first word is there and they are no more than it says
short : (many : ℕ) (bytes : List ℕ) → IsCount (first_word bytes) → 8 ≤ many → length bytes ≡ many + 1 → length bytes ≤ 8 * first_word bytes → IsUnfinished (take many bytes)
short many bytes count some long within =
    let same = same_word many bytes some in
    inr (subst IsCount (sym same) count, omega (arith, same, long, within, length-take many bytes))

module _ {S : Type 0} (shown : ShownSource S) (taken : ℕ) (bytes : List ℕ) (old mid new : S) where
  -- what was heard of a message whose first word is there
  pub heard_behind : (kind : MessageKind) → IsCount (first_word bytes) → taken ≤ MAX_STREAM → 8 + taken ≤ MAX_STREAM → 8 ≤ length bytes → length bytes ≤ 8 * first_word bytes → GaveOn shown old mid
      → (kind ≡ Whole → (length bytes ≡ 8 * first_word bytes) × (8 * first_word bytes < MAX_STREAM + 1 - taken) × GaveOn shown mid new)
      → (kind ≡ End → (length bytes ≡ 0) × CameToEnd shown mid new)
      → (kind ≡ Broken → (0 < length bytes) × (length bytes < 8 * first_word bytes) × (length bytes < MAX_STREAM + 1 - taken) × CameToEnd shown mid new)
      → (kind ≡ Failed → (length bytes < 8 * first_word bytes) × (length bytes < MAX_STREAM + 1 - taken) × ReadFailed shown mid new)
      → (kind ≡ TooLong → (length bytes ≡ MAX_STREAM + 1 - taken) × GaveOn shown mid new)
      → IsMessageHeard shown taken bytes old new kind
  heard_behind Whole count few room some within gave whole end broken failed long =
      let is = whole refl in
      (record { count = count; whole = is.0 }, omega (arith, is.0, is.1, few), gave_on shown old mid new gave is.2)
  heard_behind End count few room some within gave whole end broken failed long =
      absurd (omega (arith, some, (end refl).0))
  heard_behind Broken count few room some within gave whole end broken failed long =
      let is = broken refl in
      (omega (arith, is.2, few), inr (is.0, inr (count, is.1), came_on shown old mid new gave is.3))
  heard_behind Failed count few room some within gave whole end broken failed long =
      let is = failed refl in
      (omega (arith, is.1, few), inr (count, is.0), failed_on shown old mid new gave is.2)
  heard_behind TooLong count few room some within gave whole end broken failed long =
      let is = long refl in (
        omega (arith, is.0, few),
        short (MAX_STREAM - taken) bytes count (omega (arith, room)) (omega (arith, is.0, few)) within,
        gave_on shown old mid new gave is.1,
      )

-- a block's first bytes, and those behind them, read one after the other
pub read_behind : (a b c : Option (List ℕ)) (first second : List ℕ) (many : ℕ) → 8 ≤ many → many ≤ length second → take 8 second ≡ take 8 first →
    Consumes a b (take 8 first) → Consumes b c (drop 8 (take many second)) → Consumes a c (take many second)
read_behind a b c first second many some within same before behind =
    let front : take 8 (take many second) ≡ take 8 first =
    sym (take-append-le 8 (take many second) (drop many second) (omega (arith, some, length-take-le many second within)))
    ∙ ap (take 8) (take-append-drop many second) ∙ same in
    subst (Consumes a c) (ap (λ (xs : List ℕ). xs ++ drop 8 (take many second)) (sym front) ∙ take-append-drop 8 (take many second))
    (Consumes-trans a b c (take 8 first) (drop 8 (take many second)) before behind)
