-- What reads have taken from a source.
use Rattle.std.specs.Prelude.{◌≡◌, ◌==◌, ℕ, ◌≤◌, List, ◌++◌, length, take, Option, if◌then◌else◌}
use Rattle.std.proofs.Common.{ap, ◌∙◌, ne_eqb}
use Rattle.std.proofs.lemmas.List.{take-append-le}
use Rattle.std.specs.Io.KnownBytes.{Consumes}
use Rattle.std.proofs.KnownBytes.{Consumes-trans}
use Rattle.rom_model.specs.Faults.{counted}
use Rattle.rom_text.specs.Streams.{TakesBytes}

-- a further read took these bytes
pub takes_more : (Such : List ℕ → Type 0) (a b c : Option (List ℕ)) (bytes piece : List ℕ) →
    Consumes a b bytes → Consumes b c piece → Such (bytes ++ piece) → TakesBytes Such a c
takes_more Such a b c bytes piece so_far now such = record { bytes = bytes ++ piece; consumed = Consumes-trans a b c bytes piece so_far now; such = such }

-- what was read stands at the front of a longer block
pub grown_by : (old new buf rest : List ℕ) (count : ℕ) → new ≡ old ++ take count (buf ++ rest) → count ≤ length buf → new ≡ old ++ take count buf
grown_by old new buf rest count grown within = grown ∙ ap (λ (xs : List ℕ). old ++ xs) (take-append-le count buf rest within)

-- a read that gave a byte is not idle
pub not_idle : (count was now : ℕ) → (count ≡ 0 → ⊥) → now ≡ (if count == 0 then counted was else was) → now ≡ was
not_idle count was now some is = is ∙ ap (λ b. if b then counted was else was) (ne_eqb count 0 some)
