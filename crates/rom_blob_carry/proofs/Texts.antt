-- The line of a key with its bytes, piece by piece.
use Rattle.std.specs.Prelude.{codes, decimal, ◌==◌, if◌then◌else◌}
use Rattle.std.specs.List.{flat_map}
use Rattle.std.proofs.Common.{◌≡◌, ℕ, false, ◌+◌, ◌*◌, ◌<◌, List, [], ◌∷◌, ◌++◌, map, length, get_or, refl, sym, ◌∙◌, ap, arith, append_assoc, length-append}
use Rattle.std.proofs.lemmas.Bool.Decides.{nat_tests}
use Rattle.std.proofs.lemmas.List.{get_or-map, length-map}
use Rattle.rom_text.specs.Text.{line_text}
use Rattle.rom_blob_region.specs.Texts.{bytes_text, digits_of}
use Rattle.rom_blob_carry.specs.declared.elements.kept.Kept.{Kept}
use Rattle.rom_blob_carry.specs.Elements.{Entry, entries_in, entry_of}
use Rattle.rom_blob_carry.specs.Lines.{set_line}

-- the front of a line, up to the bytes
abbrev pub front : ℕ → List ℕ
front key = codes "set " ++ (decimal key ++ 32 ∷ [])

pub line_parts : (e : Entry) → front e.0 ++ (bytes_text e.1 ++ 10 ∷ []) ≡ line_text (set_line e)
line_parts e = ap (λ t. codes "set " ++ t) (append_assoc (decimal e.0) (32 ∷ []) (bytes_text e.1 ++ 10 ∷ []) ∙ sym (append_assoc (decimal e.0) (32 ∷ bytes_text e.1) (10 ∷ [])))

digits_long : (bytes : List ℕ) → length (flat_map digits_of bytes) ≡ 2 * length bytes
digits_long [] = refl
digits_long (b ∷ bytes) = omega (arith, digits_long bytes)

pub text_long : (bytes : List ℕ) → length (bytes_text bytes) ≡ (if length bytes == 0 then 1 else 2 * length bytes)
text_long [] = refl
text_long (b ∷ bytes) =
    let test : (length (b ∷ bytes) == 0) ≡ false = grind (arith, nat_tests) in
    digits_long (b ∷ bytes) ∙ ap (λ t. if t then 1 else 2 * length (b ∷ bytes)) (sym test)

pub line_long : (e : Entry) → length (line_text (set_line e)) ≡ 6 + length (decimal e.0) + length (bytes_text e.1)
line_long e = omega (arith, ap length (sym (line_parts e)), length-append (decimal e.0 ++ 32 ∷ []) (bytes_text e.1 ++ 10 ∷ []), length-append (decimal e.0) (32 ∷ []), length-append (bytes_text e.1) (10 ∷ []))

-- the line of the element at an index
pub line_there : (kept : List Kept) (i : ℕ) (k : Kept) (d : List ℕ) → i < length kept → get_or kept i k ≡ k → get_or (map set_line (entries_in kept)) i d ≡ set_line (entry_of k)
line_there kept i k d lt is = get_or-map set_line (entries_in kept) i (entry_of k) d (omega (arith, lt, length-map kept entry_of)) ∙ ap set_line (get_or-map entry_of kept i k (entry_of k) lt ∙ ap entry_of is)

pub lines_many : (kept : List Kept) → length (map set_line (entries_in kept)) ≡ length kept
lines_many kept = length-map (entries_in kept) set_line ∙ length-map kept entry_of
