use Rattle.std.proofs.Common.{◌≡◌, ℕ, ◌*◌, ◌/◌, ◌%◌, ◌^◌, ◌<◌, true, false, rules, arith, sym, ap, ◌∙◌, slice_index, nat_eq}
use Rattle.std.proofs.lemmas.Bool.{OnTrue_from, OnFalse_from, eqb-true, eq-eqb}
use Rattle.rom_blob_region.specs.Bytes.{EndsInZeros}
use Rattle.rom_blob_region.proofs.Numbers.{bits}
use Rattle.rom_blob_region.proofs.Reading.{ends_none, none_ends}
use Rattle.rom_blob_region.proofs.bytes.chunk.ends_in_zeros.Goals as goal

pub returns-else-len-eq0-clause-zeros : goal.returns-else-len-eq0-clause-zeros
returns-else-len-eq0-clause-zeros c =
    let words = c.args.words.now in
    let len = c.args.len in
    OnTrue_from (nat_eq (slice_index words (len / 8) / 2 ^ (8 * (len % 8))) 0) (EndsInZeros words 0 len)
    (λ is. ends_none words len (ap (λ p. slice_index words (len / 8) / p) (sym (bits (len % 8))) ∙ eqb-true (slice_index words (len / 8) / 2 ^ (8 * (len % 8))) 0 is))

pub returns-else-len-eq0-clause-others : goal.returns-else-len-eq0-clause-others
returns-else-len-eq0-clause-others c =
    let words = c.args.words.now in
    let len = c.args.len in
    let small : (k : ℕ) → slice_index words k < 2 ^ 64 = search rules in
    OnFalse_from (nat_eq (slice_index words (len / 8) / 2 ^ (8 * (len % 8))) 0) (EndsInZeros words 0 len → ⊥)
    (λ is ends.
    let none : slice_index words (len / 8) / 2 ^ (8 * (len % 8)) ≡ 0 = ap (λ p. slice_index words (len / 8) / p) (bits (len % 8)) ∙ none_ends words len (small (len / 8)) (omega arith) ends in
    absurd (let never : true ≡ false = sym (eq-eqb (slice_index words (len / 8) / 2 ^ (8 * (len % 8))) 0 none) ∙ is in cc))
