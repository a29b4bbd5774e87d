use Rattle.std.proofs.Common.{◌≡◌, ◌<◌, ◌≤◌, ◌++◌, ℕ, List, true, rules, arith, ap, ◌∙◌, sym, length, drop, replicate, slice_index, Some, None}
use Rattle.std.specs.Prelude.{nat_le, if◌then◌else◌}
use Rattle.std.proofs.lemmas.Bool.Decides.{nat_tests}
use Rattle.rom_blob_region.proofs.Numbers.{made_bytes, made_chunk}
use Rattle.rom_blob_region.proofs.Padding.{words_read}
use Rattle.rom_blob_region.proofs.bytes.chunk.Chunk.of.Goals as goal

pub invariant_of-result : goal.invariant_of-result
invariant_of-result c =
    let bytes = c.args.bytes.now in
    let low : (k : ℕ) → slice_index bytes k < 256 = search rules in
    let long = c.read_u64_into.auto.dst in
    let padded = ap (λ (xs : List ℕ). xs ++ drop (length bytes) (replicate 256 0)) c.copy_from_slice.ensures.after in
    made_chunk bytes c.read_u64_into.new.dst low (omega arith) long (words_read bytes _ c.read_u64_into.new.dst padded long c.read_u64_into.ensures)

pub returns : goal.returns
returns c =
    let bytes = c.args.bytes.now in
    let low : (k : ℕ) → slice_index bytes k < 256 = search rules in
    let few : length bytes ≤ 256 = omega arith in
    let long = c.read_u64_into.auto.dst in
    let padded = ap (λ (xs : List ℕ). xs ++ drop (length bytes) (replicate 256 0)) c.copy_from_slice.ensures.after in
    let same = made_bytes bytes c.read_u64_into.new.dst low few long (words_read bytes _ c.read_u64_into.new.dst padded long c.read_u64_into.ensures) in
    let test : nat_le (length bytes) 256 ≡ true = grind (arith, nat_tests) in
    ap Some same ∙ sym (ap (λ t. if t then Some bytes else None) test)
