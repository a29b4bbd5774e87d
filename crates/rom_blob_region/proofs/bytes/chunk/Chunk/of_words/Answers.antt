use Rattle.std.proofs.Common.{◌≡◌, ℕ, ◌^◌, ◌<◌, ◌++◌, List, rules, arith, sym, ap, subst, ◌∙◌, length, drop, replicate, slice_index, Some}
use Rattle.rom_blob_region.specs.Bytes.{bytes_at, IsChunk}
use Rattle.rom_blob_region.proofs.Reading.{read_chunk, read_bytes, read_words, read_none, read_many}
use Rattle.rom_blob_region.proofs.bytes.chunk.Chunk.of_words.Goals as goal
use Rattle.rom_blob_region.proofs.bytes.chunk.Chunk.of_words.Goals.{then-len-gt256-via-then-len-gt256, then-len-gt256-via-else-len-gt256+then-words-len, then-len-gt256-via-else-len-gt256+else-words-len+then-not-ends_in_zeros}

pub returns-then-len-gt256 : goal.returns-then-len-gt256
returns-then-len-gt256 c =
    let words = c.args.words.now in
    let len = c.args.len in
    elim c.then-len-gt256.branch [
      | then-len-gt256-via-then-len-gt256 w ↦ sym (read_many words len (omega arith))
      | then-len-gt256-via-else-len-gt256+then-words-len w ↦ sym (read_none words len (λ long ends. absurd (w.if-words-len.true long)))
      | then-len-gt256-via-else-len-gt256+else-words-len+then-not-ends_in_zeros w ↦ sym (read_none words len (λ long ends. w.if-not-ends_in_zeros.ensures.others ends))
    ]

pub invariant_of-result : goal.invariant_of-result
invariant_of-result c =
    let words = c.args.words.now in
    let len = c.args.len in
    let small : (k : ℕ) → slice_index words k < 2 ^ 64 = search rules in
    let copied : c.copy_from_slice.new.self ≡ words = search rules in
    subst (λ (ws : List ℕ). IsChunk len (ws ++ drop (length words) (replicate 32 0))) (sym copied) (read_chunk words len (omega arith) (omega arith) small c.if-not-ends_in_zeros.ensures.zeros)

pub returns : goal.returns
returns c =
    let words = c.args.words.now in
    let len = c.args.len in
    let small : (k : ℕ) → slice_index words k < 2 ^ 64 = search rules in
    let copied : c.copy_from_slice.new.self ≡ words = search rules in
    ap (λ (ws : List ℕ). Some (bytes_at (ws ++ drop (length words) (replicate 32 0)) 0 len)) copied ∙ ap Some (read_bytes words len (omega arith) (omega arith) small c.if-not-ends_in_zeros.ensures.zeros) ∙ sym (read_words words len (omega arith) (omega arith) small c.if-not-ends_in_zeros.ensures.zeros)
