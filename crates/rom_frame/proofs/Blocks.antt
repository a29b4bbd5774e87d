-- Bytes that are put into a block behind those that stand there.
use Rattle.std.proofs.Common.{◌≡◌, ℕ, ◌+◌, ◌≤◌, List, ◌++◌, length, take, drop, sym, ap, ◌∙◌, arith}
use Rattle.std.proofs.Math.Seq.{take-append-add}
use Rattle.std.proofs.lemmas.List.{drop-append-le, length-take-le, take-append-le}
use borrow.Rule.Slice.PartMut.{post_of, put_mid}

-- what was there from a place on has grown by the bytes that a read gave
pub filled : (from at k count : ℕ) (block buf : List ℕ) → from ≤ at → at ≤ length block → count ≤ length buf →
    drop from (take (at + count) (put_mid at k block buf)) ≡ drop from (take at block) ++ take count buf
filled from at k count block buf order within some =
    let long : length (take at block) ≡ at = length-take-le at block within in
    ap (λ (n : ℕ). drop from (take (n + count) (put_mid at k block buf))) (sym long)
    ∙ ap (drop from) (take-append-add (take at block) (buf ++ post_of at k block) count ∙ ap (λ (xs : List ℕ). take at block ++ xs) (take-append-le count buf (post_of at k block) some))
    ∙ drop-append-le from (take at block) (take count buf) (omega (arith, long, order))
