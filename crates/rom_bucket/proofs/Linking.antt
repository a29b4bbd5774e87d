-- The words that the stores of a linking leave.
use Rattle.std.proofs.Common.{◌≡◌, ◌≢◌, ◌⊎◌, ⊎_elim, ℕ, ◌+◌, ◌<◌, ◌≤◌, List, length, refl, sym, ◌∙◌, ap, arith, length-set, get_or-set_other}
use Rattle.std.specs.Prelude.{slice_index, slice_set}
use Rattle.std.proofs.lemmas.Grind.{get_or-set_at}
use Rattle.rom_model.specs.Space.{ChangesOnly}
use Rattle.rom_bucket.specs.Link.{IsNodeLinked}
use Rattle.rom_bucket.specs.declared.node.Node.{Node}
use Rattle.rom_bucket.specs.declared.walk.Place.{Place}

module _ (size at : ℕ) (place : Place) (node : Node) (len : ℕ) (w f w' : List ℕ) (inside : place.link < length w) (outside : (place.link < at) ⊎ (at + 4 ≤ place.link)) (apart : place.link ≢ size) (root : size < at) (within : at + 4 ≤ length w) (filled : ChangesOnly at 4 w f)
    (is : w' ≡ slice_set (slice_set f place.link at) size (len + 1)) where
  stays : (k : ℕ) → k ≢ place.link → k ≢ size → slice_index w' k ≡ slice_index f k
  stays k ne ns = ap (λ x. slice_index x k) is ∙ get_or-set_other (slice_set f place.link at) size k (len + 1) 0 ns ∙ get_or-set_other f place.link k at 0 ne

  kept : (j : ℕ) → j < 4 → slice_index w' (at + j) ≡ slice_index f (at + j)
  kept j lt = stays (at + j) (λ e. ⊎_elim (λ less. absurd (omega (arith, e, less))) (λ ge. absurd (omega (arith, e, ge, lt))) outside) (λ e. absurd (omega (arith, e, root)))

  plain : at + 0 ≡ at
  plain = omega arith

  pub linked : slice_index f at ≡ node.key → slice_index f (at + 1) ≡ node.second → slice_index f (at + 2) ≡ place.node → slice_index f (at + 3) ≡ node.last → len ≡ slice_index (slice_set f place.link at) size
      → IsNodeLinked size place at node w w'
  linked first second third fourth many = record {
    as_long = ap length is ∙ length-set (slice_set f place.link at) size (len + 1) ∙ length-set f place.link at ∙ filled.as_long;
    key_is = ap (λ k. slice_index w' k) (sym plain) ∙ kept 0 (omega arith) ∙ ap (λ k. slice_index f k) plain ∙ first;
    second_is = kept 1 (omega arith) ∙ second;
    next = kept 2 (omega arith) ∙ third;
    last_is = kept 3 (omega arith) ∙ fourth;
    link =
        ap (λ x. slice_index x place.link) is ∙ get_or-set_other (slice_set f place.link at) size place.link (len + 1) 0 apart
        ∙ get_or-set_at f place.link place.link at 0 refl (omega (arith, inside, filled.as_long));
    len =
        let same : slice_index (slice_set f place.link at) size ≡ slice_index w size = get_or-set_other f place.link size at 0 (λ e. apart (sym e)) ∙ filled.before size root in
        let now : slice_index w' size ≡ len + 1 = ap (λ x. slice_index x size) is ∙ get_or-set_at (slice_set f place.link at) size size (len + 1) 0 refl (omega (arith, root, within, filled.as_long, length-set f place.link at)) in
        omega (arith, same, now, many);
    others = λ k away ne ns. stays k ne ns ∙ ⊎_elim (λ lt. filled.before k lt) (λ ge. filled.behind k ge) away;
  }
