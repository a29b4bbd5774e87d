-- The structures one after another, and then the tree.
use Rattle.std.proofs.Common.{◌≡◌, inl, inr, ℕ, ◌-◌, ◌*◌, ◌^◌, ◌<◌, ◌≤◌, Bool, true, false, List, [], length, get_or, set, refl, sym, ◌∙◌, ap, arith, get_or-set_other, get_or-set_same, length-set}
use Rattle.std.specs.Prelude.{Result, Ok, Err, ◌==◌, nat_lt, nat_le, ◌&&◌, ◌||◌}
use Rattle.std.proofs.lemmas.Bool.{cases_eq}
use Rattle.std.proofs.lemmas.Bool.Decides.{nat_tests}
use Rattle.rom_model.specs.Blocks.{region_len}
use Rattle.rom_model.specs.Region.{taken_by}
use Rattle.rom_model.specs.declared.unfit.Unfit.{Unfit}
use Rattle.rom_model.specs.declared.unfit.Unfit.TheVariants.{Malformed, Old, OutOfMemory}
use Rattle.rom_model.proofs.Nodes.{pow_positive}
use Rattle.rom_block.specs.Taken.{IsTreeAnswer}
use Rattle.rom_model.specs.declared.unfit.Break.{Break}
use Rattle.rom_model.specs.Tests.{checked}
use Rattle.rom_heap.specs.declared.inspect.version.Version.{Version}
use Rattle.rom_heap.specs.Tests.{root_tests}
use Rattle.rom_heap.specs.Walks.{AreMarks}
use Rattle.rom_heap.specs.Parts.{Root, Queue, Set, Map, Structures, AnswersPart}
use Rattle.rom_heap.specs.Answers.{IsInspected}
use Rattle.rom_model.proofs.InTurn.{passing}
use Rattle.rom_heap.proofs.Passing.{all_passed}
use Rattle.rom_heap.proofs.Wellformed.{well_formed, none_apart}

module _ (v : Version) (n : ℕ) (w : List ℕ) where
  pub root_passed : checked (root_tests v n w) ≡ Ok tt → Root v n w (Ok [])
  root_passed is = sym (passing (root_tests v n w) [] is)

  pub in_queue : (e : Break) → Root v n w (Ok []) → Queue n w [] (Err e) → Structures v n w (Err e)
  in_queue e root broke = inr ([], root, inl broke)

  pub in_set : (q : List ℕ) (e : Break) → Root v n w (Ok []) → Queue n w [] (Ok q) → Set n w q (Err e) → Structures v n w (Err e)
  in_set q e root queue broke = inr ([], root, inr (q, queue, inl broke))

  pub after_set : (q s : List ℕ) (r : Result (Unit {0}) Break) (marks : List Bool) → Root v n w (Ok []) → Queue n w [] (Ok q) → Set n w q (Ok s) → AnswersPart n (Map v n w s) r marks → AnswersPart n (Structures v n w) r marks
  after_set q s (Ok done) marks root queue set map = (map.0, ([], root, (q, queue, (s, set, map.1))), map.2)
  after_set q s (Err e) marks root queue set broke = inr ([], root, inr (q, queue, inr (s, set, broke)))

  -- after the tree
  pub after_tree : (found : List ℕ) (r : Result (Unit {0}) Unfit) → length w ≡ region_len n → Structures v n w (Ok found) → IsTreeAnswer n (taken_by n found) w r → IsInspected v n w r
  after_tree found (Ok done) long structures tree =
      let x = all_passed v n w found (found, structures, (refl, tree)) in
      well_formed v n w x.q x.s x.m long x.passed
  after_tree found (Err (Malformed offset rule)) long structures tree = inr (found, structures, tree)
  after_tree found (Err Old) long structures tree = tree
  after_tree found (Err OutOfMemory) long structures tree = tt

-- the table's node is marked
pub table_high : (n : ℕ) → 4 ≤ n → 16 < 2 * 2 ^ n
table_high n le = omega (arith, Rattle.rom_model.proofs.Members.quarter_pow n le, pow_positive (n - 4))

pub table_marked : (n : ℕ) (marks : List Bool) → 4 ≤ n → length marks ≡ 2 * 2 ^ n → ((i : ℕ) → get_or marks i false ≡ false) → AreMarks n [] (set marks 16 true)
table_marked n marks le long bare = record {
  as_long = length-set marks 16 true ∙ long;
  marked = λ i lt. one i (omega (arith, lt, length-set marks 16 true));
  apart = none_apart n;
}
  where
    none : (i : ℕ) → (nat_le (2 ^ n) i && nat_lt 0 0) ≡ false
    none i = grind (arith, nat_tests)

    one : (i : ℕ) → i < length marks → get_or (set marks 16 true) i false ≡ taken_by n [] i
    one i lt = elim (cases_eq i 16) [
      | inl same ↦
          let low : 16 < length marks = omega (arith, lt, same) in
          let here : get_or (set marks 16 true) i false ≡ true = rw same (rw get_or-set_same refl) in
          let yes : (i == 16) ≡ true = grind (arith, nat_tests) in
          here ∙ sym (ap (λ t. t || (nat_le (2 ^ n) i && nat_lt 0 0)) yes)
      | inr other ↦
          let stays : get_or (set marks 16 true) i false ≡ get_or marks i false = rw get_or-set_other refl in
          let not_here : (i == 16) ≡ false = grind (arith, nat_tests) in
          stays ∙ bare i ∙ sym (none i) ∙ sym (ap (λ t. t || (nat_le (2 ^ n) i && nat_lt 0 0)) not_here)
    ]
