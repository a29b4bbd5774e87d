-- Marks of the blocks that were reached, and how many these are.
use Rattle.std.proofs.Common.{◌≡◌, inl, inr, ℕ, ◌+◌, ◌-◌, ◌*◌, ◌^◌, ◌<◌, ◌≤◌, Bool, true, false, List, [], ◌∷◌, ◌++◌, length, get_or, set, refl, sym, ◌∙◌, ap, arith, length-set, length-append, get_or-set_other, get_or-set_same}
use Rattle.std.specs.Prelude.{◌==◌, ◌||◌, nat_lt}
use Rattle.std.proofs.lemmas.Bool.{cases_eq}
use Rattle.std.proofs.lemmas.Bool.Decides.{nat_tests}
use Rattle.rom_model.specs.Blocks.{taking}
use Rattle.rom_model.specs.Chains.{times}
use Rattle.rom_model.specs.Region.{taken_by}
use Rattle.rom_model.proofs.Times.{times_here, times_away, times-append}
use Rattle.rom_model.proofs.Nodes.{pow_positive}
use Rattle.rom_model.proofs.Counting.{at_most}
use Rattle.rom_model.proofs.Members.{taken_leaf, taking_member, quarter_pow}
use Rattle.rom_heap.specs.declared.inspect.walk.Walk.{Walk}
use Rattle.rom_heap.specs.declared.inspect.walk.Walk.TheVariants as along
use Rattle.rom_heap.specs.Walks.{next_link, Reaches, AreDistinctBlocks, AreMarks, IsWalk}

-- a unit outside of the table has a node of its own
pub leaf_high : (n b : ℕ) → 4 ≤ n → 2 ^ (n - 4) ≤ b → 16 < 2 ^ n + b
leaf_high n b le lo = omega (arith, quarter_pow n le, pow_positive (n - 4))

module _ (n b : ℕ) (seen : List ℕ) (marks : List Bool) (le : 4 ≤ n) (lo : 2 ^ (n - 4) ≤ b) (hi : b < 2 ^ n) (are : AreMarks n seen marks) where
  mark_is : get_or marks (2 ^ n + b) false ≡ nat_lt 0 (times b seen)
  mark_is = are.marked (2 ^ n + b) (omega (arith, are.as_long)) ∙ taken_leaf n b seen (leaf_high n b le lo)

  pub unmarked : get_or marks (2 ^ n + b) false ≡ false → times b seen ≡ 0
  unmarked is = none (times b seen) (sym mark_is ∙ is)
    where
      none : (t : ℕ) → nat_lt 0 t ≡ false → t ≡ 0
      none t is = grind (arith, nat_tests)

  pub marked : get_or marks (2 ^ n + b) false ≡ true → 0 < times b seen
  marked is = some (times b seen) (sym mark_is ∙ is)
    where
      some : (t : ℕ) → nat_lt 0 t ≡ true → 0 < t
      some t is = grind (arith, nat_tests)

  -- one mark more
  pub mark_more : times b seen ≡ 0 → AreMarks n (b ∷ seen) (set marks (2 ^ n + b) true)
  mark_more none = record {
    as_long = length-set marks (2 ^ n + b) true ∙ are.as_long;
    marked = λ i lt. one i (omega (arith, lt, length-set marks (2 ^ n + b) true)) ∙ taking_member n b seen (b ∷ seen) (leaf_high n b le lo) (λ c. omega (arith, times-append c (b ∷ []) seen)) i;
    apart = record {
      different = λ c. elim (cases_eq b c) [
        | inl same ↦ omega (arith, ap (λ (a : ℕ). times a seen) same, none, times_here b seen, ap (λ (a : ℕ). times a (b ∷ seen)) same)
        | inr other ↦ omega (arith, times_away c b seen other, are.apart.different c)
      ];
      within = λ c some. elim (cases_eq b c) [
        | inl same ↦ (omega (arith, lo, same), omega (arith, hi, same))
        | inr other ↦ are.apart.within c (omega (arith, times_away c b seen other, some))
      ];
    };
  }
    where
      or_true : (t : Bool) → true ≡ (true || t)
      or_true t = refl

      one : (i : ℕ) → i < length marks → get_or (set marks (2 ^ n + b) true) i false ≡ taking (2 ^ n + b) (taken_by n seen) i
      one i fits = elim (cases_eq i (2 ^ n + b)) [
        | inl same ↦
            let low : 2 ^ n + b < length marks = omega (arith, fits, same) in
            let here : get_or (set marks (2 ^ n + b) true) i false ≡ true = rw same (rw get_or-set_same refl) in
            let yes : (i == (2 ^ n + b)) ≡ true = grind (arith, nat_tests) in
            here ∙ sym (ap (λ t. t || taken_by n seen i) yes)
        | inr other ↦
            let stays : get_or (set marks (2 ^ n + b) true) i false ≡ get_or marks i false = rw get_or-set_other refl in
            let not_here : (i == (2 ^ n + b)) ≡ false = grind (arith, nat_tests) in
            stays ∙ are.marked i fits ∙ sym (ap (λ t. t || taken_by n seen i) not_here)
      ]

-- where the next link stands
pub link_inside : (n : ℕ) (w : List ℕ) (walk : Walk) (seen bs : List ℕ) → 4 ≤ n → IsWalk n walk → Reaches n w walk seen bs → next_link n walk bs < 16 + 6 * 2 ^ n
link_inside n w along.Queue seen [] le is f = omega (arith, pow_positive n)
link_inside n w along.Set seen [] le is f = omega (arith, pow_positive n)
link_inside n w (along.Bucket i) seen [] le is f = omega (arith, is, quarter_pow n le, fourth n le)
  where
    fourth : (n : ℕ) → 4 ≤ n → 2 ^ n ≡ 4 * 2 ^ (n - 2)
    fourth n le = let e : 2 + (n - 2) ≡ n = omega arith in ap (λ a. 2 ^ a) (sym e) ∙ Rattle.std.proofs.lemmas.Nat.pow-add 2 2 (n - 2)
link_inside n w (along.OldBucket i) seen [] le is f = omega (arith, is, quarter_pow n le, fourth n le)
  where
    fourth : (n : ℕ) → 4 ≤ n → 2 ^ n ≡ 4 * 2 ^ (n - 2)
    fourth n le = let e : 2 + (n - 2) ≡ n = omega arith in ap (λ a. 2 ^ a) (sym e) ∙ Rattle.std.proofs.lemmas.Nat.pow-add 2 2 (n - 2)
link_inside n w along.Queue seen (b ∷ bs) le is f = omega (arith, f.1.most)
link_inside n w along.Set seen (b ∷ bs) le is f = omega (arith, f.1.most)
link_inside n w (along.Bucket i) seen (b ∷ bs) le is f = omega (arith, f.1.most)
link_inside n w (along.OldBucket i) seen (b ∷ bs) le is f = omega (arith, f.1.most)

-- blocks that are apart are no more than the region has
pub few : (n : ℕ) (bs seen : List ℕ) → AreDistinctBlocks n (bs ++ seen) → length bs ≤ 2 ^ n
few n bs seen apart =
    let all : length (bs ++ seen) ≤ 2 ^ n = at_most 0 (2 ^ n) (bs ++ seen) apart.different (λ b some. let at = apart.within b some in (omega arith, omega (arith, at.1))) in
    omega (arith, all, length-append bs seen)
