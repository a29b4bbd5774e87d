-- The least key from a number on, in entries whose keys rise.
use Rattle.std.proofs.Common.{◌≡◌, ℕ, zero, suc, ◌+◌, ◌-◌, ◌^◌, ◌<◌, ◌≤◌, true, false, cond, List, [], ◌∷◌, ◌++◌, length, take, get_or, refl, sym, ◌∙◌, ap, arith}
use Rattle.std.specs.Prelude.{min, nat_le, Some}
use Rattle.std.specs.List.{AllByRecursion}
use Rattle.std.proofs.lemmas.Bool.Decides.{nat_tests}
use Rattle.std.proofs.lemmas.List.{take_more}
use Rattle.rom_order_region.specs.Keys.{EntriesRise, KeysAbove}
use Rattle.rom_order_region.specs.Query.{first_from}
use Rattle.rom_order_region.specs.State.{index_pair_answer}
use Rattle.rom_order_region.specs.declared.call.OrderAnswer.TheVariants as answer
use Rattle.rom_order_carry.specs.Entries.{EntryFits}
use Rattle.rom_order_carry.proofs.Fits.{entry_fits}

not_from : (a b : ℕ) → b < a → nat_le a b ≡ false
not_from a b lt = grind (arith, nat_tests)

from_on : (a b : ℕ) → a ≤ b → nat_le a b ≡ true
from_on a b le = grind (arith, nat_tests)

key_above : (q : ℕ) (es : List (ℕ × ℕ)) (i : ℕ) (d : ℕ × ℕ) → KeysAbove q es → i < length es → q < (get_or es i d).0
key_above q [] i d above lt = absurd (omega (arith, lt))
key_above q (e ∷ es) zero d above lt = above.0
key_above q (e ∷ es) (suc i) d above lt = key_above q es i d above.1 (omega (arith, lt))

-- the key behind another is greater
pub next_above : (es : List (ℕ × ℕ)) (i : ℕ) (d : ℕ × ℕ) → EntriesRise es → suc i < length es → (get_or es i d).0 < (get_or es (suc i) d).0
next_above [] i d rises lt = absurd (omega (arith, lt))
next_above (e ∷ es) zero d rises lt = key_above e.0 es 0 d rises.0 (omega (arith, lt))
next_above (e ∷ es) (suc i) d rises lt = next_above es i d rises.1 (omega (arith, lt))

-- the first entry is the one from 0 on
pub first_entry : (es : List (ℕ × ℕ)) (d : ℕ × ℕ) → 0 < length es → first_from 0 es ≡ Some (get_or es 0 d)
first_entry [] d lt = absurd (omega (arith, lt))
first_entry (e ∷ es) d lt = ap (λ b. cond b (Some e) (first_from 0 es)) (from_on 0 e.0 (omega arith))

from_first : (key : ℕ) (es : List (ℕ × ℕ)) (d : ℕ × ℕ) → 0 < length es → key ≤ (get_or es 0 d).0 → first_from key es ≡ Some (get_or es 0 d)
from_first key [] d lt le = absurd (omega (arith, lt))
from_first key (e ∷ es) d lt le = ap (λ b. cond b (Some e) (first_from key es)) (from_on key e.0 le)

-- the entry behind another is the one from the number behind its key on
pub next_entry : (es : List (ℕ × ℕ)) (i : ℕ) (d : ℕ × ℕ) → EntriesRise es → suc i < length es → first_from ((get_or es i d).0 + 1) es ≡ Some (get_or es (suc i) d)
next_entry [] i d rises lt = absurd (omega (arith, lt))
next_entry (e ∷ es) zero d rises lt =
    let some : 0 < length es = omega (arith, lt) in
    ap (λ b. cond b (Some e) (first_from (e.0 + 1) es)) (not_from (e.0 + 1) e.0 (omega arith)) ∙ from_first (e.0 + 1) es d some (omega (arith, key_above e.0 es 0 d rises.0 some))
next_entry (e ∷ es) (suc i) d rises lt =
    let above = key_above e.0 es i d rises.0 (omega (arith, lt)) in
    ap (λ b. cond b (Some e) (first_from ((get_or es i d).0 + 1) es)) (not_from ((get_or es i d).0 + 1) e.0 (omega (arith, above))) ∙ next_entry es i d rises.1 (omega (arith, lt))

-- The first so many entries are taken, and the next one is the least key from that number on.
pub record IsTaken (es : List (ℕ × ℕ)) (i low : ℕ) (taken : List (ℕ × ℕ)) : Type 0 where
  pub taken_are : taken ≡ take i es
  pub next : (d : ℕ × ℕ) → i < length es → first_from low es ≡ Some (get_or es i d)

pub none_taken : (es : List (ℕ × ℕ)) → IsTaken es 0 0 []
none_taken es = record { taken_are = refl; next = λ d lt. first_entry es d lt }

-- What is answered is the next entry.
pub told_next : (es : List (ℕ × ℕ)) (i low : ℕ) (taken : List (ℕ × ℕ)) (d : ℕ × ℕ) → i < length es → IsTaken es i low taken → index_pair_answer (first_from low es) ≡ answer.Pair (get_or es i d).0 (get_or es i d).1
told_next es i low taken d lt is = ap (λ o. index_pair_answer o) (is.next d lt)

-- It is taken too.
pub one_taken : (es : List (ℕ × ℕ)) (i low key value : ℕ) (taken : List (ℕ × ℕ)) (d : ℕ × ℕ) → EntriesRise es → AllByRecursion EntryFits es → i < length es → IsTaken es i low taken → key ≡ (get_or es i d).0 → value ≡ (get_or es i d).1 →
    IsTaken es (i + 1) (min (key + 1) (2 ^ 64 - 1)) (taken ++ (key, value) ∷ [])
one_taken es i low key value taken d rises fit lt is key_is value_is =
    let e : i + 1 ≡ suc i = omega arith in
    record {
      taken_are = (λ j. is.taken_are j ++ (key_is j, value_is j) ∷ []) ∙ sym (take_more es i d lt);
      next = λ c more.
          let behind : suc i < length es = omega (arith, more) in
          let above : (get_or es i c).0 < (get_or es (suc i) c).0 = next_above es i c rises behind in
          let most : (get_or es (suc i) c).0 < 2 ^ 64 = (entry_fits es (suc i) c fit behind).0 in
          let key_c : key ≡ (get_or es i c).0 = key_is ∙ ap (λ (x : ℕ × ℕ). x.0) (get_or_any es i d c lt) in
          let low_is : min (key + 1) (2 ^ 64 - 1) ≡ (get_or es i c).0 + 1 = omega (arith, key_c, above, most) in
          ap (λ m. first_from m es) low_is ∙ next_entry es i c rises behind ∙ ap (λ m. Some (get_or es m c)) (sym e);
    }
  where
    get_or_any : (xs : List (ℕ × ℕ)) (j : ℕ) (a b : ℕ × ℕ) → j < length xs → get_or xs j a ≡ get_or xs j b
    get_or_any [] j a b small = absurd (omega (arith, small))
    get_or_any (x ∷ xs) zero a b small = refl
    get_or_any (x ∷ xs) (suc j) a b small = get_or_any xs j a b (omega (arith, small))
