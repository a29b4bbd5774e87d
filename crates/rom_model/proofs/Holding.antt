-- What tests say where they hold, and what makes them hold.
use Rattle.std.proofs.Common.{◌≡◌, ℕ, zero, suc, ◌+◌, ◌<◌, Bool, true, false, List, [], ◌∷◌, ◌++◌, refl, sym, ◌∙◌, ap, arith}
use Rattle.std.specs.Prelude.{Result, Ok, Err, slice_index, if◌then◌else◌}
use Rattle.std.proofs.lemmas.Bool.{eqb-true, eq-eqb}
use Rattle.rom_model.specs.declared.unfit.Rule.{Rule}
use Rattle.rom_model.specs.declared.unfit.Break.{Break}
use Rattle.rom_model.specs.Tests.{Test, tested, checked, is_word, are_zero}
use Rattle.rom_model.proofs.Outcomes.{not_both}
use Rattle.rom_model.proofs.InTurn.{first_holds}

-- the first holds, and the others
pub record HoldsThen {A : Type 0} (t : Test) (ts : List Test) (a found : A) : Type 0 where
  pub here : t.holds ≡ true
  pub rest : tested ts a ≡ Ok found

pub all_hold : {A : Type 0} (t : Test) (ts : List Test) (a found : A) → tested (t ∷ ts) a ≡ Ok found → HoldsThen t ts a found
all_hold {A} t ts a found is = go t.holds refl is
  where
    go : (b : Bool) → t.holds ≡ b → ◌≡◌ {A = Result A Break} (if b then tested ts a else Err t.broken) (Ok found) → HoldsThen t ts a found
    go true here rest = record { here = here; rest = rest }
    go false here rest = absurd (not_both found t.broken (sym rest))

pub holds_more : {A : Type 0} (t : Test) (ts : List Test) (a : A) → t.holds ≡ true → tested (t ∷ ts) a ≡ tested ts a
holds_more {A} t ts a here = ap (λ (b : Bool). let r : Result A Break = if b then tested ts a else Err t.broken in r) here

-- one word after another
pub word_holds : {A : Type 0} (w : List ℕ) (offset : ℕ) (rule : Rule) (x : ℕ) (ts : List Test) (a : A) → slice_index w offset ≡ x → tested (is_word w offset rule x ∷ ts) a ≡ tested ts a
word_holds w offset rule x ts a is = holds_more (is_word w offset rule x) ts a (eq-eqb (slice_index w offset) x is)

pub zeros_hold : (w : List ℕ) (offset many : ℕ) (rule : Rule) → ((k : ℕ) → k < many → slice_index w (offset + k) ≡ 0) → checked (are_zero w offset many rule) ≡ Ok tt
zeros_hold w offset zero rule are = refl
zeros_hold w offset (suc many) rule are =
    let first : slice_index w offset ≡ 0 = (let e : offset ≡ offset + 0 = omega arith in ap (λ k. slice_index w k) e) ∙ are 0 (omega arith) in
    word_holds w offset rule 0 (are_zero w (offset + 1) many rule) tt first
    ∙ zeros_hold w (offset + 1) many rule (λ k lt. (let e : offset + 1 + k ≡ offset + suc k = omega arith in ap (λ i. slice_index w i) e) ∙ are (suc k) (omega (arith, lt)))

pub held_zeros : (w : List ℕ) (offset many : ℕ) (rule : Rule) → checked (are_zero w offset many rule) ≡ Ok tt → (k : ℕ) → k < many → slice_index w (offset + k) ≡ 0
held_zeros w offset zero rule hold k lt = absurd (omega arith)
held_zeros w offset (suc many) rule hold zero lt =
    let both = all_hold (is_word w offset rule 0) (are_zero w (offset + 1) many rule) tt tt hold in
    (let e : offset + 0 ≡ offset = omega arith in ap (λ i. slice_index w i) e) ∙ eqb-true (slice_index w offset) 0 both.here
held_zeros w offset (suc many) rule hold (suc k) lt =
    let both = all_hold (is_word w offset rule 0) (are_zero w (offset + 1) many rule) tt tt hold in
    (let e : offset + suc k ≡ offset + 1 + k = omega arith in ap (λ i. slice_index w i) e) ∙ held_zeros w (offset + 1) many rule both.rest k (omega (arith, lt))

-- both lists of tests
pub record HoldBoth (xs ys : List Test) : Type 0 where
  pub first : checked xs ≡ Ok tt
  pub second : checked ys ≡ Ok tt

pub hold_both : (xs ys : List Test) → checked (xs ++ ys) ≡ Ok tt → HoldBoth xs ys
hold_both [] ys is = record { first = refl; second = is }
hold_both (x ∷ xs) ys is =
    let both = all_hold x (xs ++ ys) tt tt is in
    let rest = hold_both xs ys both.rest in
    record { first = holds_more x xs tt both.here ∙ rest.first; second = rest.second }

pub both_hold : (xs ys : List Test) → checked xs ≡ Ok tt → checked ys ≡ Ok tt → checked (xs ++ ys) ≡ Ok tt
both_hold xs ys first second = first_holds tt xs ys first ∙ second
