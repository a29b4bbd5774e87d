-- Queries on the entries of a tree, by those of its subtrees.
use Rattle.std.proofs.Common.{◌≡◌, ℕ, ◌<◌, ◌≤◌, Bool, true, false, cond, List, [], ◌∷◌, ◌++◌, length, refl, ◌∙◌, ap, arith}
use Rattle.std.specs.Prelude.{nat_le, ◌&&◌, Option, Some, None}
use Rattle.std.proofs.lemmas.Bool.Decides.{nat_tests}
use Rattle.std.proofs.lemmas.List.Elements.{filter-append}
use Rattle.rom_order_region.specs.Keys.{KeysBelow, KeysAbove}
use Rattle.rom_order_region.specs.Query.{first_from, inside}

-- entries that are all too small
pub first_past : (key j : ℕ) (xs ys : List (ℕ × ℕ)) → KeysBelow j xs → j ≤ key → first_from key (xs ++ ys) ≡ first_from key ys
first_past key j [] ys below le = refl
first_past key j (x ∷ xs) ys below le =
    let no : nat_le key x.0 ≡ false = small key x.0 (omega (arith, below.0)) in
    ap (λ b. cond b (Some x) (first_from key (xs ++ ys))) no ∙ first_past key j xs ys below.1 le
  where
    small : (a b : ℕ) → b < a → nat_le a b ≡ false
    small a b lt = grind (arith, nat_tests)

small_no : (a b : ℕ) → b < a → nat_le a b ≡ false
small_no a b lt = grind (arith, nat_tests)

large_yes : (a b : ℕ) → a ≤ b → nat_le a b ≡ true
large_yes a b le = grind (arith, nat_tests)

pub first_right : (key j u : ℕ) (xs ys : List (ℕ × ℕ)) → KeysBelow j xs → j < key → first_from key (xs ++ (j, u) ∷ ys) ≡ first_from key ys
first_right key j u xs ys below lt = first_past key j xs ((j, u) ∷ ys) below (omega arith) ∙ ap (λ b. cond b (Some (j, u)) (first_from key ys)) (small_no key j lt)

pub first_left : (key j u : ℕ) (e : ℕ × ℕ) (xs ys : List (ℕ × ℕ)) → first_from key xs ≡ Some e → first_from key (xs ++ (j, u) ∷ ys) ≡ Some e
first_left key j u e [] ys is = absurd (let no : ◌≡◌ {A = Option (ℕ × ℕ)} None (Some e) = is in cc)
first_left key j u e (x ∷ xs) ys is = go (nat_le key x.0) (first_left key j u e xs ys) is
  where
    go : (b : Bool) → (first_from key xs ≡ Some e → first_from key (xs ++ (j, u) ∷ ys) ≡ Some e) → cond b (Some x) (first_from key xs) ≡ Some e → cond b (Some x) (first_from key (xs ++ (j, u) ∷ ys)) ≡ Some e
    go true more here = here
    go false more later = more later

pub first_here : (key j u : ℕ) (xs ys : List (ℕ × ℕ)) → first_from key xs ≡ None → key ≤ j → first_from key (xs ++ (j, u) ∷ ys) ≡ Some (j, u)
first_here key j u [] ys none le = ap (λ b. cond b (Some (j, u)) (first_from key ys)) (large_yes key j le)
first_here key j u (x ∷ xs) ys none le = go (nat_le key x.0) (λ rest. first_here key j u xs ys rest le) none
  where
    go : (b : Bool) → (first_from key xs ≡ None → first_from key (xs ++ (j, u) ∷ ys) ≡ Some (j, u)) → cond b (Some x) (first_from key xs) ≡ None → cond b (Some x) (first_from key (xs ++ (j, u) ∷ ys)) ≡ Some (j, u)
    go true more here = absurd (let no : ◌≡◌ {A = Option (ℕ × ℕ)} (Some x) None = here in cc)
    go false more later = more later

-- entries outside
test_low : (low high x : ℕ) → x < low → (nat_le low x && nat_le x high) ≡ false
test_low low high x lt = ap (λ b. b && nat_le x high) (small_no low x lt)

test_high : (low high x : ℕ) → high < x → (nat_le low x && nat_le x high) ≡ false
test_high low high x lt = ap (λ b. nat_le low x && b) (small_no x high lt) ∙ both_false (nat_le low x)
  where
    both_false : (b : Bool) → (b && false) ≡ false
    both_false true = refl
    both_false false = refl

test_in : (low high x : ℕ) → low ≤ x → x ≤ high → (nat_le low x && nat_le x high) ≡ true
test_in low high x le ge = ap (λ b. b && nat_le x high) (large_yes low x le) ∙ large_yes x high ge

none_below : (low high j : ℕ) (xs : List (ℕ × ℕ)) → KeysBelow j xs → j ≤ low → inside low high xs ≡ []
none_below low high j [] below le = refl
none_below low high j (x ∷ xs) below le = ap (λ b. cond b (x ∷ inside low high xs) (inside low high xs)) (test_low low high x.0 (omega (arith, below.0))) ∙ none_below low high j xs below.1 le

none_above : (low high j : ℕ) (xs : List (ℕ × ℕ)) → KeysAbove j xs → high ≤ j → inside low high xs ≡ []
none_above low high j [] above le = refl
none_above low high j (x ∷ xs) above le = ap (λ b. cond b (x ∷ inside low high xs) (inside low high xs)) (test_high low high x.0 (omega (arith, above.0))) ∙ none_above low high j xs above.1 le

module _ (low high j u : ℕ) (xs ys : List (ℕ × ℕ)) where
  middle : (b : Bool) → (nat_le low j && nat_le j high) ≡ b → inside low high (xs ++ (j, u) ∷ ys) ≡ inside low high xs ++ cond b ((j, u) ∷ inside low high ys) (inside low high ys)
  middle b is = filter-append (λ e. nat_le low e.0 && nat_le e.0 high) xs ((j, u) ∷ ys) ∙ ap (λ t. inside low high xs ++ cond t ((j, u) ∷ inside low high ys) (inside low high ys)) is

  pub inside_right : KeysBelow j xs → j < low → inside low high (xs ++ (j, u) ∷ ys) ≡ inside low high ys
  inside_right below lt = middle false (test_low low high j lt) ∙ ap (λ es. es ++ inside low high ys) (none_below low high j xs below (omega arith))

  pub inside_left : KeysAbove j ys → high < j → inside low high (xs ++ (j, u) ∷ ys) ≡ inside low high xs
  inside_left above lt = middle false (test_high low high j lt) ∙ ap (λ es. inside low high xs ++ es) (none_above low high j ys above (omega arith)) ∙ append_nil (inside low high xs)
    where
      append_nil : (es : List (ℕ × ℕ)) → es ++ [] ≡ es
      append_nil [] = refl
      append_nil (e ∷ es) = ap (λ zs. e ∷ zs) (append_nil es)

  pub inside_both : low ≤ j → j ≤ high → inside low high (xs ++ (j, u) ∷ ys) ≡ inside low high xs ++ (j, u) ∷ inside low high ys
  inside_both le ge = middle true (test_in low high j le ge)

-- no more than all
pub inside_few : (low high : ℕ) (xs : List (ℕ × ℕ)) → length (inside low high xs) ≤ length xs
inside_few low high [] = omega arith
inside_few low high (x ∷ xs) = go (nat_le low x.0 && nat_le x.0 high) (inside_few low high xs)
  where
    go : (b : Bool) → length (inside low high xs) ≤ length xs → length (cond b (x ∷ inside low high xs) (inside low high xs)) ≤ length (x ∷ xs)
    go true few = omega arith
    go false few = omega arith
