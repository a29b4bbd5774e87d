-- How `clap` reads plain words and options.
use Rattle.std.proofs.Common.{◌≡◌, ◌≢◌, cond, ℕ, suc, ◌+◌, ◌==◌, List, [], ◌∷◌, length, take, Bool, true, false, Option, Some, None, refl, sym, ap, ◌∙◌, arith}
use Rattle.std.specs.Prelude.{nat_lt}
use Rattle.std.specs.List.{list_any, position_or_len, before_first, after_first}
use Rattle.std.specs.Str.{bytes_eq}
use Rattle.std.proofs.lemmas.Bool.{lt-ltb}
use Rattle.std.proofs.lemmas.Bool.Decides.{nat_tests}
use Rattle.clap.specs.Lexer.{long_of, short_of}
use Rattle.rom_words.specs.Words.{begins_with_dash, behind_dash, behind_dashes, is_equals, said, said_by, sort_of}
use Rattle.rom_words.specs.Words as spec

abbrev dashes : List ℕ
dashes = 45 ∷ 45 ∷ []

-- ---- words

abbrev pub has_equals : List ℕ → Bool
has_equals xs = nat_lt (position_or_len is_equals xs) (length xs)

one_on : (a b : ℕ) (t : Bool) → nat_lt a b ≡ t → nat_lt (1 + a) (suc b) ≡ t
one_on a b true e = grind (arith, nat_tests)
one_on a b false e = grind (arith, nat_tests)

one_off : (a b : ℕ) → nat_lt (1 + a) (suc b) ≡ false → nat_lt a b ≡ false
one_off a b e = grind (arith, nat_tests)

never : (b : ℕ) → nat_lt 0 (suc b) ≡ false → ⊥
never b e = absurd (grind (arith, nat_tests))

any_equals : (xs : List ℕ) → list_any (λ x. x == 61) xs ≡ has_equals xs
any_equals [] = refl
any_equals (x ∷ xs) = go (x == 61) refl (any_equals xs)
  where
    go : (t : Bool) → (x == 61) ≡ t → list_any (λ x. x == 61) xs ≡ has_equals xs → list_any (λ x. x == 61) (x ∷ xs) ≡ has_equals (x ∷ xs)
    go true t more = rw t (sym (lt-ltb 0 (length (x ∷ xs)) (omega arith)))
    go false t more = rw t (more ∙ sym (one_on (position_or_len is_equals xs) (length xs) (has_equals xs) refl))

whole : (xs : List ℕ) → has_equals xs ≡ false → before_first is_equals xs ≡ xs
whole [] e = refl
whole (x ∷ xs) e = go (x == 61) refl (whole xs)
  where
    next : (n : ℕ) → take (1 + n) (x ∷ xs) ≡ x ∷ take n xs
    next n = let one : 1 + n ≡ suc n = omega arith in ap (λ k. take k (x ∷ xs)) one

    go : (t : Bool) → (x == 61) ≡ t → (has_equals xs ≡ false → before_first is_equals xs ≡ xs) → before_first is_equals (x ∷ xs) ≡ x ∷ xs
    go true t more = absurd (never (length xs) (rw t at e))
    go false t more = rw t (next (position_or_len is_equals xs) ∙ ap (λ ys. x ∷ ys) (more (one_off (position_or_len is_equals xs) (length xs) (rw t at e))))

-- what `clap` reads of an option's word
abbrev as_long : spec.Sort → Option (List ℕ × Option (List ℕ))
as_long spec.Ends = None
as_long (spec.Gives name value) = Some (name, Some value)
as_long (spec.Opens name) = Some (name, None)
as_long spec.Stands = None
as_long spec.Refused = None

abbrev is_end : spec.Sort → Bool
is_end spec.Ends = true
is_end (spec.Gives name value) = false
is_end (spec.Opens name) = false
is_end spec.Stands = false
is_end spec.Refused = false

long_behind : (rest : List ℕ) → long_of (45 ∷ 45 ∷ rest) ≡ as_long (behind_dashes rest)
long_behind [] = refl
long_behind (x ∷ xs) = go (has_equals (x ∷ xs)) refl
  where
    go : (t : Bool) → has_equals (x ∷ xs) ≡ t → long_of (45 ∷ 45 ∷ x ∷ xs) ≡ as_long (behind_dashes (x ∷ xs))
    go true t = rw (any_equals (x ∷ xs), t)
    go false t = rw (any_equals (x ∷ xs), t) (ap (λ name. Some (name, None)) (whole (x ∷ xs) t))

pub long_is : (w : List ℕ) → long_of w ≡ as_long (sort_of w)
long_is [] = refl
long_is (b ∷ []) = go (b == 45) refl
  where
    go : (t : Bool) → (b == 45) ≡ t → long_of (b ∷ []) ≡ as_long (sort_of (b ∷ []))
    go true t = rw t
    go false t = rw t
long_is (b ∷ c ∷ cs) = go (b == 45) (c == 45) refl refl
  where
    go : (t u : Bool) → (b == 45) ≡ t → (c == 45) ≡ u → long_of (b ∷ c ∷ cs) ≡ as_long (sort_of (b ∷ c ∷ cs))
    go false u t e = rw t
    go true false t e = rw (t, e)
    go true true t e = rw (t, e) (long_behind cs)

end_behind : (rest : List ℕ) → bytes_eq rest [] ≡ is_end (behind_dashes rest)
end_behind [] = refl
end_behind (x ∷ xs) = go (has_equals (x ∷ xs))
  where
    go : (t : Bool) → false ≡ is_end (cond t (spec.Gives (before_first is_equals (x ∷ xs)) (after_first is_equals (x ∷ xs))) (spec.Opens (x ∷ xs)))
    go true = refl
    go false = refl

pub end_is : (w : List ℕ) → bytes_eq w (45 ∷ 45 ∷ []) ≡ is_end (sort_of w)
end_is [] = refl
end_is (b ∷ []) = go (b == 45) refl
  where
    go : (t : Bool) → (b == 45) ≡ t → bytes_eq (b ∷ []) (45 ∷ 45 ∷ []) ≡ is_end (sort_of (b ∷ []))
    go true t = rw t
    go false t = rw t
end_is (b ∷ c ∷ cs) = go (b == 45) (c == 45) refl refl
  where
    go : (t u : Bool) → (b == 45) ≡ t → (c == 45) ≡ u → bytes_eq (b ∷ c ∷ cs) (45 ∷ 45 ∷ []) ≡ is_end (sort_of (b ∷ c ∷ cs))
    go false u t e = rw t
    go true false t e = rw (t, e)
    go true true t e = rw (t, e) (end_behind cs)

longer : (rest : List ℕ) → behind_dashes rest ≢ spec.Stands
longer [] e = cc
longer (b ∷ bs) e = go (has_equals (b ∷ bs)) e
  where
    go : (t : Bool) → cond t (spec.Gives (before_first is_equals (b ∷ bs)) (after_first is_equals (b ∷ bs))) (spec.Opens (b ∷ bs)) ≡ spec.Stands → ⊥
    go true e = cc
    go false e = cc

pub short_is : (w : List ℕ) → sort_of w ≡ spec.Stands → short_of w ≡ None
short_is [] e = refl
short_is (b ∷ []) e = go (b == 45) refl
  where
    go : (t : Bool) → (b == 45) ≡ t → short_of (b ∷ []) ≡ None
    go true t = rw t
    go false t = rw t
short_is (b ∷ c ∷ cs) e = go (b == 45) refl
  where
    no : (u : Bool) → cond u (behind_dashes cs) spec.Refused ≡ spec.Stands → ⊥
    no true e = longer cs e
    no false e = cc

    go : (t : Bool) → (b == 45) ≡ t → short_of (b ∷ c ∷ cs) ≡ None
    go true t = absurd (no (c == 45) (rw t at e))
    go false t = rw t

pub undashed : (w : List ℕ) → begins_with_dash w ≡ false → sort_of w ≡ spec.Stands
undashed [] e = refl
undashed (b ∷ bs) e = rw e
