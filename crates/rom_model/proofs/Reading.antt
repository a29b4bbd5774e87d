-- Reading one after another, from the front.
use Rattle.std.proofs.Common.{◌≡◌, ℕ, zero, suc, ◌+◌, ◌-◌, ◌<◌, ◌≤◌, List, [], ◌∷◌, ◌++◌, length, drop, refl, sym, ap, ◌∙◌, Bool, true, false, Some, None, append_assoc, append-nil, length-drop, take, subst, arith}
use Rattle.std.specs.Prelude.{Option, option_map, if◌then◌else◌}
use Rattle.std.specs.Option.{option_and_then}
use Rattle.std.proofs.Math.Seq.{take-length}
use Rattle.std.proofs.lemmas.List.{drop-drop}
use Rattle.rom_model.specs.Codes.{read_all, whole}

-- what is read behind others
abbrev pub prepend : {X : Type 0} → List X → Option (List X × List ℕ) → Option (List X × List ℕ)
prepend xs None = None
prepend xs (Some (more, rest)) = Some (xs ++ more, rest)

pub when : {Y : Type 0} (b : Bool) (o : Option Y) → b ≡ true → (if b then o else None) ≡ o
when b o is = ap (λ (c : Bool). if c then o else None) is

pub whenever_none : {Y : Type 0} (b : Bool) {o : Option Y} → o ≡ None → (if b then o else None) ≡ None
whenever_none true none = none
whenever_none false none = refl

-- the words from an offset on, as a slice has them
part : (at : ℕ) (words : List ℕ) → take (length words - at) (drop at words) ≡ drop at words
part at words = ap (λ k. take k (drop at words)) (sym (length-drop at words)) ∙ take-length (drop at words)

pub length_part : (at : ℕ) (words : List ℕ) → length (take (length words - at) (drop at words)) ≡ length words - at
length_part at words = ap length (part at words) ∙ length-drop at words

pub read_part : {X : Type 0} (read : List ℕ → Option (X × List ℕ)) (words : List ℕ) (at len : ℕ) (x : X) →
    read (take (length words - at) (drop at words)) ≡ Some (x, drop len (take (length words - at) (drop at words))) → read (drop at words) ≡ Some (x, drop len (drop at words))
read_part read words at len x is = subst (λ ws. read ws ≡ Some (x, drop len ws)) (part at words) is

pub none_part : {X : Type 0} (read : List ℕ → Option (X × List ℕ)) (words : List ℕ) (at : ℕ) → read (take (length words - at) (drop at words)) ≡ None → read (drop at words) ≡ None
none_part read words at is = subst (λ ws. read ws ≡ None) (part at words) is

module _ {X : Type 0} where
  prepend_more : (xs : List X) (x : X) (o : Option (List X × List ℕ)) → prepend xs (option_map (λ more. (x ∷ more.0, more.1)) o) ≡ prepend (xs ++ x ∷ []) o
  prepend_more xs x None = refl
  prepend_more xs x (Some (more, rest)) = ap (λ (l : List X). Some (l, rest)) (sym (append_assoc xs (x ∷ []) more))

  pub prepend_none : (o : Option (List X × List ℕ)) → o ≡ prepend [] o
  prepend_none None = refl
  prepend_none (Some (more, rest)) = refl

  module _ (read : List ℕ → Option (X × List ℕ)) (m i : ℕ) (xs : List X) where
    abbrev onward : Option (X × List ℕ) → Option (List X × List ℕ)
    onward o = prepend xs (option_and_then (λ first. option_map (λ more. (first.0 ∷ more.0, more.1)) (read_all read (m - (i + 1)) first.1)) o)

    -- one more is read
    pub read_next : (words : List ℕ) (at len : ℕ) (x : X) → i < m → read (drop at words) ≡ Some (x, drop len (drop at words)) →
        prepend xs (read_all read (m - i) (drop at words)) ≡ prepend (xs ++ x ∷ []) (read_all read (m - (i + 1)) (drop (at + len) words))
    read_next words at len x lt is =
        let left : m - i ≡ suc (m - (i + 1)) = omega (arith, lt) in
        ap (λ k. prepend xs (read_all read k (drop at words))) left
        ∙ (ap onward is
        ∙ (prepend_more xs x (read_all read (m - (i + 1)) (drop len (drop at words)))
        ∙ ap (λ ws. prepend (xs ++ x ∷ []) (read_all read (m - (i + 1)) ws)) (drop-drop len at words)))

    -- where it is not
    pub read_none : (words : List ℕ) → i < m → read words ≡ None → prepend xs (read_all read (m - i) words) ≡ None
    read_none words lt is =
        let left : m - i ≡ suc (m - (i + 1)) = omega (arith, lt) in
        ap (λ k. prepend xs (read_all read k words)) left ∙ ap onward is

    -- all are read
    pub read_to_end : (words rest : List ℕ) → m ≤ i → read_all read m words ≡ prepend xs (read_all read (m - i) rest) → read_all read m words ≡ Some (xs, rest)
    read_to_end words rest le is =
        let none : m - i ≡ zero = omega (arith, le) in
        is ∙ (ap (λ k. prepend xs (read_all read k rest)) none ∙ ap (λ (l : List X). Some (l, rest)) (append-nil xs))

-- where words are left, and where none is
module _ {X Y : Type 0} (make : X → Y) (x : X) where
  pub whole_none : (words : List ℕ) → 0 < length words → whole make (Some (x, words)) ≡ None
  whole_none [] lt = absurd (omega (arith, lt))
  whole_none (w ∷ words) lt = refl

  pub whole_some : (words : List ℕ) → length words ≤ 0 → whole make (Some (x, words)) ≡ Some (make x)
  whole_some [] le = refl
  whole_some (w ∷ words) le = absurd (omega (arith, le))
