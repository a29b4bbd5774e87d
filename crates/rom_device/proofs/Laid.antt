-- Words laid over others: their places, and what a stop may leave of them.
use Rattle.std.proofs.Common.{◌≡◌, ◌≢◌, inl, inr, ℕ, zero, suc, ◌+◌, ◌-◌, ◌<◌, ◌≤◌, List, [], ◌∷◌, ◌++◌, length, slice_index, refl, sym, ap, ◌∙◌, subst, arith, set, length-set, get_or-set_other, get_or-set_same}
use Rattle.std.proofs.lemmas.Bool.{cases_eq, cases_lt}
use Rattle.std.proofs.lemmas.List.{ext_get_or}
use Rattle.rom_device.specs.Device.{WritesMany, WritesWord}
use Rattle.rom_device.specs.Laid.{firsts, laid}
use Rattle.rom_device.specs.Over.{length-firsts, at-firsts, length-laid, laid_other, laid_here}
use Rattle.rom_device.proofs.Many.{many_joins, many_writes}

pub firsts-same : (f g : ℕ → ℕ) (n : ℕ) → ((k : ℕ) → k < n → f k ≡ g k) → firsts f n ≡ firsts g n
unfolding firsts
firsts-same f g zero same = refl
firsts-same f g (suc n) same =
    let before : firsts f n ≡ firsts g n = firsts-same f g n (λ k lt. same k (omega (arith, lt))) in
    let last : f n ≡ g n = same n (omega arith) in
    cc

pub laid-same : (at : ℕ) (f g : ℕ → ℕ) (n : ℕ) (x : List ℕ) → ((k : ℕ) → k < n → f k ≡ g k) → laid at f n x ≡ laid at g n x
unfolding laid
laid-same at f g zero x same = refl
laid-same at f g (suc n) x same =
    let before : laid at f n x ≡ laid at g n x = laid-same at f g n x (λ k lt. same k (omega (arith, lt))) in
    let last : f n ≡ g n = same n (omega arith) in
    cc

pub laid_none : (at : ℕ) (f : ℕ → ℕ) (x : List ℕ) → laid at f 0 x ≡ x
unfolding laid
laid_none at f x = refl

pub laid_next : (at : ℕ) (f : ℕ → ℕ) (n : ℕ) (x : List ℕ) → laid at f (n + 1) x ≡ set (laid at f n x) (at + n) (f n)
unfolding laid
laid_next at f n x = let more : n + 1 ≡ suc n = omega arith in ap (λ (m : ℕ). laid at f m x) more

pub firsts_none : (f : ℕ → ℕ) → firsts f 0 ≡ []
unfolding firsts
firsts_none f = refl

pub firsts_next : (f : ℕ → ℕ) (n : ℕ) → firsts f (n + 1) ≡ firsts f n ++ f n ∷ []
unfolding firsts
firsts_next f n = let more : n + 1 ≡ suc n = omega arith in ap (λ (m : ℕ). firsts f m) more

-- words of a longer run
pub many_longer : (at : ℕ) (f : ℕ → ℕ) (n : ℕ) (x z : List ℕ) → WritesMany at (firsts f n) x z → WritesMany at (firsts f (n + 1)) x z
many_longer at f n x z many =
    let short : length (firsts f n) ≡ n = length-firsts f n in
    let long : length (firsts f (n + 1)) ≡ n + 1 = length-firsts f (n + 1) in
    record {
      only = record { as_long = many.only.as_long; before = many.only.before; behind = λ k h. many.only.behind k (omega (arith, h, short, long)) };
      either = λ k lt. elim (cases_lt k n) [
        | inl within ↦ elim (many.either k (omega (arith, short, within))) [
          | inl stays ↦ inl stays
          | inr put ↦ inr (put ∙ at-firsts f n k within ∙ sym (at-firsts f (n + 1) k (omega (arith, within))))
        ]
        | inr past ↦ inl (many.only.behind (at + k) (omega (arith, short, past)))
      ];
    }

-- the next of these words
pub many_next : (at : ℕ) (f : ℕ → ℕ) (n : ℕ) (x y z : List ℕ) → WritesMany at (firsts f n) x y → WritesWord (at + n) (f n) y z → WritesMany at (firsts f (n + 1)) x z
many_next at f n x y z many next =
    many_joins at (firsts f (n + 1)) x y z (many_longer at f n x y many)
    (many_writes at (firsts f (n + 1)) n (omega (arith, length-firsts f (n + 1))) y z
    (subst (λ (v : ℕ). WritesWord (at + n) v y z) (sym (at-firsts f (n + 1) n (omega arith))) next))

-- the same words, whatever of those was laid before
pub laid_again : (at : ℕ) (f : ℕ → ℕ) (n : ℕ) (x y : List ℕ) → at + n ≤ length x → WritesMany at (firsts f n) x y → laid at f n y ≡ laid at f n x
laid_again at f n x y fits many =
    let long : length y ≡ length x = many.only.as_long in
    ext_get_or 0 (laid at f n y) (laid at f n x) (length-laid at f n y ∙ long ∙ sym (length-laid at f n x)) (λ i lt. elim (cases_lt i at) [
      | inl before ↦ laid_other at f n i y (inl before) ∙ many.only.before i before ∙ sym (laid_other at f n i x (inl before))
      | inr from ↦ elim (cases_lt i (at + n)) [
        | inl within ↦
            let there : at + (i - at) ≡ i = omega (arith, from) in
            let less : i - at < n = omega (arith, within, from) in
            subst (λ (m : ℕ). slice_index (laid at f n y) m ≡ slice_index (laid at f n x) m) there (laid_here at f n (i - at) y less (omega (arith, fits, long)) ∙ sym (laid_here at f n (i - at) x less fits))
        | inr behind ↦ laid_other at f n i y (inr behind) ∙ many.only.behind i (omega (arith, behind, length-firsts f n)) ∙ sym (laid_other at f n i x (inr behind))
      ]
    ])

-- no words change none
pub many_empty : (at : ℕ) (x y : List ℕ) → WritesMany at [] x y → y ≡ x
many_empty at x y many = ext_get_or 0 y x many.only.as_long (λ i lt. elim (cases_lt i at) [
  | inl before ↦ many.only.before i before
  | inr behind ↦ many.only.behind i (omega (arith, behind))
])

set_back : (z : List ℕ) (i v : ℕ) → i < length z → slice_index z i ≡ v → z ≡ set z i v
set_back z i v inside is = ext_get_or 0 z (set z i v) (sym (length-set z i v)) (λ j lt. elim (cases_eq j i) [
  | inl same ↦
      let here : slice_index (set z i v) i ≡ v = rw get_or-set_same refl in
      subst (λ (m : ℕ). slice_index z m ≡ slice_index (set z i v) m) (sym same) (is ∙ sym here)
  | inr other ↦
      let stays : slice_index (set z i v) j ≡ slice_index z j = rw get_or-set_other refl in
      sym stays
])

set_twice : (z : List ℕ) (i u v : ℕ) → i < length z → slice_index z i ≡ v → z ≡ set (set z i u) i v
set_twice z i u v inside is = ext_get_or 0 z (set (set z i u) i v) (sym (length-set (set z i u) i v ∙ length-set z i u)) (λ j lt. elim (cases_eq j i) [
  | inl same ↦
      let within : i < length (set z i u) = omega (arith, inside, length-set z i u) in
      let here : slice_index (set (set z i u) i v) i ≡ v = rw get_or-set_same refl in
      subst (λ (m : ℕ). slice_index z m ≡ slice_index (set (set z i u) i v) m) (sym same) (is ∙ sym here)
  | inr other ↦
      let outer : slice_index (set (set z i u) i v) j ≡ slice_index (set z i u) j = rw get_or-set_other refl in
      let inner : slice_index (set z i u) j ≡ slice_index z j = rw get_or-set_other refl in
      sym inner ∙ sym outer
])

-- the last of these words by itself
pub record Before (at : ℕ) (f : ℕ → ℕ) (n : ℕ) (x z : List ℕ) : Type 0 where
  pub mid : List ℕ
  pub many : WritesMany at (firsts f n) x mid
  pub last : WritesWord (at + n) (f n) mid z

pub many_split : (at : ℕ) (f : ℕ → ℕ) (n : ℕ) (x z : List ℕ) → at + n < length x → WritesMany at (firsts f (n + 1)) x z → Before at f n x z
many_split at f n x z fits many =
    let short : length (firsts f n) ≡ n = length-firsts f n in
    let long : length (firsts f (n + 1)) ≡ n + 1 = length-firsts f (n + 1) in
    let u : ℕ = slice_index x (at + n) in
    let inside : at + n < length z = omega (arith, fits, many.only.as_long) in
    let put_back : slice_index (set z (at + n) u) (at + n) ≡ u = rw get_or-set_same refl in
    let elsewhere = λ (j : ℕ) (ne : j ≢ at + n). let stays : slice_index (set z (at + n) u) j ≡ slice_index z j = rw get_or-set_other refl in stays in
    record {
      mid = set z (at + n) u;
      many = record {
        only = record {
          as_long = length-set z (at + n) u ∙ many.only.as_long;
          before = λ k h. elsewhere k (omega (arith, h)) ∙ many.only.before k h;
          behind = λ k h. elim (cases_eq k (at + n)) [
            | inl same ↦ subst (λ (m : ℕ). slice_index (set z (at + n) u) m ≡ slice_index x m) (sym same) put_back
            | inr other ↦ elsewhere k other ∙ many.only.behind k (omega (arith, h, short, long, other))
          ];
        };
        either = λ k lt.
            let ne : at + k ≢ at + n = omega (arith, lt, short) in
            let less : k < n = omega (arith, lt, short) in
            elim (many.either k (omega (arith, less, long))) [
              | inl stays ↦ inl (elsewhere (at + k) ne ∙ stays)
              | inr put ↦ inr (elsewhere (at + k) ne ∙ put ∙ at-firsts f (n + 1) k (omega (arith, less)) ∙ sym (at-firsts f n k less))
            ];
      };
      last = elim (many.either n (omega (arith, long))) [
        | inl stays ↦
            let back : z ≡ set z (at + n) u = set_back z (at + n) u inside stays in
            inl back
        | inr put ↦ inr (set_twice z (at + n) u (f n) inside (put ∙ at-firsts f (n + 1) n (omega arith)))
      ];
    }
