-- The words of a run by number and by place, and words with those of a run in their places.
use Rattle.std.proofs.Common.{◌≡◌, ◌⊎◌, inl, inr, ℕ, ◌+◌, ◌-◌, ◌<◌, ◌≤◌, Bool, true, false, ◌&&◌, if◌then◌else◌, List, length, slice_index, Option, Some, None, nat_le, nat_lt, sym, ap, ◌∙◌, subst, arith}
use Rattle.std.proofs.lemmas.Bool.{cases_lt}
use Rattle.std.proofs.lemmas.Bool.Decides.{nat_tests}
use Rattle.rom_device.specs.Page.{page_word}
use Rattle.rom_device.specs.Run.{word_of_run, nth_of, or_zero, with_run}
use Rattle.rom_device.specs.declared.run.Run.{Run}
use Rattle.rom_device.specs.Over.{laid_here, laid_other}

-- the test by which a run has a place
abbrev has : Run → ℕ → Bool
has run b = nat_le run.first b && nat_lt (b - run.first) run.count

word_if : (run : Run) (b : ℕ) (t : Bool) → has run b ≡ t → word_of_run run b ≡ (if t then Some (page_word run.page (b - run.first)) else None)
word_if run b t is = ap (λ (u : Bool). if u then Some (page_word run.page (b - run.first)) else None) is

pub word_there : (run : Run) (k : ℕ) → k < run.count → word_of_run run (run.first + k) ≡ Some (page_word run.page k)
word_there run k lt =
    let first : ℕ = run.first in
    let count : ℕ = run.count in
    let test : (nat_le first (first + k) && nat_lt (first + k - first) count) ≡ true = grind (arith, nat_tests) in
    let same : first + k - first ≡ k = omega arith in
    word_if run (first + k) true test ∙ ap (λ (n : ℕ). Some (page_word run.page n)) same

pub nth_is : (run : Run) (k : ℕ) → k < run.count → nth_of run k ≡ page_word run.page k
unfolding nth_of
nth_is run k lt = ap or_zero (word_there run k lt)

none_is_some : (w : ℕ) → Option.None ≡ Some w → ⊥
none_is_some w e = absurd (cc)

pub has_place : (run : Run) (b w : ℕ) → word_of_run run b ≡ Some w → (run.first ≤ b) × (b - run.first < run.count)
has_place run b w is =
    let first : ℕ = run.first in
    let count : ℕ = run.count in
    elim (cases_lt b first) [
      | inl before ↦
          let test : (nat_le first b && nat_lt (b - first) count) ≡ false = grind (arith, nat_tests) in
          absurd (none_is_some w (sym (word_if run b false test) ∙ is))
      | inr from ↦ elim (cases_lt (b - first) count) [
        | inl within ↦ (omega (arith, from), within)
        | inr past ↦
            let test : (nat_le first b && nat_lt (b - first) count) ≡ false = grind (arith, nat_tests) in
            absurd (none_is_some w (sym (word_if run b false test) ∙ is))
      ]
    ]

pub lacks_place : (run : Run) (b : ℕ) → word_of_run run b ≡ None → (b < run.first) ⊎ (run.first + run.count ≤ b)
lacks_place run b is = elim (cases_lt b run.first) [
  | inl before ↦ inl before
  | inr from ↦ elim (cases_lt b (run.first + run.count)) [
    | inl within ↦
        let k : ℕ = b - run.first in
        let there : run.first + (b - run.first) ≡ b = omega (arith, from) in
        absurd (none_is_some (page_word run.page k) (sym is ∙ subst (λ (n : ℕ). word_of_run run n ≡ Some (page_word run.page k)) there (word_there run k (omega (arith, within, from)))))
    | inr past ↦ inr past
  ]
]

pub lacks : (run : Run) (b : ℕ) → (b < run.first) ⊎ (run.first + run.count ≤ b) → word_of_run run b ≡ None
lacks run b out =
    let first : ℕ = run.first in
    let count : ℕ = run.count in
    let test : (nat_le first b && nat_lt (b - first) count) ≡ false = elim out [ inl before ↦ grind (arith, nat_tests) | inr behind ↦ grind (arith, nat_tests) ] in
    word_if run b false test

-- a word that no run has
pub waits_not : (run : Run) (b : ℕ) (found : Option ℕ) → word_of_run run b ≡ found → ((w : ℕ) → word_of_run run b ≡ Some w → ⊥) → word_of_run run b ≡ None
waits_not run b None is none = is
waits_not run b (Some w) is none = absurd (none w is)

pub run_has : (run : Run) (x : List ℕ) (b w : ℕ) → run.first + run.count ≤ length x → word_of_run run b ≡ Some w → w ≡ slice_index (with_run run x) b
unfolding nth_of
run_has run x b w fits is =
    let at = has_place run b w is in
    let there : run.first + (b - run.first) ≡ b = omega (arith, at.0) in
    let number : nth_of run (b - run.first) ≡ w = ap or_zero (ap (λ (n : ℕ). word_of_run run n) there ∙ is) in
    sym (subst (λ (n : ℕ). slice_index (with_run run x) n ≡ w) there (laid_here run.first (nth_of run) run.count (b - run.first) x at.1 fits ∙ number))

pub run_lacks : (run : Run) (x : List ℕ) (b : ℕ) → word_of_run run b ≡ None → slice_index (with_run run x) b ≡ slice_index x b
run_lacks run x b is = laid_other run.first (nth_of run) run.count b x (lacks_place run b is)

-- what a word of a run is, by its place, is what it is by its number
pub nth_by_place : (a b : Run) (k : ℕ) → a.first ≡ b.first → word_of_run a (b.first + k) ≡ word_of_run b (b.first + k) → nth_of a k ≡ nth_of b k
unfolding nth_of
nth_by_place a b k same is = ap or_zero (ap (λ (n : ℕ). word_of_run a (n + k)) same ∙ is)

pub nth_put : (a : Run) (k at value : ℕ) → a.first + k ≡ at → word_of_run a at ≡ Some value → nth_of a k ≡ value
unfolding nth_of
nth_put a k at value place is = ap or_zero (ap (λ (n : ℕ). word_of_run a n) place ∙ is)
