-- The chains of all buckets, with that of one bucket changed.
use Rattle.std.proofs.Common.{◌≡◌, ◌≢◌, inl, inr, ℕ, zero, suc, ◌<◌, true, false, List, ◌++◌, sym, ◌∙◌, ap, arith, append_assoc}
use Rattle.std.specs.Prelude.{◌==◌, if◌then◌else◌}
use Rattle.std.proofs.lemmas.Bool.{cases_lt}
use Rattle.std.proofs.lemmas.Bool.Decides.{nat_tests}
use Rattle.rom_model.specs.Region.{all_of}
use Rattle.rom_model.proofs.Contents.{one_all}
use Rattle.rom_bucket.specs.Buckets.{with_chain}

pub chain_here : (f : ℕ → List ℕ) (i : ℕ) (bs : List ℕ) → with_chain f i bs i ≡ bs
chain_here f i bs = let test : (i == i) ≡ true = grind (arith, nat_tests) in ap (λ b. if b then bs else f i) test

pub chain_other : (f : ℕ → List ℕ) (i j : ℕ) (bs : List ℕ) → j ≢ i → with_chain f i bs j ≡ f j
chain_other f i j bs ne = let test : (j == i) ≡ false = grind (arith, nat_tests) in ap (λ b. if b then bs else f j) test

-- What stands before and behind a place of one bucket's chain: whatever stands there itself, the chains of all buckets are these.
pub record Cut (f : ℕ → List ℕ) (i m : ℕ) (front back : List ℕ) : Type 0 where
  pub ahead : List ℕ
  pub behind : List ℕ
  pub are : (g : ℕ → List ℕ) → ((j : ℕ) → j ≢ i → g j ≡ f j) → (mid : List ℕ) → g i ≡ front ++ (mid ++ back) → all_of g m ≡ ahead ++ (mid ++ behind)

pub cut : (f : ℕ → List ℕ) (i m : ℕ) (front back : List ℕ) → i < m → Cut f i m front back
cut f i zero front back lt = absurd (omega arith)
cut f i (suc m) front back lt = elim (cases_lt i m) [
  | inl less ↦
      let before = cut f i m front back less in
      record {
        ahead = before.ahead;
        behind = before.behind ++ f m;
        are = λ g same mid here.
            let ne : m ≢ i = λ e. absurd (omega (arith, e, less)) in
            ap (λ bs. bs ++ g m) (before.are g same mid here) ∙ ap (λ bs. (before.ahead ++ (mid ++ before.behind)) ++ bs) (same m ne)
            ∙ append_assoc before.ahead (mid ++ before.behind) (f m) ∙ ap (λ bs. before.ahead ++ bs) (append_assoc mid before.behind (f m));
      }
  | inr ge ↦
      let last : i ≡ m = omega arith in
      record {
        ahead = all_of f m ++ front;
        behind = back;
        are = λ g same mid here.
            ap (λ bs. bs ++ g m) (one_all g f m (λ j below. same j (λ e. absurd (omega (arith, e, below, last))))) ∙ ap (λ bs. all_of f m ++ bs) (ap g (sym last) ∙ here) ∙ sym (append_assoc (all_of f m) front (mid ++ back));
      }
]
