-- Updates leave what they leave whoever makes them; and where there is one caller, all entries are its own.
use Rattle.std.proofs.Common.{◌≡◌, ℕ, ◌+◌, ◌<◌, ◌≤◌, List, [], ◌∷◌, Option, refl, ap, ◌∙◌, arith, true}
use Rattle.std.specs.Prelude.{◌==◌, filter, map}
use Rattle.std.specs.List.{AllByRecursion, enumerate_from}
use Rattle.rom_model.specs.History.{after, left}
use Rattle.rom_model.specs.declared.entry.Entry.{Entry}
use Rattle.rom_follow.specs.Following.{update_of}

-- the state is told by the words of the calls alone
pub after_by_calls : {S : Type 0} (step : ℕ → S → ℕ → List ℕ → Option (S × List ℕ)) (order : ℕ) (s : S) (k : ℕ) (es fs : List Entry) → map update_of es ≡ map update_of fs → after step order s k es ≡ after step order s k fs
after_by_calls step order s k [] [] same = refl
after_by_calls step order s k [] (f ∷ fs) same = cc
after_by_calls step order s k (e ∷ es) [] same = cc
after_by_calls step order s k (e ∷ es) (f ∷ fs) same =
    let heads : update_of e ≡ update_of f = cc in
    let rest : map update_of es ≡ map update_of fs = cc in
    ap (λ (args : List ℕ). after step order (left s (step order s k args)) (k + 1) es) (λ i. (heads i).0)
    ∙ after_by_calls step order (left s (step order s k f.args)) (k + 1) es fs rest

pub is_one : (n : ℕ) → (0 < n) × (n ≤ 1) → (n == 1) ≡ true
is_one n within = let one : n ≡ 1 = omega (arith, within.0, within.1) in ap (λ (m : ℕ). m == 1) one

-- all entries are those of the one caller that there is
pub all_own : (k : ℕ) (es : List Entry) → AllByRecursion (λ e. (0 < e.caller) × (e.caller ≤ 1)) es → filter (λ x. x.1.caller == 1) (enumerate_from k es) ≡ enumerate_from k es
all_own k [] known = refl
all_own k (e ∷ es) known = rw (is_one e.caller known.0, all_own (k + 1) es known.1) refl
