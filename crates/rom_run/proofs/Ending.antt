-- The status of results, of which the code looks at lists behind vectors, one result after another.
use Rattle.std.specs.Prelude.{◌≡◌, ℕ, ◌+◌, ◌<◌, ◌||◌, Bool, true, false, if◌then◌else◌, List, [], ◌∷◌, length, map, take, slice_get, IfSome}
use Rattle.std.proofs.Common.{refl, ap, sym, ◌∙◌, subst, arith, get_or}
use Rattle.std.proofs.lemmas.List.Folds.{list_any_more}
use Rattle.std.proofs.lemmas.Option.{slice_get-get_or}
use Rattle.std.specs.List.{list_any}
use Rattle.rom_model.specs.declared.line.LineResult.{LineResult}
use Rattle.rom_run.specs.Statuses.{is_faulted, is_unread, status_of}

-- a test of what values are mapped to
any_mapped : {X Y : Type 0} (f : X → Y) (test : Y → Bool) (xs : List X) → list_any test (map f xs) ≡ list_any (λ x. test (f x)) xs
any_mapped f test [] = refl
any_mapped f test (x ∷ xs) = ap (λ b. test (f x) || b) (any_mapped f test xs)

-- the status, by the answers to whether a result is faulted and whether one is unread
pub status_by : {V R A : Type 0} (f : V → List (LineResult R A)) (vs : List V) (faulted unread : Bool) → list_any (λ v. list_any is_faulted (f v)) vs ≡ faulted → list_any (λ v. list_any is_unread (f v)) vs ≡ unread →
    status_of (map f vs) ≡ (if faulted then 7 else if unread then 1 else 0)
status_by f vs faulted unread some_faulted some_unread =
    let first = any_mapped f (λ rs. list_any is_faulted rs) vs ∙ some_faulted in
    let second = any_mapped f (λ rs. list_any is_unread rs) vs ∙ some_unread in
    λ i. if first i then 7 else if second i then 1 else 0

or_three : (a b c : Bool) → ((a || b) || c) ≡ (a || (b || c))
or_three true b c = refl
or_three false b c = refl

-- one result more
pub any_so_far : {X : Type 0} (test : X → Bool) (before now next : Bool) (xs : List X) (i : ℕ) → i < length xs → now ≡ (before || list_any test (take i xs)) →
    IfSome (slice_get xs i) (λ x. next ≡ (now || test x)) → next ≡ (before || list_any test (take (i + 1) xs))
any_so_far test before now next [] i within so_far more = absurd (omega (arith, within))
any_so_far test before now next (x ∷ xs) i within so_far more =
    let y = get_or (x ∷ xs) i x in
    subst (λ o. IfSome o (λ z. next ≡ (now || test z))) (slice_get-get_or (x ∷ xs) i x within) more
    ∙ ap (λ b. b || test y) so_far
    ∙ or_three before (list_any test (take i (x ∷ xs))) (test y)
    ∙ ap (λ b. before || b) (sym (list_any_more test (x ∷ xs) i x within))
