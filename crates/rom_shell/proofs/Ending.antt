-- The status of a drill's results, of which the code looks at lists behind vectors.
use Rattle.std.specs.Prelude.{◌≡◌, ◌||◌, Bool, if◌then◌else◌, List, [], ◌∷◌, map}
use Rattle.std.proofs.Common.{refl, ap, ◌∙◌}
use Rattle.std.specs.List.{list_any}
use Rattle.rom_model.specs.declared.line.LineResult.{LineResult}
use Rattle.rom_shell.specs.Drilled.{drill_status}
use Rattle.rom_run.specs.Statuses.{is_faulted}

-- a test of what values are mapped to
any_mapped : {X Y : Type 0} (f : X → Y) (test : Y → Bool) (xs : List X) → list_any test (map f xs) ≡ list_any (λ x. test (f x)) xs
any_mapped f test [] = refl
any_mapped f test (x ∷ xs) = ap (λ b. test (f x) || b) (any_mapped f test xs)

-- the status of a drill, by the answer to whether a result is faulted
pub drill_status_by : {V R A : Type 0} (f : V → List (LineResult R A)) (vs : List V) (faulted : Bool) → list_any (λ v. list_any is_faulted (f v)) vs ≡ faulted → drill_status (map f vs) ≡ (if faulted then 7 else 0)
drill_status_by f vs faulted some = ap (λ b. if b then 7 else 0) (any_mapped f (λ rs. list_any is_faulted rs) vs ∙ some)
