-- What the history and the passes of a session have of what its callers keep.
use Rattle.std.specs.Prelude.{◌≡◌, ℕ, ◌+◌, ◌-◌, ◌<◌, ◌≤◌, List, [], ◌∷◌}
use Rattle.std.specs.List.{AllByRecursion}
use Rattle.rom_model.specs.declared.line.Step.{Step}
use Rattle.rom_model.specs.declared.line.LineResult.{LineResult}
use Rattle.rom_model.specs.Lawful.{told_to, IsRecorded}
use Rattle.rom_model.specs.Machine.{Machine}
use Rattle.rom_model.specs.Story.{Story, IsBoundary}
use Rattle.rom_model.specs.declared.kept.Kept.{Kept}
use Rattle.rom_model.specs.Seen.{StartsWith}
use Rattle.rom_model.specs.Heard.{HasHeard}

module _ {S C Q R A : Type 0} (m : Machine S C Q R A) where
  -- the front is the count at a boundary
  abbrev pub IsFront : Story S → ℕ → Type 0
  IsFront story front = (story.opening_count ≤ front) × IsBoundary story (front - story.opening_count)

  -- What the session has of a caller.
  pub record IsKept (story : Story S) (v : Kept) : Type 0 where
    pub seen : StartsWith story.history v.seen
    pub fronts : AllByRecursion (IsFront story) v.fronts
    -- the passes found its updates, each once and in their order, and told it what it was told
    pub told : told_to m story v.number ≡ v.told

  -- The session's history is that of its passes, and these found nobody else's updates than those of so many callers.
  pub record IsClosed (story : Story S) (callers : ℕ) : Type 0 where
    pub recorded : IsRecorded m story
    pub known : AllByRecursion (λ r. AllByRecursion (λ f. (0 < f.caller) × (f.caller ≤ callers)) r.found) story.records

  -- What a caller was told is what it keeps, and what the session has of it.
  pub record HasLeft (story : Story S) (caller : ℕ) (v : Kept) (lines : List (Step C Q)) (results : List (LineResult R A)) : Type 0 where
    pub number : v.number ≡ caller
    pub heard : HasHeard m story.order story.opening story.opening_count v lines results
    pub kept : IsKept story v

  -- so for each caller; they are numbered from this one on, in the order of their scripts
  abbrev pub HaveLeft : Story S → ℕ → List Kept → List (List (Step C Q)) → List (List (LineResult R A)) → Type 0
  HaveLeft story caller [] [] [] = Unit {0}
  HaveLeft story caller (v ∷ views) (lines ∷ scripts) (results ∷ more) = HasLeft story caller v lines results × HaveLeft story (caller + 1) views scripts more
  HaveLeft story caller views scripts results = ⊥
