-- Passes that go to work and come back.
use Rattle.std.specs.Prelude.{◌≡◌, ℕ, ◌+◌, ◌≤◌, List, [], Option, Some, vec_capacity}
use Rattle.std.specs.Global.{Vec}
use Rattle.atomic_table.specs.Seated.{TableId}
use Rattle.rom_model.specs.declared.kept.Kept.{Kept}
use Rattle.rom_rule.specs.declared.views.Base.{Base}
use Rattle.rom_store.specs.Callers.{Caller, IsNewCaller, IsNumberedCaller}
use Rattle.rom_store.specs.Closing.{kept_in}

module _ {S : Type 0} (Contents : ℕ → List ℕ → S → ℕ → Type 0) (table : TableId) (base : Base) where
  -- The pass of the caller with this index, which is new.
  pub record IsFor (i : ℕ) (pass : Option Caller) : Type 0 where
    pub caller : Caller
    pub pass_is : pass ≡ Some caller
    pub new : IsNewCaller Contents table base i caller

  -- that of some caller
  pub record IsForSome (pass : Option Caller) : Type 0 where
    pub index : ℕ
    pub is : IsFor index pass

  module _ {T : Type 0} (Did : Base → ℕ → Kept → T → Type 0) where
    -- The caller with this index has worked, and gives this back.
    pub record HasDone (i : ℕ) (pass : Option Caller) (out : Option T) : Type 0 where
      pub caller : Caller
      pub told : T
      pub pass_is : pass ≡ Some caller
      pub out_is : out ≡ Some told
      pub numbered : IsNumberedCaller Contents table base i caller
      pub did : Did base i (kept_in caller) told

    -- The caller that was there has worked.
    pub record HasComeBack (was pass : Option Caller) (out : Option T) : Type 0 where
      pub done : (i : ℕ) (p : Caller) → was ≡ Some p → p.view.number ≡ i + 1 → HasDone i pass out

-- there is no job yet and nothing come back, and room for so many of each
pub record HasRooms {J P T : Type 0} (many : ℕ) (jobs : Vec J) (passes : Vec P) (results : Vec T) : Type 0 where
  pub no_jobs : jobs.items ≡ []
  pub no_passes : passes.items ≡ []
  pub no_results : results.items ≡ []
  pub jobs_fit : many ≤ vec_capacity jobs
  pub passes_fit : many ≤ vec_capacity passes
  pub results_fit : many ≤ vec_capacity results
