-- The calls that a pass is to find, and no others.
use Rattle.std.specs.Prelude.{ℕ, ◌+◌, List, [], ◌∷◌, map}
use Rattle.rom_model.specs.declared.record.Found.{Found}
use Rattle.rom_rule.specs.Calls.{found_of}
use Rattle.rom_rule.specs.declared.views.Plan.{Plan}
use Rattle.rom_combine.specs.declared.scanning.Posted.{Posted}

-- calls as a pass finds them, where the callers from this number on have posted one each, in their order
abbrev pub posted_from : ℕ → List (List ℕ) → List Posted
posted_from caller [] = []
posted_from caller (args ∷ calls) = record { caller = caller; args = args } ∷ posted_from (caller + 1) calls

-- a call of a record as the pass found it
abbrev pub posted_in : Found → Posted
posted_in f = record { caller = f.caller; args = f.args }

-- the calls that the plan's pass found
abbrev pub calls_found : Plan → List Posted
calls_found p = map posted_in (map found_of p.requests)
