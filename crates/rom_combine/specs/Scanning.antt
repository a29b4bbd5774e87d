-- What a scan finds.
use Rattle.std.specs.Prelude.{◌≡◌, ℕ, ◌≤◌, List, [], ◌++◌, map, drop, length, false}
use Rattle.rom_rule.specs.declared.views.Request.{Request}
use Rattle.rom_rule.specs.declared.views.Plan.{Plan}
use Rattle.rom_rule.specs.Views.{Each}
use Rattle.rom_rule.specs.Calls.{AreScanned, IsWhole, caller_in}
use Rattle.rom_rule.specs.CallKinds.{beginning}
use Rattle.rom_combine.specs.declared.scanning.Posted.{Posted}

-- a request as a scan hands it out
abbrev pub posted_of : Request → Posted
posted_of f = record { caller = f.caller; args = drop 1 f.words }

-- a plan but for its requests
abbrev pub but_requests : Plan → Plan
but_requests p = record p { requests = []; scanned = 0 }

module _ (P : List ℕ → Type 0) where
  -- a request with all its words, which have P, that isn't answered
  abbrev pub IsUnanswered : Request → Type 0
  IsUnanswered f = (f.answered ≡ false) × IsWhole f × P (drop 1 f.words)

  -- The turn of caller c was loaded: its call is found with its words, or it has none posted. Which of the two is told by the rule alone: the step that loads a turn is the only one that moves `scanned`, and where the turn is odd it adds the request (`found_after`).
  pub record IsVisit (p q : Plan) (c : ℕ) (old new : List Posted) : Type 0 where
    pub scanned : q.scanned ≡ c
    pub rest : but_requests q ≡ but_requests p
    pub more : List Request
    pub few : length more ≤ 1
    pub own : Each (λ _ f. (f.caller ≡ c) × IsUnanswered f) more
    pub requests : q.requests ≡ p.requests ++ more
    pub items : new ≡ old ++ map posted_of more

  -- A new pass was begun, and the turns of the callers up to this one were loaded. What was found are the requests, in rising order of callers. That no odd turn was passed over is told by the rule alone, as of one visit.
  pub record IsScan (p q : Plan) (last : ℕ) (items : List Posted) : Type 0 where
    pub scanned : q.scanned ≡ last
    pub rest : but_requests q ≡ but_requests (beginning p)
    pub fresh : Each (λ _ f. (f.caller ≤ last) × IsUnanswered f) q.requests
    pub rising : AreScanned 0 last (map caller_in q.requests)
    pub items_are : items ≡ map posted_of q.requests
    pub few : length items ≤ last
