-- Answers that are still to be given.
use Rattle.std.specs.Prelude.{◌≡◌, ℕ, ◌<◌, ◌≤◌, List, [], map, true, false, Option}
use mathlib.Core.Option.{some}
use lib.ListN.{get_elem?}
use Rattle.rom_model.specs.declared.record.Fate.{Fate}
use Rattle.rom_rule.specs.declared.views.Base.{Base}
use Rattle.rom_rule.specs.declared.views.Request.{Request}
use Rattle.rom_rule.specs.declared.views.Plan.{Plan}
use Rattle.rom_rule.specs.Views.{Each, is_made}
use Rattle.rom_rule.specs.Calls.{AreScanned, caller_in, found_of}
use Rattle.rom_announce.specs.Answering.{CanAnswer, HasRecord, fate_of_place}
use Rattle.rom_combine.specs.declared.answering.CallAnswer.{CallAnswer}
use Rattle.rom_combine.specs.Scanning.{but_requests}
use Rattle.rom_combine.specs.declared.scanning.Posted.{Posted}

-- the code and no reply
abbrev pub refused : ℕ → Posted → CallAnswer
refused code t = record { caller = t.caller; place = code; reply = [] }

-- the same callers were scanned, and the same calls are found
abbrev pub SameCalls : Plan → Plan → Type 0
SameCalls p q = (q.scanned ≡ p.scanned) × (map found_of q.requests ≡ map found_of p.requests)

-- the caller that an answer is for
abbrev pub caller_of : CallAnswer → ℕ
caller_of x = x.caller

-- The answers are those of the requests, in order. The first i of these are answered, and each other one may be given its answer, which tells that the pass ended so.
pub record HasGiven {S : Type 0} (Contents : ℕ → List ℕ → S → ℕ → Type 0) (step : ℕ → S → ℕ → List ℕ → Option (S × List ℕ)) (b : Base) (fate : Fate) (before now : ℕ) (p : Plan) (i : ℕ) (items : List CallAnswer) : Type 0 where
  pub rising : AreScanned 0 b.callers (map caller_in p.requests)
  pub same : map caller_in p.requests ≡ map caller_of items
  pub done : Each (λ j f. j < i → f.answered ≡ true) p.requests
  pub left : (j : ℕ) (f : Request) (x : CallAnswer) → i ≤ j → get_elem? p.requests j ≡ some f → get_elem? items j ≡ some x → (f.answered ≡ false) × (fate_of_place x.place ≡ fate) × CanAnswer Contents step b p f x.place x.reply before now

-- Where there was an answer to give, the plan is the one with this pass's record, but for the requests. Where there was no record, the first answer made it.
abbrev pub IsRecordedBy : {S : Type 0} → (ℕ → List ℕ → S → ℕ → Type 0) → (ℕ → S → ℕ → List ℕ → Option (S × List ℕ)) → Base → Plan → Plan → ℕ → ℕ → List CallAnswer → Type 0
IsRecordedBy Contents step b p q before now items = (x : CallAnswer) → get_elem? items 0 ≡ some x
    → (m : Plan) × HasRecord Contents step b p m (fate_of_place x.place) before now × (is_made m.mine ≡ true) × (but_requests q ≡ but_requests m)
