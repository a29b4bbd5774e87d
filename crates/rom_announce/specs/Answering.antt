-- What the writer's answer asks for and leaves.
use Rattle.std.specs.Prelude.{◌≡◌, ℕ, ◌+◌, List, [], ◌∷◌, true, false, Option, ◌==◌, if◌then◌else◌}
use Rattle.rom_model.specs.Undone.{FAILED, DOUBT}
use Rattle.rom_model.specs.declared.call.Updated.{Updated}
use Rattle.rom_model.specs.declared.call.Updated.TheVariants as told
use Rattle.rom_model.specs.declared.entry.Entry.{Entry}
use Rattle.rom_model.specs.declared.record.Fate.{Fate}
use Rattle.rom_model.specs.declared.record.Fate.TheVariants.{Published, Failed, Doubt}
use Rattle.rom_lr.specs.Seats.{plan, writer_view}
use Rattle.rom_lr.specs.Writing.{SetsPlan}
use Rattle.rom_lr.specs.declared.seats.WriterSeat.{WriterSeat}
use Rattle.rom_rule.specs.CallKinds.{CanMakeRecord, IsAnswerToRequest, altered}
use Rattle.rom_rule.specs.Calls.{answer_words, packed}
use Rattle.rom_rule.specs.Kinds.{IsBatch, TellsEach, making}
use Rattle.rom_rule.specs.Views.{is_made}
use Rattle.rom_rule.specs.declared.views.Base.{Base}
use Rattle.rom_rule.specs.declared.views.Plan.{Plan}
use Rattle.rom_rule.specs.declared.views.Request.{Request}

-- how a pass ended whose first answer has this place or code
abbrev pub fate_of_place : ℕ → Fate
fate_of_place place = if place == FAILED then Failed else if place == DOUBT then Doubt else Published

-- what such a pass tells each call that it didn't do
abbrev pub undone : Fate → Updated (List ℕ)
undone Published = told.Spent
undone Failed = told.Failed
undone Doubt = told.Doubt

-- a request for which the words of a reply were stored
abbrev pub with_reply : List ℕ → Request → Request
with_reply words f = record f { laid = words }

-- a request that is answered with this place, or code, and these words
abbrev pub answered_with : ℕ → List ℕ → Request → Request
answered_with place words f = record f { laid = words; place = place ∷ []; answered = true }

module _ {S : Type 0} (Contents : ℕ → List ℕ → S → ℕ → Type 0) (step : ℕ → S → ℕ → List ℕ → Option (S × List ℕ)) where
  -- Place and reply are what the records told the request. Where the pass has no record yet, they are what its record tells a call that it didn't do, and the code's outcome is true: a fault for a failed pass or one in doubt, and else a count at its limit.
  abbrev pub CanAnswer : Base → Plan → Request → ℕ → List ℕ → ℕ → ℕ → Type 0
  CanAnswer b p f place reply before now =
      (is_made p.mine ≡ true → (u : Updated (List ℕ)) × IsAnswerToRequest p f u × (answer_words u ≡ place ∷ packed reply))
      × (is_made p.mine ≡ false → CanMakeRecord Contents step b p (fate_of_place place) before now × (answer_words (undone (fate_of_place place)) ≡ place ∷ packed reply))

  -- The plan q is p where this pass has its record, and else p with the record made.
  abbrev pub HasRecord : Base → Plan → Plan → Fate → ℕ → ℕ → Type 0
  HasRecord b p q fate before now =
      (is_made p.mine ≡ true → q ≡ p)
      × (is_made p.mine ≡ false → (k : ℕ) × (more : List Entry) × IsBatch Contents step b p k more × TellsEach fate k more p × (q ≡ making fate before now 0 k more p))

  -- The writer's plan is then the one with this pass's record, where this caller's request is changed so. Nothing else of its view changes but the number of its steps.
  abbrev pub AltersRecorded : WriterSeat → WriterSeat → ℕ → (Request → Request) → Fate → ℕ → ℕ → Type 0
  AltersRecorded s t caller change fate before now = (q : Plan) × HasRecord (writer_view s).base (plan s) q fate before now × SetsPlan s t (altered caller change q)
