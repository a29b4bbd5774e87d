-- What the rule says of readers: who stands at an indicator, what they read, and which side.
use Rattle.std.specs.Prelude.{◌≡◌, ◌≢◌, ℕ, ◌+◌, ◌<◌, List, [], ◌∷◌, length, slice_index, true, Option, ◌==◌, if◌then◌else◌}
use mathlib.Core.Option.{some}
use lib.ListN.{get_elem?}
use Rattle.rom_model.specs.History.{after}
use Rattle.rom_model.specs.Seen.{StartsWith}
use Rattle.rom_model.specs.declared.entry.Entry.{Entry}
use Rattle.rom_rule.specs.declared.views.Base.{Base}
use Rattle.rom_rule.specs.declared.views.Plan.{Plan}
use Rattle.rom_rule.specs.declared.views.Position.{Position}
use Rattle.rom_rule.specs.declared.views.Position.TheVariants.{Out, Holds, Arrived, Reads}
use Rattle.rom_rule.specs.declared.views.View.{View}
use Rattle.rom_rule.specs.Places.{Shown, caller_of_indicator, indicator_count, offset_of_indicator}
use Rattle.rom_rule.specs.Views.{has, side_of}

-- 1 where the two numbers are the same, else 0
abbrev pub hit : ℕ → ℕ → ℕ
hit x y = if x == y then 1 else 0

-- 1 where the position stands at the indicator k: it has arrived there, or reads after arriving there
abbrev pub stands : ℕ → Position → ℕ
stands k Out = 0
stands k (Holds version) = 0
stands k (Arrived i) = hit i k
stands k (Reads i side front image) = hit i k

-- 1 where one of the positions stands at the indicator k, else 0
abbrev pub any_stands : ℕ → List Position → ℕ
any_stands k [] = 0
any_stands k (p ∷ ps) = if stands k p == 1 then 1 else any_stands k ps

-- Each indicator is 1 where a view has arrived there or reads after arriving there, and 0 else. It is the view of the indicator's caller, since a view stands only at its own number's indicators.
abbrev pub ShowsArrivals : ℕ → List ℕ → List Position → Type 0
ShowsArrivals callers indicators positions = (k : ℕ) → k < indicator_count callers → slice_index indicators (offset_of_indicator k) ≡ any_stands k positions

-- A view stands only at an indicator of its own number.
abbrev pub StandsAtOwn : View → Type 0
StandsAtOwn v = (k : ℕ) → stands k v.position ≡ 1 → caller_of_indicator k ≡ v.number

-- Where the indicator of a caller and a version was loaded as 0 since the last store of `side`, that caller's view doesn't read the other side after arriving there.
abbrev pub ReadsNamedSide : ℕ → Plan → Position → Type 0
ReadsNamedSide callers p (Reads k side front image) = (k < indicator_count callers) × (has k p.clear ≡ true → side ≡ p.side)
ReadsNamedSide callers p _ = Unit {0}

-- Both waits are over since the last store of `side`: all indicators were loaded as 0.
abbrev pub Settled : Base → Plan → Type 0
Settled b p = (k : ℕ) → k < indicator_count b.callers → has k p.clear ≡ true

-- numbers differ, but for 0
abbrev pub Differ : List ℕ → Type 0
Differ numbers = (i j n : ℕ) → get_elem? numbers i ≡ some n → get_elem? numbers j ≡ some n → 0 < n → i ≡ j

-- a view without a caller's number has read, posted and been told nothing
abbrev pub HoldsNothing : View → Type 0
HoldsNothing v = v.number ≡ 0 → (v.fronts ≡ []) × (v.calls ≡ []) × (v.outcomes ≡ []) × (v.laid ≡ [])

-- only a view with a caller's number stands anywhere
abbrev pub IsNumbered : View → Type 0
IsNumbered v = v.position ≢ Out → 0 < v.number

-- Of an object: what a region's words stand for, and its step on words.
module _ {S : Type 0} (Contents : ℕ → List ℕ → S → ℕ → Type 0) (step : ℕ → S → ℕ → List ℕ → Option (S × List ℕ)) where
  -- The image stands for the state and the count after the history, from this opening state and count.
  abbrev pub Held : Base → S → ℕ → List ℕ → List Entry → Type 0
  Held b start count image history = Contents b.order image (after step b.order start count history) (count + length history)

  -- The same from the state and the count that the opening image stands for. The front is the count.
  pub record IsHeldSinceOpening (b : Base) (image : List ℕ) (history : List Entry) (front : ℕ) : Type 0 where
    pub start : S
    pub count : ℕ
    pub opening : Contents b.order b.image start count
    pub front_is : front ≡ count + length history
    pub held : Contents b.order image (after step b.order start count history) front

  -- A view that reads a side at a front has as image that side's words, and they stand for the state and the count at that front, after a history that the view has seen.
  abbrev pub KeepsImage : Base → List ℕ → List ℕ → Position → List Entry → Type 0
  KeepsImage b main back (Reads k side front image) seen = (image ≡ side_of side main back) × (side < 2) × (history : List Entry) × StartsWith seen history × IsHeldSinceOpening b image history front
  KeepsImage b main back _ seen = Unit {0}

  -- The shared words are those in the writer's plan, `side` and `version` are each 0 or 1, and the side that `side` names stands for the published history.
  pub record IsWritten (b : Base) (start : S) (count : ℕ) (t : Shown) (p : Plan) : Type 0 where
    pub side : t.side ≡ p.side
    pub version : t.version ≡ p.version
    pub main : t.main ≡ p.main
    pub back : t.back ≡ p.back
    pub side_low : p.side < 2
    pub version_low : p.version < 2
    pub published : Held b start count (side_of p.side p.main p.back) p.history
