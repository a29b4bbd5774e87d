-- A clause that is told where a call was done.
use Rattle.std.proofs.Common.{Bool, true, false}
use Rattle.std.specs.Bool.{OnTrue}

pub on_true : (done : Bool) {P Q : Type 0} → (P → Q) → OnTrue done P → OnTrue done Q
on_true true by holds = by holds
on_true false by holds = tt
