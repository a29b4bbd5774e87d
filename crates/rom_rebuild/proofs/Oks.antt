-- What follows of a result from what its clauses say of an `Ok`.
use Rattle.std.specs.Prelude.{IfOk, Result, Ok, Err}

pub both_ok : {T E : Type 0} {A B C : T → Type 0} (r : Result T E) → ((v : T) → A v → B v → C v) → IfOk r A → IfOk r B → IfOk r C
both_ok (Ok v) both one two = both v one two
both_ok (Err e) both one two = tt
