-- What follows of an error.
use Rattle.std.proofs.Common.{Result, Ok, Err, OnErr}

pub err_by : {T E P Q : Type 0} (result : Result T E) → (P → Q) → OnErr result P → OnErr result Q
err_by (Ok value) f p = tt
err_by (Err error) f p = f p
