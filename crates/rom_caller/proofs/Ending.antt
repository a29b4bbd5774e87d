-- Whether a state that was read has ended.
use Rattle.std.proofs.Common.{◌≡◌}
use Rattle.std.specs.Prelude.{Bool, not, true, false}
use Rattle.std.specs.Bool.{OnFalse, OnTrue}

true_false : true ≡ false → ⊥
true_false is = cc

-- where it began here
pub began : (within : Bool) (P Q : Type 0) (begins : Bool) → begins ≡ not within → begins ≡ true → P → OnFalse within P × OnTrue within Q
began false P Q begins is here p = (p, tt)
began true P Q begins is here p = absurd (let no : true ≡ false = cc in true_false no)

-- where it went on
pub went_on : (within : Bool) (P Q : Type 0) (begins : Bool) → begins ≡ not within → begins ≡ false → Q → OnFalse within P × OnTrue within Q
went_on true P Q begins is here q = (tt, q)
went_on false P Q begins is here q = absurd (let no : true ≡ false = cc in true_false no)
