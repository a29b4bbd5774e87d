-- A source that may be at its end.
use Rattle.std.specs.Prelude.{ℕ, Bool, true, false, List, [], Option, Some, None}
use Rattle.std.specs.Coded.{Coded-set, coded_list, coded_ℕ, Unit-prop}
use Rattle.std.specs.Io.KnownBytes.{IsAtEnd}

-- where that holds, no known byte is left
abbrev pub IsEndWhere : Bool → Option (List ℕ) → Type 0
IsEndWhere true left = IsAtEnd left
IsEndWhere false left = Unit {0}

-- It is a fact, which has one proof at most.
abbrev pub IsEndWhere-prop : (where_so : Bool) (left : Option (List ℕ)) → IsProp (IsEndWhere where_so left)
IsEndWhere-prop true None = Unit-prop
IsEndWhere-prop true (Some xs) = Coded-set (coded_list coded_ℕ) xs []
IsEndWhere-prop false left = Unit-prop
