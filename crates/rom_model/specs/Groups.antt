-- How many members a group has, and how many replies stand for it.
use Rattle.std.specs.Prelude.{◌≡◌, ℕ, nat_le, ◌&&◌, Bool, true, List, length, Option, Some, None, if◌then◌else◌}
use Rattle.rom_model.specs.declared.call.Kind.{Kind}
use Rattle.rom_model.specs.declared.call.Kind.TheVariants.{Single, Several}

-- whether a group may have m members: two to eight
abbrev pub is_size : ℕ → Bool
is_size m = nat_le 2 m && nat_le m 8

-- the members, where they are two to eight
abbrev pub sized : {X : Type 0} → List X → Option (List X)
sized xs = if is_size (length xs) then Some xs else None

-- An update is of one structure, or of a group that has two to eight members: no other is a program's.
abbrev pub HasSize : {X : Type 0} → Kind X (List X) → Type 0
HasSize (Single x) = Unit {0}
HasSize (Several xs) = is_size (length xs) ≡ true

-- a reply is to an update of one structure, or has those to at most eight members
abbrev pub HasFewReplies : {X : Type 0} → Kind X (List X) → Type 0
HasFewReplies (Single x) = Unit {0}
HasFewReplies (Several xs) = nat_le (length xs) 8 ≡ true
