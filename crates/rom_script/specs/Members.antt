-- The text of a group's members, one by one.
use Rattle.std.specs.Prelude.{ℕ, List, [], ◌++◌, codes, Option, None, Some}

-- what stands behind a member: nothing, or a semicolon between two spaces and the members to come
abbrev pub behind_line : Option (List ℕ) → List ℕ
behind_line None = []
behind_line (Some members) = codes " ; " ++ members
