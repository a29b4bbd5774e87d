-- What contracts see of a short list.
use Rattle.std.specs.Prelude.{List}

-- its items, from the first on
pub record Few (T : Type 0) : Type 0 where
  pub items : List T
