-- What a contract sees of a short list in the core.
use Rattle.std.specs.Prelude.{List}

-- the values, in order
pub record PerCaller (T : Type 0) : Type 0 where
  pub items : List T
