-- Known bytes that have grown at their end, and those that wait behind them.
use Rattle.std.specs.Prelude.{◌≡◌, ℕ, List, ◌++◌, length, drop, Option, Some, None, Result}
use Rattle.std.specs.Io.KnownBytes.{Keeps, append_known}
use Rattle.rom_model.specs.Faults.{HasCause}
use Rattle.rom_text.specs.Streams.{ShownSink}
use Rattle.std.specs.Coded.{Coded-set, coded_list, coded_ℕ, Unit-prop}

-- the bytes begin with those that were known before
abbrev pub Grown : Option (List ℕ) → Option (List ℕ) → Type 0
Grown None now = Unit {0}
Grown (Some xs) None = ⊥
Grown (Some xs) (Some ys) = ys ≡ xs ++ drop (length xs) ys

-- `Grown` is a fact, which has one proof at most
pub Grown-prop : (before now : Option (List ℕ)) → IsProp (Grown before now)
Grown-prop None now = Unit-prop
Grown-prop (Some xs) None = λ a b. absurd a
Grown-prop (Some xs) (Some ys) = Coded-set (coded_list coded_ℕ) ys (xs ++ drop (length xs) ys)

-- Bytes that waited were handed over to a sink, where these wait still: together they are as before.
pub record Hands {O : Type 0} (shown : ShownSink O) {T E : Type 0} (old new : O) (waited waits : List ℕ) (result : Result T E) : Type 0 where
  pub kept : Keeps (append_known (shown.taken old) waited) (append_known (shown.taken new) waits)
  pub cause : HasCause (shown.faults old) (shown.faults new) (shown.failing new) result
  pub rest : shown.rest new ≡ shown.rest old
