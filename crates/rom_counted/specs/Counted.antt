-- Counted words, and the blanks that their counts begin with.
use Rattle.std.specs.Prelude.{◌≡◌, ℕ, ◌<◌, List}

-- the words, how many loads and stores were made, and the limit on the stores
pub record CountedWords : Type 0 where
  pub words : List ℕ
  pub loads : ℕ
  pub stores : ℕ
  pub limit : ℕ

-- A blank of that name and with so many parts begins this ledger, and can keep a count.
pub record BeginsLedger (ledger_name ledger_parts name parts : ℕ) : Type 0 where
  pub same_name : name ≡ ledger_name
  pub same_parts : parts ≡ ledger_parts
  pub some : 0 < parts
