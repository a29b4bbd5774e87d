-- A published batch.
use Rattle.std.specs.Prelude.{◌≡◌, ℕ, ◌+◌, List, ◌++◌, map, length, Option}
use Rattle.rom_model.specs.declared.entry.Entry.{Entry}
use Rattle.rom_model.specs.declared.record.Fate.TheVariants.{Published}
use Rattle.rom_model.specs.Passes.{fate_told}
use Rattle.rom_rule.specs.declared.views.Base.{Base}
use Rattle.rom_rule.specs.declared.views.Plan.{Plan}
use Rattle.rom_rule.specs.Calls.{found_of}
use Rattle.rom_rule.specs.Kinds.{IsBatch, record_list}

-- The history has grown by the batch of the requests, the pass has its one record with these counts of faults and this moment, and readers are sent to main.
pub record IsPublished {S : Type 0} (Contents : ℕ → List ℕ → S → ℕ → Type 0) (step : ℕ → S → ℕ → List ℕ → Option (S × List ℕ)) (b : Base) (p q : Plan) (before after : ℕ) : Type 0 where
  pub front : ℕ
  pub more : List Entry
  pub moment : ℕ
  pub batch : IsBatch Contents step b p front more
  pub history : q.history ≡ p.history ++ more
  pub records : q.records ≡ p.records
  pub mine : q.mine ≡ record_list (map found_of p.requests) record { found = map found_of p.requests; fate = Published; faults_before = before; faults_after = after; len = length p.history + length more; committed = moment }
  pub told : q.told ≡ p.told ++ fate_told Published front (map found_of p.requests) more
  pub side : q.side ≡ 0
  pub passes : q.passes ≡ p.passes
  pub dealt : q.dealt ≡ p.dealt
