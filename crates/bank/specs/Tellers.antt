-- A teller between two of its calls.
use Rattle.std.specs.Prelude.{◌≡◌, ℕ, ◌*◌, ◌≤◌, false}
use Rattle.atomic_table.specs.Seated.{TableId}
use Rattle.rom_model.specs.Region.{Contents}
use Rattle.rom_rule.specs.declared.views.Base.{Base}
use Rattle.rom_store.specs.Callers.{IsCallerOf}
use Rattle.rom_store.specs.Closing.{kept_in}
use Rattle.rom_caller.specs.Standing.{Standing}
use Rattle.bank.specs.Promise.{HasTallied}
use Rattle.bank.specs.declared.Tally.{Tally}

-- It is outside of a state, and has tallied so many moves and rounds.
pub record IsTeller (table : TableId) (base : Base) (n rounds_read : ℕ) (c : Standing) (tally : Tally) : Type 0 where
  pub outside : c.within ≡ false
  pub of : IsCallerOf Contents table base c.caller
  pub few : tally.moved ≤ n
  pub behind : 16 * rounds_read ≤ n
  pub tallied : HasTallied base n rounds_read (kept_in c.caller) tally
