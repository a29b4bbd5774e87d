-- What an answer has in the place of an update that was not done. The places of others are below the count's limit.
use Rattle.std.specs.Prelude.{ℕ, ◌+◌}
use Rattle.rom_model.specs.History.{LAST_COUNT}

-- the update found the count at its limit
abbrev pub SPENT : ℕ
SPENT = LAST_COUNT

-- the pass failed, and none of its updates was done
abbrev pub FAILED : ℕ
FAILED = LAST_COUNT + 1

-- the pass failed at the commit, and a stop may leave the update done
abbrev pub DOUBT : ℕ
DOUBT = LAST_COUNT + 2
