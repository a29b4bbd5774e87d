use Rattle.std.specs.Prelude.{All}
use Rattle.rom_hear.specs.Memory.{shown_client}
use Rattle.rom_talk.specs.Serving.{IsFresh}
use Rattle.rom_runs.proofs.talks.clients_of.Given as goal

-- nothing has passed with the clients so far
abbrev pub invariant-loop-says : goal.invariant-loop-says
invariant-loop-says l = All (IsFresh shown_client) l.clients.items
