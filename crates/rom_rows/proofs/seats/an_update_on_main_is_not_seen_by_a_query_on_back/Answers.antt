use Rattle.std.proofs.Common.{arith}
use Rattle.rom_model.specs.State.{empty}
use Rattle.rom_rows.proofs.Untouched.{main_held}
use Rattle.rom_rows.proofs.seats.an_update_on_main_is_not_seen_by_a_query_on_back.Goals as goal

pub apply_main-reply-requires-clause-region : goal.apply_main-reply-requires-clause-region
apply_main-reply-requires-clause-region g c = (empty, 0, main_held c.in_ok-shared.writer.token.me.0 c.in_ok-shared.ensures.rests, omega arith)
