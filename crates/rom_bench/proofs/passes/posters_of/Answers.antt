use Rattle.std.proofs.Common.{◌+◌, length, ◌∙◌, refl}
use Rattle.std.proofs.lemmas.Iterator.Adapters.{YieldsList-from_vec}
use Rattle.std.proofs.lemmas.Iterator.Consumers.{YieldsList-turn}
use Rattle.std.proofs.lemmas.Option.{slice_get_read}
use Rattle.rom_bench.proofs.passes.posters_of.Goals as goal

pub of-requires : goal.of-requires
of-requires c =
    let gives = c.into_iter-seat-iterator.ensures.into_iter_gives in
    let all = YieldsList-from_vec {s = c.into_iter-seat-iterator.result} c.args.seats.items gives.0 (gives.1 ∙ c.args.seats.ok.0) in
    let turn = YieldsList-turn all c.loop-seat.yielded c.loop-seat.seat-iterator c.loop-seat.yielded_by c.next.result c.next.new.self c.in-Some.seat c.in-Some.is c.next.ensures.steps in
    let at = length c.loop-seat.yielded in
    record { new = (at + 1, c.requires.seats at c.in-Some.seat (slice_get_read c.args.seats.items (length c.args.seats.items) at c.in-Some.seat refl turn.0 turn.1)) }
