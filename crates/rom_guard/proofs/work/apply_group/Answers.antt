use Rattle.std.proofs.Common.{ℕ, ◌-◌, ◌*◌, ◌≤◌, length, sym, subst, arith}
use Rattle.std.specs.Prelude.{slice_index}
use Rattle.rom_guard.specs.Working.{members_in}
use Rattle.rom_guard.specs.Wording.{size_most}
use Rattle.rom_guard.proofs.Reaching.{second_is}
use Rattle.rom_guard.proofs.Weights.{cells_enough}
use Rattle.rom_guard.proofs.work.apply_group.Goals as goal

pub whole_as_front-apply_in : goal.whole_as_front-apply_in
whole_as_front-apply_in g c =
    let many = second_is g.P.Members.shown c.requires.group in
    let few = size_most (length (members_in g.P.Members.shown c.args.words.now)) c.requires.group.size in
    let enough = g.met.P.Members.enough in
    let room = cells_enough g.O.Object.STORES (slice_index c.args.words.now 1) g.row.N enough.1 (omega (arith, many, few)) in
    (subst (λ (s : ℕ). (s - 1) * slice_index c.args.words.now 1 ≤ g.row.N) (sym c.STORES.ensures) room, omega (arith, enough.2))
