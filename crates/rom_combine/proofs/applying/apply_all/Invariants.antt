use Rattle.std.proofs.Common.{◌≡◌, ℕ, ◌+◌, ◌-◌, ◌*◌, ◌≤◌, map, take, length}
use Rattle.rom_model.specs.Machine.{on_words, weight_on_words}
use Rattle.rom_combine.specs.Applying.{IsApplied, count_in}
use Rattle.rom_combine.specs.Costs.{weights}
use Rattle.rom_combine.specs.declared.scanning.Posted.{Posted}
use Rattle.rom_ranges.specs.Changes.{IsLogOf}
use Rattle.rom_lr.specs.Writing.{SetsPlan}
use Rattle.rom_rule.specs.Views.{plan_of}
use Rattle.rom_combine.proofs.applying.apply_all.Given as goal

-- the first calls are done
abbrev pub invariant-loop-i : goal.invariant-loop-i
invariant-loop-i g l = let b = l.fn.seat.token.me.0.base in let p = plan_of l.fn.seat.token.me.0 in
    SetsPlan l.fn.seat l.seat (record p { main = (plan_of l.seat.token.me.0).main }) × (length l.answers.items ≡ l.i)
    × ((s : g.O.Object.State) × (n : ℕ) × g.O.Object.Contents b.order b.image s n × (l.place ≡ n + length p.history) × IsApplied g.O.Object.Contents (on_words g.O.Object.machine) b s n p (plan_of l.seat.token.me.0).main l.i l.answers.items)
    × (IsLogOf p.back (plan_of l.seat.token.me.0).main l.log × (l.log.added ≤ g.O.Object.STORES * weights (weight_on_words g.O.Object.machine) (take (count_in (plan_of l.seat.token.me.0).main - l.place) (map (λ (one : Posted). one.args) l.fn.found))) × (l.log.added ≤ g.O.Object.STORES * g.O.Object.WEIGHT * l.i) × (l.log.room ≡ l.fn.log.room))
