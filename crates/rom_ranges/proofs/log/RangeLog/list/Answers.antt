use Rattle.std.proofs.Common.{◌≤◌, sym, subst}
use Rattle.rom_ranges.specs.Log.{Logged}
use Rattle.rom_ranges.specs.Ranges.{AreWithin, held_count}
use Rattle.rom_ranges.proofs.Counted.{count_within}
use Rattle.rom_ranges.proofs.log.RangeLog.list.Goals as goal

pub returns-clause-few : goal.returns-clause-few
returns-clause-few c len within =
    subst (λ (l : Logged). held_count l.ranges ≤ len) c.self.view_is
    (count_within len c.self.inside.ranges.items c.self.invariant.0 (subst (λ (l : Logged). AreWithin len l.ranges) (sym c.self.view_is) within))
