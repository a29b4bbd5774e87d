use Rattle.std.proofs.Common.{sym, subst}
use Rattle.rom_ranges.specs.Log.{Logged}
use Rattle.rom_ranges.specs.Ranges.{AreWithin}
use Rattle.rom_ranges.proofs.log.RangeLog.add.Goals as goal

pub returns-clause-within : goal.returns-clause-within
returns-clause-within c len lt was = c.hold.ensures.holds.within len lt (subst (λ (l : Logged). AreWithin len l.ranges) (sym c.self.view_is) was)
