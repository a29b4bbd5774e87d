use Rattle.std.proofs.Common.{length}
use Rattle.rom_store.proofs.lone.+do_posted.Given as goal

abbrev pub decreases-do_posted : goal.decreases-do_posted
decreases-do_posted g l = length l.left.now
