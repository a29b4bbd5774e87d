use Rattle.std.proofs.Common.{◌≡◌, map, take}
use Rattle.rom_combine.specs.Shipping.{reply_in}
use Rattle.rom_combine.proofs.replies.RepliesShipper.ship.Given as goal

-- the replies of the first updates
abbrev pub invariant-loop-i : goal.invariant-loop-i
invariant-loop-i l = l.self-inside.items.items ≡ map reply_in (take l.i l.batch.updates)
