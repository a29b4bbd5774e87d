use Rattle.std.proofs.Common.{take}
use Rattle.std.specs.List.{AllByRecursion, flat_map}
use Rattle.rom_text.specs.Trio.{SingleFits, next_text}
use Rattle.rom_text.proofs.Prints.{Printed}
use Rattle.rom_text.proofs.trio.print_listed.Given as goal

-- the sink has taken the replies so far
abbrev pub invariant-loop-reply : goal.invariant-loop-reply
invariant-loop-reply g l = record {
  printed : Printed g.O.Sink.shown l.fn.out l.out (flat_map next_text (take l.reply-index l.replies));
  fits : AllByRecursion SingleFits (take l.reply-index l.replies);
}
