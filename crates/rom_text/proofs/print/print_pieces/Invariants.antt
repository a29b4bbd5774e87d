use Rattle.std.proofs.Common.{take}
use Rattle.std.specs.List.{flat_map}
use Rattle.rom_text.proofs.Prints.{Printed}
use Rattle.rom_text.proofs.print.print_pieces.Given as goal

-- the sink has taken the pieces so far
abbrev pub invariant-loop-piece : goal.invariant-loop-piece
invariant-loop-piece g l = Printed g.O.Sink.shown l.fn.out l.out (flat_map (λ piece. piece.now) (take l.piece-index l.pieces))
