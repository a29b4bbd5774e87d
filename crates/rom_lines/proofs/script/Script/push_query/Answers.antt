use Rattle.std.proofs.Common.{refl}
use Rattle.rom_lines.specs.declared.script.Cell.TheVariants as cell
use Rattle.rom_lines.proofs.Steps.{no_words}
use Rattle.rom_lines.proofs.script.Script.push_query.Goals as goal

pub invariant_of-self-2 : goal.invariant_of-self-2
invariant_of-self-2 g c = rw (c.in_ok-push.ensures.items) (no_words g.O.Object.machine.words_call c.self.inside.words.items c.self.inside.cells.items (cell.Ask c.args.query) c.self.invariant tt refl)
