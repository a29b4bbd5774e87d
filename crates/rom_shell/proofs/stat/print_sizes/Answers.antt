use Rattle.rom_script.proofs.Showing.{put, put_stops}
use Rattle.rom_shell.proofs.stat.print_sizes.Goals as goal

pub returns-clause-printed : goal.returns-clause-printed
returns-clause-printed g c s k held = put g.O.Sink.shown _ _ _ _ (c.print_stat.ensures.prints s k held)

pub returns-clause-writing : goal.returns-clause-writing
returns-clause-writing g c = let (s, k, held) = c.requires.region in put_stops g.O.Sink.shown _ _ _ (put g.O.Sink.shown _ _ _ _ (c.print_stat.ensures.prints s k held))

pub returns-clause-rest : goal.returns-clause-rest
returns-clause-rest g c = let (s, k, held) = c.requires.region in (c.print_stat.ensures.prints s k held).rest
