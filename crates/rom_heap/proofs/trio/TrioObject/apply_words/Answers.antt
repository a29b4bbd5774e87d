use Rattle.std.proofs.Common.{arith}
use Rattle.rom_heap.proofs.Worded.{weight_within}
use Rattle.rom_heap.proofs.trio.TrioObject.apply_words.Goals as goal

pub apply_words-requires-clause-room : goal.apply_words-requires-clause-room
apply_words-requires-clause-room g c = λ has. let within = weight_within c.args.words.now in omega (arith, c.requires.room has, within)

pub returns-clause-weight : goal.returns-clause-weight
returns-clause-weight g c = weight_within c.args.words.now
