use Rattle.std.proofs.Common.{rules}
use Rattle.rom_text.proofs.Numbers.{number_found, number_outside}
use Rattle.rom_text.proofs.phrase.read_within.Goals as goal

pub returns-then-contains-clause-number : goal.returns-then-contains-clause-number
returns-then-contains-clause-number c = number_found c.args.least c.args.most c.args.word.now c.in_ok-number.number (search rules) (search rules) (search rules) (search rules)

pub returns-else-contains-clause-number : goal.returns-else-contains-clause-number
returns-else-contains-clause-number c = number_outside c.args.least c.args.most c.args.word.now c.in_ok-number.number (search rules) (search rules) (search rules)
