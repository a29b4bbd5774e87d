use Rattle.std.proofs.Common.{ap, arith, length}
use Rattle.rom_blob.proofs.Asking.{no_fetch}
use Rattle.rom_blob.proofs.language.asked_query.Goals as goal

pub returns-in_default-clause-none : goal.returns-in_default-clause-none
returns-in_default-clause-none c = no_fetch c.args.name.now c.args.text.now (λ is. omega (arith, c.in_default.len_below, ap length is))
