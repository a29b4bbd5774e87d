use Rattle.std.proofs.Common.{◌≤◌, arith}
use Rattle.rom_name.proofs.Peeking.{behind_held, none_held}
use Rattle.rom_name.proofs.peeked.PeekedSource.read.Goals as goal

pub returns-clause-bytes : goal.returns-clause-bytes
returns-clause-bytes g c =
    let past : c.args.self.now.len ≤ c.args.self.now.at = omega (arith, c.if-self.false) in
    behind_held _ _ _ c.read-answer.result _ (none_held c.args.self.now.held c.args.self.now.at c.args.self.now.len past) c.read-answer.ensures.bytes
