use Rattle.std.proofs.Common.{refl}
use Rattle.std.proofs.lemmas.Result.{IfOk-weaker}
use Rattle.rom_order_carry.proofs.carry.CarryOrderedCarryOrdered.grow.Goals as goal

pub returns-clause-grown : goal.returns-clause-grown
returns-clause-grown c = IfOk-weaker c.grown.result _ _ (λ region each s k held. (s, refl, each s k held)) c.grown.ensures

pub returns-clause-fit : goal.returns-clause-fit
returns-clause-fit c = let r = c.requires.region in IfOk-weaker c.grown.result _ _ (λ region each. (r.0, r.1, each r.0 r.1 r.2)) c.grown.ensures
