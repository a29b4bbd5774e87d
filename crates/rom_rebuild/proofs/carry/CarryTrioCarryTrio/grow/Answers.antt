use Rattle.std.proofs.lemmas.Result.{IfOk-weaker}
use Rattle.rom_rebuild.proofs.carry.CarryTrioCarryTrio.grow.Goals as goal

pub returns-clause-fit : goal.returns-clause-fit
returns-clause-fit c =
    let (s, k, held) = c.requires.region in
    IfOk-weaker c.grow_region.result _ _ (λ region grown. let new = grown s k held in (new.0, k, new.2)) c.grow_region.ensures.grown
