use Rattle.std.proofs.Common.{refl, subst, sym}
use Rattle.rom_rule.specs.declared.views.Base.{Base}
use Rattle.rom_store.proofs.Batches.{done_calls}
use Rattle.rom_store.proofs.lone.do_pass.Goals as goal

pub returns-clause-passed : goal.returns-clause-passed
returns-clause-passed g c =
    let e = c.pass_behind.ensures in
    let held = c.requires.held in
    done_calls g.D.Device.shown g.O.Object.machine g.O.Object.Contents c.args.core.now c.pass_behind.new.core c.args.shared.now.layout.callers _ _ c.args.calls.now c.pass_behind.new.shipper c.pass_behind.result
    e.passed (e.wanted c.requires.some) c.requires.some held.formed.0 held.formed.1 (subst (λ (b : Base). g.O.Object.Contents b.order b.image held.formed.0 held.formed.1) (sym held.base_is) held.formed.2) c.requires.calls e.last e.cause refl refl
