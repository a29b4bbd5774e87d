use Rattle.std.proofs.Common.{sym, subst}
use Rattle.atomic_table.specs.Seated.{TableId}
use Rattle.rom_model.specs.Machine.{on_words}
use Rattle.rom_rule.specs.Views.{plan_of}
use Rattle.rom_rule.specs.declared.views.Base.{Base}
use Rattle.rom_store.specs.Held.{IsBehindLock}
use Rattle.rom_store.proofs.Handing.{ships_on}
use Rattle.rom_store.proofs.Passed.{held_on}
use Rattle.rom_store.proofs.held.pass_behind.Goals as goal

pub returns-clause-held : goal.returns-clause-held
returns-clause-held g c =
    let old = c.args.core.now in
    let new = c.pass.new.self in
    let h = c.requires.held in
    let e = c.pass.ensures in
    let shown = g.D.Device.shown in
    let step = on_words g.O.Object.machine in
    let start = g.N.Label.start in
    let here = subst (λ (z : TableId × Base). IsBehindLock shown g.O.Object.Contents step z.0 z.1 start g.N.Label.since old) (λ j. (sym h.table_is j, sym h.base_is j)) h in
    subst (λ (z : TableId × Base). IsBehindLock shown g.O.Object.Contents step z.0 z.1 start g.N.Label.since new) (λ j. (h.table_is j, h.base_is j))
    (held_on g.O.Object.Contents step shown start g.N.Label.since old new c.args.shared.now.layout.callers c.pass.result
    here e.same e.kept e.passed.is e.passed.since (λ some. let by = e.done some in (by.mid, by.dated, by.soon, by.certain)) e.spent e.untouched (λ some. (e.done some).repaired) (λ f. (e.failed f).phase) e.passed.now e.device e.began (λ some. (e.done some).undone) e.whole
    (λ f. let by = e.failed f in (by.cause, by.whole)) (λ d. (e.doubt d).cause))

pub returns-clause-shipped : goal.returns-clause-shipped
returns-clause-shipped g c tells s k op =
    let shown = g.W.Shipper.shown in
    let old = c.args.core.now in
    let e = c.pass.ensures in
    let here = subst (λ (b : Base). g.O.Object.Contents b.order b.image s k) (sym c.requires.held.base_is) op in
    ships_on shown.text k (plan_of old.view).history (plan_of c.pass.new.self.view).history _ g.N.Label.ships (shown.state c.args.shipper.now) (shown.state c.pass.new.shipper)
    e.passed.is.history (c.requires.shipped tells s k op) (e.shipped tells s k here)

pub returns-clause-passed : goal.returns-clause-passed
returns-clause-passed g c = c.pass.ensures.passed.is
