use Rattle.std.proofs.Common.{◌≡◌, List, [], map, ap, subst, sym}
use Rattle.rom_model.specs.declared.entry.Entry.{Entry}
use Rattle.rom_combine.specs.Shipping.{Shipped, Ships, text_from, update_of}
use Rattle.rom_rule.specs.Views.{plan_of}
use Rattle.rom_rule.specs.declared.views.Plan.{Plan}
use Rattle.rom_store.proofs.Handing.{ships_none}
use Rattle.rom_store.proofs.opening.Opening.start_shipping.Goals as goal

pub new-requires-clause-shipped : goal.new-requires-clause-shipped
new-requires-clause-shipped g c = λ tells s k op.
    let shown = g.W.Shipper.shown in
    let began = g.N.Label.ships in
    let ships = c.requires.ships tells in
    let none : (plan_of c.self.inside.core.view).history ≡ [] = ap (λ (p : Plan). p.history) c.self.invariant.plan in
    subst (λ (z : Shipped × List Entry). Ships began z.0 (text_from shown.text k (map update_of z.1))) (λ i. (ships.0 i, sym none i)) (ships_none began ships.1)
