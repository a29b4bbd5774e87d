use Rattle.std.proofs.Common.{List, sym, subst}
use Rattle.rom_model.specs.declared.entry.Entry.{Entry}
use Rattle.rom_store.specs.Held.{HasShipped}
use Rattle.rom_store.proofs.store.Store.close_shipping.Goals as goal

pub returns-clause-shipped : goal.returns-clause-shipped
returns-clause-shipped g c =
    subst (λ (es : List Entry). HasShipped g.O.Object.Contents g.W.Shipper.shown g.N.Label.base g.N.Label.ships c.into_parts-core.result.1 es) (sym c.end_session-closed.ensures.history) c.into_parts-core.ensures.shipped
