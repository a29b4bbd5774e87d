use Rattle.rom_blob_region.proofs.Filling.{filled}
use Rattle.rom_blob_region.proofs.set.fill_key.Goals as goal

pub returns-clause-filled : goal.returns-clause-filled
returns-clause-filled g c =
    filled c.args.node c.args.at c.len.result c.args.bytes.now (g.M.Look.shown.image c.args.space.now) (g.M.Look.shown.image c.store.new.space) (g.M.Look.shown.image c.store_changed.new.space) (g.M.Look.shown.image c.store_changed-2.new.space) c.requires.node c.requires.beside
    c.store.ensures.bytes c.store.ensures.ends c.store.ensures.others c.store_changed.ensures.image c.len.ensures.many c.store_changed-2.ensures.image
