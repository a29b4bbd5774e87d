use Rattle.std.proofs.Common.{refl}
use Rattle.rom_device.proofs.Caching.{cached_syncs, settled}
use Rattle.rom_device.proofs.cached.Cached.make_certain.Goals as goal

pub returns-clause-certain : goal.returns-clause-certain
returns-clause-certain g c told = settled g.M.Medium.shown c.args.self.now.pending c.sync-synced.new.self c.sync-synced.result c.requires.handed (c.sync-synced.ensures.certain told (c.args.self.now.sure c.requires.sure))

pub returns-clause-does : goal.returns-clause-does
returns-clause-does g c =
    let old = c.args.self.now in
    cached_syncs g.M.Medium.shown old _ refl refl c.requires.handed (λ t i told le left. g.met.M.Medium.counts_now old.medium t i told le left) c.sync-synced.ensures.does
