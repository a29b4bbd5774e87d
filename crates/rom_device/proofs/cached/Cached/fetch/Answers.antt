use Rattle.std.proofs.Common.{arith}
use Rattle.rom_device.specs.Cached.{shown_by_cached}
use Rattle.rom_device.proofs.Reading.{reads_then}
use Rattle.rom_device.proofs.Caching.{found_word}
use Rattle.rom_device.proofs.cached.Cached.fetch.Goals as goal

pub returns-then-is_some-clause-word : goal.returns-then-is_some-clause-word
returns-then-is_some-clause-word g c told =
    let old = c.args.self.now in
    found_word old.pending (g.M.Medium.shown.words old.medium) c.args.at c.get-waits.result (omega (arith, old.inside, old.long told)) c.get-waits.ensures

pub returns-clause-only : goal.returns-clause-only
returns-clause-only g c = reads_then (shown_by_cached g.M.Medium.shown) c.args.self.now c.make_way.new.self c.read_ahead.new.self c.make_way.ensures.only c.read_ahead.ensures.only
