use Rattle.std.proofs.Common.{refl, sym, ap}
use Rattle.rom_device.specs.Run.{with_run}
use Rattle.rom_device.proofs.Agreeing.{read_agrees}
use Rattle.rom_device.proofs.Knowing.{knows_read}
use Rattle.rom_device.proofs.Caching.{cached_reads, knows_by}
use Rattle.rom_device.proofs.cached.Cached.read_ahead.Goals as goal

pub invariant_of-self-clause-agree : goal.invariant_of-self-clause-agree
invariant_of-self-clause-agree g c =
    let old = c.args.self.now in
    read_agrees old.pending old.windows c.read-read.new.self c.args.at c.requires.clear c.read-read.ensures.left c.read-read.ensures.right old.agree

pub invariant_of-self-clause-told : goal.invariant_of-self-clause-told
invariant_of-self-clause-told g c told =
    let old = c.args.self.now in
    let shown = g.M.Medium.shown in
    knows_by c.read-read.new.self (with_run old.pending (shown.words old.medium)) (with_run old.pending (shown.words c.read-read.new.medium)) (ap (λ x. with_run old.pending x) (sym (c.read-read.ensures.only.words told)))
    (knows_read old.pending old.windows c.read-read.new.self (shown.words old.medium) c.args.at c.requires.clear c.read-read.ensures.left c.read-read.ensures.right (c.read-read.ensures.left_told told) (c.read-read.ensures.right_told told) (old.told told))

pub returns-clause-only : goal.returns-clause-only
returns-clause-only g c = cached_reads g.M.Medium.shown c.args.self.now _ refl refl c.read-read.ensures.only
