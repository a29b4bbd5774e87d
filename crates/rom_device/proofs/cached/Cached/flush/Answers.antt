use Rattle.std.proofs.Common.{◌+◌, ◌≤◌, length, ◌∙◌, refl, arith}
use Rattle.rom_device.specs.Run.{with_run}
use Rattle.rom_device.proofs.Caching.{cached_hands, cached_handed, knows_by, same_words, handed_words}
use Rattle.rom_device.proofs.cached.Cached.flush.Goals as goal

pub invariant_of-self-clause-long : goal.invariant_of-self-clause-long
invariant_of-self-clause-long g c told = (c.write.ensures.hands.does.words told).only.as_long ∙ c.args.self.now.long told

pub invariant_of-self-clause-told : goal.invariant_of-self-clause-told
invariant_of-self-clause-told g c told =
    let old = c.args.self.now in
    let shown = g.M.Medium.shown in
    let fits : old.pending.first + old.pending.count ≤ length (shown.words old.medium) = omega (arith, old.inside, old.long told) in
    knows_by old.windows (with_run old.pending (shown.words old.medium)) (with_run old.pending (shown.words c.write.new.medium))
    (same_words shown old.pending old.medium c.write.new.medium c.write.result told fits c.write.ensures.hands) (old.told told)

pub invariant_of-self-2-clause-long : goal.invariant_of-self-2-clause-long
invariant_of-self-2-clause-long g c told = (c.write.ensures.hands.does.words told).only.as_long ∙ c.args.self.now.long told

pub invariant_of-self-2-clause-told : goal.invariant_of-self-2-clause-told
invariant_of-self-2-clause-told g c told =
    let old = c.args.self.now in
    let shown = g.M.Medium.shown in
    knows_by old.windows (with_run old.pending (shown.words old.medium)) (with_run c.clear.new.self (shown.words c.write.new.medium))
    (handed_words shown old.pending c.clear.new.self old.medium c.write.new.medium c.write.result c.if-not-write.false c.clear.ensures.count told c.write.ensures.hands) (old.told told)

pub returns-then-not-write-clause-only : goal.returns-then-not-write-clause-only
returns-then-not-write-clause-only g c =
    let old = c.args.self.now in
    cached_hands g.M.Medium.shown old _ c.write.result refl refl (λ told. omega (arith, old.inside, old.long told)) c.write.ensures.hands

pub returns-clause-only : goal.returns-clause-only
returns-clause-only g c = cached_handed g.M.Medium.shown c.args.self.now _ c.write.result c.if-not-write.false refl c.clear.ensures.count c.write.ensures.hands
