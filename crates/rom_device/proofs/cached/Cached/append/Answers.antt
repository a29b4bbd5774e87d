use Rattle.std.proofs.Common.{◌∙◌, ℕ, List, sym, ap, subst, arith, set}
use Rattle.rom_device.specs.Run.{with_run}
use Rattle.rom_device.specs.declared.run.Run.{Run}
use Rattle.rom_device.proofs.Agreeing.{put_agrees}
use Rattle.rom_device.proofs.Knowing.{knows_put}
use Rattle.rom_device.proofs.Caching.{cached_puts, follows_longer, knows_by, length-with_run, Longer, longer_words}
use Rattle.rom_device.proofs.cached.Cached.append.Goals as goal

pub invariant_of-self-clause-agree : goal.invariant_of-self-clause-agree
invariant_of-self-clause-agree g c =
    let old = c.args.self.now in
    put_agrees old.pending c.append.new.self old.windows c.set.new.self c.args.at c.args.value c.append.ensures.word c.append.ensures.others c.set.ensures.left c.set.ensures.right old.agree

pub invariant_of-self-clause-told : goal.invariant_of-self-clause-told
invariant_of-self-clause-told g c told =
    let old = c.args.self.now in
    let x : List ℕ = g.M.Medium.shown.words old.medium in
    let more : Longer c.args.at c.args.value old.pending c.append.new.self = follows_longer c.args.at c.args.value old.pending c.append.new.self c.requires.follows c.append.ensures.count c.append.ensures.first c.append.ensures.word c.append.ensures.others in
    knows_by c.set.new.self (set (with_run old.pending x) c.args.at c.args.value) (with_run c.append.new.self x) (sym (longer_words c.args.at c.args.value old.pending c.append.new.self x more))
    (knows_put old.windows c.set.new.self (with_run old.pending x) c.args.at c.args.value (omega (arith, c.requires.inside, old.long told, length-with_run old.pending x)) c.set.ensures.left c.set.ensures.right (old.told told))

pub returns-clause-written : goal.returns-clause-written
returns-clause-written g c told =
    let old = c.args.self.now in
    let more : Longer c.args.at c.args.value old.pending c.append.new.self = follows_longer c.args.at c.args.value old.pending c.append.new.self c.requires.follows c.append.ensures.count c.append.ensures.first c.append.ensures.word c.append.ensures.others in
    ap (λ (run : Run). with_run run (g.M.Medium.shown.words c.note_apart.new.self.medium)) c.note_apart.ensures.pending
    ∙ ap (λ m. with_run c.append.new.self (g.M.Medium.shown.words m)) c.note_apart.ensures.medium
    ∙ longer_words c.args.at c.args.value old.pending c.append.new.self (g.M.Medium.shown.words old.medium) more

pub returns-clause-does : goal.returns-clause-does
returns-clause-does g c =
    let old = c.args.self.now in
    let more : Longer c.args.at c.args.value old.pending c.append.new.self = follows_longer c.args.at c.args.value old.pending c.append.new.self c.requires.follows c.append.ensures.count c.append.ensures.first c.append.ensures.word c.append.ensures.others in
    cached_puts g.M.Medium.shown c.args.at c.args.value old c.note_apart.new.self c.note_apart.ensures.medium c.note_apart.ensures.len
    (subst (λ (run : Run). Longer c.args.at c.args.value old.pending run) (sym c.note_apart.ensures.pending) more)
    (λ i told left. omega (arith, c.requires.inside, old.long (g.met.M.Medium.tells_both told), g.met.M.Medium.images_fit old.medium i told left))
