use Rattle.std.proofs.Common.{◌≡◌, ◌+◌, length, ap, sym, subst, ◌∙◌}
use Rattle.rom_model.specs.Story.{count}
use Rattle.rom_tail.specs.Tailed.{IsTailText}
use Rattle.rom_tail.proofs.following.end_tailed.Goals as goal

pub returns-clause-printed : goal.returns-clause-printed
returns-clause-printed g c = λ story of.
    let count_is : c.count.result ≡ count story = c.count.ensures story.opening story.opening_count of.opening ∙ ap (λ h. story.opening_count + length h) (sym of.history) in
    subst (λ n. IsTailText g.O.Sink.shown c.args.tailed.tally c.args.tailed.stop n c.args.out.now c.tell_tailed-status.new.out c.tell_tailed-status.result) count_is c.tell_tailed-status.ensures.printed
