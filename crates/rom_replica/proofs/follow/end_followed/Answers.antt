use Rattle.std.proofs.Common.{◌≡◌, ◌+◌, length, ap, sym, subst, ◌∙◌}
use Rattle.rom_model.specs.Story.{count}
use Rattle.rom_replica.specs.Following.{IsFollowText}
use Rattle.rom_replica.proofs.follow.end_followed.Goals as goal

pub returns-clause-printed : goal.returns-clause-printed
returns-clause-printed g c = λ story of.
    let count_is : c.count.result ≡ count story = c.count.ensures story.opening story.opening_count of.opening ∙ ap (λ h. story.opening_count + length h) (sym of.history) in
    subst (λ n. IsFollowText g.O.Sink.shown c.args.followed.tally c.args.followed.stop n c.args.out.now c.tell_followed-status.new.out c.tell_followed-status.result) count_is c.tell_followed-status.ensures.printed
