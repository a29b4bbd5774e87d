use Rattle.std.proofs.Common.{◌≡◌, ◌+◌, map, length, ap, sym, subst, ◌∙◌}
use Rattle.rom_model.specs.Story.{count}
use Rattle.rom_model.specs.Lawful.{IsLawful}
use Rattle.rom_run.specs.Played.{IsOutput}
use Rattle.rom_run.specs.Statuses.{exit_number}
use Rattle.rom_run.proofs.play.end_of.Goals as goal

pub returns-clause-played : goal.returns-clause-played
returns-clause-played g c = λ story of answered.
    let o = g.O.Object in
    let scripts = map (λ v. v.items) c.args.scripts.now in
    let results = map (λ v. v.items) c.args.played.results.items in
    let same = ap (map (λ v. v.items)) c.deref.ensures.value in
    let count_is : c.count.result ≡ count story = c.count.ensures story.opening story.opening_count of.opening ∙ ap (λ h. story.opening_count + length h) (sym of.history) in
    record {
      results = results;
      answered = answered;
      printed = subst (λ rs. IsOutput g.K.Sink.shown g.T.Output.shown story rs c.args.out.now c.tell_results-status.new.out (exit_number c.tell_results-status.result)) same
          (c.tell_results-status.ensures.printed story count_is (subst (λ rs. IsLawful o.machine story scripts rs) (sym same) answered.lawful));
    }
