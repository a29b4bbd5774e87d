use Rattle.std.proofs.Common.{◌≡◌, ◌+◌, ◌*◌, ◌≤◌, All, length, map, ap, sym, subst, ◌∙◌, arith}
use Rattle.std.proofs.lemmas.List.{get_or-map, length-map}
use Rattle.std.proofs.lemmas.List.Elements.{All-map}
use Rattle.rom_model.specs.Trio.{trio}
use Rattle.rom_script.specs.Drill.{drill_scripts}
use Rattle.rom_run.specs.Played.{AreAnswered}
use Rattle.rom_shell.proofs.Drilling.{served_few, served_many}
use Rattle.rom_shell.proofs.drill.drill_heap.Goals as goal

pub end_of-requires-clause-told_callers : goal.end_of-requires-clause-told_callers
end_of-requires-clause-told_callers g c =
    let scripts = c.deref.result.now in
    let results = c.in-Ok-play_heap.played.results.items in
    let session = c.in-Ok-play_heap.ensures.session in
    let (story, of) = session.story in
    let served = (session.told story of).lawful.served in
    omega (arith, length-map results (λ v. v.items), served_many trio story 1 (map (λ v. v.items) scripts) (map (λ v. v.items) results) served, length-map scripts (λ v. v.items), ap length c.deref.ensures.value, c.in-Ok.ensures.many, c.requires.callers)

pub end_of-requires-clause-told_few : goal.end_of-requires-clause-told_few
end_of-requires-clause-told_few g c =
    let scripts = c.deref.result.now in
    let results = c.in-Ok-play_heap.played.results.items in
    let most = 4 + 2 * c.args.calls in
    let session = c.in-Ok-play_heap.ensures.session in
    let (story, of) = session.story in
    let served = (session.told story of).lawful.served in
    let few = subst (λ vs. All (λ v. length v.items ≤ most) vs) (sym c.deref.ensures.value) c.in-Ok.ensures.few in
    let told : All (λ rs. length rs ≤ most) (map (λ v. v.items) results) = served_few trio story most 1 (map (λ v. v.items) scripts) (map (λ v. v.items) results) served (All-map (λ ls. length ls ≤ most) (λ v. v.items) scripts few) in
    λ k d lt.
    omega (arith, ap length (get_or-map (λ v. v.items) results k d d.items lt), told k d.items (omega (arith, lt, length-map results (λ v. v.items))), c.requires.calls)

pub returns-in-Ok-play_heap-clause-session : goal.returns-in-Ok-play_heap-clause-session
returns-in-Ok-play_heap-clause-session g c =
    let session = c.in-Ok-play_heap.ensures.session in
    let results = map (λ v. v.items) c.in-Ok-play_heap.played.results.items in
    let lines : map (λ v. v.items) c.deref.result.now ≡ drill_scripts c.args.start c.args.callers c.args.calls = ap (map (λ v. v.items)) c.deref.ensures.value ∙ c.in-Ok.ensures.lines in
    let unprinted : c.play_heap.new.out ≡ c.args.out.now = c.in-Ok-play_heap.ensures.unprinted in
    let drilled = rw unprinted at c.end_of.ensures.drilled in
    rw (c.end_of.ensures.session, c.end_of.ensures.device) record {
      story = session.story;
      each = session.each;
      certain = session.certain;
      told = λ story of. drilled story of (subst (λ scripts. AreAnswered trio scripts results c.in-Ok-play_heap.played.closed.session.callers story) lines (session.told story of));
    }
