use Rattle.std.proofs.Common.{◌≡◌, ◌+◌, map, length, ap, sym, subst, ◌∙◌}
use Rattle.rom_model.specs.History.{after}
use Rattle.rom_model.specs.Machine.{on_words}
use Rattle.rom_model.specs.Region.{Contents}
use Rattle.rom_model.specs.State.{tell}
use Rattle.rom_model.specs.Trio.{trio}
use Rattle.rom_model.specs.declared.call.Query.TheVariants.{Len, Total}
use Rattle.rom_script.specs.Drill.{dequeued, drill_lines, drill_scripts, enqueued}
use Rattle.rom_shell.specs.Drilled.{IsDrillText, drill_told}
use Rattle.rom_run.specs.Statuses.{exit_number}
use Rattle.rom_shell.proofs.Summing.{lawful_put, lawful_taken}
use Rattle.rom_shell.proofs.drill.end_of.Goals as goal

pub returns-clause-drilled : goal.returns-clause-drilled
returns-clause-drilled g c = λ story of answered.
    let start = c.args.start in
    let callers = c.args.callers in
    let calls = c.args.calls in
    let lawful = answered.lawful in
    let results = map (λ v. v.items) c.args.played.results.items in
    let first : c.ask.new.self ≡ c.args.played.closed = c.ask.ensures.still in
    let second : c.ask-2.new.self ≡ c.args.played.closed = c.ask-2.ensures.still ∙ first in
    let into = c.sum_enqueued.ensures.sum ∙ (λ i. enqueued (c.requires.scripts i) (map (λ v. v.items) (c.deref.ensures.value i))) ∙ lawful_put story (drill_scripts start callers calls) results lawful in
    let out_of = c.sum_dequeued.ensures.sum ∙ ap (λ vs. dequeued (map (λ v. v.items) vs)) c.deref-2.ensures.value ∙ lawful_taken story (drill_scripts start callers calls) results lawful in
    let sizes = c.ask.ensures.told story.opening story.opening_count of.opening
    ∙ (λ i. tell (after (on_words trio) (sym of.order_is i) story.opening story.opening_count (sym of.history i)) Len) in
    let total = c.ask-2.ensures.told story.opening story.opening_count (subst (λ z. Contents z.session.order z.session.image story.opening story.opening_count) (sym first) of.opening)
    ∙ (λ i. tell (after (on_words trio) (first i).session.order story.opening story.opening_count (first i).session.history) Total)
    ∙ (λ i. tell (after (on_words trio) (sym of.order_is i) story.opening story.opening_count (sym of.history i)) Total) in
    let count_is = c.count.ensures story.opening story.opening_count (subst (λ z. Contents z.session.order z.session.image story.opening story.opening_count) (sym second) of.opening)
    ∙ (λ i. story.opening_count + length (second i).session.history) ∙ ap (λ h. story.opening_count + length h) (sym of.history) in
    let text : drill_lines start callers calls c.sum_enqueued.result c.sum_dequeued.result c.ask.result c.ask-2.result c.count.result ≡ drill_told start callers calls story = λ i. drill_lines start callers calls (into i) (out_of i) (sizes i) (total i) (count_is i) in
    let same = ap (map (λ v. v.items)) c.deref-3.ensures.value in
    record {
      results = results;
      answered = answered;
      printed = subst (λ t. IsDrillText g.O.Sink.shown t results c.args.out.now c.tell_drill-status.new.out (exit_number c.tell_drill-status.result)) text
          (subst (λ rs. IsDrillText g.O.Sink.shown (drill_lines start callers calls c.sum_enqueued.result c.sum_dequeued.result c.ask.result c.ask-2.result c.count.result) rs c.args.out.now c.tell_drill-status.new.out (exit_number c.tell_drill-status.result)) same
          c.tell_drill-status.ensures.printed);
    }
