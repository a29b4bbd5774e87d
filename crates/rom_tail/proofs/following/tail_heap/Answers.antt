use Rattle.std.proofs.Common.{◌≡◌, ◌∙◌, ℕ, List, ap, arith, subst, sym}
use Rattle.rom_combine.specs.Costs.{WithinHeap}
use Rattle.rom_combine.specs.Session.{SessionImage}
use Rattle.rom_header.specs.Held.{Holds}
use Rattle.rom_header.specs.Layout.{words_needed}
use Rattle.rom_model.specs.Machine.{on_words}
use Rattle.rom_model.specs.Passes.{faults_after}
use Rattle.rom_model.specs.Region.{Contents}
use Rattle.rom_model.specs.State.{State}
use Rattle.rom_model.specs.Story.{Story}
use Rattle.rom_model.specs.Trio.{trio}
use Rattle.rom_open.specs.Refusals.{named_order}
use Rattle.rom_open.specs.AtRest.{IsHeapAtRest}
use Rattle.rom_open.specs.Within.{CallsOfOrder, HasOpened}
use Rattle.rom_rule.specs.Views.{base_of}
use Rattle.rom_rule.specs.declared.views.Base.{Base}
use Rattle.rom_run.proofs.Lasting.{lasts_certain}
use Rattle.rom_run.proofs.Told.{if_told}
use Rattle.rom_run.specs.Working.{IsSessionOn}
use Rattle.rom_run.specs.declared.heap.Heap.TheVariants.{Standing}
use Rattle.rom_store.specs.Sessions.{IsStoryOf}
use Rattle.rom_store.specs.Start.{HasStarted, device_start}
use Rattle.rom_store.proofs.Spans.{held_opening, leaves_both}
use Rattle.rom_store.proofs.Starting.{opened_first}
use Rattle.rom_store.proofs.Tracing.{went_since}
use Rattle.rom_tail.proofs.Closed.{tailed_by}
use Rattle.rom_tail.proofs.following.tail_heap.Goals as goal

pub returns-in-Ok-clause-session : goal.returns-in-Ok-clause-session
returns-in-Ok-clause-session g c =
    let shown = g.D.Device.shown in
    let was = c.args.device in
    let opening = c.in-Ok.opening in
    let opened = c.in-Ok.ensures.opened in
    let after = c.tail_on.ensures.ended in
    let closed = c.tail_on.result.closed in
    let b : Base = base_of opening.key in
    let same : (story : Story State) → IsStoryOf trio Contents closed.session story → story.order ≡ b.order = λ story of. of.order_is ∙ after.order in
    let at : (story : Story State) → IsStoryOf trio Contents closed.session story → Contents b.order b.image story.opening story.opening_count =
    λ story of. subst (λ (z : ℕ × List ℕ). Contents z.0 z.1 story.opening story.opening_count) (λ j. (after.order j, after.image j)) of.opening in
    let holds : (story : Story State) → IsStoryOf trio Contents closed.session story → (i : List ℕ) → Holds Contents b.order i story.opening story.opening_count → Holds Contents story.order i story.opening story.opening_count =
    λ story of i held. subst (λ (n : ℕ). Holds Contents n i story.opening story.opening_count) (sym (same story of)) held in
    let each : (story : Story State) → IsStoryOf trio Contents closed.session story → IsSessionOn trio Contents shown Standing was closed.device story =
    λ story of. record {
      opening = if_told shown.tells_words (shown.words was) (λ words. Holds Contents story.order words story.opening story.opening_count)
          (λ told. holds story of (shown.words was) (opened.held told story.opening story.opening_count (at story of)));
      fits = let long : words_needed story.order ≡ words_needed b.order = ap (λ (n : ℕ). words_needed n) (same story of) in omega (arith, long, opened.fits);
      at_end = λ images. after.now images story of;
      since = λ images. leaves_both shown (λ i. Holds Contents b.order i story.opening story.opening_count) (SessionImage Contents (on_words trio) story) (SessionImage Contents (on_words trio) story) was opening.device closed.device
          (λ i held. held_opening Contents (on_words trio) story i (holds story of i held)) (λ i image. image)
          (opened.held_images images story.opening story.opening_count (at story of))
          (let left = after.since images story of in record { later = left.later; nothing_else = λ t i early now. left.nothing_else t i now; keeps = left.keeps });
      faults = record {
        before = of.faults_is ∙ after.opening_faults ∙ opened.faults.1;
        after =
            let counted : faults_after story.opening_faults story.records ≡ faults_after closed.session.faults closed.session.records = λ i. faults_after (of.faults_is i) (of.records i) in
            omega (arith, counted, after.faults);
        went = went_since shown Contents (on_words trio) story (HasStarted shown b.faults (device_start shown opening.device) (shown.left_since opening.device)) (HasOpened shown story.order was) closed.device
            (λ d since. opened_first shown story.order was opening.device d b.faults opened.within (subst (λ (n : ℕ). CallsOfOrder shown n was opening.device) (sym (same story of)) opened.by_order) opened.faults.1
            (λ told. (b.image, subst (λ (n : ℕ). IsHeapAtRest n b.image (shown.words opening.device)) (sym (same story of)) (opened.rest told))) since)
            (after.went story of);
      };
    } in
    record {
      story = after.story;
      each = each;
      certain = λ story of. lasts_certain shown Contents (on_words trio) story closed.device closed.session.callers (c.tail_on.ensures.told_lasts story of);
      told = λ story of. tailed_by shown was closed.device g.S.Source.shown c.args.stream.now c.tail_on.new.stream c.tail_on.result.tally c.tail_on.result.stop closed.session story c.tail_on.ensures.left of (c.tail_on.ensures.closed story of) (each story of);
    }

pub returns-in-Ok-clause-kept : goal.returns-in-Ok-clause-kept
returns-in-Ok-clause-kept g c =
    let words = g.D.Device.shown.words in
    let opening = c.in-Ok.opening in
    let closed = c.tail_on.result.closed in
    record {
      size = c.tail_on.ensures.ended.size ∙ c.in-Ok.ensures.opened.size;
      outside = λ told.
          let n : ℕ = named_order (words c.args.device) in
          let first : WithinHeap n (words c.args.device) (words opening.device) = c.in-Ok.ensures.opened.outside told in
          let second : WithinHeap n (words opening.device) (words closed.device) = subst (λ (m : ℕ). WithinHeap m (words opening.device) (words closed.device)) (c.in-Ok.ensures.opened.order told) (c.tail_on.ensures.ended.outside told) in
          record {
            as_long = second.as_long ∙ first.as_long;
            before = λ k low other. second.before k low other ∙ first.before k low other;
            behind = λ k high. second.behind k high ∙ first.behind k high;
          };
      spared = tt;
    }

pub returns-in-Err-clause-none : goal.returns-in-Err-clause-none
returns-in-Err-clause-none g c = c.end_refused.ensures.none c.args.device c.in-Err.ensures.refused
