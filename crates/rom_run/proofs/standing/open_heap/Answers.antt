use Rattle.std.proofs.Common.{◌≡◌, ◌∙◌, ℕ, List, [], None, arith, ap, refl, subst, sym}
use Rattle.rom_header.specs.Held.{Holds}
use Rattle.rom_model.specs.Machine.{on_words}
use Rattle.rom_model.specs.Passes.{faults_after}
use Rattle.rom_model.specs.Story.{Story}
use Rattle.rom_combine.specs.Session.{SessionImage}
use Rattle.rom_header.specs.Layout.{words_needed}
use Rattle.rom_open.specs.AtRest.{IsHeapAtRest}
use Rattle.rom_open.specs.Refusals.{named_order}
use Rattle.rom_open.specs.Within.{CallsOfOrder, HasOpened, LiesAtRest}
use Rattle.rom_store.specs.Sessions.{IsStoryOf, unchanged}
use Rattle.rom_store.proofs.Tracing.{went_none}
use Rattle.rom_text.specs.Runs.{IsLineWrittenOrCutShort}
use Rattle.rom_run.specs.Refusing.{refusal_line}
use Rattle.rom_run.proofs.Lawful.{nothing_done}
use Rattle.rom_run.proofs.Leaving.{held_now, held_opening, leaves_by, mends_within}
use Rattle.rom_run.proofs.Showing.{none_opened, refusal_ends}
use Rattle.rom_run.proofs.Told.{if_told}
use Rattle.rom_run.proofs.standing.open_heap.Goals as goal

pub returns-in-Ok-clause-region : goal.returns-in-Ok-clause-region
returns-in-Ok-clause-region g c =
    let o = g.O.Object in
    rw (c.of-space.ensures, c.order-order.ensures.order) c.in-Ok.ensures.fit

pub returns-in-Ok-clause-story : goal.returns-in-Ok-clause-story
returns-in-Ok-clause-story g c = λ story of.
    let o = g.O.Object in
    let opened = subst (λ z. IsStoryOf o.machine o.Contents z story) c.unchanged-session.ensures of in
    (opened.order_is, opened.opening)

pub returns-in-Ok-clause-session : goal.returns-in-Ok-clause-session
returns-in-Ok-clause-session g c =
    let o = g.O.Object in
    let shown = g.D.Device.shown in
    let was = c.args.device in
    let heap = c.in-Ok.field-0 in
    let session_is = c.unchanged-session.ensures ∙ (λ i. unchanged (c.order-order.ensures.order i) (c.of-space.ensures i) c.fault_count-faults.result) in
    let seen = unchanged heap.geometry heap.image.items c.fault_count-faults.result in
    let (s, k, held) = c.in-Ok.ensures.fit in
    let holds : (story : Story o.State) → IsStoryOf o.machine o.Contents seen story → (i : List ℕ) → Holds o.Contents heap.geometry i story.opening story.opening_count → Holds o.Contents story.order i story.opening story.opening_count
    = λ story of i is. subst (λ (n : ℕ). Holds o.Contents n i story.opening story.opening_count) (sym of.order_is) is in
    rw session_is record {
      story = (
        record { order = heap.geometry; opening = s; opening_count = k; opening_faults = c.fault_count-faults.result; history = []; records = []; in_doubt = None },
        record { order_is = refl; opening = held; faults_is = refl; history = refl; records = refl; in_doubt = refl },
      );
      each = λ story of. record {
        opening = if_told shown.tells_words (shown.words was) (λ words. Holds o.Contents story.order words story.opening story.opening_count)
            (λ told. holds story of (shown.words was) ((c.in-Ok.ensures.held story.opening story.opening_count of.opening).before told));
        fits = let long : words_needed story.order ≡ words_needed heap.geometry = ap (λ (n : ℕ). words_needed n) of.order_is in omega (arith, long, c.in-Ok.ensures.fits, c.in-Ok.ensures.opens.left.size);
        at_end = λ images i left. held_now o.Contents (on_words o.machine) story i
            (holds story of i (subst (λ words. Holds o.Contents heap.geometry words story.opening story.opening_count) (sym (c.in-Ok.ensures.opens.certain refl images i left))
            ((c.in-Ok.ensures.held story.opening story.opening_count of.opening).holds (g.met.D.Device.tells_both images)))) of.history;
        since = λ images. leaves_by shown (λ i. Holds o.Contents heap.geometry i story.opening story.opening_count) (SessionImage o.Contents (on_words o.machine) story) was heap.device
            (λ i is. held_opening o.Contents (on_words o.machine) story i (holds story of i is)) ((c.in-Ok.ensures.held story.opening story.opening_count of.opening).images images);
        faults =
            let same : shown.faults heap.device ≡ shown.faults was = c.in-Ok.ensures.opens.faults in
            let none : faults_after story.opening_faults story.records ≡ story.opening_faults = ap (faults_after story.opening_faults) of.records in
            record {
              before = omega (arith, of.faults_is, c.fault_count-faults.ensures, same);
              after = omega (arith, none, of.faults_is, c.fault_count-faults.ensures);
              went =
                  let rests : LiesAtRest shown story.order heap.device = λ told. (heap.image.items, subst (λ (n : ℕ). IsHeapAtRest n heap.image.items (shown.words heap.device)) (sym of.order_is) (c.in-Ok.ensures.rest told)) in
                  went_none shown o.Contents (on_words o.machine) story (HasOpened shown story.order was) heap.device of.records
                  (record { calls = c.in-Ok.ensures.opens.within.calls; by_order = subst (λ (n : ℕ). CallsOfOrder shown n was heap.device) (sym of.order_is) c.in-Ok.ensures.by_order; faults = same; rest = rests });
            };
      };
      certain = λ story of. tt;
      told = λ story of. nothing_done o.machine story of.history of.records of.in_doubt
          (omega (arith, g.met.O.Object.contents_within heap.geometry heap.image.items story.opening story.opening_count of.opening));
    }

pub returns-in-Ok-clause-still : goal.returns-in-Ok-clause-still
returns-in-Ok-clause-still g c =
    let o = g.O.Object in
    let shown = g.D.Device.shown in
    let heap = c.in-Ok.field-0 in
    let session_is = c.unchanged-session.ensures ∙ (λ i. unchanged (c.order-order.ensures.order i) (c.of-space.ensures i) c.fault_count-faults.result) in
    rw session_is (λ story of. record {
      unpassed = of.records;
      held = λ told. subst (λ (n : ℕ). Holds o.Contents n (shown.words heap.device) story.opening story.opening_count) (sym of.order_is) ((c.in-Ok.ensures.held story.opening story.opening_count of.opening).holds told);
      calls = c.in-Ok.ensures.opens.within;
      at_end = λ images i left. subst (λ (n : ℕ). Holds o.Contents n i story.opening story.opening_count) (sym of.order_is)
          (subst (λ words. Holds o.Contents heap.geometry words story.opening story.opening_count) (sym (c.in-Ok.ensures.opens.certain refl images i left))
          ((c.in-Ok.ensures.held story.opening story.opening_count of.opening).holds (g.met.D.Device.tells_both images)));
      images = λ images. c.in-Ok.ensures.opens.images images;
    })

pub returns-in-Ok-clause-kept : goal.returns-in-Ok-clause-kept
returns-in-Ok-clause-kept g c =
    let shown = g.D.Device.shown in
    record {
      size = c.in-Ok.ensures.opens.left.size;
      outside = λ told. mends_within (named_order (shown.words c.args.device)) (shown.words c.args.device) (shown.words c.in-Ok.field-0.device) (c.in-Ok.ensures.opens.left.words told);
      spared = tt;
    }

pub returns-in-Err-clause-none : goal.returns-in-Err-clause-none
returns-in-Err-clause-none g c =
    let o = g.O.Object in
    let shown = g.D.Device.shown in
    let ended = c.end_unopened.ensures in
    let failed = c.in-Err.ensures in
    let refused = c.in-Err.refused in
    rw ended.worked record {
      none = none_opened o.machine o.Contents shown g.K.Sink.shown o.KIND o.Rejects o.earlier c.args.device refused.device c.args.out.now c.end_unopened.new.out refused.why
          failed.answer failed.opens.sizes failed.opens.faults failed.opens.images failed.opens.calls failed.opens.within (subst (λ kind. IsLineWrittenOrCutShort g.K.Sink.shown c.args.out.now c.end_unopened.new.out (refusal_line kind refused.why)) c.KIND.ensures ended.told);
      kept = record {
        size = failed.opens.left.size;
        outside = λ told. mends_within (named_order (shown.words c.args.device)) (shown.words c.args.device) (shown.words refused.device) (failed.opens.left.words told);
        spared = tt;
      };
      statuses = refusal_ends refused.why;
      ran = refl;
    }
