-- What is known of a run behind an opening.
use Rattle.std.proofs.Common.{◌≡◌, ◌≤◌, ◌∙◌, ℕ, List, subst, sym}
use Rattle.rom_combine.specs.Costs.{WithinHeap}
use Rattle.rom_combine.specs.Session.{SessionImage}
use Rattle.rom_device.specs.Device.{ShownDevice}
use Rattle.rom_header.specs.Held.{Holds}
use Rattle.rom_header.specs.Layout.{words_needed}
use Rattle.rom_model.specs.Machine.{Machine, on_words}
use Rattle.rom_model.specs.Story.{Story}
use Rattle.rom_model.specs.declared.kept.Kept.{Kept}
use Rattle.rom_open.specs.AtRest.{IsHeapAtRest}
use Rattle.rom_open.specs.Refusals.{named_order}
use Rattle.rom_open.specs.Within.{CallsOfOrder, LiesAtRest}
use Rattle.rom_rule.specs.Views.{base_of}
use Rattle.rom_rule.specs.declared.views.Base.{Base}
use Rattle.rom_store.specs.Closing.{ClosedSeen}
use Rattle.rom_store.specs.Openings.{HasOpenedHeap, Started}
use Rattle.rom_store.specs.Sessions.{IsStoryOf}
use Rattle.rom_store.proofs.Spans.{held_opening, leaves_both}
use Rattle.rom_store.proofs.Starting.{opened_first}
use Rattle.rom_caller.specs.Worked.{HasRun, IsRunOn}

module _ {D S C Q R A T : Type 0} (shown : ShownDevice D) (machine : Machine S C Q R A) (Contents : ℕ → List ℕ → S → ℕ → Type 0) (Did : Base → ℕ → Kept → T → Type 0) (many : ℕ) (results : List T)
    (was : D) (o : Started D) (closed : ClosedSeen D) (opened : HasOpenedHeap shown Contents was o) (on : IsRunOn shown machine Contents Did many results (base_of o.key) o.device closed) where
  abbrev base : Base
  base = base_of o.key

  -- the state that a story begins with is the one that the opening's image stands for
  at_opening : (story : Story S) → IsStoryOf machine Contents closed.session story → (story.order ≡ base.order) × Contents base.order base.image story.opening story.opening_count
  at_opening story is = (is.order_is ∙ on.order, subst (λ (z : ℕ × List ℕ). Contents z.0 z.1 story.opening story.opening_count) (λ j. (on.order j, on.image j)) is.opening)

  rests : LiesAtRest shown closed.session.order o.device
  rests told = (base.image, subst (λ (n : ℕ). IsHeapAtRest n base.image (shown.words o.device)) (sym on.order) (opened.rest told))

  by_order : CallsOfOrder shown closed.session.order was o.device
  by_order = subst (λ (n : ℕ). CallsOfOrder shown n was o.device) (sym on.order) opened.by_order

  pub has_run : HasRun shown machine Contents Did many results was closed
  has_run = record {
    run = record {
      story = on.run.story;
      alone = on.run.alone;
      done = on.run.done;
      lasts = on.run.lasts;
      now = on.run.now;
      went = λ story is. let w = on.run.went story is in record { first = w.first; begun = opened_first shown closed.session.order was o.device w.first base.faults opened.within by_order opened.faults.1 rests w.begun; passes = w.passes };
      since = on.run.since;
      faults = on.run.faults;
    };
    order = λ told. on.order ∙ opened.order told;
    fits = subst (λ (n : ℕ). words_needed n ≤ shown.size was) (sym on.order) opened.fits;
    held = λ told story is. let (same, at) = at_opening story is in subst (λ (n : ℕ). Holds Contents n (shown.words was) story.opening story.opening_count) (sym same) (opened.held told story.opening story.opening_count at);
    faults = on.opening_faults ∙ opened.faults.1;
    size = on.size ∙ opened.size;
    outside = λ told.
        let n : ℕ = named_order (shown.words was) in
        let first : WithinHeap n (shown.words was) (shown.words o.device) = opened.outside told in
        let second : WithinHeap n (shown.words o.device) (shown.words closed.device) = subst (λ (m : ℕ). WithinHeap m (shown.words o.device) (shown.words closed.device)) (opened.order told) (on.outside told) in
        record { as_long = second.as_long ∙ first.as_long; before = λ k low other. second.before k low other ∙ first.before k low other; behind = λ k high. second.behind k high ∙ first.behind k high };
    since = λ told story is.
        let (same, at) = at_opening story is in
        leaves_both shown (λ i. Holds Contents base.order i story.opening story.opening_count) (SessionImage Contents (on_words machine) story) (SessionImage Contents (on_words machine) story) was o.device closed.device
        (λ i held. held_opening Contents (on_words machine) story i (subst (λ (n : ℕ). Holds Contents n i story.opening story.opening_count) (sym same) held))
        (λ i image. image)
        (opened.held_images told story.opening story.opening_count at)
        (on.since told story is);
  }
