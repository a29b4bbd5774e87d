use Rattle.std.proofs.Common.{◌≡◌, ◌∙◌, ◌≤◌, ℕ, List, subst, sym}
use Rattle.rom_combine.specs.Costs.{WithinHeap}
use Rattle.rom_combine.specs.Session.{SessionImage}
use Rattle.rom_header.specs.Held.{Holds}
use Rattle.rom_header.specs.Layout.{words_needed}
use Rattle.rom_model.specs.Machine.{on_words}
use Rattle.rom_rule.specs.Views.{base_of}
use Rattle.rom_rule.specs.declared.views.Base.{Base}
use Rattle.rom_open.specs.Refusals.{named_order}
use Rattle.rom_open.specs.AtRest.{IsHeapAtRest}
use Rattle.rom_open.specs.Within.{CallsOfOrder, LiesAtRest}
use Rattle.rom_store.specs.Playing.{CanPlay}
use Rattle.rom_store.proofs.Spans.{held_opening, leaves_both}
use Rattle.rom_store.proofs.Starting.{opened_first, session_since}
use Rattle.rom_store.proofs.playing.play.Goals as goal

pub play_on-requires-clause-ready : goal.play_on-requires-clause-ready
play_on-requires-clause-ready g c = λ κs outlive.
    let o = c.in-Ok-open_store.opening in
    let opened = c.in-Ok-open_store.ensures in
    let ready : CanPlay g.O.Object.Contents g.O.Object.machine.call_words o.table_id (base_of o.key) o.passes c.args.scripts.now c.in-Ok.rooms.results c.in-Ok.rooms.jobs = record {
      opened = opened.formed;
      fresh = opened.passes;
      as_many = (opened.many.0, sym opened.many.1);
      room = c.in-Ok.ensures.rooms;
      few = c.requires.few;
    } in
    ready

pub returns-in-Ok-open_store-clause-played : goal.returns-in-Ok-open_store-clause-played
returns-in-Ok-open_store-clause-played g c =
    record {
      session =
          let shown = g.D.Device.shown in
          let opening = c.in-Ok-open_store.opening in
          let opened = c.in-Ok-open_store.ensures.opened in
          let closed = c.play_on.result.closed in
          let b : Base = base_of opening.key in
          let rests : LiesAtRest shown closed.session.order opening.device = λ told. (b.image, subst (λ (n : ℕ). IsHeapAtRest n b.image (shown.words opening.device)) (sym c.play_on.ensures.played.order) (opened.rest told)) in
          let by_order : CallsOfOrder shown closed.session.order c.args.device opening.device = subst (λ (n : ℕ). CallsOfOrder shown n c.args.device opening.device) (sym c.play_on.ensures.played.order) opened.by_order in
          session_since shown g.O.Object.machine g.O.Object.Contents c.args.scripts.now c.play_on.result.results.items _ _ closed
          (λ d same. opened_first shown closed.session.order c.args.device opening.device d (base_of opening.key).faults opened.within by_order opened.faults.1 rests same) c.play_on.ensures.played.session;
      order = λ told.
          c.play_on.ensures.played.order ∙ c.in-Ok-open_store.ensures.opened.order told;
      fits = subst (λ (n : ℕ). words_needed n ≤ g.D.Device.shown.size c.args.device) (sym c.play_on.ensures.played.order) c.in-Ok-open_store.ensures.opened.fits;
      held = λ told story is.
          let Contents = g.O.Object.Contents in
          let opening = c.in-Ok-open_store.opening in
          let closed = c.play_on.result.closed in
          let b : Base = base_of opening.key in
          let order_is : closed.session.order ≡ b.order = c.play_on.ensures.played.order in
          let image_is : closed.session.image ≡ b.image = c.play_on.ensures.played.image in
          let same : story.order ≡ b.order = is.order_is ∙ order_is in
          let at : Contents b.order b.image story.opening story.opening_count = subst (λ (z : ℕ × List ℕ). Contents z.0 z.1 story.opening story.opening_count) (λ j. (order_is j, image_is j)) is.opening in
          subst (λ (n : ℕ). Holds Contents n (g.D.Device.shown.words c.args.device) story.opening story.opening_count) (sym same) (c.in-Ok-open_store.ensures.opened.held told story.opening story.opening_count at);
      faults = c.play_on.ensures.played.opening_faults ∙ c.in-Ok-open_store.ensures.opened.faults.1;
      size = c.play_on.ensures.played.size ∙ c.in-Ok-open_store.ensures.opened.size;
      outside = λ told.
          let words = g.D.Device.shown.words in
          let opening = c.in-Ok-open_store.opening in
          let closed = c.play_on.result.closed in
          let n : ℕ = named_order (words c.args.device) in
          let first : WithinHeap n (words c.args.device) (words opening.device) = c.in-Ok-open_store.ensures.opened.outside told in
          let second : WithinHeap n (words opening.device) (words closed.device) = subst (λ (m : ℕ). WithinHeap m (words opening.device) (words closed.device)) (c.in-Ok-open_store.ensures.opened.order told) (c.play_on.ensures.played.outside told) in
          record {
            as_long = second.as_long ∙ first.as_long;
            before = λ k low other. second.before k low other ∙ first.before k low other;
            behind = λ k high. second.behind k high ∙ first.behind k high;
          };
      since = λ told story is.
          let Contents = g.O.Object.Contents in
          let step = on_words g.O.Object.machine in
          let opening = c.in-Ok-open_store.opening in
          let closed = c.play_on.result.closed in
          let b : Base = base_of opening.key in
          let order_is : closed.session.order ≡ b.order = c.play_on.ensures.played.order in
          let image_is : closed.session.image ≡ b.image = c.play_on.ensures.played.image in
          let same : story.order ≡ b.order = is.order_is ∙ order_is in
          let at : Contents b.order b.image story.opening story.opening_count = subst (λ (z : ℕ × List ℕ). Contents z.0 z.1 story.opening story.opening_count) (λ j. (order_is j, image_is j)) is.opening in
          leaves_both g.D.Device.shown (λ i. Holds Contents b.order i story.opening story.opening_count) (SessionImage Contents step story) (SessionImage Contents step story) c.args.device opening.device closed.device
          (λ i held. held_opening Contents step story i (subst (λ (n : ℕ). Holds Contents n i story.opening story.opening_count) (sym same) held))
          (λ i image. image)
          (c.in-Ok-open_store.ensures.opened.held_images told story.opening story.opening_count at)
          (c.play_on.ensures.played.since told story is);
    }
