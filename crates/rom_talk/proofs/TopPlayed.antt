-- Talks on an opened heap are scripts that were played on it.
use Rattle.std.specs.Prelude.{◌≡◌, ◌≤◌, ℕ, List, [], ◌∷◌, map}
use Rattle.std.proofs.Common.{refl, ap, sym, subst, ◌∙◌}
use Rattle.rom_model.specs.Lawful.{IsLawful}
use Rattle.rom_model.specs.Leaving.{HaveLeft}
use Rattle.rom_model.specs.Machine.{Machine, on_words}
use Rattle.rom_model.specs.declared.line.Step.{Step}
use Rattle.rom_model.specs.declared.line.LineResult.{LineResult}
use Rattle.rom_device.specs.Device.{ShownDevice}
use Rattle.rom_header.specs.Held.{Holds}
use Rattle.rom_header.specs.Layout.{words_needed}
use Rattle.rom_open.specs.AtRest.{IsHeapAtRest}
use Rattle.rom_open.specs.Refusals.{named_order}
use Rattle.rom_open.specs.Within.{CallsOfOrder, LiesAtRest}
use Rattle.rom_combine.specs.Costs.{WithinHeap}
use Rattle.rom_combine.specs.Session.{SessionImage}
use Rattle.rom_hear.specs.Peers.{ShownPeer}
use Rattle.rom_lines.specs.Replies.{Reserved}
use Rattle.rom_lines.specs.Steps.{Items}
use Rattle.rom_rule.specs.Views.{base_of}
use Rattle.rom_rule.specs.declared.views.Base.{Base}
use Rattle.rom_store.specs.Callers.{Caller}
use Rattle.rom_store.specs.Closing.{ClosedSeen, IsClosedFrom}
use Rattle.rom_store.specs.Openings.{HasOpenedHeap, Started}
use Rattle.rom_store.specs.Playing.{HasPlayed, IsPlayed}
use Rattle.rom_store.specs.Start.{device_start}
use Rattle.rom_store.proofs.Spans.{held_opening, leaves_both, leaves_first}
use Rattle.rom_store.proofs.Starting.{opened_first, session_since}
use Rattle.rom_text.specs.Text.{Texts}
use Rattle.rom_talk.specs.Sessions.{AreTalks, IsTalkedOn, as_results, as_scripts}

-- the lines of the scripts are those that were heard
lines_of : {T : Type 0} (ls : List (List T)) → map (λ v. v.items) (as_scripts ls) ≡ ls
lines_of [] = refl
lines_of (l ∷ ls) = ap (λ more. l ∷ more) (lines_of ls)

-- and their results those that were told
told_of : {T : Type 0} (ls : List (List T)) → map (λ v. v.items) (as_results ls) ≡ ls
told_of [] = refl
told_of (l ∷ ls) = ap (λ more. l ∷ more) (told_of ls)

-- so what is said of these is said of those, and the other way about
module _ {X Y : Type 0} (P : List (List X) → List (List Y) → Type 0) (xs : List (List X)) (ys : List (List Y)) where
  pub of_scripts : P xs ys → P (map (λ v. v.items) (as_scripts xs)) (map (λ v. v.items) (as_results ys))
  of_scripts p = subst (λ zs. P (map (λ v. v.items) (as_scripts xs)) zs) (sym (told_of ys)) (subst (λ zs. P zs ys) (sym (lines_of xs)) p)

  pub of_talks : P (map (λ v. v.items) (as_scripts xs)) (map (λ v. v.items) (as_results ys)) → P xs ys
  of_talks p = subst (λ zs. P zs ys) (lines_of xs) (subst (λ zs. P (map (λ v. v.items) (as_scripts xs)) zs) (told_of ys) p)

-- what all talks on a heap were, by how its store was closed
pub talked_on : {S C Q R A D P : Type 0} (machine : Machine S C Q R A) (Contents : ℕ → List ℕ → S → ℕ → Type 0) (shown : ShownDevice D) (peer : ShownPeer Caller P) (texts : Texts R A) (Reads : List ℕ → Step C Q → Type 0) (base : Base) (at : D) (before after : List P) (status : ℕ) (closed : ClosedSeen D) →
    AreTalks machine Contents shown peer texts Reads before after status closed → IsClosedFrom shown machine Contents base (device_start shown at) (shown.left_since at) closed → IsTalkedOn machine Contents shown peer texts Reads base at before after status closed
talked_on machine Contents shown peer texts Reads base at before after status closed talks ended = record {
  talks = talks;
  played = record {
    session = record {
      story = ended.story;
      lawful = λ story is. of_scripts (λ xs ys. IsLawful machine story xs ys) talks.steps talks.results (talks.lawful story is);
      lasts = λ story is. record {
        left = of_scripts (λ xs ys. HaveLeft machine story 1 closed.session.callers xs ys) talks.steps talks.results (talks.left story is);
        lasts = talks.lasts story is;
      };
      now = ended.now;
      went = ended.went;
      since = λ told story is.
          let w = ended.went story is in
          leaves_first shown (device_start shown at) (shown.left_since at) base.faults (SessionImage Contents (on_words machine) story) w.first closed.device told w.begun (ended.since told story is);
      faults = ended.faults;
    };
    order = ended.order;
    image = ended.image;
    opening_faults = ended.opening_faults;
    since = λ told story is. let left = ended.since told story is in record { later = left.later; nothing_else = λ t i early now. left.nothing_else t i now; keeps = left.keeps };
    size = ended.size;
    outside = ended.outside;
  };
}

-- scripts that were played on a heap that was opened were played on its device
pub opened_played : {S C Q R A D : Type 0} (machine : Machine S C Q R A) (Contents : ℕ → List ℕ → S → ℕ → Type 0) (shown : ShownDevice D) (scripts : List (Items (Step C Q))) (results : List (Reserved (LineResult R A))) (was : D) (o : Started D) (closed : ClosedSeen D) →
    HasOpenedHeap shown Contents was o → IsPlayed shown machine Contents scripts results (base_of o.key) o.device closed → HasPlayed shown machine Contents scripts results was closed
opened_played machine Contents shown scripts results was o closed opened played =
    let b : Base = base_of o.key in
    let words = shown.words in
    let order_is : closed.session.order ≡ b.order = played.order in
    let image_is : closed.session.image ≡ b.image = played.image in
    record {
      session =
          let rests : LiesAtRest shown closed.session.order o.device = λ told. (b.image, subst (λ (n : ℕ). IsHeapAtRest n b.image (words o.device)) (sym order_is) (opened.rest told)) in
          let by_order : CallsOfOrder shown closed.session.order was o.device = subst (λ (n : ℕ). CallsOfOrder shown n was o.device) (sym order_is) opened.by_order in
          session_since shown machine Contents scripts results _ _ closed (λ d same. opened_first shown closed.session.order was o.device d b.faults opened.within by_order opened.faults.1 rests same) played.session;
      order = λ told. order_is ∙ opened.order told;
      fits = subst (λ (n : ℕ). words_needed n ≤ shown.size was) (sym order_is) opened.fits;
      held = λ told story is.
          let same : story.order ≡ b.order = is.order_is ∙ order_is in
          let at : Contents b.order b.image story.opening story.opening_count = subst (λ (z : ℕ × List ℕ). Contents z.0 z.1 story.opening story.opening_count) (λ j. (order_is j, image_is j)) is.opening in
          subst (λ (n : ℕ). Holds Contents n (words was) story.opening story.opening_count) (sym same) (opened.held told story.opening story.opening_count at);
      faults = played.opening_faults ∙ opened.faults.1;
      size = played.size ∙ opened.size;
      outside = λ told.
          let n : ℕ = named_order (words was) in
          let first : WithinHeap n (words was) (words o.device) = opened.outside told in
          let second : WithinHeap n (words o.device) (words closed.device) = subst (λ (m : ℕ). WithinHeap m (words o.device) (words closed.device)) (opened.order told) (played.outside told) in
          record {
            as_long = second.as_long ∙ first.as_long;
            before = λ k low other. second.before k low other ∙ first.before k low other;
            behind = λ k high. second.behind k high ∙ first.behind k high;
          };
      since = λ told story is.
          let step = on_words machine in
          let same : story.order ≡ b.order = is.order_is ∙ order_is in
          let at : Contents b.order b.image story.opening story.opening_count = subst (λ (z : ℕ × List ℕ). Contents z.0 z.1 story.opening story.opening_count) (λ j. (order_is j, image_is j)) is.opening in
          leaves_both shown (λ i. Holds Contents b.order i story.opening story.opening_count) (SessionImage Contents step story) (SessionImage Contents step story) was o.device closed.device
          (λ i held. held_opening Contents step story i (subst (λ (n : ℕ). Holds Contents n i story.opening story.opening_count) (sym same) held))
          (λ i image. image)
          (opened.held_images told story.opening story.opening_count at)
          (played.since told story is);
    }
