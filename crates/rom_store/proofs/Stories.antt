-- The stories of a session at its closing: one for each state and count that its opening image stands for.
use Rattle.std.proofs.Common.{◌≡◌, ℕ, ◌+◌, ◌-◌, List, length, take, Option, Some, None, IsSomeAnd, refl, sym, ap, ◌∙◌, subst, arith}
use Rattle.std.proofs.lemmas.List.{take_all}
use Rattle.rom_model.specs.History.{after, batch}
use Rattle.rom_model.specs.Machine.{Machine, on_words}
use Rattle.rom_model.specs.Story.{Story, IsInDoubt, state_at}
use Rattle.rom_model.specs.declared.entry.Entry.{Entry}
use Rattle.rom_model.specs.declared.kept.Kept.{Kept}
use Rattle.rom_model.proofs.InDoubt.{one_in_doubt}
use Rattle.rom_twin.specs.declared.phase.Phase.{Phase}
use Rattle.rom_twin.specs.declared.phase.Phase.TheVariants as phase
use Rattle.rom_combine.specs.Histories.{Doubted}
use Rattle.rom_rule.specs.Views.{records_of}
use Rattle.rom_rule.specs.declared.views.Base.{Base}
use Rattle.rom_rule.specs.declared.views.Plan.{Plan}
use Rattle.rom_store.specs.Held.{story_at}
use Rattle.rom_store.specs.Sessions.{EachStory, HasStory, IsDoubtOf, SessionSeen}

-- the session of this base and this plan, in this phase
abbrev pub session_of : Base → Plan → Phase → List Kept → SessionSeen
session_of base p ph callers = record { order = base.order; image = base.image; faults = base.faults; history = p.history; records = records_of p; phase = ph; callers = callers }

-- the story of that session from this state and count, with this batch in doubt
abbrev pub story_of : {S : Type 0} → Base → Plan → S → ℕ → Option (List Entry) → Story S
story_of base p s k doubt = record (story_at base s k p) { in_doubt = doubt }

-- the state at some count is the one after the history, where that has this length
pub state_whole : {S : Type 0} (step : ℕ → S → ℕ → List ℕ → Option (S × List ℕ)) (story : Story S) (len : ℕ) → len ≡ length story.history → state_at step story (story.opening_count + len) ≡ after step story.order story.opening story.opening_count story.history
state_whole step story len long =
    let all : take (story.opening_count + len - story.opening_count) story.history ≡ story.history = take_all (story.opening_count + len - story.opening_count) story.history (omega (arith, long)) in
    ap (λ (l : List Entry). after step story.order story.opening story.opening_count l) all

module _ {S C Q R A : Type 0} (m : Machine S C Q R A) (Contents : ℕ → List ℕ → S → ℕ → Type 0) (base : Base) (p : Plan) where
  -- what holds from each state and count at the opening holds of each story
  pub each_story : {callers : List Kept} (ph : Phase) (P : Story S → Type 0) → ((s : S) (k : ℕ) (doubt : Option (List Entry)) → Contents base.order base.image s k → IsDoubtOf (on_words m) ph (story_of base p s k doubt) → P (story_of base p s k doubt)) →
      EachStory m Contents (session_of base p ph callers) P
  each_story ph P each story is =
      let told : Story S = story_of base p story.opening story.opening_count story.in_doubt in
      let same : story ≡ told = λ i. record { order = is.order_is i; opening = story.opening; opening_count = story.opening_count; opening_faults = is.faults_is i; history = is.history i; records = is.records i; in_doubt = story.in_doubt } in
      subst P (sym same) (each story.opening story.opening_count story.in_doubt is.opening (subst (IsDoubtOf (on_words m) ph) same is.in_doubt))

  -- the batch in doubt of a plan is that of its story
  pub is_in_doubt : (s : S) (k : ℕ) (doubt : Option (List Entry)) (d : List Entry) → Doubted Contents (on_words m) base s k p d → IsInDoubt (on_words m) (story_of base p s k doubt) d
  is_in_doubt s k doubt d x =
      let story : Story S = story_of base p s k doubt in
      let state_is : after (on_words m) base.order s k p.history ≡ state_at (on_words m) story (k + x.pass.len) = sym (state_whole (on_words m) story x.pass.len x.unmoved) in
      record {
        before = x.earlier;
        pass = x.pass;
        since = x.later;
        stands = x.stands;
        fate = x.fate_is;
        last = x.last;
        at_end = x.unmoved;
        batch_is = x.batch_is ∙ (λ i. batch (on_words m) base.order (state_is i) (k + sym x.unmoved i) x.pass.found);
      }

  -- a session has a story, where in doubt there is a batch in doubt
  pub has_story : {callers : List Kept} (ph : Phase) (s : S) (k : ℕ) → Contents base.order base.image s k → (ph ≡ phase.Doubt → (d : List Entry) × Doubted Contents (on_words m) base s k p d) → HasStory m Contents (session_of base p ph callers)
  has_story ph s k opening doubted = let doubt = some_doubt ph doubted in
      (story_of base p s k doubt.0, record { order_is = refl; opening = opening; faults_is = refl; history = refl; records = refl; in_doubt = doubt.1 })
    where
      none : (ph : Phase) → IsDoubtOf (on_words m) ph (story_of base p s k None) → (doubt : Option (List Entry)) × IsDoubtOf (on_words m) ph (story_of base p s k doubt)
      none ph is = (None, is)

      some_doubt : (ph : Phase) → (ph ≡ phase.Doubt → (d : List Entry) × Doubted Contents (on_words m) base s k p d) → (doubt : Option (List Entry)) × IsDoubtOf (on_words m) ph (story_of base p s k doubt)
      some_doubt phase.Doubt doubted = let d = doubted refl in (Some d.0, is_in_doubt s k (Some d.0) d.0 d.1)
      some_doubt phase.Clean doubted = none phase.Clean refl
      some_doubt phase.Begun doubted = none phase.Begun refl
      some_doubt phase.Persisted doubted = none phase.Persisted refl
      some_doubt phase.Committed doubted = none phase.Committed refl
      some_doubt phase.Copied doubted = none phase.Copied refl
      some_doubt phase.Undo doubted = none phase.Undo refl
      some_doubt phase.Redo doubted = none phase.Redo refl

  -- in doubt, the story's batch is the one in doubt
  pub doubt_is : (ph : Phase) (s : S) (k : ℕ) (doubt : Option (List Entry)) (d : List Entry) → ph ≡ phase.Doubt → IsDoubtOf (on_words m) ph (story_of base p s k doubt) → Doubted Contents (on_words m) base s k p d → doubt ≡ Some d
  doubt_is ph s k doubt d in_doubt is x = of_option doubt refl (subst (λ z. IsDoubtOf (on_words m) z (story_of base p s k doubt)) in_doubt is)
    where
      of_option : (o : Option (List Entry)) → o ≡ doubt → IsSomeAnd o (IsInDoubt (on_words m) (story_of base p s k doubt)) → o ≡ Some d
      of_option (Some e) same also = ap (λ z. let some : Option (List Entry) = Some z in some) (one_in_doubt (on_words m) (story_of base p s k doubt) e d also (is_in_doubt s k doubt d x))
      of_option None same also = absurd also
