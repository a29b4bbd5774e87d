-- What a follower's session has of it, and what its images hold of a history that it follows.
use Rattle.std.proofs.Common.{◌≡◌, ℕ, zero, suc, ◌+◌, ◌-◌, ◌≤◌, List, [], ◌∷◌, ◌++◌, length, take, drop, refl, sym, ap, ◌∙◌, subst, arith, inl, inr}
use Rattle.std.specs.Prelude.{◌==◌, ◌⊎◌, Option, IfSome, filter, map}
use Rattle.std.specs.List.{AllByRecursion, enumerate_from}
use Rattle.std.proofs.lemmas.List.{drop-drop, length-drop, length-take}
use Rattle.rom_combine.specs.Session.{HoldsAfter, ImageNow, SessionImage}
use Rattle.rom_header.specs.Held.{Holds}
use Rattle.rom_model.specs.History.{after, batch, left}
use Rattle.rom_model.specs.Leaving.{IsClosed, IsKept}
use Rattle.rom_model.specs.Machine.{on_words}
use Rattle.rom_model.specs.Passes.{AreInOrder, all_told}
use Rattle.rom_model.specs.Region.{Contents}
use Rattle.rom_model.specs.Seen.{done_in}
use Rattle.rom_model.specs.State.{State}
use Rattle.rom_model.specs.Story.{IsInDoubt, Story, doubted_batch, state_at}
use Rattle.rom_model.specs.Trio.{trio}
use Rattle.rom_model.specs.declared.call.Updated.TheVariants as updated
use Rattle.rom_model.specs.declared.entry.Entry.{Entry}
use Rattle.rom_model.specs.declared.record.Fate.TheVariants.{Doubt}
use Rattle.rom_model.specs.declared.record.PassRecord.{PassRecord}
use Rattle.rom_model.proofs.Placed.{history_placed}
use Rattle.rom_rule.specs.Views.{Told}
use Rattle.rom_rule.specs.declared.views.Base.{Base}
use Rattle.rom_store.specs.Callers.{Caller}
use Rattle.rom_store.specs.Closing.{HasLeftSince, kept_in}
use Rattle.rom_store.specs.Start.{Start, device_start}
use Rattle.rom_device.specs.Device.{Leaves, ShownDevice}
use Rattle.rom_follow.specs.Closing.{ArePassesOf}
use Rattle.rom_follow.specs.Followed.{Followed, HasDoneUpdates}
use Rattle.rom_follow.specs.Following.{AreTries, FollowsHistory, HoldsPrefix, state_after_first, update_of}
use Rattle.rom_follow.proofs.Alone.{same_seen}
use Rattle.rom_follow.proofs.Alike.{after_by_calls}
use Rattle.rom_follow.proofs.Histories.{after_more}
use Rattle.rom_follow.proofs.Passes.{AreOwn, IsDoubtful, batch_one, doubt_at, one_each}
use Rattle.rom_follow.proofs.Tried.{IsNext, tried_next}

-- the session's story and the follower agree: of one caller it found all that it tried
pub record Agrees (story : Story State) (f : Followed) : Type 0 where
  pub closed : IsClosed trio story 1
  pub told : all_told (on_words trio) story.order story.opening story.opening_count story.records ≡ f.tried
  pub passes : ArePassesOf story.records f.tried
  pub history : story.history ≡ f.history

pub agree : (story : Story State) (p : Caller) (f : Followed) → IsClosed trio story 1 → IsKept trio story (kept_in p) → p.view.number ≡ 1 → f.tried ≡ p.view.outcomes → HasDoneUpdates story.order story.opening story.opening_count f → Agrees story f
agree story p f closed kept number tried done =
    let step = on_words trio in
    let told : List Told = all_told step story.order story.opening story.opening_count story.records in
    let each = one_each step story.order story.opening story.opening_count 0 story.opening_faults story.records closed.recorded.in_order closed.known in
    let same : told ≡ f.tried = sym each.1 ∙ ap (λ (n : ℕ). filter (λ x. x.0.caller == n) told) (sym number) ∙ kept.told ∙ sym tried in
    record {
      closed = closed;
      told = same;
      passes = subst (ArePassesOf story.records) same each.0;
      history = same_seen story.opening_count story.history f.history
          (ap (enumerate_from story.opening_count) closed.recorded.made ∙ history_placed step story.order story.opening story.opening_count story.records ∙ ap done_in same ∙ sym done.done);
    }

-- the first of lists that agree
same_first : {X Y : Type 0} (g : X → Y) (d n : ℕ) (xs es : List X) → d ≤ n → map g xs ≡ map g (take n es) → map g (take d xs) ≡ map g (take d es)
same_first g zero n xs es within same = refl
same_first g (suc d) zero xs es within same = absurd (omega (arith, within))
same_first g (suc d) (suc n) [] [] within same = refl
same_first g (suc d) (suc n) [] (e ∷ es) within same = cc
same_first g (suc d) (suc n) (x ∷ xs) [] within same = cc
same_first g (suc d) (suc n) (x ∷ xs) (e ∷ es) within same =
    let heads : g x ≡ g e = cc in
    let tails : map g xs ≡ map g (take n es) = cc in
    λ i. heads i ∷ same_first g d n xs es (omega (arith, within)) tails i

map_long : {X Y : Type 0} (g : X → Y) (xs : List X) → length (map g xs) ≡ length xs
map_long g [] = refl
map_long g (x ∷ xs) = ap suc (map_long g xs)

few_first : (n : ℕ) (es xs : List Entry) → map update_of xs ≡ map update_of (take n es) → n ≡ length xs → length xs ≤ length es
few_first n es xs same is = let long = ap length same in omega (arith, long, map_long update_of xs, map_long update_of (take n es), length-take n es, is)

module _ (base : Base) (s0 : State) (n0 : ℕ) (history : List Entry) (first : ℕ) (f : Followed) (follows : FollowsHistory base s0 n0 history first f) (story : Story State)
    (one_contents : (order : ℕ) (words : List ℕ) (s t : State) (j k : ℕ) → Contents order words s j → Contents order words t k → (s ≡ t) × (j ≡ k))
    (order_is : story.order ≡ base.order) (opening : Contents base.order base.image story.opening story.opening_count) (agrees : Agrees story f) where
  reaches : first + length f.history ≤ length history
  reaches = omega (arith, few_first (length f.history) (drop first history) f.history follows.entries refl, length-drop first history, follows.within)

  start_is : (story.opening ≡ state_after_first base.order s0 n0 history first) × (story.opening_count ≡ n0 + first)
  start_is = one_contents base.order base.image story.opening (state_after_first base.order s0 n0 history first) story.opening_count (n0 + first) opening follows.opening

  -- the state after so many entries of the session is that after so many more of the history
  state_there : (d : ℕ) → d ≤ length f.history → state_at (on_words trio) story (story.opening_count + d) ≡ state_after_first base.order s0 n0 history (first + d)
  state_there d within =
      let step = on_words trio in
      let s : State = state_after_first base.order s0 n0 history first in
      (λ i. after step (order_is i) (start_is.0 i) (start_is.1 i) (take (story.opening_count + d - story.opening_count) (agrees.history i)))
      ∙ ap (λ (n : ℕ). after step base.order s (n0 + first) (take n f.history)) (let here : story.opening_count + d - story.opening_count ≡ d = omega arith in here)
      ∙ after_by_calls step base.order s (n0 + first) (take d f.history) (take d (drop first history)) (same_first update_of d (length f.history) f.history (drop first history) within follows.entries)
      ∙ sym (after_more step base.order s0 n0 first d history follows.within)

  prefix : (d : ℕ) (s : State) (k : ℕ) (i : List ℕ) → first + d ≤ length history → s ≡ state_after_first base.order s0 n0 history (first + d) → k ≡ n0 + first + d → Holds Contents story.order i s k → HoldsPrefix base.order s0 n0 history first i
  prefix d s k i within same here holds = record {
    len = first + d;
    least_is = omega arith;
    within = within;
    holds = subst (λ (n : ℕ). Holds Contents base.order i (state_after_first base.order s0 n0 history (first + d)) n) (here ∙ (let sums : n0 + first + d ≡ n0 + (first + d) = omega arith in sums)) (subst (λ (x : State). Holds Contents base.order i x k) same (subst (λ (n : ℕ). Holds Contents n i s k) order_is holds));
  }

  pub boundary_prefix : (d : ℕ) (i : List ℕ) → d ≤ length story.history → HoldsAfter Contents (on_words trio) story d [] i → HoldsPrefix base.order s0 n0 history first i
  boundary_prefix d i reached holds =
      let within : d ≤ length f.history = omega (arith, reached, ap length agrees.history) in
      prefix d (state_at (on_words trio) story (story.opening_count + d)) (story.opening_count + d + 0) i (omega (arith, within, reaches)) (state_there d within) (omega (arith, start_is.1)) holds

  pub doubt_prefix : (before : List PassRecord) (pass : PassRecord) (since : List PassRecord) (i : List ℕ) → story.records ≡ before ++ pass ∷ since → pass.fate ≡ Doubt → pass.len ≤ length story.history → HoldsAfter Contents (on_words trio) story pass.len (doubted_batch (on_words trio) story pass) i → HoldsPrefix base.order s0 n0 history first i
  doubt_prefix before pass since i stands fate_is reached holds = by_batch (batch_one step story.order at_d (story.opening_count + pass.len) d.found)
    where
      step : ℕ → State → ℕ → List ℕ → Option (State × List ℕ)
      step = on_words trio

      at_d : State
      at_d = state_at (on_words trio) story (story.opening_count + pass.len)

      d : IsDoubtful (on_words trio) story.order story.opening story.opening_count 0 before pass since
      d = doubt_at (on_words trio) story.order story.opening story.opening_count 0 story.opening_faults before pass since
          (subst (AreInOrder (on_words trio) story.order story.opening story.opening_count 0 story.opening_faults) stands agrees.closed.recorded.in_order) (subst (AllByRecursion AreOwn) stands agrees.closed.known) fate_is

      within : pass.len ≤ length f.history
      within = omega (arith, reached, ap length agrees.history)

      tries : AreTries (drop first history) (d.earlier ++ (d.found, updated.Doubt) ∷ d.later)
      tries = subst (λ (xs : List Told). AreTries (drop first history) xs) (sym agrees.told ∙ ap (all_told (on_words trio) story.order story.opening story.opening_count) stands ∙ d.told) follows.tries

      next : IsNext (drop first history) (length (done_in d.earlier)) d.found
      next = tried_next (drop first history) d.earlier d.found d.later tries

      there : drop (first + pass.len) history ≡ next.0 ∷ next.1
      there = ap (λ (n : ℕ). drop n history) (let here : first + pass.len ≡ first + length (done_in d.earlier) = omega (arith, d.len_is) in here) ∙ sym (drop-drop (length (done_in d.earlier)) first history) ∙ next.2

      alone : doubted_batch (on_words trio) story pass ≡ batch (on_words trio) story.order at_d (story.opening_count + pass.len) (d.found ∷ [])
      alone = ap (batch (on_words trio) story.order at_d (story.opening_count + pass.len)) d.alone

      fits : first + pass.len + 1 ≤ length history
      fits = omega (arith, ap length there, length-drop (first + pass.len) history)

      by_batch : (batch (on_words trio) story.order at_d (story.opening_count + pass.len) (d.found ∷ []) ≡ []) ⊎ ((e : Entry) × (batch (on_words trio) story.order at_d (story.opening_count + pass.len) (d.found ∷ []) ≡ e ∷ []) × (e.args ≡ d.found.args)) → HoldsPrefix base.order s0 n0 history first i
      by_batch (inl none) = boundary_prefix pass.len i reached (subst (λ (more : List Entry). HoldsAfter Contents (on_words trio) story pass.len more i) (alone ∙ none) holds)
      by_batch (inr one) =
          let after_it : after (on_words trio) story.order at_d (story.opening_count + pass.len) (one.0 ∷ []) ≡ state_after_first base.order s0 n0 history (first + (pass.len + 1)) =
          (λ j. after (on_words trio) (order_is j) (state_there pass.len within j) (ap (λ (z : ℕ). z + pass.len) start_is.1 j) (one.0 ∷ []))
          ∙ ap (λ (args : List ℕ). left (state_after_first base.order s0 n0 history (first + pass.len)) (on_words trio base.order (state_after_first base.order s0 n0 history (first + pass.len)) (n0 + first + pass.len) args)) (one.2 ∙ next.3)
          ∙ ap (λ (n : ℕ). left (state_after_first base.order s0 n0 history (first + pass.len)) (on_words trio base.order (state_after_first base.order s0 n0 history (first + pass.len)) n next.0.args)) (let sums : n0 + first + pass.len ≡ n0 + (first + pass.len) = omega arith in sums)
          ∙ ap (λ (es : List Entry). after (on_words trio) base.order (state_after_first base.order s0 n0 history (first + pass.len)) (n0 + (first + pass.len)) (take 1 es)) (sym there)
          ∙ sym (after_more (on_words trio) base.order s0 n0 (first + pass.len) 1 history (omega (arith, fits)))
          ∙ ap (state_after_first base.order s0 n0 history) (let sums : first + pass.len + 1 ≡ first + (pass.len + 1) = omega arith in sums) in
          prefix (pass.len + 1) (after (on_words trio) story.order at_d (story.opening_count + pass.len) (one.0 ∷ [])) (story.opening_count + pass.len + 1) i (omega (arith, fits)) after_it (omega (arith, start_is.1))
          (subst (λ (more : List Entry). HoldsAfter Contents (on_words trio) story pass.len more i) (alone ∙ one.1) holds)

  pub session_prefix : (i : List ℕ) → SessionImage Contents (on_words trio) story i → HoldsPrefix base.order s0 n0 history first i
  session_prefix i (inl b) = boundary_prefix b.len i b.reached b.holds
  session_prefix i (inr x) = doubt_prefix x.before x.pass x.since i x.stands x.fate_is x.reached x.holds

  pub now_prefix : (i : List ℕ) → ImageNow Contents (on_words trio) story i → HoldsPrefix base.order s0 n0 history first i
  now_prefix i (inl whole) = boundary_prefix (length story.history) i (omega arith) whole
  now_prefix i (inr x) =
      let doubt : IsInDoubt (on_words trio) story x.0 = subst (λ (o : Option (List Entry)). IfSome o (IsInDoubt (on_words trio) story)) x.1 agrees.closed.recorded.in_doubt in
      doubt_prefix doubt.before doubt.pass doubt.since i doubt.stands doubt.fate (omega (arith, doubt.at_end))
      (subst (λ (n : ℕ). HoldsAfter Contents (on_words trio) story n (doubted_batch (on_words trio) story doubt.pass) i) (sym doubt.at_end) (subst (λ (more : List Entry). HoldsAfter Contents (on_words trio) story (length story.history) more i) doubt.batch_is x.2))

-- the state and the count at the end
pub ends_after : (base : Base) (s0 : State) (n0 : ℕ) (history : List Entry) (first : ℕ) (f : Followed) → FollowsHistory base s0 n0 history first f
    → ((order : ℕ) (words : List ℕ) (s t : State) (j k : ℕ) → Contents order words s j → Contents order words t k → (s ≡ t) × (j ≡ k))
    → (s : State) (k : ℕ) → Contents base.order base.image s k → (after (on_words trio) base.order s k f.history ≡ state_after_first base.order s0 n0 history (first + length f.history)) × (k + length f.history ≡ n0 + (first + length f.history))
ends_after base s0 n0 history first f follows one_contents s k held =
    let step = on_words trio in
    let start = one_contents base.order base.image s (state_after_first base.order s0 n0 history first) k (n0 + first) held follows.opening in (
      (λ i. after step base.order (start.0 i) (start.1 i) f.history)
          ∙ after_by_calls step base.order (state_after_first base.order s0 n0 history first) (n0 + first) f.history (take (length f.history) (drop first history)) follows.entries
          ∙ sym (after_more step base.order s0 n0 first (length f.history) history follows.within),
      omega (arith, start.1),
    )

pub ends_within : (base : Base) (s0 : State) (n0 : ℕ) (history : List Entry) (first : ℕ) (f : Followed) → FollowsHistory base s0 n0 history first f → first + length f.history ≤ length history
ends_within base s0 n0 history first f follows = omega (arith, few_first (length f.history) (drop first history) f.history follows.entries refl, length-drop first history, follows.within)

-- what a label tells of the images before the start is what the device tells
pub left_since_start : {D : Type 0} (shown : ShownDevice D) (start : Start) (test : ℕ → List ℕ → Type 0) (P : List ℕ → Type 0) (was now : D) → start ≡ device_start shown was
    → ((t : ℕ) (i : List ℕ) → (test t i → shown.left_since was t i) × (shown.left_since was t i → test t i)) → HasLeftSince shown start test P now → Leaves shown P was now
left_since_start shown start test P was now started same since =
    let clock : start.clock ≡ shown.clock was = ap (λ (s : Start). s.clock) started in
    record {
      later = omega (arith, clock, since.later);
      nothing_else = λ t i early left. elim (since.nothing_else t i left) [
        | inl before ↦ inl ((same t i).0 before)
        | inr other ↦ inr other
      ];
      keeps = λ t i early left. since.keeps t i (omega (arith, clock, early)) ((same t i).1 left);
    }
