-- What the history and the records say at the closing, and the callers' passes with them.
use Rattle.std.proofs.Common.{◌≡◌, inl, inr, ℕ, zero, suc, ◌+◌, ◌-◌, ◌<◌, ◌≤◌, List, [], ◌∷◌, ◌++◌, length, get_or, map, take, drop, Option, Some, None, IsSome, IfSome, refl, sym, ap, ◌∙◌, subst, arith, append_assoc, length-append}
use Rattle.std.specs.Prelude.{slice_get, IsSomeAnd}
use Rattle.std.specs.List.{AllByRecursion}
use Rattle.std.proofs.lemmas.List.{take-append-drop}
use Rattle.std.proofs.lemmas.Option.{slice_get-get_or}
use Rattle.rom_model.specs.History.{after}
use Rattle.rom_model.specs.Leaving.{IsClosed, IsFront, IsKept}
use Rattle.rom_model.specs.Machine.{Machine, on_words}
use Rattle.rom_model.specs.Passes.{all_told}
use Rattle.rom_model.specs.Story.{Story, IsInDoubt, len_after, state_at}
use Rattle.rom_model.specs.declared.entry.Entry.{Entry}
use Rattle.rom_model.specs.declared.kept.Kept.{Kept}
use Rattle.rom_model.specs.declared.record.Found.{Found}
use Rattle.rom_model.specs.declared.record.PassRecord.{PassRecord}
use Rattle.rom_model.proofs.Placed.{all_found, told_found}
use Rattle.rom_model.proofs.Recorded.{after_append}
use Rattle.rom_combine.proofs.Applies.{was_some}
use Rattle.rom_combine.specs.Histories.{ImageAt}
use Rattle.rom_combine.specs.Images.{HoldsIn}
use Rattle.rom_combine.specs.Session.{ImageNow, SessionImage}
use Rattle.rom_lr.specs.Seats.{IsWriterOf, writer_view}
use Rattle.rom_lr.specs.declared.shared.Shared.{Shared}
use Rattle.rom_lr.specs.declared.seats.WriterSeat.{WriterSeat}
use Rattle.rom_rule.specs.Calls.{told_to_caller}
use Rattle.rom_rule.specs.Kinds.{informed}
use Rattle.rom_rule.specs.Records as rule
use Rattle.rom_rule.specs.Records.{IsCall, Recorded}
use Rattle.rom_rule.specs.Views.{Told, book_in, kept_of, records_of}
use Rattle.rom_rule.specs.declared.views.Base.{Base}
use Rattle.rom_rule.specs.declared.views.Plan.{Plan}
use Rattle.rom_rule.specs.declared.views.View.{View}
use Rattle.rom_rule.proofs.Dated.{dated_long}
use Rattle.rom_twin.specs.declared.phase.Phase.{Phase}
use Rattle.rom_twin.specs.declared.phase.Phase.TheVariants as phase
use Rattle.rom_store.specs.Callers.{Caller}
use Rattle.rom_store.specs.Closing.{joined_of, kept_in}
use Rattle.rom_store.specs.Held.{story_at}
use Rattle.rom_store.specs.Indexed.{Indexed}
use Rattle.rom_store.specs.Moments.{IsCommittedAt}
use Rattle.rom_store.specs.Sessions.{IsDoubtOf}
use Rattle.rom_store.proofs.Stories.{doubt_is, state_whole, story_of}

pub all_by : {X : Type 0} (P Q : X → Type 0) (xs : List X) → ((x : X) → P x → Q x) → AllByRecursion P xs → AllByRecursion Q xs
all_by P Q [] to all = tt
all_by P Q (x ∷ xs) to all = (to x all.0, all_by P Q xs to all.1)

all_second : {X : Type 0} (P : X → Type 0) (xs ys : List X) → AllByRecursion P (xs ++ ys) → AllByRecursion P ys
all_second P [] ys all = all
all_second P (x ∷ xs) ys all = all_second P xs ys all.1

all_first : {X : Type 0} (P : X → Type 0) (xs ys : List X) → AllByRecursion P (xs ++ ys) → AllByRecursion P xs
all_first P [] ys all = tt
all_first P (x ∷ xs) ys all = (all.0, all_first P xs ys all.1)

no_none : {X : Type 0} (x : X) → None ≡ Some x → ⊥
no_none x is = cc

-- what holds of all that the writer keeps holds of what each of these callers keeps
pub joined_at : (P : Kept → Type 0) (ps : List Caller) (i : ℕ) (p : Caller) → slice_get ps i ≡ Some p → AllByRecursion P (joined_of ps) → P (kept_in p)
joined_at P [] i p at all = absurd (no_none p at)
joined_at P (q ∷ ps) zero p at all = let same : q ≡ p = cc in subst (λ (z : Caller). P (kept_in z)) same all.0
joined_at P (q ∷ ps) (suc i) p at all = joined_at P ps i p at (all_second P q.view.joined (joined_of ps) all.1)

-- one caller more
pub joined_more : (ps : List Caller) (p : Caller) → joined_of (ps ++ p ∷ []) ≡ joined_of ps ++ kept_in p ∷ p.view.joined
joined_more [] p = ap (λ (z : List Kept). kept_in p ∷ z) (nothing p.view.joined)
  where
    nothing : (xs : List Kept) → xs ++ [] ≡ xs
    nothing [] = refl
    nothing (x ∷ xs) = ap (λ (z : List Kept). x ∷ z) (nothing xs)
joined_more (q ∷ ps) p = ap (λ (z : List Kept). kept_in q ∷ z) (ap (λ (z : List Kept). q.view.joined ++ z) (joined_more ps p) ∙ sym (append_assoc q.view.joined (joined_of ps) (kept_in p ∷ p.view.joined)))

-- the writer's view once one caller more is taken in
pub taken_more : (v w u x : View) (ps : List Caller) (p : Caller) → w ≡ record v { joined = v.joined ++ joined_of ps; steps = w.steps } → u ≡ informed w x → x ≡ p.view → u ≡ record v { joined = v.joined ++ joined_of (ps ++ p ∷ []); steps = u.steps }
taken_more v w u x ps p before after same =
    let joined_is : w.joined ++ kept_of x ∷ x.joined ≡ v.joined ++ joined_of (ps ++ p ∷ [])
    = ap (λ (z : View). z.joined ++ kept_of x ∷ x.joined) before
    ∙ append_assoc v.joined (joined_of ps) (kept_of x ∷ x.joined)
    ∙ ap (λ (z : View). v.joined ++ (joined_of ps ++ kept_of z ∷ z.joined)) same
    ∙ ap (λ (z : List Kept). v.joined ++ z) (sym (joined_more ps p)) in
    ap (λ (z : View). record z { steps = u.steps }) after
    ∙ ap (λ (z : View). record z { joined = w.joined ++ kept_of x ∷ x.joined; steps = u.steps }) before
    ∙ ap (λ (z : List Kept). record v { joined = z; steps = u.steps }) joined_is

-- and its seat, which is still of that table
pub writer_stays : {Object Call Query Reply Answer : Type 0} (shared : Shared Object Call Query Reply Answer) (s t : WriterSeat) (x : View) → t.token.table_id ≡ s.token.table_id → writer_view t ≡ informed (writer_view s) x → IsWriterOf shared s → IsWriterOf shared t
writer_stays shared s t x same after of = (same ∙ of.0, ap (λ (z : View). z.base) after ∙ of.1)

all_the_same : {X : Type 0} (xs : List X) → map (λ x. x) xs ≡ xs
all_the_same [] = refl
all_the_same (x ∷ xs) = ap (λ zs. x ∷ zs) (all_the_same xs)

-- once all are taken in
pub taken_all : (v w : View) (ys ps : List Caller) → w ≡ record v { joined = v.joined ++ joined_of ys; steps = w.steps } → map (λ x. x) ys ≡ ps → w ≡ record v { joined = v.joined ++ joined_of ps; steps = w.steps }
taken_all v w ys ps taken all = taken ∙ ap (λ (z : List Caller). record v { joined = v.joined ++ joined_of z; steps = w.steps }) (sym (all_the_same ys) ∙ all)

-- what holds at each place holds of the element there
pub at_turn : {X : Type 0} (P : ℕ → X → Type 0) (xs : List X) (n : ℕ) (x : X) → Indexed P xs → (n < length xs) × (x ≡ get_or xs n x) → P n x
at_turn P xs n x all turn = subst (P n) (sym turn.1) (all.at n (get_or xs n x) (slice_get-get_or xs n x turn.0))

all_mapped : {X Y : Type 0} (P : X → Type 0) (xs : List (X × Y)) → AllByRecursion (λ x. P x.0) xs → AllByRecursion P (map (λ x. x.0) xs)
all_mapped P [] all = tt
all_mapped P (x ∷ xs) all = (all.0, all_mapped P xs all.1)

found_each : (P : Found → Type 0) (rs : List PassRecord) → AllByRecursion P (all_found rs) → AllByRecursion (λ r. AllByRecursion P r.found) rs
found_each P [] all = tt
found_each P (r ∷ rs) all = (all_first P r.found (all_found rs) all, found_each P rs (all_second P r.found (all_found rs) all))

abbrev IsOfCaller : ℕ → Found → Type 0
IsOfCaller callers f = (0 < f.caller) × (f.caller ≤ callers)

module _ {S C Q R A : Type 0} (m : Machine S C Q R A) (Contents : ℕ → List ℕ → S → ℕ → Type 0) (base : Base) (p : Plan) (s : S) (k : ℕ) (doubt : Option (List Entry)) where
  if_doubt : (ph : Phase) → IsDoubtOf (on_words m) ph (story_of base p s k doubt) → IfSome doubt (IsInDoubt (on_words m) (story_of base p s k doubt))
  if_doubt phase.Doubt is = of_some (IsInDoubt (on_words m) (story_of base p s k doubt)) doubt is
    where
      of_some : (P : List Entry → Type 0) (o : Option (List Entry)) → IsSomeAnd o P → IfSome o P
      of_some P (Some d) is = is
      of_some P None is = tt
  if_doubt phase.Clean is = subst (λ o. IfSome o (IsInDoubt (on_words m) (story_of base p s k doubt))) (sym is) tt
  if_doubt phase.Begun is = subst (λ o. IfSome o (IsInDoubt (on_words m) (story_of base p s k doubt))) (sym is) tt
  if_doubt phase.Persisted is = subst (λ o. IfSome o (IsInDoubt (on_words m) (story_of base p s k doubt))) (sym is) tt
  if_doubt phase.Committed is = subst (λ o. IfSome o (IsInDoubt (on_words m) (story_of base p s k doubt))) (sym is) tt
  if_doubt phase.Copied is = subst (λ o. IfSome o (IsInDoubt (on_words m) (story_of base p s k doubt))) (sym is) tt
  if_doubt phase.Undo is = subst (λ o. IfSome o (IsInDoubt (on_words m) (story_of base p s k doubt))) (sym is) tt
  if_doubt phase.Redo is = subst (λ o. IfSome o (IsInDoubt (on_words m) (story_of base p s k doubt))) (sym is) tt

  are_calls : (rs : List PassRecord) → AllByRecursion (λ r. AllByRecursion (λ f. IsCall (on_words m) base f.args) r.found) rs → AllByRecursion (λ r. AllByRecursion (λ f. IsSome (m.words_call f.args)) r.found) rs
  are_calls rs all = all_by _ _ rs (λ r found. all_by _ _ r.found (λ f is. was_some _ (m.words_call f.args) (is s k)) found) all

  -- The session's history is that of its passes, which found no calls but those of its callers.
  pub is_closed : (ph : Phase) → IsDoubtOf (on_words m) ph (story_of base p s k doubt) → Recorded (on_words m) base s k (book_in p) → AllByRecursion (λ x. (0 < x.0.caller) × (x.0.caller ≤ base.callers)) p.told →
      IsClosed m (story_of base p s k doubt) base.callers
  is_closed ph is r known = record {
    recorded = record { calls = are_calls (records_of p) r.calls; made = r.made; in_order = r.in_order; in_doubt = if_doubt ph is };
    known =
        let all : List Told = all_told (on_words m) base.order s k (records_of p) in
        let told : AllByRecursion (λ x. IsOfCaller base.callers x.0) all = subst (AllByRecursion (λ x. IsOfCaller base.callers x.0)) r.told known in
        found_each (IsOfCaller base.callers) (records_of p) (subst (AllByRecursion (IsOfCaller base.callers)) (told_found (on_words m) base.order s k (records_of p)) (all_mapped (IsOfCaller base.callers) all told));
  }

  is_front : (f : ℕ) → rule.IsRecordedFront k (records_of p) f → IsFront m (story_of base p s k doubt) f
  is_front f x =
      let rs = records_of p in
      let split : rs ≡ take x.0 rs ++ drop x.0 rs = sym (take-append-drop x.0 rs) in
      let len : f - k ≡ len_after 0 (take x.0 rs) = omega (arith, x.2) in
      (omega (arith, x.2), (take x.0 rs, drop x.0 rs, split, len))

  -- The session has of a caller what it keeps.
  pub is_kept : (v : Kept) → Recorded (on_words m) base s k (book_in p) → rule.IsKeptInBook k (book_in p) v → told_to_caller p.told v.number ≡ v.told → IsKept m (story_of base p s k doubt) v
  is_kept v r is told = record {
    seen = is.0;
    fronts = all_by _ _ v.fronts is_front is.1;
    told = ap (λ (z : List Told). told_to_caller z v.number) (sym r.told) ∙ told;
  }

  -- All that it has seen was committed at its moments.
  pub is_certain : (v : Kept) → Recorded (on_words m) base s k (book_in p) → rule.IsKeptInBook k (book_in p) v → IsCommittedAt (story_of base p s k doubt) v.moments (length v.seen)
  is_certain v r is =
      let rs = records_of p in let x = is.2 in
      record {
        first = take x.0 rs;
        rest = drop x.0 rs;
        stands = sym (take-append-drop x.0 rs);
        reaches = x.2;
        moments_are = x.3;
        one_each = dated_long Contents (on_words m) base s k (book_in p) r (length v.seen) v.moments x;
      }

  -- Each image that a stop may leave now is one of the story now.
  pub image_now : (ph : Phase) → IsDoubtOf (on_words m) ph (story_of base p s k doubt) → (i : List ℕ) → ImageAt Contents (on_words m) base s k ph p i → ImageNow Contents (on_words m) (story_of base p s k doubt) i
  image_now ph is i (inl holds) =
      let story : Story S = story_of base p s k doubt in let h : List Entry = p.history in
      let same : k + length h ≡ k + length h + 0 = omega arith in
      inl (subst (λ (z : S × ℕ). HoldsIn Contents base.order z.0 z.1 i) (λ j. (sym (state_whole (on_words m) story (length h) refl) j, same j)) holds)
  image_now ph is i (inr x) =
      let story : Story S = story_of base p s k doubt in let h : List Entry = p.history in let d : List Entry = x.1 in
      let long : k + length (h ++ d) ≡ k + length h + length d = omega (arith, length-append h d) in
      let state_is : after (on_words m) base.order s k (h ++ d) ≡ after (on_words m) base.order (state_at (on_words m) story (k + length h)) (k + length h) d
      = after_append (on_words m) base.order s k h d ∙ ap (λ (z : S). after (on_words m) base.order z (k + length h) d) (sym (state_whole (on_words m) story (length h) refl)) in
      inr (d, doubt_is m Contents base p ph s k doubt d x.0 is x.2, subst (λ (z : S × ℕ). HoldsIn Contents base.order z.0 z.1 i) (λ j. (state_is j, long j)) x.3)

  -- An image of the history is one of each story of it.
  pub image_of_story : (step : ℕ → S → ℕ → List ℕ → Option (S × List ℕ)) (i : List ℕ) → SessionImage Contents step (story_at base s k p) i → SessionImage Contents step (story_of base p s k doubt) i
  image_of_story step i (inl at) = inl (record { len = at.len; boundary = at.boundary; reached = at.reached; holds = at.holds })
  image_of_story step i (inr at) = inr (record { before = at.before; pass = at.pass; since = at.since; stands = at.stands; fate_is = at.fate_is; reached = at.reached; holds = at.holds })
