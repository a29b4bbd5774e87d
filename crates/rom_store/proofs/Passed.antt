-- What a pass keeps of what lies behind the lock.
use Rattle.std.proofs.Common.{◌≡◌, ◌≢◌, ◌⊎◌, inl, inr, ⊎_elim, ℕ, zero, suc, ◌+◌, ◌*◌, ◌<◌, IsTrue, List, [], ◌∷◌, ◌++◌, map, length, Option, None, Some, refl, sym, ap, ◌∙◌, subst, arith, append_assoc, append-nil, length-append}
use Rattle.std.proofs.lemmas.List.{length-map}
use Rattle.std.specs.List.{AllByRecursion}
use Rattle.rom_model.specs.Faults.{Rose}
use Rattle.rom_model.specs.History.{after, batch}
use Rattle.rom_model.specs.Passes.{published}
use Rattle.rom_model.specs.Story.{Story, doubted_batch, len_after, state_at}
use Rattle.rom_model.specs.declared.entry.Entry.{Entry}
use Rattle.rom_model.specs.declared.record.Fate.{Fate}
use Rattle.rom_model.specs.declared.record.Fate.TheVariants as fate
use Rattle.rom_model.specs.declared.record.Found.{Found}
use Rattle.rom_model.specs.declared.record.PassRecord.{PassRecord}
use Rattle.rom_model.proofs.Recorded.{after_append}
use Rattle.rom_device.specs.Device.{ShownDevice, After, Becomes, Runs}
use Rattle.rom_device.proofs.Going.{becomes_by, runs_none}
use Rattle.rom_header.specs.Layout.{MAIN}
use Rattle.rom_model.specs.Blocks.{region_len}
use Rattle.rom_twin.specs.Seen.{NeedsRepair, Seen}
use Rattle.rom_twin.specs.declared.phase.Phase.{Phase}
use Rattle.rom_twin.specs.declared.phase.Phase.TheVariants as phase
use Rattle.rom_twin.proofs.Repairs.{state_or_joins}
use Rattle.rom_combine.proofs.Sessions.{len_more}
use Rattle.rom_combine.specs.AtRest.{Locked}
use Rattle.rom_combine.specs.Costs.{SpendsAtMost, WithinHeap, WritesHeap, batch_syncs, batch_writes, syncs_before_commit, writes_before_commit}
use Rattle.rom_combine.specs.Histories.{Doubted, HoldsHistory, ImageAt, IsCertainSince, PassMakes}
use Rattle.rom_combine.specs.Images.{HoldsIn, MayPublish}
use Rattle.rom_combine.proofs.Sessions.{state_whole}
use Rattle.rom_combine.specs.Passing.{IsPass}
use Rattle.rom_combine.specs.Causes.{BeginsIn, FailsAtCommit, FailsBeforeCommit}
use Rattle.rom_combine.specs.Session.{HoldsAfter, SessionImage}
use Rattle.rom_combine.specs.Told.{fate_of}
use Rattle.rom_combine.specs.declared.passed.Outcome.{Outcome}
use Rattle.rom_combine.specs.declared.passed.Outcome.TheVariants as outcome
use Rattle.rom_combine.specs.declared.passed.Passed.{Passed}
use Rattle.rom_combine.specs.declared.scanning.Posted.{Posted}
use Rattle.rom_combine.specs.Scanning.{posted_of}
use Rattle.rom_rule.specs.Calls.{found_of}
use Rattle.rom_rule.specs.Kinds.{record_list}
use Rattle.rom_rule.specs.Views.{plan_of, records_of}
use Rattle.rom_rule.specs.declared.views.Base.{Base}
use Rattle.rom_rule.specs.declared.views.Plan.{Plan}
use Rattle.rom_rule.specs.declared.views.Request.{Request}
use Rattle.rom_rule.specs.declared.views.View.{View}
use Rattle.rom_store.specs.Held.{IsBehindLock, story_at}
use Rattle.rom_store.specs.Start.{HasStarted, Start}
use Rattle.rom_store.specs.Traced.{ArePassesOn, HasPassCause, IsPassOn, MayMake, PassImage, WentThrough}
use Rattle.rom_store.proofs.Tracing.{passes_on, passes_stay, state_stays}

-- The device failed before COPYING was to be written, with no more writes and syncs than come before it.
abbrev FailsEarly : {D : Type 0} → ShownDevice D → ℕ → List ℕ → Seen D → Seen D → Type 0
FailsEarly shown order region t u = FailsBeforeCommit shown t.phase order region t.device u.device × SpendsAtMost shown (writes_before_commit t.phase order (region_len order)) (syncs_before_commit t.phase) t.device u.device

-- none of these is in doubt
abbrev NoDoubt : List PassRecord → Type 0
NoDoubt rs = AllByRecursion (λ r. r.fate ≢ fate.Doubt) rs

no_doubt_join : (rs more : List PassRecord) → NoDoubt rs → NoDoubt more → NoDoubt (rs ++ more)
no_doubt_join [] more h m = m
no_doubt_join (r ∷ rs) more h m = (h.0, no_doubt_join rs more h.1 m)

no_doubt_list : (fs : List Found) (r : PassRecord) → r.fate ≢ fate.Doubt → NoDoubt (record_list fs r)
no_doubt_list [] r other = tt
no_doubt_list (f ∷ fs) r other = (other, tt)

-- no call was found where none was handed out
none_found : (items : List Posted) (fs : List Request) → length items ≡ 0 → items ≡ map posted_of fs → map found_of fs ≡ []
none_found items [] none e = refl
none_found items (f ∷ fs) none e = let long = ap length e in absurd (omega arith)

some_found : (items : List Posted) (fs : List Request) → (length items ≡ 0 → ⊥) → items ≡ map posted_of fs → (r : PassRecord) → record_list (map found_of fs) r ≡ r ∷ []
some_found items [] some e r = absurd (some (ap length e))
some_found items (f ∷ fs) some e r = refl

none_of_none : (xs : List Entry) → length xs ≡ 0 → xs ≡ []
none_of_none [] e = refl
none_of_none (x ∷ xs) e = absurd (omega (arith, e))

module _ {S : Type 0} (Contents : ℕ → List ℕ → S → ℕ → Type 0) (step : ℕ → S → ℕ → List ℕ → Option (S × List ℕ)) (b : Base) where
  module _ (s : S) (k : ℕ) where
    abbrev Image : Plan → List ℕ → Type 0
    Image p i = SessionImage Contents step (story_at b s k p) i

    -- An image that holds the published history holds it at its length.
    pub holds_whole : (p : Plan) (i : List ℕ) → HoldsHistory Contents step b s k p.history i → HoldsAfter Contents step (story_at b s k p) (length p.history) [] i
    holds_whole p i = subst (λ (z : S × ℕ). HoldsIn Contents b.order z.0 z.1 i) (λ j. (sym (state_whole step (story_at b s k p)) j, (let e : k + length p.history ≡ k + length p.history + 0 = omega arith in e) j))

    -- It is one of the session, where the last record ends there.
    pub at_end : (p : Plan) → len_after 0 (records_of p) ≡ length p.history → (i : List ℕ) → HoldsHistory Contents step b s k p.history i → SessionImage Contents step (story_at b s k p) i
    at_end p ends i holds = inl (record {
      len = length p.history;
      boundary = (records_of p, [], sym (append-nil _), sym ends);
      reached = omega arith;
      holds = holds_whole p i holds;
    })

    -- One that holds it with the batch in doubt holds that at the length of the pass in doubt.
    pub holds_doubt : (p : Plan) (d : List Entry) (is : Doubted Contents step b s k p d) (i : List ℕ) → HoldsHistory Contents step b s k (p.history ++ d) i → HoldsAfter Contents step (story_at b s k p) is.pass.len (doubted_batch step (story_at b s k p) is.pass) i
    holds_doubt p d is i holds =
        let h : List Entry = p.history in
        let st : S = after step b.order s k h in
        let at : S × ℕ → List Entry = λ z. batch step b.order z.0 z.1 is.pass.found in
        let same : k + length h ≡ k + is.pass.len = omega (arith, is.unmoved) in
        let state : st ≡ state_at step (story_at b s k p) (k + is.pass.len) = sym (state_whole step (story_at b s k p)) ∙ ap (λ (n : ℕ). state_at step (story_at b s k p) n) same in
        let long : k + length (h ++ d) ≡ k + length h + length d = omega (arith, length-append h d) in
        let apart : HoldsIn Contents b.order (after step b.order st (k + length h) d) (k + length h + length d) i = subst (λ (z : S × ℕ). HoldsIn Contents b.order z.0 z.1 i) (λ j. (after_append step b.order s k h d j, long j)) holds in
        let made : HoldsIn Contents b.order (after step b.order st (k + length h) (at (st, k + length h))) (k + length h + length (at (st, k + length h))) i = subst (λ (l : List Entry). HoldsIn Contents b.order (after step b.order st (k + length h) l) (k + length h + length l) i) is.batch_is apart in
        subst (λ (z : S × ℕ). let l = batch step b.order z.0 z.1 is.pass.found in HoldsIn Contents b.order (after step b.order z.0 z.1 l) (z.1 + length l) i) (λ j. (state j, same j)) made

    -- So it is one of the session too.
    pub at_doubt : (p : Plan) (d : List Entry) → Doubted Contents step b s k p d → (i : List ℕ) → HoldsHistory Contents step b s k (p.history ++ d) i → SessionImage Contents step (story_at b s k p) i
    at_doubt p d is i holds = inr (record {
      before = is.earlier;
      pass = is.pass;
      since = is.later;
      stands = is.stands;
      fate_is = is.fate_is;
      reached = omega (arith, is.unmoved);
      holds = holds_doubt p d is i holds;
    })

    -- Each image that a stop leaves now is one of the session.
    pub image_now : (at : Phase) (p : Plan) → len_after 0 (records_of p) ≡ length p.history → (i : List ℕ) → ImageAt Contents step b s k at p i → SessionImage Contents step (story_at b s k p) i
    image_now at p ends i (inl holds) = at_end p ends i holds
    image_now at p ends i (inr (doubt, d, is, holds)) = at_doubt p d is i holds

    -- Where the history and the records go on, an image of the session stays one.
    pub image_stays : (p q : Plan) (more : List Entry) (rs : List PassRecord) → q.history ≡ p.history ++ more → records_of q ≡ records_of p ++ rs → (i : List ℕ) → SessionImage Contents step (story_at b s k p) i → SessionImage Contents step (story_at b s k q) i
    image_stays p q more rs history records i = stays
      where
        stays : SessionImage Contents step (story_at b s k p) i → SessionImage Contents step (story_at b s k q) i
        stays (inl at) = inl (record {
          len = at.len;
          boundary = let e = at.boundary in (e.0, e.1 ++ rs, records ∙ (ap (λ (z : List PassRecord). z ++ rs) e.2 ∙ append_assoc e.0 e.1 rs), e.3);
          reached = omega (arith, at.reached, length-append p.history more, ap length history);
          holds = subst (λ (x : S). HoldsIn Contents b.order x (k + at.len + 0) i) (state_stays step b s k p q more history at.len at.reached) at.holds;
        })
        stays (inr at) = inr (record {
          before = at.before;
          pass = at.pass;
          since = at.since ++ rs;
          stands = records ∙ (ap (λ (z : List PassRecord). z ++ rs) at.stands ∙ append_assoc at.before (at.pass ∷ at.since) rs);
          fate_is = at.fate_is;
          reached = omega (arith, at.reached, length-append p.history more, ap length history);
          holds = subst (λ (x : S). let n = k + at.pass.len in let l = batch step b.order x n at.pass.found in HoldsIn Contents b.order (after step b.order x n l) (n + length l) i) (state_stays step b s k p q more history at.pass.len at.reached) at.holds;
        })

    -- A batch in doubt stays in doubt where nothing is published and no later pass is in doubt.
    pub doubt_stays : (p q : Plan) (rs : List PassRecord) → q.history ≡ p.history → records_of q ≡ records_of p ++ rs → NoDoubt rs → (d : List Entry) → Doubted Contents step b s k p d → Doubted Contents step b s k q d
    doubt_stays p q rs history records none d is = record {
      earlier = is.earlier;
      pass = is.pass;
      later = is.later ++ rs;
      stands = records ∙ (ap (λ (l : List PassRecord). l ++ rs) is.stands ∙ append_assoc is.earlier (is.pass ∷ is.later) rs);
      fate_is = is.fate_is;
      last = no_doubt_join is.later rs is.last none;
      unmoved = is.unmoved ∙ ap length (sym history);
      batch_is = subst (λ (l : List Entry). d ≡ batch step b.order (after step b.order s k l) (k + length l) is.pass.found) (sym history) is.batch_is;
    }

published_none : (f : Fate) → published f [] ≡ []
published_none fate.Published = refl
published_none fate.Failed = refl
published_none fate.Doubt = refl

module _ {S : Type 0} (Contents : ℕ → List ℕ → S → ℕ → Type 0) (step : ℕ → S → ℕ → List ℕ → Option (S × List ℕ)) (b : Base) (p q : Plan) (callers before now : ℕ) (r : Passed)
    (x : IsPass Contents step b p q callers before now r) where
  abbrev founds : List Found
  founds = map found_of x.scanned.requests

  abbrev mine : PassRecord
  mine = record { found = founds; fate = fate_of r.outcome; faults_before = before; faults_after = now; len = length q.history; committed = x.moment }

  -- the batch goes on where the history ends
  batch_now : (s : S) (k : ℕ) → Contents b.order b.image s k → x.more ≡ batch step b.order (after step b.order s k p.history) (k + length p.history) founds
  batch_now s k op =
      let h = x.batch s k op in
      let same : x.scanned.history ≡ p.history = ap (λ (z : Plan). z.history) x.scan.rest in
      let at : x.front ≡ k + length p.history = h.0 ∙ ap (λ (l : List Entry). k + length l) same in
      h.1 ∙ (λ j. batch step b.order (after step b.order s k (same j)) (at j) founds)

  none_done : r.done ≡ 0 → q.history ≡ p.history
  none_done e = x.history ∙ (ap (λ (l : List Entry). p.history ++ l) (none_of_none (published (fate_of r.outcome) x.more) (sym x.done ∙ e)) ∙ append-nil p.history)

  none_batch : (s : S) (k : ℕ) → Contents b.order b.image s k → founds ≡ [] → x.more ≡ []
  none_batch s k op none = batch_now s k op ∙ ap (λ (fs : List Found). batch step b.order (after step b.order s k p.history) (k + length p.history) fs) none

  -- The last record ends where the history does.
  pub ends_on : (formed : (s : S) × (k : ℕ) × Contents b.order b.image s k) → len_after 0 (records_of p) ≡ length p.history → len_after 0 (records_of q) ≡ length q.history
  ends_on formed ends = by founds refl
    where
      by : (fs : List Found) → founds ≡ fs → len_after 0 (records_of q) ≡ length q.history
      by [] e =
          let more : x.more ≡ [] = none_batch formed.0 formed.1 formed.2 e in
          let same : q.history ≡ p.history = x.history ∙ (ap (λ (l : List Entry). p.history ++ published (fate_of r.outcome) l) more ∙ (ap (λ (l : List Entry). p.history ++ l) (published_none (fate_of r.outcome)) ∙ append-nil p.history)) in
          ap (len_after 0) (x.records ∙ (ap (λ (l : List Found). records_of p ++ record_list l mine) e ∙ append-nil (records_of p))) ∙ (ends ∙ sym (ap length same))
      by (f ∷ fs) e = ap (len_after 0) (x.records ∙ ap (λ (l : List Found). records_of p ++ record_list l mine) e) ∙ len_more 0 (records_of p) mine

  doubt_stands : r.outcome ≡ outcome.Doubt → records_of q ≡ records_of p ++ mine ∷ []
  doubt_stands e = x.records ∙ ap (λ (l : List PassRecord). records_of p ++ l) (some_found x.items x.scanned.requests (λ zero. let no : outcome.Doubt ≡ outcome.Nothing = sym e ∙ x.nothing.1 zero in cc) x.scan.items_are mine)

  module _ (s : S) (k : ℕ) (op : Contents b.order b.image s k) where
    -- A pass in doubt leaves its batch in doubt.
    abbrev doubt_new : r.outcome ≡ outcome.Doubt → Doubted Contents step b s k q x.more
    doubt_new e =
        let same : q.history ≡ p.history = x.history ∙ (ap (λ (o : Outcome). p.history ++ published (fate_of o) x.more) e ∙ append-nil p.history) in
        record {
          earlier = records_of p;
          pass = mine;
          later = [];
          stands = doubt_stands e;
          fate_is = ap fate_of e;
          unmoved = refl;
          last = tt;
          batch_is = batch_now s k op ∙ (λ j. batch step b.order (after step b.order s k (sym same j)) (k + length (sym same j)) founds);
        }

    -- On a device in doubt a batch is in doubt.
    pub in_doubt_on : {D : Type 0} (t u : Seen D) → (r.outcome ≡ outcome.Published → r.done ≡ 0 → u ≡ t) → (r.outcome ≡ outcome.Nothing → u ≡ t) → (0 < r.done → (u.phase ≡ phase.Clean) ⊎ (u.phase ≡ phase.Redo))
        → (r.outcome ≡ outcome.Failed → (u.phase ≡ phase.Undo) ⊎ ((u.phase ≡ t.phase) × NeedsRepair t.phase)) → (t.phase ≡ phase.Doubt → (d : List Entry) × Doubted Contents step b s k p d)
        → u.phase ≡ phase.Doubt → (d : List Entry) × Doubted Contents step b s k q d
    in_doubt_on {D} t u spent untouched repaired failed was doubt = by r.outcome refl
      where
        Result : Type 0
        Result = (d : List Entry) × Doubted Contents step b s k q d

        stays : u.phase ≡ t.phase → r.done ≡ 0 → fate_of r.outcome ≢ fate.Doubt → Result
        stays same none other =
            let w : (d : List Entry) × Doubted Contents step b s k p d = was (sym same ∙ doubt) in
            (w.0, doubt_stays Contents step b s k p q (record_list founds mine) (none_done none) x.records (no_doubt_list founds mine other) w.0 w.1)

        done_by : (o : Outcome) → r.outcome ≡ o → published (fate_of o) x.more ≡ [] → r.done ≡ 0
        done_by o e none = x.done ∙ (ap (λ (z : Outcome). length (published (fate_of z) x.more)) e ∙ ap length none)

        published_by : (n : ℕ) → r.outcome ≡ outcome.Published → r.done ≡ n → Result
        published_by zero e none = stays (ap (λ (z : Seen D). z.phase) (spent e none)) none (λ f. let no : fate.Published ≡ fate.Doubt = sym (ap fate_of e) ∙ f in cc)
        published_by (suc n) e some = ⊎_elim
            (λ clean. absurd (let no : phase.Clean ≡ phase.Doubt = sym clean ∙ doubt in cc))
            (λ redo. absurd (let no : phase.Redo ≡ phase.Doubt = sym redo ∙ doubt in cc))
            (repaired (omega (arith, some)))

        by : (o : Outcome) → r.outcome ≡ o → Result
        by outcome.Nothing e =
            let none : x.more ≡ [] = none_batch s k op (none_found x.items x.scanned.requests (x.nothing.0 e) x.scan.items_are) in
            stays (ap (λ (z : Seen D). z.phase) (untouched e)) (done_by outcome.Nothing e none) (λ f. let no : fate.Published ≡ fate.Doubt = sym (ap fate_of e) ∙ f in cc)
        by outcome.Published e = published_by r.done e refl
        by outcome.Failed e = ⊎_elim
            (λ undo. absurd (let no : phase.Undo ≡ phase.Doubt = sym undo ∙ doubt in cc))
            (λ same. stays same.0 (done_by outcome.Failed e refl) (λ f. let no : fate.Failed ≡ fate.Doubt = sym (ap fate_of e) ∙ f in cc))
            (failed e)
        by outcome.Doubt e = (x.more, doubt_new e)

    -- Each image that the pass makes is one of the session with it.
    pub made_on : len_after 0 (records_of p) ≡ length p.history → (i : List ℕ) → PassMakes Contents step b s k (fate_of r.outcome) p.history x.more i → SessionImage Contents step (story_at b s k q) i
    made_on ends i (inl holds) = image_stays Contents step b s k p q (published (fate_of r.outcome) x.more) (record_list founds mine) x.history x.records i (at_end Contents step b s k p ends i holds)
    made_on ends i (inr (may, holds)) = by r.outcome refl may
      where
        by : (o : Outcome) → r.outcome ≡ o → MayPublish (fate_of o) → SessionImage Contents step (story_at b s k q) i
        by outcome.Failed e allowed = absurd allowed
        by outcome.Doubt e allowed =
            let same : q.history ≡ p.history = x.history ∙ (ap (λ (o : Outcome). p.history ++ published (fate_of o) x.more) e ∙ append-nil p.history) in
            at_doubt Contents step b s k q x.more (doubt_new e) i (subst (λ (l : List Entry). HoldsHistory Contents step b s k (l ++ x.more) i) (sym same) holds)
        by outcome.Nothing e allowed = at_end Contents step b s k q (ends_on (s, k, op) ends) i
            (subst (λ (l : List Entry). HoldsHistory Contents step b s k l i) (sym (x.history ∙ ap (λ (o : Outcome). p.history ++ published (fate_of o) x.more) e)) holds)
        by outcome.Published e allowed = at_end Contents step b s k q (ends_on (s, k, op) ends) i
            (subst (λ (l : List Entry). HoldsHistory Contents step b s k l i) (sym (x.history ∙ ap (λ (o : Outcome). p.history ++ published (fate_of o) x.more) e)) holds)

module _ {S : Type 0} (Contents : ℕ → List ℕ → S → ℕ → Type 0) (step : ℕ → S → ℕ → List ℕ → Option (S × List ℕ)) {D : Type 0} (shown : ShownDevice D) (b : Base) (p q : Plan) (callers : ℕ) (r : Passed)
    (t u : Seen D) (x : IsPass Contents step b p q callers (shown.faults t.device) (shown.faults u.device) r) (s : S) (k : ℕ) (op : Contents b.order b.image s k) where
  abbrev Record : PassRecord
  Record = mine Contents step b p q callers (shown.faults t.device) (shown.faults u.device) r x

  abbrev Story' : Story S
  Story' = story_at b s k q

  abbrev doubted_of : r.outcome ≡ outcome.Doubt → Doubted Contents step b s k q x.more
  doubted_of e = doubt_new Contents step b p q callers (shown.faults t.device) (shown.faults u.device) r x s k op e

  -- what a pass that ended so puts in place of the history before it
  made_by : (o : Outcome) → r.outcome ≡ o → MayPublish (fate_of o) → (i : List ℕ) → HoldsHistory Contents step b s k (p.history ++ x.more) i → MayMake shown Contents step Story' (fate_of o) Record i
  made_by outcome.Failed e may i holds = absurd may
  made_by outcome.Doubt e may i holds =
      let same : q.history ≡ p.history = x.history ∙ (ap (λ (o : Outcome). p.history ++ published (fate_of o) x.more) e ∙ append-nil p.history) in
      holds_doubt Contents step b s k q x.more (doubted_of e) i (subst (λ (l : List Entry). HoldsHistory Contents step b s k (l ++ x.more) i) (sym same) holds)
  made_by outcome.Nothing e may i holds = holds_whole Contents step b s k q i (subst (λ (l : List Entry). HoldsHistory Contents step b s k l i) (sym (x.history ∙ ap (λ (o : Outcome). p.history ++ published (fate_of o) x.more) e)) holds)
  made_by outcome.Published e may i holds = holds_whole Contents step b s k q i (subst (λ (l : List Entry). HoldsHistory Contents step b s k l i) (sym (x.history ∙ ap (λ (o : Outcome). p.history ++ published (fate_of o) x.more) e)) holds)

  cause_by : (o : Outcome) → r.outcome ≡ o → (r.outcome ≡ outcome.Failed → FailsEarly shown b.order p.main t u) → (r.outcome ≡ outcome.Doubt → FailsAtCommit shown t.phase b.order p.main t.device u.device)
      → HasPassCause shown Contents step Story' (fate_of o) t.phase p.main t.device u.device
  cause_by outcome.Nothing e failed doubt = tt
  cause_by outcome.Published e failed doubt = tt
  cause_by outcome.Failed e failed doubt = failed e
  cause_by outcome.Doubt e failed doubt = doubt e

  grown : length q.history ≡ length p.history + r.done
  grown = ap length x.history ∙ (length-append p.history _ ∙ ap (λ (n : ℕ). length p.history + n) (sym x.done))

  was_held : len_after 0 (records_of p) ≡ length p.history → (i : List ℕ) → HoldsHistory Contents step b s k p.history i → HoldsAfter Contents step Story' (len_after 0 (records_of p)) [] i
  was_held ends i holds = subst (λ (n : ℕ). HoldsAfter Contents step Story' n [] i) (sym ends)
      (subst (λ (y : S). HoldsIn Contents b.order y (k + length p.history + 0) i) (state_stays step b s k p q (published (fate_of r.outcome) x.more) x.history (length p.history) (omega arith)) (holds_whole Contents step b s k p i holds))

  -- a pass that added to the history published
  made_whole : (o : Outcome) → r.outcome ≡ o → 0 < r.done → (i : List ℕ) → HoldsHistory Contents step b s k q.history i → MayMake shown Contents step Story' (fate_of o) Record i
  made_whole outcome.Nothing e some i holds = holds_whole Contents step b s k q i holds
  made_whole outcome.Published e some i holds = holds_whole Contents step b s k q i holds
  made_whole outcome.Failed e some i holds = let none : r.done ≡ 0 = x.done ∙ ap (λ (o : Outcome). length (published (fate_of o) x.more)) e in absurd (omega (arith, some, none))
  made_whole outcome.Doubt e some i holds = let none : r.done ≡ 0 = x.done ∙ ap (λ (o : Outcome). length (published (fate_of o) x.more)) e in absurd (omega (arith, some, none))

  -- the last record has the moment of that device
  abbrev HasLast : D → Type 0
  HasLast mid = (rs : List PassRecord) (last : PassRecord) → records_of q ≡ rs ++ last ∷ [] → last.committed ≡ shown.clock mid

  -- the device at its commit
  abbrev Commits : Type 0
  Commits = (mid : D) × HasLast mid × SpendsAtMost shown (writes_before_commit t.phase b.order (region_len b.order) + 1) (syncs_before_commit t.phase + 1) t.device mid × (IsTrue shown.tells_images → IsCertainSince Contents step b s k shown p.history q.history t.device mid u.device)

  -- where it was certain, and what it made before and after that
  abbrev Split : Type 0
  Split = (mid : D) × (IsTrue shown.tells_images → Runs shown (Becomes (PassImage shown Contents step Story' (len_after 0 (records_of p)) Record)) t.device mid)
      × (IsTrue shown.tells_images → Runs shown (Becomes (HoldsAfter Contents step Story' (length q.history) [])) mid u.device)
      × (IsTrue shown.tells_images → len_after 0 (records_of p) < length q.history → (i : List ℕ) → shown.leaves mid i → HoldsAfter Contents step Story' (length q.history) [] i)
      × (len_after 0 (records_of p) < length q.history → SpendsAtMost shown (writes_before_commit t.phase b.order (region_len b.order) + 1) (syncs_before_commit t.phase + 1) t.device mid)
      × (len_after 0 (records_of p) < length q.history → HasLast mid)

  split : len_after 0 (records_of p) ≡ length p.history → (0 < r.done → Commits)
      → (IsTrue shown.tells_images → Runs shown (Becomes (PassMakes Contents step b s k (fate_of r.outcome) p.history x.more)) t.device u.device) → (n : ℕ) → r.done ≡ n → Split
  split ends certain runs zero none = (
    u.device,
    λ told. becomes_by shown (PassMakes Contents step b s k (fate_of r.outcome) p.history x.more) (PassImage shown Contents step Story' (len_after 0 (records_of p)) Record) (λ i made. ⊎_elim
        (λ holds. inl (was_held ends i holds))
        (λ (may, holds). inr (made_by r.outcome refl may i holds)) made) t.device u.device (runs told),
    λ told. runs_none shown (Becomes (HoldsAfter Contents step Story' (length q.history) [])) (λ i. inl refl) u.device,
    λ told grew. absurd (omega (arith, ends, grown, none, grew)),
    λ grew. absurd (omega (arith, ends, grown, none, grew)),
    λ grew. absurd (omega (arith, ends, grown, none, grew)),
  )
  split ends certain runs (suc n) some =
      let c : Commits = certain (omega (arith, some)) in (
        c.0,
        λ told. becomes_by shown (λ i. HoldsHistory Contents step b s k p.history i ⊎ HoldsHistory Contents step b s k q.history i) (PassImage shown Contents step Story' (len_after 0 (records_of p)) Record) (λ i made. ⊎_elim
            (λ holds. inl (was_held ends i holds))
            (λ holds. inr (made_whole r.outcome refl (omega (arith, some)) i holds)) made) t.device c.0 (c.3 told).until,
        λ told. becomes_by shown (HoldsHistory Contents step b s k q.history) (HoldsAfter Contents step Story' (length q.history) []) (holds_whole Contents step b s k q) c.0 u.device (c.3 told).since,
        λ told grew i left. holds_whole Contents step b s k q i ((c.3 told).certain i left),
        λ grew. c.2,
        λ grew. c.1,
      )

  -- The pass is one that the device went through.
  pass_on : len_after 0 (records_of p) ≡ length p.history → records_of q ≡ records_of p ++ Record ∷ []
      → shown.reads u.device ≡ shown.reads t.device → BeginsIn shown t.phase b.order p.main t.device → (NeedsRepair t.phase → Rose b.faults (shown.faults t.device)) → SpendsAtMost shown (batch_writes t.phase b.order (region_len b.order)) (batch_syncs t.phase) t.device u.device
      → (r.outcome ≡ outcome.Failed → FailsEarly shown b.order p.main t u) → (r.outcome ≡ outcome.Doubt → FailsAtCommit shown t.phase b.order p.main t.device u.device)
      → (IsTrue shown.tells_images → Runs shown (Becomes (PassMakes Contents step b s k (fate_of r.outcome) p.history x.more)) t.device u.device)
      → (0 < r.done → Commits)
      → IsPassOn shown Contents step Story' (len_after 0 (records_of p)) Record t.device u.device
  pass_on ends records unread began needed most failed doubt runs certain =
      let parts : Split = split ends certain runs r.done refl in
      record {
        before = refl;
        after = refl;
        phase = t.phase;
        region = p.main;
        began = began;
        needed = needed;
        cause = cause_by r.outcome refl failed doubt;
        unread = unread;
        most = most;
        reached = (omega (arith, ends, grown), omega arith);
        risen = omega (arith, ends, grown);
        mid = parts.0;
        images = parts.1;
        since = parts.2;
        certain = parts.3;
        soon = parts.4;
        dated = λ grew. parts.5 grew (records_of p) Record records;
      }

  -- So the device went through one pass more, or through none where no call was found.
  pub went_on : (First : D → Type 0) → len_after 0 (records_of p) ≡ length p.history
      → shown.reads u.device ≡ shown.reads t.device → BeginsIn shown t.phase b.order p.main t.device → (NeedsRepair t.phase → Rose b.faults (shown.faults t.device)) → SpendsAtMost shown (batch_writes t.phase b.order (region_len b.order)) (batch_syncs t.phase) t.device u.device
      → (r.outcome ≡ outcome.Failed → FailsEarly shown b.order p.main t u) → (r.outcome ≡ outcome.Doubt → FailsAtCommit shown t.phase b.order p.main t.device u.device)
      → (IsTrue shown.tells_images → Runs shown (Becomes (PassMakes Contents step b s k (fate_of r.outcome) p.history x.more)) t.device u.device)
      → (r.outcome ≡ outcome.Nothing → u ≡ t) → (0 < r.done → Commits)
      → WentThrough shown Contents step (story_at b s k p) First t.device → WentThrough shown Contents step (story_at b s k q) First u.device
  went_on First ends unread began needed most failed doubt runs untouched certain was = record {
    first = was.first;
    begun = was.begun;
    passes = by (founds Contents step b p q callers (shown.faults t.device) (shown.faults u.device) r x) refl;
  }
    where
      stayed : ArePassesOn shown Contents step Story' 0 (records_of p) was.first t.device
      stayed = passes_stay shown Contents step (story_at b s k p) q.history (records_of q) None
          (omega (arith, length-append p.history (published (fate_of r.outcome) x.more), ap length x.history))
          (state_stays step b s k p q (published (fate_of r.outcome) x.more) x.history) 0 (records_of p) was.first t.device was.passes

      by : (fs : List Found) → founds Contents step b p q callers (shown.faults t.device) (shown.faults u.device) r x ≡ fs → ArePassesOn shown Contents step Story' 0 (records_of q) was.first u.device
      by [] e =
          let none : length x.items ≡ 0 = ap length x.scan.items_are ∙ (length-map x.scanned.requests posted_of ∙ (sym (length-map x.scanned.requests found_of) ∙ ap length e)) in
          let same : t.device ≡ u.device = ap (λ (z : Seen D). z.device) (sym (untouched (x.nothing.1 none))) in
          let records : records_of p ≡ records_of q = sym (x.records ∙ (ap (λ (l : List Found). records_of p ++ record_list l Record) e ∙ append-nil (records_of p))) in
          subst (λ (z : List PassRecord × D). ArePassesOn shown Contents step Story' 0 z.0 was.first z.1) (λ j. (records j, same j)) stayed
      by (f ∷ fs) e =
          let records : records_of p ++ Record ∷ [] ≡ records_of q = sym (x.records ∙ ap (λ (l : List Found). records_of p ++ record_list l Record) e) in
          subst (λ (l : List PassRecord). ArePassesOn shown Contents step Story' 0 l was.first u.device) records
          (passes_on shown Contents step Story' 0 (records_of p) Record was.first t.device u.device stayed (pass_on ends (sym records) unread began needed most failed doubt runs certain))

-- in `Clean` no repair is needed
clean_needs_none : (ph : Phase) → ph ≡ phase.Clean → NeedsRepair ph → ⊥
clean_needs_none ph clean (inl undo) = let no : phase.Clean ≡ phase.Undo = sym clean ∙ undo in cc
clean_needs_none ph clean (inr (inl doubt)) = let no : phase.Clean ≡ phase.Doubt = sym clean ∙ doubt in cc
clean_needs_none ph clean (inr (inr redo)) = let no : phase.Clean ≡ phase.Redo = sym clean ∙ redo in cc

module _ {S : Type 0} (Contents : ℕ → List ℕ → S → ℕ → Type 0) (step : ℕ → S → ℕ → List ℕ → Option (S × List ℕ)) {D : Type 0} (shown : ShownDevice D) (start : Start) (test : ℕ → List ℕ → Type 0)
    (c d : Locked D) (callers : ℕ) (r : Passed) where
  -- What the lock keeps is kept by a pass.
  pub held_on : IsBehindLock shown Contents step c.table_id c.view.base start test c
      → (d.table_id ≡ c.table_id) × (d.id ≡ c.id) × (d.view.base ≡ c.view.base) × (d.twin.order ≡ c.twin.order)
      → d.view ≡ record c.view { plan = Some (plan_of d.view); steps = d.view.steps }
      → (x : IsPass Contents step c.view.base (plan_of c.view) (plan_of d.view) callers (shown.faults c.twin.device) (shown.faults d.twin.device) r)
      → (let b = c.view.base in IsTrue shown.tells_images → (s : S) (n : ℕ) → Contents b.order b.image s n → Runs shown (Becomes (PassMakes Contents step b s n (fate_of r.outcome) (plan_of c.view).history x.more)) c.twin.device d.twin.device)
      → (let b = c.view.base in 0 < r.done → (mid : D) × ((rs : List PassRecord) (last : PassRecord) → records_of (plan_of d.view) ≡ rs ++ last ∷ [] → last.committed ≡ shown.clock mid) × SpendsAtMost shown (writes_before_commit c.twin.phase c.twin.order (region_len c.twin.order) + 1) (syncs_before_commit c.twin.phase + 1) c.twin.device mid × (IsTrue shown.tells_images → (s : S) (n : ℕ) → Contents b.order b.image s n → IsCertainSince Contents step b s n shown (plan_of c.view).history (plan_of d.view).history c.twin.device mid d.twin.device))
      → (r.outcome ≡ outcome.Published → r.done ≡ 0 → d.twin ≡ c.twin) → (r.outcome ≡ outcome.Nothing → d.twin ≡ c.twin) → (0 < r.done → (d.twin.phase ≡ phase.Clean) ⊎ (d.twin.phase ≡ phase.Redo))
      → (r.outcome ≡ outcome.Failed → (d.twin.phase ≡ phase.Undo) ⊎ ((d.twin.phase ≡ c.twin.phase) × NeedsRepair c.twin.phase))
      → (let b = c.view.base in IsTrue shown.tells_images → (s : S) (n : ℕ) → Contents b.order b.image s n → (i : List ℕ) → shown.leaves d.twin.device i → ImageAt Contents step b s n d.twin.phase (plan_of d.view) i)
      → WritesHeap shown c.twin.order c.twin.device d.twin.device
      → BeginsIn shown c.twin.phase c.twin.order (plan_of c.view).main c.twin.device
      → (0 < r.done → d.twin.phase ≡ phase.Redo → Rose (shown.faults c.twin.device) (shown.faults d.twin.device))
      → SpendsAtMost shown (batch_writes c.twin.phase c.twin.order (region_len c.twin.order)) (batch_syncs c.twin.phase) c.twin.device d.twin.device
      → (r.outcome ≡ outcome.Failed → FailsEarly shown c.twin.order (plan_of c.view).main c.twin d.twin)
      → (r.outcome ≡ outcome.Doubt → FailsAtCommit shown c.twin.phase c.twin.order (plan_of c.view).main c.twin.device d.twin.device)
      → IsBehindLock shown Contents step c.table_id c.view.base start test d
  held_on h same kept x runs certain spent untouched repaired failed now_is writes began undone most failed_by doubt_by = record {
    table_is = same.0;
    base_is = same.2;
    order_is = same.3 ∙ h.order_is;
    formed = h.formed;
    alone = ap (λ (v : View). v.joined) kept ∙ h.alone;
    ends = ends_on Contents step b p q callers before now r x h.formed h.ends;
    in_doubt = λ doubt s k op. in_doubt_on Contents step b p q callers before now r x s k op c.twin d.twin spent untouched repaired failed (λ was. h.in_doubt was s k op) doubt;
    no_lower = let low = h.no_lower in let later = writes.later in omega (arith, low, later);
    needed = needs r.outcome refl;
    now = now_is;
    size_is = writes.does.size ∙ h.size_is;
    outside = λ told. state_or_joins MAIN (2 * region_len b.order) start.words (shown.words c.twin.device) (shown.words d.twin.device) (h.outside told)
        (subst (λ (n : ℕ). WithinHeap n (shown.words c.twin.device) (shown.words d.twin.device)) h.order_is (writes.does.words told));
    later = λ told. let on = (writes.does.images told).later in omega (arith, on, h.later told);
    keeps = λ told t i le was. (writes.does.images told).keeps t i (omega (arith, le, h.later told)) (h.keeps told t i le was);
    since = λ told s k op t i left. ⊎_elim (past told s k op t i) (here told s k op t i) ((runs told s k op).nothing_else t i left);
    went = λ s k op. went_on Contents step shown b p q callers r c.twin d.twin x s k op (HasStarted shown b.faults start test) h.ends writes.only.reads
        (subst (λ (n : ℕ). BeginsIn shown c.twin.phase n p.main c.twin.device) h.order_is began) h.needed
        (subst (λ (n : ℕ). SpendsAtMost shown (batch_writes c.twin.phase n (region_len n)) (batch_syncs c.twin.phase) c.twin.device d.twin.device) h.order_is most)
        (λ e. subst (λ (n : ℕ). FailsEarly shown n p.main c.twin d.twin) h.order_is (failed_by e))
        (λ e. subst (λ (n : ℕ). FailsAtCommit shown c.twin.phase n p.main c.twin.device d.twin.device) h.order_is (doubt_by e))
        (λ told. runs told s k op) untouched (λ some. let (mid, dated, spent_by, by) = certain some in (
          mid,
          dated,
          subst (λ (n : ℕ). SpendsAtMost shown (writes_before_commit c.twin.phase n (region_len n) + 1) (syncs_before_commit c.twin.phase + 1) c.twin.device mid) h.order_is spent_by,
          λ told. by told s k op,
        )) (h.went s k op);
  }
    where
      before : ℕ
      before = shown.faults c.twin.device

      now : ℕ
      now = shown.faults d.twin.device

      b : Base
      b = c.view.base

      p : Plan
      p = plan_of c.view

      q : Plan
      q = plan_of d.view

      rose : Rose before now → Rose b.faults now
      rose by = let low = h.no_lower in omega (arith, low, by)

      left_so : d.twin ≡ c.twin → NeedsRepair d.twin.phase → Rose b.faults now
      left_so same is = subst (λ (t : Seen D). Rose b.faults (shown.faults t.device)) (sym same) (h.needed (subst (λ (t : Seen D). NeedsRepair t.phase) same is))

      done_or_none : (n : ℕ) → r.done ≡ n → r.outcome ≡ outcome.Published → NeedsRepair d.twin.phase → Rose b.faults now
      done_or_none zero none published is = left_so (spent published none) is
      done_or_none (suc n) some published is =
          let positive : 0 < r.done = omega (arith, some) in ⊎_elim (λ clean. absurd (clean_needs_none d.twin.phase clean is)) (λ redo. rose (undone positive redo)) (repaired positive)

      -- where it needs a repair, its count rose in this pass or before
      needs : (o : Outcome) → r.outcome ≡ o → NeedsRepair d.twin.phase → Rose b.faults now
      needs outcome.Nothing e is = left_so (untouched e) is
      needs outcome.Published e is = done_or_none r.done refl e is
      needs outcome.Failed e is = rose (failed_by e).0.rose
      needs outcome.Doubt e is = let f = doubt_by e in let later = f.later in let once = f.failed.once in rose (omega (arith, later, once))

      stays : (s : S) (k : ℕ) (i : List ℕ) → SessionImage Contents step (story_at b s k p) i → SessionImage Contents step (story_at b s k q) i
      stays s k i = image_stays Contents step b s k p q _ _ x.history x.records i

      past : IsTrue shown.tells_images → (s : S) (k : ℕ) → Contents b.order b.image s k → (t : ℕ) (i : List ℕ) → shown.left_since c.twin.device t i → test t i ⊎ SessionImage Contents step (story_at b s k q) i
      past told s k op t i left = ⊎_elim (λ passes. inl passes) (λ is. inr (stays s k i is)) (h.since told s k op t i left)

      here : IsTrue shown.tells_images → (s : S) (k : ℕ) → Contents b.order b.image s k → (t : ℕ) (i : List ℕ)
          → After (Becomes (PassMakes Contents step b s k (fate_of r.outcome) p.history x.more)) (shown.leaves c.twin.device) i → test t i ⊎ SessionImage Contents step (story_at b s k q) i
      here told s k op t i made = inr (⊎_elim
          (λ as_it_was. stays s k i (image_now Contents step b s k c.twin.phase p h.ends i (h.now told s k op i (subst (λ (l : List ℕ). shown.leaves c.twin.device l) (sym as_it_was) made.was))))
          (λ is. made_on Contents step b p q callers before now r x s k op h.ends i is)
          made.by)
