-- A pass that did no call, and the one record that it has
use Rattle.std.proofs.Common.{◌≡◌, ◌≢◌, ◌⊎◌, inl, inr, ⊎_elim, ℕ, suc, ◌+◌, ◌<◌, ◌≤◌, List, [], ◌∷◌, ◌++◌, map, length, sym, refl, ap, ◌∙◌, subst, arith, true, Option, append-nil, length-append, IsTrue}
use mathlib.Core.Option.{some}
use lib.ListN.{get_elem?}
use Rattle.rom_model.specs.declared.entry.Entry.{Entry}
use Rattle.rom_model.specs.declared.record.Fate.{Fate}
use Rattle.rom_model.specs.declared.record.Fate.TheVariants as fate
use Rattle.rom_model.specs.declared.record.Found.{Found}
use Rattle.rom_model.specs.declared.record.PassRecord.{PassRecord}
use Rattle.rom_model.specs.History.{after, batch, LAST_COUNT}
use Rattle.rom_model.specs.Passes.{published, fate_told}
use Rattle.rom_device.specs.Device.{Runs, ShownDevice}
use Rattle.rom_header.specs.Regions.{IsCurrentRegion}
use Rattle.rom_device.specs.Device.{Becomes}
use Rattle.rom_twin.specs.Seen.{Seen, InPhase, NeedsRepair, Rests, committed}
use Rattle.rom_twin.specs.declared.phase.Phase.{Phase}
use Rattle.rom_twin.specs.declared.phase.Phase.TheVariants as phase
use Rattle.rom_combine.proofs.Since.{now_since}
use Rattle.rom_twin.specs.Images.{Twins}
use Rattle.rom_combine.specs.Causes.{BeginsIn}
use Rattle.rom_combine.proofs.Counting.{each_of, undo_region}
use Rattle.rom_combine.specs.Told as outcomes
use Rattle.rom_combine.specs.declared.passed.Outcome.{Outcome}
use Rattle.rom_combine.specs.declared.passed.Outcome.TheVariants as outcome
use Rattle.rom_model.specs.Passes.{faults_after}
use Rattle.rom_rule.specs.declared.views.Base.{Base}
use Rattle.rom_rule.specs.declared.views.Request.{Request}
use Rattle.rom_rule.specs.declared.views.Plan.{Plan}
use Rattle.rom_rule.specs.declared.views.View.{View}
use Rattle.rom_rule.specs.Views.{Each, is_made, plan_of, records_of}
use Rattle.rom_rule.specs.Calls.{caller_in, found_of}
use Rattle.rom_rule.specs.Readers.{Held}
use Rattle.rom_rule.specs.Records.{IsCall}
use Rattle.rom_rule.specs.CallKinds.{beginning}
use Rattle.rom_rule.specs.Kinds.{IsBatch, making, record_list}
use Rattle.rom_rule.proofs.Told.{length_map, at_some}
use Rattle.rom_announce.specs.Answering.{fate_of_place}
use Rattle.rom_combine.specs.declared.answering.CallAnswer.{CallAnswer}
use Rattle.rom_combine.specs.declared.scanning.Posted.{Posted}
use Rattle.rom_combine.specs.Scanning.{but_requests, IsUnanswered, IsScan}
use Rattle.rom_combine.proofs.Limits.{AreCalls, batch_some}
use Rattle.rom_combine.specs.Answering.{caller_of, HasGiven, IsRecordedBy, SameCalls}
use Rattle.rom_combine.specs.Histories.{HoldsHistory, PassMakes, ImageAt, batch_found}
use Rattle.rom_combine.specs.AtRest.{IsAtRest}
use Rattle.rom_combine.specs.Passing.{IsPass}
use Rattle.rom_combine.proofs.Keeping.{Stays, scan_stays, now_stays, pass_published, rest_by, rest_stays}
use Rattle.rom_combine.specs.Published.{IsPublished}
use Rattle.rom_combine.specs.Resting.{rested}
use Rattle.rom_combine.proofs.Rested.{faults_last}

-- where a call was found there is one record
one_record : (fs : List Found) (r : PassRecord) → 0 < length fs → record_list fs r ≡ r ∷ []
one_record [] r lt = absurd (omega arith)
one_record (f ∷ fs) r lt = refl

-- the record of a pass that published nothing
abbrev pub record_now : Plan → Fate → ℕ → ℕ → PassRecord
record_now q f before now = record { found = map found_of q.requests; fate = f; faults_before = before; faults_after = now; len = length q.history; committed = 0 }

pub told_stays : (p q u : Plan) (f : Fate) (before now k : ℕ) (more : List Entry) → but_requests q ≡ but_requests (beginning p) → but_requests u ≡ but_requests (making f before now 0 k more q) → published f more ≡ [] → 0 < length q.requests
    → Stays (record_now q f before now ∷ []) p u
told_stays p q u f before now k more scan kept none any_found = let st = scan_stays p q scan in let founds : List Found = map found_of q.requests in record {
  main = ap (λ (z : Plan). z.main) kept ∙ st.main;
  back = ap (λ (z : Plan). z.back) kept ∙ st.back;
  side = ap (λ (z : Plan). z.side) kept ∙ st.side;
  clear = ap (λ (z : Plan). z.clear) kept ∙ st.clear;
  history = ap (λ (z : Plan). z.history) kept ∙ (ap (λ (l : List Entry). q.history ++ l) none ∙ (append-nil q.history ∙ st.history));
  records = ap records_of kept ∙ (λ j. ap (λ (z : Plan). z.records) scan j
      ++ (ap (λ (len : ℕ). record_list founds (record { found = founds; fate = f; faults_before = before; faults_after = now; len = len; committed = 0 })) (let e : length q.history + length (published f more) ≡ length q.history = omega (arith, ap length none) in e)
      ∙ one_record founds (record_now q f before now) (omega (arith, length_map found_of q.requests, any_found))) j);
}

-- on a clean device no repair is needed
pub clean_needs_none : (p : Phase) → p ≡ phase.Clean → NeedsRepair p → ⊥
clean_needs_none p e (inl undo) = let no : phase.Clean ≡ phase.Undo = sym e ∙ undo in cc
clean_needs_none p e (inr (inl doubt)) = let no : phase.Clean ≡ phase.Doubt = sym e ∙ doubt in cc
clean_needs_none p e (inr (inr redo)) = let no : phase.Clean ≡ phase.Redo = sym e ∙ redo in cc

-- where no batch is under way, one may begin
pub begins_in : {D : Type 0} (shown : ShownDevice D) (t : Seen D) (region : List ℕ) → Rests t.phase → (IsTrue shown.tells_images → InPhase shown t) → (IsTrue shown.tells_images → committed shown t ≡ region) → (NeedsRepair t.phase → IsTrue (shown.failing t.device))
    → BeginsIn shown t.phase t.order region t.device
begins_in shown t region (inl clean) known same failing = subst (λ (z : Phase). BeginsIn shown z t.order region t.device) (sym clean)
    (λ told i left. subst (λ (c : List ℕ). Twins t.order c i) (same told) (each_of shown t phase.Clean clean (known told) i left))
begins_in shown t region (inr (inl undo)) known same failing = subst (λ (z : Phase). BeginsIn shown z t.order region t.device) (sym undo) (failing (inl undo))
begins_in shown t region (inr (inr (inl doubt))) known same failing = subst (λ (z : Phase). BeginsIn shown z t.order region t.device) (sym doubt) (failing (inr (inl doubt)))
begins_in shown t region (inr (inr (inr redo))) known same failing = subst (λ (z : Phase). BeginsIn shown z t.order region t.device) (sym redo) (failing (inr (inr redo)))

-- in a pass that did no call the device's last call failed
pub failing_refused : {D : Type 0} (shown : ShownDevice D) (d : D) (o : Outcome) → o ≢ outcome.Published → o ≢ outcome.Nothing → (o ≡ outcome.Failed → IsTrue (shown.failing d)) → (o ≡ outcome.Doubt → IsTrue (shown.failing d)) → IsTrue (shown.failing d)
failing_refused shown d outcome.Nothing unpublished found_some failed doubt = absurd (found_some refl)
failing_refused shown d outcome.Published unpublished found_some failed doubt = absurd (unpublished refl)
failing_refused shown d outcome.Failed unpublished found_some failed doubt = failed refl
failing_refused shown d outcome.Doubt unpublished found_some failed doubt = doubt refl

module _ {S : Type 0} (Contents : ℕ → List ℕ → S → ℕ → Type 0) (step : ℕ → S → ℕ → List ℕ → Option (S × List ℕ)) where
  -- the first answer that is still to be given
  pub first_left : (b : Base) (f : Fate) (before now : ℕ) (p : Plan) (items : List CallAnswer) → HasGiven Contents step b f before now p 0 items → 0 < length p.requests → (x : CallAnswer) × (get_elem? items 0 ≡ some x) × (fate_of_place x.place ≡ f)
  first_left b f before now p items l some_found = let found = at_some p.requests 0 some_found in
      let long : 0 < length items = omega (arith, some_found, ap length l.same, length_map caller_in p.requests, length_map caller_of items) in
      let x = at_some items 0 long in (x.0, x.1, (l.left 0 found.0 x.0 (omega arith) found.1 x.1).1)

  -- the record that the answers made, where the plan had none
  pub made_by : (b : Base) (q u : Plan) (before now : ℕ) (items : List CallAnswer) (f : Fate) (x : CallAnswer) → get_elem? items 0 ≡ some x → fate_of_place x.place ≡ f → q.mine ≡ [] → IsRecordedBy Contents step b q u before now items
      → (k : ℕ) × (more : List Entry) × IsBatch Contents step b q k more × (but_requests u ≡ but_requests (making f before now 0 k more q))
  made_by b q u before now items f x at same unmade by = let h = by x at in let g = h.1.1 (ap is_made unmade) in
      (g.0, g.1, g.2, h.3 ∙ ap but_requests (g.4 ∙ ap (λ (z : Fate). making z before now 0 g.0 g.1 q) same))

  -- the answers that made it left which indicators count as loaded
  pub clear_by : (b : Base) (q u : Plan) (before now : ℕ) (items : List CallAnswer) → 0 < length items → q.mine ≡ [] → IsRecordedBy Contents step b q u before now items → u.clear ≡ q.clear
  clear_by b q u before now items some_given unmade by = let x = at_some items 0 some_given in let h = by x.0 x.1 in let g = h.1.1 (ap is_made unmade) in ap (λ (z : Plan). z.clear) h.3 ∙ ap (λ (z : Plan). z.clear) g.4

  -- a pass that published nothing
  pub pass_refused : (b : Base) (p q u : Plan) (callers before now k many : ℕ) (items : List Posted) (more : List Entry) (o : Outcome) → IsScan (IsCall step b) p q callers items → IsBatch Contents step b q k more
      → but_requests u ≡ but_requests (making (outcomes.fate_of o) before now 0 k more q) → published (outcomes.fate_of o) more ≡ [] → 0 < length items → many ≡ length items → Each (λ _ f. f.answered ≡ true) u.requests → o ≢ outcome.Nothing → SameCalls q u
      → (x : IsPass Contents step b p u callers before now (record { found = many; done = 0; outcome = o })) × (x.more ≡ more)
  pass_refused b p q u callers before now k many items more o scan batched kept none any_found many_is answered other calls = let f : Fate = outcomes.fate_of o in let founds : List Found = map found_of q.requests in
      let history : u.history ≡ q.history ++ published f more = ap (λ (z : Plan). z.history) kept in let long : length q.history + length (published f more) ≡ length u.history = sym (ap length history ∙ length-append q.history (published f more)) in (
        record {
          passes = ap (λ (z : Plan). z.passes) kept ∙ ap (λ (z : Plan). z.passes) scan.rest;
          dealt = ap (λ (z : Plan). z.dealt) kept ∙ ap (λ (z : Plan). z.dealt) scan.rest;
          scanned = q;
          items = items;
          scan = scan;
          calls = calls;
          found = many_is;
          nothing = ((λ e. absurd (other e)), (λ z. absurd (omega arith)));
          front = k;
          more = more;
          moment = 0;
          batch = batched;
          done = sym (ap length none);
          history = history ∙ ap (λ (l : List Entry). l ++ published f more) (ap (λ (z : Plan). z.history) scan.rest);
          records = ap records_of kept ∙ (λ j. ap (λ (z : Plan). z.records) scan.rest j
              ++ ap (λ (len : ℕ). record_list founds (record { found = founds; fate = f; faults_before = before; faults_after = now; len = len; committed = 0 })) long j);
          told = ap (λ (z : Plan). z.told) kept ∙ ap (λ l. l ++ fate_told f k founds more) (ap (λ (z : Plan). z.told) scan.rest);
          answered = answered;
        },
        refl,
      )

  -- and what a stop since its start leaves
  pub passed_refused : {D : Type 0} (shown : ShownDevice D) (a d : D) (b : Base) (p q u : Plan) (callers before now k many : ℕ) (items : List Posted) (more : List Entry) (o : Outcome)
      → IsScan (IsCall step b) p q callers items → IsBatch Contents step b q k more
      → but_requests u ≡ but_requests (making (outcomes.fate_of o) before now 0 k more q) → published (outcomes.fate_of o) more ≡ [] → 0 < length items → many ≡ length items → Each (λ _ f. f.answered ≡ true) u.requests → o ≢ outcome.Nothing → SameCalls q u
      → (IsTrue shown.tells_images → (s : S) (n : ℕ) → Contents b.order b.image s n → Runs shown (Becomes (PassMakes Contents step b s n (outcomes.fate_of o) q.history (batch_found Contents step b s n q))) a d)
      → (x : IsPass Contents step b p u callers before now (record { found = many; done = 0; outcome = o }))
      × (IsTrue shown.tells_images → (s : S) (n : ℕ) → Contents b.order b.image s n → Runs shown (Becomes (PassMakes Contents step b s n (outcomes.fate_of o) p.history x.more)) a d)
  passed_refused shown a d b p q u callers before now k many items more o scan batched kept none any_found many_is answered other calls runs =
      let x = pass_refused b p q u callers before now k many items more o scan batched kept none any_found many_is answered other calls in (
        x.0,
        λ told s n op. let e = batched s n op in let same : batch_found Contents step b s n q ≡ more = ap (λ (m : ℕ). batch step b.order (after step b.order s n q.history) m (map found_of q.requests)) (sym e.0) ∙ sym e.1 in
            subst (λ (r : List Entry × List Entry). Runs shown (Becomes (PassMakes Contents step b s n (outcomes.fate_of o) r.0 r.1)) a d) (λ j. (ap (λ (z : Plan). z.history) scan.rest j, (same ∙ sym x.1) j)) (runs told s n op),
      )

  -- The same of a pass whose batch was published, and that has settled, from its plans: as it began, with what was found, published, with all answered, and settled.
  pub passed_published : {D : Type 0} (shown : ShownDevice D) (a d : D) (b : Base) (p q m u z : Plan) (callers before mid end version : ℕ) (clear : List (ℕ × ℕ)) (many done : ℕ) (items : List Posted) (o : Outcome)
      → IsScan (IsCall step b) p q callers items → (pb : IsPublished Contents step b q m before mid) → but_requests u ≡ but_requests m → z ≡ rested end version clear u → 0 < length items → many ≡ length items → done ≡ length pb.more → Each (λ _ f. f.answered ≡ true) u.requests → o ≡ outcome.Published → SameCalls q m → SameCalls m u
      → (IsTrue shown.tells_images → (s : S) (n : ℕ) → Contents b.order b.image s n → Runs shown (Becomes (PassMakes Contents step b s n (outcomes.fate_of o) q.history (batch_found Contents step b s n q))) a d)
      → (x : IsPass Contents step b p z callers before end (record { found = many; done = done; outcome = o }))
      × (IsTrue shown.tells_images → (s : S) (n : ℕ) → Contents b.order b.image s n → Runs shown (Becomes (PassMakes Contents step b s n (outcomes.fate_of o) p.history x.more)) a d)
  passed_published shown a d b p q m u z callers before mid end version clear many done items o scan pb kept settled any_found many_is done_is answered is out given runs =
      let calls : SameCalls q z = (ap (λ (r : Plan). r.scanned) settled ∙ (given.0 ∙ out.0), ap (λ (r : Plan). map found_of r.requests) settled ∙ (given.1 ∙ out.1)) in
      let last : but_requests z ≡ but_requests (rested end version clear m) = ap but_requests settled ∙ ap (λ (r : Plan). but_requests (rested end version clear r)) kept in
      let x = pass_published Contents step b p q m z callers before mid end version clear many done items o scan pb last any_found many_is done_is (subst (λ (r : Plan). Each (λ _ f. f.answered ≡ true) r.requests) (sym settled) answered) is calls in (
        x.0,
        λ told s n op. let e = pb.batch s n op in let same : batch_found Contents step b s n q ≡ pb.more = ap (λ (k : ℕ). batch step b.order (after step b.order s n q.history) k (map found_of q.requests)) (sym e.0) ∙ sym e.1 in
            subst (λ (r : List Entry × List Entry). Runs shown (Becomes (PassMakes Contents step b s n (outcomes.fate_of o) r.0 r.1)) a d) (λ j. (ap (λ (r : Plan). r.history) scan.rest j, (same ∙ sym x.1) j)) (runs told s n op),
      )

  module _ (b : Base) (s : S) (n : ℕ) where
    -- the batch of the last record is in doubt
    now_doubted : (q u : Plan) (rs : List PassRecord) (r : PassRecord) (ph : Phase) (i : List ℕ) → u.history ≡ q.history → records_of u ≡ rs ++ r ∷ [] → r.fate ≡ fate.Doubt → r.len ≡ length q.history → r.found ≡ map found_of q.requests → ph ≡ phase.Doubt
        → PassMakes Contents step b s n fate.Doubt q.history (batch_found Contents step b s n q) i → ImageAt Contents step b s n ph u i
    now_doubted q u rs r ph i history records fate_is len found is (inl h) = inl (subst (λ (l : List Entry). HoldsHistory Contents step b s n l i) (sym history) h)
    now_doubted q u rs r ph i history records fate_is len found is (inr h) = inr (
      is,
      batch_found Contents step b s n q,
      record {
        earlier = rs;
        pass = r;
        later = [];
        stands = records;
        fate_is = fate_is;
        unmoved = len ∙ ap length (sym history);
        last = tt;
        batch_is = λ j. batch step b.order (after step b.order s n (sym history j)) (n + length (sym history j)) (sym found j);
      },
      subst (λ (l : List Entry). HoldsHistory Contents step b s n (l ++ batch_found Contents step b s n q) i) (sym history) h.1,
    )

    module _ {D : Type 0} (shown : ShownDevice D) (t t' : Seen D) where
      -- before the commit: the list holds, or the phase and the batch in doubt are as before
      now_failed : (p q u : Plan) (r : PassRecord) (more : List Entry) (i : List ℕ) → Stays (r ∷ []) p u → u.history ≡ q.history → r.fate ≢ fate.Doubt → (t'.phase ≡ phase.Undo) ⊎ ((t'.phase ≡ t.phase) × NeedsRepair t.phase) → InPhase shown t' → t'.order ≡ b.order
          → Held Contents step b s n (committed shown t') u.history → Runs shown (Becomes (PassMakes Contents step b s n fate.Failed q.history more)) t.device t'.device → ((j : List ℕ) → shown.leaves t.device j → ImageAt Contents step b s n t.phase p j)
          → shown.leaves t'.device i → ImageAt Contents step b s n t'.phase u i
      now_failed p q u r more i st history other (inl undo) known order held runs old left = inl (record { region = committed shown t'; current = subst (λ (k : ℕ). IsCurrentRegion k i (committed shown t')) order (undo_region shown t' undo known i left); contents = held })
      now_failed p q u r more i st history other (inr same) known order held runs old left = ⊎_elim
          (λ was. subst (λ (ph : Phase). ImageAt Contents step b s n ph u i) (sym same.0) (now_stays Contents step b s n t.phase (r ∷ []) p u i (other, tt) st (old i was)))
          (λ makes. ⊎_elim (λ h. inl (subst (λ (l : List Entry). HoldsHistory Contents step b s n l i) (sym history) h)) (λ h. absurd h.0) makes)
          (now_since shown (PassMakes Contents step b s n fate.Failed q.history more) t.device t'.device runs i left)

      now_refused : (o : Outcome) (p q u : Plan) (before now : ℕ) (i : List ℕ) → o ≢ outcome.Published → o ≢ outcome.Nothing → Stays (record_now q (outcomes.fate_of o) before now ∷ []) p u → u.history ≡ q.history
          → (o ≡ outcome.Failed → (t'.phase ≡ phase.Undo) ⊎ ((t'.phase ≡ t.phase) × NeedsRepair t.phase)) → (o ≡ outcome.Doubt → t'.phase ≡ phase.Doubt) → InPhase shown t' → t'.order ≡ b.order
          → Held Contents step b s n (committed shown t') u.history → Runs shown (Becomes (PassMakes Contents step b s n (outcomes.fate_of o) q.history (batch_found Contents step b s n q))) t.device t'.device
          → (o ≡ outcome.Doubt → (j : List ℕ) → shown.leaves t'.device j → PassMakes Contents step b s n fate.Doubt q.history (batch_found Contents step b s n q) j)
          → ((j : List ℕ) → shown.leaves t.device j → ImageAt Contents step b s n t.phase p j) → shown.leaves t'.device i → ImageAt Contents step b s n t'.phase u i
      now_refused outcome.Nothing p q u before now i unpublished found_some st history failed doubt known order held runs doubted old left = absurd (found_some refl)
      now_refused outcome.Published p q u before now i unpublished found_some st history failed doubt known order held runs doubted old left = absurd (unpublished refl)
      now_refused outcome.Failed p q u before now i unpublished found_some st history failed doubt known order held runs doubted old left = now_failed p q u (record_now q fate.Failed before now) (batch_found Contents step b s n q) i st history (λ (e : fate.Failed ≡ fate.Doubt). cc) (failed refl) known order held runs old left
      now_refused outcome.Doubt p q u before now i unpublished found_some st history failed doubt known order held runs doubted old left = now_doubted q u (records_of p) (record_now q fate.Doubt before now) t'.phase i history st.records refl refl refl (doubt refl) (doubted refl i left)

  rests_refused : (o : Outcome) (ph ph₀ : Phase) → o ≢ outcome.Published → o ≢ outcome.Nothing → (o ≡ outcome.Failed → (ph ≡ phase.Undo) ⊎ ((ph ≡ ph₀) × NeedsRepair ph₀)) → (o ≡ outcome.Doubt → ph ≡ phase.Doubt) → Rests ph
  rests_refused outcome.Nothing ph ph₀ unpublished found_some failed doubt = absurd (found_some refl)
  rests_refused outcome.Published ph ph₀ unpublished found_some failed doubt = absurd (unpublished refl)
  rests_refused outcome.Failed ph ph₀ unpublished found_some failed doubt = ⊎_elim (λ undo. inr (inl undo)) (λ same. inr (subst NeedsRepair (sym same.0) same.1)) (failed refl)
  rests_refused outcome.Doubt ph ph₀ unpublished found_some failed doubt = inr (inr (inl (doubt refl)))

  pub none_refused : (o : Outcome) (more : List Entry) → o ≢ outcome.Published → o ≢ outcome.Nothing → published (outcomes.fate_of o) more ≡ []
  none_refused outcome.Nothing more unpublished found_some = absurd (found_some refl)
  none_refused outcome.Published more unpublished found_some = absurd (unpublished refl)
  none_refused outcome.Failed more unpublished found_some = refl
  none_refused outcome.Doubt more unpublished found_some = refl

  -- the core after a pass that failed or is in doubt; b is the table's base as the publishing saw it, and q its plan
  pub core_refused : {D : Type 0} (shown : ShownDevice D) (t t' : Seen D) (v w : View) (b : Base) (q : Plan) (o : Outcome) (before now k : ℕ) (more : List Entry)
      → (c : IsAtRest shown Contents step t v) → b ≡ v.base → w.base ≡ v.base → o ≢ outcome.Published → o ≢ outcome.Nothing → but_requests q ≡ but_requests (beginning (plan_of v)) → but_requests (plan_of w) ≡ but_requests (making (outcomes.fate_of o) before now 0 k more q) → 0 < length q.requests
      → Each (λ _ f. f.answered ≡ true) (plan_of w).requests → t'.order ≡ t.order → (IsTrue shown.tells_images → committed shown t' ≡ committed shown t) → (IsTrue shown.tells_images → InPhase shown t')
      → (o ≡ outcome.Failed → (t'.phase ≡ phase.Undo) ⊎ ((t'.phase ≡ t.phase) × NeedsRepair t.phase)) → (o ≡ outcome.Doubt → t'.phase ≡ phase.Doubt) → IsTrue (shown.failing t'.device)
      → (IsTrue shown.tells_images → Runs shown (Becomes (PassMakes Contents step b c.start c.count (outcomes.fate_of o) q.history (batch_found Contents step b c.start c.count q))) t.device t'.device)
      → (IsTrue shown.tells_images → o ≡ outcome.Doubt → (j : List ℕ) → shown.leaves t'.device j → PassMakes Contents step b c.start c.count fate.Doubt q.history (batch_found Contents step b c.start c.count q) j) → now ≤ shown.faults t'.device
      → IsAtRest shown Contents step t' w
  core_refused shown t t' v w b q o before now k more c base_b base unpublished found_some scan kept found answered order committed_same known failed doubt failing runs doubted last =
      let r : PassRecord = record_now q (outcomes.fate_of o) before now in let none = none_refused o more unpublished found_some in
      let st : Stays (r ∷ []) (plan_of v) (plan_of w) = told_stays (plan_of v) q (plan_of w) (outcomes.fate_of o) before now k more scan kept none found in
      let history : (plan_of w).history ≡ q.history = st.history ∙ sym (ap (λ (z : Plan). z.history) scan) in
      let held : IsTrue shown.tells_images → Held Contents step b c.start c.count (committed shown t') (plan_of w).history = λ told. subst (λ (z : Base × List ℕ × List Entry). Held Contents step z.0 c.start c.count z.1 z.2) (λ j. (sym base_b j, (sym (c.committed_is told) ∙ sym (committed_same told)) j, sym st.history j)) c.held in
      rest_by Contents step shown t t' v w (r ∷ []) c base st order (rests_refused o t'.phase t.phase unpublished found_some failed doubt) (λ _. failing) committed_same
      (λ told i left. subst (λ (z : Base). ImageAt Contents step z c.start c.count t'.phase (plan_of w) i) base_b
      (now_refused b c.start c.count shown t t' o (plan_of v) q (plan_of w) before now i unpublished found_some st history failed doubt (known told) (order ∙ (c.order_is ∙ ap (λ (z : Base). z.order) (sym base_b))) (held told) (runs told) (doubted told)
      (λ j was. subst (λ (z : Base). ImageAt Contents step z c.start c.count t.phase (plan_of v) j) (sym base_b) (c.images told j was)) left))
      answered
      (subst (λ (z : ℕ). z ≤ shown.faults t'.device) (sym (ap (faults_after v.base.faults) st.records ∙ faults_last v.base.faults (records_of (plan_of v)) r)) last)

  -- the core after a pass that found the count at its limit
  pub core_spent : {D : Type 0} (shown : ShownDevice D) (t : Seen D) (v w : View) (q : Plan) (before k : ℕ) (more : List Entry)
      → IsAtRest shown Contents step t v → w.base ≡ v.base → but_requests q ≡ but_requests (beginning (plan_of v)) → but_requests (plan_of w) ≡ but_requests (making fate.Published before before 0 k more q) → more ≡ [] → 0 < length q.requests
      → Each (λ _ f. f.answered ≡ true) (plan_of w).requests → before ≤ shown.faults t.device → IsAtRest shown Contents step t w
  core_spent shown t v w q before k more c base scan kept none found answered last =
      let r : PassRecord = record_now q fate.Published before before in
      let st : Stays (r ∷ []) (plan_of v) (plan_of w) = told_stays (plan_of v) q (plan_of w) fate.Published before before k more scan kept none found in
      rest_stays Contents step shown t v w (r ∷ []) c base ((λ (e : fate.Published ≡ fate.Doubt). cc), tt) st answered
      (subst (λ (z : ℕ). z ≤ shown.faults t.device) (sym (ap (faults_after v.base.faults) st.records ∙ faults_last v.base.faults (records_of (plan_of v)) r)) last)

  found_calls : (b : Base) (fs : List Request) → Each (λ _ f. IsUnanswered (IsCall step b) f) fs → AreCalls step b.order (map found_of fs)
  found_calls b [] fresh = tt
  found_calls b (f ∷ fs) fresh = ((fresh 0 f refl).2, found_calls b fs (λ j g e. fresh (suc j) g e))

  -- a published batch below the limit isn't empty
  pub batch_done : (b : Base) (q : Plan) (s : S) (n k : ℕ) (more : List Entry) → Contents b.order b.image s n → IsBatch Contents step b q k more → Each (λ _ f. IsUnanswered (IsCall step b) f) q.requests → 0 < length q.requests → n + length q.history < LAST_COUNT → 0 < length more
  batch_done b q s n k more op batched fresh found low = let e = batched s n op in
      let long = batch_some step b.order (after step b.order s n q.history) k (map found_of q.requests) (found_calls b q.requests fresh) (omega (arith, found, length_map found_of q.requests)) (omega (arith, e.0)) in omega (arith, ap length e.1)
