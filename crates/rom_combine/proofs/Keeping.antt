-- What a pass keeps where it publishes nothing
use Rattle.std.proofs.Common.{◌≡◌, ◌≢◌, inl, inr, ℕ, ◌+◌, ◌*◌, ◌<◌, ◌≤◌, List, [], ◌∷◌, ◌++◌, map, length, sym, refl, ap, ◌∙◌, subst, arith, true, Option, append-nil, append_assoc, length-append, IsTrue}
use Rattle.std.specs.List.{AllByRecursion}
use Rattle.rom_model.specs.declared.entry.Entry.{Entry}
use Rattle.rom_model.specs.declared.record.PassRecord.{PassRecord}
use Rattle.rom_model.specs.declared.record.Fate.TheVariants as fate
use Rattle.rom_model.specs.Blocks.{IsOrder}
use Rattle.rom_model.specs.History.{after, batch}
use Rattle.rom_rule.specs.Places.{indicator_count}
use Rattle.rom_rule.specs.Views.{has}
use Rattle.rom_device.specs.Device.{ShownDevice}
use Rattle.rom_twin.specs.Seen.{NeedsRepair, Rests, Seen, committed}
use Rattle.rom_twin.specs.declared.phase.Phase.{Phase}
use Rattle.rom_combine.specs.declared.passed.Outcome.TheVariants as outcome
use Rattle.rom_model.specs.Passes.{faults_after}
use Rattle.rom_rule.specs.declared.views.Base.{Base}
use Rattle.rom_rule.specs.declared.views.Request.{Request}
use Rattle.rom_rule.specs.declared.views.Plan.{Plan}
use Rattle.rom_rule.specs.declared.views.View.{View}
use Rattle.rom_rule.specs.Views.{Each, plan_of, records_of}
use Rattle.rom_rule.specs.Calls.{found_of}
use Rattle.rom_rule.specs.Readers.{Held}
use Rattle.rom_rule.specs.Records.{IsCall}
use Rattle.rom_rule.specs.CallKinds.{beginning}
use Rattle.rom_rule.specs.Kinds.{record_list}
use Rattle.rom_combine.specs.declared.scanning.Posted.{Posted}
use Rattle.rom_combine.specs.Scanning.{but_requests, posted_of, IsScan}
use Rattle.rom_combine.specs.Answering.{SameCalls}
use Rattle.rom_combine.specs.Published.{IsPublished}
use Rattle.rom_combine.specs.Resting.{rested}
use Rattle.rom_combine.specs.Histories.{HoldsHistory, ImageAt}
use Rattle.rom_combine.specs.AtRest.{IsAtRest, IsClear, IsReady}
use Rattle.rom_ranges.specs.Log.{Logged}
use Rattle.rom_combine.specs.Passing.{IsPass}

-- a log that was cleared keeps its room
pub ready_by : (stores : ℕ) (b b' : Base) (log log' : Logged) → IsReady stores b.callers log → b' ≡ b → IsClear log' → log'.room ≡ log.room → IsReady stores b'.callers log'
ready_by stores b b' log log' is e clear room = record { clear = clear; room = omega (arith, is.room, room, ap (λ (z : Base). stores * z.callers) e) }

-- the second plan has the regions, `side` and the list of the first, and its records with these after
pub record Stays (more : List PassRecord) (p q : Plan) : Type 0 where
  pub main : q.main ≡ p.main
  pub back : q.back ≡ p.back
  pub side : q.side ≡ p.side
  pub clear : q.clear ≡ p.clear
  pub history : q.history ≡ p.history
  pub records : records_of q ≡ records_of p ++ more

pub scan_stays : (p q : Plan) → but_requests q ≡ but_requests (beginning p) → Stays [] p q
scan_stays p q e = record {
  main = ap (λ (z : Plan). z.main) e;
  back = ap (λ (z : Plan). z.back) e;
  side = ap (λ (z : Plan). z.side) e;
  clear = ap (λ (z : Plan). z.clear) e;
  history = ap (λ (z : Plan). z.history) e;
  records = ap records_of e;
}

-- none of these is in doubt
abbrev pub NoDoubt : List PassRecord → Type 0
NoDoubt rs = AllByRecursion (λ r. r.fate ≢ fate.Doubt) rs

no_doubt_join : (rs more : List PassRecord) → NoDoubt rs → NoDoubt more → NoDoubt (rs ++ more)
no_doubt_join [] more h m = m
no_doubt_join (r ∷ rs) more h m = (h.0, no_doubt_join rs more h.1 m)

none_found : (items : List Posted) (fs : List Request) → length items ≡ 0 → items ≡ map posted_of fs → fs ≡ []
none_found items [] zero e = refl
none_found items (f ∷ fs) zero e = let long = ap length e in absurd (omega arith)

module _ {S : Type 0} (Contents : ℕ → List ℕ → S → ℕ → Type 0) (step : ℕ → S → ℕ → List ℕ → Option (S × List ℕ)) where
  pub now_stays : (b : Base) (s : S) (n : ℕ) (ph : Phase) (more : List PassRecord) (p q : Plan) (i : List ℕ) → NoDoubt more → Stays more p q → ImageAt Contents step b s n ph p i → ImageAt Contents step b s n ph q i
  now_stays b s n ph more p q i none st (inl h) = inl (subst (λ (l : List Entry). HoldsHistory Contents step b s n l i) (sym st.history) h)
  now_stays b s n ph more p q i none st (inr d) = inr (
    d.0,
    d.1,
    record {
      earlier = d.2.earlier;
      pass = d.2.pass;
      later = d.2.later ++ more;
      stands = st.records ∙ (ap (λ (l : List PassRecord). l ++ more) d.2.stands ∙ append_assoc d.2.earlier (d.2.pass ∷ d.2.later) more);
      fate_is = d.2.fate_is;
      last = no_doubt_join d.2.later more d.2.last none;
      unmoved = d.2.unmoved ∙ ap length (sym st.history);
      batch_is = subst (λ (l : List Entry). d.1 ≡ batch step b.order (after step b.order s n l) (n + length l) d.2.pass.found) (sym st.history) d.2.batch_is;
    },
    subst (λ (l : List Entry). HoldsHistory Contents step b s n (l ++ d.1) i) (sym st.history) d.3,
  )

  module _ {D : Type 0} (shown : ShownDevice D) where
    -- on a device whose committed image is the same
    pub rest_by : (t t' : Seen D) (v w : View) (more : List PassRecord) → (c : IsAtRest shown Contents step t v) → w.base ≡ v.base → Stays more (plan_of v) (plan_of w) → t'.order ≡ t.order → Rests t'.phase → (NeedsRepair t'.phase → IsTrue (shown.failing t'.device))
        → (IsTrue shown.tells_images → committed shown t' ≡ committed shown t) → (IsTrue shown.tells_images → (i : List ℕ) → shown.leaves t'.device i → ImageAt Contents step v.base c.start c.count t'.phase (plan_of w) i)
        → Each (λ _ f. f.answered ≡ true) (plan_of w).requests → faults_after v.base.faults (records_of (plan_of w)) ≤ shown.faults t'.device → IsAtRest shown Contents step t' w
    rest_by t t' v w more c base st order rests failed committed_same images answered counts = record {
      order_is = order ∙ (c.order_is ∙ sym (ap (λ (z : Base). z.order) base));
      order_fits = subst IsOrder (sym order) c.order_fits;
      side_is = st.side ∙ c.side_is;
      settled = subst (λ (z : Base × List (ℕ × ℕ)). (k : ℕ) → k < indicator_count z.0.callers → has k z.1 ≡ true) (λ j. (sym base j, sym st.clear j)) c.settled;
      same = st.main ∙ (c.same ∙ sym st.back);
      start = c.start;
      count = c.count;
      opening = subst (λ (z : Base). Contents z.order z.image c.start c.count) (sym base) c.opening;
      held = subst (λ (z : Base × List ℕ × List Entry). Held Contents step z.0 c.start c.count z.1 z.2) (λ j. (sym base j, sym st.main j, sym st.history j)) c.held;
      rests = rests;
      committed_is = λ told. committed_same told ∙ (c.committed_is told ∙ sym st.main);
      images = λ told i left. subst (λ (z : Base). ImageAt Contents step z c.start c.count t'.phase (plan_of w) i) (sym base) (images told i left);
      failed = failed;
      answered = answered;
      counts = subst (λ (z : Base). faults_after z.faults (records_of (plan_of w)) ≤ shown.faults t'.device) (sym base) counts;
    }

  module _ {D : Type 0} (shown : ShownDevice D) (t : Seen D) where
    -- on the same device
    pub rest_stays : (v w : View) (more : List PassRecord) → IsAtRest shown Contents step t v → w.base ≡ v.base → NoDoubt more → Stays more (plan_of v) (plan_of w) → Each (λ _ f. f.answered ≡ true) (plan_of w).requests
        → faults_after v.base.faults (records_of (plan_of w)) ≤ shown.faults t.device → IsAtRest shown Contents step t w
    rest_stays v w more c base none st answered counts = rest_by shown t t v w more c base st refl c.rests c.failed (λ told. refl) (λ told i left. now_stays v.base c.start c.count t.phase more (plan_of v) (plan_of w) i none st (c.images told i left)) answered counts

    -- with the same records
    pub rest_same : (v w : View) → IsAtRest shown Contents step t v → w.base ≡ v.base → Stays [] (plan_of v) (plan_of w) → Each (λ _ f. f.answered ≡ true) (plan_of w).requests → IsAtRest shown Contents step t w
    rest_same v w c base st answered = rest_stays v w [] c base tt st answered (subst (λ (rs : List PassRecord). faults_after v.base.faults rs ≤ shown.faults t.device) (sym (append-nil (records_of (plan_of v))) ∙ sym st.records) c.counts)

    pub now_of : (v : View) (s : S) (n : ℕ) → ((s₁ s₂ : S) (j k : ℕ) → Contents v.base.order v.base.image s₁ j → Contents v.base.order v.base.image s₂ k → (s₁ ≡ s₂) × (j ≡ k)) → IsAtRest shown Contents step t v
        → IsTrue shown.tells_images → Contents v.base.order v.base.image s n → (i : List ℕ) → shown.leaves t.device i → ImageAt Contents step v.base s n t.phase (plan_of v) i
    now_of v s n one c told op i left = let same = one s c.start n c.count op c.opening in
        subst (λ (z : S × ℕ). ImageAt Contents step v.base z.0 z.1 t.phase (plan_of v) i) (λ j. (sym same.0 j, sym same.1 j)) (c.images told i left)

  -- a pass that found no call
  pub pass_nothing : (b : Base) (p q : Plan) (callers before now : ℕ) (items : List Posted) (s : S) (n : ℕ) → ((s₁ s₂ : S) (j k : ℕ) → Contents b.order b.image s₁ j → Contents b.order b.image s₂ k → (s₁ ≡ s₂) × (j ≡ k))
      → Contents b.order b.image s n → IsScan (IsCall step b) p q callers items → length items ≡ 0 → Each (λ _ f. f.answered ≡ true) q.requests → IsPass Contents step b p q callers before now (record { found = 0; done = 0; outcome = outcome.Nothing })
  pass_nothing b p q callers before now items s n one op scan zero answered = let none : q.requests ≡ [] = none_found items q.requests zero scan.items_are in let st = scan_stays p q scan.rest in record {
    passes = ap (λ (z : Plan). z.passes) scan.rest;
    dealt = ap (λ (z : Plan). z.dealt) scan.rest;
    scanned = q;
    items = items;
    scan = scan;
    calls = (refl, refl);
    found = sym zero;
    nothing = ((λ _. zero), (λ _. refl));
    front = n + length q.history;
    more = [];
    moment = 0;
    batch = λ s' n' op'. let same = one s' s n' n op' op in (ap (λ (k : ℕ). k + length q.history) (sym same.1), sym (ap (λ (fs : List Request). batch step b.order (after step b.order s' n' q.history) (n + length q.history) (map found_of fs)) none));
    done = refl;
    history = st.history ∙ sym (append-nil p.history);
    records = st.records ∙ ap (λ (fs : List Request). records_of p ++ record_list (map found_of fs) (record { found = map found_of q.requests; fate = fate.Published; faults_before = before; faults_after = now; len = length q.history; committed = 0 })) (sym none);
    told = ap (λ (z : Plan). z.told) scan.rest ∙ (sym (append-nil p.told) ∙ ap (λ (fs : List Request). p.told ++ Rattle.rom_model.specs.Passes.batch_told (n + length q.history) (map found_of fs) []) (sym none));
    answered = answered;
  }

  pub none_answered : (b : Base) (p q : Plan) (callers : ℕ) (items : List Posted) → IsScan (IsCall step b) p q callers items → length items ≡ 0 → Each (λ _ f. f.answered ≡ true) q.requests
  none_answered b p q callers items scan zero j f e = absurd (mathlib.Core.Option.some-ne-none f (sym (subst (λ (l : List Request). lib.ListN.get_elem? l j ≡ mathlib.Core.Option.some f) (none_found items q.requests zero scan.items_are) e)))

raised_list : (n : ℕ) (fs : List Rattle.rom_model.specs.declared.record.Found.Found) (r : PassRecord) → map (Rattle.rom_rule.specs.Kinds.with_faults_after n) (record_list fs r) ≡ record_list fs (Rattle.rom_rule.specs.Kinds.with_faults_after n r)
raised_list n [] r = refl
raised_list n (f ∷ fs) r = refl

-- a pass whose batch was published, and that has settled
pub pass_published : {S : Type 0} (Contents : ℕ → List ℕ → S → ℕ → Type 0) (step : ℕ → S → ℕ → List ℕ → Option (S × List ℕ)) (b : Base) (p q m u : Plan) (callers before mid end version : ℕ) (clear : List (ℕ × ℕ)) (many done : ℕ) (items : List Posted) (o : Rattle.rom_combine.specs.declared.passed.Outcome.Outcome)
    → IsScan (IsCall step b) p q callers items → (pb : IsPublished Contents step b q m before mid) → but_requests u ≡ but_requests (rested end version clear m) → 0 < length items → many ≡ length items → done ≡ length pb.more → Each (λ _ f. f.answered ≡ true) u.requests → o ≡ outcome.Published → SameCalls q u
    → (x : IsPass Contents step b p u callers before end (record { found = many; done = done; outcome = o })) × (x.more ≡ pb.more)
pass_published Contents step b p q m u callers before mid end version clear many done items o scan pb kept some many_is done_is answered is calls =
    let st = scan_stays p q scan.rest in let history : u.history ≡ q.history ++ pb.more = ap (λ (z : Plan). z.history) kept ∙ pb.history in
    let long : length q.history + length pb.more ≡ length u.history = sym (ap length history ∙ length-append q.history pb.more) in
    subst (λ (w : Rattle.rom_combine.specs.declared.passed.Outcome.Outcome). (x : IsPass Contents step b p u callers before end (record { found = many; done = done; outcome = w })) × (x.more ≡ pb.more)) (sym is) (
      record {
        passes = ap (λ (z : Plan). z.passes) kept ∙ (pb.passes ∙ ap (λ (z : Plan). z.passes) scan.rest);
        dealt = ap (λ (z : Plan). z.dealt) kept ∙ (pb.dealt ∙ ap (λ (z : Plan). z.dealt) scan.rest);
        scanned = q;
        items = items;
        scan = scan;
        calls = calls;
        found = many_is;
        nothing = ((λ (e : outcome.Published ≡ outcome.Nothing). absurd (differ e)), (λ z. absurd (omega arith)));
        front = pb.front;
        more = pb.more;
        moment = pb.moment;
        batch = pb.batch;
        done = done_is;
        history = history ∙ ap (λ (l : List Entry). l ++ pb.more) st.history;
        records = ap records_of kept ∙ ((λ j. (pb.records ∙ ap (λ (z : Plan). z.records) scan.rest) j ++ map (Rattle.rom_rule.specs.Kinds.with_faults_after end) (pb.mine j))
            ∙ ap (λ (l : List PassRecord). records_of p ++ l) (raised_list end (map found_of q.requests) _ ∙ ap (λ (k : ℕ). record_list (map found_of q.requests) (record { found = map found_of q.requests; fate = fate.Published; faults_before = before; faults_after = end; len = k; committed = pb.moment })) long));
        told = ap (λ (z : Plan). z.told) kept ∙ (pb.told ∙ ap (λ l. l ++ Rattle.rom_model.specs.Passes.fate_told fate.Published pb.front (map found_of q.requests) pb.more) (ap (λ (z : Plan). z.told) scan.rest));
        answered = answered;
      },
      refl,
    )
  where
    differ : outcome.Published ≡ outcome.Nothing → ⊥
    differ e = cc
