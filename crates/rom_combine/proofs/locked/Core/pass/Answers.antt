use Rattle.std.proofs.Math.Seq.{drop-append_seam}
use Rattle.rom_model.specs.Machine.{on_words, weight_on_words}
use Rattle.std.proofs.Common.{IfSome, Some, rules, arith, drop, take, ◌≡◌, ◌⊎◌, inl, inr, ⊎_elim, ℕ, ◌+◌, ◌-◌, ◌*◌, ◌^◌, ◌<◌, ◌≤◌, List, [], ◌∷◌, ◌++◌, map, length, length-append, slice_index, sym, refl, ap, ◌∙◌, subst, true, false, ◌≢◌, IsTrue}
use mathlib.Core.Option.{some}
use lib.ListN.{get_elem?}
use Rattle.rom_combine.proofs.Weights.{same_found}
use Rattle.rom_combine.proofs.Since.{becomes_none}
use Rattle.rom_combine.proofs.Counting.{after_region, committed_region}
use Rattle.rom_twin.specs.Seen.{NeedsRepair, Seen, committed}
use Rattle.rom_header.specs.Regions.{IsCurrentRegion}
use Rattle.rom_device.specs.Device.{Runs}
use Rattle.rom_device.specs.Device.{Becomes}
use Rattle.rom_combine.specs.Causes.{BeginsIn}
use Rattle.rom_combine.specs.Costs.{SpendsAtMost, WritesHeap, batch_syncs, batch_writes, syncs_before_commit, weights_added, weights_found, writes_before_commit}
use Rattle.rom_ranges.specs.Changes.{IsLogOf}
use Rattle.rom_ranges.specs.Ranges.{held_count}
use Rattle.rom_combine.specs.Images.{MayPublish}
use Rattle.rom_combine.specs.Told.{fate_of}
use Rattle.rom_combine.proofs.Outside.{writes_none, writes_then}
use Rattle.rom_combine.proofs.Spending.{batch_most, most_then, none_most}
use Rattle.rom_combine.specs.declared.passed.Outcome.TheVariants as outcome
use Rattle.rom_combine.specs.declared.passed.Passed.{Passed}
use Rattle.atomic_table.proofs.Lists.{at_map}
use Rattle.rom_rule.proofs.Told.{length_map, at_some}
use Rattle.rom_combine.specs.Resting.{rested}
use Rattle.rom_combine.proofs.Limits.{batch_short}
use Rattle.rom_combine.proofs.Rested.{may_raise, faults_rested, last_moment}
use Rattle.rom_model.specs.declared.entry.Entry.{Entry}
use Rattle.rom_model.specs.declared.record.Fate.TheVariants as fate
use Rattle.rom_model.specs.declared.record.PassRecord.{PassRecord}
use Rattle.rom_model.specs.Blocks.{IsOrder, region_len}
use Rattle.rom_model.specs.History.{LAST_COUNT, after, batch}
use Rattle.rom_model.specs.Passes.{faults_after}
use Rattle.rom_rule.specs.declared.views.Base.{Base}
use Rattle.rom_rule.specs.declared.views.Plan.{Plan}
use Rattle.rom_rule.specs.declared.views.View.{View}
use Rattle.rom_rule.specs.Views.{Each, base_of, is_made, plan_of, records_of}
use Rattle.rom_rule.specs.Calls.{AreScanned, caller_in, found_of}
use Rattle.rom_rule.specs.Kinds.{MayRaise, with_faults_after}
use Rattle.rom_rule.specs.CallKinds.{beginning}
use Rattle.rom_rule.proofs.Books.{full_batch}
use Rattle.rom_rule.specs.Records.{IsCall}
use Rattle.rom_rule.specs.Readers as rule
use Rattle.rom_combine.specs.declared.answering.CallAnswer.{CallAnswer}
use Rattle.rom_combine.specs.Scanning.{IsUnanswered, IsScan, posted_of, but_requests}
use Rattle.rom_combine.specs.declared.scanning.Posted.{Posted}
use Rattle.rom_combine.specs.Answering.{HasGiven, IsRecordedBy, SameCalls, caller_of}
use Rattle.rom_combine.specs.Answering.{refused}
use Rattle.rom_combine.specs.Ends.{EndsFailed, EndsInDoubt}
use Rattle.rom_combine.specs.Histories.{IsCertainSince, PassMakes, ImageAt, batch_found}
use Rattle.rom_combine.specs.Applying.{laid_of}
use Rattle.rom_combine.specs.AtRest.{IsAtRest, Locked}
use Rattle.rom_combine.specs.Published.{IsPublished}
use Rattle.rom_combine.specs.Shipping.{AreLast, reply_in, update_of, updates_of}
use Rattle.rom_combine.specs.Wanted.{calls_found}
use Rattle.rom_combine.proofs.Wanting.{posted_requests, same_calls_found}
use Rattle.rom_combine.proofs.Bridge.{same_held, list_certain, list_settled}
use Rattle.rom_combine.specs.Passing.{IsPass}
use Rattle.rom_combine.proofs.Keeping.{ready_by, scan_stays, rest_same, now_of, pass_nothing, none_answered}
use Rattle.rom_combine.proofs.Failing.{begins_in, clean_needs_none, failing_refused, first_left, made_by, pass_refused, passed_refused, none_refused, core_refused, core_spent, batch_done, passed_published, clear_by}
use Rattle.rom_combine.proofs.Refusing.{is_refused, may_spend}
use Rattle.rom_combine.proofs.Writing.{keeps_by, keeps_then}
use Rattle.rom_combine.proofs.Begins.{answered_plan, ready_to_publish}
use Rattle.rom_combine.proofs.Handed.{Grew, handed_batch, has_grown, history_stays, length_given, ships_grown, ships_same, unanswered_left}
use Rattle.rom_combine.proofs.Ends.{doubt_not_nothing, ended, failed_not_nothing, none_done, none_of, published_not_doubt, published_not_failed, published_not_nothing, some_of}
use Rattle.rom_combine.proofs.locked.Core.pass.Given.{Over}
use Rattle.rom_combine.proofs.locked.Core.pass.Goals as goal

-- what a pass did and answered, and what a stop since its start leaves
abbrev Told : (g : Over) → Locked g.row.D.Denot → Plan → ℕ → g.row.D.Denot → Passed → Type 0
Told g old q callers d r = let shown = g.D.Device.shown in let b : Base = old.view.base in let p : Plan = plan_of old.view in
    (x : IsPass g.O.Object.Contents (on_words g.O.Object.machine) b p q callers (shown.faults old.twin.device) (shown.faults d) r)
    × (IsTrue shown.tells_images → (s : g.O.Object.State) (n : ℕ) → g.O.Object.Contents b.order b.image s n → Runs shown (Becomes (PassMakes g.O.Object.Contents (on_words g.O.Object.machine) b s n (fate_of r.outcome) p.history x.more)) old.twin.device d)

-- where the pass went on behind the publishing
unpublished : (g : Over) (c : goal.After-of-then-ne g) → c.publish-outcome.result ≢ outcome.Published
unpublished g c = search rules

loads_published : (g : Over) (c : goal.After-load_main g) → c.publish-outcome.result ≡ outcome.Published
loads_published g c = search rules

settles_published : (g : Over) (c : goal.After-settle-arg-2-1 g) → c.publish-outcome.result ≡ outcome.Published
settles_published g c = search rules

is_published : (g : Over) (c : goal.After-of-2 g) → c.publish-outcome.result ≡ outcome.Published
is_published g c = search rules

-- the answers leave the published plan but for its requests
settles_given : (g : Over) (c : goal.After-settle-arg-2-1 g) → (is_made (plan_of c.publish-outcome.new.seat.token.me.0).mine ≡ true) × (but_requests (plan_of c.answer_all-2.new.seat.token.me.0) ≡ but_requests (plan_of c.publish-outcome.new.seat.token.me.0))
settles_given g c = let x : View = c.load_main-place.new.seat.token.me.0 in
    answered_plan g.O.Object.Contents (on_words g.O.Object.machine) x.base (plan_of c.find.new.seat.token.me.0) (plan_of x) (plan_of c.publish-outcome.new.seat.token.me.0) (plan_of c.load_main.new.seat.token.me.0) (plan_of c.answer_all-2.new.seat.token.me.0) c.fault_count-before.result (g.D.Device.shown.faults c.publish-outcome.new.twin.device)
    c.find.new.found.items c.find.ensures.scanned.items_are (some_of (length c.find.new.found.items) c.if-is_empty.ensures) (ap plan_of c.load_main-place.ensures.still.2) (c.publish-outcome.ensures.published (settles_published g c)).published (ap plan_of c.load_main.ensures.still.2) c.answer_all-2.ensures.kept

is_given : (g : Over) (c : goal.After-of-2 g) → (is_made (plan_of c.publish-outcome.new.seat.token.me.0).mine ≡ true) × (but_requests (plan_of c.answer_all-2.new.seat.token.me.0) ≡ but_requests (plan_of c.publish-outcome.new.seat.token.me.0))
is_given g c = let x : View = c.load_main-place.new.seat.token.me.0 in
    answered_plan g.O.Object.Contents (on_words g.O.Object.machine) x.base (plan_of c.find.new.seat.token.me.0) (plan_of x) (plan_of c.publish-outcome.new.seat.token.me.0) (plan_of c.load_main.new.seat.token.me.0) (plan_of c.answer_all-2.new.seat.token.me.0) c.fault_count-before.result (g.D.Device.shown.faults c.publish-outcome.new.twin.device)
    c.find.new.found.items c.find.ensures.scanned.items_are (some_of (length c.find.new.found.items) c.if-is_empty.ensures) (ap plan_of c.load_main-place.ensures.still.2) (c.publish-outcome.ensures.published (is_published g c)).published (ap plan_of c.load_main.ensures.still.2) c.answer_all-2.ensures.kept

pub invariant_of-self : goal.invariant_of-self
invariant_of-self g c = let v : View = c.self.inside.seat.token.me.0 in let w : View = c.find.new.seat.token.me.0 in let inv = c.self.invariant.0 in let sc = c.find.ensures.scanned in
    let base : w.base ≡ v.base = ap (λ (z : View). z.base) c.find.ensures.same.2 in
    let zero : length c.find.new.found.items ≡ 0 = none_of (length c.find.new.found.items) c.if-is_empty.ensures in
    let now = rest_same g.O.Object.Contents (on_words g.O.Object.machine) g.D.Device.shown c.self.inside.twin v w inv base (scan_stays (plan_of v) (plan_of w) sc.rest) (none_answered g.O.Object.Contents (on_words g.O.Object.machine) v.base (plan_of v) (plan_of w) _ c.find.new.found.items sc zero) in
    (now, ready_by (g.O.Object.STORES * g.O.Object.WEIGHT) v.base w.base c.self.inside.log c.self.inside.log c.self.invariant.1 base c.self.invariant.1.clear refl)

passed_none : (g : Over) (c : goal.After-of g) → Told g c.args.self.now (plan_of c.find.new.seat.token.me.0) c.args.shared.now.layout.callers c.self.inside.twin.device c.of.result
passed_none g c = let v : View = c.self.inside.seat.token.me.0 in let w : View = c.find.new.seat.token.me.0 in let inv = c.self.invariant.0 in let sc = c.find.ensures.scanned in
    let base : w.base ≡ v.base = ap (λ (z : View). z.base) c.find.ensures.same.2 in
    let zero : length c.find.new.found.items ≡ 0 = none_of (length c.find.new.found.items) c.if-is_empty.ensures in
    let x = pass_nothing g.O.Object.Contents (on_words g.O.Object.machine) v.base (plan_of v) (plan_of w) c.args.shared.now.layout.callers (g.D.Device.shown.faults c.self.inside.twin.device) (g.D.Device.shown.faults c.self.inside.twin.device) c.find.new.found.items inv.start inv.count (λ s₁ s₂ j k. g.met.O.Object.one_contents v.base.order v.base.image s₁ s₂ j k) inv.opening sc zero
    (none_answered g.O.Object.Contents (on_words g.O.Object.machine) v.base (plan_of v) (plan_of w) _ c.find.new.found.items sc zero) in
    rw c.of.ensures.is (subst (λ z. (y : IsPass g.O.Object.Contents (on_words g.O.Object.machine) z.view.base (plan_of z.view) (plan_of w) c.args.shared.now.layout.callers (g.D.Device.shown.faults z.twin.device) (g.D.Device.shown.faults c.self.inside.twin.device) (record { found = 0; done = 0; outcome = Rattle.rom_combine.specs.declared.passed.Outcome.TheVariants.Nothing }))
    × (Rattle.std.proofs.Common.IsTrue g.D.Device.shown.tells_images → (s : g.O.Object.State) (n : ℕ) → g.O.Object.Contents z.view.base.order z.view.base.image s n →
    Rattle.rom_device.specs.Device.Runs g.D.Device.shown (Rattle.rom_device.specs.Device.Becomes (PassMakes g.O.Object.Contents (on_words g.O.Object.machine) z.view.base s n fate.Published (plan_of z.view).history y.more)) z.twin.device c.self.inside.twin.device))
    c.self.view_is (x, (λ told s n op. becomes_none g.D.Device.shown (PassMakes g.O.Object.Contents (on_words g.O.Object.machine) v.base s n fate.Published (plan_of v).history x.more) c.self.inside.twin.device)))

pub returns-then-is_empty-clause-passed : goal.returns-then-is_empty-clause-passed
returns-then-is_empty-clause-passed g c = let t = passed_none g c in record {
  is = t.0;
  since = t.1;
  now = λ told s n op i left. let v : View = c.self.inside.seat.token.me.0 in let w : View = c.find.new.seat.token.me.0 in let inv = c.self.invariant.0 in let sc = c.find.ensures.scanned in
      let base : w.base ≡ v.base = ap (λ (z : View). z.base) c.find.ensures.same.2 in
      let zero : length c.find.new.found.items ≡ 0 = none_of (length c.find.new.found.items) c.if-is_empty.ensures in
      let now = rest_same g.O.Object.Contents (on_words g.O.Object.machine) g.D.Device.shown c.self.inside.twin v w inv base (scan_stays (plan_of v) (plan_of w) sc.rest) (none_answered g.O.Object.Contents (on_words g.O.Object.machine) v.base (plan_of v) (plan_of w) _ c.find.new.found.items sc zero) in
      let same : w.base ≡ c.args.self.now.view.base = base ∙ ap (λ z. z.view.base) c.self.view_is in
      subst (λ (z : Base). ImageAt g.O.Object.Contents (on_words g.O.Object.machine) z s n c.self.inside.twin.phase (plan_of w) i) same
      (now_of g.O.Object.Contents (on_words g.O.Object.machine) g.D.Device.shown c.self.inside.twin w s n (λ s₁ s₂ j k. g.met.O.Object.one_contents w.base.order w.base.image s₁ s₂ j k) now told (subst (λ (z : Base). g.O.Object.Contents z.order z.image s n) (sym same) op) i left);
}

pub answer_all-requires-clause-left : goal.answer_all-requires-clause-left
answer_all-requires-clause-left g c = let v : View = c.self.inside.seat.token.me.0 in let w : View = c.find.new.seat.token.me.0 in let inv = c.self.invariant.0 in let sc = c.find.ensures.scanned in
    let base : w.base ≡ v.base = ap (λ (z : View). z.base) c.find.ensures.same.2 in
    let x : View = c.load_main-place.new.seat.token.me.0 in let q : Plan = plan_of w in let st = scan_stays (plan_of v) q sc.rest in let before : ℕ = c.fault_count-before.result in
    let plan_x : plan_of x ≡ q = ap plan_of c.load_main-place.ensures.still.2 in let base_x : x.base ≡ v.base = ap (λ (z : View). z.base) c.load_main-place.ensures.still.2 ∙ base in
    let held : rule.Held g.O.Object.Contents (on_words g.O.Object.machine) v.base inv.start inv.count q.main q.history = subst (λ (z : List ℕ × List Entry). rule.Held g.O.Object.Contents (on_words g.O.Object.machine) v.base inv.start inv.count z.0 z.1) (λ j. (sym st.main j, sym st.history j)) inv.held in
    let word : slice_index q.main 2 ≡ inv.count + length q.history = (g.met.O.Object.contents_within v.base.order q.main _ _ held).1 in
    let full : inv.count + length q.history ≡ LAST_COUNT = omega (arith, word, c.load_main-place.ensures.word, c.if-place-eq-LAST_COUNT.true) in
    let of : v.base ≡ base_of c.args.shared.now.table.shared.key = ap (λ z. z.view.base) c.self.view_is ∙ c.requires.of.1 in
    let callers : c.args.shared.now.layout.callers ≡ v.base.callers = ap (λ l. l.callers) c.args.shared.now.laid ∙ sym (ap (λ (z : Base). z.callers) of) in
    let fresh : Each (λ _ f. IsUnanswered (IsCall (on_words g.O.Object.machine) v.base) f) q.requests = λ j f e. (sc.fresh j f e).1 in
    let from : faults_after v.base.faults q.records ≤ before = subst (λ (z : List PassRecord × ℕ). faults_after v.base.faults z.0 ≤ z.1) (λ j. (sym (ap (λ (z : Plan). z.records) sc.rest) j, sym c.fault_count-before.ensures j)) inv.counts in (
      fate.Published,
      subst (λ (z : Base × Plan × List CallAnswer). HasGiven g.O.Object.Contents (on_words g.O.Object.machine) z.0 fate.Published before before z.1 0 z.2) (λ j. (sym base_x j, sym plan_x j, sym c.as_slice-answers.ensures.value j))
          (is_refused g.O.Object.Contents (on_words g.O.Object.machine) v.base (2 ^ 62) fate.Published q before before c.as_slice.result.now c.refuse.new.answers.items refl refl
          (may_spend g.O.Object.Contents (on_words g.O.Object.machine) v.base q before before inv.start inv.count full (ap (λ (z : Plan). z.mine) sc.rest) fresh from (omega arith) inv.opening)
          (subst (λ (k : ℕ). AreScanned 0 k (Rattle.std.proofs.Common.map caller_in q.requests)) callers sc.rising) fresh (c.as_slice.ensures.value ∙ sc.items_are) c.refuse.ensures),
    )

pub publish-outcome-requires-clause-ready : goal.publish-outcome-requires-clause-ready
publish-outcome-requires-clause-ready g c = let v : View = c.self.inside.seat.token.me.0 in let w : View = c.find.new.seat.token.me.0 in let inv = c.self.invariant.0 in let sc = c.find.ensures.scanned in
    let x : View = c.load_main-place.new.seat.token.me.0 in let plan_x : plan_of x ≡ plan_of w = ap plan_of c.load_main-place.ensures.still.2 in
    let base_x : x.base ≡ v.base = ap (λ (z : View). z.base) c.load_main-place.ensures.still.2 ∙ ap (λ (z : View). z.base) c.find.ensures.same.2 in
    let of : v.base ≡ base_of c.args.shared.now.table.shared.key = ap (λ z. z.view.base) c.self.view_is ∙ c.requires.of.1 in
    let callers : c.args.shared.now.layout.callers ≡ v.base.callers = ap (λ l. l.callers) c.args.shared.now.laid ∙ sym (ap (λ (z : Base). z.callers) of) in
    let scanned : IsScan (IsCall (on_words g.O.Object.machine) x.base) (plan_of v) (plan_of x) c.args.shared.now.layout.callers c.find.new.found.items
    = subst (λ (r : Base × Plan). IsScan (IsCall (on_words g.O.Object.machine) r.0) (plan_of v) r.1 c.args.shared.now.layout.callers c.find.new.found.items) (λ j. (sym base_x j, sym plan_x j)) sc in
    let st = scan_stays (plan_of v) (plan_of x) scanned.rest in
    let held : rule.Held g.O.Object.Contents (on_words g.O.Object.machine) v.base inv.start inv.count (plan_of x).main (plan_of x).history = subst (λ (z : List ℕ × List Entry). rule.Held g.O.Object.Contents (on_words g.O.Object.machine) v.base inv.start inv.count z.0 z.1) (λ j. (sym st.main j, sym st.history j)) inv.held in
    let within = g.met.O.Object.contents_within v.base.order (plan_of x).main _ _ held in
    let place_is : c.load_main-place.result ≡ inv.count + length (plan_of x).history = c.load_main-place.ensures.word ∙ (ap (λ (z : Plan). slice_index z.main 2) (sym plan_x) ∙ within.1) in
    let below : c.load_main-place.result < LAST_COUNT = omega (arith, place_is, within.2, c.if-place-eq-LAST_COUNT.false) in
    ready_to_publish g.O.Object.Contents (on_words g.O.Object.machine) g.D.Device.shown c.self.inside.twin v c.load_main-place.new.seat c.self.inside.log c.args.shared.now.layout.callers c.fault_count-before.result c.load_main-place.result c.find.new.found.items
    inv base_x callers scanned c.self.invariant.1.clear c.fault_count-before.ensures place_is below

pub invariant_of-self-then-place-eq-LAST_COUNT : goal.invariant_of-self-then-place-eq-LAST_COUNT
invariant_of-self-then-place-eq-LAST_COUNT g c = let v : View = c.self.inside.seat.token.me.0 in let w : View = c.find.new.seat.token.me.0 in let inv = c.self.invariant.0 in let sc = c.find.ensures.scanned in
    let x : View = c.load_main-place.new.seat.token.me.0 in let q : Plan = plan_of x in let plan_x : q ≡ plan_of w = ap plan_of c.load_main-place.ensures.still.2 in
    let base_x : x.base ≡ v.base = ap (λ (z : View). z.base) c.load_main-place.ensures.still.2 ∙ ap (λ (z : View). z.base) c.find.ensures.same.2 in
    let scan : but_requests q ≡ but_requests (beginning (plan_of v)) = ap but_requests plan_x ∙ sc.rest in
    let before : ℕ = c.fault_count-before.result in let items : List Posted = c.find.new.found.items in let some_found : 0 < length items = some_of (length items) c.if-is_empty.ensures in
    let found : 0 < length q.requests = omega (arith, some_found, ap length sc.items_are, length_map posted_of (plan_of w).requests, ap (λ (z : Plan). length z.requests) plan_x) in
    let op : g.O.Object.Contents x.base.order x.base.image inv.start inv.count = subst (λ (z : Base). g.O.Object.Contents z.order z.image inv.start inv.count) (sym base_x) inv.opening in
    let u : View = c.answer_all.new.seat.token.me.0 in let base_u : u.base ≡ v.base = ap (λ (z : View). z.base) c.answer_all.ensures.same.2 ∙ base_x in
    let held : rule.Held g.O.Object.Contents (on_words g.O.Object.machine) x.base inv.start inv.count q.main q.history = subst (λ (z : Base × List ℕ × List Entry). rule.Held g.O.Object.Contents (on_words g.O.Object.machine) z.0 inv.start inv.count z.1 z.2) (λ j. (sym base_x j, sym (ap (λ (z : Plan). z.main) scan) j, sym (ap (λ (z : Plan). z.history) scan) j)) inv.held in
    let word : slice_index q.main 2 ≡ inv.count + length q.history = (g.met.O.Object.contents_within x.base.order q.main _ _ held).1 in
    let full : inv.count + length q.history ≡ LAST_COUNT = omega (arith, word, ap (λ (z : Plan). slice_index z.main 2) plan_x, c.load_main-place.ensures.word, c.if-place-eq-LAST_COUNT.true) in
    let first = at_some items 0 some_found in
    let at : get_elem? c.as_slice-answers.result.now 0 ≡ some (refused (2 ^ 62) first.0) = ap (λ (l : List CallAnswer). get_elem? l 0) (c.as_slice-answers.ensures.value ∙ (c.refuse.ensures ∙ ap (map (refused (2 ^ 62))) c.as_slice.ensures.value)) ∙ at_map (refused (2 ^ 62)) items 0 first.0 first.1 in
    let made = made_by g.O.Object.Contents (on_words g.O.Object.machine) x.base q (plan_of u) before before c.as_slice-answers.result.now fate.Published (refused (2 ^ 62) first.0) at refl (ap (λ (z : Plan). z.mine) scan) c.answer_all.ensures.recorded in
    let batched = made.2 inv.start inv.count op in
    let none : made.1 ≡ [] = batched.1 ∙ full_batch (on_words g.O.Object.machine) x.base.order (after (on_words g.O.Object.machine) x.base.order inv.start inv.count q.history) made.0 (map found_of q.requests) (batched.0 ∙ full) in
    (core_spent g.O.Object.Contents (on_words g.O.Object.machine) g.D.Device.shown c.self.inside.twin v u q before made.0 made.1 inv base_u scan made.3 none found c.answer_all.ensures.answered (omega (arith, c.fault_count-before.ensures)), ready_by (g.O.Object.STORES * g.O.Object.WEIGHT) v.base u.base c.self.inside.log c.self.inside.log c.self.invariant.1 base_u c.self.invariant.1.clear refl)

passed_spent : (g : Over) (c : goal.After-of-then-place-eq-LAST_COUNT g) → Told g c.args.self.now (plan_of c.answer_all.new.seat.token.me.0) c.args.shared.now.layout.callers c.self.inside.twin.device c.of-then-place-eq-LAST_COUNT.result
passed_spent g c = let v : View = c.self.inside.seat.token.me.0 in let w : View = c.find.new.seat.token.me.0 in let inv = c.self.invariant.0 in let sc = c.find.ensures.scanned in
    let x : View = c.load_main-place.new.seat.token.me.0 in let q : Plan = plan_of x in let plan_x : q ≡ plan_of w = ap plan_of c.load_main-place.ensures.still.2 in
    let base_x : x.base ≡ v.base = ap (λ (z : View). z.base) c.load_main-place.ensures.still.2 ∙ ap (λ (z : View). z.base) c.find.ensures.same.2 in
    let scan : but_requests q ≡ but_requests (beginning (plan_of v)) = ap but_requests plan_x ∙ sc.rest in
    let before : ℕ = c.fault_count-before.result in let items : List Posted = c.find.new.found.items in let some_found : 0 < length items = some_of (length items) c.if-is_empty.ensures in
    let found : 0 < length q.requests = omega (arith, some_found, ap length sc.items_are, length_map posted_of (plan_of w).requests, ap (λ (z : Plan). length z.requests) plan_x) in
    let op : g.O.Object.Contents x.base.order x.base.image inv.start inv.count = subst (λ (z : Base). g.O.Object.Contents z.order z.image inv.start inv.count) (sym base_x) inv.opening in
    let u : View = c.answer_all.new.seat.token.me.0 in let base_u : u.base ≡ v.base = ap (λ (z : View). z.base) c.answer_all.ensures.same.2 ∙ base_x in
    let held : rule.Held g.O.Object.Contents (on_words g.O.Object.machine) x.base inv.start inv.count q.main q.history = subst (λ (z : Base × List ℕ × List Entry). rule.Held g.O.Object.Contents (on_words g.O.Object.machine) z.0 inv.start inv.count z.1 z.2) (λ j. (sym base_x j, sym (ap (λ (z : Plan). z.main) scan) j, sym (ap (λ (z : Plan). z.history) scan) j)) inv.held in
    let word : slice_index q.main 2 ≡ inv.count + length q.history = (g.met.O.Object.contents_within x.base.order q.main _ _ held).1 in
    let full : inv.count + length q.history ≡ LAST_COUNT = omega (arith, word, ap (λ (z : Plan). slice_index z.main 2) plan_x, c.load_main-place.ensures.word, c.if-place-eq-LAST_COUNT.true) in
    let first = at_some items 0 some_found in
    let at : get_elem? c.as_slice-answers.result.now 0 ≡ some (refused (2 ^ 62) first.0) = ap (λ (l : List CallAnswer). get_elem? l 0) (c.as_slice-answers.ensures.value ∙ (c.refuse.ensures ∙ ap (map (refused (2 ^ 62))) c.as_slice.ensures.value)) ∙ at_map (refused (2 ^ 62)) items 0 first.0 first.1 in
    let made = made_by g.O.Object.Contents (on_words g.O.Object.machine) x.base q (plan_of u) before before c.as_slice-answers.result.now fate.Published (refused (2 ^ 62) first.0) at refl (ap (λ (z : Plan). z.mine) scan) c.answer_all.ensures.recorded in
    let batched = made.2 inv.start inv.count op in
    let none : made.1 ≡ [] = batched.1 ∙ full_batch (on_words g.O.Object.machine) x.base.order (after (on_words g.O.Object.machine) x.base.order inv.start inv.count q.history) made.0 (map found_of q.requests) (batched.0 ∙ full) in
    let scanned : IsScan (IsCall (on_words g.O.Object.machine) x.base) (plan_of v) q c.args.shared.now.layout.callers items = subst (λ (r : Base × Plan). IsScan (IsCall (on_words g.O.Object.machine) r.0) (plan_of v) r.1 c.args.shared.now.layout.callers items) (λ j. (sym base_x j, sym plan_x j)) sc in
    let many : ℕ = c.len-many.result in let many_is : many ≡ length items = omega (arith, c.len-many.ensures.value) in
    let whole = pass_refused g.O.Object.Contents (on_words g.O.Object.machine) x.base (plan_of v) q (plan_of u) c.args.shared.now.layout.callers before before made.0 many items made.1 outcome.Published scanned made.2 made.3 none some_found many_is c.answer_all.ensures.answered (λ (e : outcome.Published ≡ outcome.Nothing). cc) c.answer_all.ensures.calls in
    let a = c.self.inside.twin.device in
    rw c.of-then-place-eq-LAST_COUNT.ensures.is (subst (λ (r : Base × Locked g.row.D.Denot × ℕ × ℕ). (z : IsPass g.O.Object.Contents (on_words g.O.Object.machine) r.0 (plan_of r.1.view) (plan_of u) c.args.shared.now.layout.callers r.2 r.3 (record { found = many; done = 0; outcome = outcome.Published }))
    × (IsTrue g.D.Device.shown.tells_images → (s : g.O.Object.State) (n : ℕ) → g.O.Object.Contents r.0.order r.0.image s n → Runs g.D.Device.shown (Becomes (PassMakes g.O.Object.Contents (on_words g.O.Object.machine) r.0 s n fate.Published (plan_of r.1.view).history z.more)) r.1.twin.device a))
    (λ j. ((base_x ∙ ap (λ r. r.view.base) c.self.view_is) j, c.self.view_is j, (c.fault_count-before.ensures ∙ ap (λ r. g.D.Device.shown.faults r.twin.device) c.self.view_is) j, c.fault_count-before.ensures j))
    (whole.0, λ told s n op'. becomes_none g.D.Device.shown (PassMakes g.O.Object.Contents (on_words g.O.Object.machine) x.base s n fate.Published (plan_of v).history whole.0.more) a))

pub returns-then-place-eq-LAST_COUNT-clause-passed : goal.returns-then-place-eq-LAST_COUNT-clause-passed
returns-then-place-eq-LAST_COUNT-clause-passed g c = let t = passed_spent g c in record {
  is = t.0;
  since = t.1;
  now = λ told s n op i left. let v : View = c.self.inside.seat.token.me.0 in let x : View = c.load_main-place.new.seat.token.me.0 in let u : View = c.answer_all.new.seat.token.me.0 in let t = c.self.inside.twin in
      let base_x : x.base ≡ v.base = ap (λ (z : View). z.base) c.load_main-place.ensures.still.2 ∙ ap (λ (z : View). z.base) c.find.ensures.same.2 in
      let same : u.base ≡ c.args.self.now.view.base = ap (λ (z : View). z.base) c.answer_all.ensures.same.2 ∙ (base_x ∙ ap (λ r. r.view.base) c.self.view_is) in
      subst (λ (r : Base). ImageAt g.O.Object.Contents (on_words g.O.Object.machine) r s n t.phase (plan_of u) i) same
      (now_of g.O.Object.Contents (on_words g.O.Object.machine) g.D.Device.shown t u s n (λ s₁ s₂ j k. g.met.O.Object.one_contents u.base.order u.base.image s₁ s₂ j k) (invariant_of-self-then-place-eq-LAST_COUNT g c).0 told (subst (λ (r : Base). g.O.Object.Contents r.order r.image s n) (sym same) op) i left);
}

pub invariant_of-self-then-ne : goal.invariant_of-self-then-ne
invariant_of-self-then-ne g c = let v : View = c.self.inside.seat.token.me.0 in let w : View = c.find.new.seat.token.me.0 in let inv = c.self.invariant.0 in let sc = c.find.ensures.scanned in
    let x : View = c.load_main-place.new.seat.token.me.0 in let q : Plan = plan_of x in let plan_x : q ≡ plan_of w = ap plan_of c.load_main-place.ensures.still.2 in
    let base_x : x.base ≡ v.base = ap (λ (z : View). z.base) c.load_main-place.ensures.still.2 ∙ ap (λ (z : View). z.base) c.find.ensures.same.2 in
    let scan : but_requests q ≡ but_requests (beginning (plan_of v)) = ap but_requests plan_x ∙ sc.rest in
    let before : ℕ = c.fault_count-before.result in let items : List Posted = c.find.new.found.items in let some_found : 0 < length items = some_of (length items) c.if-is_empty.ensures in
    let found : 0 < length q.requests = omega (arith, some_found, ap length sc.items_are, length_map posted_of (plan_of w).requests, ap (λ (z : Plan). length z.requests) plan_x) in
    let op : g.O.Object.Contents x.base.order x.base.image inv.start inv.count = subst (λ (z : Base). g.O.Object.Contents z.order z.image inv.start inv.count) (sym base_x) inv.opening in
    let y : View = c.publish-outcome.new.seat.token.me.0 in let o = c.publish-outcome.result in let t = c.publish-outcome.new.twin in
    let not_published : o ≢ outcome.Published = unpublished g c in let not_nothing = c.publish-outcome.ensures.some in let stays : plan_of y ≡ q = (c.publish-outcome.ensures.unpublished not_published).stays in
    let base_y : y.base ≡ x.base = ap (λ (z : View). z.base) c.publish-outcome.ensures.same.2 in
    let u : View = c.answer_all-then-ne.new.seat.token.me.0 in let base_u : u.base ≡ v.base = ap (λ (z : View). z.base) c.answer_all-then-ne.ensures.same.2 ∙ (base_y ∙ base_x) in
    let now : ℕ = c.fault_count-now.result in let given : List CallAnswer = c.as_slice-then-ne.result.now in
    let found_y : 0 < length (plan_of y).requests = omega (arith, found, ap (λ (z : Plan). length z.requests) stays) in
    let first = first_left g.O.Object.Contents (on_words g.O.Object.machine) x.base (fate_of o) before (g.D.Device.shown.faults t.device) (plan_of y) c.publish-outcome.new.answers.items c.publish-outcome.ensures.left found_y in
    let at : get_elem? given 0 ≡ some first.0 = ap (λ (l : List CallAnswer). get_elem? l 0) c.as_slice-then-ne.ensures.value ∙ first.1 in
    let recorded : IsRecordedBy g.O.Object.Contents (on_words g.O.Object.machine) x.base q (plan_of u) before now given = subst (λ (z : Base × Plan). IsRecordedBy g.O.Object.Contents (on_words g.O.Object.machine) z.0 z.1 (plan_of u) before now given) (λ j. (base_y j, stays j)) c.answer_all-then-ne.ensures.recorded in
    let made = made_by g.O.Object.Contents (on_words g.O.Object.machine) x.base q (plan_of u) before now given (fate_of o) first.0 at first.2 (ap (λ (z : Plan). z.mine) scan) recorded in
    let since : IsTrue g.D.Device.shown.tells_images → (s : g.O.Object.State) (n : ℕ) → g.O.Object.Contents x.base.order x.base.image s n → Runs g.D.Device.shown (Becomes (PassMakes g.O.Object.Contents (on_words g.O.Object.machine) x.base s n (fate_of o) q.history (batch_found g.O.Object.Contents (on_words g.O.Object.machine) x.base s n q))) c.self.inside.twin.device t.device = λ told s n o'. c.publish-outcome.ensures.stops.since told s n o' in
    let last : now ≤ g.D.Device.shown.faults t.device = omega (arith, c.fault_count-now.ensures) in (
      core_refused g.O.Object.Contents (on_words g.O.Object.machine) g.D.Device.shown c.self.inside.twin t v u x.base q o before now made.0 made.1 inv base_x base_u not_published not_nothing scan made.3 found c.answer_all-then-ne.ensures.answered
          c.publish-outcome.ensures.order (c.publish-outcome.ensures.unpublished not_published).committed_is c.publish-outcome.ensures.stops.images (λ e. (c.publish-outcome.ensures.failed e).phase) (λ e. (c.publish-outcome.ensures.doubt e).phase) (failing_refused g.D.Device.shown t.device o not_published not_nothing (λ e. (c.publish-outcome.ensures.failed e).cause.last) (λ e. (c.publish-outcome.ensures.doubt e).cause.failed.last))
          (λ told. since told inv.start inv.count op) (λ told is i left. c.publish-outcome.ensures.stops.doubted told is inv.start inv.count op i left) last,
      ready_by (g.O.Object.STORES * g.O.Object.WEIGHT) v.base u.base c.self.inside.log c.publish-outcome.new.log c.self.invariant.1 base_u (c.publish-outcome.ensures.unpublished not_published).cleared c.publish-outcome.ensures.room,
    )

passed_ne : (g : Over) (c : goal.After-of-then-ne g) → Told g c.args.self.now (plan_of c.answer_all-then-ne.new.seat.token.me.0) c.args.shared.now.layout.callers c.publish-outcome.new.twin.device c.of-then-ne.result
passed_ne g c = let v : View = c.self.inside.seat.token.me.0 in let w : View = c.find.new.seat.token.me.0 in let inv = c.self.invariant.0 in let sc = c.find.ensures.scanned in
    let x : View = c.load_main-place.new.seat.token.me.0 in let q : Plan = plan_of x in let plan_x : q ≡ plan_of w = ap plan_of c.load_main-place.ensures.still.2 in
    let base_x : x.base ≡ v.base = ap (λ (z : View). z.base) c.load_main-place.ensures.still.2 ∙ ap (λ (z : View). z.base) c.find.ensures.same.2 in
    let scan : but_requests q ≡ but_requests (beginning (plan_of v)) = ap but_requests plan_x ∙ sc.rest in
    let before : ℕ = c.fault_count-before.result in let items : List Posted = c.find.new.found.items in let some_found : 0 < length items = some_of (length items) c.if-is_empty.ensures in
    let found : 0 < length q.requests = omega (arith, some_found, ap length sc.items_are, length_map posted_of (plan_of w).requests, ap (λ (z : Plan). length z.requests) plan_x) in
    let op : g.O.Object.Contents x.base.order x.base.image inv.start inv.count = subst (λ (z : Base). g.O.Object.Contents z.order z.image inv.start inv.count) (sym base_x) inv.opening in
    let y : View = c.publish-outcome.new.seat.token.me.0 in let o = c.publish-outcome.result in let t = c.publish-outcome.new.twin in
    let not_published : o ≢ outcome.Published = unpublished g c in let not_nothing = c.publish-outcome.ensures.some in let stays : plan_of y ≡ q = (c.publish-outcome.ensures.unpublished not_published).stays in
    let base_y : y.base ≡ x.base = ap (λ (z : View). z.base) c.publish-outcome.ensures.same.2 in
    let u : View = c.answer_all-then-ne.new.seat.token.me.0 in let base_u : u.base ≡ v.base = ap (λ (z : View). z.base) c.answer_all-then-ne.ensures.same.2 ∙ (base_y ∙ base_x) in
    let now : ℕ = c.fault_count-now.result in let given : List CallAnswer = c.as_slice-then-ne.result.now in
    let found_y : 0 < length (plan_of y).requests = omega (arith, found, ap (λ (z : Plan). length z.requests) stays) in
    let first = first_left g.O.Object.Contents (on_words g.O.Object.machine) x.base (fate_of o) before (g.D.Device.shown.faults t.device) (plan_of y) c.publish-outcome.new.answers.items c.publish-outcome.ensures.left found_y in
    let at : get_elem? given 0 ≡ some first.0 = ap (λ (l : List CallAnswer). get_elem? l 0) c.as_slice-then-ne.ensures.value ∙ first.1 in
    let recorded : IsRecordedBy g.O.Object.Contents (on_words g.O.Object.machine) x.base q (plan_of u) before now given = subst (λ (z : Base × Plan). IsRecordedBy g.O.Object.Contents (on_words g.O.Object.machine) z.0 z.1 (plan_of u) before now given) (λ j. (base_y j, stays j)) c.answer_all-then-ne.ensures.recorded in
    let made = made_by g.O.Object.Contents (on_words g.O.Object.machine) x.base q (plan_of u) before now given (fate_of o) first.0 at first.2 (ap (λ (z : Plan). z.mine) scan) recorded in
    let since : IsTrue g.D.Device.shown.tells_images → (s : g.O.Object.State) (n : ℕ) → g.O.Object.Contents x.base.order x.base.image s n → Runs g.D.Device.shown (Becomes (PassMakes g.O.Object.Contents (on_words g.O.Object.machine) x.base s n (fate_of o) q.history (batch_found g.O.Object.Contents (on_words g.O.Object.machine) x.base s n q))) c.self.inside.twin.device t.device = λ told s n o'. c.publish-outcome.ensures.stops.since told s n o' in
    let scanned : IsScan (IsCall (on_words g.O.Object.machine) x.base) (plan_of v) q c.args.shared.now.layout.callers items = subst (λ (r : Base × Plan). IsScan (IsCall (on_words g.O.Object.machine) r.0) (plan_of v) r.1 c.args.shared.now.layout.callers items) (λ j. (sym base_x j, sym plan_x j)) sc in
    let many : ℕ = c.len-many.result in let many_is : many ≡ length items = omega (arith, c.len-many.ensures.value) in
    let whole = passed_refused g.O.Object.Contents (on_words g.O.Object.machine) g.D.Device.shown c.self.inside.twin.device t.device x.base (plan_of v) q (plan_of u) c.args.shared.now.layout.callers before now made.0 many items made.1 o scanned made.2 made.3 (none_refused g.O.Object.Contents (on_words g.O.Object.machine) o made.1 not_published not_nothing) some_found many_is c.answer_all-then-ne.ensures.answered not_nothing (subst (λ (z : Plan). SameCalls z (plan_of u)) stays c.answer_all-then-ne.ensures.calls) since in
    rw c.of-then-ne.ensures.is (subst (λ (r : Base × Locked g.row.D.Denot × ℕ × ℕ). (z : IsPass g.O.Object.Contents (on_words g.O.Object.machine) r.0 (plan_of r.1.view) (plan_of u) c.args.shared.now.layout.callers r.2 r.3 (record { found = many; done = 0; outcome = o }))
    × (IsTrue g.D.Device.shown.tells_images → (s : g.O.Object.State) (n : ℕ) → g.O.Object.Contents r.0.order r.0.image s n → Runs g.D.Device.shown (Becomes (PassMakes g.O.Object.Contents (on_words g.O.Object.machine) r.0 s n (fate_of o) (plan_of r.1.view).history z.more)) r.1.twin.device t.device))
    (λ j. ((base_x ∙ ap (λ r. r.view.base) c.self.view_is) j, c.self.view_is j, (c.fault_count-before.ensures ∙ ap (λ r. g.D.Device.shown.faults r.twin.device) c.self.view_is) j, c.fault_count-now.ensures j)) whole)

pub returns-then-ne-clause-passed : goal.returns-then-ne-clause-passed
returns-then-ne-clause-passed g c = let t = passed_ne g c in record {
  is = t.0;
  since = t.1;
  now = λ told s n op i left. let v : View = c.self.inside.seat.token.me.0 in let x : View = c.load_main-place.new.seat.token.me.0 in let u : View = c.answer_all-then-ne.new.seat.token.me.0 in let t = c.publish-outcome.new.twin in
      let base_x : x.base ≡ v.base = ap (λ (z : View). z.base) c.load_main-place.ensures.still.2 ∙ ap (λ (z : View). z.base) c.find.ensures.same.2 in
      let same : u.base ≡ c.args.self.now.view.base = ap (λ (z : View). z.base) c.answer_all-then-ne.ensures.same.2 ∙ (ap (λ (z : View). z.base) c.publish-outcome.ensures.same.2 ∙ (base_x ∙ ap (λ r. r.view.base) c.self.view_is)) in
      subst (λ (r : Base). ImageAt g.O.Object.Contents (on_words g.O.Object.machine) r s n t.phase (plan_of u) i) same
      (now_of g.O.Object.Contents (on_words g.O.Object.machine) g.D.Device.shown t u s n (λ s₁ s₂ j k. g.met.O.Object.one_contents u.base.order u.base.image s₁ s₂ j k) (invariant_of-self-then-ne g c).0 told (subst (λ (r : Base). g.O.Object.Contents r.order r.image s n) (sym same) op) i left);
}

pub overflow_sub-done : goal.overflow_sub-done
overflow_sub-done g c = let v : View = c.self.inside.seat.token.me.0 in let w : View = c.find.new.seat.token.me.0 in let inv = c.self.invariant.0 in let sc = c.find.ensures.scanned in
    let base : w.base ≡ v.base = ap (λ (z : View). z.base) c.find.ensures.same.2 in
    let x : View = c.load_main-place.new.seat.token.me.0 in let q : Plan = plan_of w in let st = scan_stays (plan_of v) q sc.rest in
    let plan_x : plan_of x ≡ q = ap plan_of c.load_main-place.ensures.still.2 in let base_x : x.base ≡ v.base = ap (λ (z : View). z.base) c.load_main-place.ensures.still.2 ∙ base in
    let y : View = c.publish-outcome.new.seat.token.me.0 in let is_pub : c.publish-outcome.result ≡ outcome.Published = loads_published g c in let pb = (c.publish-outcome.ensures.published is_pub).published in let ph = (c.publish-outcome.ensures.published is_pub).held in
    let held : rule.Held g.O.Object.Contents (on_words g.O.Object.machine) v.base inv.start inv.count q.main q.history = subst (λ (z : List ℕ × List Entry). rule.Held g.O.Object.Contents (on_words g.O.Object.machine) v.base inv.start inv.count z.0 z.1) (λ j. (sym st.main j, sym st.history j)) inv.held in
    let word : slice_index q.main 2 ≡ inv.count + length q.history = (g.met.O.Object.contents_within v.base.order q.main _ _ held).1 in
    let word₂ : slice_index (plan_of y).main 2 ≡ ph.1 + length (plan_of y).history = (g.met.O.Object.contents_within x.base.order (plan_of y).main _ _ ph.3).1 in
    let same = g.met.O.Object.one_contents x.base.order x.base.image ph.0 inv.start ph.1 inv.count ph.2 (subst (λ (z : Base). g.O.Object.Contents z.order z.image inv.start inv.count) (sym base_x) inv.opening) in let counts = same.1 in
    let history : length (plan_of y).history ≡ length (plan_of x).history + length pb.more = ap length pb.history ∙ length-append (plan_of x).history pb.more in let log_x : length (plan_of x).history ≡ length q.history = ap (λ (z : Plan). length z.history) plan_x in
    omega (arith, word, word₂, counts, history, log_x, c.load_main-place.ensures.word, c.load_main.ensures.word)

pub overflow_cast-done : goal.overflow_cast-done
overflow_cast-done g c = let v : View = c.self.inside.seat.token.me.0 in let w : View = c.find.new.seat.token.me.0 in let inv = c.self.invariant.0 in let sc = c.find.ensures.scanned in
    let base : w.base ≡ v.base = ap (λ (z : View). z.base) c.find.ensures.same.2 in
    let x : View = c.load_main-place.new.seat.token.me.0 in let q : Plan = plan_of w in let st = scan_stays (plan_of v) q sc.rest in
    let plan_x : plan_of x ≡ q = ap plan_of c.load_main-place.ensures.still.2 in let base_x : x.base ≡ v.base = ap (λ (z : View). z.base) c.load_main-place.ensures.still.2 ∙ base in
    let y : View = c.publish-outcome.new.seat.token.me.0 in let is_pub : c.publish-outcome.result ≡ outcome.Published = loads_published g c in let pb = (c.publish-outcome.ensures.published is_pub).published in let ph = (c.publish-outcome.ensures.published is_pub).held in
    let held : rule.Held g.O.Object.Contents (on_words g.O.Object.machine) v.base inv.start inv.count q.main q.history = subst (λ (z : List ℕ × List Entry). rule.Held g.O.Object.Contents (on_words g.O.Object.machine) v.base inv.start inv.count z.0 z.1) (λ j. (sym st.main j, sym st.history j)) inv.held in
    let word : slice_index q.main 2 ≡ inv.count + length q.history = (g.met.O.Object.contents_within v.base.order q.main _ _ held).1 in
    let word₂ : slice_index (plan_of y).main 2 ≡ ph.1 + length (plan_of y).history = (g.met.O.Object.contents_within x.base.order (plan_of y).main _ _ ph.3).1 in
    let same = g.met.O.Object.one_contents x.base.order x.base.image ph.0 inv.start ph.1 inv.count ph.2 (subst (λ (z : Base). g.O.Object.Contents z.order z.image inv.start inv.count) (sym base_x) inv.opening) in let counts = same.1 in
    let history : length (plan_of y).history ≡ length (plan_of x).history + length pb.more = ap length pb.history ∙ length-append (plan_of x).history pb.more in let log_x : length (plan_of x).history ≡ length q.history = ap (λ (z : Plan). length z.history) plan_x in
    let b = pb.batch ph.0 ph.1 ph.2 in let short = batch_short (on_words g.O.Object.machine) x.base.order (after (on_words g.O.Object.machine) x.base.order ph.0 ph.1 (plan_of x).history) pb.front (map found_of (plan_of x).requests) in
    let more : length pb.more ≤ length (plan_of x).requests = omega (arith, ap length b.1, short, length_map found_of (plan_of x).requests) in
    let few : length (plan_of x).requests ≤ 16 = omega (arith, ap (λ (z : Plan). length z.requests) plan_x, ap length sc.items_are, length_map posted_of q.requests, c.as_slice-2.ensures.fits, ap length c.as_slice-2.ensures.value) in
    let small : c.load_main.result - c.load_main-place.result < 2 ^ 32 = omega (arith, word, word₂, counts, history, log_x, more, few, c.load_main-place.ensures.word, c.load_main.ensures.word) in
    search (rules, small)

pub answer_all-requires-2-clause-left : goal.answer_all-requires-2-clause-left
answer_all-requires-2-clause-left g c = let v : View = c.self.inside.seat.token.me.0 in let w : View = c.find.new.seat.token.me.0 in let inv = c.self.invariant.0 in let sc = c.find.ensures.scanned in
    let base : w.base ≡ v.base = ap (λ (z : View). z.base) c.find.ensures.same.2 in
    let x : View = c.load_main-place.new.seat.token.me.0 in let q : Plan = plan_of w in let st = scan_stays (plan_of v) q sc.rest in
    let plan_x : plan_of x ≡ q = ap plan_of c.load_main-place.ensures.still.2 in let base_x : x.base ≡ v.base = ap (λ (z : View). z.base) c.load_main-place.ensures.still.2 ∙ base in
    let y : View = c.publish-outcome.new.seat.token.me.0 in let is_pub : c.publish-outcome.result ≡ outcome.Published = search rules in let pb = (c.publish-outcome.ensures.published is_pub).published in let ph = (c.publish-outcome.ensures.published is_pub).held in
    let lm : View = c.load_main.new.seat.token.me.0 in let plan_lm : plan_of lm ≡ plan_of y = ap plan_of c.load_main.ensures.still.2 in
    let base_lm : lm.base ≡ x.base = ap (λ (r : View). r.base) c.load_main.ensures.still.2 ∙ ap (λ (r : View). r.base) c.publish-outcome.ensures.same.2 in (
      fate_of c.publish-outcome.result,
      subst (λ (r : Base × Plan × ℕ × List CallAnswer). HasGiven g.O.Object.Contents (on_words g.O.Object.machine) r.0 (fate_of c.publish-outcome.result) c.fault_count-before.result r.2 r.1 0 r.3)
          (λ j. (sym base_lm j, sym plan_lm j, sym c.fault_count-now.ensures j, sym c.as_slice-5.ensures.value j)) c.publish-outcome.ensures.left,
    )

pub settle-requires-clause-main : goal.settle-requires-clause-main
settle-requires-clause-main g c told = (c.publish-outcome.ensures.published (settles_published g c)).main told ∙ sym (ap (λ (r : Plan). r.main) (settles_given g c).1)

pub settle-requires-clause-back : goal.settle-requires-clause-back
settle-requires-clause-back g c told = (c.publish-outcome.ensures.published (settles_published g c)).back told ∙ sym (ap (λ (r : Plan). r.back) (settles_given g c).1)

pub settle-requires-clause-logged : goal.settle-requires-clause-logged
settle-requires-clause-logged g c = let given = (settles_given g c).1 in
    subst (λ (r : List ℕ × List ℕ). IsLogOf r.0 r.1 c.publish-outcome.new.log) (λ j. (sym (ap (λ (r : Plan). r.back) given) j, sym (ap (λ (r : Plan). r.main) given) j)) (c.publish-outcome.ensures.published (settles_published g c)).logged

pub settle-requires-clause-raises : goal.settle-requires-clause-raises
settle-requires-clause-raises g c = let x : Plan = plan_of c.load_main-place.new.seat.token.me.0 in let pb = (c.publish-outcome.ensures.published (settles_published g c)).published in
    let after : ℕ = g.D.Device.shown.faults c.publish-outcome.new.twin.device in let founds = map found_of x.requests in
    subst (λ (r : List PassRecord). MayRaise c.fault_count-before.result after r) (sym (ap (λ (r : Plan). r.mine) (settles_given g c).1 ∙ pb.mine))
    (may_raise founds (record { found = founds; fate = fate.Published; faults_before = c.fault_count-before.result; faults_after = after; len = length x.history + length pb.more; committed = pb.moment }))

pub settle-requires-clause-held : goal.settle-requires-clause-held
settle-requires-clause-held g c = let ph = (c.publish-outcome.ensures.published (settles_published g c)).held in let given = (settles_given g c).1 in
    let x : View = c.load_main-place.new.seat.token.me.0 in let u : View = c.answer_all-2.new.seat.token.me.0 in
    let base_u : u.base ≡ x.base = ap (λ (r : View). r.base) c.answer_all-2.ensures.same.2 ∙ (ap (λ (r : View). r.base) c.load_main.ensures.still.2 ∙ ap (λ (r : View). r.base) c.publish-outcome.ensures.same.2) in (
      ph.0,
      ph.1,
      subst (λ (r : Base). g.O.Object.Contents r.order r.image ph.0 ph.1) (sym base_u) ph.2,
      subst (λ (r : Base × List ℕ × List Entry). rule.Held g.O.Object.Contents (on_words g.O.Object.machine) r.0 ph.0 ph.1 r.1 r.2) (λ j. (sym base_u j, sym (ap (λ (r : Plan). r.main) given) j, sym (ap (λ (r : Plan). r.history) given) j)) ph.3,
    )

pub invariant_of-self-2 : goal.invariant_of-self-2
invariant_of-self-2 g c = let v : View = c.self.inside.seat.token.me.0 in let w : View = c.find.new.seat.token.me.0 in let inv = c.self.invariant.0 in let sc = c.find.ensures.scanned in
    let base : w.base ≡ v.base = ap (λ (z : View). z.base) c.find.ensures.same.2 in
    let x : View = c.load_main-place.new.seat.token.me.0 in let q : Plan = plan_of w in let st = scan_stays (plan_of v) q sc.rest in
    let plan_x : plan_of x ≡ q = ap plan_of c.load_main-place.ensures.still.2 in let base_x : x.base ≡ v.base = ap (λ (z : View). z.base) c.load_main-place.ensures.still.2 ∙ base in
    let y : View = c.publish-outcome.new.seat.token.me.0 in let is_pub : c.publish-outcome.result ≡ outcome.Published = is_published g c in let pb = (c.publish-outcome.ensures.published is_pub).published in let ph = (c.publish-outcome.ensures.published is_pub).held in
    let lm : View = c.load_main.new.seat.token.me.0 in let plan_lm : plan_of lm ≡ plan_of y = ap plan_of c.load_main.ensures.still.2 in
    let base_lm : lm.base ≡ x.base = ap (λ (r : View). r.base) c.load_main.ensures.still.2 ∙ ap (λ (r : View). r.base) c.publish-outcome.ensures.same.2 in
    let both = is_given g c in let made : is_made (plan_of y).mine ≡ true = both.0 in
    let u : View = c.answer_all-2.new.seat.token.me.0 in let base_u : u.base ≡ x.base = ap (λ (r : View). r.base) c.answer_all-2.ensures.same.2 ∙ base_lm in
    let given : but_requests (plan_of u) ≡ but_requests (plan_of y) = both.1 in
    let main : (plan_of u).main ≡ (plan_of y).main = ap (λ (r : Plan). r.main) given in let back : (plan_of u).back ≡ (plan_of y).back = ap (λ (r : Plan). r.back) given in let history : (plan_of u).history ≡ (plan_of y).history = ap (λ (r : Plan). r.history) given in
    let t = c.settle.new.twin in let end : ℕ = g.D.Device.shown.faults t.device in let z : View = c.settle.new.seat.token.me.0 in
    let settled : plan_of z ≡ rested end c.settle.ensures.rested.version c.settle.ensures.rested.clear (plan_of u) = ap plan_of c.settle.ensures.rested.writes.2 in let base_z : z.base ≡ x.base = ap (λ (r : View). r.base) c.settle.ensures.rested.writes.2 ∙ base_u in
    let kept : but_requests (plan_of z) ≡ but_requests (rested end c.settle.ensures.rested.version c.settle.ensures.rested.clear (plan_of y)) = ap but_requests settled ∙ ap (λ (r : Plan). but_requests (rested end c.settle.ensures.rested.version c.settle.ensures.rested.clear r)) given in
    let order : t.order ≡ z.base.order = c.settle.ensures.kept.order ∙ (c.publish-outcome.ensures.order ∙ (inv.order_is ∙ ap (λ (r : Base). r.order) (sym (base_z ∙ base_x)))) in
    let main_z : (plan_of z).main ≡ (plan_of y).main = ap (λ (r : Plan). r.main) kept in
    let held : rule.Held g.O.Object.Contents (on_words g.O.Object.machine) z.base ph.0 ph.1 (plan_of z).main (plan_of z).history = subst (λ (r : Base × List ℕ × List Entry). rule.Held g.O.Object.Contents (on_words g.O.Object.machine) r.0 ph.0 ph.1 r.1 r.2) (λ j. (sym base_z j, sym main_z j, sym (ap (λ (r : Plan). r.history) kept) j)) ph.3 in
    let committed_is : IsTrue g.D.Device.shown.tells_images → committed g.D.Device.shown t ≡ (plan_of z).main = λ told. c.settle.ensures.kept.committed_is told ∙ (main ∙ sym main_z) in
    let order_t : t.order ≡ c.self.inside.twin.order = c.settle.ensures.kept.order ∙ c.publish-outcome.ensures.order in
    let now : IsAtRest g.D.Device.shown g.O.Object.Contents (on_words g.O.Object.machine) t z = record {
      order_is = order;
      order_fits = subst IsOrder (sym order_t) inv.order_fits;
      side_is = ap (λ (r : Plan). r.side) kept;
      settled = c.settle.ensures.settled;
      same = main_z ∙ sym (ap (λ (r : Plan). r.back) kept);
      start = ph.0;
      count = ph.1;
      opening = subst (λ (r : Base). g.O.Object.Contents r.order r.image ph.0 ph.1) (sym base_z) ph.2;
      held = held;
      rests = ⊎_elim (λ e. inl e) (λ e. inr (inr (inr e))) c.settle.ensures.phase;
      committed_is = committed_is;
      images = λ told i left. let counts = after_region g.D.Device.shown t c.settle.ensures.phase (g.met.D.Device.reads_image t.device told) (c.settle.ensures.kept.images told) i left in
          inl (record { region = (plan_of z).main; current = subst (λ (r : ℕ × List ℕ). IsCurrentRegion r.0 i r.1) (λ j. (order j, committed_is told j)) counts; contents = held });
      failed = λ needs. ⊎_elim (λ e. absurd (clean_needs_none t.phase e needs)) (λ e. (c.settle.ensures.cause e).last) c.settle.ensures.phase;
      answered = subst (λ (r : Plan). Each (λ _ f. f.answered ≡ true) r.requests) (sym settled) c.answer_all-2.ensures.answered;
      counts = let e : faults_after z.base.faults (records_of (plan_of z)) ≡ end = ap (λ (r : Plan). faults_after z.base.faults (records_of r)) kept ∙ (ap (λ (l : List PassRecord). faults_after z.base.faults ((plan_of y).records ++ map (with_faults_after end) l)) pb.mine ∙ faults_rested end z.base.faults (plan_of y).records (map found_of (plan_of x).requests) _ (sym (ap is_made pb.mine) ∙ made)) in omega (arith, e);
    } in
    (now, ready_by (g.O.Object.STORES * g.O.Object.WEIGHT) v.base z.base c.self.inside.log c.settle.new.log c.self.invariant.1 (base_z ∙ base_x) c.settle.ensures.cleared (c.settle.ensures.room ∙ c.publish-outcome.ensures.room))

passed_all : (g : Over) (c : goal.After-of-2 g) → Told g c.args.self.now (plan_of c.settle.new.seat.token.me.0) c.args.shared.now.layout.callers c.settle.new.twin.device c.of-2.result
passed_all g c = let v : View = c.self.inside.seat.token.me.0 in let w : View = c.find.new.seat.token.me.0 in let inv = c.self.invariant.0 in let sc = c.find.ensures.scanned in
    let base : w.base ≡ v.base = ap (λ (z : View). z.base) c.find.ensures.same.2 in
    let x : View = c.load_main-place.new.seat.token.me.0 in let q : Plan = plan_of w in let st = scan_stays (plan_of v) q sc.rest in
    let plan_x : plan_of x ≡ q = ap plan_of c.load_main-place.ensures.still.2 in let base_x : x.base ≡ v.base = ap (λ (z : View). z.base) c.load_main-place.ensures.still.2 ∙ base in
    let y : View = c.publish-outcome.new.seat.token.me.0 in let is_pub : c.publish-outcome.result ≡ outcome.Published = is_published g c in let pb = (c.publish-outcome.ensures.published is_pub).published in let ph = (c.publish-outcome.ensures.published is_pub).held in
    let lm : View = c.load_main.new.seat.token.me.0 in let plan_lm : plan_of lm ≡ plan_of y = ap plan_of c.load_main.ensures.still.2 in
    let base_lm : lm.base ≡ x.base = ap (λ (r : View). r.base) c.load_main.ensures.still.2 ∙ ap (λ (r : View). r.base) c.publish-outcome.ensures.same.2 in
    let some_found : 0 < length c.find.new.found.items = some_of (length c.find.new.found.items) c.if-is_empty.ensures in
    let both = is_given g c in let made : is_made (plan_of y).mine ≡ true = both.0 in
    let u : View = c.answer_all-2.new.seat.token.me.0 in let base_u : u.base ≡ x.base = ap (λ (r : View). r.base) c.answer_all-2.ensures.same.2 ∙ base_lm in
    let given : but_requests (plan_of u) ≡ but_requests (plan_of y) = both.1 in
    let main : (plan_of u).main ≡ (plan_of y).main = ap (λ (r : Plan). r.main) given in let back : (plan_of u).back ≡ (plan_of y).back = ap (λ (r : Plan). r.back) given in let history : (plan_of u).history ≡ (plan_of y).history = ap (λ (r : Plan). r.history) given in
    let t = c.settle.new.twin in let end : ℕ = g.D.Device.shown.faults t.device in let z : View = c.settle.new.seat.token.me.0 in
    let settled : plan_of z ≡ rested end c.settle.ensures.rested.version c.settle.ensures.rested.clear (plan_of u) = ap plan_of c.settle.ensures.rested.writes.2 in let base_z : z.base ≡ x.base = ap (λ (r : View). r.base) c.settle.ensures.rested.writes.2 ∙ base_u in
    let kept : but_requests (plan_of z) ≡ but_requests (rested end c.settle.ensures.rested.version c.settle.ensures.rested.clear (plan_of y)) = ap but_requests settled ∙ ap (λ (r : Plan). but_requests (rested end c.settle.ensures.rested.version c.settle.ensures.rested.clear r)) given in
    let held₀ : rule.Held g.O.Object.Contents (on_words g.O.Object.machine) v.base inv.start inv.count q.main q.history = subst (λ (z : List ℕ × List Entry). rule.Held g.O.Object.Contents (on_words g.O.Object.machine) v.base inv.start inv.count z.0 z.1) (λ j. (sym st.main j, sym st.history j)) inv.held in
    let word : slice_index q.main 2 ≡ inv.count + length q.history = (g.met.O.Object.contents_within v.base.order q.main _ _ held₀).1 in
    let word₂ : slice_index (plan_of y).main 2 ≡ ph.1 + length (plan_of y).history = (g.met.O.Object.contents_within x.base.order (plan_of y).main _ _ ph.3).1 in
    let same = g.met.O.Object.one_contents x.base.order x.base.image ph.0 inv.start ph.1 inv.count ph.2 (subst (λ (z : Base). g.O.Object.Contents z.order z.image inv.start inv.count) (sym base_x) inv.opening) in let counts = same.1 in
    let log₂ : length (plan_of y).history ≡ length (plan_of x).history + length pb.more = ap length pb.history ∙ length-append (plan_of x).history pb.more in let log_x : length (plan_of x).history ≡ length q.history = ap (λ (z : Plan). length z.history) plan_x in
    let o = c.publish-outcome.result in let many : ℕ = c.len-many.result in let done : c.load_main.result - c.load_main-place.result ≡ length pb.more = omega (arith, word, word₂, counts, log₂, log_x, c.load_main-place.ensures.word, c.load_main.ensures.word) in
    let scan : IsScan (IsCall (on_words g.O.Object.machine) x.base) (plan_of v) (plan_of x) c.args.shared.now.layout.callers c.find.new.found.items = subst (λ (r : Base × Plan). IsScan (IsCall (on_words g.O.Object.machine) r.0) (plan_of v) r.1 c.args.shared.now.layout.callers c.find.new.found.items) (λ j. (sym base_x j, sym plan_x j)) sc in
    let many_is : many ≡ length c.find.new.found.items = omega (arith, c.len-many.ensures.value) in let diff : ℕ = c.load_main.result - c.load_main-place.result in
    let a = c.self.inside.twin.device in let d = c.settle.new.twin.device in
    let run : IsTrue g.D.Device.shown.tells_images → (s : g.O.Object.State) (n : ℕ) → g.O.Object.Contents x.base.order x.base.image s n → Runs g.D.Device.shown (Becomes (PassMakes g.O.Object.Contents (on_words g.O.Object.machine) x.base s n (fate_of o) (plan_of x).history (batch_found g.O.Object.Contents (on_words g.O.Object.machine) x.base s n (plan_of x)))) a d
    = λ told s n op. let bq : pb.more ≡ batch_found g.O.Object.Contents (on_words g.O.Object.machine) x.base s n (plan_of x) = (pb.batch s n op).1 ∙ ap (λ (k : ℕ). batch (on_words g.O.Object.machine) x.base.order (after (on_words g.O.Object.machine) x.base.order s n (plan_of x).history) k (map found_of (plan_of x).requests)) (pb.batch s n op).0 in
    let heldm : rule.Held g.O.Object.Contents (on_words g.O.Object.machine) x.base s n (plan_of u).main ((plan_of x).history ++ batch_found g.O.Object.Contents (on_words g.O.Object.machine) x.base s n (plan_of x)) = subst (λ (r : List ℕ × List Entry). rule.Held g.O.Object.Contents (on_words g.O.Object.machine) x.base s n r.0 r.1) (λ j. (sym main j, (pb.history ∙ ap (λ (l : List Entry). (plan_of x).history ++ l) bq) j))
    (same_held g.O.Object.Contents (on_words g.O.Object.machine) x.base s n ph.0 ph.1 (plan_of y).history (plan_of y).main (g.met.O.Object.one_contents x.base.order x.base.image s ph.0 n ph.1 op ph.2) ph.3) in
    list_settled g.O.Object.Contents (on_words g.O.Object.machine) x.base s n g.D.Device.shown (fate_of o) (plan_of x).history (batch_found g.O.Object.Contents (on_words g.O.Object.machine) x.base s n (plan_of x)) c.publish-outcome.new.twin.order (plan_of u).main a c.publish-outcome.new.twin.device d
    (c.publish-outcome.ensures.order ∙ (inv.order_is ∙ ap (λ (r : Base). r.order) (sym base_x))) (subst (λ w. MayPublish (fate_of w)) (sym is_pub) tt) heldm (c.publish-outcome.ensures.stops.since told s n op) (c.settle.ensures.since told) in
    let whole = passed_published g.O.Object.Contents (on_words g.O.Object.machine) g.D.Device.shown a d x.base (plan_of v) (plan_of x) (plan_of y) (plan_of u) (plan_of z) c.args.shared.now.layout.callers c.fault_count-before.result (g.D.Device.shown.faults c.publish-outcome.new.twin.device) end c.settle.ensures.rested.version c.settle.ensures.rested.clear many diff c.find.new.found.items o scan pb given settled some_found many_is done c.answer_all-2.ensures.answered is_pub c.publish-outcome.ensures.calls
    (subst (λ (r : Plan). SameCalls r (plan_of u)) plan_lm c.answer_all-2.ensures.calls) run in
    rw c.of-2.ensures.is (subst (λ (r : Base × Locked g.row.D.Denot × ℕ). (z' : IsPass g.O.Object.Contents (on_words g.O.Object.machine) r.0 (plan_of r.1.view) (plan_of z) c.args.shared.now.layout.callers r.2 end (record { found = many; done = diff; outcome = o }))
    × (IsTrue g.D.Device.shown.tells_images → (s : g.O.Object.State) (n : ℕ) → g.O.Object.Contents r.0.order r.0.image s n → Runs g.D.Device.shown (Becomes (PassMakes g.O.Object.Contents (on_words g.O.Object.machine) r.0 s n (fate_of o) (plan_of r.1.view).history z'.more)) r.1.twin.device d))
    (λ j. ((base_x ∙ ap (λ r. r.view.base) c.self.view_is) j, c.self.view_is j, (c.fault_count-before.ensures ∙ ap (λ r. g.D.Device.shown.faults r.twin.device) c.self.view_is) j)) whole)

pub returns-clause-passed : goal.returns-clause-passed
returns-clause-passed g c = let t = passed_all g c in record {
  is = t.0;
  since = t.1;
  now = λ told s n op i left. let v : View = c.self.inside.seat.token.me.0 in let w : View = c.find.new.seat.token.me.0 in let x : View = c.load_main-place.new.seat.token.me.0 in let z : View = c.settle.new.seat.token.me.0 in let t = c.settle.new.twin in
      let base_x : x.base ≡ v.base = ap (λ (z : View). z.base) c.load_main-place.ensures.still.2 ∙ ap (λ (z : View). z.base) c.find.ensures.same.2 in
      let base_z : z.base ≡ x.base = ap (λ (r : View). r.base) c.settle.ensures.rested.writes.2 ∙ (ap (λ (r : View). r.base) c.answer_all-2.ensures.same.2 ∙ (ap (λ (r : View). r.base) c.load_main.ensures.still.2 ∙ ap (λ (r : View). r.base) c.publish-outcome.ensures.same.2)) in
      let same : z.base ≡ c.args.self.now.view.base = base_z ∙ (base_x ∙ ap (λ r. r.view.base) c.self.view_is) in
      subst (λ (r : Base). ImageAt g.O.Object.Contents (on_words g.O.Object.machine) r s n t.phase (plan_of z) i) same
      (now_of g.O.Object.Contents (on_words g.O.Object.machine) g.D.Device.shown t z s n (λ s₁ s₂ j k. g.met.O.Object.one_contents z.base.order z.base.image s₁ s₂ j k) (invariant_of-self-2 g c).0 told (subst (λ (r : Base). g.O.Object.Contents r.order r.image s n) (sym same) op) i left);
}

-- the calls that the pass has found are those in the plan that it leaves
left_published : (g : Over) (c : goal.After-of-2 g) → weights_found (weight_on_words g.O.Object.machine) (plan_of c.load_main-place.new.seat.token.me.0) ≡ weights_found (weight_on_words g.O.Object.machine) (plan_of c.settle.new.seat.token.me.0)
left_published g c = let weight : List ℕ → ℕ = weight_on_words g.O.Object.machine in
    let x : Plan = plan_of c.load_main-place.new.seat.token.me.0 in let y : Plan = plan_of c.publish-outcome.new.seat.token.me.0 in let lm : Plan = plan_of c.load_main.new.seat.token.me.0 in let u : Plan = plan_of c.answer_all-2.new.seat.token.me.0 in
    sym (ap (λ (r : View). weights_found weight (plan_of r)) c.settle.ensures.rested.writes.2 ∙ (same_found weight lm u c.answer_all-2.ensures.calls ∙ (ap (λ (r : View). weights_found weight (plan_of r)) c.load_main.ensures.still.2 ∙ same_found weight x y c.publish-outcome.ensures.calls)))

pub returns-clause-most : goal.returns-clause-most
returns-clause-most g c =
    let shown = g.D.Device.shown in let a = c.self.inside.twin in let m = c.publish-outcome.new.twin.device in let d = c.settle.new.twin.device in
    let stores : ℕ = g.O.Object.STORES in let weight : List ℕ → ℕ = weight_on_words g.O.Object.machine in let words : ℕ = stores * weights_found weight (plan_of c.settle.new.seat.token.me.0) in
    let is_pub : c.publish-outcome.result ≡ outcome.Published = is_published g c in
    let held : held_count c.publish-outcome.new.log.ranges ≤ words = subst (λ (n : ℕ). held_count c.publish-outcome.new.log.ranges ≤ stores * n) (left_published g c) (c.publish-outcome.ensures.published is_pub).held_most in
    let first : SpendsAtMost shown (writes_before_commit a.phase a.order words + 1) (syncs_before_commit a.phase + 1) a.device m = subst (λ (n : ℕ). SpendsAtMost shown (writes_before_commit a.phase a.order (stores * n) + 1) (syncs_before_commit a.phase + 1) a.device m) (left_published g c) c.publish-outcome.ensures.most in
    subst (λ (r : Locked g.row.D.Denot). SpendsAtMost shown (batch_writes r.twin.phase r.twin.order words) (batch_syncs r.twin.phase) r.twin.device d) c.self.view_is
    (most_then shown (writes_before_commit a.phase a.order words + 1) (syncs_before_commit a.phase + 1) (held_count c.publish-outcome.new.log.ranges + 1) 1 (batch_writes a.phase a.order words) (batch_syncs a.phase) a.device m d
    first c.settle.ensures.most (omega (arith, held)) (omega arith))

left_refused : (g : Over) (c : goal.After-of-then-ne g) → weights_found (weight_on_words g.O.Object.machine) (plan_of c.load_main-place.new.seat.token.me.0) ≡ weights_found (weight_on_words g.O.Object.machine) (plan_of c.answer_all-then-ne.new.seat.token.me.0)
left_refused g c = let weight : List ℕ → ℕ = weight_on_words g.O.Object.machine in
    let x : Plan = plan_of c.load_main-place.new.seat.token.me.0 in let y : Plan = plan_of c.publish-outcome.new.seat.token.me.0 in let u : Plan = plan_of c.answer_all-then-ne.new.seat.token.me.0 in
    sym (same_found weight y u c.answer_all-then-ne.ensures.calls ∙ same_found weight x y c.publish-outcome.ensures.calls)

-- after a pass that published, the history has grown by what was published
grown : (g : Over) (c : goal.After-of-2 g) → weights_added (weight_on_words g.O.Object.machine) (plan_of c.load_main-place.new.seat.token.me.0).history (plan_of c.publish-outcome.new.seat.token.me.0).history
    ≡ weights_added (weight_on_words g.O.Object.machine) (plan_of c.args.self.now.view).history (plan_of c.settle.new.seat.token.me.0).history
grown g c = let v : View = c.self.inside.seat.token.me.0 in let w : View = c.find.new.seat.token.me.0 in let sc = c.find.ensures.scanned in
    let x : View = c.load_main-place.new.seat.token.me.0 in let plan_x : plan_of x ≡ plan_of w = ap plan_of c.load_main-place.ensures.still.2 in
    let y : View = c.publish-outcome.new.seat.token.me.0 in let is_pub : c.publish-outcome.result ≡ outcome.Published = is_published g c in let pb = (c.publish-outcome.ensures.published is_pub).published in
    let lm : View = c.load_main.new.seat.token.me.0 in let plan_lm : plan_of lm ≡ plan_of y = ap plan_of c.load_main.ensures.still.2 in
    let both = is_given g c in let made : is_made (plan_of y).mine ≡ true = both.0 in
    let u : View = c.answer_all-2.new.seat.token.me.0 in let given : but_requests (plan_of u) ≡ but_requests (plan_of y) = both.1 in
    let z : View = c.settle.new.seat.token.me.0 in let new : (plan_of z).history ≡ (plan_of y).history = ap (λ (r : View). (plan_of r).history) c.settle.ensures.rested.writes.2 ∙ ap (λ (r : Plan). r.history) given in
    let old : (plan_of x).history ≡ (plan_of c.args.self.now.view).history = ap (λ (r : Plan). r.history) plan_x ∙ (ap (λ (r : Plan). r.history) sc.rest ∙ ap (λ r. (plan_of r.view).history) c.self.view_is) in
    λ j. weights_added (weight_on_words g.O.Object.machine) (old j) (sym new j)

pub returns-clause-done : goal.returns-clause-done
returns-clause-done g c some_done = let v : View = c.self.inside.seat.token.me.0 in let w : View = c.find.new.seat.token.me.0 in let inv = c.self.invariant.0 in let sc = c.find.ensures.scanned in
    let base : w.base ≡ v.base = ap (λ (z : View). z.base) c.find.ensures.same.2 in
    let x : View = c.load_main-place.new.seat.token.me.0 in let q : Plan = plan_of w in let st = scan_stays (plan_of v) q sc.rest in
    let plan_x : plan_of x ≡ q = ap plan_of c.load_main-place.ensures.still.2 in let base_x : x.base ≡ v.base = ap (λ (z : View). z.base) c.load_main-place.ensures.still.2 ∙ base in
    let y : View = c.publish-outcome.new.seat.token.me.0 in let is_pub : c.publish-outcome.result ≡ outcome.Published = is_published g c in let pb = (c.publish-outcome.ensures.published is_pub).published in let ph = (c.publish-outcome.ensures.published is_pub).held in
    let lm : View = c.load_main.new.seat.token.me.0 in let plan_lm : plan_of lm ≡ plan_of y = ap plan_of c.load_main.ensures.still.2 in
    let base_lm : lm.base ≡ x.base = ap (λ (r : View). r.base) c.load_main.ensures.still.2 ∙ ap (λ (r : View). r.base) c.publish-outcome.ensures.same.2 in
    let both = is_given g c in let made : is_made (plan_of y).mine ≡ true = both.0 in
    let u : View = c.answer_all-2.new.seat.token.me.0 in let base_u : u.base ≡ x.base = ap (λ (r : View). r.base) c.answer_all-2.ensures.same.2 ∙ base_lm in
    let given : but_requests (plan_of u) ≡ but_requests (plan_of y) = both.1 in
    let main : (plan_of u).main ≡ (plan_of y).main = ap (λ (r : Plan). r.main) given in let history : (plan_of u).history ≡ (plan_of y).history = ap (λ (r : Plan). r.history) given in
    let end : ℕ = g.D.Device.shown.faults c.settle.new.twin.device in let z : View = c.settle.new.seat.token.me.0 in
    let settled : plan_of z ≡ rested end c.settle.ensures.rested.version c.settle.ensures.rested.clear (plan_of u) = ap plan_of c.settle.ensures.rested.writes.2 in let base_z : z.base ≡ x.base = ap (λ (r : View). r.base) c.settle.ensures.rested.writes.2 ∙ base_u in
    let kept : but_requests (plan_of z) ≡ but_requests (rested end c.settle.ensures.rested.version c.settle.ensures.rested.clear (plan_of y)) = ap but_requests settled ∙ ap (λ (r : Plan). but_requests (rested end c.settle.ensures.rested.version c.settle.ensures.rested.clear r)) given in
    let a = c.self.inside.twin.device in let m = c.publish-outcome.new.twin in let d = c.settle.new.twin.device in
    let old : (plan_of x).history ≡ (plan_of v).history = ap (λ (r : Plan). r.history) plan_x ∙ st.history in
    let new : (plan_of z).history ≡ (plan_of x).history ++ pb.more = ap (λ (r : Plan). r.history) kept ∙ pb.history in
    let order : m.order ≡ x.base.order = c.publish-outcome.ensures.order ∙ (inv.order_is ∙ ap (λ (r : Base). r.order) (sym base_x)) in record {
      mid = m.device;
      dated = λ rs r last. last_moment end (map found_of (plan_of x).requests) _ (plan_of y).records rs r (sym (ap is_made pb.mine) ∙ made) (sym (ap records_of kept ∙ ap (λ (l : List PassRecord). (plan_of y).records ++ map (with_faults_after end) l) pb.mine) ∙ last)
          ∙ (c.publish-outcome.ensures.published is_pub).dated;
      soon = subst (λ (r : Locked g.row.D.Denot). SpendsAtMost g.D.Device.shown (writes_before_commit r.twin.phase r.twin.order (region_len r.twin.order) + 1) (syncs_before_commit r.twin.phase + 1) r.twin.device m.device) c.self.view_is c.publish-outcome.ensures.whole;
      certain = λ told.
          subst (λ (r : Base × Locked g.row.D.Denot). (s : g.O.Object.State) (n : ℕ) → g.O.Object.Contents r.0.order r.0.image s n → IsCertainSince g.O.Object.Contents (on_words g.O.Object.machine) r.0 s n g.D.Device.shown (plan_of r.1.view).history (plan_of z).history r.1.twin.device m.device d)
          (λ j. ((base_x ∙ ap (λ r. r.view.base) c.self.view_is) j, c.self.view_is j))
          (λ s n op.
          let bq : pb.more ≡ batch_found g.O.Object.Contents (on_words g.O.Object.machine) x.base s n (plan_of x) = (pb.batch s n op).1 ∙ ap (λ (k : ℕ). batch (on_words g.O.Object.machine) x.base.order (after (on_words g.O.Object.machine) x.base.order s n (plan_of x).history) k (map found_of (plan_of x).requests)) (pb.batch s n op).0 in
          let heldm : rule.Held g.O.Object.Contents (on_words g.O.Object.machine) x.base s n (plan_of u).main ((plan_of x).history ++ pb.more) = subst (λ (r : List ℕ × List Entry). rule.Held g.O.Object.Contents (on_words g.O.Object.machine) x.base s n r.0 r.1) (λ j. (sym main j, pb.history j))
          (same_held g.O.Object.Contents (on_words g.O.Object.machine) x.base s n ph.0 ph.1 (plan_of y).history (plan_of y).main (g.met.O.Object.one_contents x.base.order x.base.image s ph.0 n ph.1 op ph.2) ph.3) in
          let counts : (i : List ℕ) → g.D.Device.shown.leaves m.device i → IsCurrentRegion m.order i (plan_of u).main = λ i left. subst (λ (r : List ℕ). IsCurrentRegion m.order i r) ((c.publish-outcome.ensures.published is_pub).main told ∙ sym main)
          (committed_region g.D.Device.shown m (c.publish-outcome.ensures.published is_pub).phase (g.met.D.Device.reads_image m.device told) (c.publish-outcome.ensures.stops.images told) i left) in
          subst (λ (r : List Entry × List Entry). IsCertainSince g.O.Object.Contents (on_words g.O.Object.machine) x.base s n g.D.Device.shown r.0 r.1 a m.device d) (λ j. (old j, sym new j))
          (list_certain g.O.Object.Contents (on_words g.O.Object.machine) x.base s n g.D.Device.shown (fate_of c.publish-outcome.result) (plan_of x).history pb.more m.order (plan_of u).main a m.device d order heldm
          (subst (λ (l : List Entry). Runs g.D.Device.shown (Becomes (PassMakes g.O.Object.Contents (on_words g.O.Object.machine) x.base s n (fate_of c.publish-outcome.result) (plan_of x).history l)) a m.device) (sym bq) (c.publish-outcome.ensures.stops.since told s n op)) counts (c.settle.ensures.since told)));
      repaired = c.settle.ensures.phase;
      undone = search rules;
      spends = λ unfailed. let is_pub : c.publish-outcome.result ≡ outcome.Published = is_published g c in let z : View = c.settle.new.seat.token.me.0 in
          let few : held_count c.publish-outcome.new.log.ranges ≤ g.O.Object.STORES * weights_added (weight_on_words g.O.Object.machine) (plan_of c.args.self.now.view).history (plan_of z).history
          = subst (λ (n : ℕ). held_count c.publish-outcome.new.log.ranges ≤ g.O.Object.STORES * n) (grown g c) (c.publish-outcome.ensures.published is_pub).few in
          search (rules, few);
    }

pub returns-clause-whole : goal.returns-clause-whole
returns-clause-whole g c =
    let shown = g.D.Device.shown in let a = c.self.inside.twin in let m = c.publish-outcome.new.twin.device in let d = c.settle.new.twin.device in let words : ℕ = region_len a.order in
    let is_pub : c.publish-outcome.result ≡ outcome.Published = is_published g c in let held : held_count c.publish-outcome.new.log.ranges ≤ words = (c.publish-outcome.ensures.published is_pub).within in
    subst (λ (r : Locked g.row.D.Denot). SpendsAtMost shown (batch_writes r.twin.phase r.twin.order (region_len r.twin.order)) (batch_syncs r.twin.phase) r.twin.device d) c.self.view_is
    (most_then shown (writes_before_commit a.phase a.order words + 1) (syncs_before_commit a.phase + 1) (held_count c.publish-outcome.new.log.ranges + 1) 1 (batch_writes a.phase a.order words) (batch_syncs a.phase) a.device m d
    c.publish-outcome.ensures.whole c.settle.ensures.most (omega (arith, held)) (omega arith))

-- a pass that published has done a call
some_done : (g : Over) (c : goal.After-of-2 g) → 0 < c.load_main.result - c.load_main-place.result
some_done g c = let v : View = c.self.inside.seat.token.me.0 in let w : View = c.find.new.seat.token.me.0 in let inv = c.self.invariant.0 in let sc = c.find.ensures.scanned in
    let x : View = c.load_main-place.new.seat.token.me.0 in let q : Plan = plan_of x in let plan_x : q ≡ plan_of w = ap plan_of c.load_main-place.ensures.still.2 in let y : View = c.publish-outcome.new.seat.token.me.0 in
    let base_x : x.base ≡ v.base = ap (λ (z : View). z.base) c.load_main-place.ensures.still.2 ∙ ap (λ (z : View). z.base) c.find.ensures.same.2 in
    let is_pub : c.publish-outcome.result ≡ outcome.Published = is_published g c in let pb = (c.publish-outcome.ensures.published is_pub).published in let ph = (c.publish-outcome.ensures.published is_pub).held in
    let op : g.O.Object.Contents x.base.order x.base.image inv.start inv.count = subst (λ (z : Base). g.O.Object.Contents z.order z.image inv.start inv.count) (sym base_x) inv.opening in
    let held : rule.Held g.O.Object.Contents (on_words g.O.Object.machine) x.base inv.start inv.count q.main q.history = subst (λ (z : Base × List ℕ × List Entry). rule.Held g.O.Object.Contents (on_words g.O.Object.machine) z.0 inv.start inv.count z.1 z.2) (λ j. (sym base_x j, sym (ap (λ (z : Plan). z.main) (ap but_requests plan_x ∙ sc.rest)) j, sym (ap (λ (z : Plan). z.history) (ap but_requests plan_x ∙ sc.rest)) j)) inv.held in
    let word : slice_index q.main 2 ≡ inv.count + length q.history = (g.met.O.Object.contents_within x.base.order q.main _ _ held).1 in
    let word₂ : slice_index (plan_of y).main 2 ≡ ph.1 + length (plan_of y).history = (g.met.O.Object.contents_within x.base.order (plan_of y).main _ _ ph.3).1 in
    let same = g.met.O.Object.one_contents x.base.order x.base.image ph.0 inv.start ph.1 inv.count ph.2 op in let counts = same.1 in
    let history : length (plan_of y).history ≡ length q.history + length pb.more = ap length pb.history ∙ length-append q.history pb.more in
    let some_found : 0 < length c.find.new.found.items = some_of (length c.find.new.found.items) c.if-is_empty.ensures in
    let found : 0 < length q.requests = omega (arith, some_found, ap length sc.items_are, length_map posted_of (plan_of w).requests, ap (λ (z : Plan). length z.requests) plan_x) in
    let fresh : Each (λ _ f. IsUnanswered (IsCall (on_words g.O.Object.machine) x.base) f) q.requests = subst (λ (z : Base × Plan). Each (λ _ f. IsUnanswered (IsCall (on_words g.O.Object.machine) z.0) f) z.1.requests) (λ j. (sym base_x j, sym plan_x j)) (λ j f e. (sc.fresh j f e).1) in
    let within = (g.met.O.Object.contents_within x.base.order q.main _ _ held).2 in
    let low : inv.count + length q.history < LAST_COUNT = omega (arith, within, word, ap (λ (z : Plan). slice_index z.main 2) plan_x, c.load_main-place.ensures.word, c.if-place-eq-LAST_COUNT.false) in
    let some_more : 0 < length pb.more = batch_done g.O.Object.Contents (on_words g.O.Object.machine) x.base q inv.start inv.count pb.front pb.more op pb.batch fresh found low in
    let done : c.load_main.result - c.load_main-place.result ≡ length pb.more = omega (arith, word, word₂, counts, history, ap (λ (z : Plan). slice_index z.main 2) plan_x, c.load_main-place.ensures.word, c.load_main.ensures.word) in
    omega (arith, done, some_more)

pub returns-clause-spent : goal.returns-clause-spent
returns-clause-spent g c published none = let done : c.of-2.result.done ≡ c.load_main.result - c.load_main-place.result = ap (λ (r : Passed). r.done) c.of-2.ensures.is in absurd (omega (arith, none, done, some_done g c))

pub returns-then-is_empty-clause-began : goal.returns-then-is_empty-clause-began
returns-then-is_empty-clause-began g c = let shown = g.D.Device.shown in let v : View = c.self.inside.seat.token.me.0 in let inv = c.self.invariant.0 in
    subst (λ (r : Locked g.row.D.Denot). BeginsIn shown r.twin.phase r.twin.order (plan_of r.view).main r.twin.device) c.self.view_is
    (begins_in shown c.self.inside.twin (plan_of v).main inv.rests c.phase.ensures.images inv.committed_is inv.failed)

pub returns-then-place-eq-LAST_COUNT-clause-began : goal.returns-then-place-eq-LAST_COUNT-clause-began
returns-then-place-eq-LAST_COUNT-clause-began g c = let shown = g.D.Device.shown in let v : View = c.self.inside.seat.token.me.0 in let inv = c.self.invariant.0 in
    subst (λ (r : Locked g.row.D.Denot). BeginsIn shown r.twin.phase r.twin.order (plan_of r.view).main r.twin.device) c.self.view_is
    (begins_in shown c.self.inside.twin (plan_of v).main inv.rests c.phase.ensures.images inv.committed_is inv.failed)

pub returns-then-ne-clause-began : goal.returns-then-ne-clause-began
returns-then-ne-clause-began g c = let shown = g.D.Device.shown in let v : View = c.self.inside.seat.token.me.0 in let inv = c.self.invariant.0 in
    subst (λ (r : Locked g.row.D.Denot). BeginsIn shown r.twin.phase r.twin.order (plan_of r.view).main r.twin.device) c.self.view_is
    (begins_in shown c.self.inside.twin (plan_of v).main inv.rests c.phase.ensures.images inv.committed_is inv.failed)

pub returns-clause-began : goal.returns-clause-began
returns-clause-began g c = let shown = g.D.Device.shown in let v : View = c.self.inside.seat.token.me.0 in let inv = c.self.invariant.0 in
    subst (λ (r : Locked g.row.D.Denot). BeginsIn shown r.twin.phase r.twin.order (plan_of r.view).main r.twin.device) c.self.view_is
    (begins_in shown c.self.inside.twin (plan_of v).main inv.rests c.phase.ensures.images inv.committed_is inv.failed)

pub returns-clause-unwaited : goal.returns-clause-unwaited
returns-clause-unwaited g c none = let done : c.of-2.result.done ≡ c.load_main.result - c.load_main-place.result = ap (λ (r : Passed). r.done) c.of-2.ensures.is in absurd (omega (arith, none, done, some_done g c))

pub returns-then-is_empty-clause-kept : goal.returns-then-is_empty-clause-kept
returns-then-is_empty-clause-kept g c = let v : View = c.self.inside.seat.token.me.0 in let w : View = c.find.new.seat.token.me.0 in
    subst (λ r. w ≡ record r.view { plan = Some (plan_of w); steps = w.steps }) c.self.view_is (c.find.ensures.same.2)

pub returns-then-place-eq-LAST_COUNT-clause-kept : goal.returns-then-place-eq-LAST_COUNT-clause-kept
returns-then-place-eq-LAST_COUNT-clause-kept g c = let v : View = c.self.inside.seat.token.me.0 in let w : View = c.find.new.seat.token.me.0 in let x : View = c.load_main-place.new.seat.token.me.0 in let u : View = c.answer_all.new.seat.token.me.0 in
    subst (λ r. u ≡ record r.view { plan = Some (plan_of u); steps = u.steps }) c.self.view_is (keeps_then v w u c.find.ensures.same.2 (keeps_then w x u (keeps_by w x (plan_of w) c.load_main-place.ensures.still.2) c.answer_all.ensures.same.2))

pub returns-then-ne-clause-kept : goal.returns-then-ne-clause-kept
returns-then-ne-clause-kept g c = let v : View = c.self.inside.seat.token.me.0 in let w : View = c.find.new.seat.token.me.0 in let x : View = c.load_main-place.new.seat.token.me.0 in let y : View = c.publish-outcome.new.seat.token.me.0 in let u : View = c.answer_all-then-ne.new.seat.token.me.0 in
    subst (λ r. u ≡ record r.view { plan = Some (plan_of u); steps = u.steps }) c.self.view_is (keeps_then v w u c.find.ensures.same.2 (keeps_then w x u (keeps_by w x (plan_of w) c.load_main-place.ensures.still.2) (keeps_then x y u c.publish-outcome.ensures.same.2 c.answer_all-then-ne.ensures.same.2)))

pub returns-clause-kept : goal.returns-clause-kept
returns-clause-kept g c = let v : View = c.self.inside.seat.token.me.0 in let w : View = c.find.new.seat.token.me.0 in let x : View = c.load_main-place.new.seat.token.me.0 in let y : View = c.publish-outcome.new.seat.token.me.0 in let l : View = c.load_main.new.seat.token.me.0 in let u : View = c.answer_all-2.new.seat.token.me.0 in let z : View = c.settle.new.seat.token.me.0 in
    subst (λ r. z ≡ record r.view { plan = Some (plan_of z); steps = z.steps }) c.self.view_is (keeps_then v w z c.find.ensures.same.2 (keeps_then w x z (keeps_by w x (plan_of w) c.load_main-place.ensures.still.2) (keeps_then x y z c.publish-outcome.ensures.same.2 (keeps_then y l z (keeps_by y l (plan_of y) c.load_main.ensures.still.2) (keeps_then l u z c.answer_all-2.ensures.same.2 (keeps_by u z _ c.settle.ensures.rested.writes.2))))))

pub returns-then-is_empty-clause-unwaited : goal.returns-then-is_empty-clause-unwaited
returns-then-is_empty-clause-unwaited g c none = let v : View = c.self.inside.seat.token.me.0 in let w : View = c.find.new.seat.token.me.0 in
    (scan_stays (plan_of v) (plan_of w) c.find.ensures.scanned.rest).clear ∙ ap (λ r. (plan_of r.view).clear) c.self.view_is

pub returns-then-place-eq-LAST_COUNT-clause-unwaited : goal.returns-then-place-eq-LAST_COUNT-clause-unwaited
returns-then-place-eq-LAST_COUNT-clause-unwaited g c none = let v : View = c.self.inside.seat.token.me.0 in let w : View = c.find.new.seat.token.me.0 in let x : View = c.load_main-place.new.seat.token.me.0 in let u : View = c.answer_all.new.seat.token.me.0 in
    let scan : but_requests (plan_of x) ≡ but_requests (beginning (plan_of v)) = ap (λ (z : View). but_requests (plan_of z)) c.load_main-place.ensures.still.2 ∙ c.find.ensures.scanned.rest in
    let items : List Posted = c.find.new.found.items in let some_found : 0 < length items = some_of (length items) c.if-is_empty.ensures in let before : ℕ = c.fault_count-before.result in
    let given : List CallAnswer = c.as_slice-answers.result.now in let given_is : given ≡ map (refused (2 ^ 62)) items = c.as_slice-answers.ensures.value ∙ (c.refuse.ensures ∙ ap (map (refused (2 ^ 62))) c.as_slice.ensures.value) in
    let some_given : 0 < length given = omega (arith, some_found, ap length given_is, length_map (refused (2 ^ 62)) items) in
    clear_by g.O.Object.Contents (on_words g.O.Object.machine) x.base (plan_of x) (plan_of u) before before given some_given (ap (λ (z : Plan). z.mine) scan) c.answer_all.ensures.recorded ∙ (ap (λ (z : Plan). z.clear) scan ∙ ap (λ r. (plan_of r.view).clear) c.self.view_is)

pub returns-then-ne-clause-unwaited : goal.returns-then-ne-clause-unwaited
returns-then-ne-clause-unwaited g c none = let v : View = c.self.inside.seat.token.me.0 in let w : View = c.find.new.seat.token.me.0 in let x : View = c.load_main-place.new.seat.token.me.0 in let y : View = c.publish-outcome.new.seat.token.me.0 in let u : View = c.answer_all-then-ne.new.seat.token.me.0 in
    let not_published : c.publish-outcome.result ≢ outcome.Published = unpublished g c in let stays : plan_of y ≡ plan_of x = (c.publish-outcome.ensures.unpublished not_published).stays in let sc = c.find.ensures.scanned in
    let plan_x : plan_of x ≡ plan_of w = ap plan_of c.load_main-place.ensures.still.2 in let scan : but_requests (plan_of y) ≡ but_requests (beginning (plan_of v)) = ap but_requests (stays ∙ plan_x) ∙ sc.rest in
    let some_found : 0 < length c.find.new.found.items = some_of (length c.find.new.found.items) c.if-is_empty.ensures in let before : ℕ = c.fault_count-before.result in let now : ℕ = c.fault_count-now.result in let left = c.publish-outcome.ensures.left in
    let found : 0 < length (plan_of y).requests = omega (arith, some_found, ap length sc.items_are, length_map posted_of (plan_of w).requests, ap (λ (z : Plan). length z.requests) (stays ∙ plan_x)) in
    let given : List CallAnswer = c.as_slice-then-ne.result.now in let items : List CallAnswer = c.publish-outcome.new.answers.items in
    let some_given : 0 < length given = omega (arith, found, ap length left.same, length_map caller_in (plan_of y).requests, length_map caller_of items, ap length c.as_slice-then-ne.ensures.value) in
    clear_by g.O.Object.Contents (on_words g.O.Object.machine) y.base (plan_of y) (plan_of u) before now given some_given (ap (λ (z : Plan). z.mine) scan) c.answer_all-then-ne.ensures.recorded ∙ (ap (λ (z : Plan). z.clear) scan ∙ ap (λ r. (plan_of r.view).clear) c.self.view_is)

-- what each end keeps, and what it says of the device
pub returns-then-is_empty-clause-needed : goal.returns-then-is_empty-clause-needed
returns-then-is_empty-clause-needed g c = subst (λ (r : Locked g.row.D.Denot). NeedsRepair r.twin.phase → IsTrue (g.D.Device.shown.failing r.twin.device)) c.self.view_is c.self.invariant.0.failed

pub returns-then-is_empty-clause-same : goal.returns-then-is_empty-clause-same
returns-then-is_empty-clause-same g c = let s = c.find.new.seat in let t = c.self.inside.twin in
    subst (λ (r : Locked g.row.D.Denot). (s.token.table_id ≡ r.table_id) × (s.token.id ≡ r.id) × (s.token.me.0.base ≡ r.view.base) × (t.order ≡ r.twin.order)) c.self.view_is
    (c.find.ensures.same.0, c.find.ensures.same.1, ap (λ (z : View). z.base) c.find.ensures.same.2, refl)

pub returns-then-place-eq-LAST_COUNT-clause-needed : goal.returns-then-place-eq-LAST_COUNT-clause-needed
returns-then-place-eq-LAST_COUNT-clause-needed g c = subst (λ (r : Locked g.row.D.Denot). NeedsRepair r.twin.phase → IsTrue (g.D.Device.shown.failing r.twin.device)) c.self.view_is c.self.invariant.0.failed

pub returns-then-place-eq-LAST_COUNT-clause-same : goal.returns-then-place-eq-LAST_COUNT-clause-same
returns-then-place-eq-LAST_COUNT-clause-same g c = let s = c.answer_all.new.seat in let t = c.self.inside.twin in
    subst (λ (r : Locked g.row.D.Denot). (s.token.table_id ≡ r.table_id) × (s.token.id ≡ r.id) × (s.token.me.0.base ≡ r.view.base) × (t.order ≡ r.twin.order)) c.self.view_is
    (c.answer_all.ensures.same.0 ∙ (c.load_main-place.ensures.still.0 ∙ c.find.ensures.same.0), c.answer_all.ensures.same.1 ∙ (c.load_main-place.ensures.still.1 ∙ c.find.ensures.same.1), ap (λ (z : View). z.base) c.answer_all.ensures.same.2 ∙ (ap (λ (z : View). z.base) c.load_main-place.ensures.still.2 ∙ ap (λ (z : View). z.base) c.find.ensures.same.2), refl)

pub returns-then-ne-clause-needed : goal.returns-then-ne-clause-needed
returns-then-ne-clause-needed g c = subst (λ (r : Locked g.row.D.Denot). NeedsRepair r.twin.phase → IsTrue (g.D.Device.shown.failing r.twin.device)) c.self.view_is c.self.invariant.0.failed

pub returns-then-ne-clause-same : goal.returns-then-ne-clause-same
returns-then-ne-clause-same g c = let s = c.answer_all-then-ne.new.seat in let t = c.publish-outcome.new.twin in
    subst (λ (r : Locked g.row.D.Denot). (s.token.table_id ≡ r.table_id) × (s.token.id ≡ r.id) × (s.token.me.0.base ≡ r.view.base) × (t.order ≡ r.twin.order)) c.self.view_is
    (c.answer_all-then-ne.ensures.same.0 ∙ (c.publish-outcome.ensures.same.0 ∙ (c.load_main-place.ensures.still.0 ∙ c.find.ensures.same.0)), c.answer_all-then-ne.ensures.same.1 ∙ (c.publish-outcome.ensures.same.1 ∙ (c.load_main-place.ensures.still.1 ∙ c.find.ensures.same.1)), ap (λ (z : View). z.base) c.answer_all-then-ne.ensures.same.2 ∙ (ap (λ (z : View). z.base) c.publish-outcome.ensures.same.2 ∙ (ap (λ (z : View). z.base) c.load_main-place.ensures.still.2 ∙ ap (λ (z : View). z.base) c.find.ensures.same.2)), c.publish-outcome.ensures.order)

pub returns-clause-needed : goal.returns-clause-needed
returns-clause-needed g c = subst (λ (r : Locked g.row.D.Denot). NeedsRepair r.twin.phase → IsTrue (g.D.Device.shown.failing r.twin.device)) c.self.view_is c.self.invariant.0.failed

pub returns-clause-same : goal.returns-clause-same
returns-clause-same g c = let s = c.settle.new.seat in let t = c.settle.new.twin in
    subst (λ (r : Locked g.row.D.Denot). (s.token.table_id ≡ r.table_id) × (s.token.id ≡ r.id) × (s.token.me.0.base ≡ r.view.base) × (t.order ≡ r.twin.order)) c.self.view_is
    (c.settle.ensures.rested.writes.0 ∙ (c.answer_all-2.ensures.same.0 ∙ (c.load_main.ensures.still.0 ∙ (c.publish-outcome.ensures.same.0 ∙ (c.load_main-place.ensures.still.0 ∙ c.find.ensures.same.0)))), c.settle.ensures.rested.writes.1 ∙ (c.answer_all-2.ensures.same.1 ∙ (c.load_main.ensures.still.1 ∙ (c.publish-outcome.ensures.same.1 ∙ (c.load_main-place.ensures.still.1 ∙ c.find.ensures.same.1)))), ap (λ (z : View). z.base) c.settle.ensures.rested.writes.2 ∙ (ap (λ (z : View). z.base) c.answer_all-2.ensures.same.2 ∙ (ap (λ (z : View). z.base) c.load_main.ensures.still.2 ∙ (ap (λ (z : View). z.base) c.publish-outcome.ensures.same.2 ∙ (ap (λ (z : View). z.base) c.load_main-place.ensures.still.2 ∙ ap (λ (z : View). z.base) c.find.ensures.same.2)))), c.settle.ensures.kept.order ∙ c.publish-outcome.ensures.order)

pub returns-then-is_empty-clause-device : goal.returns-then-is_empty-clause-device
returns-then-is_empty-clause-device g c = let shown = g.D.Device.shown in let a = c.self.inside.twin in subst (λ (r : Locked g.row.D.Denot). WritesHeap shown r.twin.order r.twin.device a.device) c.self.view_is (writes_none shown a.order a.device)

pub returns-then-is_empty-clause-most : goal.returns-then-is_empty-clause-most
returns-then-is_empty-clause-most g c = let shown = g.D.Device.shown in let a = c.self.inside.twin in
    subst (λ (r : Locked g.row.D.Denot). SpendsAtMost shown (batch_writes r.twin.phase r.twin.order (g.O.Object.STORES * weights_found (weight_on_words g.O.Object.machine) (plan_of c.find.new.seat.token.me.0))) (batch_syncs r.twin.phase) r.twin.device a.device) c.self.view_is (none_most shown _ _ a.device)

pub returns-then-is_empty-clause-whole : goal.returns-then-is_empty-clause-whole
returns-then-is_empty-clause-whole g c = let shown = g.D.Device.shown in let a = c.self.inside.twin in
    subst (λ (r : Locked g.row.D.Denot). SpendsAtMost shown (batch_writes r.twin.phase r.twin.order (region_len r.twin.order)) (batch_syncs r.twin.phase) r.twin.device a.device) c.self.view_is (none_most shown _ _ a.device)

pub returns-then-place-eq-LAST_COUNT-clause-device : goal.returns-then-place-eq-LAST_COUNT-clause-device
returns-then-place-eq-LAST_COUNT-clause-device g c = let shown = g.D.Device.shown in let a = c.self.inside.twin in subst (λ (r : Locked g.row.D.Denot). WritesHeap shown r.twin.order r.twin.device a.device) c.self.view_is (writes_none shown a.order a.device)

pub returns-then-place-eq-LAST_COUNT-clause-most : goal.returns-then-place-eq-LAST_COUNT-clause-most
returns-then-place-eq-LAST_COUNT-clause-most g c = let shown = g.D.Device.shown in let a = c.self.inside.twin in
    subst (λ (r : Locked g.row.D.Denot). SpendsAtMost shown (batch_writes r.twin.phase r.twin.order (g.O.Object.STORES * weights_found (weight_on_words g.O.Object.machine) (plan_of c.answer_all.new.seat.token.me.0))) (batch_syncs r.twin.phase) r.twin.device a.device) c.self.view_is (none_most shown _ _ a.device)

pub returns-then-place-eq-LAST_COUNT-clause-whole : goal.returns-then-place-eq-LAST_COUNT-clause-whole
returns-then-place-eq-LAST_COUNT-clause-whole g c = let shown = g.D.Device.shown in let a = c.self.inside.twin in
    subst (λ (r : Locked g.row.D.Denot). SpendsAtMost shown (batch_writes r.twin.phase r.twin.order (region_len r.twin.order)) (batch_syncs r.twin.phase) r.twin.device a.device) c.self.view_is (none_most shown _ _ a.device)

pub returns-then-ne-clause-device : goal.returns-then-ne-clause-device
returns-then-ne-clause-device g c = let shown = g.D.Device.shown in let m = c.publish-outcome.new.twin in subst (λ (r : Locked g.row.D.Denot). WritesHeap shown r.twin.order r.twin.device m.device) c.self.view_is c.publish-outcome.ensures.device

pub returns-clause-device : goal.returns-clause-device
returns-clause-device g c = let shown = g.D.Device.shown in let a = c.self.inside.twin in let m = c.publish-outcome.new.twin in let d = c.settle.new.twin in
    subst (λ (r : Locked g.row.D.Denot). WritesHeap shown r.twin.order r.twin.device d.device) c.self.view_is
    (writes_then shown a.order a.device m.device d.device c.publish-outcome.ensures.device (subst (λ (n : ℕ). WritesHeap shown n m.device d.device) c.publish-outcome.ensures.order c.settle.ensures.device))

-- what shared main was as the pass began
main_refused : (g : Over) (c : goal.After-of-then-ne g) → (plan_of c.load_main-place.new.seat.token.me.0).main ≡ (plan_of c.args.self.now.view).main
main_refused g c = ap (λ (r : View). (plan_of r).main) c.load_main-place.ensures.still.2 ∙ (ap (λ (r : Plan). r.main) c.find.ensures.scanned.rest ∙ ap (λ r. (plan_of r.view).main) c.self.view_is)

pub returns-then-ne-clause-failed : goal.returns-then-ne-clause-failed
returns-then-ne-clause-failed g c is = let shown = g.D.Device.shown in let m = c.publish-outcome.new.twin in
    subst (λ (r : ℕ × List ℕ × Locked g.row.D.Denot). EndsFailed shown (g.O.Object.STORES * r.0) r.1 r.2.twin m) (λ j. (left_refused g c j, main_refused g c j, c.self.view_is j)) (c.publish-outcome.ensures.failed (ended _ _ _ _ _ c.of-then-ne.ensures.is is))

pub returns-then-ne-clause-doubt : goal.returns-then-ne-clause-doubt
returns-then-ne-clause-doubt g c is = let shown = g.D.Device.shown in let m = c.publish-outcome.new.twin in
    subst (λ (r : List ℕ × Locked g.row.D.Denot). EndsInDoubt shown r.0 r.1.twin m) (λ j. (main_refused g c j, c.self.view_is j)) (c.publish-outcome.ensures.doubt (ended _ _ _ _ _ c.of-then-ne.ensures.is is))

pub returns-then-ne-clause-most : goal.returns-then-ne-clause-most
returns-then-ne-clause-most g c = let shown = g.D.Device.shown in let a = c.self.inside.twin in let m = c.publish-outcome.new.twin.device in let stores : ℕ = g.O.Object.STORES in let words : ℕ = stores * weights_found (weight_on_words g.O.Object.machine) (plan_of c.answer_all-then-ne.new.seat.token.me.0) in
    let first : SpendsAtMost shown (writes_before_commit a.phase a.order words + 1) (syncs_before_commit a.phase + 1) a.device m = subst (λ (n : ℕ). SpendsAtMost shown (writes_before_commit a.phase a.order (stores * n) + 1) (syncs_before_commit a.phase + 1) a.device m) (left_refused g c) c.publish-outcome.ensures.most in
    subst (λ (r : Locked g.row.D.Denot). SpendsAtMost shown (batch_writes r.twin.phase r.twin.order words) (batch_syncs r.twin.phase) r.twin.device m) c.self.view_is (batch_most shown a.phase a.order words a.device m first)

pub returns-then-ne-clause-whole : goal.returns-then-ne-clause-whole
returns-then-ne-clause-whole g c = let shown = g.D.Device.shown in let a = c.self.inside.twin in let m = c.publish-outcome.new.twin.device in
    subst (λ (r : Locked g.row.D.Denot). SpendsAtMost shown (batch_writes r.twin.phase r.twin.order (region_len r.twin.order)) (batch_syncs r.twin.phase) r.twin.device m) c.self.view_is (batch_most shown a.phase a.order (region_len a.order) a.device m c.publish-outcome.ensures.whole)

-- what a pass does not say that found no call
pub returns-then-is_empty-clause-done : goal.returns-then-is_empty-clause-done
returns-then-is_empty-clause-done g c any_done = absurd (none_done _ _ _ c.of.ensures.is any_done)

pub returns-then-is_empty-clause-spent : goal.returns-then-is_empty-clause-spent
returns-then-is_empty-clause-spent g c e = absurd (published_not_nothing (sym (ended _ _ _ _ _ c.of.ensures.is e)))

pub returns-then-is_empty-clause-failed : goal.returns-then-is_empty-clause-failed
returns-then-is_empty-clause-failed g c e = absurd (failed_not_nothing (sym (ended _ _ _ _ _ c.of.ensures.is e)))

pub returns-then-is_empty-clause-doubt : goal.returns-then-is_empty-clause-doubt
returns-then-is_empty-clause-doubt g c e = absurd (doubt_not_nothing (sym (ended _ _ _ _ _ c.of.ensures.is e)))

-- what one does not say that found the count at its limit
pub returns-then-place-eq-LAST_COUNT-clause-done : goal.returns-then-place-eq-LAST_COUNT-clause-done
returns-then-place-eq-LAST_COUNT-clause-done g c any_done = absurd (none_done _ _ _ c.of-then-place-eq-LAST_COUNT.ensures.is any_done)

pub returns-then-place-eq-LAST_COUNT-clause-untouched : goal.returns-then-place-eq-LAST_COUNT-clause-untouched
returns-then-place-eq-LAST_COUNT-clause-untouched g c e = absurd (published_not_nothing (ended _ _ _ _ _ c.of-then-place-eq-LAST_COUNT.ensures.is e))

pub returns-then-place-eq-LAST_COUNT-clause-failed : goal.returns-then-place-eq-LAST_COUNT-clause-failed
returns-then-place-eq-LAST_COUNT-clause-failed g c e = absurd (published_not_failed (ended _ _ _ _ _ c.of-then-place-eq-LAST_COUNT.ensures.is e))

pub returns-then-place-eq-LAST_COUNT-clause-doubt : goal.returns-then-place-eq-LAST_COUNT-clause-doubt
returns-then-place-eq-LAST_COUNT-clause-doubt g c e = absurd (published_not_doubt (ended _ _ _ _ _ c.of-then-place-eq-LAST_COUNT.ensures.is e))

-- what one does not say that published nothing
pub returns-then-ne-clause-done : goal.returns-then-ne-clause-done
returns-then-ne-clause-done g c any_done = absurd (none_done _ _ _ c.of-then-ne.ensures.is any_done)

pub returns-then-ne-clause-spent : goal.returns-then-ne-clause-spent
returns-then-ne-clause-spent g c e = absurd (unpublished g c (ended _ _ _ _ _ c.of-then-ne.ensures.is e))

pub returns-then-ne-clause-untouched : goal.returns-then-ne-clause-untouched
returns-then-ne-clause-untouched g c e = absurd (c.publish-outcome.ensures.some (ended _ _ _ _ _ c.of-then-ne.ensures.is e))

-- what one does not say that published
pub returns-clause-untouched : goal.returns-clause-untouched
returns-clause-untouched g c e = absurd (c.publish-outcome.ensures.some (ended _ _ _ _ _ c.of-2.ensures.is e))

pub returns-clause-failed : goal.returns-clause-failed
returns-clause-failed g c e = absurd (published_not_failed (sym (is_published g c) ∙ ended _ _ _ _ _ c.of-2.ensures.is e))

pub returns-clause-doubt : goal.returns-clause-doubt
returns-clause-doubt g c e = absurd (published_not_doubt (sym (is_published g c) ∙ ended _ _ _ _ _ c.of-2.ensures.is e))

-- the numbers of a batch that was published
batch_grew : (g : Over) (v w x y : View) (t : Seen g.row.D.Denot) (place count before now : ℕ) → IsAtRest g.D.Device.shown g.O.Object.Contents (on_words g.O.Object.machine) t v → w.base ≡ v.base → but_requests (plan_of w) ≡ but_requests (beginning (plan_of v)) → plan_of x ≡ plan_of w → x.base ≡ w.base
    → place ≡ slice_index (plan_of w).main 2 → count ≡ slice_index (plan_of y).main 2 → (pb : IsPublished g.O.Object.Contents (on_words g.O.Object.machine) x.base (plan_of x) (plan_of y) before now)
    → (s : g.O.Object.State) × (n : ℕ) × g.O.Object.Contents x.base.order x.base.image s n × rule.Held g.O.Object.Contents (on_words g.O.Object.machine) x.base s n (plan_of y).main (plan_of y).history
    → Grew g.O.Object.Contents (on_words g.O.Object.machine) x.base (plan_of x) place (count - place) pb.more
batch_grew g v w x y t place count before now inv base scan plan_x base_x was is pb ph = let base_v : x.base ≡ v.base = base_x ∙ base in
    let op : g.O.Object.Contents x.base.order x.base.image inv.start inv.count = subst (λ (z : Base). g.O.Object.Contents z.order z.image inv.start inv.count) (sym base_v) inv.opening in
    let held : rule.Held g.O.Object.Contents (on_words g.O.Object.machine) x.base inv.start inv.count (plan_of w).main (plan_of x).history = subst (λ (z : Base × List ℕ × List Entry). rule.Held g.O.Object.Contents (on_words g.O.Object.machine) z.0 inv.start inv.count z.1 z.2) (λ j. (sym base_v j, sym (ap (λ (z : Plan). z.main) scan) j, sym (ap (λ (z : Plan). z.history) (ap but_requests plan_x ∙ scan)) j)) inv.held in
    has_grown g.O.Object.Contents (on_words g.O.Object.machine) x.base g.O.Object.KIND (λ words s k h. g.met.O.Object.contents_within x.base.order words s k h) (λ s t n k h₁ h₂. g.met.O.Object.one_contents x.base.order x.base.image s t n k h₁ h₂) (plan_of x) (plan_of y) (plan_of w).main before now place count inv.start inv.count op held was is pb ph

-- the numbers of the batch that is handed on
hands_grew : (g : Over) (c : goal.After-as_slice-4 g) → (more : List Entry) × Grew g.O.Object.Contents (on_words g.O.Object.machine) c.load_main-place.new.seat.token.me.0.base (plan_of c.load_main-place.new.seat.token.me.0) c.load_main-place.result (c.load_main.result - c.load_main-place.result) more
hands_grew g c = let is_pub : c.publish-outcome.result ≡ outcome.Published = search rules in let pb = c.publish-outcome.ensures.published is_pub in (
  pb.published.more,
  batch_grew g c.self.inside.seat.token.me.0 c.find.new.seat.token.me.0 c.load_main-place.new.seat.token.me.0 c.publish-outcome.new.seat.token.me.0 c.self.inside.twin c.load_main-place.result c.load_main.result c.fault_count-before.result (g.D.Device.shown.faults c.publish-outcome.new.twin.device) c.self.invariant.0
      (ap (λ (z : View). z.base) c.find.ensures.same.2) c.find.ensures.scanned.rest (ap plan_of c.load_main-place.ensures.still.2) (ap (λ (z : View). z.base) c.load_main-place.ensures.still.2) c.load_main-place.ensures.word c.load_main.ensures.word pb.published pb.held,
)

-- as many calls are handed on with their answers as were found
hands_found : (g : Over) (c : goal.After-as_slice-4 g) → (c.as_slice-3.result.now ≡ map posted_of (plan_of c.load_main-place.new.seat.token.me.0).requests)
hands_found g c = c.as_slice-3.ensures.value ∙ (c.find.ensures.scanned.items_are ∙ ap (λ (z : View). map posted_of (plan_of z).requests) (sym c.load_main-place.ensures.still.2))

pub hand_on-requires-clause-many : goal.hand_on-requires-clause-many
hand_on-requires-clause-many g c = ap length c.as_slice-4.ensures.value
    ∙ length_given g.O.Object.Contents (on_words g.O.Object.machine) c.load_main-place.new.seat.token.me.0.base (fate_of c.publish-outcome.result) c.fault_count-before.result (g.D.Device.shown.faults c.publish-outcome.new.twin.device) (plan_of c.load_main-place.new.seat.token.me.0) (plan_of c.publish-outcome.new.seat.token.me.0) c.as_slice-3.result.now c.publish-outcome.new.answers.items
    c.publish-outcome.ensures.left c.publish-outcome.ensures.calls (hands_found g c)

pub hand_on-requires-clause-within : goal.hand_on-requires-clause-within
hand_on-requires-clause-within g c = let more = hands_grew g c in omega (arith, more.1.done_is, more.1.few, ap length (hands_found g c), length_map posted_of (plan_of c.load_main-place.new.seat.token.me.0).requests)

pub hand_on-requires-clause-fits : goal.hand_on-requires-clause-fits
hand_on-requires-clause-fits g c = (hands_grew g c).1.fits

pub hand_on-requires-clause-unanswered : goal.hand_on-requires-clause-unanswered
hand_on-requires-clause-unanswered g c = subst (λ (z : Plan). Each (λ _ f. f.answered ≡ false) z.requests) (ap plan_of (sym c.load_main.ensures.still.2))
    (unanswered_left g.O.Object.Contents (on_words g.O.Object.machine) c.load_main-place.new.seat.token.me.0.base (fate_of c.publish-outcome.result) c.fault_count-before.result (g.D.Device.shown.faults c.publish-outcome.new.twin.device) (plan_of c.publish-outcome.new.seat.token.me.0) c.publish-outcome.new.answers.items c.publish-outcome.ensures.left)

-- the updates that are handed on are the last ones of the history that was published
pub hand_on-requires-clause-published : goal.hand_on-requires-clause-published
unfolding hands_grew
hand_on-requires-clause-published g c = let v : View = c.self.inside.seat.token.me.0 in let x : View = c.load_main-place.new.seat.token.me.0 in let inv = c.self.invariant.0 in
    let is_pub : c.publish-outcome.result ≡ outcome.Published = search rules in let pb = (c.publish-outcome.ensures.published is_pub).published in
    let base_v : x.base ≡ v.base = ap (λ (z : View). z.base) c.load_main-place.ensures.still.2 ∙ ap (λ (z : View). z.base) c.find.ensures.same.2 in
    let op_x : g.O.Object.Contents x.base.order x.base.image inv.start inv.count = subst (λ (z : Base). g.O.Object.Contents z.order z.image inv.start inv.count) (sym base_v) inv.opening in
    let more : pb.more ≡ batch_found g.O.Object.Contents (on_words g.O.Object.machine) x.base inv.start inv.count (plan_of x) = (pb.batch inv.start inv.count op_x).1 ∙ ap (λ (k : ℕ). batch (on_words g.O.Object.machine) x.base.order (after (on_words g.O.Object.machine) x.base.order inv.start inv.count (plan_of x).history) k (map found_of (plan_of x).requests)) (pb.batch inv.start inv.count op_x).0 in
    subst (λ (z : Plan). AreLast z.history (take (c.load_main.result - c.load_main-place.result) (updates_of c.as_slice-3.result.now c.as_slice-4.result.now))) (ap plan_of (sym c.load_main.ensures.still.2)) (
      (plan_of x).history,
      pb.more,
      pb.history,
      handed_batch g.O.Object.Contents (on_words g.O.Object.machine) x.base inv.start inv.count (plan_of x) pb.more c.as_slice-3.result.now c.as_slice-4.result.now (c.load_main.result - c.load_main-place.result) (hands_found g c) more (hands_grew g c).1.done_is (ap (map laid_of) c.as_slice-4.ensures.value ∙ c.publish-outcome.ensures.told is_pub inv.start inv.count op_x),
    )

-- what was handed on: nothing where no call was done, else what was done
pub returns-then-is_empty-clause-shipped : goal.returns-then-is_empty-clause-shipped
returns-then-is_empty-clause-shipped g c tells s n op = let p : Plan = plan_of c.args.self.now.view in
    ships_same (g.W.Shipper.shown.state c.args.shipper.now) g.W.Shipper.shown.text (n + length p.history) p.history (plan_of c.find.new.seat.token.me.0).history
    (history_stays g.O.Object.Contents (on_words g.O.Object.machine) c.args.self.now.view.base p (plan_of c.find.new.seat.token.me.0) _ _ _ c.of.result (passed_none g c).0 (ap (λ (r : Passed). r.done) c.of.ensures.is))

pub returns-then-place-eq-LAST_COUNT-clause-shipped : goal.returns-then-place-eq-LAST_COUNT-clause-shipped
returns-then-place-eq-LAST_COUNT-clause-shipped g c tells s n op = let p : Plan = plan_of c.args.self.now.view in
    ships_same (g.W.Shipper.shown.state c.args.shipper.now) g.W.Shipper.shown.text (n + length p.history) p.history (plan_of c.answer_all.new.seat.token.me.0).history
    (history_stays g.O.Object.Contents (on_words g.O.Object.machine) c.args.self.now.view.base p (plan_of c.answer_all.new.seat.token.me.0) _ _ _ c.of-then-place-eq-LAST_COUNT.result (passed_spent g c).0 (ap (λ (r : Passed). r.done) c.of-then-place-eq-LAST_COUNT.ensures.is))

pub returns-then-ne-clause-shipped : goal.returns-then-ne-clause-shipped
returns-then-ne-clause-shipped g c tells s n op = let p : Plan = plan_of c.args.self.now.view in
    ships_same (g.W.Shipper.shown.state c.args.shipper.now) g.W.Shipper.shown.text (n + length p.history) p.history (plan_of c.answer_all-then-ne.new.seat.token.me.0).history
    (history_stays g.O.Object.Contents (on_words g.O.Object.machine) c.args.self.now.view.base p (plan_of c.answer_all-then-ne.new.seat.token.me.0) _ _ _ c.of-then-ne.result (passed_ne g c).0 (ap (λ (r : Passed). r.done) c.of-then-ne.ensures.is))

-- the history has grown by the batch, whose updates are those that were handed on
handed_grown : (g : Over) (c : goal.After-of-2 g) → ((plan_of c.settle.new.seat.token.me.0).history ≡ (plan_of c.args.self.now.view).history ++ (c.publish-outcome.ensures.published (is_published g c)).published.more)
    × Grew g.O.Object.Contents (on_words g.O.Object.machine) c.load_main-place.new.seat.token.me.0.base (plan_of c.load_main-place.new.seat.token.me.0) c.load_main-place.result (c.load_main.result - c.load_main-place.result) (c.publish-outcome.ensures.published (is_published g c)).published.more
    × (take (c.load_main.result - c.load_main-place.result) (updates_of c.as_slice-3.result.now c.as_slice-4.result.now) ≡ map update_of (c.publish-outcome.ensures.published (is_published g c)).published.more)
handed_grown g c = let v : View = c.self.inside.seat.token.me.0 in let w : View = c.find.new.seat.token.me.0 in let x : View = c.load_main-place.new.seat.token.me.0 in let y : View = c.publish-outcome.new.seat.token.me.0 in
    let inv = c.self.invariant.0 in let s : g.O.Object.State = inv.start in let n : ℕ = inv.count in
    let is_pub : c.publish-outcome.result ≡ outcome.Published = is_published g c in let pb = (c.publish-outcome.ensures.published is_pub).published in
    let base : w.base ≡ v.base = ap (λ (r : View). r.base) c.find.ensures.same.2 in let base_x : x.base ≡ w.base = ap (λ (r : View). r.base) c.load_main-place.ensures.still.2 in
    let op_x : g.O.Object.Contents x.base.order x.base.image s n = subst (λ (r : Base). g.O.Object.Contents r.order r.image s n) (sym (base_x ∙ base)) inv.opening in
    let old : (plan_of x).history ≡ (plan_of c.args.self.now.view).history = ap (λ (r : View). (plan_of r).history) c.load_main-place.ensures.still.2 ∙ (ap (λ (r : Plan). r.history) c.find.ensures.scanned.rest ∙ ap (λ r. (plan_of r.view).history) c.self.view_is) in
    let grew = batch_grew g v w x y c.self.inside.twin c.load_main-place.result c.load_main.result c.fault_count-before.result (g.D.Device.shown.faults c.publish-outcome.new.twin.device) inv base c.find.ensures.scanned.rest (ap plan_of c.load_main-place.ensures.still.2) base_x c.load_main-place.ensures.word c.load_main.ensures.word pb (c.publish-outcome.ensures.published is_pub).held in
    let more : pb.more ≡ batch_found g.O.Object.Contents (on_words g.O.Object.machine) x.base s n (plan_of x) = (pb.batch s n op_x).1 ∙ ap (λ (k : ℕ). batch (on_words g.O.Object.machine) x.base.order (after (on_words g.O.Object.machine) x.base.order s n (plan_of x).history) k (map found_of (plan_of x).requests)) (pb.batch s n op_x).0 in
    let found : c.as_slice-3.result.now ≡ map posted_of (plan_of x).requests = c.as_slice-3.ensures.value ∙ (c.find.ensures.scanned.items_are ∙ ap (λ (r : View). map posted_of (plan_of r).requests) (sym c.load_main-place.ensures.still.2)) in (
      ap (λ (r : View). (plan_of r).history) c.settle.ensures.rested.writes.2 ∙ (ap (λ (r : Plan). r.history) (is_given g c).1 ∙ (pb.history ∙ ap (λ (l : List Entry). l ++ pb.more) old)),
      grew,
      handed_batch g.O.Object.Contents (on_words g.O.Object.machine) x.base s n (plan_of x) pb.more c.as_slice-3.result.now c.as_slice-4.result.now (c.load_main.result - c.load_main-place.result) found more grew.done_is (ap (map laid_of) c.as_slice-4.ensures.value ∙ c.publish-outcome.ensures.told is_pub s n op_x),
    )

pub returns-clause-shipped : goal.returns-clause-shipped
returns-clause-shipped g c tells s n op = let x : View = c.load_main-place.new.seat.token.me.0 in let z : View = c.settle.new.seat.token.me.0 in let grown = handed_grown g c in
    let base_x : x.base ≡ c.args.self.now.view.base = ap (λ (r : View). r.base) c.load_main-place.ensures.still.2 ∙ (ap (λ (r : View). r.base) c.find.ensures.same.2 ∙ ap (λ r. r.view.base) c.self.view_is) in
    let op_x : g.O.Object.Contents x.base.order x.base.image s n = subst (λ (r : Base). g.O.Object.Contents r.order r.image s n) (sym base_x) op in
    let old : (plan_of x).history ≡ (plan_of c.args.self.now.view).history = ap (λ (r : View). (plan_of r).history) c.load_main-place.ensures.still.2 ∙ (ap (λ (r : Plan). r.history) c.find.ensures.scanned.rest ∙ ap (λ r. (plan_of r.view).history) c.self.view_is) in
    ships_grown (g.W.Shipper.shown.state c.args.shipper.now) (g.W.Shipper.shown.state c.hand_on.new.shipper) g.W.Shipper.shown.text c.load_main-place.result (n + length (plan_of c.args.self.now.view).history) (plan_of c.args.self.now.view).history (plan_of z).history (c.publish-outcome.ensures.published (is_published g c)).published.more (take (c.load_main.result - c.load_main-place.result) (updates_of c.as_slice-3.result.now c.as_slice-4.result.now))
    (grown.1.place_is s n op_x ∙ ap (λ (l : List Entry). n + length l) old) grown.0 grown.2 (c.hand_on.ensures.ships tells)

-- what the shipper keeps of the last batch: the replies of this one, where a call was done
pub returns-then-is_empty-clause-last : goal.returns-then-is_empty-clause-last
returns-then-is_empty-clause-last g c any = absurd (omega (arith, any, ap (λ (r : Passed). r.done) c.of.ensures.is))

pub returns-then-place-eq-LAST_COUNT-clause-last : goal.returns-then-place-eq-LAST_COUNT-clause-last
returns-then-place-eq-LAST_COUNT-clause-last g c any = absurd (omega (arith, any, ap (λ (r : Passed). r.done) c.of-then-place-eq-LAST_COUNT.ensures.is))

pub returns-then-ne-clause-last : goal.returns-then-ne-clause-last
returns-then-ne-clause-last g c any = absurd (omega (arith, any, ap (λ (r : Passed). r.done) c.of-then-ne.ensures.is))

pub returns-clause-last : goal.returns-clause-last
returns-clause-last g c any = let grown = handed_grown g c in let was : List Entry = (plan_of c.args.self.now.view).history in
    subst (λ (us : List (List ℕ × List ℕ)). IfSome (g.W.Shipper.shown.last c.hand_on.new.shipper) (λ replies. replies ≡ map reply_in us))
    (grown.2 ∙ ap (map update_of) (sym (ap (drop (length was)) grown.0 ∙ drop-append_seam was (c.publish-outcome.ensures.published (is_published g c)).published.more))) c.hand_on.ensures.last

-- where calls were wanted, the calls that were found are these
pub returns-then-is_empty-clause-wanted : goal.returns-then-is_empty-clause-wanted
returns-then-is_empty-clause-wanted g c any = (let are = c.find.ensures.wanted any in posted_requests (plan_of c.find.new.seat.token.me.0) c.find.new.found.items c.find.ensures.scanned.items_are ∙ are)

pub returns-then-place-eq-LAST_COUNT-clause-wanted : goal.returns-then-place-eq-LAST_COUNT-clause-wanted
returns-then-place-eq-LAST_COUNT-clause-wanted g c any = (let are = c.find.ensures.wanted any in
    same_calls_found (plan_of c.load_main-place.new.seat.token.me.0) (plan_of c.answer_all.new.seat.token.me.0) c.answer_all.ensures.calls
    ∙ (ap (λ (r : View). calls_found (plan_of r)) c.load_main-place.ensures.still.2 ∙ (posted_requests (plan_of c.find.new.seat.token.me.0) c.find.new.found.items c.find.ensures.scanned.items_are ∙ are)))

pub returns-then-ne-clause-wanted : goal.returns-then-ne-clause-wanted
returns-then-ne-clause-wanted g c any = (let are = c.find.ensures.wanted any in
    same_calls_found (plan_of c.publish-outcome.new.seat.token.me.0) (plan_of c.answer_all-then-ne.new.seat.token.me.0) c.answer_all-then-ne.ensures.calls
    ∙ (same_calls_found (plan_of c.load_main-place.new.seat.token.me.0) (plan_of c.publish-outcome.new.seat.token.me.0) c.publish-outcome.ensures.calls
    ∙ (ap (λ (r : View). calls_found (plan_of r)) c.load_main-place.ensures.still.2 ∙ (posted_requests (plan_of c.find.new.seat.token.me.0) c.find.new.found.items c.find.ensures.scanned.items_are ∙ are))))

pub returns-clause-wanted : goal.returns-clause-wanted
returns-clause-wanted g c any = let x : Plan = plan_of c.load_main-place.new.seat.token.me.0 in let y : Plan = plan_of c.publish-outcome.new.seat.token.me.0 in let lm : Plan = plan_of c.load_main.new.seat.token.me.0 in let u : Plan = plan_of c.answer_all-2.new.seat.token.me.0 in
    (let are = c.find.ensures.wanted any in
    ap (λ (r : View). calls_found (plan_of r)) c.settle.ensures.rested.writes.2 ∙ (same_calls_found lm u c.answer_all-2.ensures.calls ∙ (ap (λ (r : View). calls_found (plan_of r)) c.load_main.ensures.still.2 ∙ (same_calls_found x y c.publish-outcome.ensures.calls
    ∙ (ap (λ (r : View). calls_found (plan_of r)) c.load_main-place.ensures.still.2 ∙ (posted_requests (plan_of c.find.new.seat.token.me.0) c.find.new.found.items c.find.ensures.scanned.items_are ∙ are))))))
