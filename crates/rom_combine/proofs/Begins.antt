-- What a pass that found calls begins from as it publishes them, and as it answers them.
use Rattle.std.proofs.Common.{◌≡◌, ℕ, ◌+◌, ◌<◌, ◌≤◌, List, map, length, sym, ap, ◌∙◌, subst, arith, true, Option}
use Rattle.rom_model.specs.declared.entry.Entry.{Entry}
use Rattle.rom_model.specs.declared.record.PassRecord.{PassRecord}
use Rattle.rom_model.specs.History.{LAST_COUNT}
use Rattle.rom_model.specs.Passes.{faults_after}
use Rattle.rom_device.specs.Device.{ShownDevice}
use Rattle.rom_twin.specs.Seen.{Seen}
use Rattle.rom_lr.specs.Seats.{plan, writer_view}
use Rattle.rom_lr.specs.declared.seats.WriterSeat.{WriterSeat}
use Rattle.rom_ranges.specs.Log.{Logged}
use Rattle.rom_rule.specs.declared.views.Base.{Base}
use Rattle.rom_rule.specs.declared.views.Plan.{Plan}
use Rattle.rom_rule.specs.declared.views.View.{View}
use Rattle.atomic_table.proofs.Lists.{at_map}
use Rattle.rom_rule.proofs.Told.{at_some, length_map}
use Rattle.rom_rule.specs.Calls.{AreScanned, caller_in, found_of}
use Rattle.rom_rule.specs.Places.{indicator_count}
use Rattle.rom_rule.specs.Readers.{Held}
use Rattle.rom_rule.specs.Records.{IsCall}
use Rattle.rom_rule.specs.Views.{has, is_made, plan_of}
use Rattle.rom_combine.proofs.Gives.{made_some}
use Rattle.rom_combine.proofs.Keeping.{scan_stays}
use Rattle.rom_combine.specs.AtRest.{IsAtRest, IsClear}
use Rattle.rom_combine.specs.Published.{IsPublished}
use Rattle.rom_combine.specs.Publishing.{IsReadyToPublish}
use Rattle.rom_combine.specs.Scanning.{IsScan, but_requests, posted_of}
use Rattle.rom_combine.specs.declared.scanning.Posted.{Posted}

module _ {S D : Type 0} (Contents : ℕ → List ℕ → S → ℕ → Type 0) (step : ℕ → S → ℕ → List ℕ → Option (S × List ℕ)) (shown : ShownDevice D) where
  pub ready_to_publish : (t : Seen D) (v : View) (seat : WriterSeat) (log : Logged) (callers before place : ℕ) (items : List Posted) → (c : IsAtRest shown Contents step t v) → (writer_view seat).base ≡ v.base → callers ≡ v.base.callers
      → IsScan (IsCall step (writer_view seat).base) (plan_of v) (plan seat) callers items → IsClear log → before ≡ shown.faults t.device → place ≡ c.count + length (plan seat).history → place < LAST_COUNT → IsReadyToPublish shown Contents step t seat log before place
  ready_to_publish t v seat log callers before place items c base all scan clear before_is place_is below = let q : Plan = plan seat in let b : Base = (writer_view seat).base in let st = scan_stays (plan_of v) q scan.rest in record {
    unread = (st.side ∙ c.side_is, subst (λ (z : Base × List (ℕ × ℕ)). (k : ℕ) → k < indicator_count z.0.callers → has k z.1 ≡ true) (λ j. (sym base j, sym st.clear j)) c.settled);
    order_is = c.order_is ∙ sym (ap (λ (z : Base). z.order) base);
    order_fits = c.order_fits;
    same = st.main ∙ (c.same ∙ sym st.back);
    rests = c.rests;
    committed_is = λ told. c.committed_is told ∙ sym st.main;
    held = (
      c.start,
      c.count,
      subst (λ (z : Base). Contents z.order z.image c.start c.count) (sym base) c.opening,
      subst (λ (z : Base × List ℕ × List Entry). Held Contents step z.0 c.start c.count z.1 z.2) (λ j. (sym base j, sym st.main j, sym st.history j)) c.held,
      place_is,
    );
    below = below;
    clear = clear;
    rising = subst (λ (k : ℕ). AreScanned 0 k (map caller_in q.requests)) (all ∙ sym (ap (λ (z : Base). z.callers) base)) scan.rising;
    fresh = λ j f e. (scan.fresh j f e).1;
    unmade = ap (λ (z : Plan). z.mine) scan.rest;
    before_is = before_is;
    counts = subst (λ (z : Base × List PassRecord × ℕ). faults_after z.0.faults z.1 ≤ z.2) (λ j. (sym base j, sym (ap (λ (z : Plan). z.records) scan.rest) j, sym before_is j)) c.counts;
  }

module _ {S : Type 0} (Contents : ℕ → List ℕ → S → ℕ → Type 0) (step : ℕ → S → ℕ → List ℕ → Option (S × List ℕ)) where
  -- Once the batch is published the pass has its record, so the answers leave the plan but for its requests. The plans are those behind the scan, as the publishing began, published, as the answers began, and answered.
  pub answered_plan : (b : Base) (w x m l u : Plan) (before mid : ℕ) (items : List Posted) → items ≡ map posted_of w.requests → 0 < length items → x ≡ w → IsPublished Contents step b x m before mid → l ≡ m → (is_made l.mine ≡ true → but_requests u ≡ but_requests l)
      → (is_made m.mine ≡ true) × (but_requests u ≡ but_requests m)
  answered_plan b w x m l u before mid items are some_found same pb now kept =
      let found : 0 < length x.requests = omega (arith, some_found, ap length are, length_map posted_of w.requests, ap (λ (z : Plan). length z.requests) same) in let first = at_some x.requests 0 found in
      let made : is_made m.mine ≡ true = ap is_made pb.mine ∙ made_some (map found_of x.requests) _ 0 (found_of first.0) (at_map found_of x.requests 0 first.0 first.1) in
      (made, kept (ap (λ (z : Plan). is_made z.mine) now ∙ made) ∙ ap but_requests now)
