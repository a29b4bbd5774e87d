use Rattle.rom_model.specs.Machine.{on_words, weight_on_words}
use Rattle.std.proofs.Common.{Some, rules, arith, ◌≡◌, ◌≢◌, inl, inr, ⊎_elim, Option, ℕ, ◌+◌, ◌-◌, ◌*◌, ◌^◌, ◌≤◌, List, ◌++◌, map, take, length, length-append, slice_index, sym, refl, ap, ◌∙◌, subst}
use Rattle.rom_device.specs.Device.{Runs}
use Rattle.rom_device.specs.Device.{Becomes}
use Rattle.rom_twin.specs.declared.phase.Phase.{Phase}
use Rattle.rom_twin.specs.declared.phase.Phase.TheVariants as phase
use Rattle.rom_twin.specs.Images.{HasBack}
use Rattle.rom_combine.specs.Costs.{WritesHeap, weights, weights_added, weights_found}
use Rattle.rom_combine.proofs.Weights.{added_weights, first_found, posted_args, stores_found}
use Rattle.rom_ranges.specs.Changes.{IsLogOf}
use Rattle.rom_ranges.specs.Log.{Logged}
use Rattle.rom_ranges.specs.declared.range.Range.{Range}
use Rattle.rom_ranges.specs.Ranges.{AreWithin, held_count}
use Rattle.rom_combine.specs.Images.{BeforeCommit, Counting, Committable, MayPublish}
use Rattle.rom_combine.specs.Histories.{PassMakes, batch_found}
use Rattle.rom_twin.specs.Seen.{Seen, committed}
use Rattle.rom_rule.specs.Readers.{Held}
use Rattle.rom_model.specs.declared.record.Fate.{Fate}
use Rattle.rom_combine.proofs.Before.{before_on}
use Rattle.rom_combine.proofs.Outside.{writes_then}
use Rattle.rom_combine.proofs.Spending.{held_in_region, most_within, tried_most, undone_most}
use Rattle.rom_model.specs.Blocks.{region_len}
use Rattle.rom_model.specs.History.{after, batch}
use Rattle.rom_model.specs.declared.entry.Entry.{Entry}
use Rattle.rom_model.specs.declared.record.Found.{Found}
use Rattle.rom_model.specs.Passes.{HasFault}
use Rattle.rom_model.specs.declared.record.Fate.TheVariants as fate
use Rattle.rom_rule.specs.declared.views.Base.{Base}
use Rattle.rom_rule.specs.declared.views.Plan.{Plan}
use Rattle.rom_rule.specs.declared.views.View.{View}
use Rattle.rom_rule.specs.Views.{Each, plan_of}
use Rattle.rom_rule.specs.Calls.{found_of}
use Rattle.rom_rule.specs.Records.{IsCall}
use Rattle.rom_rule.specs.Kinds.{CanSwitchToMain, IsBatch, TellsEach, making, switched}
use Rattle.rom_rule.proofs.Told.{length_map}
use Rattle.rom_combine.specs.Scanning.{posted_of, IsUnanswered}
use Rattle.rom_combine.specs.declared.scanning.Posted.{Posted}
use Rattle.rom_combine.specs.declared.answering.CallAnswer.{CallAnswer}
use Rattle.rom_combine.specs.Answering.{HasGiven}
use Rattle.rom_combine.specs.Applying.{IsApplied}
use Rattle.rom_combine.proofs.Limits.{batch_fits}
use Rattle.rom_combine.proofs.Handed.{told_all}
use Rattle.rom_combine.proofs.Publishes.{can_publish, is_left}
use Rattle.rom_combine.proofs.Bridge.{all_held, same_held, list_before, list_committed}
use Rattle.rom_combine.proofs.Refusing.{is_refused, may_know}
use Rattle.rom_combine.proofs.Ends.{doubt_not_nothing, failed_not_doubt, failed_not_nothing, published_not_doubt, published_not_failed, published_not_nothing}
use Rattle.rom_combine.proofs.Writing.{seat_by, seat_then}
use Rattle.rom_combine.proofs.committing.publish.Given.{Over}
use Rattle.rom_combine.proofs.committing.publish.Goals as goal

-- The writer's view as the device has begun, as the calls are applied, and as they are committed: the plan has changed in main alone, to what the calls make of it.
record Taken (g : Over) (u v₁ v₂ v₃ : View) (found : List Posted) (items : List CallAnswer) : Type 0 where
  pub one : plan_of v₁ ≡ plan_of u
  pub base₁ : v₁.base ≡ u.base
  pub two : plan_of v₂ ≡ record (plan_of u) { main = (plan_of v₂).main }
  pub base₂ : v₂.base ≡ u.base
  pub three : plan_of v₃ ≡ record (plan_of u) { main = (plan_of v₂).main }
  pub base₃ : v₃.base ≡ u.base
  pub start : g.O.Object.State
  pub count : ℕ
  pub opened : g.O.Object.Contents u.base.order u.base.image start count
  pub applied : IsApplied g.O.Object.Contents (on_words g.O.Object.machine) u.base start count (plan_of u) (plan_of v₂).main (length found) items
  pub long : length found ≡ length (plan_of u).requests

taken : (g : Over) (u v₁ v₂ v₃ : View) (found : List Posted) (items : List CallAnswer) → v₁ ≡ record u { plan = Some (plan_of u); steps = v₁.steps }
    → v₂ ≡ record v₁ { plan = Some (record (plan_of v₁) { main = (plan_of v₂).main }); steps = v₂.steps } → v₃ ≡ record v₂ { plan = Some (plan_of v₂); steps = v₃.steps }
    → found ≡ map posted_of (plan_of u).requests
    → (s : g.O.Object.State) × (k : ℕ) × g.O.Object.Contents v₁.base.order v₁.base.image s k × IsApplied g.O.Object.Contents (on_words g.O.Object.machine) v₁.base s k (plan_of v₁) (plan_of v₂).main (length found) items
    → Taken g u v₁ v₂ v₃ found items
taken g u v₁ v₂ v₃ found items first second third requests a =
    let m₂ : List ℕ = (plan_of v₂).main in
    let one : plan_of v₁ ≡ plan_of u = ap plan_of first in
    let two : plan_of v₂ ≡ record (plan_of u) { main = m₂ } = ap plan_of second ∙ ap (λ (z : Plan). record z { main = m₂ }) one in
    let base₁ : v₁.base ≡ u.base = ap (λ (z : View). z.base) first in
    let base₂ : v₂.base ≡ u.base = ap (λ (z : View). z.base) second ∙ base₁ in
    record {
      one = one;
      base₁ = base₁;
      two = two;
      base₂ = base₂;
      three = ap plan_of third ∙ two;
      base₃ = ap (λ (z : View). z.base) third ∙ base₂;
      start = a.0;
      count = a.1;
      opened = subst (λ (z : Base). g.O.Object.Contents z.order z.image a.0 a.1) base₁ a.2;
      applied = subst (λ (z : Base × Plan). IsApplied g.O.Object.Contents (on_words g.O.Object.machine) z.0 a.0 a.1 z.1 m₂ (length found) items) (λ j. (base₁ j, one j)) a.3;
      long = ap length requests ∙ length_map posted_of (plan_of u).requests;
    }

-- Whatever came of the commit, each image that was made is one from before, or one that a pass with this fate makes.
since_committed : (g : Over) (u : View) {v₁ v₂ v₃ : View} {found : List Posted} {items : List CallAnswer} → Taken g u v₁ v₂ v₃ found items → (f : Fate) (t t₁ t₂ : Seen g.row.D.Denot) (place : ℕ)
    → (s : g.O.Object.State) × (n : ℕ) × g.O.Object.Contents u.base.order u.base.image s n
    × Held g.O.Object.Contents (on_words g.O.Object.machine) u.base s n (plan_of u).main (plan_of u).history × (place ≡ n + length (plan_of u).history)
    → t.order ≡ u.base.order → committed g.D.Device.shown t ≡ (plan_of u).main → t₁.order ≡ t.order → committed g.D.Device.shown t₁ ≡ committed g.D.Device.shown t → (t₂.phase ≢ phase.Undo → MayPublish f)
    → Runs g.D.Device.shown (Becomes (Counting t.order (committed g.D.Device.shown t))) t.device t₁.device
    → Runs g.D.Device.shown (Becomes (Committable t₂.phase t₁.order (committed g.D.Device.shown t₁) (plan_of v₂).main)) t₁.device t₂.device
    → (s : g.O.Object.State) (n : ℕ) → g.O.Object.Contents u.base.order u.base.image s n
    → Runs g.D.Device.shown (Becomes (PassMakes g.O.Object.Contents (on_words g.O.Object.machine) u.base s n f (plan_of u).history (batch_found g.O.Object.Contents (on_words g.O.Object.machine) u.base s n (plan_of u)))) t.device t₂.device
since_committed g u {v₁} {v₂} {v₃} {found} {items} it f t t₁ t₂ place h order_is committed_is order₁ committed₁ may first second s n op =
    let b : Base = u.base in let p : Plan = plan_of u in let m₂ : List ℕ = (plan_of v₂).main in
    let here = same_held g.O.Object.Contents (on_words g.O.Object.machine) b s n h.0 h.1 p.history p.main (g.met.O.Object.one_contents b.order b.image s h.0 n h.1 op h.2) h.3 in
    let done = all_held g.O.Object.Contents (on_words g.O.Object.machine) b s n it.start it.count p m₂ (length found) items (g.met.O.Object.one_contents b.order b.image s it.start n it.count op it.opened) it.long it.applied in
    let one : Runs g.D.Device.shown (Becomes (Counting t.order p.main)) t.device t₁.device = subst (λ (z : List ℕ). Runs g.D.Device.shown (Becomes (Counting t.order z)) t.device t₁.device) committed_is first in
    let two : Runs g.D.Device.shown (Becomes (Committable t₂.phase t.order p.main m₂)) t₁.device t₂.device
    = subst (λ (q : ℕ × List ℕ). Runs g.D.Device.shown (Becomes (Committable t₂.phase q.0 q.1 m₂)) t₁.device t₂.device) (λ i. (order₁ i, (committed₁ ∙ committed_is) i)) second in
    list_committed g.O.Object.Contents (on_words g.O.Object.machine) b s n g.D.Device.shown f t₂.phase p.history (batch_found g.O.Object.Contents (on_words g.O.Object.machine) b s n p) t.order p.main m₂ t.device t₁.device t₂.device order_is may here done one two

-- how the plan stands at the three ends behind the commit, and the device's phase at two of them
took_ok : (g : Over) (c : goal.After-send_to_main g) → Taken g c.args.seat.now.token.me.0 c.begin_on.new.seat.token.me.0 c.apply_all.new.seat.token.me.0 c.commit_on.new.seat.token.me.0 c.args.found.now c.apply_all.new.answers.items
took_ok g c = taken g c.args.seat.now.token.me.0 c.begin_on.new.seat.token.me.0 c.apply_all.new.seat.token.me.0 c.commit_on.new.seat.token.me.0 c.args.found.now c.apply_all.new.answers.items c.begin_on.ensures.same.2 c.apply_all.ensures.kept.2 c.commit_on.ensures.same.2 c.requires.found c.apply_all.ensures.applied

took_doubt : (g : Over) (c : goal.After-refuse-then-eq g) → Taken g c.args.seat.now.token.me.0 c.begin_on.new.seat.token.me.0 c.apply_all.new.seat.token.me.0 c.commit_on.new.seat.token.me.0 c.args.found.now c.apply_all.new.answers.items
took_doubt g c = taken g c.args.seat.now.token.me.0 c.begin_on.new.seat.token.me.0 c.apply_all.new.seat.token.me.0 c.commit_on.new.seat.token.me.0 c.args.found.now c.apply_all.new.answers.items c.begin_on.ensures.same.2 c.apply_all.ensures.kept.2 c.commit_on.ensures.same.2 c.requires.found c.apply_all.ensures.applied

took_failed : (g : Over) (c : goal.After-refuse-2 g) → Taken g c.args.seat.now.token.me.0 c.begin_on.new.seat.token.me.0 c.apply_all.new.seat.token.me.0 c.commit_on.new.seat.token.me.0 c.args.found.now c.apply_all.new.answers.items
took_failed g c = taken g c.args.seat.now.token.me.0 c.begin_on.new.seat.token.me.0 c.apply_all.new.seat.token.me.0 c.commit_on.new.seat.token.me.0 c.args.found.now c.apply_all.new.answers.items c.begin_on.ensures.same.2 c.apply_all.ensures.kept.2 c.commit_on.ensures.same.2 c.requires.found c.apply_all.ensures.applied

in_doubt : (g : Over) (c : goal.After-refuse-then-eq g) → c.commit_on.new.twin.phase ≡ phase.Doubt
in_doubt g c = search rules

is_undone : (g : Over) (c : goal.After-refuse-2 g) → c.commit_on.new.twin.phase ≡ phase.Undo
is_undone g c = search rules

-- where the commit failed main is put back
back_plan : (g : Over) {u v₁ v₂ v₃ : View} {found : List Posted} {items : List CallAnswer} → Taken g u v₁ v₂ v₃ found items → (v : View) → v ≡ record v₃ { plan = Some (record (plan_of v₃) { main = (plan_of v₃).back }); steps = v.steps } → (plan_of u).main ≡ (plan_of u).back → plan_of v ≡ plan_of u
back_plan g {u} {v₁} {v₂} {v₃} {found} {items} it v back same = ap plan_of back ∙ ((λ j. record (it.three j) { main = (it.three j).back }) ∙ ap (λ (l : List ℕ). record (plan_of u) { main = l }) (sym same))

back_doubt : (g : Over) (c : goal.After-refuse-then-eq g) → plan_of c.copy_to.new.seat.token.me.0 ≡ plan_of c.args.seat.now.token.me.0
back_doubt g c = back_plan g (took_doubt g c) c.copy_to.new.seat.token.me.0 c.copy_to.ensures.2 c.requires.ready.same

back_failed : (g : Over) (c : goal.After-refuse-2 g) → plan_of c.copy_to.new.seat.token.me.0 ≡ plan_of c.args.seat.now.token.me.0
back_failed g c = back_plan g (took_failed g c) c.copy_to.new.seat.token.me.0 c.copy_to.ensures.2 c.requires.ready.same

pub returns-then-is_err-clause-left : goal.returns-then-is_err-clause-left
returns-then-is_err-clause-left g c = let u : View = c.args.seat.now.token.me.0 in let b : Base = u.base in let p : Plan = plan_of u in let h = c.requires.ready.held in
    let v₁ : View = c.begin_on.new.seat.token.me.0 in let one : plan_of v₁ ≡ p = ap plan_of c.begin_on.ensures.same.2 in let base₁ : v₁.base ≡ b = ap (λ (z : View). z.base) c.begin_on.ensures.same.2 in
    let now : ℕ = g.D.Device.shown.faults c.begin_on.new.twin.device in let rose : HasFault fate.Failed c.args.before now = search rules in
    subst (λ (z : Plan). HasGiven g.O.Object.Contents (on_words g.O.Object.machine) b fate.Failed c.args.before now z 0 c.refuse.new.answers.items) (sym one)
    (is_refused g.O.Object.Contents (on_words g.O.Object.machine) b (2 ^ 62 + 1) fate.Failed p c.args.before now c.args.found.now c.refuse.new.answers.items refl refl
    (may_know g.O.Object.Contents (on_words g.O.Object.machine) b fate.Failed p c.args.before now h.0 h.1 (λ (e : fate.Failed ≡ fate.Published). cc) c.requires.ready.unmade c.requires.ready.fresh c.requires.ready.counts (omega (arith, c.requires.ready.before_is, c.begin_on.ensures.device.later)) rose h.2)
    c.requires.ready.rising c.requires.ready.fresh c.requires.found c.refuse.ensures)

pub returns-then-is_err-clause-stops : goal.returns-then-is_err-clause-stops
returns-then-is_err-clause-stops g c = record {
  images = λ told. c.begin_on.ensures.kept.images told;
  since = λ told s n op. let u : View = c.args.seat.now.token.me.0 in let b : Base = u.base in let p : Plan = plan_of u in let h = c.requires.ready.held in
      let v₁ : View = c.begin_on.new.seat.token.me.0 in let one : plan_of v₁ ≡ p = ap plan_of c.begin_on.ensures.same.2 in let base₁ : v₁.base ≡ b = ap (λ (z : View). z.base) c.begin_on.ensures.same.2 in
      let o : ℕ = c.args.twin.now.order in let x = c.args.twin.now.device in let y = c.begin_on.new.twin.device in let same = g.met.O.Object.one_contents b.order b.image s h.0 n h.1 op h.2 in
      let here = same_held g.O.Object.Contents (on_words g.O.Object.machine) b s n h.0 h.1 p.history p.main same h.3 in
      let first : Runs g.D.Device.shown (Becomes (Counting o p.main)) x y = subst (λ (z : List ℕ). Runs g.D.Device.shown (Becomes (Counting o z)) x y) (c.requires.ready.committed_is told) (c.begin_on.ensures.since told) in
      list_before g.O.Object.Contents (on_words g.O.Object.machine) b s n g.D.Device.shown fate.Failed p.history (batch_found g.O.Object.Contents (on_words g.O.Object.machine) b s n p) o p.main x y c.requires.ready.order_is here first;
  doubted = λ told e. absurd (failed_not_doubt e);
}

pub apply_all-requires-clause-fresh : goal.apply_all-requires-clause-fresh
apply_all-requires-clause-fresh g c = let u : View = c.args.seat.now.token.me.0 in let b : Base = u.base in let p : Plan = plan_of u in let h = c.requires.ready.held in
    let v₁ : View = c.begin_on.new.seat.token.me.0 in let one : plan_of v₁ ≡ p = ap plan_of c.begin_on.ensures.same.2 in let base₁ : v₁.base ≡ b = ap (λ (z : View). z.base) c.begin_on.ensures.same.2 in
    subst (λ (z : Base × Plan). Each (λ _ f. IsUnanswered (IsCall (on_words g.O.Object.machine) z.0) f) z.1.requests) (λ j. (sym base₁ j, sym one j)) c.requires.ready.fresh

pub send_to_main-requires-clause-can : goal.send_to_main-requires-clause-can
send_to_main-requires-clause-can g c = let u : View = c.args.seat.now.token.me.0 in let b : Base = u.base in let p : Plan = plan_of u in let h = c.requires.ready.held in
    let m₂ : List ℕ = (plan_of c.apply_all.new.seat.token.me.0).main in
    let it = taken g u c.begin_on.new.seat.token.me.0 c.apply_all.new.seat.token.me.0 c.commit_on.new.seat.token.me.0 c.args.found.now c.apply_all.new.answers.items c.begin_on.ensures.same.2 c.apply_all.ensures.kept.2 c.commit_on.ensures.same.2 c.requires.found c.apply_all.ensures.applied in
    let now : ℕ = g.D.Device.shown.faults c.commit_on.new.twin.device in
    subst (λ (z : Base × Plan × ℕ). CanSwitchToMain g.O.Object.Contents (on_words g.O.Object.machine) z.0 z.1 c.args.before z.2) (λ j. (sym it.base₃ j, sym it.three j, sym c.fault_count-now.ensures j))
    (can_publish g.O.Object.Contents (on_words g.O.Object.machine) b it.start it.count p m₂ (length c.args.found.now) c.args.before now c.apply_all.new.answers.items it.long it.opened c.requires.ready.unmade c.requires.ready.fresh c.requires.ready.counts (omega (arith, c.requires.ready.before_is, c.begin_on.ensures.device.later, c.commit_on.ensures.device.later)) it.applied)

pub returns-then-is_ok-clause-left : goal.returns-then-is_ok-clause-left
returns-then-is_ok-clause-left g c = let u : View = c.args.seat.now.token.me.0 in let b : Base = u.base in let p : Plan = plan_of u in let h = c.requires.ready.held in
    let m₂ : List ℕ = (plan_of c.apply_all.new.seat.token.me.0).main in
    let it = took_ok g c in
    let now : ℕ = g.D.Device.shown.faults c.commit_on.new.twin.device in let moment : ℕ = g.D.Device.shown.clock c.commit_on.new.twin.device in let now_is : c.fault_count-now.result ≡ now = c.fault_count-now.ensures in let sw = c.send_to_main.ensures.switched in let v₄ : View = c.send_to_main.new.seat.token.me.0 in
    let same = g.met.O.Object.one_contents b.order b.image h.0 it.start h.1 it.count h.2 it.opened in let counts = same.1 in let place = h.4 in let below = c.requires.ready.below in
    let four : plan_of v₄ ≡ switched 0 (making fate.Published c.args.before now moment sw.0 sw.1 (record p { main = m₂ })) = ap plan_of sw.4.2 ∙ (λ j. switched 0 (making fate.Published c.args.before (now_is j) moment sw.0 sw.1 (it.three j))) in
    subst (λ (z : Plan). HasGiven g.O.Object.Contents (on_words g.O.Object.machine) b fate.Published c.args.before now z 0 c.apply_all.new.answers.items) (sym four)
    (is_left g.O.Object.Contents (on_words g.O.Object.machine) b it.start it.count p m₂ (length c.args.found.now) c.args.before now moment sw.0 sw.1 c.apply_all.new.answers.items it.long it.opened c.requires.ready.rising c.requires.ready.fresh it.applied
    (batch_fits (on_words g.O.Object.machine) b.order (after (on_words g.O.Object.machine) b.order it.start it.count p.history) (it.count + length p.history) (take (length c.args.found.now) (map found_of p.requests)) (omega (arith, counts, place, below)))
    (subst (λ (z : Base × Plan). IsBatch g.O.Object.Contents (on_words g.O.Object.machine) z.0 z.1 sw.0 sw.1) (λ j. (it.base₃ j, it.three j)) sw.2) (subst (TellsEach fate.Published sw.0 sw.1) it.three sw.3))

pub returns-then-is_ok-clause-stops : goal.returns-then-is_ok-clause-stops
returns-then-is_ok-clause-stops g c = record {
  images = λ told. c.commit_on.ensures.kept.images told;
  since = λ told s n op. let u : View = c.args.seat.now.token.me.0 in
      since_committed g u (took_ok g c)
      fate.Published c.args.twin.now c.begin_on.new.twin c.commit_on.new.twin c.args.place c.requires.ready.held c.requires.ready.order_is (c.requires.ready.committed_is told)
      c.begin_on.ensures.kept.order (c.begin_on.ensures.kept.committed_is told) (λ _. tt) (c.begin_on.ensures.since told) (c.commit_on.ensures.since told) s n op;
  doubted = λ told e. absurd (published_not_doubt e);
}

pub returns-then-eq-clause-left : goal.returns-then-eq-clause-left
returns-then-eq-clause-left g c = let u : View = c.args.seat.now.token.me.0 in let b : Base = u.base in let p : Plan = plan_of u in let h = c.requires.ready.held in
    let m₂ : List ℕ = (plan_of c.apply_all.new.seat.token.me.0).main in
    let it = took_doubt g c in
    let now : ℕ = g.D.Device.shown.faults c.commit_on.new.twin.device in let doubt : c.commit_on.new.twin.phase ≡ phase.Doubt = in_doubt g c in let cause = c.commit_on.ensures.doubt doubt in
    let rose : HasFault fate.Doubt c.args.before now = omega (arith, c.requires.ready.before_is, c.begin_on.ensures.device.later, cause.later, cause.failed.once) in let five = back_doubt g c in
    subst (λ (z : Plan). HasGiven g.O.Object.Contents (on_words g.O.Object.machine) b fate.Doubt c.args.before now z 0 c.refuse-then-eq.new.answers.items) (sym five)
    (is_refused g.O.Object.Contents (on_words g.O.Object.machine) b (2 ^ 62 + 2) fate.Doubt p c.args.before now c.args.found.now c.refuse-then-eq.new.answers.items refl refl
    (may_know g.O.Object.Contents (on_words g.O.Object.machine) b fate.Doubt p c.args.before now h.0 h.1 (λ (e : fate.Doubt ≡ fate.Published). cc) c.requires.ready.unmade c.requires.ready.fresh c.requires.ready.counts (omega (arith, c.requires.ready.before_is, c.begin_on.ensures.device.later, c.commit_on.ensures.device.later)) rose h.2)
    c.requires.ready.rising c.requires.ready.fresh c.requires.found c.refuse-then-eq.ensures)

pub returns-then-eq-clause-stops : goal.returns-then-eq-clause-stops
returns-then-eq-clause-stops g c = record {
  images = λ told. c.commit_on.ensures.kept.images told;
  since = λ told s n op. let u : View = c.args.seat.now.token.me.0 in
      since_committed g u (took_doubt g c)
      fate.Doubt c.args.twin.now c.begin_on.new.twin c.commit_on.new.twin c.args.place c.requires.ready.held c.requires.ready.order_is (c.requires.ready.committed_is told)
      c.begin_on.ensures.kept.order (c.begin_on.ensures.kept.committed_is told) (λ _. tt) (c.begin_on.ensures.since told) (c.commit_on.ensures.since told) s n op;
  doubted = λ told is_doubt s n op i left. let u : View = c.args.seat.now.token.me.0 in let b : Base = u.base in let p : Plan = plan_of u in let h = c.requires.ready.held in
      let m₂ : List ℕ = (plan_of c.apply_all.new.seat.token.me.0).main in
      let it = took_doubt g c in
      let o : ℕ = c.args.twin.now.order in let x = c.args.twin.now.device in let y = c.begin_on.new.twin.device in let same = g.met.O.Object.one_contents b.order b.image s h.0 n h.1 op h.2 in
      let here = same_held g.O.Object.Contents (on_words g.O.Object.machine) b s n h.0 h.1 p.history p.main same h.3 in
      let first : Runs g.D.Device.shown (Becomes (Counting o p.main)) x y = subst (λ (z : List ℕ). Runs g.D.Device.shown (Becomes (Counting o z)) x y) (c.requires.ready.committed_is told) (c.begin_on.ensures.since told) in
      let z = c.commit_on.new.twin.device in let ph : Phase = c.commit_on.new.twin.phase in
      let done = all_held g.O.Object.Contents (on_words g.O.Object.machine) b s n it.start it.count p m₂ (length c.args.found.now) c.apply_all.new.answers.items (g.met.O.Object.one_contents b.order b.image s it.start n it.count op it.opened) it.long it.applied in
      let second : Runs g.D.Device.shown (Becomes (Committable ph o p.main m₂)) y z = subst (λ (q : ℕ × List ℕ). Runs g.D.Device.shown (Becomes (Committable ph q.0 q.1 m₂)) y z) (λ i. (c.begin_on.ensures.kept.order i, (c.begin_on.ensures.kept.committed_is told ∙ c.requires.ready.committed_is told) i)) (c.commit_on.ensures.since told) in
      let now = subst (λ (q : ℕ × List ℕ). Committable ph q.0 q.1 m₂ i) (λ j. ((c.begin_on.ensures.kept.order ∙ c.requires.ready.order_is) j, (c.begin_on.ensures.kept.committed_is told ∙ c.requires.ready.committed_is told) j)) (c.commit_on.ensures.now told i left) in
      ⊎_elim (λ counts. inl (record { region = p.main; current = counts; contents = here })) (λ both. inr (tt, record { region = m₂; current = both.1; contents = done })) now;
}

pub returns-clause-left : goal.returns-clause-left
returns-clause-left g c = let u : View = c.args.seat.now.token.me.0 in let b : Base = u.base in let p : Plan = plan_of u in let h = c.requires.ready.held in
    let m₂ : List ℕ = (plan_of c.apply_all.new.seat.token.me.0).main in
    let it = took_failed g c in
    let now : ℕ = g.D.Device.shown.faults c.commit_on.new.twin.device in let undo : c.commit_on.new.twin.phase ≡ phase.Undo = is_undone g c in let cause = (c.commit_on.ensures.undo undo).1 in
    let rose : HasFault fate.Failed c.args.before now = omega (arith, c.requires.ready.before_is, c.begin_on.ensures.device.later, cause.rose) in let five = back_failed g c in
    subst (λ (z : Plan). HasGiven g.O.Object.Contents (on_words g.O.Object.machine) b fate.Failed c.args.before now z 0 c.refuse-2.new.answers.items) (sym five)
    (is_refused g.O.Object.Contents (on_words g.O.Object.machine) b (2 ^ 62 + 1) fate.Failed p c.args.before now c.args.found.now c.refuse-2.new.answers.items refl refl
    (may_know g.O.Object.Contents (on_words g.O.Object.machine) b fate.Failed p c.args.before now h.0 h.1 (λ (e : fate.Failed ≡ fate.Published). cc) c.requires.ready.unmade c.requires.ready.fresh c.requires.ready.counts (omega (arith, c.requires.ready.before_is, c.begin_on.ensures.device.later, c.commit_on.ensures.device.later)) rose h.2)
    c.requires.ready.rising c.requires.ready.fresh c.requires.found c.refuse-2.ensures)

pub returns-clause-stops : goal.returns-clause-stops
returns-clause-stops g c = record {
  images = λ told. c.commit_on.ensures.kept.images told;
  since = λ told s n op. let u : View = c.args.seat.now.token.me.0 in
      let undo : c.commit_on.new.twin.phase ≡ phase.Undo = is_undone g c in
      since_committed g u (took_failed g c)
      fate.Failed c.args.twin.now c.begin_on.new.twin c.commit_on.new.twin c.args.place c.requires.ready.held c.requires.ready.order_is (c.requires.ready.committed_is told)
      c.begin_on.ensures.kept.order (c.begin_on.ensures.kept.committed_is told) (λ other. absurd (other undo)) (c.begin_on.ensures.since told) (c.commit_on.ensures.since told) s n op;
  doubted = λ told e. absurd (failed_not_doubt e);
}

pub returns-then-is_err-clause-calls : goal.returns-then-is_err-clause-calls
returns-then-is_err-clause-calls g c = let u : View = c.args.seat.now.token.me.0 in let p : Plan = plan_of u in let v₁ : View = c.begin_on.new.seat.token.me.0 in let one : plan_of v₁ ≡ p = ap plan_of c.begin_on.ensures.same.2 in
    (ap (λ (z : Plan). z.scanned) one, ap (λ (z : Plan). map found_of z.requests) one)

pub returns-then-is_ok-clause-calls : goal.returns-then-is_ok-clause-calls
returns-then-is_ok-clause-calls g c = let u : View = c.args.seat.now.token.me.0 in let p : Plan = plan_of u in let v₁ : View = c.begin_on.new.seat.token.me.0 in let one : plan_of v₁ ≡ p = ap plan_of c.begin_on.ensures.same.2 in
    let v₂ : View = c.apply_all.new.seat.token.me.0 in let m₂ : List ℕ = (plan_of v₂).main in let kept = c.apply_all.ensures.kept in let v₃ : View = c.commit_on.new.seat.token.me.0 in
    let two : plan_of v₂ ≡ record p { main = m₂ } = ap plan_of kept.2 ∙ ap (λ (z : Plan). record z { main = m₂ }) one in let three : plan_of v₃ ≡ record p { main = m₂ } = ap plan_of c.commit_on.ensures.same.2 ∙ two in
    let now : ℕ = g.D.Device.shown.faults c.commit_on.new.twin.device in let moment : ℕ = g.D.Device.shown.clock c.commit_on.new.twin.device in let now_is : c.fault_count-now.result ≡ now = c.fault_count-now.ensures in let sw = c.send_to_main.ensures.switched in let v₄ : View = c.send_to_main.new.seat.token.me.0 in
    let four : plan_of v₄ ≡ switched 0 (making fate.Published c.args.before now moment sw.0 sw.1 (record p { main = m₂ })) = ap plan_of sw.4.2 ∙ (λ j. switched 0 (making fate.Published c.args.before (now_is j) moment sw.0 sw.1 (three j))) in
    (ap (λ (z : Plan). z.scanned) four, ap (λ (z : Plan). map found_of z.requests) four)

-- and at it
pub returns-then-eq-clause-doubt : goal.returns-then-eq-clause-doubt
returns-then-eq-clause-doubt g c is = record {
  phase = in_doubt g c;
  cause = let shown = g.D.Device.shown in let t = c.args.twin.now in let n : ℕ = t.order in let w : List ℕ = (plan_of c.args.seat.now.token.me.0).main in
      let b = c.begin_on.new.twin.device in
      let doubt : c.commit_on.new.twin.phase ≡ phase.Doubt = in_doubt g c in let cause = c.commit_on.ensures.doubt doubt in
      record {
        at = cause.at;
        later = omega (arith, cause.later, c.begin_on.ensures.device.later);
        before = λ told. before_on shown t.phase n w t.device b cause.at
            (subst (λ (z : List ℕ). Runs shown (Becomes (BeforeCommit t.phase n z)) t.device b) (c.requires.ready.committed_is told) (c.begin_on.ensures.before told))
            (subst (λ (z : ℕ × List ℕ). Runs shown (Becomes (HasBack z.0 z.1)) b cause.at) (λ j. (c.begin_on.ensures.kept.order j, (c.begin_on.ensures.kept.committed_is told ∙ c.requires.ready.committed_is told) j)) (cause.before told));
        mutating = λ told i left. subst (λ (z : ℕ × List ℕ). HasBack z.0 z.1 i) (λ j. (c.begin_on.ensures.kept.order j, (c.begin_on.ensures.kept.committed_is told ∙ c.requires.ready.committed_is told) j)) (cause.mutating told i left);
        does = cause.does;
        failed = cause.failed;
        written = cause.written;
        synced = cause.synced;
      };
}

pub returns-then-is_ok-clause-device : goal.returns-then-is_ok-clause-device
returns-then-is_ok-clause-device g c =
    let shown = g.D.Device.shown in let a = c.args.twin.now in let b = c.begin_on.new.twin in let d = c.commit_on.new.twin in
    writes_then shown a.order a.device b.device d.device c.begin_on.ensures.device (subst (λ (n : ℕ). WritesHeap shown n b.device d.device) c.begin_on.ensures.kept.order c.commit_on.ensures.device)

pub returns-then-eq-clause-device : goal.returns-then-eq-clause-device
returns-then-eq-clause-device g c =
    let shown = g.D.Device.shown in let a = c.args.twin.now in let b = c.begin_on.new.twin in let d = c.commit_on.new.twin in
    writes_then shown a.order a.device b.device d.device c.begin_on.ensures.device (subst (λ (n : ℕ). WritesHeap shown n b.device d.device) c.begin_on.ensures.kept.order c.commit_on.ensures.device)

pub returns-clause-device : goal.returns-clause-device
returns-clause-device g c =
    let shown = g.D.Device.shown in let a = c.args.twin.now in let b = c.begin_on.new.twin in let d = c.commit_on.new.twin in
    writes_then shown a.order a.device b.device d.device c.begin_on.ensures.device (subst (λ (n : ℕ). WritesHeap shown n b.device d.device) c.begin_on.ensures.kept.order c.commit_on.ensures.device)

-- the log holds no more offsets than a region has words
held_whole : (g : Over) (u v w : View) (order : ℕ) (log : Logged) → v.base ≡ u.base → order ≡ u.base.order → (s : g.O.Object.State) (k : ℕ) → g.O.Object.Contents v.base.order (plan_of w).main s k
    → IsLogOf (plan_of v).back (plan_of w).main log → ((len : ℕ) → AreWithin len log.ranges → held_count log.ranges ≤ len) → held_count log.ranges ≤ region_len order
held_whole g u v w order log base same s k contents logged few =
    let long : length (plan_of w).main ≡ region_len order = (g.met.O.Object.contents_within v.base.order (plan_of w).main s k contents).0 ∙ ap region_len (ap (λ (z : Base). z.order) base ∙ sym same) in
    held_in_region (plan_of v).back (plan_of w).main log (region_len order) long logged few

-- the log holds no more offsets than the calls that were found may store words
held_most : (g : Over) (p : Plan) (found : List Posted) (log : Logged) → found ≡ map posted_of p.requests → log.added ≤ g.O.Object.STORES * weights (weight_on_words g.O.Object.machine) (map (λ (one : Posted). one.args) found) → held_count log.ranges ≤ log.added → held_count log.ranges ≤ g.O.Object.STORES * weights_found (weight_on_words g.O.Object.machine) p
held_most g p found log is most few = let added = stores_found (weight_on_words g.O.Object.machine) g.O.Object.STORES log.added p found is most in omega (arith, added, few)

pub returns-then-is_ok-clause-published : goal.returns-then-is_ok-clause-published
returns-then-is_ok-clause-published g c is =
    let u : View = c.args.seat.now.token.me.0 in let b : Base = u.base in let p : Plan = plan_of u in let h = c.requires.ready.held in
    let step : ℕ → g.O.Object.State → ℕ → List ℕ → Option (g.O.Object.State × List ℕ) = on_words g.O.Object.machine in let weight : List ℕ → ℕ = weight_on_words g.O.Object.machine in
    let m₂ : List ℕ = (plan_of c.apply_all.new.seat.token.me.0).main in let calls : List (List ℕ) = map (λ (one : Posted). one.args) c.args.found.now in
    let it = took_ok g c in
    let sw = c.send_to_main.ensures.switched in let v₄ : View = c.send_to_main.new.seat.token.me.0 in
    let moment : ℕ = g.D.Device.shown.clock c.commit_on.new.twin.device in let now_is : c.fault_count-now.result ≡ g.D.Device.shown.faults c.commit_on.new.twin.device = c.fault_count-now.ensures in
    let plan_is : plan_of v₄ ≡ switched 0 (making fate.Published c.args.before (g.D.Device.shown.faults c.commit_on.new.twin.device) moment sw.0 sw.1 (record p { main = m₂ }))
    = ap plan_of sw.4.2 ∙ (λ j. switched 0 (making fate.Published c.args.before (now_is j) moment sw.0 sw.1 (it.three j))) in
    let four : (plan_of v₄).history ≡ p.history ++ sw.1 = ap (λ (z : Plan). z.history) plan_is in
    let one = g.met.O.Object.one_contents b.order b.image h.0 it.start h.1 it.count h.2 it.opened in let counts = one.1 in let place = h.4 in
    let batch_is : IsBatch g.O.Object.Contents step b p sw.0 sw.1 = subst (λ (z : Base × Plan). IsBatch g.O.Object.Contents step z.0 z.1 sw.0 sw.1) (λ j. (it.base₃ j, it.three j)) sw.2 in
    let batched = batch_is it.start it.count it.opened in
    let done = all_held g.O.Object.Contents step b it.start it.count it.start it.count p m₂ (length c.args.found.now) c.apply_all.new.answers.items (refl, refl) it.long it.applied in
    let count : slice_index m₂ 2 ≡ it.count + length (p.history ++ batch_found g.O.Object.Contents step b it.start it.count p) = (g.met.O.Object.contents_within b.order m₂ _ _ done).1 in
    let now : batch_found g.O.Object.Contents step b it.start it.count p ≡ sw.1 = sym (batched.1 ∙ ap (λ (k : ℕ). batch step b.order (after step b.order it.start it.count p.history) k (map found_of p.requests)) batched.0) in
    let grown : slice_index m₂ 2 - c.args.place ≡ length sw.1 = omega (arith, count, length-append p.history (batch_found g.O.Object.Contents step b it.start it.count p), ap length now, counts, place) in
    let args : map (λ (f : Found). f.args) (map found_of p.requests) ≡ calls = posted_args weight p c.args.found.now c.requires.found in
    let same : map (λ (e : Entry). e.args) sw.1 ≡ take (length sw.1) calls
    = ap (map (λ (e : Entry). e.args)) batched.1 ∙ (first_found step b.order (after step b.order it.start it.count p.history) sw.0 (map found_of p.requests) ∙ (λ j. take (length (sym batched.1 j)) (args j))) in
    let sum : weights_added weight p.history (plan_of v₄).history ≡ weights weight (take (slice_index m₂ 2 - c.args.place) calls)
    = added_weights weight p.history sw.1 (plan_of v₄).history calls four same ∙ ap (λ (n : ℕ). weights weight (take n calls)) (sym grown) in
    let held : held_count c.apply_all.new.log.ranges ≤ c.apply_all.new.log.added = c.apply_all.ensures.logged.few in
    let main_is : (plan_of v₄).main ≡ m₂ = ap (λ (z : Plan). z.main) plan_is in
    let history_is : (plan_of v₄).history ≡ p.history ++ batch_found g.O.Object.Contents step b it.start it.count p = four ∙ ap (λ (l : List Entry). p.history ++ l) (sym now) in
    record {
      phase = search rules;
      main = λ told. search rules;
      back = λ told. search rules;
      published = record {
        front = sw.0;
        more = sw.1;
        moment = moment;
        batch = batch_is;
        history = four;
        records = ap (λ (z : Plan). z.records) plan_is;
        mine = ap (λ (z : Plan). z.mine) plan_is;
        told = ap (λ (z : Plan). z.told) plan_is;
        side = ap (λ (z : Plan). z.side) plan_is;
        passes = ap (λ (z : Plan). z.passes) plan_is;
        dealt = ap (λ (z : Plan). z.dealt) plan_is;
      };
      dated = refl;
      held = (it.start, it.count, it.opened, subst (λ (z : List ℕ × List Entry). Held g.O.Object.Contents step b it.start it.count z.0 z.1) (λ j. (sym main_is j, sym history_is j)) done);
      logged = search rules;
      few = subst (λ (n : ℕ). held_count c.apply_all.new.log.ranges ≤ g.O.Object.STORES * n) (sym sum) (omega (arith, held, c.apply_all.ensures.few));
      held_most = held_most g (plan_of c.args.seat.now.token.me.0) c.args.found.now c.apply_all.new.log c.requires.found c.apply_all.ensures.most c.apply_all.ensures.logged.few;
      within = held_whole g c.args.seat.now.token.me.0 c.begin_on.new.seat.token.me.0 c.apply_all.new.seat.token.me.0 c.args.twin.now.order c.apply_all.new.log (ap (λ (z : View). z.base) c.begin_on.ensures.same.2) c.requires.ready.order_is _ _ c.apply_all.ensures.applied.3.held c.apply_all.ensures.logged c.list.ensures.few;
      spends = search rules;
    }

pub returns-then-is_ok-clause-whole : goal.returns-then-is_ok-clause-whole
returns-then-is_ok-clause-whole g c =
    let held : held_count c.list.result.now ≤ region_len c.args.twin.now.order = subst (λ (rs : List Range). held_count rs ≤ (region_len c.args.twin.now.order)) (sym c.list.ensures.ranges) (held_whole g c.args.seat.now.token.me.0 c.begin_on.new.seat.token.me.0 c.apply_all.new.seat.token.me.0 c.args.twin.now.order c.apply_all.new.log (ap (λ (z : View). z.base) c.begin_on.ensures.same.2) c.requires.ready.order_is _ _ c.apply_all.ensures.applied.3.held c.apply_all.ensures.logged c.list.ensures.few) in
    tried_most g.D.Device.shown c.args.twin.now.phase c.args.twin.now.order (region_len c.args.twin.now.order) (held_count c.list.result.now) c.args.twin.now.device c.begin_on.new.twin.device c.commit_on.new.twin.device c.commit_on.result c.begin_on.ensures.most c.commit_on.ensures.makes held

pub returns-then-is_ok-clause-most : goal.returns-then-is_ok-clause-most
returns-then-is_ok-clause-most g c =
    let held : held_count c.list.result.now ≤ g.O.Object.STORES * weights_found (weight_on_words g.O.Object.machine) (plan_of c.args.seat.now.token.me.0) = subst (λ (rs : List Range). held_count rs ≤ (g.O.Object.STORES * weights_found (weight_on_words g.O.Object.machine) (plan_of c.args.seat.now.token.me.0))) (sym c.list.ensures.ranges) (held_most g (plan_of c.args.seat.now.token.me.0) c.args.found.now c.apply_all.new.log c.requires.found c.apply_all.ensures.most c.apply_all.ensures.logged.few) in
    tried_most g.D.Device.shown c.args.twin.now.phase c.args.twin.now.order (g.O.Object.STORES * weights_found (weight_on_words g.O.Object.machine) (plan_of c.args.seat.now.token.me.0)) (held_count c.list.result.now) c.args.twin.now.device c.begin_on.new.twin.device c.commit_on.new.twin.device c.commit_on.result c.begin_on.ensures.most c.commit_on.ensures.makes held

pub returns-then-eq-clause-whole : goal.returns-then-eq-clause-whole
returns-then-eq-clause-whole g c =
    let held : held_count c.list.result.now ≤ region_len c.args.twin.now.order = subst (λ (rs : List Range). held_count rs ≤ (region_len c.args.twin.now.order)) (sym c.list.ensures.ranges) (held_whole g c.args.seat.now.token.me.0 c.begin_on.new.seat.token.me.0 c.apply_all.new.seat.token.me.0 c.args.twin.now.order c.apply_all.new.log (ap (λ (z : View). z.base) c.begin_on.ensures.same.2) c.requires.ready.order_is _ _ c.apply_all.ensures.applied.3.held c.apply_all.ensures.logged c.list.ensures.few) in
    tried_most g.D.Device.shown c.args.twin.now.phase c.args.twin.now.order (region_len c.args.twin.now.order) (held_count c.list.result.now) c.args.twin.now.device c.begin_on.new.twin.device c.commit_on.new.twin.device c.commit_on.result c.begin_on.ensures.most c.commit_on.ensures.makes held

pub returns-then-eq-clause-most : goal.returns-then-eq-clause-most
returns-then-eq-clause-most g c =
    let held : held_count c.list.result.now ≤ g.O.Object.STORES * weights_found (weight_on_words g.O.Object.machine) (plan_of c.args.seat.now.token.me.0) = subst (λ (rs : List Range). held_count rs ≤ (g.O.Object.STORES * weights_found (weight_on_words g.O.Object.machine) (plan_of c.args.seat.now.token.me.0))) (sym c.list.ensures.ranges) (held_most g (plan_of c.args.seat.now.token.me.0) c.args.found.now c.apply_all.new.log c.requires.found c.apply_all.ensures.most c.apply_all.ensures.logged.few) in
    tried_most g.D.Device.shown c.args.twin.now.phase c.args.twin.now.order (g.O.Object.STORES * weights_found (weight_on_words g.O.Object.machine) (plan_of c.args.seat.now.token.me.0)) (held_count c.list.result.now) c.args.twin.now.device c.begin_on.new.twin.device c.commit_on.new.twin.device c.commit_on.result c.begin_on.ensures.most c.commit_on.ensures.makes held

pub returns-clause-whole : goal.returns-clause-whole
returns-clause-whole g c =
    let held : held_count c.list.result.now ≤ region_len c.args.twin.now.order = subst (λ (rs : List Range). held_count rs ≤ (region_len c.args.twin.now.order)) (sym c.list.ensures.ranges) (held_whole g c.args.seat.now.token.me.0 c.begin_on.new.seat.token.me.0 c.apply_all.new.seat.token.me.0 c.args.twin.now.order c.apply_all.new.log (ap (λ (z : View). z.base) c.begin_on.ensures.same.2) c.requires.ready.order_is _ _ c.apply_all.ensures.applied.3.held c.apply_all.ensures.logged c.list.ensures.few) in
    tried_most g.D.Device.shown c.args.twin.now.phase c.args.twin.now.order (region_len c.args.twin.now.order) (held_count c.list.result.now) c.args.twin.now.device c.begin_on.new.twin.device c.commit_on.new.twin.device c.commit_on.result c.begin_on.ensures.most c.commit_on.ensures.makes held

pub returns-clause-failed : goal.returns-clause-failed
returns-clause-failed g c is = record {
  phase = inl (is_undone g c);
  cause = let shown = g.D.Device.shown in let t = c.args.twin.now in let n : ℕ = t.order in let w : List ℕ = (plan_of c.args.seat.now.token.me.0).main in
      let b = c.begin_on.new.twin.device in let d = c.commit_on.new.twin.device in
      let undo : c.commit_on.new.twin.phase ≡ phase.Undo = is_undone g c in let cause = (c.commit_on.ensures.undo undo).1 in
      record {
        rose = omega (arith, cause.rose, c.begin_on.ensures.device.later);
        last = cause.last;
        images = λ told. before_on shown t.phase n w t.device b d
            (subst (λ (z : List ℕ). Runs shown (Becomes (BeforeCommit t.phase n z)) t.device b) (c.requires.ready.committed_is told) (c.begin_on.ensures.before told))
            (subst (λ (z : ℕ × List ℕ). Runs shown (Becomes (HasBack z.0 z.1)) b d) (λ j. (c.begin_on.ensures.kept.order j, (c.begin_on.ensures.kept.committed_is told ∙ c.requires.ready.committed_is told) j)) (cause.images told));
      };
  most = let held : held_count c.list.result.now ≤ g.O.Object.STORES * weights_found (weight_on_words g.O.Object.machine) (plan_of c.args.seat.now.token.me.0) = subst (λ (rs : List Range). held_count rs ≤ (g.O.Object.STORES * weights_found (weight_on_words g.O.Object.machine) (plan_of c.args.seat.now.token.me.0))) (sym c.list.ensures.ranges) (held_most g (plan_of c.args.seat.now.token.me.0) c.args.found.now c.apply_all.new.log c.requires.found c.apply_all.ensures.most c.apply_all.ensures.logged.few) in
      undone_most g.D.Device.shown c.args.twin.now.phase c.args.twin.now.order (g.O.Object.STORES * weights_found (weight_on_words g.O.Object.machine) (plan_of c.args.seat.now.token.me.0)) (held_count c.list.result.now) c.args.twin.now.device c.begin_on.new.twin.device c.commit_on.new.twin.device c.begin_on.ensures.most (c.commit_on.ensures.undo (is_undone g c)).0 held;
  whole = let held : held_count c.list.result.now ≤ region_len c.args.twin.now.order = subst (λ (rs : List Range). held_count rs ≤ (region_len c.args.twin.now.order)) (sym c.list.ensures.ranges) (held_whole g c.args.seat.now.token.me.0 c.begin_on.new.seat.token.me.0 c.apply_all.new.seat.token.me.0 c.args.twin.now.order c.apply_all.new.log (ap (λ (z : View). z.base) c.begin_on.ensures.same.2) c.requires.ready.order_is _ _ c.apply_all.ensures.applied.3.held c.apply_all.ensures.logged c.list.ensures.few) in
      undone_most g.D.Device.shown c.args.twin.now.phase c.args.twin.now.order (region_len c.args.twin.now.order) (held_count c.list.result.now) c.args.twin.now.device c.begin_on.new.twin.device c.commit_on.new.twin.device c.begin_on.ensures.most (c.commit_on.ensures.undo (is_undone g c)).0 held;
}

pub returns-clause-most : goal.returns-clause-most
returns-clause-most g c =
    let held : held_count c.list.result.now ≤ g.O.Object.STORES * weights_found (weight_on_words g.O.Object.machine) (plan_of c.args.seat.now.token.me.0) = subst (λ (rs : List Range). held_count rs ≤ (g.O.Object.STORES * weights_found (weight_on_words g.O.Object.machine) (plan_of c.args.seat.now.token.me.0))) (sym c.list.ensures.ranges) (held_most g (plan_of c.args.seat.now.token.me.0) c.args.found.now c.apply_all.new.log c.requires.found c.apply_all.ensures.most c.apply_all.ensures.logged.few) in
    tried_most g.D.Device.shown c.args.twin.now.phase c.args.twin.now.order (g.O.Object.STORES * weights_found (weight_on_words g.O.Object.machine) (plan_of c.args.seat.now.token.me.0)) (held_count c.list.result.now) c.args.twin.now.device c.begin_on.new.twin.device c.commit_on.new.twin.device c.commit_on.result c.begin_on.ensures.most c.commit_on.ensures.makes held

pub returns-then-is_err-clause-most : goal.returns-then-is_err-clause-most
returns-then-is_err-clause-most g c = most_within g.D.Device.shown _ _ _ _ c.args.twin.now.device c.begin_on.new.twin.device c.begin_on.ensures.most (omega arith) (omega arith)

pub returns-then-is_err-clause-whole : goal.returns-then-is_err-clause-whole
returns-then-is_err-clause-whole g c = most_within g.D.Device.shown _ _ _ _ c.args.twin.now.device c.begin_on.new.twin.device c.begin_on.ensures.most (omega arith) (omega arith)

pub returns-then-is_err-clause-failed : goal.returns-then-is_err-clause-failed
returns-then-is_err-clause-failed g c is = record {
  phase = search rules;
  cause = search rules;
  most = most_within g.D.Device.shown _ _ _ _ c.args.twin.now.device c.begin_on.new.twin.device c.begin_on.ensures.most (omega arith) (omega arith);
  whole = most_within g.D.Device.shown _ _ _ _ c.args.twin.now.device c.begin_on.new.twin.device c.begin_on.ensures.most (omega arith) (omega arith);
}

-- what each end keeps, and what it leaves
pub returns-then-is_err-clause-same : goal.returns-then-is_err-clause-same
returns-then-is_err-clause-same g c = seat_by c.args.seat.now c.begin_on.new.seat (plan_of c.args.seat.now.token.me.0) c.begin_on.ensures.same

pub returns-then-is_err-clause-order : goal.returns-then-is_err-clause-order
returns-then-is_err-clause-order g c = c.begin_on.ensures.kept.order

pub returns-then-is_err-clause-unpublished : goal.returns-then-is_err-clause-unpublished
returns-then-is_err-clause-unpublished g c other = record {
  cleared = c.requires.ready.clear;
  stays = ap plan_of c.begin_on.ensures.same.2;
  committed_is = λ told. c.begin_on.ensures.kept.committed_is told;
}

pub returns-then-is_err-clause-device : goal.returns-then-is_err-clause-device
returns-then-is_err-clause-device g c = c.begin_on.ensures.device

pub returns-then-is_ok-clause-same : goal.returns-then-is_ok-clause-same
returns-then-is_ok-clause-same g c =
    let s = c.args.seat.now in let s₁ = c.begin_on.new.seat in let s₂ = c.apply_all.new.seat in let s₃ = c.commit_on.new.seat in
    let three = seat_then s s₁ s₃ (seat_by s s₁ _ c.begin_on.ensures.same) (seat_then s₁ s₂ s₃ (seat_by s₁ s₂ _ c.apply_all.ensures.kept) (seat_by s₂ s₃ _ c.commit_on.ensures.same)) in
    seat_then s s₃ c.send_to_main.new.seat three (seat_by s₃ c.send_to_main.new.seat _ c.send_to_main.ensures.switched.4)

pub returns-then-is_ok-clause-order : goal.returns-then-is_ok-clause-order
returns-then-is_ok-clause-order g c = c.commit_on.ensures.kept.order ∙ c.begin_on.ensures.kept.order

pub returns-then-eq-clause-same : goal.returns-then-eq-clause-same
returns-then-eq-clause-same g c =
    let s = c.args.seat.now in let s₁ = c.begin_on.new.seat in let s₂ = c.apply_all.new.seat in let s₃ = c.commit_on.new.seat in
    let three = seat_then s s₁ s₃ (seat_by s s₁ _ c.begin_on.ensures.same) (seat_then s₁ s₂ s₃ (seat_by s₁ s₂ _ c.apply_all.ensures.kept) (seat_by s₂ s₃ _ c.commit_on.ensures.same)) in
    seat_then s s₃ c.copy_to.new.seat three (seat_by s₃ c.copy_to.new.seat _ c.copy_to.ensures)

pub returns-then-eq-clause-order : goal.returns-then-eq-clause-order
returns-then-eq-clause-order g c = c.commit_on.ensures.kept.order ∙ c.begin_on.ensures.kept.order

pub returns-clause-same : goal.returns-clause-same
returns-clause-same g c =
    let s = c.args.seat.now in let s₁ = c.begin_on.new.seat in let s₂ = c.apply_all.new.seat in let s₃ = c.commit_on.new.seat in
    let three = seat_then s s₁ s₃ (seat_by s s₁ _ c.begin_on.ensures.same) (seat_then s₁ s₂ s₃ (seat_by s₁ s₂ _ c.apply_all.ensures.kept) (seat_by s₂ s₃ _ c.commit_on.ensures.same)) in
    seat_then s s₃ c.copy_to.new.seat three (seat_by s₃ c.copy_to.new.seat _ c.copy_to.ensures)

pub returns-clause-order : goal.returns-clause-order
returns-clause-order g c = c.commit_on.ensures.kept.order ∙ c.begin_on.ensures.kept.order

pub returns-then-is_ok-clause-room : goal.returns-then-is_ok-clause-room
returns-then-is_ok-clause-room g c = c.apply_all.ensures.room

pub returns-then-eq-clause-calls : goal.returns-then-eq-clause-calls
returns-then-eq-clause-calls g c = let five = back_doubt g c in (ap (λ (z : Plan). z.scanned) five, ap (λ (z : Plan). map found_of z.requests) five)

pub returns-then-eq-clause-room : goal.returns-then-eq-clause-room
returns-then-eq-clause-room g c = ap (λ (l : Logged). l.room) c.clear.ensures ∙ c.apply_all.ensures.room

pub returns-then-eq-clause-unpublished : goal.returns-then-eq-clause-unpublished
returns-then-eq-clause-unpublished g c other = record {
  cleared = (ap (λ (l : Logged). l.ranges) c.clear.ensures, ap (λ (l : Logged). l.added) c.clear.ensures);
  stays = back_doubt g c;
  committed_is = λ told. c.commit_on.ensures.kept.committed_is told ∙ c.begin_on.ensures.kept.committed_is told;
}

pub returns-clause-calls : goal.returns-clause-calls
returns-clause-calls g c = let five = back_failed g c in (ap (λ (z : Plan). z.scanned) five, ap (λ (z : Plan). map found_of z.requests) five)

pub returns-clause-room : goal.returns-clause-room
returns-clause-room g c = ap (λ (l : Logged). l.room) c.clear.ensures ∙ c.apply_all.ensures.room

pub returns-clause-unpublished : goal.returns-clause-unpublished
returns-clause-unpublished g c other = record {
  cleared = (ap (λ (l : Logged). l.ranges) c.clear.ensures, ap (λ (l : Logged). l.added) c.clear.ensures);
  stays = back_failed g c;
  committed_is = λ told. c.commit_on.ensures.kept.committed_is told ∙ c.begin_on.ensures.kept.committed_is told;
}

-- what a pass does not say that failed as it began
pub returns-then-is_err-clause-some : goal.returns-then-is_err-clause-some
returns-then-is_err-clause-some g c = failed_not_nothing

pub returns-then-is_err-clause-published : goal.returns-then-is_err-clause-published
returns-then-is_err-clause-published g c e = absurd (published_not_failed (sym e))

pub returns-then-is_err-clause-doubt : goal.returns-then-is_err-clause-doubt
returns-then-is_err-clause-doubt g c e = absurd (failed_not_doubt e)

-- what one does not say that published
pub returns-then-is_ok-clause-some : goal.returns-then-is_ok-clause-some
returns-then-is_ok-clause-some g c = published_not_nothing

pub returns-then-is_ok-clause-unpublished : goal.returns-then-is_ok-clause-unpublished
returns-then-is_ok-clause-unpublished g c other = absurd (other refl)

pub returns-then-is_ok-clause-failed : goal.returns-then-is_ok-clause-failed
returns-then-is_ok-clause-failed g c e = absurd (published_not_failed e)

pub returns-then-is_ok-clause-doubt : goal.returns-then-is_ok-clause-doubt
returns-then-is_ok-clause-doubt g c e = absurd (published_not_doubt e)

-- what one does not say that is in doubt
pub returns-then-eq-clause-some : goal.returns-then-eq-clause-some
returns-then-eq-clause-some g c = doubt_not_nothing

pub returns-then-eq-clause-published : goal.returns-then-eq-clause-published
returns-then-eq-clause-published g c e = absurd (published_not_doubt (sym e))

pub returns-then-eq-clause-failed : goal.returns-then-eq-clause-failed
returns-then-eq-clause-failed g c e = absurd (failed_not_doubt (sym e))

-- what one does not say that failed before the commit
pub returns-clause-some : goal.returns-clause-some
returns-clause-some g c = failed_not_nothing

pub returns-clause-published : goal.returns-clause-published
returns-clause-published g c e = absurd (published_not_failed (sym e))

pub returns-clause-doubt : goal.returns-clause-doubt
returns-clause-doubt g c e = absurd (failed_not_doubt e)

-- what is told where it published, and nothing where it did not
pub returns-then-is_ok-clause-told : goal.returns-then-is_ok-clause-told
returns-then-is_ok-clause-told g c e s n op = let u : View = c.args.seat.now.token.me.0 in let it = took_ok g c in
    told_all g.O.Object.Contents (on_words g.O.Object.machine) u.base s n it.start it.count (plan_of u) (plan_of c.apply_all.new.seat.token.me.0).main (length c.args.found.now) c.apply_all.new.answers.items (g.met.O.Object.one_contents u.base.order u.base.image s it.start n it.count op it.opened) it.long it.applied

pub returns-then-is_err-clause-told : goal.returns-then-is_err-clause-told
returns-then-is_err-clause-told g c e = absurd (published_not_failed (sym e))

pub returns-then-eq-clause-told : goal.returns-then-eq-clause-told
returns-then-eq-clause-told g c e = absurd (published_not_doubt (sym e))

pub returns-clause-told : goal.returns-clause-told
returns-clause-told g c e = absurd (published_not_failed (sym e))
