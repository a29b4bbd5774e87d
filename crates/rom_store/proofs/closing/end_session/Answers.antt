use Rattle.std.proofs.Common.{◌≡◌, ℕ, ◌+◌, ◌≤◌, List, length, refl, ap, sym, ◌∙◌, subst}
use Rattle.rom_model.specs.Machine.{on_words}
use Rattle.rom_model.specs.Passes.{faults_after}
use Rattle.rom_model.specs.VecSpace.{words_of_space}
use Rattle.rom_combine.specs.Costs.{WithinHeap}
use Rattle.rom_twin.specs.Seen.{Seen}
use Rattle.rom_rule.specs.Readers.{Held}
use Rattle.rom_rule.specs.Views.{base_of, plan_of, records_of}
use Rattle.rom_rule.specs.declared.views.Base.{Base}
use Rattle.rom_rule.specs.declared.views.Plan.{Plan}
use Rattle.rom_rule.specs.declared.views.View.{View}
use Rattle.rom_store.specs.Callers.{IsCallerOf}
use Rattle.rom_store.specs.Sessions.{SessionSeen}
use Rattle.rom_store.specs.Start.{HasStarted}
use Rattle.rom_store.proofs.Closings.{Ended, count_held, ended, ended_closed, ended_kept, ended_lasts, ended_now, ended_since, ended_story, ended_went, joined_at_end, plan_at_end, session_is, writer_at_end}
use Rattle.rom_store.proofs.Stories.{session_of}
use Rattle.rom_store.proofs.closing.end_session.Given as given
use Rattle.rom_store.proofs.closing.end_session.Goals as goal

at_end : (g : given.Over) (c : goal.After-load_main-count g) → Ended g.O.Object.machine g.O.Object.Contents g.D.Device.shown g.N.Label.base (plan_of c.review.new.writer.token.me.0) c.into_parts-twin.result.0 c.args.passes.items
at_end g c = ended g.O.Object.machine g.O.Object.Contents g.D.Device.shown g.met.O.Object.one_contents g.N.Label.table g.N.Label.base
    g.N.Label.start g.N.Label.since c.args.core c.into_parts-twin.result.0 c.into_parts-twin.result.1.token.me.0
    c.take_in_all.new.writer.token.me.0 c.review.new.writer.token.me.0 c.args.passes.items
    c.requires.held c.into_parts-twin.ensures.twin c.into_parts-twin.ensures.seat.2 c.into_parts-twin.ensures.rest c.take_in_all.ensures.joined c.review.ensures.still c.review.ensures.told
    c.review.ensures.known c.review.ensures.kept

last_plan : (g : given.Over) (c : goal.After-load_main-count g) → plan_of c.load_main-count.new.seat.token.me.0 ≡ plan_of c.review.new.writer.token.me.0
last_plan g c = ap plan_of c.load_main-count.ensures.still.2

-- what the lock kept of the published history is what is known of it at the end
plan_held : (g : given.Over) (c : goal.After-load_main-count g) → plan_of c.review.new.writer.token.me.0 ≡ plan_of c.args.core.view
plan_held g c = plan_at_end c.args.core.view c.into_parts-twin.result.1.token.me.0 c.take_in_all.new.writer.token.me.0 c.review.new.writer.token.me.0 c.args.passes.items
    c.into_parts-twin.ensures.seat.2 c.take_in_all.ensures.joined c.review.ensures.still

abbrev session_at : (g : given.Over) (c : goal.After-load_main-count g) → SessionSeen
session_at g c = record {
  order = c.args.begun.order;
  image = words_of_space c.args.begun.image.value;
  faults = c.args.begun.faults;
  history = (plan_of c.load_main-count.new.seat.token.me.0).history;
  records = records_of (plan_of c.load_main-count.new.seat.token.me.0);
  phase = c.into_parts-twin.result.0.phase;
  callers = c.load_main-count.new.seat.token.me.0.joined;
}

is_session : (g : given.Over) (c : goal.After-load_main-count g) → session_at g c ≡ session_of g.N.Label.base (plan_of c.review.new.writer.token.me.0) c.into_parts-twin.result.0.phase (session_at g c).callers
is_session g c = let same = last_plan g c in
    session_is g.N.Label.base (plan_of c.review.new.writer.token.me.0) c.into_parts-twin.result.0.phase (session_at g c) c.requires.ordered c.requires.imaged c.requires.counted
    (ap (λ (p : Plan). p.history) same) (ap records_of same) refl

-- what the writer knew of the opening
base_at_rest : (g : given.Over) (c : goal.After-load_main-count g) → c.into_parts-twin.result.1.token.me.0.base ≡ g.N.Label.base
base_at_rest g c = ap (λ (v : View). v.base) c.into_parts-twin.ensures.seat.2 ∙ c.requires.held.base_is

pub take_in_all-requires-clause-passes : goal.take_in_all-requires-clause-passes
take_in_all-requires-clause-passes g c =
    let table = c.args.shared.table.shared in
    record {
      at = λ i p there. let is = (c.requires.passes.at i p there).of in
          subst (λ base. IsCallerOf g.O.Object.Contents table.table_id base p) (sym c.requires.based) (subst (λ named. IsCallerOf g.O.Object.Contents named g.N.Label.base p) (sym c.requires.named) is);
    }

pub returns-clause-ended : goal.returns-clause-ended
returns-clause-ended g c =
    let o = g.O.Object in
    let shown = g.D.Device.shown in
    let base = g.N.Label.base in
    let twin = c.into_parts-twin.result.0 in
    let plan = plan_of c.review.new.writer.token.me.0 in
    let held = c.requires.held in
    let twin_is = c.into_parts-twin.ensures.twin in
    let e = at_end g c in
    let is = is_session g c in
    let plan_is = plan_held g c in
    record {
      order = c.requires.ordered;
      image = c.requires.imaged;
      opening_faults = c.requires.counted;
      story = ended_story o.machine o.Contents shown base plan twin c.args.passes.items e (session_at g c) is;
      now = ended_now o.machine o.Contents shown base plan twin c.args.passes.items e (session_at g c) is;
      since = ended_since o.machine o.Contents shown base plan twin c.args.passes.items e (session_at g c) is g.N.Label.table g.N.Label.start g.N.Label.since c.args.core held twin_is plan_is;
      went = ended_went o.machine o.Contents shown base plan twin c.args.passes.items e (session_at g c) is g.N.Label.table g.N.Label.start g.N.Label.since c.args.core held twin_is plan_is;
      size = ap (λ (t : Seen g.row.D.Denot). shown.size t.device) twin_is ∙ held.size_is;
      outside = λ told. subst (λ (t : Seen g.row.D.Denot). WithinHeap base.order g.N.Label.start.words (shown.words t.device)) (sym twin_is) (held.outside told);
      faults = subst (λ (z : SessionSeen). faults_after z.faults z.records ≤ shown.faults twin.device) (sym is)
          (subst (λ (z : Base × Plan). faults_after z.0.faults (records_of z.1) ≤ shown.faults twin.device)
          (λ i. (base_at_rest g c i, (sym (ap plan_of c.review.ensures.still ∙ ap plan_of c.take_in_all.ensures.joined)) i)) c.into_parts-twin.ensures.rest.counts);
    }

pub returns-clause-closed : goal.returns-clause-closed
returns-clause-closed g c =
    ended_closed g.O.Object.machine g.O.Object.Contents g.D.Device.shown g.N.Label.base (plan_of c.review.new.writer.token.me.0) c.into_parts-twin.result.0 c.args.passes.items (at_end g c) (session_at g c) (is_session g c)
    (length c.args.passes.items) c.requires.all

pub returns-clause-callers : goal.returns-clause-callers
returns-clause-callers g c =
    ap (λ (v : View). v.joined) c.load_main-count.ensures.still.2
    ∙ joined_at_end c.args.core.view c.into_parts-twin.result.1.token.me.0 c.take_in_all.new.writer.token.me.0 c.review.new.writer.token.me.0 c.args.passes.items
    c.into_parts-twin.ensures.seat.2 c.take_in_all.ensures.joined c.review.ensures.still c.requires.held.alone

pub returns-clause-kept : goal.returns-clause-kept
returns-clause-kept g c =
    ended_kept g.O.Object.machine g.O.Object.Contents g.D.Device.shown g.N.Label.base (plan_of c.review.new.writer.token.me.0) c.into_parts-twin.result.0 c.args.passes.items (at_end g c) (session_at g c) (is_session g c)
    g.N.Label.table c.requires.passes

pub returns-clause-lasts : goal.returns-clause-lasts
returns-clause-lasts g c =
    ended_lasts g.O.Object.machine g.O.Object.Contents g.D.Device.shown g.N.Label.base (plan_of c.review.new.writer.token.me.0) c.into_parts-twin.result.0 c.args.passes.items (at_end g c) (session_at g c) (is_session g c)
    (returns-clause-callers g c) g.met.D.Device.only_now (HasStarted g.D.Device.shown g.N.Label.base.faults g.N.Label.start g.N.Label.since) (returns-clause-ended g c).went

pub returns-clause-history : goal.returns-clause-history
returns-clause-history g c = ap (λ (p : Plan). p.history) (last_plan g c ∙ plan_held g c)

pub returns-clause-records : goal.returns-clause-records
returns-clause-records g c = ap records_of (last_plan g c ∙ plan_held g c)

pub invariant_of-result : goal.invariant_of-result
invariant_of-result g c =
    let base = g.N.Label.base in let contents = g.O.Object.Contents in
    let e = at_end g c in
    let same = last_plan g c in
    let key : base_of c.args.shared.table.shared.key ≡ base = c.requires.based in
    let opened : (s : g.O.Object.State) (k : ℕ) → contents c.args.begun.order (words_of_space c.args.begun.image.value) s k → contents base.order base.image s k
    = λ s k op. subst (λ (z : ℕ × List ℕ). contents z.0 z.1 s k) (λ i. (c.requires.ordered i, c.requires.imaged i)) op in
    record {
      of = writer_at_end c.args.shared.table.shared.table_id g.N.Label.table c.args.shared.table.shared.key base c.args.core c.into_parts-twin.result.1 c.take_in_all.new.writer c.review.new.writer c.load_main-count.new.seat
          c.args.passes.items c.into_parts-twin.ensures.seat c.take_in_all.ensures.same.0 c.take_in_all.ensures.joined c.review.ensures.same.0 c.review.ensures.still c.load_main-count.ensures.still
          c.requires.held.table_is c.requires.held.base_is c.requires.named key;
      order_is = c.requires.ordered ∙ sym (ap (λ (z : Base). z.order) key);
      image_is = c.requires.imaged ∙ sym (ap (λ (z : Base). z.image) key);
      formed = (e.start, e.count, subst (λ (z : ℕ × List ℕ). contents z.0 z.1 e.start e.count) (λ i. (sym c.requires.ordered i, sym c.requires.imaged i)) e.opening);
      held = λ s k op. subst (λ (z : Base × Plan). Held contents (on_words g.O.Object.machine) z.0 s k z.1.main z.1.history) (λ i. (sym key i, sym same i)) (e.holds s k (opened s k op));
      count_is = λ s k op. count_held contents (on_words g.O.Object.machine) base s k c.load_main-count.result (plan_of c.review.new.writer.token.me.0).main (plan_of c.review.new.writer.token.me.0).history
          (λ order words t j h. (g.met.O.Object.contents_within order words t j h).1) (e.holds s k (opened s k op)) c.load_main-count.ensures.word ∙ ap (λ (p : Plan). k + length p.history) (sym same);
    }
