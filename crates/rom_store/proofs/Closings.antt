-- What the closing of a store knows, and what that says of each story of its session.
use Rattle.std.proofs.Common.{◌≡◌, ⊎_elim, inl, inr, ℕ, ◌+◌, ◌<◌, ◌≤◌, IsTrue, List, [], ◌++◌, length, map, slice_index, Option, Some, sym, ap, ◌∙◌, subst, arith}
use Rattle.std.specs.Prelude.{slice_get}
use Rattle.std.specs.List.{AllByRecursion}
use Rattle.atomic_table.specs.Seated.{TableId}
use Rattle.rom_model.specs.History.{after}
use Rattle.rom_model.specs.Leaving.{IsClosed, IsKept}
use Rattle.rom_model.specs.Machine.{Machine, on_words}
use Rattle.rom_model.specs.Story.{Story}
use Rattle.rom_model.specs.declared.entry.Entry.{Entry}
use Rattle.rom_model.specs.declared.kept.Kept.{Kept}
use Rattle.rom_device.specs.Device.{ShownDevice}
use Rattle.rom_twin.specs.Seen.{Seen}
use Rattle.rom_twin.specs.declared.phase.Phase.{Phase}
use Rattle.rom_twin.specs.declared.phase.Phase.TheVariants.{Doubt}
use Rattle.rom_combine.specs.AtRest.{IsAtRest, Locked}
use Rattle.rom_combine.specs.Histories.{Doubted, ImageAt}
use Rattle.rom_combine.specs.Session.{ImageNow, SessionImage}
use Rattle.rom_lr.specs.Writing.{SetsPlan}
use Rattle.rom_lr.specs.declared.seats.WriterSeat.{WriterSeat}
use Rattle.rom_rule.specs.Calls.{told_to_caller}
use Rattle.rom_rule.specs.Kinds.{planned}
use Rattle.rom_rule.specs.Readers.{Held}
use Rattle.rom_rule.specs.Records as rule
use Rattle.rom_rule.specs.Records.{Recorded}
use Rattle.rom_rule.specs.Views.{base_of, book_in, plan_of, records_of}
use Rattle.rom_rule.specs.declared.law.Key.{Key}
use Rattle.rom_rule.specs.declared.views.Base.{Base}
use Rattle.rom_rule.specs.declared.views.Plan.{Plan}
use Rattle.rom_rule.specs.declared.views.View.{View}
use Rattle.rom_store.specs.Callers.{Caller, IsNumberedCaller}
use Rattle.rom_store.specs.Closing.{HasLeftSince, joined_of, kept_in}
use Rattle.rom_store.specs.Held.{IsBehindLock, story_at}
use Rattle.rom_store.specs.Indexed.{Indexed}
use Rattle.rom_store.specs.Moments.{IsCommittedAt, LastsFor}
use Rattle.rom_store.specs.Sessions.{EachStory, HasStory, SessionSeen}
use Rattle.rom_store.specs.Start.{HasStarted, Start}
use Rattle.rom_store.specs.Traced.{WentThrough}
use Rattle.rom_store.proofs.Ending.{all_by, image_now, image_of_story, is_certain, is_closed, is_kept, joined_at}
use Rattle.rom_store.proofs.Lasting.{has_lasted}
use Rattle.rom_store.proofs.Moments.{lasts_since}
use Rattle.rom_store.proofs.Places.{map_at}
use Rattle.rom_store.proofs.Stories.{each_story, has_story, session_of, story_of}
use Rattle.rom_store.proofs.Tracing.{went_doubt}

-- a session by its parts
pub session_is : (base : Base) (p : Plan) (ph : Phase) (session : SessionSeen) → session.order ≡ base.order → session.image ≡ base.image → session.faults ≡ base.faults → session.history ≡ p.history → session.records ≡ records_of p → session.phase ≡ ph → session ≡ session_of base p ph session.callers
session_is base p ph session order image faults history records phase = λ i. record { order = order i; image = image i; faults = faults i; history = history i; records = records i; phase = phase i; callers = session.callers }

-- What the writer keeps of callers is what these keep, once it has taken them in and has looked at the records.
pub joined_at_end : (x v v' w : View) (ps : List Caller) → v ≡ x → v' ≡ record v { joined = v.joined ++ joined_of ps; steps = v'.steps } → w ≡ planned v' (plan_of v') → x.joined ≡ [] → w.joined ≡ joined_of ps
joined_at_end x v v' w ps same joined still alone = ap (λ (z : View). z.joined) still ∙ ap (λ (z : View). z.joined) joined ∙ ap (λ (z : List Kept). z ++ joined_of ps) (ap (λ (z : View). z.joined) same ∙ alone)

module _ {S C Q R A D : Type 0} (m : Machine S C Q R A) (Contents : ℕ → List ℕ → S → ℕ → Type 0) (shown : ShownDevice D) where
  -- The published plan and the device, once the writer has taken in these callers and has looked at the records.
  pub record Ended (base : Base) (p : Plan) (t : Seen D) (ps : List Caller) : Type 0 where
    pub start : S
    pub count : ℕ
    pub opening : Contents base.order base.image start count
    pub holds : (s : S) (k : ℕ) → Contents base.order base.image s k → Held Contents (on_words m) base s k p.main p.history
    pub images : IsTrue shown.tells_images → (s : S) (k : ℕ) → Contents base.order base.image s k → (i : List ℕ) → shown.leaves t.device i → ImageAt Contents (on_words m) base s k t.phase p i
    pub doubted : t.phase ≡ Doubt → (s : S) (k : ℕ) → Contents base.order base.image s k → (d : List Entry) × Doubted Contents (on_words m) base s k p d
    pub told : AllByRecursion (λ v. 0 < v.number → told_to_caller p.told v.number ≡ v.told) (joined_of ps)
    pub known : AllByRecursion (λ x. (0 < x.0.caller) × (x.0.caller ≤ base.callers)) p.told
    pub recorded : (s : S) (k : ℕ) → Contents base.order base.image s k → Recorded (on_words m) base s k (book_in p) × AllByRecursion (rule.IsKeptInBook k (book_in p)) (joined_of ps)

  -- So at the closing: what was behind the lock, the writer's view there, the same with the callers taken in, and after the look at the records.
  pub ended : ((order : ℕ) (words : List ℕ) (s t : S) (j k : ℕ) → Contents order words s j → Contents order words t k → (s ≡ t) × (j ≡ k)) →
      (table : TableId) (base : Base) (start : Start) (test : ℕ → List ℕ → Type 0) (c : Locked D) (t : Seen D) (v v' w : View) (ps : List Caller) →
      IsBehindLock shown Contents (on_words m) table base start test c → t ≡ c.twin → v ≡ c.view → IsAtRest shown Contents (on_words m) t v →
      v' ≡ record v { joined = v.joined ++ joined_of ps; steps = v'.steps } → w ≡ planned v' (plan_of v') →
      AllByRecursion (λ x. 0 < x.number → told_to_caller (plan_of w).told x.number ≡ x.told) w.joined →
      AllByRecursion (λ x. (0 < x.0.caller) × (x.0.caller ≤ w.base.callers)) (plan_of w).told →
      ((s : S) (k : ℕ) → Contents w.base.order w.base.image s k → Recorded (on_words m) w.base s k (book_in (plan_of w)) × AllByRecursion (rule.IsKeptInBook k (book_in (plan_of w))) w.joined) →
      Ended base (plan_of w) t ps
  ended one table base start test c t v v' w ps held twin_is view_is rest joined still told known recorded =
      let plan_is : plan_of w ≡ plan_of v = ap plan_of still ∙ ap plan_of joined in
      let plan_held : plan_of w ≡ plan_of c.view = plan_is ∙ ap plan_of view_is in
      let base_is : v.base ≡ base = ap (λ (z : View). z.base) view_is ∙ held.base_is in
      let base_now : w.base ≡ base = ap (λ (z : View). z.base) still ∙ ap (λ (z : View). z.base) joined ∙ base_is in
      let joined_is : w.joined ≡ joined_of ps = joined_at_end c.view v v' w ps view_is joined still held.alone in
      let opening : Contents base.order base.image rest.start rest.count = subst (λ (z : Base). Contents z.order z.image rest.start rest.count) base_is rest.opening in
      record {
        start = rest.start;
        count = rest.count;
        opening = opening;
        holds = λ s k op. let same = one base.order base.image rest.start s rest.count k opening op in
            subst (λ (z : (Base × Plan) × (S × ℕ)). Held Contents (on_words m) z.0.0 z.1.0 z.1.1 z.0.1.main z.0.1.history) (λ j. ((base_is j, sym plan_is j), (same.0 j, same.1 j))) rest.held;
        images = λ tells s k op i left. let same = one base.order base.image rest.start s rest.count k opening op in
            subst (λ (z : (Base × Plan) × (S × ℕ)). ImageAt Contents (on_words m) z.0.0 z.1.0 z.1.1 t.phase z.0.1 i) (λ j. ((base_is j, sym plan_is j), (same.0 j, same.1 j))) (rest.images tells i left);
        doubted = λ is s k op. let x = held.in_doubt (sym (ap (λ (z : Seen D). z.phase) twin_is) ∙ is) s k op in
            (x.0, subst (λ (z : Plan). Doubted Contents (on_words m) base s k z x.0) (sym plan_held) x.1);
        told = subst (AllByRecursion (λ x. 0 < x.number → told_to_caller (plan_of w).told x.number ≡ x.told)) joined_is told;
        known = subst (λ (z : Base). AllByRecursion (λ x. (0 < x.0.caller) × (x.0.caller ≤ z.callers)) (plan_of w).told) base_now known;
        recorded = λ s k op. let x = recorded s k (subst (λ (z : Base). Contents z.order z.image s k) (sym base_now) op) in
            (subst (λ (z : Base). Recorded (on_words m) z s k (book_in (plan_of w))) base_now x.0, subst (AllByRecursion (rule.IsKeptInBook k (book_in (plan_of w)))) joined_is x.1);
      }

  module _ (base : Base) (p : Plan) (t : Seen D) (ps : List Caller) (e : Ended base p t ps) (session : SessionSeen) (is : session ≡ session_of base p t.phase session.callers) where
    on_session : (P : Story S → Type 0) → EachStory m Contents (session_of base p t.phase session.callers) P → EachStory m Contents session P
    on_session P each = subst (λ (z : SessionSeen). EachStory m Contents z P) (sym is) each

    pub ended_story : HasStory m Contents session
    ended_story = subst (HasStory m Contents) (sym is) (has_story m Contents base p t.phase e.start e.count e.opening (λ d. e.doubted d e.start e.count e.opening))

    pub ended_closed : (callers : ℕ) → callers ≡ base.callers → EachStory m Contents session (λ story. IsClosed m story callers)
    ended_closed callers many = on_session (λ story. IsClosed m story callers) (each_story m Contents base p t.phase (λ story. IsClosed m story callers)
        (λ s k doubt op in_doubt. subst (IsClosed m (story_of base p s k doubt)) (sym many) (is_closed m Contents base p s k doubt t.phase in_doubt (e.recorded s k op).0 e.known)))

    pub ended_kept : (table : TableId) → Indexed (IsNumberedCaller Contents table base) ps → EachStory m Contents session (λ story. Indexed (λ _ v. IsKept m story v) (map kept_in ps))
    ended_kept table numbered = on_session (λ story. Indexed (λ _ v. IsKept m story v) (map kept_in ps)) (each_story m Contents base p t.phase (λ story. Indexed (λ _ v. IsKept m story v) (map kept_in ps))
        (λ s k doubt op in_doubt. map_at (IsNumberedCaller Contents table base) (λ _ v. IsKept m (story_of base p s k doubt) v) kept_in ps (λ i q at is_numbered. kept s k doubt op i q at is_numbered) numbered))
      where
        kept : (s : S) (k : ℕ) (doubt : Option (List Entry)) → Contents base.order base.image s k → (i : ℕ) (q : Caller) → slice_get ps i ≡ Some q → IsNumberedCaller Contents table base i q → IsKept m (story_of base p s k doubt) (kept_in q)
        kept s k doubt op i q at numbered = let x = e.recorded s k op in let number = numbered.number in
            is_kept m Contents base p s k doubt (kept_in q) x.0 (joined_at (rule.IsKeptInBook k (book_in p)) ps i q at x.1)
            (joined_at (λ v. 0 < v.number → told_to_caller p.told v.number ≡ v.told) ps i q at e.told (omega (arith, number)))

    ended_certain : session.callers ≡ joined_of ps → EachStory m Contents session (λ story. AllByRecursion (λ v. IsCommittedAt story v.moments (length v.seen)) session.callers)
    ended_certain callers = subst (λ (vs : List Kept). EachStory m Contents session (λ story. AllByRecursion (λ v. IsCommittedAt story v.moments (length v.seen)) vs)) (sym callers)
        (on_session (λ story. AllByRecursion (λ v. IsCommittedAt story v.moments (length v.seen)) (joined_of ps)) (each_story m Contents base p t.phase (λ story. AllByRecursion (λ v. IsCommittedAt story v.moments (length v.seen)) (joined_of ps))
        (λ s k doubt op in_doubt. all_by (rule.IsKeptInBook k (book_in p)) (λ v. IsCommittedAt (story_of base p s k doubt) v.moments (length v.seen)) (joined_of ps) (λ v kept. is_certain m Contents base p s k doubt v (e.recorded s k op).0 kept) (e.recorded s k op).1)))

    pub ended_lasts : session.callers ≡ joined_of ps → ((d : D) (i : List ℕ) → IsTrue shown.tells_images → shown.left_since d (shown.clock d) i → shown.leaves d i) → (First : D → Type 0) →
        EachStory m Contents session (λ story. WentThrough shown Contents (on_words m) story First t.device) → EachStory m Contents session (λ story. AllByRecursion (LastsFor shown Contents (on_words m) story t.device) session.callers)
    ended_lasts callers only_now First went story of =
        let w = went story of in
        all_by (λ v. IsCommittedAt story v.moments (length v.seen)) (LastsFor shown Contents (on_words m) story t.device) session.callers (λ v certain. record {
          certain = certain;
          lasts = λ told. lasts_since shown Contents (on_words m) story w.first t.device (has_lasted shown Contents (on_words m) story only_now t.device) w.passes told v.moments (length v.seen) certain;
        }) (ended_certain callers story of)

    pub ended_now : IsTrue shown.tells_images → EachStory m Contents session (λ story. (i : List ℕ) → shown.leaves t.device i → ImageNow Contents (on_words m) story i)
    ended_now tells = on_session (λ story. (i : List ℕ) → shown.leaves t.device i → ImageNow Contents (on_words m) story i) (each_story m Contents base p t.phase (λ story. (i : List ℕ) → shown.leaves t.device i → ImageNow Contents (on_words m) story i)
        (λ s k doubt op in_doubt i left. image_now m Contents base p s k doubt t.phase in_doubt i (e.images tells s k op i left)))

    pub ended_since : (table : TableId) (start : Start) (test : ℕ → List ℕ → Type 0) (c : Locked D) → IsBehindLock shown Contents (on_words m) table base start test c → t ≡ c.twin → p ≡ plan_of c.view → IsTrue shown.tells_images →
        EachStory m Contents session (λ story. HasLeftSince shown start test (SessionImage Contents (on_words m) story) t.device)
    ended_since table start test c held twin_is plan_is tells = on_session (λ story. HasLeftSince shown start test (SessionImage Contents (on_words m) story) t.device)
        (each_story m Contents base p t.phase (λ story. HasLeftSince shown start test (SessionImage Contents (on_words m) story) t.device) (λ s k doubt op in_doubt.
        subst (λ (z : D). HasLeftSince shown start test (SessionImage Contents (on_words m) (story_of base p s k doubt)) z) (sym (ap (λ (z : Seen D). z.device) twin_is)) record {
          later = held.later tells;
          nothing_else = λ from i left. ⊎_elim (λ old. inl old) (λ is. inr (image_of_story m Contents base p s k doubt (on_words m) i
              (subst (λ (z : Plan). SessionImage Contents (on_words m) (story_at base s k z) i) (sym plan_is) is))) (held.since tells s k op from i left);
          keeps = held.keeps tells;
        }))

    pub ended_went : (table : TableId) (start : Start) (test : ℕ → List ℕ → Type 0) (c : Locked D) → IsBehindLock shown Contents (on_words m) table base start test c → t ≡ c.twin → p ≡ plan_of c.view →
        EachStory m Contents session (λ story. WentThrough shown Contents (on_words m) story (HasStarted shown base.faults start test) t.device)
    ended_went table start test c held twin_is plan_is = let First = HasStarted shown base.faults start test in
        on_session (λ story. WentThrough shown Contents (on_words m) story First t.device)
        (each_story m Contents base p t.phase (λ story. WentThrough shown Contents (on_words m) story First t.device) (λ s k doubt op in_doubt.
        went_doubt shown Contents (on_words m) (story_at base s k p) doubt First t.device
        (subst (λ (z : Plan × D). WentThrough shown Contents (on_words m) (story_at base s k z.0) First z.1) (λ j. (sym plan_is j, sym (ap (λ (z : Seen D). z.device) twin_is) j)) (held.went s k op))))

-- The writer's seat as the lock left it, with the callers taken in, after the look at the records, and after a load: it is of the store's table still, and the plan is the published one.
pub writer_at_end : {D : Type 0} (table named : TableId) (key : Key) (b : Base) (c : Locked D) (s s' u w : WriterSeat) (ps : List Caller) →
    (s.token.table_id ≡ c.table_id) × (s.token.id ≡ c.id) × (s.token.me.0 ≡ c.view) → s'.token.table_id ≡ s.token.table_id → s'.token.me.0 ≡ record s.token.me.0 { joined = s.token.me.0.joined ++ joined_of ps; steps = s'.token.me.0.steps } →
    u.token.table_id ≡ s'.token.table_id → u.token.me.0 ≡ planned s'.token.me.0 (plan_of s'.token.me.0) → SetsPlan u w (plan_of u.token.me.0) → c.table_id ≡ named → c.view.base ≡ b → table ≡ named → base_of key ≡ b → (w.token.table_id ≡ table) × (w.token.me.0.base ≡ base_of key)
writer_at_end table named key b c s s' u w ps same stays joined looks still last of is table_is key_is = (
  last.0 ∙ (looks ∙ (stays ∙ (same.0 ∙ (of ∙ sym table_is)))),
  ap (λ (y : View). y.base) last.2 ∙ (ap (λ (y : View). y.base) still ∙ (ap (λ (y : View). y.base) joined ∙ (ap (λ (y : View). y.base) same.2 ∙ (is ∙ sym key_is)))),
)

pub plan_at_end : (x v v' w : View) (ps : List Caller) → v ≡ x → v' ≡ record v { joined = v.joined ++ joined_of ps; steps = v'.steps } → w ≡ planned v' (plan_of v') → plan_of w ≡ plan_of x
plan_at_end x v v' w ps same joined still = ap plan_of still ∙ (ap plan_of joined ∙ ap plan_of same)

-- The count is word 2 of main, which stands for the history.
pub count_held : {S : Type 0} (Contents : ℕ → List ℕ → S → ℕ → Type 0) (step : ℕ → S → ℕ → List ℕ → Option (S × List ℕ)) (base : Base) (s : S) (k count : ℕ) (main : List ℕ) (history : List Entry) →
    ((order : ℕ) (words : List ℕ) (t : S) (j : ℕ) → Contents order words t j → slice_index words 2 ≡ j) → Held Contents step base s k main history → count ≡ slice_index main 2 → count ≡ k + length history
count_held Contents step base s k count main history within held is = is ∙ within base.order main (after step base.order s k history) (k + length history) held
