-- The writer's kinds of step keep the rule
use Rattle.rom_model.specs.Blocks.{region_len}
use Rattle.std.proofs.Common.{◌≡◌, ◌≢◌, ℕ, ◌+◌, ◌-◌, ◌*◌, ◌||◌, ◌%◌, ◌^◌, ◌<◌, ◌≤◌, ◌⊎◌, List, [], ◌∷◌, ◌++◌, map, length, get_or, set, sym, refl, ap, ◌∙◌, subst, inl, inr, ⊎_elim, arith, Option, Some, None, append-nil, length-append, length-set, get_or-set_other, get_or-set_same, eq-eqb, ne_eqb, eqb, cond, Bool, true, false}
use mathlib.Core.Logic.{dite}
use mathlib.Core.Option.{some}
use native.Mathlib.Decide.{ℕ_discrete}
use lib.ListN.{get_elem?}
use Rattle.atomic_table.specs.Table.{State, Me, step, keeps, Allows}
use mathlib.Core.Option.{none}
use Rattle.atomic_table.proofs.Lists.{at_set}
use Rattle.rom_model.specs.declared.entry.Entry.{Entry}
use Rattle.rom_rule.specs.Calls.{Announced}
use Rattle.rom_rule.specs.Kinds.{CanCheck, CanStore, CanStoreVersion, checked_indicator, loaded_region, observed, planned, stored_back, stored_main, stored_version}
use Rattle.rom_rule.specs.Places.{Shown, back_word_at, indicator_at, indicator_count, main_word_at, shown, side_word_at, version_at, version_of_indicator}
use Rattle.rom_rule.specs.Readers.{ShowsArrivals, Differ, Held, HoldsNothing, IsNumbered, IsWritten, KeepsImage, ReadsNamedSide, Settled, StandsAtOwn, hit}
use Rattle.rom_rule.specs.Records.{IsCall, Recorded, Remembers}
use Rattle.rom_rule.specs.Rule.{IsOnlyPlan, IsRuled}
use Rattle.rom_rule.specs.Views.{Book, CallerCalls, Each, IsWriter, PlanCalls, Remembered, base_in, book_in, calls_in, has, number_in, plan_calls, plan_in, plan_of, position_in, reading_in, remembered_in, side_of}
use Rattle.rom_rule.specs.declared.views.Base.{Base}
use Rattle.rom_rule.specs.declared.views.Plan.{Plan}
use Rattle.rom_rule.specs.declared.views.Position.{Position}
use Rattle.rom_rule.specs.declared.views.Position.TheVariants.{Arrived, Holds, Out, Reads}
use Rattle.rom_rule.specs.declared.views.View.{View}
use Rattle.rom_rule.proofs.Frames.{unseen, frame, each_set, each_at}
use Rattle.rom_rule.proofs.Parts.{shown_version, shown_main, shown_back}
use Rattle.rom_rule.proofs.Standing.{any_here, own_on, stands_here}
use Rattle.rom_rule.proofs.Readers.{indicator_is, reload, side_word}

pub observed_parts : (v found : ℕ) (p : Plan) → ((observed v found p).main ≡ p.main) × ((observed v found p).back ≡ p.back) × ((observed v found p).side ≡ p.side) × ((observed v found p).version ≡ p.version) × ((observed v found p).dealt ≡ p.dealt) × (book_in (observed v found p) ≡ book_in p) × (plan_calls (observed v found p) ≡ plan_calls p)
observed_parts v found p = cases (eqb found 0)
  where
    cases : (t : Bool) → let q : Plan = cond t (record p { clear = (v, p.version) ∷ p.clear }) p in (q.main ≡ p.main) × (q.back ≡ p.back) × (q.side ≡ p.side) × (q.version ≡ p.version) × (q.dealt ≡ p.dealt) × (book_in q ≡ book_in p) × (plan_calls q ≡ plan_calls p)
    cases false = (refl, refl, refl, refl, refl, refl, refl)
    cases true = (refl, refl, refl, refl, refl, refl, refl)

module _ {S : Type 0} (Contents : ℕ → List ℕ → S → ℕ → Type 0) (go : ℕ → S → ℕ → List ℕ → Option (S × List ℕ)) (b : Base) where
  abbrev St : Type 0
  St = State ℕ View

  abbrev M : Type 0
  M = Me ℕ View

  abbrev R : St → Type 0
  R = IsRuled Contents go b

  abbrev after_step : St → List ℕ → ℕ → View → St
  after_step s ws id w = record { words = ws; homes = s.homes; views = set s.views id w }

  -- the writer's view has the rule's plan
  pub plan_is : (s : St) (r : R s) (id : ℕ) (v : View) → get_elem? s.views id ≡ some v → IsWriter v (plan_of v) → (plan_of v ≡ r.plan) × (id ≡ r.writer)
  plan_is s r id v at is = subst (IsOnlyPlan r.plan r.writer id) is (each_at (IsOnlyPlan r.plan r.writer) plan_in s.views id v at r.plans)

  pub base_is : (s : St) (r : R s) (id : ℕ) (v : View) → get_elem? s.views id ≡ some v → v.base ≡ b
  base_is s r id v at = each_at (λ _ c. c ≡ b) base_in s.views id v at r.bases

  pub callers_are : (s : St) (r : R s) (id : ℕ) (v : View) → get_elem? s.views id ≡ some v → v.base.callers ≡ b.callers
  callers_are s r id v at = ap (λ (z : Base). z.callers) (base_is s r id v at)

  pub other_plan : (p q : Plan) (writer j : ℕ) (d : Option Plan) → j ≢ writer → IsOnlyPlan p writer j d → IsOnlyPlan q writer j d
  other_plan p q writer j None ne h = tt
  other_plan p q writer j (Some z) ne h = absurd (ne h.1)

  pub pos_at : (vs : List View) (j : ℕ) (c : Position × List Entry) → get_elem? (map reading_in vs) j ≡ some c → get_elem? (map position_in vs) j ≡ some c.0
  pos_at [] j c e = absurd (mathlib.Core.Option.some-ne-none c (sym e))
  pos_at (x ∷ xs) Rattle.std.proofs.Common.zero c e = ap (λ (y : Position × List Entry). some y.0) (mathlib.Core.Option.some-injective (reading_in x) c e)
  pos_at (x ∷ xs) (Rattle.std.proofs.Common.suc j) c e = pos_at xs j c e

  abbrev pub AnnouncedWith : Plan → (s : St) → R s → List ℕ → List CallerCalls → Type 0
  AnnouncedWith p s r slots all_calls = Announced (IsCall go b) b.callers slots r.count (plan_calls p) all_calls

  -- what stays the same at each step of the writer's, after which its view is w and its plan p
  unfoldable pub writer_step : (s : St) (r : R s) (id : ℕ) (v w : View) (p : Plan) (ws : List ℕ) → get_elem? s.views id ≡ some v → id ≡ r.writer → w.base ≡ v.base → w.number ≡ v.number → reading_in w ≡ reading_in v → remembered_in w ≡ remembered_in v → w.plan ≡ Some p → (HoldsNothing v → HoldsNothing w)
      → length ws ≡ length s.words → (r.plan.dealt ≤ p.dealt) × (p.dealt ≤ b.callers) → (shown b ws).indicators ≡ (shown b s.words).indicators
      → ((q : Position) (seen : List Entry) → ReadsNamedSide b.callers r.plan q → KeepsImage Contents go b r.plan.main r.plan.back q seen → KeepsImage Contents go b p.main p.back q seen)
      → IsWritten Contents go b r.start r.count (shown b ws) p
      → ((j : ℕ) (q : Position) → get_elem? (map position_in s.views) j ≡ some q → ReadsNamedSide b.callers r.plan q → ReadsNamedSide b.callers p q)
      → ((m : Remembered) → Remembers r.count (book_in r.plan) m → Remembers r.count (book_in p) m)
      → Recorded go b r.start r.count (book_in p)
      → AnnouncedWith p s r (shown b ws).slots (map calls_in (set s.views id w))
      → R (after_step s ws id w)
  writer_step s r id v w p ws at writes base number reading memory plan_same bare wide dealt indicators images written behind remembers recorded announced = let same = unseen position_in s.views id v w at (ap (λ (z : Position × List Entry). z.0) reading) in record {
    plan = p;
    writer = r.writer;
    start = r.start;
    count = r.count;
    opening = r.opening;
    wide = wide ∙ r.wide;
    limits = (r.limits.0, dealt.1);
    bases = frame base_in (Each (λ _ c. c ≡ b)) s.views id v w at base r.bases;
    plans = each_set (IsOnlyPlan r.plan r.writer) (IsOnlyPlan p r.writer) plan_in s.views id w (λ j d ne. other_plan r.plan p r.writer j d (λ e. ne (e ∙ sym writes))) (subst (IsOnlyPlan p r.writer id) (sym plan_same) (refl, writes)) r.plans;
    arrivals = subst (λ (x : List ℕ × List Position). ShowsArrivals b.callers x.0 x.1) (λ c. (sym indicators c, sym same c)) r.arrivals;
    images = λ j c e. let e' = subst (λ (l : List (Position × List Entry)). get_elem? l j ≡ some c) (unseen reading_in s.views id v w at reading) e in
        images c.0 c.1 (r.named j c.0 (pos_at s.views j c e')) (r.images j c e');
    written = written;
    named = λ j q e. let e' = subst (λ (l : List Position). get_elem? l j ≡ some q) same e in behind j q e' (r.named j q e');
    remembered = λ j m e. remembers m (r.remembered j m (subst (λ (l : List Remembered). get_elem? l j ≡ some m) (unseen remembered_in s.views id v w at memory) e));
    recorded = recorded;
    announced = announced;
    seats = record {
      differ = frame number_in Differ s.views id v w at number r.seats.differ;
      given = (λ j n e. let k = frame number_in (Each (λ _ m. m ≤ r.plan.dealt)) s.views id v w at number r.seats.given j n e in omega (arith, dealt.0));
      standing = λ j c e. ⊎_elim (λ (t : (j ≡ id) × (w ≡ c)). subst IsNumbered t.1 (holder (r.seats.standing id v at))) (λ (t : (j ≢ id) × (get_elem? s.views j ≡ some c)). r.seats.standing j c t.1) (at_set s.views id j w c e);
      own = λ j c e. ⊎_elim (λ (t : (j ≡ id) × (w ≡ c)). subst StandsAtOwn t.1 (own_on v w (ap (λ (z : Position × List Entry). z.0) reading) number (r.seats.own id v at))) (λ (t : (j ≢ id) × (get_elem? s.views j ≡ some c)). r.seats.own j c t.1) (at_set s.views id j w c e);
      bare = λ j c e. ⊎_elim (λ (t : (j ≡ id) × (w ≡ c)). subst HoldsNothing t.1 (bare (r.seats.bare id v at))) (λ (t : (j ≢ id) × (get_elem? s.views j ≡ some c)). r.seats.bare j c t.1) (at_set s.views id j w c e);
    };
  }
    where
      holder : IsNumbered v → IsNumbered w
      holder h out = subst (λ (n : ℕ). 0 < n) (sym number) (h (λ e. out (ap (λ (z : Position × List Entry). z.0) reading ∙ e)))

  -- what the writer's next plan keeps of the calls
  pub announced_with : (s : St) (r : R s) (id : ℕ) (v w : View) (p : Plan) (slots : List ℕ) → get_elem? s.views id ≡ some v → calls_in w ≡ calls_in v → AnnouncedWith p s r slots (map calls_in s.views) → AnnouncedWith p s r slots (map calls_in (set s.views id w))
  announced_with s r id v w p slots at same h = subst (λ (l : List CallerCalls). AnnouncedWith p s r slots l) (sym (unseen calls_in s.views id v w at same)) h

  -- a step of the writer's that leaves the calls and the records as they are
  quiet_step : (s : St) (r : R s) (id : ℕ) (v : View) (p : Plan) (ws : List ℕ) → get_elem? s.views id ≡ some v → id ≡ r.writer → length ws ≡ length s.words → p.dealt ≡ r.plan.dealt → (shown b ws).indicators ≡ (shown b s.words).indicators → (shown b ws).slots ≡ (shown b s.words).slots
      → book_in p ≡ book_in r.plan → plan_calls p ≡ plan_calls r.plan
      → ((q : Position) (seen : List Entry) → ReadsNamedSide b.callers r.plan q → KeepsImage Contents go b r.plan.main r.plan.back q seen → KeepsImage Contents go b p.main p.back q seen)
      → IsWritten Contents go b r.start r.count (shown b ws) p
      → ((j : ℕ) (q : Position) → get_elem? (map position_in s.views) j ≡ some q → ReadsNamedSide b.callers r.plan q → ReadsNamedSide b.callers p q)
      → R (after_step s ws id (planned v p))
  quiet_step s r id v p ws at writes wide dealt indicators slots book calls_same images written behind = let l = r.limits.1 in
      writer_step s r id v (planned v p) p ws at writes refl refl refl refl refl (λ h. h) wide (omega arith, omega arith) indicators images written behind
      (λ m h. subst (λ (z : Book). Remembers r.count z m) (sym book) h) (subst (Recorded go b r.start r.count) (sym book) r.recorded)
      (announced_with s r id v (planned v p) p (shown b ws).slots at refl (subst (λ (z : List ℕ × PlanCalls). Announced (IsCall go b) b.callers z.0 r.count z.1 (map calls_in s.views)) (λ i. (sym slots i, sym calls_same i)) r.announced))

  -- once `side` was stored, nothing is clear
  pub not_clear : (p₀ p : Plan) (q : Position) → p.clear ≡ [] → ReadsNamedSide b.callers p₀ q → ReadsNamedSide b.callers p q
  not_clear p₀ p Out e h = tt
  not_clear p₀ p (Holds v) e h = tt
  not_clear p₀ p (Arrived k) e h = tt
  not_clear p₀ p (Reads k s f image) e h = (h.0, λ clear. let none_clear : has k p.clear ≡ false = ap (has k) e in cc)

  -- the writer's view, by the rule's plan and by its own
  pub same_view : (me : M) (f : Plan → Plan) (p q : Plan) → p ≡ q → (let y : M = (planned me.0 (f p), me.1) in y) ≡ (planned me.0 (f q), me.1)
  same_view me f p q e = ap (λ (z : Plan). let y : M = (planned me.0 (f z), me.1) in y) e

  -- what is clear then
  -- what is clear after it was clear before, or the indicator was found to be 0
  observed_clear : (v found w : ℕ) (p : Plan) → has w (observed v found p).clear ≡ true → (has w p.clear ≡ true) ⊎ ((w ≡ v) × (found ≡ 0))
  observed_clear v found w p h = dite (ℕ_discrete found 0)
      (λ z. dite (ℕ_discrete w v) (λ e. inr (e, z)) (λ ne. inl (cut ne (subst (λ (t : Bool). has w (cond t ((v, p.version) ∷ p.clear) p.clear) ≡ true) (eq-eqb found 0 z) (unwrap (eqb found 0) h)))))
      (λ nz. inl (subst (λ (t : Bool). has w (cond t ((v, p.version) ∷ p.clear) p.clear) ≡ true) (ne_eqb found 0 nz) (unwrap (eqb found 0) h)))
    where
      unwrap : (t : Bool) → has w (cond t (record p { clear = (v, p.version) ∷ p.clear }) p).clear ≡ true → has w (cond t ((v, p.version) ∷ p.clear) p.clear) ≡ true
      unwrap true k = k
      unwrap false k = k

      cut : w ≢ v → has w ((v, p.version) ∷ p.clear) ≡ true → has w p.clear ≡ true
      cut ne k = subst (λ (t : Bool). t || has w p.clear ≡ true) (ne_eqb w v ne) k

  still_behind : (s : St) (r : R s) (v found : ℕ) → v < indicator_count b.callers → found ≡ get_or s.words (indicator_at v) 0 → (j : ℕ) (q : Position) → get_elem? (map position_in s.views) j ≡ some q → ReadsNamedSide b.callers r.plan q → ReadsNamedSide b.callers (observed v found r.plan) q
  still_behind s r v found low is j Out e h = tt
  still_behind s r v found low is j (Holds w) e h = tt
  still_behind s r v found low is j (Arrived w) e h = tt
  still_behind s r v found low is j (Reads w x f image) e h = (
    h.0,
    λ clear. (⊎_elim h.1 (λ (t : (w ≡ v) × (found ≡ 0)).
        let count = indicator_is Contents go b s r v low in let z = t.1 in let one = any_here v j (map position_in s.views) (Reads w x f image) e (subst (λ (k : ℕ). hit k v ≡ 1) (sym t.0) (stands_here v)) in
        absurd (omega arith)) (observed_clear v found w r.plan clear)) ∙ sym ((observed_parts v found r.plan).2),
  )

  -- the writer loads the indicator of the version that isn't named
  pub checks_indicator : (slots id : ℕ) (me : M) (v : ℕ) → CanCheck me.0 v → Allows R slots id me (indicator_at v) (λ n. n) (checked_indicator (step slots (indicator_at v) 0 0 none) me)
  checks_indicator slots id me v can s r _ at _ = let writes = can.0 in let apart = can.2 in let u = me.0 in let low : v < indicator_count b.callers = subst (λ (n : ℕ). v < indicator_count n) (callers_are s r id u at) can.1 in let found : ℕ = get_or s.words (indicator_at v) 0 in let is = plan_is s r id u at writes in let p : Plan = r.plan in let q : Plan = observed v found p in let n = observed_parts v found p in (
    planned u q,
    keeps,
    tt,
    reload Contents go b s (indicator_at v) id (planned u q) (quiet_step s r id u q s.words at is.1 refl n.4 refl refl n.5 n.6
        (λ x seen _ k. subst (λ (z : List ℕ × List ℕ). KeepsImage Contents go b z.0 z.1 x seen) (λ c. (sym n.0 c, sym n.1 c)) k)
        record {
          side = r.written.side ∙ sym n.2;
          version = r.written.version ∙ sym n.3;
          main = r.written.main ∙ sym n.0;
          back = r.written.back ∙ sym n.1;
          side_low = subst (λ (z : ℕ). z < 2) (sym n.2) r.written.side_low;
          version_low = subst (λ (z : ℕ). z < 2) (sym n.3) r.written.version_low;
          published = subst (λ (z : ℕ × List ℕ × List ℕ × Book). Held Contents go b r.start r.count (side_of z.0 z.1 z.2) z.3.history) (λ c. (sym n.2 c, sym n.0 c, sym n.1 c, sym n.5 c)) r.written.published;
        }
        (λ j x e h. still_behind s r v found low refl j x e h)),
    λ v' same. let e : v ≡ v' = omega arith in ((λ z. apart (z ∙ ap version_of_indicator (sym e))), ap (λ (x : ℕ × Plan). let y : M = (planned u (observed x.0 found x.1), me.1) in y) (λ c. (e c, sym is.0 c))),
  )

  -- it stores `version`
  pub stores_version : (slots id : ℕ) (me : M) (to : ℕ) → CanStoreVersion me.0 to → Allows R slots id me version_at (λ _. to) (λ _. stored_version (step slots version_at to 0 none) me to)
  stores_version slots id me to can s r _ at _ = let writes = can.0 in let low = can.1 in let v = me.0 in let is = plan_is s r id v at writes in let p : Plan = r.plan in let q : Plan = record p { version = to } in let wide = r.wide in let now_shown = shown_version b s.words to (omega arith) in (
    planned v q,
    keeps,
    tt,
    quiet_step s r id v q (set s.words 1 to) at is.1 (length-set s.words 1 to) refl (ap (λ (t : Shown). t.indicators) now_shown) (ap (λ (t : Shown). t.slots) now_shown) refl refl
        (λ x seen _ k. k)
        (subst (λ (z : Shown). IsWritten Contents go b r.start r.count z q) (sym now_shown) record { side = r.written.side; version = refl; main = r.written.main; back = r.written.back; side_low = r.written.side_low; version_low = low; published = r.written.published })
        (λ j x _ h. behind_version p to x h),
    same_view me (λ z. record z { version = to }) p (plan_of v) (sym is.0),
  )
    where
      behind_version : (z : Plan) (x : ℕ) (q : Position) → ReadsNamedSide b.callers z q → ReadsNamedSide b.callers (record z { version = x }) q
      behind_version z x Out h = tt
      behind_version z x (Holds v) h = tt
      behind_version z x (Arrived v) h = tt
      behind_version z x (Reads v s f image) h = h

  -- it loads a word of a side
  pub loads_region : (slots id : ℕ) (me : M) (i : ℕ) → IsWriter me.0 (plan_of me.0) → Allows R slots id me i (λ n. n) (loaded_region (step slots i 0 0 none) me)
  loads_region slots id me i writes s r _ at _ = let v = me.0 in let is = plan_is s r id v at writes in let p : Plan = r.plan in let same = base_is s r id v at in (
    planned v p,
    keeps,
    tt,
    reload Contents go b s i id (planned v p) (quiet_step s r id v p s.words at is.1 refl refl refl refl refl refl (λ x seen _ k. k) r.written (λ j x _ h. h)),
    (
      same_view me (λ z. z) p (plan_of v) (sym is.0),
      λ side k low inside place. side_word Contents go b s r side k i low (subst (λ (z : Base). k < region_len z.order) same inside) (place ∙ ap (λ (z : Base). side_word_at z.order z.callers side k) same)
          ∙ ap (λ (z : Plan). get_or (side_of side z.main z.back) k 0) (sym is.0),
    ),
  )

  -- while both are clear, each reader reads the side named
  reads_named : (p : Plan) (main back : List ℕ) (q : Position) (seen : List Entry) → Settled b p → p.side ≡ 1 → ReadsNamedSide b.callers p q → KeepsImage Contents go b p.main back q seen → KeepsImage Contents go b main back q seen
  reads_named p main back Out seen clear named h k = tt
  reads_named p main back (Holds v) seen clear named h k = tt
  reads_named p main back (Arrived v) seen clear named h k = tt
  reads_named p main back (Reads v s f image) seen clear named h k = let e : s ≡ 1 = h.1 (clear v h.0) ∙ named in
      (k.0 ∙ (ap (λ (z : ℕ). side_of z p.main back) e ∙ ap (λ (z : ℕ). side_of z main back) (sym e)), k.1, k.2, k.3, k.4)

  -- it stores a word of main
  pub stores_main : (slots id : ℕ) (me : M) (k x : ℕ) → CanStore me.0 1 → k < region_len b.order
      → Allows R slots id me (main_word_at b.order b.callers k) (λ _. x) (λ _. stored_main (step slots (main_word_at b.order b.callers k) x 0 none) me x)
  stores_main slots id me k x can inside s r _ at _ = let writes = can.0 in let clear = can.1 in let named = can.2 in let v = me.0 in let is = plan_is s r id v at writes in let p : Plan = r.plan in let q : Plan = record p { main = set p.main k x } in let i : ℕ = main_word_at b.order b.callers k in
      let same = base_is s r id v at in let now_shown = shown_main b s.words k x inside in let clear' : Settled b p = subst (λ (z : Base × Plan). Settled z.0 z.1) (λ i. (same i, is.0 i)) clear in let named' : p.side ≡ 1 = ap (λ (z : Plan). z.side) (sym is.0) ∙ named in (
        planned v q,
        keeps,
        tt,
        quiet_step s r id v q (set s.words i x) at is.1 (length-set s.words i x) refl (ap (λ (t : Shown). t.indicators) now_shown) (ap (λ (t : Shown). t.slots) now_shown) refl refl
            (λ y seen h kept. reads_named p (set p.main k x) p.back y seen clear' named' h kept)
            (subst (λ (t : Shown). IsWritten Contents go b r.start r.count t q) (sym now_shown) record {
              side = r.written.side;
              version = r.written.version;
              main = ap (λ (l : List ℕ). set l k x) r.written.main;
              back = r.written.back;
              side_low = r.written.side_low;
              version_low = r.written.version_low;
              published = subst (λ (l : List ℕ). Held Contents go b r.start r.count l p.history) (ap (λ (z : ℕ). side_of z p.main p.back) named' ∙ ap (λ (z : ℕ). side_of z (set p.main k x) p.back) (sym named')) r.written.published;
            })
            (λ j y _ h. behind_main p y h),
        λ k' inside' place. let e : k ≡ k' = (let place' : i ≡ main_word_at b.order b.callers k' = place ∙ ap (λ (z : Base). main_word_at z.order z.callers k') same in omega arith) in
            ap (λ (z : ℕ × Plan). let y : M = (planned v (record z.1 { main = set z.1.main z.0 x }), me.1) in y) (λ c. (e c, sym is.0 c)),
      )
    where
      behind_main : (p : Plan) (q : Position) → ReadsNamedSide b.callers p q → ReadsNamedSide b.callers (record p { main = set p.main k x }) q
      behind_main p Out h = tt
      behind_main p (Holds v) h = tt
      behind_main p (Arrived v) h = tt
      behind_main p (Reads v s f image) h = h

  reads_other : (p : Plan) (main back : List ℕ) (q : Position) (seen : List Entry) → Settled b p → p.side ≡ 0 → ReadsNamedSide b.callers p q → KeepsImage Contents go b main p.back q seen → KeepsImage Contents go b main back q seen
  reads_other p main back Out seen clear named h k = tt
  reads_other p main back (Holds v) seen clear named h k = tt
  reads_other p main back (Arrived v) seen clear named h k = tt
  reads_other p main back (Reads v s f image) seen clear named h k = let e : s ≡ 0 = h.1 (clear v h.0) ∙ named in
      (k.0 ∙ (ap (λ (z : ℕ). side_of z main p.back) e ∙ ap (λ (z : ℕ). side_of z main back) (sym e)), k.1, k.2, k.3, k.4)

  -- it stores a word of back
  pub stores_back : (slots id : ℕ) (me : M) (k x : ℕ) → CanStore me.0 0 → k < region_len b.order
      → Allows R slots id me (back_word_at b.order b.callers k) (λ _. x) (λ _. stored_back (step slots (back_word_at b.order b.callers k) x 0 none) me x)
  stores_back slots id me k x can inside s r _ at _ = let writes = can.0 in let clear = can.1 in let named = can.2 in let v = me.0 in let is = plan_is s r id v at writes in let p : Plan = r.plan in let q : Plan = record p { back = set p.back k x } in let i : ℕ = back_word_at b.order b.callers k in
      let same = base_is s r id v at in let now_shown = shown_back b s.words k x inside in let clear' : Settled b p = subst (λ (z : Base × Plan). Settled z.0 z.1) (λ i. (same i, is.0 i)) clear in let named' : p.side ≡ 0 = ap (λ (z : Plan). z.side) (sym is.0) ∙ named in (
        planned v q,
        keeps,
        tt,
        quiet_step s r id v q (set s.words i x) at is.1 (length-set s.words i x) refl (ap (λ (t : Shown). t.indicators) now_shown) (ap (λ (t : Shown). t.slots) now_shown) refl refl
            (λ y seen h kept. reads_other p p.main (set p.back k x) y seen clear' named' h kept)
            (subst (λ (t : Shown). IsWritten Contents go b r.start r.count t q) (sym now_shown) record {
              side = r.written.side;
              version = r.written.version;
              main = r.written.main;
              back = ap (λ (l : List ℕ). set l k x) r.written.back;
              side_low = r.written.side_low;
              version_low = r.written.version_low;
              published = subst (λ (l : List ℕ). Held Contents go b r.start r.count l p.history) (ap (λ (z : ℕ). side_of z p.main p.back) named' ∙ ap (λ (z : ℕ). side_of z p.main (set p.back k x)) (sym named')) r.written.published;
            })
            (λ j y _ h. behind_back p y h),
        λ k' inside' place. let e : k ≡ k' = (let place' : i ≡ back_word_at b.order b.callers k' = place ∙ ap (λ (z : Base). back_word_at z.order z.callers k') same in omega arith) in
            ap (λ (z : ℕ × Plan). let y : M = (planned v (record z.1 { back = set z.1.back z.0 x }), me.1) in y) (λ c. (e c, sym is.0 c)),
      )
    where
      behind_back : (p : Plan) (q : Position) → ReadsNamedSide b.callers p q → ReadsNamedSide b.callers (record p { back = set p.back k x }) q
      behind_back p Out h = tt
      behind_back p (Holds v) h = tt
      behind_back p (Arrived v) h = tt
      behind_back p (Reads v s f image) h = h
