-- Seats that come and go: the rule stays where a view is added, and where a seat is spent
use Rattle.std.proofs.Common.{◌≡◌, ◌≢◌, ℕ, ◌+◌, ◌-◌, ◌*◌, ◌%◌, ◌^◌, ◌<◌, ◌≤◌, ◌⊎◌, List, [], ◌∷◌, ◌++◌, map, length, get_or, set, sym, refl, ap, ◌∙◌, subst, inl, inr, ⊎_elim, arith, Option, Some, None, Bool, true, false}
use mathlib.Core.Option.{some, none}
use mathlib.Core.List.{map-append}
use lib.ListN.{get_elem?}
use lib.Seq.{map-set}
use Rattle.atomic_table.specs.Table.{State, Me, step, keeps, Allows, Splits, Joins}
use Rattle.atomic_table.proofs.Lists.{at_set, at_map, at_snoc, set_else}
use Rattle.std.specs.List.{AllByRecursion}
use Rattle.rom_model.specs.Moments.{moments_of}
use Rattle.rom_model.specs.Seen.{StartsWith}
use Rattle.rom_model.specs.declared.entry.Entry.{Entry}
use Rattle.rom_rule.specs.Calls.{Announced, told_to_caller}
use Rattle.rom_rule.specs.Kinds.{CanDeal, CanJoin, caught_up, dealing, informed, newcomer, note_of, noting, planned, reviewed, spent_as}
use Rattle.rom_rule.specs.Places.{shown}
use Rattle.rom_rule.specs.Readers.{ShowsArrivals, Differ, HoldsNothing, IsNumbered, IsWritten, KeepsImage, ReadsNamedSide, StandsAtOwn, any_stands, stands}
use Rattle.rom_rule.specs.Records.{IsCall, IsDated, IsKeptInBook, KnowsEntries, KnowsMoments, Recorded, Remembers}
use Rattle.rom_rule.specs.Rule.{IsOnlyPlan, IsRuled}
use Rattle.rom_rule.specs.Views.{Book, CallerCalls, Each, IsWriter, base_in, book_in, calls_in, kept_of, number_in, plan_calls, plan_in, plan_of, position_in, reading_in, records_of, remembered_in}
use Rattle.rom_rule.specs.declared.views.Base.{Base}
use Rattle.rom_rule.specs.declared.views.Plan.{Plan}
use Rattle.rom_rule.specs.declared.views.Position.{Position}
use Rattle.rom_rule.specs.declared.views.Position.TheVariants.{Arrived, Holds, Out, Reads}
use Rattle.rom_rule.specs.declared.views.View.{View}
use Rattle.rom_rule.proofs.Frames.{each_set, frame, unseen}
use Rattle.rom_rule.proofs.Readers.{caller_step, still, remembered_of, announced_on, reload}
use Rattle.rom_rule.proofs.Standing.{any_more, own_nowhere}
use Rattle.rom_rule.proofs.Dated.{dated_later, dated_nothing, dated_now, moments_known}
use Rattle.rom_rule.proofs.Told.{all_append, all_map, starts_le}
use Rattle.rom_rule.proofs.Own.{knows_on, told_all}
use Rattle.rom_rule.proofs.Joining.{notes, deals, merges, all_told_whole}
use Rattle.rom_rule.proofs.Writes.{plan_is, base_is, writer_step, announced_with}

module _ {A B : Type 0} where
  pub each_snoc : (P : ℕ → B → Type 0) (p : A → B) (xs : List A) (a : A) → Each P (map p xs) → ((j : ℕ) → P j (p a)) → Each P (map p (xs ++ a ∷ []))
  each_snoc P p xs a h here j b e = ⊎_elim (λ (t : get_elem? (map p xs) j ≡ some b). h j b t) (λ (t : p a ≡ b). subst (P j) t (here j))
      (at_snoc (map p xs) (p a) b j (subst (λ (l : List B). get_elem? l j ≡ some b) (map-append p xs (a ∷ [])) e))

-- a new number, above the others
pub differ_snoc : (ns : List ℕ) (n : ℕ) → Differ ns → (0 < n → Each (λ _ k. k < n) ns) → Differ (ns ++ n ∷ [])
differ_snoc ns n d above i j k e f pos = ⊎_elim
    (λ (t : get_elem? ns i ≡ some k). ⊎_elim (λ (u : get_elem? ns j ≡ some k). d i j k t u pos) (λ (u : n ≡ k). let h = above (omega arith) i k t in absurd (omega arith)) (at_snoc ns n k j f))
    (λ (t : n ≡ k). ⊎_elim (λ (u : get_elem? ns j ≡ some k). let h = above (omega arith) j k u in absurd (omega arith)) (λ (u : n ≡ k). last_both ns n k i j pos (λ l. above (omega arith)) e f t) (at_snoc ns n k j f)) (at_snoc ns n k i e)
  where
    last_at : (ms : List ℕ) (m q x : ℕ) → (0 < m → Each (λ _ y. y < m) ms) → 0 < m → m ≡ q → get_elem? (ms ++ m ∷ []) x ≡ some q → x ≡ length ms
    last_at [] m q Rattle.std.proofs.Common.zero a p h e' = refl
    last_at [] m q (Rattle.std.proofs.Common.suc x) a p h e' = absurd (mathlib.Core.Option.some-ne-none q (sym e'))
    last_at (z ∷ ms) m q Rattle.std.proofs.Common.zero a p h e' = let same = mathlib.Core.Option.some-injective z q e' in let l = a p 0 z refl in absurd (omega arith)
    last_at (z ∷ ms) m q (Rattle.std.proofs.Common.suc x) a p h e' = let r = last_at ms m q x (λ l y b c. a l (Rattle.std.proofs.Common.suc y) b c) p h e' in omega arith

    last_both : (ms : List ℕ) (m q x y : ℕ) → 0 < q → (0 < m → Each (λ _ w. w < m) ms) → get_elem? (ms ++ m ∷ []) x ≡ some q → get_elem? (ms ++ m ∷ []) y ≡ some q → m ≡ q → x ≡ y
    last_both ms m q x y pq a ex ey h = let p : 0 < m = omega arith in last_at ms m q x a p h ex ∙ sym (last_at ms m q y a p h ey)

module _ {S : Type 0} (Contents : ℕ → List ℕ → S → ℕ → Type 0) (go : ℕ → S → ℕ → List ℕ → Option (S × List ℕ)) (b : Base) where
  abbrev St : Type 0
  St = State ℕ View

  abbrev M : Type 0
  M = Me ℕ View

  abbrev R : St → Type 0
  R = IsRuled Contents go b

  abbrev with_view : St → View → St
  with_view s w = record { words = s.words; homes = s.homes; views = s.views ++ w ∷ [] }

  -- a view that stands nowhere is added
  joined : (s : St) (r : R s) (w : View) → w.base ≡ b → w.plan ≡ None → w.position ≡ Out → Remembers r.count (book_in r.plan) (remembered_in w)
      → w.number ≤ r.plan.dealt → (0 < w.number → Each (λ _ k. k < w.number) (map number_in s.views)) → Announced (IsCall go b) b.callers (shown b s.words).slots r.count (plan_calls r.plan) (map calls_in s.views ++ calls_in w ∷ []) → HoldsNothing w → R (with_view s w)
  joined s r w base plan_same out memory low fresh announced bare = record {
    plan = r.plan;
    writer = r.writer;
    start = r.start;
    count = r.count;
    opening = r.opening;
    wide = r.wide;
    limits = r.limits;
    bases = each_snoc (λ _ c. c ≡ b) base_in s.views w r.bases (λ _. base);
    plans = each_snoc (IsOnlyPlan r.plan r.writer) plan_in s.views w r.plans (λ j. subst (IsOnlyPlan r.plan r.writer j) (sym plan_same) tt);
    arrivals = λ v lt. r.arrivals v lt ∙ sym (ap (any_stands v) (map-append position_in s.views (w ∷ [])) ∙ any_more v (map position_in s.views) w.position (ap (stands v) out));
    images = each_snoc (λ _ c. KeepsImage Contents go b r.plan.main r.plan.back c.0 c.1) reading_in s.views w r.images (λ _. subst (λ (p : Position). KeepsImage Contents go b r.plan.main r.plan.back p w.seen) (sym out) tt);
    written = r.written;
    named = each_snoc (λ _. ReadsNamedSide b.callers r.plan) position_in s.views w r.named (λ _. subst (ReadsNamedSide b.callers r.plan) (sym out) tt);
    remembered = each_snoc (λ _. Remembers r.count (book_in r.plan)) remembered_in s.views w r.remembered (λ _. memory);
    recorded = r.recorded;
    announced = subst (λ (l : List CallerCalls). Announced (IsCall go b) b.callers (shown b s.words).slots r.count (plan_calls r.plan) l) (sym (map-append calls_in s.views (w ∷ []))) announced;
    seats = record {
      differ = subst Differ (sym (map-append number_in s.views (w ∷ []))) (differ_snoc (map number_in s.views) w.number r.seats.differ fresh);
      given = each_snoc (λ _ n. n ≤ r.plan.dealt) number_in s.views w r.seats.given (λ _. low);
      standing = λ j c e. ⊎_elim (r.seats.standing j c) (λ (t : w ≡ c). subst IsNumbered t (λ h. absurd (h out))) (at_snoc s.views w c j e);
      own = λ j c e. ⊎_elim (r.seats.own j c) (λ (t : w ≡ c). subst StandsAtOwn t (own_nowhere w (λ k. ap (stands k) out))) (at_snoc s.views w c j e);
      bare = λ j c e. ⊎_elim (r.seats.bare j c) (λ (t : w ≡ c). subst HoldsNothing t bare) (at_snoc s.views w c j e);
    };
  }

  at_self : (vs : List View) (id : ℕ) (v w : View) → get_elem? vs id ≡ some v → get_elem? (set vs id w) id ≡ some w
  at_self [] id v w e = absurd (mathlib.Core.Option.some-ne-none v (sym e))
  at_self (x ∷ xs) Rattle.std.proofs.Common.zero v w e = refl
  at_self (x ∷ xs) (Rattle.std.proofs.Common.suc id) v w e = at_self xs id v w e

  differ_zero : (ns : List ℕ) (k : ℕ) → Differ ns → Differ (set ns k 0)
  differ_zero ns k d i j n e f pos = d i j n (old i n pos e) (old j n pos f) pos
    where
      old : (x m : ℕ) → 0 < m → get_elem? (set ns k 0) x ≡ some m → get_elem? ns x ≡ some m
      old x m p h = ⊎_elim (λ (t : (x ≡ k) × (0 ≡ m)). absurd (omega arith)) (λ (t : (x ≢ k) × (get_elem? ns x ≡ some m)). t.1) (at_set ns k x 0 m h)

  -- a step of a seat that is out, which changes no word
  steps_out : (s : St) (r : R s) (id : ℕ) (v w : View) → get_elem? s.views id ≡ some v → v.position ≡ Out → w.position ≡ Out → w.base ≡ v.base → w.plan ≡ v.plan → w.number ≡ v.number → Remembers r.count (book_in r.plan) (remembered_in w) → calls_in w ≡ calls_in v → (HoldsNothing v → HoldsNothing w)
      → R record { words = s.words; homes = s.homes; views = set s.views id w }
  steps_out s r id v w at out out' base plan_same number memory same_calls_too bare = caller_step Contents go b s r id v w s.words at base plan_same number refl (still Contents go b s r id v w at (λ i. ap (stands i) (out ∙ sym out')))
      (subst (λ (p : Position). KeepsImage Contents go b r.plan.main r.plan.back p w.seen) (sym out') tt) r.written (subst (ReadsNamedSide b.callers r.plan) (sym out') tt) memory (announced_on Contents go b s r id v w (shown b s.words).slots at refl same_calls_too) (λ h. absurd (h out')) (λ _. own_nowhere w (λ k. ap (stands k) out')) bare

  -- a note is taken
  pub takes_note : (id : ℕ) (v : View) → v.position ≡ Out → Splits R id v (noting v) (note_of v)
  unfolding steps_out caller_step
  takes_note id v out s r at = let m = remembered_of Contents go b s r id v at in let t = steps_out s r id v (noting v) at out out refl refl refl m refl (λ h. h) in
      joined _ t (note_of v) (base_is Contents go b s r id v at) refl refl record { seen = m.seen; dated = m.dated; fronts = tt; joined = tt } (omega arith) (λ z. absurd (omega arith))
      (notes (IsCall go b) b.callers r.count (shown b s.words).slots (plan_calls r.plan) _ t.announced (calls_in (note_of v)) refl refl refl refl) (λ _. (refl, refl, refl, refl))

  -- the writer gives the next number to a new seat
  pub deals_number : (id : ℕ) (v : View) → CanDeal v → Splits R id v (dealing v) (newcomer v)
  unfolding writer_step
  deals_number id v can s r at = let writes = can.0 in let out = can.1 in let room : (plan_of v).dealt < b.callers = subst (λ (z : Base). (plan_of v).dealt < z.callers) (base_is Contents go b s r id v at) can.2 in let is = plan_is Contents go b s r id v at writes in let all = is.0 in let q : Plan = record (plan_of v) { dealt = (plan_of v).dealt + 1 } in let d = ap (λ (z : Plan). z.dealt) all in
      let books : book_in q ≡ book_in r.plan = ap book_in all in let limits = r.limits.1 in
      let more = deals (IsCall go b) b.callers r.count (shown b s.words).slots (plan_calls r.plan) (map calls_in s.views) r.announced (calls_in (newcomer v)) (ap (λ (z : Plan). let t : CallerCalls = record { number = z.dealt + 1; calls = []; outcomes = []; laid = []; since = 0; joined = [] } in t) all) (omega arith) in
      let first = subst (λ (z : Plan). Announced (IsCall go b) b.callers (shown b s.words).slots r.count (plan_calls (record z { dealt = z.dealt + 1 })) (map calls_in s.views)) (sym all) (dealt_alone s r) in
      let t = writer_step Contents go b s r id v (dealing v) q s.words at is.1 refl refl refl refl refl (λ h. h) refl (omega arith, omega arith) refl
      (λ x seen _ k. subst (λ (z : Plan). KeepsImage Contents go b z.main z.back x seen) (sym all) k)
      (subst (λ (z : Plan). IsWritten Contents go b r.start r.count (shown b s.words) (record z { dealt = z.dealt + 1 })) (sym all) record {
        side = r.written.side;
        version = r.written.version;
        main = r.written.main;
        back = r.written.back;
        side_low = r.written.side_low;
        version_low = r.written.version_low;
        published = r.written.published;
      })
      (λ j x _ h. subst (λ (z : Plan). ReadsNamedSide b.callers (record z { dealt = z.dealt + 1 }) x) (sym all) (behind r.plan x h))
      (λ m h. subst (λ (z : Book). Remembers r.count z m) (sym books) h) (subst (Recorded go b r.start r.count) (sym books) r.recorded)
      (announced_with Contents go b s r id v (dealing v) q (shown b s.words).slots at refl first) in
      joined _ t (newcomer v) (base_is Contents go b s r id v at) refl refl record { seen = (q.history, refl); dated = dated_nothing (records_of q); fronts = tt; joined = tt } (omega arith)
      (λ _. subst (λ (l : List ℕ). Each (λ _ k. k < (plan_of v).dealt + 1) l) (sym (unseen number_in s.views id v (dealing v) at refl)) (λ j k e. let n = r.seats.given j k e in omega arith))
      (subst (λ (z : List CallerCalls × Plan). Announced (IsCall go b) b.callers (shown b s.words).slots r.count (plan_calls (record z.1 { dealt = z.1.dealt + 1 })) (z.0 ++ calls_in (newcomer v) ∷ [])) (λ i. (sym (unseen calls_in s.views id v (dealing v) at refl) i, sym all i)) more) (λ _. (refl, refl, refl, refl))
    where
      behind : (z : Plan) (x : Position) → ReadsNamedSide b.callers z x → ReadsNamedSide b.callers (record z { dealt = z.dealt + 1 }) x
      behind z Out h = tt
      behind z (Holds y) h = tt
      behind z (Arrived y) h = tt
      behind z (Reads y s' f image) h = h

      dealt_alone : (s : St) (r : R s) → Announced (IsCall go b) b.callers (shown b s.words).slots r.count (plan_calls (record r.plan { dealt = r.plan.dealt + 1 })) (map calls_in s.views)
      dealt_alone s r = record {
        calls = r.announced.calls;
        given = r.announced.given;
        closed = r.announced.closed;
        fresh = λ d past. r.announced.fresh d (omega arith);
        each = r.announced.each;
        views = λ j y e. let k = r.announced.views j y e in record { live = k.live; joined = k.joined; mine = k.mine; outcomes = k.outcomes; taken_le = k.taken_le; laid_there = k.laid_there; laid_few = k.laid_few; since_le = k.since_le; since = k.since };
        requests = record { all_open = r.announced.requests.all_open; scanned = r.announced.requests.scanned; unmade = r.announced.requests.unmade };
        known = r.announced.known;
      }

  -- a seat keeps what another knew
  pub joins_views : (id : ℕ) (v : View) (other : ℕ) (w : View) (base : Base) → base ≡ v.base → CanJoin v w → Joins R id v other w (informed v w) (spent_as base)
  joins_views id v other w base same can s r at apart there = let out = can.0 in let idle = can.1 in let no_plan = can.2 in let v' : View = informed v w in let w' : View = spent_as base in let had : get_elem? s.views other ≡ some w = subst (λ (m : mathlib.Core.Option.Option View). m ≡ some w) (set_else s.views id other v' apart) there in
      let m = remembered_of Contents go b s r id v at in let n = remembered_of Contents go b s r other w had in let views' : List View = set s.views id v' in
      let low = r.limits.1 in let dealt = r.seats.given other w.number (at_map number_in s.views other w had) in record {
        plan = r.plan;
        writer = r.writer;
        start = r.start;
        count = r.count;
        opening = r.opening;
        wide = r.wide;
        limits = r.limits;
        bases = each_set (λ _ c. c ≡ b) (λ _ c. c ≡ b) base_in views' other w' (λ _ _ _ h. h) (same ∙ base_is Contents go b s r id v at) (frame base_in (Each (λ _ c. c ≡ b)) s.views id v v' at refl r.bases);
        plans = each_set (IsOnlyPlan r.plan r.writer) (IsOnlyPlan r.plan r.writer) plan_in views' other w' (λ _ _ _ h. h) tt (frame plan_in (Each (IsOnlyPlan r.plan r.writer)) s.views id v v' at refl r.plans);
        arrivals = subst (λ (l : List Position). ShowsArrivals b.callers (shown b s.words).indicators l) (sym (unseen position_in views' other w w' there (sym idle.0) ∙ unseen position_in s.views id v v' at refl)) r.arrivals;
        images = each_set (λ _ c. KeepsImage Contents go b r.plan.main r.plan.back c.0 c.1) (λ _ c. KeepsImage Contents go b r.plan.main r.plan.back c.0 c.1) reading_in views' other w' (λ _ _ _ h. h) tt (frame reading_in (Each (λ _ c. KeepsImage Contents go b r.plan.main r.plan.back c.0 c.1)) s.views id v v' at refl r.images);
        written = r.written;
        named = frame position_in (Each (λ _. ReadsNamedSide b.callers r.plan)) views' other w w' there (sym idle.0) (frame position_in (Each (λ _. ReadsNamedSide b.callers r.plan)) s.views id v v' at refl r.named);
        remembered = each_set (λ _. Remembers r.count (book_in r.plan)) (λ _. Remembers r.count (book_in r.plan)) remembered_in views' other w' (λ _ _ _ h. h) record { seen = (r.plan.history, refl); dated = dated_nothing (records_of r.plan); fronts = tt; joined = tt }
            (each_set (λ _. Remembers r.count (book_in r.plan)) (λ _. Remembers r.count (book_in r.plan)) remembered_in s.views id v' (λ _ _ _ h. h) record {
              seen = m.seen;
              dated = m.dated;
              fronts = m.fronts;
              joined = all_append (IsKeptInBook r.count (book_in r.plan)) v.joined (kept_of w ∷ w.joined) m.joined ((n.seen, n.fronts, n.dated), n.joined);
            } r.remembered);
        recorded = r.recorded;
        announced = merges (IsCall go b) b.callers r.count (shown b s.words).slots (plan_calls r.plan) s.views r.announced id other v w v' w' at had apart r.seats.differ (omega arith) dealt idle.1 refl refl;
        seats = record {
          differ = subst Differ (ap (λ (l : List ℕ). set l other 0) (sym (unseen number_in s.views id v v' at refl)) ∙ sym (map-set number_in views' other w')) (differ_zero (map number_in s.views) other r.seats.differ);
          given = each_set (λ _ k. k ≤ r.plan.dealt) (λ _ k. k ≤ r.plan.dealt) number_in views' other w' (λ _ _ _ h. h) (omega arith) (frame number_in (Each (λ _ k. k ≤ r.plan.dealt)) s.views id v v' at refl r.seats.given);
          standing = λ j c e. ⊎_elim (λ (t : (j ≡ other) × (w' ≡ c)). subst IsNumbered t.1 (λ h. absurd (h refl))) (λ (t : (j ≢ other) × (get_elem? views' j ≡ some c)).
              ⊎_elim (λ (u : (j ≡ id) × (v' ≡ c)). subst IsNumbered u.1 (r.seats.standing id v at)) (λ (u : (j ≢ id) × (get_elem? s.views j ≡ some c)). r.seats.standing j c u.1) (at_set s.views id j v' c t.1)) (at_set views' other j w' c e);
          own = λ j c e. ⊎_elim (λ (t : (j ≡ other) × (w' ≡ c)). subst StandsAtOwn t.1 (own_nowhere w' (λ _. refl))) (λ (t : (j ≢ other) × (get_elem? views' j ≡ some c)).
              ⊎_elim (λ (u : (j ≡ id) × (v' ≡ c)). subst StandsAtOwn u.1 (r.seats.own id v at)) (λ (u : (j ≢ id) × (get_elem? s.views j ≡ some c)). r.seats.own j c u.1) (at_set s.views id j v' c t.1)) (at_set views' other j w' c e);
          bare = λ j c e. ⊎_elim (λ (t : (j ≡ other) × (w' ≡ c)). subst HoldsNothing t.1 (λ _. (refl, refl, refl, refl))) (λ (t : (j ≢ other) × (get_elem? views' j ≡ some c)).
              ⊎_elim (λ (u : (j ≡ id) × (v' ≡ c)). subst HoldsNothing u.1 (r.seats.bare id v at)) (λ (u : (j ≢ id) × (get_elem? s.views j ≡ some c)). r.seats.bare j c u.1) (at_set s.views id j v' c t.1)) (at_set views' other j w' c e);
        };
      }

  -- a caller sees as much as the views had that it keeps
  pub catches_up : (slots id : ℕ) (me : M) → me.0.position ≡ Out → Allows R slots id me 0 (λ n. n) (caught_up Contents go (step slots 0 0 0 none) me)
  catches_up slots id me out s r _ at _ = let v = me.0 in let m = remembered_of Contents go b s r id v at in let p = r.plan in let moments : List ℕ = moments_of 0 (records_of p) in let w : View = record v { seen = p.history; moments = moments; steps = v.steps + 1 } in
      let all : StartsWith p.history p.history = ([], sym (mathlib.Core.List.append-nil p.history)) in let dated : IsDated (records_of p) (length p.history) moments = dated_now Contents go b r.start r.count (book_in p) r.recorded in
      let later = (λ (seen : List Entry) (had : List ℕ) (begins : StartsWith p.history seen) (h : IsDated (records_of p) (length seen) had). dated_later Contents go b r.start r.count (book_in p) r.recorded (length seen) had (length p.history) moments h dated (starts_le p.history seen begins)) in (
        w,
        keeps,
        tt,
        reload Contents go b s 0 id w (steps_out s r id v w at out out refl refl refl record { seen = all; dated = dated; fronts = m.fronts; joined = m.joined } refl (λ h. h)),
        (
          p.history,
          moments,
          m.seen,
          all_map (IsKeptInBook r.count (book_in p)) (λ k. StartsWith p.history k.seen × StartsWith moments k.moments) v.joined (λ k h. (h.0, later k.seen k.moments h.0 h.2)) m.joined,
          later v.seen v.moments m.seen m.dated,
          subst (λ (z : Base). KnowsMoments Contents go z p.history moments) (sym (base_is Contents go b s r id v at)) (moments_known Contents go b r.start r.count (book_in p) r.recorded r.opening p.history moments all dated),
          refl,
          λ n none_open knew. subst (λ (z : Base). KnowsEntries z.callers n w) (sym (base_is Contents go b s r id v at))
              (knows_on Contents go b s r w n v.seen all m.seen knew.own (told_all Contents go b s r id v at none_open)),
        ),
      )

  module _ (one : (order : ℕ) (words : List ℕ) (s t : S) (j k : ℕ) → Contents order words s j → Contents order words t k → (s ≡ t) × (j ≡ k)) where
    -- the writer sees that what it keeps agrees with the records
    pub reviews : (slots id : ℕ) (me : M) → IsWriter me.0 (plan_of me.0) → me.0.position ≡ Out → Allows R slots id me 0 (λ n. n) (reviewed Contents go (step slots 0 0 0 none) me)
    reviews slots id me writes out s r _ at _ = let v = me.0 in let is = plan_is Contents go b s r id v at writes in let base = base_is Contents go b s r id v at in let m = remembered_of Contents go b s r id v at in let w : View = record v { steps = v.steps + 1 } in
        let same : w ≡ planned v (plan_of v) = (λ i. record v { plan = writes i; steps = v.steps + 1 }) in (
          w,
          keeps,
          tt,
          reload Contents go b s 0 id w (steps_out s r id v w at out out refl refl refl m refl (λ h. h)),
          (
            (λ i. (same i, me.1)),
            subst (λ (z : Plan). AllByRecursion (λ k. 0 < k.number → told_to_caller z.told k.number ≡ k.told) v.joined) (sym is.0) (all_told_whole (IsCall go b) b.callers r.count (shown b s.words).slots (plan_calls r.plan) s.views r.announced id v at),
            subst (λ (z : Base × Plan). AllByRecursion (λ x. (0 < x.0.caller) × (x.0.caller ≤ z.0.callers)) z.1.told) (λ i. (sym base i, sym is.0 i)) r.announced.known,
            subst (λ (z : Base × Plan). (t : S) (n : ℕ) → Contents z.0.order z.0.image t n → Recorded go z.0 t n (book_in z.1) × AllByRecursion (IsKeptInBook n (book_in z.1)) v.joined) (λ i. (sym base i, sym is.0 i))
                (λ t n held. let e = one b.order b.image r.start t r.count n r.opening held in
                subst (λ (z : S × ℕ). Recorded go b z.0 z.1 (book_in r.plan) × AllByRecursion (IsKeptInBook z.1 (book_in r.plan)) v.joined) (λ i. (e.0 i, e.1 i)) (r.recorded, m.joined)),
          ),
        )
