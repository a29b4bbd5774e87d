-- Each kind of step keeps the rule
use Rattle.rom_model.specs.Blocks.{region_len}
use Rattle.std.proofs.Common.{◌≡◌, ◌≢◌, ℕ, ◌+◌, ◌*◌, ◌<◌, ◌≤◌, List, [], ◌∷◌, map, length, get_or, set, sym, refl, ap, ◌∙◌, subst, ⊎_elim, arith, Option, length-set, get_or-set_other, get_or-set_same, eqb, cond, Bool, true, false}
use mathlib.Core.Logic.{dite}
use mathlib.Core.Option.{some}
use native.Mathlib.Decide.{ℕ_discrete}
use lib.ListN.{get_elem?}
use lib.Seq.{set-get_or}
use Rattle.atomic_table.specs.Table.{State, Me, step, keeps, Allows}
use mathlib.Core.Option.{none}
use Rattle.atomic_table.proofs.Lists.{at_set}
use Rattle.rom_model.specs.Moments.{moments_of}
use Rattle.rom_model.specs.Seen.{StartsWith}
use Rattle.rom_model.specs.declared.entry.Entry.{Entry}
use Rattle.rom_rule.specs.Calls.{Announced}
use Rattle.rom_rule.specs.Kinds.{HasArrived, HoldsVersion, IsOut, IsReading, StandsAt, arrived, departed, entering, loaded_image, loaded_side, loaded_version, moved}
use Rattle.rom_rule.specs.Places.{Shown, back_word_at, indicator_at, indicator_count, indicator_of, main_word_at, offset_of_indicator, shown, side_at, side_word_at, slots_at, version_at}
use Rattle.rom_rule.specs.Readers.{ShowsArrivals, Differ, HoldsNothing, IsNumbered, IsWritten, KeepsImage, ReadsNamedSide, IsHeldSinceOpening, StandsAtOwn, any_stands, stands}
use Rattle.rom_rule.specs.Records.{IsCall, IsDated, IsRecordedFront, KnowsMoments, Remembers}
use Rattle.rom_rule.specs.Rule.{IsOnlyPlan, IsRuled}
use Rattle.rom_rule.specs.Views.{CallerCalls, Each, base_in, book_in, calls_in, image_of, indicator_in, is_reading, number_in, plan_calls, plan_in, position_in, reading_in, records_of, remembered_in, side_of, side_read, version_of}
use Rattle.rom_rule.specs.declared.views.Base.{Base}
use Rattle.rom_rule.specs.declared.views.Position.{Position}
use Rattle.rom_rule.specs.declared.views.Position.TheVariants.{Arrived, Holds, Out, Reads}
use Rattle.rom_rule.specs.declared.views.View.{View}
use Rattle.rom_rule.proofs.Frames.{frame, each_set, each_at}
use Rattle.rom_rule.proofs.Parts.{part_get, part_long, shown_indicators}
use Rattle.rom_rule.proofs.Standing.{any_left, any_now, any_same, elsewhere, own_here, own_nowhere, stands_here, stands_one, stands_only}
use Rattle.rom_rule.proofs.Told.{all_append, starts_le}
use Rattle.rom_rule.proofs.Joining.{same_calls}
use Rattle.rom_rule.proofs.Books.{front_now}
use Rattle.rom_rule.proofs.Dated.{dated_later, dated_now, moments_known}
use Rattle.rom_rule.proofs.Own.{knows_told, knows_whole, told_all}

module _ {S : Type 0} (Contents : ℕ → List ℕ → S → ℕ → Type 0) (go : ℕ → S → ℕ → List ℕ → Option (S × List ℕ)) (b : Base) where
  abbrev pub St : Type 0
  St = State ℕ View

  abbrev pub M : Type 0
  M = Me ℕ View

  abbrev pub R : St → Type 0
  R = IsRuled Contents go b

  abbrev pub after_step : St → List ℕ → ℕ → View → St
  after_step s ws id w = record { words = ws; homes = s.homes; views = set s.views id w }

  abbrev pub AnnouncedIn : (s : St) → R s → List ℕ → List CallerCalls → Type 0
  AnnouncedIn s r slots all_calls = Announced (IsCall go b) b.callers slots r.count (plan_calls r.plan) all_calls

  -- what stays the same at each step of a caller's
  unfoldable pub caller_step : (s : St) (r : R s) (id : ℕ) (v w : View) (ws : List ℕ) → get_elem? s.views id ≡ some v → w.base ≡ v.base → w.plan ≡ v.plan → w.number ≡ v.number → length ws ≡ length s.words
      → ShowsArrivals b.callers (shown b ws).indicators (map position_in (set s.views id w)) → KeepsImage Contents go b r.plan.main r.plan.back w.position w.seen → IsWritten Contents go b r.start r.count (shown b ws) r.plan
      → ReadsNamedSide b.callers r.plan w.position → Remembers r.count (book_in r.plan) (remembered_in w) → AnnouncedIn s r (shown b ws).slots (map calls_in (set s.views id w)) → IsNumbered w → (StandsAtOwn v → StandsAtOwn w) → (HoldsNothing v → HoldsNothing w) → R (after_step s ws id w)
  caller_step s r id v w ws at base plan_same number wide arrivals image written behind memory announced holder own bare = record {
    plan = r.plan;
    writer = r.writer;
    start = r.start;
    count = r.count;
    opening = r.opening;
    wide = wide ∙ r.wide;
    limits = r.limits;
    bases = frame base_in (Each (λ _ c. c ≡ b)) s.views id v w at base r.bases;
    plans = frame plan_in (Each (IsOnlyPlan r.plan r.writer)) s.views id v w at plan_same r.plans;
    arrivals = arrivals;
    images = each_set (λ _ c. KeepsImage Contents go b r.plan.main r.plan.back c.0 c.1) (λ _ c. KeepsImage Contents go b r.plan.main r.plan.back c.0 c.1) reading_in s.views id w (λ _ _ _ h. h) image r.images;
    written = written;
    named = each_set (λ _. ReadsNamedSide b.callers r.plan) (λ _. ReadsNamedSide b.callers r.plan) position_in s.views id w (λ _ _ _ h. h) behind r.named;
    remembered = each_set (λ _. Remembers r.count (book_in r.plan)) (λ _. Remembers r.count (book_in r.plan)) remembered_in s.views id w (λ _ _ _ h. h) memory r.remembered;
    recorded = r.recorded;
    announced = announced;
    seats = record {
      differ = frame number_in Differ s.views id v w at number r.seats.differ;
      given = frame number_in (Each (λ _ n. n ≤ r.plan.dealt)) s.views id v w at number r.seats.given;
      standing = λ j c e. ⊎_elim (λ (t : (j ≡ id) × (w ≡ c)). subst IsNumbered t.1 holder) (λ (t : (j ≢ id) × (get_elem? s.views j ≡ some c)). r.seats.standing j c t.1) (at_set s.views id j w c e);
      own = λ j c e. ⊎_elim (λ (t : (j ≡ id) × (w ≡ c)). subst StandsAtOwn t.1 (own (r.seats.own id v at))) (λ (t : (j ≢ id) × (get_elem? s.views j ≡ some c)). r.seats.own j c t.1) (at_set s.views id j w c e);
      bare = λ j c e. ⊎_elim (λ (t : (j ≡ id) × (w ≡ c)). subst HoldsNothing t.1 (bare (r.seats.bare id v at))) (λ (t : (j ≢ id) × (get_elem? s.views j ≡ some c)). r.seats.bare j c t.1) (at_set s.views id j w c e);
    };
  }

  -- calls, where a step leaves them and the slots
  pub announced_on : (s : St) (r : R s) (id : ℕ) (v w : View) (slots : List ℕ) → get_elem? s.views id ≡ some v → slots ≡ (shown b s.words).slots → calls_in w ≡ calls_in v → AnnouncedIn s r slots (map calls_in (set s.views id w))
  announced_on s r id v w slots at same same_calls_too = subst (λ (l : List ℕ). AnnouncedIn s r l (map calls_in (set s.views id w))) (sym same) (same_calls (IsCall go b) b.callers r.count (shown b s.words).slots (plan_calls r.plan) s.views r.announced id v w at same_calls_too)

  pub remembered_of : (s : St) (r : R s) (id : ℕ) (v : View) → get_elem? s.views id ≡ some v → Remembers r.count (book_in r.plan) (remembered_in v)
  remembered_of s r id v at = each_at (λ _. Remembers r.count (book_in r.plan)) remembered_in s.views id v at r.remembered

  pub reload : (s : St) (i id : ℕ) (w : View) → R (after_step s s.words id w) → R (after_step s (set s.words i (get_or s.words i 0)) id w)
  reload s i id w r = subst (λ (ws : List ℕ). R (after_step s ws id w)) (sym (set-get_or s.words i 0)) r

  -- the word of an indicator is 1 where a view stands there, else 0
  pub indicator_is : (s : St) (r : R s) (i : ℕ) → i < indicator_count b.callers → get_or s.words (indicator_at i) 0 ≡ any_stands i (map position_in s.views)
  unfolding shown
  indicator_is s r i low = sym (part_get 14 (8 * b.callers) s.words (offset_of_indicator i) (omega (arith, low))) ∙ r.arrivals i low

  pub indicators_long : (s : St) (r : R s) → length (shown b s.words).indicators ≡ 8 * b.callers
  unfolding shown
  indicators_long s r = let w = r.wide in part_long 14 (8 * b.callers) s.words (omega arith)

  -- a store of x to the indicator v, after which one view or none stands there
  stored : (s : St) (r : R s) (id v x : ℕ) (u w : View) → get_elem? s.views id ≡ some u → v < indicator_count b.callers → any_stands v (map position_in (set s.views id w)) ≡ x
      → ((i : ℕ) → i ≢ v → stands i w.position ≡ stands i u.position) → ShowsArrivals b.callers (shown b (set s.words (indicator_at v) x)).indicators (map position_in (set s.views id w))
  stored s r id v x u w at low now others i lt = let o : ℕ = offset_of_indicator v in let inside : o < 8 * b.callers = omega (arith, low) in
      ap (λ (t : Shown). get_or t.indicators (offset_of_indicator i) 0) (shown_indicators b s.words o x inside) ∙ dite (ℕ_discrete i v)
      (λ e. subst (λ (k : ℕ). get_or (set (shown b s.words).indicators o x) (offset_of_indicator k) 0 ≡ any_stands k (map position_in (set s.views id w))) (sym e)
      (get_or-set_same (shown b s.words).indicators o x 0 (omega (arith, indicators_long s r)) ∙ sym now))
      (λ n. get_or-set_other (shown b s.words).indicators o (offset_of_indicator i) x 0 (λ same. n (omega (arith, same))) ∙ (r.arrivals i lt ∙ sym (any_same i id s.views u w at (others i n))))

  -- what the other words show stays
  beside : (s : St) (r : R s) (v x : ℕ) → v < indicator_count b.callers → IsWritten Contents go b r.start r.count (shown b (set s.words (indicator_at v) x)) r.plan
  beside s r v x low = let k = r.written in subst (λ (t : Shown). IsWritten Contents go b r.start r.count t r.plan) (sym (shown_indicators b s.words (offset_of_indicator v) x (omega (arith, low)))) record {
    side = k.side;
    version = k.version;
    main = k.main;
    back = k.back;
    side_low = k.side_low;
    version_low = k.version_low;
    published = k.published;
  }

  pub still : (s : St) (r : R s) (id : ℕ) (v w : View) → get_elem? s.views id ≡ some v → ((i : ℕ) → stands i v.position ≡ stands i w.position) → ShowsArrivals b.callers (shown b s.words).indicators (map position_in (set s.views id w))
  still s r id v w at same i low = r.arrivals i low ∙ sym (any_same i id s.views v w at (sym (same i)))

  -- a caller loads `version`
  pub loads_version : (slots id : ℕ) (me : M) → IsOut me.0 → Allows R slots id me version_at (λ n. n) (loaded_version (step slots version_at 0 0 none) me)
  unfolding shown
  loads_version slots id me can s r _ at _ = let out = can.0 in let mark = can.1 in let v = me.0 in let found : ℕ = get_or s.words 1 0 in let w : View = moved v (Holds found) in let k = r.written in let is = k.version in let low = k.version_low in (
    w,
    keeps,
    tt,
    reload s 1 id w (caller_step s r id v w s.words at refl refl refl refl (still s r id v w at (λ i. ap (stands i) out)) tt r.written tt (remembered_of s r id v at) (announced_on s r id v w (shown b s.words).slots at refl refl) (λ _. mark) (λ _. own_nowhere w (λ _. refl)) (λ h. h)),
    (refl, omega arith, refl),
  )

  -- its number is that of a caller
  given_low : (s : St) (r : R s) (id : ℕ) (v : View) → get_elem? s.views id ≡ some v → v.number ≤ b.callers
  given_low s r id v at = let n = each_at (λ _ z. z ≤ r.plan.dealt) number_in s.views id v at r.seats.given in let l = r.limits.1 in omega arith

  -- it arrives
  pub arrives : (slots id : ℕ) (me : M) (v : ℕ) → HoldsVersion me.0 v → Allows R slots id me (indicator_at (indicator_of me.0.number v)) (λ _. 1) (λ _. arrived (step slots (indicator_at (indicator_of me.0.number v)) 1 0 none) me 1)
  arrives slots id me v can s r _ at _ = let holds = can.0 in let low = can.1 in let mark = can.2 in let u = me.0 in let k : ℕ = indicator_of u.number v in let w : View = moved u (Arrived k) in
      let few = given_low s r id u at in let inside : k < indicator_count b.callers = omega arith in (
        w,
        keeps,
        tt,
        caller_step s r id u w (set s.words (indicator_at k) 1) at refl refl refl (length-set s.words (indicator_at k) 1) (stored s r id k 1 u w at inside (any_now k id s.views u w at (stands_here k)) (λ i ne. stands_one i k ne ∙ sym (ap (stands i) holds))) tt (beside s r k 1 inside) tt
            (remembered_of s r id u at) (announced_on s r id u w (shown b (set s.words (indicator_at k) 1)).slots at (ap (λ (t : Shown). t.slots) (shown_indicators b s.words (offset_of_indicator k) 1 (omega (arith, inside)))) refl) (λ _. mark)
            (λ _ i there. own_here u.number v i mark low (stands_only i w.position there)) (λ h. h),
        (ap (λ (p : Position). indicator_at (indicator_of u.number (version_of p))) (sym holds), ap (λ (p : Position). let z : M = (moved u (Arrived (indicator_of u.number (version_of p))), me.1) in z) (sym holds)),
      )

  module _ (one : (order : ℕ) (words : List ℕ) (s t : S) (j k : ℕ) → Contents order words s j → Contents order words t k → (s ≡ t) × (j ≡ k)) where
    -- it loads `side`
    pub loads_side : (slots id : ℕ) (me : M) (v : ℕ) → HasArrived me.0 v → Allows R slots id me side_at (λ n. n) (loaded_side Contents go (step slots side_at 0 0 none) me)
    unfolding shown
    loads_side slots id me v can s r _ at _ = let arrived_at = can.0 in let mark = can.2 in let u = me.0 in let k = r.written in let found : ℕ = get_or s.words 0 0 in let p = r.plan in let is : found ≡ p.side = k.side in let low = k.side_low in let image : List ℕ = side_of p.side p.main p.back in
        let f : ℕ = r.count + length p.history in let moments : List ℕ = moments_of 0 (records_of p) in let w : View = entering u v found f image p.history moments in let same : u.base ≡ b = each_at (λ _ c. c ≡ b) base_in s.views id u at r.bases in let v_low : v < indicator_count b.callers = subst (λ (z : Base). v < indicator_count z.callers) same can.1 in let m = remembered_of s r id u at in
        let whole : IsHeldSinceOpening Contents go b image p.history f = record { start = r.start; count = r.count; opening = r.opening; front_is = refl; held = k.published } in
        let all : StartsWith p.history p.history = ([], sym (mathlib.Core.List.append-nil p.history)) in let dated : IsDated (records_of p) (length p.history) moments = dated_now Contents go b r.start r.count (book_in p) r.recorded in (
          w,
          keeps,
          tt,
          reload s 0 id w (caller_step s r id u w s.words at refl refl refl refl (still s r id u w at (λ i. ap (λ (q : Position). stands i q) arrived_at)) (ap (λ (z : ℕ). side_of z p.main p.back) (sym is), omega arith, p.history, all, whole) r.written (v_low, λ _. is)
              record {
                seen = all;
                dated = dated;
                fronts = all_append (IsRecordedFront r.count (records_of p)) u.fronts (f ∷ []) m.fronts (front_now Contents go b r.start r.count (book_in p) r.recorded, tt);
                joined = m.joined;
              }
              (announced_on s r id u w (shown b s.words).slots at refl refl) (λ _. mark) (λ h j z. h j (ap (stands j) arrived_at ∙ z)) (λ _ none. absurd (omega arith))),
          (
            refl,
            f,
            image,
            p.history,
            moments,
            omega arith,
            m.seen,
            subst (λ (z : Base). IsHeldSinceOpening Contents go z image p.history f) (sym same) whole,
            dated_later Contents go b r.start r.count (book_in p) r.recorded (length u.seen) u.moments (length p.history) moments m.dated dated (starts_le p.history u.seen m.seen),
            subst (λ (z : Base). KnowsMoments Contents go z p.history moments) (sym same) (moments_known Contents go b r.start r.count (book_in p) r.recorded r.opening p.history moments all dated),
            ap (λ (q : Position). let z : M = (entering u (indicator_in q) found f image p.history moments, me.1) in z) (sym arrived_at),
            λ none_open. knows_told Contents go b s r one u.base w same (knows_whole Contents go b s r w refl (told_all Contents go b s r id u at none_open)),
          ),
        )

  -- the word of a side
  pub side_word : (s : St) (r : R s) (side at i : ℕ) → side < 2 → at < region_len b.order → i ≡ side_word_at b.order b.callers side at → get_or s.words i 0 ≡ get_or (side_of side r.plan.main r.plan.back) at 0
  unfolding shown
  side_word s r side at i low inside is = let n : ℕ = region_len b.order in let k : ℕ = slots_at b.callers + 64 * b.callers in ap (λ (j : ℕ). get_or s.words j 0) is ∙ by_side (eqb side 0)
    where
      by_side : (c : Bool) → get_or s.words (cond c (main_word_at b.order b.callers at) (back_word_at b.order b.callers at)) 0 ≡ get_or (cond c r.plan.main r.plan.back) at 0
      by_side true = sym (part_get (slots_at b.callers + 64 * b.callers) (region_len b.order) s.words at inside) ∙ ap (λ (l : List ℕ). get_or l at 0) r.written.main
      by_side false = sym (part_get (slots_at b.callers + 64 * b.callers + region_len b.order) (region_len b.order) s.words at inside) ∙ ap (λ (l : List ℕ). get_or l at 0) r.written.back

  -- what the rule says of a view that loads_image
  pub image_kept : (main back : List ℕ) (p : Position) (seen : List Entry) → is_reading p ≡ true → KeepsImage Contents go b main back p seen → (image_of p ≡ side_of (side_read p) main back) × (side_read p < 2)
  image_kept main back Out seen h k = cc
  image_kept main back (Holds v) seen h k = cc
  image_kept main back (Arrived v) seen h k = cc
  image_kept main back (Reads v s f image) seen h k = (k.0, k.1)

  -- it loads a word of the side that it reads
  pub loads_image : (slots id : ℕ) (me : M) (i : ℕ) → IsReading me.0 → Allows R slots id me i (λ n. n) (loaded_image (step slots i 0 0 none) me)
  loads_image slots id me i can s r _ there _ = let reading = can.0 in let mark = can.1 in let u = me.0 in let w : View = moved u u.position in let same : u.base ≡ b = each_at (λ _ c. c ≡ b) base_in s.views id u there r.bases in
      let kept = each_at (λ _ c. KeepsImage Contents go b r.plan.main r.plan.back c.0 c.1) reading_in s.views id u there r.images in let known = image_kept r.plan.main r.plan.back u.position u.seen reading kept in (
        w,
        keeps,
        tt,
        reload s i id w (caller_step s r id u w s.words there refl refl refl refl (still s r id u w there (λ j. refl)) kept r.written (each_at (λ _. ReadsNamedSide b.callers r.plan) position_in s.views id u there r.named) (remembered_of s r id u there) (announced_on s r id u w (shown b s.words).slots there refl refl) (λ _. mark) (λ h. h) (λ h. h)),
        (
          refl,
          λ at inside is. side_word s r (side_read u.position) at i known.1 (subst (λ (z : Base). at < region_len z.order) same inside) (is ∙ ap (λ (z : Base). side_word_at z.order z.callers (side_read u.position) at) same)
              ∙ ap (λ (l : List ℕ). get_or l at 0) (sym known.0),
        ),
      )

  -- it departs
  pub departs : (slots id : ℕ) (me : M) (v : ℕ) → StandsAt me.0 v → Allows R slots id me (indicator_at v) (λ _. 0) (λ _. departed (step slots (indicator_at v) 0 0 none) me 0)
  departs slots id me v can s r _ at _ = let here = can.0 in let mark = can.2 in let u = me.0 in let w : View = moved u Out in let low : v < indicator_count b.callers = subst (λ (z : Base). v < indicator_count z.callers) (each_at (λ _ c. c ≡ b) base_in s.views id u at r.bases) can.1 in (
    w,
    keeps,
    tt,
    caller_step s r id u w (set s.words (indicator_at v) 0) at refl refl refl (length-set s.words (indicator_at v) 0) (stored s r id v 0 u w at low (any_left v id s.views u w r.seats.differ r.seats.own at mark here refl) (λ i ne. sym (elsewhere i v u.position here ne))) tt (beside s r v 0 low) tt
        (remembered_of s r id u at) (announced_on s r id u w (shown b (set s.words (indicator_at v) 0)).slots at (ap (λ (t : Shown). t.slots) (shown_indicators b s.words (offset_of_indicator v) 0 (omega (arith, low)))) refl) (λ h. absurd (h refl)) (λ _. own_nowhere w (λ _. refl)) (λ h. h),
    (ap indicator_at (stands_only v u.position here), refl),
  )
