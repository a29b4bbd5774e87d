-- A caller's steps on its slot keep the rule
use Rattle.std.proofs.Common.{◌≡◌, ◌≢◌, ℕ, ◌+◌, ◌-◌, ◌*◌, ◌%◌, ◌<◌, ◌≤◌, List, [], ◌∷◌, ◌++◌, map, take, drop, length, get_or, set, sym, refl, ap, ◌∙◌, subst, arith, Bool, true, false, cond, Option, append_assoc, length-set}
use Rattle.std.specs.Prelude.{nat_lt}
use mathlib.Core.Logic.{dite}
use mathlib.Core.Option.{some, none}
use native.Mathlib.Decide.{ℕ_discrete}
use lib.ListN.{get_elem?}
use Rattle.atomic_table.specs.Table.{State, Me, step, keeps, Allows}
use Rattle.atomic_table.proofs.Lists.{at_map}
use Rattle.rom_model.specs.declared.entry.Entry.{Entry}
use Rattle.rom_model.specs.declared.record.Found.{Found}
use Rattle.rom_model.specs.declared.record.PassRecord.{PassRecord}
use Rattle.rom_model.specs.declared.call.Updated.{Updated}
use Rattle.rom_model.specs.Moments.{moments_of}
use Rattle.rom_model.specs.Seen.{StartsWith}
use Rattle.rom_model.specs.History.{after, batch}
use Rattle.rom_model.specs.Passes.{all_told, published, fate_told, history_of}
use Rattle.rom_model.proofs.Recorded.{history_more, told_more}
use Rattle.rom_rule.specs.CallKinds.{CanPost, CanStoreArgument, HasNonePosted, HasPosted, IsToldByPass, loaded_answer, loaded_turn, longer, posted, posting, stored_argument}
use Rattle.rom_rule.specs.Calls.{Announced, IsLater, slot_word_at, told_to_caller}
use Rattle.rom_rule.specs.Places.{Shown, shown, slot_at, slots_at}
use Rattle.rom_rule.specs.Readers.{ShowsArrivals, IsWritten, KeepsImage, ReadsNamedSide, stands}
use Rattle.rom_rule.specs.Records.{IsCall, IsDated, KnowsMoments, Remembers}
use Rattle.rom_rule.specs.Rule.{IsRuled}
use Rattle.rom_rule.specs.Views.{Told, book_in, calls_in, number_in, plan_calls, position_in, reading_in, records_of, remembered_in}
use Rattle.rom_rule.specs.declared.views.Base.{Base}
use Rattle.rom_rule.specs.declared.views.Plan.{Plan}
use Rattle.rom_rule.specs.declared.views.Position.{Position}
use Rattle.rom_rule.specs.declared.views.Position.TheVariants.{Arrived, Holds, Out, Reads}
use Rattle.rom_rule.specs.declared.views.View.{View}
use Rattle.rom_rule.proofs.Frames.{each_at}
use Rattle.rom_rule.proofs.Parts.{part_get, shown_slots, slots_long}
use Rattle.rom_rule.proofs.Slots.{changed}
use Rattle.rom_rule.proofs.Told.{starts_le, starts_at, at_longer_of}
use Rattle.rom_rule.proofs.Learning.{learns, takes}
use Rattle.rom_rule.proofs.Posting.{lays, posts}
use Rattle.rom_model.specs.Passes.{AreInOrder}
use Rattle.std.specs.List.{AllByRecursion}
use Rattle.rom_rule.proofs.Books.{all_inside, fault_inside, source, told_at, history_starts, longer_begins, fate_entry, entry_of, told_by}
use Rattle.rom_rule.proofs.Dated.{dated_first, dated_later, moments_known}
use Rattle.rom_rule.proofs.Own.{GoesTo, knows_next, knows_told}
use Rattle.rom_rule.proofs.Standing.{own_on}
use Rattle.rom_rule.proofs.Readers.{caller_step, still, remembered_of, announced_on, reload}
use Rattle.rom_rule.proofs.Writes.{base_is, callers_are}

module _ {S : Type 0} (Contents : ℕ → List ℕ → S → ℕ → Type 0) (go : ℕ → S → ℕ → List ℕ → Option (S × List ℕ)) (b : Base) where
  abbrev St : Type 0
  St = State ℕ View

  abbrev M : Type 0
  M = Me ℕ View

  abbrev R : St → Type 0
  R = IsRuled Contents go b

  abbrev after_step : St → List ℕ → ℕ → View → St
  after_step s ws id w = record { words = ws; homes = s.homes; views = set s.views id w }

  -- the number of a view is a caller's
  pub number_low : (s : St) (r : R s) (id : ℕ) (v : View) → get_elem? s.views id ≡ some v → (v.number ≤ b.callers) × (v.number ≤ r.plan.dealt)
  number_low s r id v at = let n = each_at (λ _ z. z ≤ r.plan.dealt) number_in s.views id v at r.seats.given in let l = r.limits.1 in (omega arith, omega arith)

  -- a word of a slot
  pub slot_word : (s : St) (r : R s) (c j : ℕ) → 0 < c → c ≤ b.callers → j < 64 → get_or s.words (slot_at b.callers c j) 0 ≡ slot_word_at (shown b s.words).slots c j
  unfolding shown
  slot_word s r c j pos low lj = sym (part_get (slots_at b.callers) (64 * b.callers) s.words (64 * (c - 1) + j) (omega arith))

  pub long : (s : St) (r : R s) → length (shown b s.words).slots ≡ 64 * b.callers
  long s r = let w = r.wide in slots_long b s.words (omega arith)

  -- a caller's step on the word j of its slot
  slot_step : (s : St) (r : R s) (id j x : ℕ) (v w : View) → get_elem? s.views id ≡ some v → 0 < v.number → j < 64 → w.base ≡ v.base → w.plan ≡ v.plan → w.number ≡ v.number → w.position ≡ v.position → w.seen ≡ v.seen → remembered_in w ≡ remembered_in v
      → Announced (IsCall go b) b.callers (changed (shown b s.words).slots v.number j x) r.count (plan_calls r.plan) (map calls_in (set s.views id w)) → R (after_step s (set s.words (slot_at b.callers v.number j) x) id w)
  slot_step s r id j x v w at pos lj base plan_same number position seen memory announced = let c : ℕ = v.number in let k : ℕ = 64 * (c - 1) + j in let low = (number_low s r id v at).0 in let now = shown_slots b s.words k x (omega arith) in
      caller_step Contents go b s r id v w (set s.words (slots_at b.callers + k) x) at base plan_same number (length-set s.words (slots_at b.callers + k) x)
      (subst (λ (z : Shown). ShowsArrivals b.callers z.indicators (map position_in (set s.views id w))) (sym now) (still Contents go b s r id v w at (λ i. ap (stands i) (sym position))))
      (subst (λ (z : Position × List Entry). KeepsImage Contents go b r.plan.main r.plan.back z.0 z.1) (λ i. (sym position i, sym seen i)) (r.images id (reading_in v) (at_map reading_in s.views id v at)))
      (subst (λ (z : Shown). IsWritten Contents go b r.start r.count z r.plan) (sym now) record { side = r.written.side; version = r.written.version; main = r.written.main; back = r.written.back; side_low = r.written.side_low; version_low = r.written.version_low; published = r.written.published })
      (subst (ReadsNamedSide b.callers r.plan) (sym position) (r.named id v.position (at_map position_in s.views id v at)))
      (subst (Remembers r.count (book_in r.plan)) (sym memory) (remembered_of Contents go b s r id v at))
      (subst (λ (z : Shown). Announced (IsCall go b) b.callers z.slots r.count (plan_calls r.plan) (map calls_in (set s.views id w))) (sym now) announced)
      (λ _. subst (λ (n : ℕ). 0 < n) (sym number) pos) (own_on v w position number) (λ _ none. absurd (omega arith))

  -- a caller stores a word of its next call
  pub stores_argument : (slots id : ℕ) (me : M) (j x : ℕ) → CanStoreArgument me.0 j
      → Allows R slots id me (slot_at b.callers me.0.number (1 + j)) (λ _. x) (λ _. stored_argument (step slots (slot_at b.callers me.0.number (1 + j)) x 0 none) me x)
  stores_argument slots id me j x can s r _ at _ = let pos = can.0.0 in let none_open = can.0.1 in let lj = can.1 in let few = can.2 in let v = me.0 in let w : View = record v { laid = take j v.laid ++ x ∷ []; steps = v.steps + 1 } in let low = number_low s r id v at in (
    w,
    keeps,
    tt,
    slot_step s r id (1 + j) x v w at pos (omega arith) refl refl refl refl refl refl
        (lays (IsCall go b) b.callers r.count (shown b s.words).slots (plan_calls r.plan) s.views r.announced id j x v w at pos low.0 low.1 r.seats.differ (long s r) none_open lj few refl),
    λ j' same. let many = callers_are Contents go b s r id v at in let e : j ≡ j' = omega arith in ap (λ (n : ℕ). let y : M = (record v { laid = take n v.laid ++ x ∷ []; steps = v.steps + 1 }, me.1) in y) e,
  )

  -- it posts the call
  pub posts_call : (slots id : ℕ) (me : M) → CanPost go me.0
      → Allows R slots id me (slot_at b.callers me.0.number 0) (λ _. 2 * length me.0.calls + 1) (λ _. posted (step slots (slot_at b.callers me.0.number 0) (2 * length me.0.calls + 1) 0 none) me (2 * length me.0.calls + 1))
  posts_call slots id me can s r _ at _ = let pos = can.none_posted.0 in let none_open = can.none_posted.1 in let laid = can.whole in let few = can.few in let call = can.call in let room = can.room in let v = me.0 in let w : View = posting v in let low = number_low s r id v at in let m = remembered_of Contents go b s r id v at in (
    w,
    keeps,
    tt,
    slot_step s r id 0 (2 * length v.calls + 1) v w at pos (omega arith) refl refl refl refl refl refl
        (posts (IsCall go b) b.callers r.count (shown b s.words).slots (plan_calls r.plan) s.views r.announced id v w (drop 1 v.laid) at pos low.0 low.1 r.seats.differ (long s r) none_open laid few
        (subst (λ (z : Base). IsCall go z (drop 1 v.laid)) (base_is Contents go b s r id v at) call) room (starts_le r.plan.history v.seen m.seen) refl),
    refl,
  )

  -- it loads a word of its answer
  pub loads_answer : (slots id : ℕ) (me : M) (i : ℕ) → HasNonePosted me.0 → Allows R slots id me i (λ n. n) (loaded_answer (step slots i 0 0 none) me)
  loads_answer slots id me i can s r _ at _ = let pos = can.0 in let none_open = can.1 in let v = me.0 in let w : View = record v { steps = v.steps + 1 } in let low = number_low s r id v at in (
    w,
    keeps,
    tt,
    reload Contents go b s i id w (caller_step Contents go b s r id v w s.words at refl refl refl refl (still Contents go b s r id v w at (λ _. refl)) (r.images id (reading_in v) (at_map reading_in s.views id v at)) r.written (r.named id v.position (at_map position_in s.views id v at))
        (remembered_of Contents go b s r id v at) (announced_on Contents go b s r id v w (shown b s.words).slots at refl refl) (λ _. pos) (λ h. h) (λ h. h)),
    (
      refl,
      λ x last. let t = takes (IsCall go b) b.callers r.count (shown b s.words).slots (plan_calls r.plan) s.views r.announced id v last.0 x at pos low.0 none_open last.1 in let few = t.0 in
          (few, λ j lt is. ap (λ (n : ℕ). get_or s.words n 0) (is ∙ ap (λ (n : ℕ). slot_at n v.number (42 + j)) (callers_are Contents go b s r id v at)) ∙ (slot_word s r v.number (42 + j) pos low.0 (omega arith) ∙ t.1 j lt)),
    ),
  )

  -- what the records told of a call
  told_of : (s : St) (r : R s) (v : View) (x : Told) (i : ℕ) → get_elem? (told_to_caller r.plan.told v.number) i ≡ some x → IsLater r.count v.since x → Remembers r.count (book_in r.plan) (remembered_in v)
      → (seen : List Entry) × StartsWith r.plan.history seen × IsToldByPass Contents go b x v.since v.seen seen
      × GoesTo Contents go b s r x seen × ((moments : List ℕ) × IsDated (records_of r.plan) (length seen) moments)
  told_of s r v x i here late m = let begins = m.seen in let p : Plan = r.plan in let j = told_at p.told v.number i x here in let f = source go b.order r.start r.count (records_of p) j.0 x (subst (λ (l : List Told). get_elem? l j.0 ≡ some x) r.recorded.told j.1) in
      let first : List PassRecord = f.earlier ++ f.pass ∷ [] in let hist : List Entry = history_of go b.order r.start r.count first in let h : List Entry = history_of go b.order r.start r.count f.earlier in let told : List Told = all_told go b.order r.start r.count f.earlier in
      let whole : StartsWith p.history hist = subst (λ (l : List Entry). StartsWith l hist) (sym (r.recorded.made ∙ ap (history_of go b.order r.start r.count) (f.split ∙ sym (append_assoc f.earlier (f.pass ∷ []) f.rest)))) (history_starts go b.order r.start r.count first f.rest) in
      let both = longer_begins p.history v.seen hist begins whole in (
        longer v.seen hist,
        both.0,
        record {
          start = r.start;
          count = r.count;
          opening = r.opening;
          earlier = f.earlier;
          pass = f.pass;
          at = f.at;
          calls = all_inside (λ (r : PassRecord). AllByRecursion (λ f. IsCall go b f.args) r.found) f.earlier f.pass f.rest (subst (AllByRecursion (λ (r : PassRecord). AllByRecursion (λ f. IsCall go b f.args) r.found)) f.split r.recorded.calls);
          fault = fault_inside go b.order r.start r.count 0 b.faults f.earlier f.pass f.rest (subst (AreInOrder go b.order r.start r.count 0 b.faults) f.split r.recorded.in_order);
          told = f.told;
          seen_is = refl;
          begins = both.1;
          since_is = late;
          entry = λ reply place is. let e = fate_entry go b.order (after go b.order r.start r.count h) (r.count + length h) f.at f.pass.fate f.pass.found x.0 reply place
              (subst (λ (u : Updated (List ℕ)). get_elem? (fate_told f.pass.fate (r.count + length h) f.pass.found (batch go b.order (after go b.order r.start r.count h) (r.count + length h) f.pass.found)) f.at ≡ some (x.0, u)) is f.told) in
              let there : get_elem? hist (length h + e.0) ≡ some (entry_of x.0 reply)
              = subst (λ (l : List Entry). get_elem? l (length h + e.0) ≡ some (entry_of x.0 reply)) (sym (history_more go b.order r.start r.count f.earlier f.pass)) (at_longer_of h (published f.pass.fate (batch go b.order (after go b.order r.start r.count h) (r.count + length h) f.pass.found)) e.0 (entry_of x.0 reply) e.3) in
              (length h + e.0, omega (arith, e.1), e.2, starts_at (longer v.seen hist) hist (length h + e.0) (entry_of x.0 reply) both.2 there);
        },
        record {
          first = first;
          rest = f.rest;
          split = f.split ∙ sym (append_assoc f.earlier (f.pass ∷ []) f.rest);
          begins = both.2;
          at = length told + f.at;
          told = subst (λ (l : List Told). get_elem? l (length told + f.at) ≡ some x) (sym (told_more go b.order r.start r.count f.earlier f.pass)) (at_longer_of told (told_by go b.order r.start r.count f.earlier f.pass) f.at x f.told);
        },
        longer_dated v.seen hist (nat_lt (length hist) (length v.seen)) (v.moments, m.dated) (moments_of 0 first, dated_first Contents go b r.start r.count (book_in p) r.recorded first f.rest (f.split ∙ sym (append_assoc f.earlier (f.pass ∷ []) f.rest))),
      )
    where
      Dated : List Entry → Type 0
      Dated seen = (moments : List ℕ) × IsDated (records_of r.plan) (length seen) moments

      longer_dated : (xs ys : List Entry) (t : Bool) → Dated xs → Dated ys → Dated (cond t xs ys)
      longer_dated xs ys true h g = h
      longer_dated xs ys false h g = g

  even_or_odd : (n : ℕ) → n % 2 ≢ 0 → n % 2 ≡ 1
  even_or_odd n ne = omega arith

  module _ (one : (order : ℕ) (words : List ℕ) (s t : S) (j k : ℕ) → Contents order words s j → Contents order words t k → (s ≡ t) × (j ≡ k)) where
    -- it loads its turn
    pub loads_turn : (slots id : ℕ) (me : M) → HasPosted me.0 → Allows R slots id me (slot_at b.callers me.0.number 0) (λ n. n) (loaded_turn Contents go (step slots (slot_at b.callers me.0.number 0) 0 0 none) me)
    loads_turn slots id me can s r _ at _ = let pos = can.0 in let open_now = can.1 in let v = me.0 in let low = number_low s r id v at in let i : ℕ = slot_at b.callers v.number 0 in let turn : ℕ = get_or s.words i 0 in let m = remembered_of Contents go b s r id v at in
        let word = slot_word s r v.number 0 pos low.0 (omega arith) in let base = base_is Contents go b s r id v at in dite (ℕ_discrete (turn % 2) 0)
        (λ even. let l = learns (IsCall go b) b.callers r.count (shown b s.words).slots (plan_calls r.plan) s.views r.announced id v at pos low.0 open_now (ap (λ (n : ℕ). n % 2) (sym word) ∙ even) in let y : Told = l.0 in
        let t = told_of s r v y (length v.outcomes) l.1 l.3 m in let moments : List ℕ = t.4.0 in let w : View = record v { outcomes = v.outcomes ++ y ∷ []; seen = t.0; moments = moments; steps = v.steps + 1 } in (
          w,
          keeps,
          tt,
          reload Contents go b s i id w (caller_step Contents go b s r id v w s.words at refl refl refl refl (still Contents go b s r id v w at (λ _. refl)) (on_from v.position v.seen t.0 t.2.begins (r.images id (reading_in v) (at_map reading_in s.views id v at))) r.written (r.named id v.position (at_map position_in s.views id v at))
              record { seen = t.1; dated = t.4.1; fronts = m.fronts; joined = m.joined } (l.4 w refl) (λ _. pos) (λ h. h) (λ _ none. absurd (omega arith))),
          (ap (λ (z : Base). slot_at z.callers v.number 0) (sym base), (λ odd. absurd (omega arith)), λ _. record { told = y; seen = t.0; moments = moments; found = l.2; is_told = subst (λ (z : Base). IsToldByPass Contents go z y v.since v.seen t.0) (sym base) t.2; view = refl; moments_begin = dated_later Contents go b r.start r.count (book_in r.plan) r.recorded (length v.seen) v.moments (length t.0) moments m.dated t.4.1 (starts_le t.0 v.seen t.2.begins); dated = subst (λ (z : Base). KnowsMoments Contents go z t.0 moments) (sym base) (moments_known Contents go b r.start r.count (book_in r.plan) r.recorded r.opening t.0 moments t.1 t.4.1); own = knows_told Contents go b s r one v.base w base (knows_next Contents go b s r id v y t.0 moments at pos open_now l.1 (ap (λ (f : Found). f.caller) l.2) (ap (λ (f : Found). f.seq) l.2) t.1 t.3) }),
        ))
        (λ odd. let w : View = record v { steps = v.steps + 1 } in (
          w,
          keeps,
          tt,
          reload Contents go b s i id w (caller_step Contents go b s r id v w s.words at refl refl refl refl (still Contents go b s r id v w at (λ _. refl)) (r.images id (reading_in v) (at_map reading_in s.views id v at)) r.written (r.named id v.position (at_map position_in s.views id v at)) m
              (announced_on Contents go b s r id v w (shown b s.words).slots at refl refl) (λ _. pos) (λ h. h) (λ h. h)),
          (ap (λ (z : Base). slot_at z.callers v.number 0) (sym base), (λ _. refl), λ even. absurd (odd even)),
        ))
      where
        on_from : (q : Position) (seen seen' : List Entry) → StartsWith seen' seen → KeepsImage Contents go b r.plan.main r.plan.back q seen → KeepsImage Contents go b r.plan.main r.plan.back q seen'
        on_from Out seen seen' h k = tt
        on_from (Holds n) seen seen' h k = tt
        on_from (Arrived n) seen seen' h k = tt
        on_from (Reads n side f image) seen seen' h k = (k.0, k.1, k.2, (let g = k.3 in (g.0 ++ h.0, h.1 ∙ (ap (λ (l : List Entry). l ++ h.0) g.1 ∙ append_assoc k.2 g.0 h.0))), k.4)
