-- The writer's steps on calls keep the rule
use Rattle.std.proofs.Common.{◌≡◌, ℕ, zero, suc, ◌+◌, ◌-◌, ◌*◌, ◌%◌, ◌^◌, ◌<◌, ◌≤◌, List, [], ◌∷◌, ◌++◌, map, take, length, get_or, set, sym, refl, ap, ◌∙◌, subst, arith, Option, Some, Bool, true, false, append-nil, length-set}
use mathlib.Core.Option.{some, none, some-injective}
use lib.ListN.{get_elem?}
use Rattle.atomic_table.specs.Table.{State, Me, step, stepped, keeps, Allows}
use Rattle.rom_model.specs.declared.entry.Entry.{Entry}
use Rattle.rom_model.specs.declared.record.Fate.{Fate}
use Rattle.rom_model.specs.declared.record.Fate.TheVariants.{Published, Failed, Doubt}
use Rattle.rom_model.specs.declared.call.Updated.{Updated}
use Rattle.rom_model.specs.History.{after, batch, LAST_COUNT}
use Rattle.rom_model.specs.Passes.{published}
use Rattle.rom_rule.specs.CallKinds.{CanBegin, CanFinish, CanLoadArgument, CanMakeRecord, CanScan, CanStoreReply, IsAnswerToRequest, IsPending, alter, altered, answered, answering, beginning, begun, begun_answer, found_after, laying, loaded_argument, loading, made_record, placing, scanned, stored_place, stored_reply}
use Rattle.rom_rule.specs.Calls.{Announced, found_of}
use Rattle.rom_rule.specs.Kinds.{TellsEach, making, planned}
use Rattle.rom_rule.specs.Places.{Shown, shown, slot_at}
use Rattle.rom_rule.specs.Readers.{Held, IsWritten, KeepsImage, ReadsNamedSide}
use Rattle.rom_rule.specs.Records.{IsCall, Recorded, Remembers}
use Rattle.rom_rule.specs.Rule.{IsRuled}
use Rattle.rom_rule.specs.Views.{Book, Each, IsWriter, book_in, calls_in, has, is_made, plan_calls, plan_of, side_of}
use Rattle.rom_rule.specs.declared.views.Base.{Base}
use Rattle.rom_rule.specs.declared.views.Plan.{Plan}
use Rattle.rom_rule.specs.declared.views.Position.{Position}
use Rattle.rom_rule.specs.declared.views.Position.TheVariants.{Arrived, Holds, Out, Reads}
use Rattle.rom_rule.specs.declared.views.Request.{Request}
use Rattle.rom_rule.specs.declared.views.View.{View}
use Rattle.rom_rule.proofs.Parts.{shown_slots}
use Rattle.rom_rule.proofs.Slots.{changed}
use Rattle.rom_rule.proofs.Answering.{lays_down, puts_down, answers}
use Rattle.rom_rule.proofs.Recording.{hears_few, hears_call, tells_each}
use Rattle.rom_rule.proofs.Scanning.{begins, scans, hears, open_at}
use Rattle.rom_rule.proofs.Books.{full_batch}
use Rattle.rom_rule.proofs.Readers.{reload}
use Rattle.rom_rule.proofs.Writes.{plan_is, base_is, callers_are, writer_step, announced_with, same_view}
use Rattle.rom_rule.proofs.Switching.{makes_record, the_batch}
use Rattle.rom_rule.proofs.Callers.{slot_word, long}

set_set : {A : Type 0} (xs : List A) (i : ℕ) (a b : A) → set (set xs i a) i b ≡ set xs i b
set_set [] i a b = refl
set_set (x ∷ xs) zero a b = refl
set_set (x ∷ xs) (suc i) a b = ap (λ (l : List _). x ∷ l) (set_set xs i a b)

at_set_self : {A : Type 0} (xs : List A) (i : ℕ) (v w : A) → get_elem? xs i ≡ some v → get_elem? (set xs i w) i ≡ some w
at_set_self [] i v w e = absurd (mathlib.Core.Option.some-ne-none v (sym e))
at_set_self (x ∷ xs) zero v w e = refl
at_set_self (x ∷ xs) (suc i) v w e = at_set_self xs i v w e

module _ {S : Type 0} (Contents : ℕ → List ℕ → S → ℕ → Type 0) (go : ℕ → S → ℕ → List ℕ → Option (S × List ℕ)) (b : Base) where
  abbrev St : Type 0
  St = State ℕ View

  abbrev M : Type 0
  M = Me ℕ View

  abbrev R : St → Type 0
  R = IsRuled Contents go b

  abbrev after_step : St → List ℕ → ℕ → View → St
  after_step s ws id w = record { words = ws; homes = s.homes; views = set s.views id w }

  -- only what was found, and the records' places, differ
  pub record IsAlike (p q : Plan) : Type 0 where
    pub main : q.main ≡ p.main
    pub back : q.back ≡ p.back
    pub side : q.side ≡ p.side
    pub version : q.version ≡ p.version
    pub clear : q.clear ≡ p.clear
    pub dealt : q.dealt ≡ p.dealt
    pub book : book_in q ≡ book_in p

  behind_alike : (p q : Plan) → IsAlike p q → (x : Position) → ReadsNamedSide b.callers p x → ReadsNamedSide b.callers q x
  behind_alike p q same Out h = tt
  behind_alike p q same (Holds n) h = tt
  behind_alike p q same (Arrived n) h = tt
  behind_alike p q same (Reads n s f image) h = (h.0, λ clear. h.1 (sym (ap (has n) same.clear) ∙ clear) ∙ sym same.side)

  -- a step of the writer's on calls, which changes at most a word of a slot
  call_step : (s : St) (r : R s) (id : ℕ) (v : View) (q : Plan) (ws : List ℕ) (slots : List ℕ) → get_elem? s.views id ≡ some v → id ≡ r.writer → length ws ≡ length s.words → shown b ws ≡ record (shown b s.words) { slots = slots } → IsAlike r.plan q
      → Announced (IsCall go b) b.callers slots r.count (plan_calls q) (map calls_in s.views) → R (after_step s ws id (planned v q))
  call_step s r id v q ws slots at writes wide now same announced = let l = r.limits.1 in let d = same.dealt in
      writer_step Contents go b s r id v (planned v q) q ws at writes refl refl refl refl refl (λ h. h) wide (omega arith, omega arith) (ap (λ (t : Shown). t.indicators) now)
      (λ x seen _ k. subst (λ (z : List ℕ × List ℕ). KeepsImage Contents go b z.0 z.1 x seen) (λ i. (sym same.main i, sym same.back i)) k)
      (subst (λ (t : Shown). IsWritten Contents go b r.start r.count t q) (sym now) record {
        side = r.written.side ∙ sym same.side;
        version = r.written.version ∙ sym same.version;
        main = r.written.main ∙ sym same.main;
        back = r.written.back ∙ sym same.back;
        side_low = subst (λ (n : ℕ). n < 2) (sym same.side) r.written.side_low;
        version_low = subst (λ (n : ℕ). n < 2) (sym same.version) r.written.version_low;
        published = subst (λ (z : ℕ × List ℕ × List ℕ × Book). Held Contents go b r.start r.count (side_of z.0 z.1 z.2) z.3.history) (λ i. (sym same.side i, sym same.main i, sym same.back i, sym same.book i)) r.written.published;
      })
      (λ j x _ h. behind_alike r.plan q same x h)
      (λ m h. subst (λ (z : Book). Remembers r.count z m) (sym same.book) h) (subst (Recorded go b r.start r.count) (sym same.book) r.recorded)
      (announced_with Contents go b s r id v (planned v q) q (shown b ws).slots at refl (subst (λ (t : Shown). Announced (IsCall go b) b.callers t.slots r.count (plan_calls q) (map calls_in s.views)) (sym now) announced))

  alike : (p : Plan) (fs : List Request) (last : ℕ) → IsAlike p (record p { requests = fs; scanned = last })
  alike p fs last = record { main = refl; back = refl; side = refl; version = refl; clear = refl; dealt = refl; book = refl }

  -- the writer loads the turn of the caller after the one scanned last
  pub scans_next : (slots id : ℕ) (me : M) (c : ℕ) → IsWriter me.0 (plan_of me.0) → CanScan (plan_of me.0) c → c ≤ b.callers → Allows R slots id me (slot_at b.callers c 0) (λ n. n) (scanned (step slots (slot_at b.callers c 0) 0 0 none) me)
  scans_next slots id me c writes can low s r _ at _ = let next = can.0 in let unmade = can.1 in let v = me.0 in let is = plan_is Contents go b s r id v at writes in let p : Plan = r.plan in let i : ℕ = slot_at b.callers c 0 in let turn : ℕ = get_or s.words i 0 in let q : Plan = found_after c turn p in
      let next' : c ≡ p.scanned + 1 = next ∙ ap (λ (z : Plan). z.scanned + 1) is.0 in (
        planned v q,
        keeps,
        tt,
        reload Contents go b s i id (planned v q) (call_step s r id v q s.words (shown b s.words).slots at is.1 refl refl (alike p q.requests c)
            (scans (IsCall go b) b.callers r.count (shown b s.words).slots (plan_calls p) (map calls_in s.views) r.announced c turn (ap (λ (z : Plan). is_made z.mine) (sym is.0) ∙ ap is_made unmade) next' low (slot_word Contents go b s r c 0 (omega arith) low (omega arith)))),
        λ c' pos same. let many = callers_are Contents go b s r id v at in let e : c ≡ c' = omega arith in ap (λ (x : ℕ × Plan). let y : M = (planned v (found_after x.0 turn x.1), me.1) in y) (λ j. (e j, sym is.0 j)),
      )

  -- the writer loads the first turn, with which a pass begins
  pub begins_pass : (slots id : ℕ) (me : M) → IsWriter me.0 (plan_of me.0) → 1 ≤ b.callers → CanBegin (plan_of me.0) → Allows R slots id me (slot_at b.callers 1 0) (λ n. n) (begun (step slots (slot_at b.callers 1 0) 0 0 none) me)
  begins_pass slots id me writes low all s r _ at _ = let v = me.0 in let is = plan_is Contents go b s r id v at writes in let p : Plan = r.plan in let i : ℕ = slot_at b.callers 1 0 in let turn : ℕ = get_or s.words i 0 in let p' : Plan = beginning p in let q : Plan = found_after 1 turn p' in
      let none_found = begins (IsCall go b) b.callers r.count (shown b s.words).slots (plan_calls p) (map calls_in s.views) r.announced (subst (λ (z : Plan). Each (λ _ f. f.answered ≡ true) z.requests) is.0 all) in (
        planned v q,
        keeps,
        tt,
        reload Contents go b s i id (planned v q) (call_step s r id v q s.words (shown b s.words).slots at is.1 refl refl
            record { main = refl; back = refl; side = refl; version = refl; clear = refl; dealt = refl; book = λ j. record { history = p.history; records = append-nil (p.records ++ p.mine) j; told = p.told } }
            (scans (IsCall go b) b.callers r.count (shown b s.words).slots (plan_calls p') (map calls_in s.views) none_found 1 turn refl refl low (slot_word Contents go b s r 1 0 (omega arith) low (omega arith)))),
        (ap (λ (z : Base). slot_at z.callers 1 0) (sym (base_is Contents go b s r id v at)), same_view Contents go b me (λ z. found_after 1 turn (beginning z)) p (plan_of v) (sym is.0)),
      )

  -- the writer loads a word of a request's call
  pub loads_argument : (slots id j : ℕ) (me : M) (f : Request) → IsWriter me.0 (plan_of me.0) → CanLoadArgument (plan_of me.0) f j
      → Allows R slots id me (slot_at b.callers f.caller (1 + j)) (λ n. n) (loaded_argument Contents go (step slots (slot_at b.callers f.caller (1 + j)) 0 0 none) me)
  loads_argument slots id j me f writes can s r _ at _ = let pending = can.0 in let le = can.1 in let next = can.2 in let v = me.0 in let is = plan_is Contents go b s r id v at writes in let p : Plan = r.plan in let base = base_is Contents go b s r id v at in let c : ℕ = f.caller in let i : ℕ = slot_at b.callers c (1 + j) in let x : ℕ = get_or s.words i 0 in
      let here : IsPending p c f = subst (λ (z : Plan). IsPending z c f) is.0 pending in let q : Plan = altered c (loading j x) p in
      let o = open_at (IsCall go b) b.callers r.count (shown b s.words).slots (plan_calls p) (map calls_in s.views) r.announced here.0 f here.1 here.3 in
      let few = hears_few (IsCall go b) b.callers r.count (shown b s.words).slots (plan_calls p) (map calls_in s.views) r.announced here.0 j f here.1 here.3 le next in
      let word = slot_word Contents go b s r c (1 + j) o.0 o.1 (omega (arith, few.0)) in let low = few.0 in (
        planned v q,
        keeps,
        tt,
        reload Contents go b s i id (planned v q) (call_step s r id v q s.words (shown b s.words).slots at is.1 refl refl (alike p q.requests p.scanned)
            (hears (IsCall go b) b.callers r.count (shown b s.words).slots (plan_calls p) (map calls_in s.views) r.announced here.0 j f x here.1 here.3 le next word)),
        λ c' j' pos lj same. let pos' = o.0 in let many = callers_are Contents go b s r id v at in let e : c ≡ c' = omega arith in let e' : j ≡ j' = omega arith in (
          ap (λ (z : ℕ × ℕ × Plan). let y : M = (planned v (altered z.0 (loading z.1 x) z.2), me.1) in y) (λ k. (e k, e' k, sym is.0 k)),
          (λ z. subst (λ (n : ℕ). n ≤ 40) (sym word) (few.1 (e' ∙ z))),
          λ g args found whole. let g_here : IsPending p c g = subst (λ (z : ℕ × Plan). IsPending z.1 z.0 g) (λ k. (sym e k, is.0 k)) found in
              subst (λ (z : Base). IsCall go z args) (sym base) (hears_call (IsCall go b) b.callers r.count (shown b s.words).slots (plan_calls p) (map calls_in s.views) r.announced here.0 g_here.0 j f g x args here.1 g_here.1 g_here.2 here.3 le next word
              (ap (λ (n : ℕ). take n g.words ++ x ∷ []) e' ∙ whole)),
        ),
      )

  -- a word that the writer stores in a slot
  stores_word : (s : St) (r : R s) (id : ℕ) (v : View) (c j x : ℕ) (g : Request → Request) → get_elem? s.views id ≡ some v → id ≡ r.writer → 0 < c → c ≤ b.callers → j < 64
      → Announced (IsCall go b) b.callers (changed (shown b s.words).slots c j x) r.count (record (plan_calls r.plan) { requests = map (alter c g) r.plan.requests }) (map calls_in s.views)
      → R (after_step s (set s.words (slot_at b.callers c j) x) id (planned v (altered c g r.plan)))
  stores_word s r id v c j x g at writes pos low lj announced = call_step s r id v (altered c g r.plan) (set s.words (slot_at b.callers c j) x) (changed (shown b s.words).slots c j x) at writes (length-set s.words (slot_at b.callers c j) x) (shown_slots b s.words (64 * (c - 1) + j) x (omega arith)) (alike r.plan (map (alter c g) r.plan.requests) r.plan.scanned) announced

  -- the writer stores a word of a reply, or their number
  pub stores_reply : (slots id i : ℕ) (me : M) (f : Request) (x : ℕ) → IsWriter me.0 (plan_of me.0) → CanStoreReply (plan_of me.0) f i
      → Allows R slots id me (slot_at b.callers f.caller (43 + i)) (λ _. x) (λ _. stored_reply (step slots (slot_at b.callers f.caller (43 + i)) x 0 none) me x)
  stores_reply slots id i me f x writes can s r _ at _ = let pending = can.0 in let le = can.1 in let few = can.2 in let v = me.0 in let is = plan_is Contents go b s r id v at writes in let p : Plan = r.plan in let c : ℕ = f.caller in let here : IsPending p c f = subst (λ (z : Plan). IsPending z c f) is.0 pending in
      let o = open_at (IsCall go b) b.callers r.count (shown b s.words).slots (plan_calls p) (map calls_in s.views) r.announced here.0 f here.1 here.3 in let q : Plan = altered c (laying i x) p in (
        planned v q,
        keeps,
        tt,
        stores_word s r id v c (43 + i) x (laying i x) at is.1 o.0 o.1 (omega arith) (lays_down (IsCall go b) b.callers r.count (shown b s.words).slots (plan_calls p) (map calls_in s.views) r.announced here.0 i f x here.1 here.3 le few (long Contents go b s r)),
        λ c' j' pos lj same. let pos' = o.0 in let many = callers_are Contents go b s r id v at in let e : c ≡ c' = omega arith in let e' : i ≡ j' = omega arith in ap (λ (z : ℕ × ℕ × Plan). let y : M = (planned v (altered z.0 (laying z.1 x) z.2), me.1) in y) (λ j. (e j, e' j, sym is.0 j)),
      )

  -- the writer stores a place
  pub stores_place : (slots id : ℕ) (me : M) (f : Request) (x : ℕ) → IsWriter me.0 (plan_of me.0) → IsPending (plan_of me.0) f.caller f
      → Allows R slots id me (slot_at b.callers f.caller 42) (λ _. x) (λ _. stored_place (step slots (slot_at b.callers f.caller 42) x 0 none) me x)
  stores_place slots id me f x writes pending s r _ at _ = let v = me.0 in let is = plan_is Contents go b s r id v at writes in let p : Plan = r.plan in let c : ℕ = f.caller in let here : IsPending p c f = subst (λ (z : Plan). IsPending z c f) is.0 pending in
      let o = open_at (IsCall go b) b.callers r.count (shown b s.words).slots (plan_calls p) (map calls_in s.views) r.announced here.0 f here.1 here.3 in let q : Plan = altered c (placing x) p in (
        planned v q,
        keeps,
        tt,
        stores_word s r id v c 42 x (placing x) at is.1 o.0 o.1 (omega arith) (puts_down (IsCall go b) b.callers r.count (shown b s.words).slots (plan_calls p) (map calls_in s.views) r.announced here.0 f x here.1 here.3 (long Contents go b s r)),
        λ c' pos same. let pos' = o.0 in let many = callers_are Contents go b s r id v at in let e : c ≡ c' = omega arith in ap (λ (z : ℕ × Plan). let y : M = (planned v (altered z.0 (placing x) z.1), me.1) in y) (λ j. (e j, sym is.0 j)),
      )

  -- the writer stores a turn, even
  pub answers_call : (slots id : ℕ) (me : M) (f : Request) (u : Updated (List ℕ)) (place : ℕ) → IsWriter me.0 (plan_of me.0) → CanFinish (plan_of me.0) f u place
      → Allows R slots id me (slot_at b.callers f.caller 0) (λ _. 2 * f.seq + 2) (λ _. answered (step slots (slot_at b.callers f.caller 0) (2 * f.seq + 2) 0 none) me (2 * f.seq + 2))
  answers_call slots id me f u place writes can s r _ at _ = let pending = can.0 in let told = can.1 in let placed = can.2 in let whole = can.3 in let v = me.0 in let is = plan_is Contents go b s r id v at writes in let p : Plan = r.plan in let c : ℕ = f.caller in let here : IsPending p c f = subst (λ (z : Plan). IsPending z c f) is.0 pending in
      let o = open_at (IsCall go b) b.callers r.count (shown b s.words).slots (plan_calls p) (map calls_in s.views) r.announced here.0 f here.1 here.3 in let q : Plan = altered c answering p in (
        planned v q,
        keeps,
        tt,
        stores_word s r id v c 0 (2 * f.seq + 2) answering at is.1 o.0 o.1 (omega arith)
            (answers (IsCall go b) b.callers r.count (shown b s.words).slots (plan_calls p) (map calls_in s.views) r.announced here.0 f (found_of f, u) place here.1 here.3 (subst (λ (z : Plan). IsAnswerToRequest z f u) is.0 told) placed whole (long Contents go b s r)),
        λ c' pos same. let pos' = o.0 in let many = callers_are Contents go b s r id v at in let e : c ≡ c' = omega arith in ap (λ (z : ℕ × Plan). let y : M = (planned v (altered z.0 answering z.1), me.1) in y) (λ j. (e j, sym is.0 j)),
      )

  -- the same by raising the turn by one
  pub answers_add : (slots id : ℕ) (me : M) (f : Request) (u : Updated (List ℕ)) (place : ℕ) → IsWriter me.0 (plan_of me.0) → CanFinish (plan_of me.0) f u place
      → Allows R slots id me (slot_at b.callers f.caller 0) (λ n. (n + 1) % 2 ^ 64) (λ n. answered (step slots (slot_at b.callers f.caller 0) 1 0 none) me n)
  answers_add slots id me f u place writes can s r h at fits = let pending = can.0 in let v = me.0 in let is = plan_is Contents go b s r id v at writes in let p : Plan = r.plan in let c : ℕ = f.caller in let here : IsPending p c f = subst (λ (z : Plan). IsPending z c f) is.0 pending in
      let o = open_at (IsCall go b) b.callers r.count (shown b s.words).slots (plan_calls p) (map calls_in s.views) r.announced here.0 f here.1 here.3 in let n : ℕ = get_or s.words (slot_at b.callers c 0) 0 in
      let word = slot_word Contents go b s r c 0 o.0 o.1 (omega arith) in let t = r.announced.each c o.0 o.1 in let turn = t.turn in let few = t.few in let posted = o.2.posted in let seq = o.2.seq in let same : 2 * f.seq + 2 ≡ (n + 1) % 18446744073709551616 = omega arith in
      let a = answers_call slots id me f u place writes can s r h at fits in (a.0, a.1, a.2, subst (λ (x : ℕ). R (stepped s (slot_at b.callers c 0) x id me.1 a.0 a.1)) same a.3, a.4)

  module _ (one : (order : ℕ) (words : List ℕ) (s t : S) (j k : ℕ) → Contents order words s j → Contents order words t k → (s ≡ t) × (j ≡ k)) where
    -- nothing is added by a pass that failed, or that found the count at its limit
    nothing_added : (fate : Fate) (k : ℕ) (start : S) (found : List _) → (fate ≡ Published → k ≡ LAST_COUNT) → published fate (batch go b.order start k found) ≡ []
    nothing_added Published k start found full = full_batch go b.order start k found (full refl)
    nothing_added Failed k start found full = refl
    nothing_added Doubt k start found full = refl

    -- the pass has its record, before any word is stored
    pub made_first : (s : St) (r : R s) (id : ℕ) (v : View) (fate : Fate) (before now : ℕ) → get_elem? s.views id ≡ some v → id ≡ r.writer → CanMakeRecord Contents go b r.plan fate before now
        → let k = r.count + length r.plan.history in let more = batch go b.order (after go b.order r.start r.count r.plan.history) k (map found_of r.plan.requests) in R (after_step s s.words id (record v { plan = Some (making fate before now 0 k more r.plan) }))
    made_first s r id v fate before now at writes can = let p : Plan = r.plan in let k : ℕ = r.count + length p.history in let more : List Entry = batch go b.order (after go b.order r.start r.count p.history) k (map found_of p.requests) in let q : Plan = making fate before now 0 k more p in
        let w : View = record v { plan = Some q } in let m = makes_record Contents go b s r fate before now 0 k more can.unmade can.whole can.from can.on can.fault refl refl in let e = one b.order b.image can.start r.start can.count r.count can.opening r.opening in let l = r.limits.1 in
        let same : q.history ≡ p.history = ap (λ (z : List Entry). p.history ++ z) (nothing_added fate k (after go b.order r.start r.count p.history) (map found_of p.requests) (λ is. ap (λ (n : ℕ). n + length p.history) (sym e.1) ∙ can.full is)) ∙ append-nil p.history in
        writer_step Contents go b s r id v w q s.words at writes refl refl refl refl refl (λ h. h) refl (omega arith, omega arith) refl (λ _ _ _ h. h)
        record { side = r.written.side; version = r.written.version; main = r.written.main; back = r.written.back; side_low = r.written.side_low; version_low = r.written.version_low; published = subst (Held Contents go b r.start r.count (side_of p.side p.main p.back)) (sym same) r.written.published }
        (λ j x _ h. behind_made p q x h) m.remembers m.recorded (announced_with Contents go b s r id v w q (shown b s.words).slots at refl m.announced)
      where
        behind_made : (p' q' : Plan) (x : Position) → ReadsNamedSide b.callers p' x → ReadsNamedSide b.callers (record p' { history = q'.history; told = q'.told; mine = q'.mine }) x
        behind_made p' q' Out h = tt
        behind_made p' q' (Holds n) h = tt
        behind_made p' q' (Arrived n) h = tt
        behind_made p' q' (Reads n s' f image) h = h

    -- the first word of an answer makes the record of its pass
    pub makes_record_known : (fate : Fate) (before now slots id i : ℕ) (me : M) (f : Request) (x : ℕ) → IsWriter me.0 (plan_of me.0) → CanMakeRecord Contents go me.0.base (plan_of me.0) fate before now → CanStoreReply (plan_of me.0) f i
        → Allows R slots id me (slot_at b.callers f.caller (43 + i)) (λ _. x) (λ _. made_record Contents go fate before now (step slots (slot_at b.callers f.caller (43 + i)) x 0 none) me x)
    unfolding made_first writer_step
    makes_record_known fate before now slots id i me f x writes can free s r _ at _ = let pending = free.0 in let le = free.1 in let few = free.2 in let v = me.0 in let is = plan_is Contents go b s r id v at writes in let base = base_is Contents go b s r id v at in let p : Plan = r.plan in let c : ℕ = f.caller in
        let can' : CanMakeRecord Contents go b p fate before now = subst (λ (z : Base × Plan). CanMakeRecord Contents go z.0 z.1 fate before now) (λ i. (base i, is.0 i)) can in let here : IsPending p c f = subst (λ (z : Plan). IsPending z c f) is.0 pending in
        let k : ℕ = r.count + length p.history in let more : List Entry = batch go b.order (after go b.order r.start r.count p.history) k (map found_of p.requests) in let q : Plan = making fate before now 0 k more p in let w : View = record v { plan = Some q } in
        let t = made_first s r id v fate before now at is.1 can' in let s' : St = after_step s s.words id w in let at' : get_elem? s'.views id ≡ some w = at_set_self s.views id v w at in
        let o = open_at (IsCall go b) b.callers r.count (shown b s.words).slots (plan_calls p) (map calls_in s.views) r.announced here.0 f here.1 here.3 in let j : ℕ = 43 + i in
        let last : R (after_step s' (set s.words (slot_at b.callers c j) x) id (planned w (altered c (laying i x) q)))
        = stores_word s' t id w c j x (laying i x) at' is.1 o.0 o.1 (omega arith) (lays_down (IsCall go b) b.callers r.count (shown b s.words).slots (plan_calls q) (map calls_in s'.views) t.announced here.0 i f x here.1 here.3 le few (long Contents go b s' t)) in (
          planned v (altered c (laying i x) q),
          keeps,
          tt,
          subst (λ (l : List View). R record { words = set s.words (slot_at b.callers c j) x; homes = s.homes; views = l }) (set_set s.views id w (planned w (altered c (laying i x) q))) last,
          (
            k,
            more,
            the_batch Contents go b one s r v (plan_of v) k more base is.0 refl refl,
            subst (TellsEach fate k more) (sym is.0) (tells_each (IsCall go b) b.callers r.count (shown b s.words).slots (plan_calls p) (map calls_in s.views) r.announced fate k more (ap is_made can'.unmade)),
            λ c' j' pos lj same. let pos' = o.0 in let many = callers_are Contents go b s r id v at in let e : c ≡ c' = omega arith in let e' : i ≡ j' = omega arith in ap (λ (z : ℕ × ℕ × Plan). let y : M = (planned v (altered z.0 (laying z.1 x) (making fate before now 0 k more z.2)), me.1) in y) (λ h. (e h, e' h, sym is.0 h)),
          ),
        )

    by_record : (t : Bool) (fate : Fate) (before now slots id i : ℕ) (me : M) (f : Request) (x : ℕ) → is_made (plan_of me.0).mine ≡ t → IsWriter me.0 (plan_of me.0) → (is_made (plan_of me.0).mine ≡ false → CanMakeRecord Contents go me.0.base (plan_of me.0) fate before now) → CanStoreReply (plan_of me.0) f i
        → Allows R slots id me (slot_at b.callers f.caller (43 + i)) (λ _. x) (λ _. begun_answer Contents go fate before now (step slots (slot_at b.callers f.caller (43 + i)) x 0 none) me x)
    by_record true fate before now slots id i me f x e writes can free s r h at fits = let a = stores_reply slots id i me f x writes free s r h at fits in (a.0, a.1, a.2, a.3, ((λ _. a.4), λ e'. absurd (let z : true ≡ false = sym e ∙ e' in cc)))
    by_record false fate before now slots id i me f x e writes can free s r h at fits = let a = makes_record_known fate before now slots id i me f x writes (can e) free s r h at fits in (a.0, a.1, a.2, a.3, ((λ e'. absurd (let z : true ≡ false = sym e' ∙ e in cc)), λ _. a.4))

    -- the first word of an answer
    pub begins_answer : (fate : Fate) (before now slots id i : ℕ) (me : M) (f : Request) (x : ℕ) → IsWriter me.0 (plan_of me.0) → (is_made (plan_of me.0).mine ≡ false → CanMakeRecord Contents go me.0.base (plan_of me.0) fate before now) → CanStoreReply (plan_of me.0) f i
        → Allows R slots id me (slot_at b.callers f.caller (43 + i)) (λ _. x) (λ _. begun_answer Contents go fate before now (step slots (slot_at b.callers f.caller (43 + i)) x 0 none) me x)
    begins_answer fate before now slots id i me f x writes can free = by_record (is_made (plan_of me.0).mine) fate before now slots id i me f x refl writes can free
