-- A caller's own entries in what it has seen are those of its calls that were done.
use Rattle.std.proofs.Common.{◌≡◌, ℕ, zero, suc, ◌+◌, ◌<◌, ◌≤◌, ◌∷◌, ◌++◌, List, [], map, length, sym, refl, ap, ◌∙◌, subst, arith, Bool, true, false, cond, Option, append-nil, append_assoc, length-append, eq-eqb, ne_eqb}
use Rattle.std.specs.Prelude.{filter, ◌==◌}
use Rattle.std.specs.List.{AllByRecursion, enumerate_from}
use Rattle.std.proofs.lemmas.List.Elements.{filter-append}
use mathlib.Core.Logic.{dite}
use mathlib.Core.Option.{some, some-injective, some-ne-none}
use native.Mathlib.Decide.{ℕ_discrete}
use lib.ListN.{get_elem?}
use Rattle.atomic_table.specs.Table.{State}
use Rattle.atomic_table.proofs.Lists.{at_map}
use Rattle.rom_model.specs.History.{after, batch}
use Rattle.rom_model.specs.Passes.{added, all_told, fate_told, history_of}
use Rattle.rom_model.specs.Seen.{StartsWith, done_in, done_one}
use Rattle.rom_model.specs.declared.call.Updated.{Updated}
use Rattle.rom_model.specs.declared.call.Updated.TheVariants as told
use Rattle.rom_model.specs.declared.entry.Entry.{Entry}
use Rattle.rom_model.specs.declared.record.Found.{Found}
use Rattle.rom_model.specs.declared.record.PassRecord.{PassRecord}
use Rattle.rom_model.proofs.Placed.{done_by_caller, enumerate_append, history_placed}
use Rattle.rom_rule.specs.Calls.{KnowsCalls, SlotHolds, found_in, numbered, owing, told_to_caller}
use Rattle.rom_rule.specs.Places.{shown}
use Rattle.rom_rule.specs.Records.{IsCall, KnowsEntries}
use Rattle.rom_rule.specs.Rule.{IsRuled}
use Rattle.rom_rule.specs.Views.{Told, calls_in, number_in, plan_calls, records_of}
use Rattle.rom_rule.specs.declared.views.Base.{Base}
use Rattle.rom_rule.specs.declared.views.View.{View}
use Rattle.rom_rule.proofs.Frames.{each_at}
use Rattle.rom_rule.proofs.Posting.{answers_le}
use Rattle.rom_rule.proofs.Told.{all_append, at_low, at_numbered, starts_at, starts_more}

-- beginnings of lists
module _ {A : Type 0} where
  none_long : (xs : List A) → length xs ≡ 0 → xs ≡ []
  none_long [] e = refl
  none_long (x ∷ xs) e = absurd (omega arith)

  -- a beginning that is as long is the whole
  whole_of : (ys xs : List A) → StartsWith ys xs → length ys ≤ length xs → ys ≡ xs
  whole_of ys xs h le = h.1 ∙ (ap (λ (l : List A). xs ++ l) (none_long h.0 (omega (arith, ap length h.1, length-append xs h.0))) ∙ append-nil xs)

  starts_filter : (p : A → Bool) (ys xs : List A) → StartsWith ys xs → StartsWith (filter p ys) (filter p xs)
  starts_filter p ys xs h = (filter p h.0, ap (filter p) h.1 ∙ filter-append p xs h.0)

  all_begins : (P : A → Type 0) (ys xs : List A) → AllByRecursion P (xs ++ ys) → AllByRecursion P xs
  all_begins P ys [] h = tt
  all_begins P ys (x ∷ xs) h = (h.0, all_begins P ys xs h.1)

  past_one : (x a : A) (ys : List A) (t : Bool) → (j : ℕ) × (get_elem? ys j ≡ some a) → (j : ℕ) × (get_elem? (cond t (x ∷ ys) ys) j ≡ some a)
  past_one x a ys true h = (suc h.0, h.1)
  past_one x a ys false h = h

  filter_has : (p : A → Bool) (xs : List A) (i : ℕ) (a : A) → p a ≡ true → get_elem? xs i ≡ some a → (j : ℕ) × (get_elem? (filter p xs) j ≡ some a)
  filter_has p [] i a t e = absurd (some-ne-none a (sym e))
  filter_has p (x ∷ xs) zero a t e = (0, ap (λ (u : Bool). get_elem? (cond u (x ∷ filter p xs) (filter p xs)) 0) (ap p (some-injective x a e) ∙ t) ∙ e)
  filter_has p (x ∷ xs) (suc i) a t e = past_one x a (filter p xs) (p x) (filter_has p xs i a t e)

-- a caller's entries with their places
abbrev pub own_at : ℕ → ℕ → List Entry → List (ℕ × Entry)
own_at c k es = filter (λ x. x.1.caller == c) (enumerate_from k es)

own_append : (c k : ℕ) (xs ys : List Entry) → own_at c k (xs ++ ys) ≡ own_at c k xs ++ own_at c (k + length xs) ys
own_append c k xs ys = ap (filter (λ x. x.1.caller == c)) (enumerate_append k xs ys) ∙ filter-append (λ x. x.1.caller == c) (enumerate_from k xs) (enumerate_from (k + length xs) ys)

one_long : (j k : ℕ) (e : Entry) (xs ys : List (ℕ × Entry)) (t : Bool) → length xs ≡ length ys → length (cond t ((j, e) ∷ xs) xs) ≡ length (cond t ((k, e) ∷ ys) ys)
one_long j k e xs ys true same = ap suc same
one_long j k e xs ys false same = same

-- they are as many, whatever the count at the opening
own_long : (c j k : ℕ) (es : List Entry) → length (own_at c j es) ≡ length (own_at c k es)
own_long c j k [] = refl
own_long c j k (e ∷ es) = one_long j k e (own_at c (j + 1) es) (own_at c (k + 1) es) (e.caller == c) (own_long c (j + 1) (k + 1) es)

-- what stands between two histories with as many own entries
own_between : (c k : ℕ) (zs ys xs : List Entry) → StartsWith zs ys → StartsWith ys xs → length (own_at c k zs) ≤ length (own_at c k xs) → own_at c k ys ≡ own_at c k xs
own_between c k zs ys xs later h le =
    let mid : own_at c k ys ≡ own_at c k xs ++ own_at c (k + length xs) h.0 = ap (own_at c k) h.1 ∙ own_append c k xs h.0 in
    let all : own_at c k zs ≡ own_at c k ys ++ own_at c (k + length ys) later.0 = ap (own_at c k) later.1 ∙ own_append c k ys later.0 in
    whole_of (own_at c k ys) (own_at c k xs) (own_at c (k + length xs) h.0, mid) (omega (arith, ap length all, length-append (own_at c k ys) (own_at c (k + length ys) later.0)))

-- entries are of callers where what was told is
module _ (callers : ℕ) where
  abbrev IsCaller : ℕ → Type 0
  IsCaller c = (0 < c) × (c ≤ callers)

  one_known : (f : Found) (u : Updated (List ℕ)) → IsCaller f.caller → AllByRecursion (λ x. IsCaller x.1.caller) (done_one f u)
  one_known f (told.Done reply place) is = (is, tt)
  one_known f told.Spent is = tt
  one_known f told.Failed is = tt
  one_known f told.Doubt is = tt

  done_known : (xs : List Told) → AllByRecursion (λ x. IsCaller x.0.caller) xs → AllByRecursion (λ x. IsCaller x.1.caller) (done_in xs)
  done_known [] h = tt
  done_known (x ∷ xs) h = all_append (λ y. IsCaller y.1.caller) (done_one x.0 x.1) (done_in xs) (one_known x.0 x.1 h.0) (done_known xs h.1)

  entries_known : (k : ℕ) (es : List Entry) → AllByRecursion (λ x. IsCaller x.1.caller) (enumerate_from k es) → AllByRecursion (λ e. IsCaller e.caller) es
  entries_known k [] h = tt
  entries_known k (e ∷ es) h = (h.0, entries_known (k + 1) es h.1)

  none_of_zero : (xs : List Told) → AllByRecursion (λ x. IsCaller x.0.caller) xs → told_to_caller xs 0 ≡ []
  none_of_zero [] h = refl
  none_of_zero (x ∷ xs) h = let low = h.0.0 in ap (λ (t : Bool). cond t (x ∷ told_to_caller xs 0) (told_to_caller xs 0)) (ne_eqb x.0.caller 0 (λ e. omega arith)) ∙ none_of_zero xs h.1

module _ {S : Type 0} (go : ℕ → S → ℕ → List ℕ → Option (S × List ℕ)) (order : ℕ) where
  -- what some first records told is a beginning
  told_starts : (s : S) (k : ℕ) (xs ys : List PassRecord) → StartsWith (all_told go order s k (xs ++ ys)) (all_told go order s k xs)
  told_starts s k [] ys = (all_told go order s k ys, refl)
  told_starts s k (x ∷ xs) ys = let g : List Entry = added go order s k x in let first : List Told = fate_told x.fate k x.found (batch go order s k x.found) in let h = told_starts (after go order s k g) (k + length g) xs ys in
      (h.0, ap (λ (l : List Told). first ++ l) h.1 ∙ sym (append_assoc first (all_told go order (after go order s k g) (k + length g) xs) h.0))

  -- a caller's entries in the history of some records are those of its calls that they told are done
  pub own_of : (s : S) (k c : ℕ) (rs : List PassRecord) → own_at c k (history_of go order s k rs) ≡ done_in (told_to_caller (all_told go order s k rs) c)
  own_of s k c rs = ap (filter (λ x. x.1.caller == c)) (history_placed go order s k rs) ∙ done_by_caller c (all_told go order s k rs)

module _ {S : Type 0} (Contents : ℕ → List ℕ → S → ℕ → Type 0) (go : ℕ → S → ℕ → List ℕ → Option (S × List ℕ)) (b : Base) (s : State ℕ View) (r : IsRuled Contents go b s) where
  -- what the slot of a caller and its view hold of its calls
  slot_of : (id : ℕ) (v : View) → get_elem? s.views id ≡ some v → 0 < v.number
      → SlotHolds (IsCall go b) (shown b s.words).slots v.number (r.announced.calls v.number) (r.announced.given v.number) (owing (plan_calls r.plan).made v.number r.plan.requests) (told_to_caller r.plan.told v.number)
  slot_of id v at pos = let n = each_at (λ _ z. z ≤ r.plan.dealt) number_in s.views id v at r.seats.given in let l = r.limits.1 in r.announced.each v.number pos (omega arith)

  knows_of : (id : ℕ) (v : View) → get_elem? s.views id ≡ some v → KnowsCalls b.callers (shown b s.words).slots r.count r.announced.calls r.announced.given r.announced.closed (plan_calls r.plan) (calls_in v)
  knows_of id v at = r.announced.views id (calls_in v) (at_map calls_in s.views id v at)

  -- the records told a caller of no more calls than it posted
  told_few : (id : ℕ) (v : View) → get_elem? s.views id ≡ some v → 0 < v.number → length (told_to_caller r.plan.told v.number) ≤ length v.calls
  told_few id v at pos = let k = knows_of id v at in let same = ap length (k.mine pos) in let c : ℕ = v.number in
      let le = answers_le (IsCall go b) b.callers r.count (shown b s.words).slots (plan_calls r.plan) c (r.announced.calls c) (r.announced.given c) (owing (plan_calls r.plan).made c r.plan.requests) (told_to_caller r.plan.told c) (slot_of id v at pos) in omega arith

  -- with no call posted, a view was told what the records told its caller
  pub told_all : (id : ℕ) (v : View) → get_elem? s.views id ≡ some v → length v.calls ≡ length v.outcomes → told_to_caller r.plan.told v.number ≡ v.outcomes
  told_all id v at none_open = dite (ℕ_discrete v.number 0)
      (λ e. ap (told_to_caller r.plan.told) e ∙ (none_of_zero b.callers r.plan.told r.announced.known ∙ sym ((r.seats.bare id v at) e).2))
      (λ ne. let pos : 0 < v.number = omega arith in let few = told_few id v at pos in whole_of (told_to_caller r.plan.told v.number) v.outcomes ((knows_of id v at).outcomes pos) (omega arith))

  -- with one posted, what the records told of it is the last
  pub told_next : (id : ℕ) (v : View) (y : Told) → get_elem? s.views id ≡ some v → 0 < v.number → length v.calls ≡ length v.outcomes + 1 → get_elem? (told_to_caller r.plan.told v.number) (length v.outcomes) ≡ some y
      → told_to_caller r.plan.told v.number ≡ v.outcomes ++ y ∷ []
  told_next id v y at pos open_now here = let few = told_few id v at pos in
      whole_of (told_to_caller r.plan.told v.number) (v.outcomes ++ y ∷ []) (starts_more (told_to_caller r.plan.told v.number) v.outcomes y ((knows_of id v at).outcomes pos) here) (omega (arith, length-append v.outcomes (y ∷ [])))

  -- and the records up to the one that told it told all its caller's calls
  pub told_first : (id : ℕ) (v : View) (y : Told) (first rest : List PassRecord) (i : ℕ) → get_elem? s.views id ≡ some v → 0 < v.number → length v.calls ≡ length v.outcomes + 1 → y.0.caller ≡ v.number → y.0.seq ≡ length v.outcomes
      → records_of r.plan ≡ first ++ rest → get_elem? (all_told go b.order r.start r.count first) i ≡ some y → told_to_caller (all_told go b.order r.start r.count first) v.number ≡ told_to_caller r.plan.told v.number
  told_first id v y first rest i at pos open_now whose seq split here = let c : ℕ = v.number in let few = told_few id v at pos in let t = slot_of id v at pos in let same = ap length ((knows_of id v at).mine pos) in
      let early : List Told = told_to_caller (all_told go b.order r.start r.count first) c in
      let starts : StartsWith (told_to_caller r.plan.told c) early
      = subst (λ (l : List Told). StartsWith (told_to_caller l c) early) (sym (r.recorded.told ∙ ap (all_told go b.order r.start r.count) split)) (starts_filter (λ x. x.0.caller == c) _ _ (told_starts go b.order r.start r.count first rest)) in
      let among = filter_has (λ x. x.0.caller == c) (all_told go b.order r.start r.count first) i y (eq-eqb y.0.caller c whose) here in let q : ℕ = among.0 in
      let stands = starts_at (told_to_caller r.plan.told c) early q y starts among.1 in let low = at_low (told_to_caller r.plan.told c) q y stands in let there = at_low early q y among.1 in
      let asked = starts_at (numbered c 0 (r.announced.calls c)) (map found_in (told_to_caller r.plan.told c)) q y.0 t.asked (at_map found_in (told_to_caller r.plan.told c) q y stands) in
      let turn : y.0.seq ≡ 0 + q = ap (λ (f : Found). f.seq) (some-injective y.0 _ (sym asked ∙ at_numbered c 0 q (r.announced.calls c) (omega arith))) in
      sym (whole_of (told_to_caller r.plan.told c) early starts (omega arith))

  -- What a view has seen goes at least as far as a history that has the entries of all its calls that were done.
  pub knows_on : (w : View) (k : ℕ) (first : List Entry) → StartsWith r.plan.history w.seen → StartsWith w.seen first → own_at w.number k first ≡ done_in w.outcomes → told_to_caller r.plan.told w.number ≡ w.outcomes → KnowsEntries b.callers k w
  knows_on w k first whole begins own told_is = let c : ℕ = w.number in let placed = ap (enumerate_from r.count) r.recorded.made ∙ (history_placed go b.order r.start r.count (records_of r.plan) ∙ ap done_in (sym r.recorded.told)) in
      let all : own_at c r.count r.plan.history ≡ done_in w.outcomes = ap (filter (λ x. x.1.caller == c)) placed ∙ (done_by_caller c r.plan.told ∙ ap done_in told_is) in record {
        known = all_begins (λ (e : Entry). (0 < e.caller) × (e.caller ≤ b.callers)) whole.0 w.seen (subst (AllByRecursion (λ (e : Entry). (0 < e.caller) × (e.caller ≤ b.callers))) whole.1
            (entries_known b.callers r.count r.plan.history (subst (AllByRecursion (λ x. (0 < x.1.caller) × (x.1.caller ≤ b.callers))) (sym placed) (done_known b.callers r.plan.told r.announced.known))));
        own = own_between c k r.plan.history w.seen first whole begins (let e₀ = ap length all in let e₁ = ap length own in let e₂ = own_long c k r.count r.plan.history in omega arith) ∙ own;
      }

  -- the same of a view that has seen the whole history
  pub knows_whole : (w : View) → w.seen ≡ r.plan.history → told_to_caller r.plan.told w.number ≡ w.outcomes → KnowsEntries b.callers r.count w
  knows_whole w seen told_is = let begins : StartsWith w.seen r.plan.history = ([], seen ∙ sym (append-nil r.plan.history)) in
      knows_on w r.count r.plan.history ([], sym seen ∙ sym (append-nil w.seen)) begins
      (ap (own_at w.number r.count) r.recorded.made ∙ (own_of go b.order r.start r.count w.number (records_of r.plan) ∙ ap done_in (ap (λ (l : List Told). told_to_caller l w.number) (sym r.recorded.told) ∙ told_is))) told_is

  -- Some first records told this, and what was seen goes at least as far as their history.
  pub record GoesTo (x : Told) (seen : List Entry) : Type 0 where
    pub first : List PassRecord
    pub rest : List PassRecord
    pub split : records_of r.plan ≡ first ++ rest
    pub begins : StartsWith seen (history_of go b.order r.start r.count first)
    pub at : ℕ
    pub told : get_elem? (all_told go b.order r.start r.count first) at ≡ some x

  -- the same of a view that learns what its last call was told
  pub knows_next : (id : ℕ) (v : View) (y : Told) (seen : List Entry) (moments : List ℕ) → get_elem? s.views id ≡ some v → 0 < v.number → length v.calls ≡ length v.outcomes + 1 → get_elem? (told_to_caller r.plan.told v.number) (length v.outcomes) ≡ some y
      → y.0.caller ≡ v.number → y.0.seq ≡ length v.outcomes → StartsWith r.plan.history seen → GoesTo y seen → KnowsEntries b.callers r.count (record v { outcomes = v.outcomes ++ y ∷ []; seen = seen; moments = moments; steps = v.steps + 1 })
  knows_next id v y seen moments at pos open_now here whose seq whole goes = let told_is = told_next id v y at pos open_now here in
      knows_on (record v { outcomes = v.outcomes ++ y ∷ []; seen = seen; moments = moments; steps = v.steps + 1 }) r.count (history_of go b.order r.start r.count goes.first) whole goes.begins
      (own_of go b.order r.start r.count v.number goes.first ∙ ap done_in (told_first id v y goes.first goes.rest goes.at at pos open_now whose seq goes.split goes.told ∙ told_is)) told_is

  module _ (one : (order : ℕ) (words : List ℕ) (s t : S) (j k : ℕ) → Contents order words s j → Contents order words t k → (s ≡ t) × (j ≡ k)) where
    -- what is known at the count at the opening, told of every count that the opening image stands for
    pub knows_told : (base : Base) (w : View) → base ≡ b → KnowsEntries b.callers r.count w → (t : S) (n : ℕ) → Contents base.order base.image t n → KnowsEntries base.callers n w
    knows_told base w same knows t n held = let e = one b.order b.image r.start t r.count n r.opening (subst (λ (z : Base). Contents z.order z.image t n) same held) in
        subst (λ (z : ℕ × Base). KnowsEntries z.1.callers z.0 w) (λ i. (e.1 i, sym same i)) knows
