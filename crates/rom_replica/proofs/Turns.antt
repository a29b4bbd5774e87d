-- Where each caller has its own updates of a history, the turns give the history.
use Rattle.std.specs.Prelude.{◌≡◌, ℕ, ◌+◌, ◌-◌, ◌<◌, ◌≤◌, ◌==◌, nat_lt, Bool, true, false, cond, List, [], ◌∷◌, length, filter, map, set, slice_get, Option, Some, None}
use Rattle.std.proofs.Common.{zero, suc, refl, sym, ap, ◌∙◌, subst, arith, ⊎_elim}
use Rattle.std.proofs.lemmas.Bool.{le-ltb, lt-ltb}
use Rattle.std.proofs.lemmas.Bool.Decides.{eqb_tells}
use Rattle.std.proofs.lemmas.List.{length-set}
use Rattle.std.specs.List.{AllByRecursion, enumerate_from}
use Rattle.std.specs.Option.{option_map_or}
use Rattle.rom_model.specs.Codes.{call_words, reply_words}
use Rattle.rom_model.specs.declared.entry.Entry.{Entry}
use Rattle.rom_frame.specs.declared.frame.Frame.{Frame}
use Rattle.rom_replica.specs.Merging.{first_update, least_from, merged_frames, nearer, next_by, next_place, next_update}

-- the place of an update, the words of its call and those of its reply
abbrev pub words_in : Frame → ℕ × (List ℕ × List ℕ)
words_in f = (f.place, (call_words f.call, reply_words f.reply))

-- and those of an entry
abbrev pub words_at : ℕ × Entry → ℕ × (List ℕ × List ℕ)
words_at x = (x.0, (x.1.args, x.1.reply))

-- the updates are a caller's entries
abbrev pub AreOwn : ℕ → List (ℕ × Entry) → List Frame → Type 0
AreOwn c xs queue = map words_in queue ≡ map words_at (filter (λ x. x.1.caller == c) xs)

-- so of each caller, numbered from this one on
abbrev pub AreAllOwn : ℕ → List (ℕ × Entry) → List (List Frame) → Type 0
AreAllOwn c xs [] = Unit {0}
AreAllOwn c xs (queue ∷ queues) = AreOwn c xs queue × AreAllOwn (c + 1) xs queues

-- the places are past this one
abbrev ArePast : ℕ → List (ℕ × Entry) → Type 0
ArePast p xs = AllByRecursion (λ x. p < x.0) xs

past_enumerate : (p k : ℕ) (es : List Entry) → p < k → ArePast p (enumerate_from k es)
past_enumerate p k [] lt = tt
past_enumerate p k (e ∷ es) lt = (lt, past_enumerate p (k + 1) es (omega (arith, lt)))

past_filter : (p c : ℕ) (xs : List (ℕ × Entry)) → ArePast p xs → ArePast p (filter (λ x. x.1.caller == c) xs)
past_filter p c [] all = tt
past_filter p c (x ∷ xs) all = go (x.1.caller == c) (past_filter p c xs all.1)
  where
    go : (b : Bool) → ArePast p (filter (λ y. y.1.caller == c) xs) → ArePast p (cond b (x ∷ filter (λ y. y.1.caller == c) xs) (filter (λ y. y.1.caller == c) xs))
    go true rest = (all.0, rest)
    go false rest = rest

-- the next place, if there is one, is past this one
abbrev IsPast : ℕ → Option ℕ → Type 0
IsPast p None = Unit {0}
IsPast p (Some place) = p < place

next_past : (p : ℕ) (queue : List Frame) (xs : List (ℕ × Entry)) → map words_in queue ≡ map words_at xs → ArePast p xs → IsPast p (next_place queue)
next_past p [] xs same all = tt
next_past p (f ∷ queue) [] same all = absurd (let no : ⊥ = cc in no)
next_past p (f ∷ queue) (x ∷ xs) same all = let first : words_in f ≡ words_at x = cc in let place : f.place ≡ x.0 = ap (λ z. z.0) first in let lt = all.0 in omega (arith, place, lt)

-- an entry of somebody else is none of a caller's, and one of its own is its first
filter_own : (c : ℕ) (x : ℕ × Entry) (xs : List (ℕ × Entry)) → x.1.caller ≡ c → filter (λ y. y.1.caller == c) (x ∷ xs) ≡ x ∷ filter (λ y. y.1.caller == c) xs
filter_own c x xs same = ⊎_elim
    (λ (is, _). ap (λ (b : Bool). cond b (x ∷ filter (λ y. y.1.caller == c) xs) (filter (λ y. y.1.caller == c) xs)) is)
    (λ (_, not). absurd (not same)) (eqb_tells x.1.caller c)

filter_other : (c : ℕ) (x : ℕ × Entry) (xs : List (ℕ × Entry)) → (x.1.caller ≡ c → ⊥) → filter (λ y. y.1.caller == c) (x ∷ xs) ≡ filter (λ y. y.1.caller == c) xs
filter_other c x xs not = ⊎_elim
    (λ (_, same). absurd (not same))
    (λ (is, _). ap (λ (b : Bool). cond b (x ∷ filter (λ y. y.1.caller == c) xs) (filter (λ y. y.1.caller == c) xs)) is) (eqb_tells x.1.caller c)

-- the best so far, if there is one, is past this place
abbrev IsBestPast : ℕ → Option (ℕ × ℕ) → Type 0
IsBestPast p None = Unit {0}
IsBestPast p (Some best) = p < best.1

by_less : (a b : Bool) (x y : ℕ × ℕ) (p : ℕ) → p < x.1 → p < y.1 → IsBestPast p (cond a (Some x) (Some y))
by_less true b x y p lx ly = lx
by_less false b x y p lx ly = ly

nearer_past : (p i : ℕ) (best : Option (ℕ × ℕ)) (place : Option ℕ) → IsBestPast p best → IsPast p place → IsBestPast p (nearer best i place)
nearer_past p i best None past is = past
nearer_past p i None (Some place) past is = is
nearer_past p i (Some best) (Some place) past is = by_less (nat_lt place best.1) true (i, place) best p is past

-- a place that none is before stays the best
nearer_stays : (j p i : ℕ) (place : Option ℕ) → IsPast p place → nearer (Some (j, p)) i place ≡ Some (j, p)
nearer_stays j p i None past = refl
nearer_stays j p i (Some place) past = ap (λ (b : Bool). cond b (Some (i, place)) (Some (j, p))) (le-ltb place p (omega (arith, past)))

nearer_takes : (p i : ℕ) (best : Option (ℕ × ℕ)) → IsBestPast p best → nearer best i (Some p) ≡ Some (i, p)
nearer_takes p i None past = refl
nearer_takes p i (Some best) past = ap (λ (b : Bool). cond b (Some (i, p)) (Some best)) (lt-ltb p best.1 past)

-- Of a history that goes on with this entry at this place, and then with entries at later ones:
module _ (k : ℕ) (e : Entry) (xs : List (ℕ × Entry)) (past : ArePast k xs) where
  -- of callers numbered past the entry's none has it
  others : (c i j : ℕ) (queues : List (List Frame)) → e.caller < c → AreAllOwn c ((k, e) ∷ xs) queues → (least_from i (Some (j, k)) queues ≡ Some (j, k)) × AreAllOwn c xs queues
  others c i j [] above all = (refl, tt)
  others c i j (queue ∷ queues) above all =
      let own : AreOwn c xs queue = all.0 ∙ ap (map words_at) (filter_other c (k, e) xs (λ same. absurd (omega (arith, same, above)))) in
      let stays = nearer_stays j k i (next_place queue) (next_past k queue (filter (λ x. x.1.caller == c) xs) own (past_filter k c xs past)) in
      let more = others (c + 1) (i + 1) j queues (omega (arith, above)) all.1 in
      (ap (λ b. least_from (i + 1) b queues) stays ∙ more.0, (own, more.1))

  -- The entry is the first of its caller's, whose next place is least, and behind it is what goes on.
  pub record IsTaken (c i m : ℕ) (best : Option (ℕ × ℕ)) (queues : List (List Frame)) : Type 0 where
    pub update : Frame
    pub queue : List Frame
    pub at : least_from i best queues ≡ Some (i + m, k)
    pub stood : slice_get queues m ≡ Some (update ∷ queue)
    pub words : words_in update ≡ words_at (k, e)
    pub left : AreAllOwn c xs (set queues m queue)

  taken_here : (c i : ℕ) (best : Option (ℕ × ℕ)) (queue : List Frame) (queues : List (List Frame)) → e.caller ≡ c → IsBestPast k best → AreOwn c ((k, e) ∷ xs) queue → AreAllOwn (c + 1) ((k, e) ∷ xs) queues → IsTaken c i zero best (queue ∷ queues)
  taken_here c i best [] queues same before own all =
      let none : map words_in [] ≡ map words_at ((k, e) ∷ filter (λ x. x.1.caller == c) xs) = own ∙ ap (map words_at) (filter_own c (k, e) xs same) in absurd (let no : ⊥ = cc in no)
  taken_here c i best (f ∷ queue) queues same before own all =
      let own_is : map words_in (f ∷ queue) ≡ map words_at ((k, e) ∷ filter (λ x. x.1.caller == c) xs) = own ∙ ap (map words_at) (filter_own c (k, e) xs same) in
      let first : words_in f ≡ words_at (k, e) = cc in
      let rest : AreOwn c xs queue = cc in
      let place : f.place ≡ k = ap (λ x. x.0) first in
      let others_are = others (c + 1) (i + 1) i queues (omega (arith, same)) all in
      let here : i + zero ≡ i = omega arith in
      record {
        update = f;
        queue = queue;
        at = ap (λ b. least_from (i + 1) b queues) (ap (λ (p : ℕ). nearer best i (Some p)) place ∙ nearer_takes k i best before) ∙ others_are.0 ∙ ap (λ (n : ℕ). Some (n, k)) (sym here);
        stood = refl;
        words = first;
        left = (rest, others_are.1);
      }

  taken : (c i m : ℕ) (best : Option (ℕ × ℕ)) (queues : List (List Frame)) → e.caller ≡ c + m → m < length queues → IsBestPast k best → AreAllOwn c ((k, e) ∷ xs) queues → IsTaken c i m best queues
  taken c i m best [] same within before all = absurd (omega (arith, within))
  taken c i zero best (queue ∷ queues) same within before all = taken_here c i best queue queues (omega (arith, same)) before all.0 all.1
  taken c i (suc m) best (queue ∷ queues) same within before all =
      let own : AreOwn c xs queue = all.0 ∙ ap (map words_at) (filter_other c (k, e) xs (λ is. absurd (omega (arith, same, is)))) in
      let later = nearer_past k i best (next_place queue) before (next_past k queue (filter (λ x. x.1.caller == c) xs) own (past_filter k c xs past)) in
      let t = taken (c + 1) (i + 1) m (nearer best i (next_place queue)) queues (omega (arith, same)) (omega (arith, within)) later all.1 in
      let here : i + 1 + m ≡ i + suc m = omega arith in
      record {
        update = t.update;
        queue = t.queue;
        at = t.at ∙ ap (λ (n : ℕ). Some (n, k)) here;
        stood = t.stood;
        words = t.words;
        left = (own, t.left);
      }

  -- so it is taken next
  next_is : (m : ℕ) (queues : List (List Frame)) (t : IsTaken 1 0 m None queues) → next_update queues ≡ Some (t.update, set queues m t.queue)
  next_is m queues t =
      let at : least_from 0 None queues ≡ Some (m, k) = t.at ∙ ap (λ (n : ℕ). Some (n, k)) (let e : 0 + m ≡ m = omega arith in e) in
      ap (next_by queues) at ∙ ap (first_update queues m) t.stood

-- with nothing left there is no next one
none_own : (c i : ℕ) (queues : List (List Frame)) → AreAllOwn c [] queues → least_from i None queues ≡ None
none_own c i [] all = refl
none_own c i ([] ∷ queues) all = none_own (c + 1) (i + 1) queues all.1
none_own c i ((f ∷ queue) ∷ queues) all = let same = all.0 in absurd (let no : ⊥ = cc in no)

none_left : (n : ℕ) (queues : List (List Frame)) → AreAllOwn 1 [] queues → merged_frames n queues ≡ []
none_left zero queues all = refl
none_left (suc n) queues all = ap (λ (o : Option (Frame × List (List Frame))). option_map_or (λ r. r.0 ∷ merged_frames n r.1) o []) (ap (next_by queues) (none_own 1 0 queues all))

-- the turns give the entries in order
pub in_turn : (n k : ℕ) (es : List Entry) (queues : List (List Frame)) → length es ≤ n → AllByRecursion (λ x. (1 ≤ x.1.caller) × (x.1.caller < 1 + length queues)) (enumerate_from k es) →
    AreAllOwn 1 (enumerate_from k es) queues → map words_in (merged_frames n queues) ≡ map words_at (enumerate_from k es)
in_turn n k [] queues few known all = ap (map words_in) (none_left n queues all)
in_turn zero k (e ∷ es) queues few known all = absurd (omega (arith, few))
in_turn (suc n) k (e ∷ es) queues few known all =
    let low : 1 ≤ e.caller = known.0.0 in let high : e.caller < 1 + length queues = known.0.1 in
    let m : ℕ = e.caller - 1 in
    let past : ArePast k (enumerate_from (k + 1) es) = past_enumerate k (k + 1) es (omega arith) in
    let t = taken k e (enumerate_from (k + 1) es) past 1 0 m None queues (omega (arith, low)) (omega (arith, low, high)) tt all in
    let left : List (List Frame) = set queues m t.queue in
    let long : 1 + length left ≡ 1 + length queues = ap (λ (l : ℕ). 1 + l) (length-set queues m t.queue) in
    let more = in_turn n (k + 1) es left (omega (arith, few))
    (subst (λ (l : ℕ). AllByRecursion (λ x. (1 ≤ x.1.caller) × (x.1.caller < l)) (enumerate_from (k + 1) es)) (sym long) known.1) t.left in
    ap (λ (o : Option (Frame × List (List Frame))). map words_in (option_map_or (λ r. r.0 ∷ merged_frames n r.1) o [])) (next_is k e (enumerate_from (k + 1) es) past m queues t)
    ∙ (λ i. t.words i ∷ more i)
