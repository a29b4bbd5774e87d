-- What an update was told: the words of a reply with a place below the last count, or a code.
use Rattle.std.specs.Prelude.{◌≡◌, ℕ, zero, suc, ◌+◌, ◌-◌, ◌^◌, ◌*◌, ◌<◌, ◌≤◌, List, [], ◌∷◌, ◌++◌, length, map, nat_lt, cond, Bool, true, false, Option, Some, None, option_map, slice_get, slice_index_or}
use Rattle.std.specs.List.{AllByRecursion}
use Rattle.std.proofs.Common.{refl, sym, ap, ◌∙◌, subst, arith, append-nil}
use mathlib.Core.Option.{some, some-injective, some-ne-none}
use lib.ListN.{get_elem?}
use Rattle.atomic_table.specs.Seated.{TableId}
use Rattle.rom_model.specs.declared.call.Updated.{Updated}
use Rattle.rom_model.specs.declared.call.Updated.TheVariants as told
use Rattle.rom_model.specs.declared.entry.Entry.{Entry}
use Rattle.rom_model.specs.declared.record.Fate.{Fate}
use Rattle.rom_model.specs.declared.record.Fate.TheVariants.{Published, Failed, Doubt}
use Rattle.rom_model.specs.declared.record.Found.{Found}
use Rattle.rom_model.specs.History.{IsLegal, LAST_COUNT, after, batch, batch_of, left}
use Rattle.rom_model.specs.Lawful.{as_words}
use Rattle.rom_model.specs.Machine.{Machine, on_words}
use Rattle.rom_model.specs.Passes.{batch_told, fate_told, history_of, published}
use Rattle.rom_model.specs.Seen.{StartsWith, next_call}
use Rattle.rom_model.proofs.Recorded.{history_legal, history_more}
use Rattle.rom_rule.specs.CallKinds.{IsLast, IsToldByPass, longer}
use Rattle.rom_rule.specs.Calls.{answer_words}
use Rattle.rom_rule.specs.Records.{KnowsEntries, KnowsMoments}
use Rattle.rom_rule.specs.Views.{Told, kept_of}
use Rattle.rom_rule.specs.declared.views.Base.{Base}
use Rattle.rom_rule.specs.declared.views.View.{View}
use Rattle.rom_rule.proofs.Told.{at_low}
use Rattle.rom_store.specs.Callers.{Caller, IsCallerOf, IsDatedBy}
use Rattle.rom_store.specs.Updating.{HasBeenTold, HasUpdated, IsDoneIn}
use Rattle.rom_store.proofs.Becoming.{IsReadBack, IsWithinPlaces, legal_few}

-- an answer's words stand for it alone
one_told : (a b : Updated (List ℕ)) → IsWithinPlaces a → IsWithinPlaces b → answer_words a ≡ answer_words b → a ≡ b
one_told (told.Done r p) (told.Done q o) low high same = cc
one_told (told.Done r p) told.Spent low high same = absurd (let e : p ≡ 2 ^ 62 = cc in omega arith)
one_told (told.Done r p) told.Failed low high same = absurd (let e : p ≡ 2 ^ 62 + 1 = cc in omega arith)
one_told (told.Done r p) told.Doubt low high same = absurd (let e : p ≡ 2 ^ 62 + 2 = cc in omega arith)
one_told told.Spent (told.Done q o) low high same = absurd (let e : o ≡ 2 ^ 62 = cc in omega arith)
one_told told.Spent told.Spent low high same = refl
one_told told.Spent told.Failed low high same = absurd (let e : 2 ^ 62 ≡ 2 ^ 62 + 1 = cc in omega arith)
one_told told.Spent told.Doubt low high same = absurd (let e : 2 ^ 62 ≡ 2 ^ 62 + 2 = cc in omega arith)
one_told told.Failed (told.Done q o) low high same = absurd (let e : o ≡ 2 ^ 62 + 1 = cc in omega arith)
one_told told.Failed told.Spent low high same = absurd (let e : 2 ^ 62 + 1 ≡ 2 ^ 62 = cc in omega arith)
one_told told.Failed told.Failed low high same = refl
one_told told.Failed told.Doubt low high same = absurd (let e : 2 ^ 62 + 1 ≡ 2 ^ 62 + 2 = cc in omega arith)
one_told told.Doubt (told.Done q o) low high same = absurd (let e : o ≡ 2 ^ 62 + 2 = cc in omega arith)
one_told told.Doubt told.Spent low high same = absurd (let e : 2 ^ 62 + 2 ≡ 2 ^ 62 = cc in omega arith)
one_told told.Doubt told.Failed low high same = absurd (let e : 2 ^ 62 + 2 ≡ 2 ^ 62 + 1 = cc in omega arith)
one_told told.Doubt told.Doubt low high same = refl

-- both ways to look a list up find the same
get_of_at : {A : Type 0} (xs : List A) (i : ℕ) (a : A) → get_elem? xs i ≡ some a → slice_get xs i ≡ Some a
get_of_at [] i a e = absurd (some-ne-none a (sym e))
get_of_at (x ∷ xs) zero a e = ap (λ y. Some y) (some-injective x a e)
get_of_at (x ∷ xs) (suc i) a e = get_of_at xs i a e

-- the member after the others
last_index : {A : Type 0} (xs : List A) (x d : A) → slice_index_or (xs ++ x ∷ []) (length xs) d ≡ x
last_index [] x d = refl
last_index (y ∷ xs) x d = last_index xs x d

-- where the longer of two lists has something past the first, it is the second
longer_at : (xs ys : List Entry) (i : ℕ) (e : Entry) → get_elem? (longer xs ys) i ≡ some e → length xs ≤ i → longer xs ys ≡ ys
longer_at xs ys i e at past = by_test (nat_lt (length ys) (length xs)) at
  where
    by_test : (t : Bool) → get_elem? (cond t xs ys) i ≡ some e → cond t xs ys ≡ ys
    by_test true is = absurd (let low = at_low xs i e is in omega arith)
    by_test false is = refl

-- what is told of a call is told of one that the pass found
batch_finds : (k : ℕ) (fs : List Found) (es : List Entry) (i : ℕ) (x : Told) → get_elem? (batch_told k fs es) i ≡ some x → get_elem? fs i ≡ some x.0
batch_finds k [] es i x e = absurd (some-ne-none x (sym e))
batch_finds k (f ∷ fs) [] zero x e = ap (λ (y : Told). some y.0) (some-injective (f, told.Spent) x e)
batch_finds k (f ∷ fs) [] (suc i) x e = batch_finds k fs [] i x e
batch_finds k (f ∷ fs) (g ∷ es) zero x e = ap (λ (y : Told). some y.0) (some-injective (f, told.Done g.reply k) x e)
batch_finds k (f ∷ fs) (g ∷ es) (suc i) x e = batch_finds (k + 1) fs es i x e

-- of an outcome that is told of each found call
all_alike : (u : Updated (List ℕ)) (fs : List Found) (i : ℕ) (x : Told) → get_elem? (map (λ f. let y : Told = (f, u) in y) fs) i ≡ some x → u ≡ x.1
all_alike u [] i x e = absurd (some-ne-none x (sym e))
all_alike u (f ∷ fs) zero x e = ap (λ (y : Told). y.1) (some-injective (f, u) x e)
all_alike u (f ∷ fs) (suc i) x e = all_alike u fs i x e

-- only a pass that published tells that a call is done
done_published : (fate : Fate) (k : ℕ) (fs : List Found) (es : List Entry) (i : ℕ) (x : Told) (reply : List ℕ) (place : ℕ) → get_elem? (fate_told fate k fs es) i ≡ some x → x.1 ≡ told.Done reply place →
    (published fate es ≡ es) × (get_elem? fs i ≡ some x.0)
done_published Published k fs es i x reply place at done = (refl, batch_finds k fs es i x at)
done_published Failed k fs es i x reply place at done = absurd (let e = all_alike told.Failed fs i x at in cc)
done_published Doubt k fs es i x reply place at done = absurd (let e = all_alike told.Doubt fs i x at in cc)

module _ {S : Type 0} (Contents : ℕ → List ℕ → S → ℕ → Type 0) (step : ℕ → S → ℕ → List ℕ → Option (S × List ℕ)) where
  -- what is told has its place below the last count
  within_told : (b : Base) (x : Told) (since : ℕ) (before seen : List Entry) → IsToldByPass Contents step b x since before seen → IsWithinPlaces x.1
  within_told b x since before seen is = by_told x.1 refl
    where
      by_told : (w : Updated (List ℕ)) → x.1 ≡ w → IsWithinPlaces w
      by_told (told.Done reply place) same = (is.entry reply place same).2
      by_told told.Spent same = tt
      by_told told.Failed same = tt
      by_told told.Doubt same = tt

  -- A call that was told that it is done.
  module _ (b : Base) (x : Told) (before seen : List Entry) (is : IsToldByPass Contents step b x (length before) before seen) (reply : List ℕ) (place : ℕ) (done : x.1 ≡ told.Done reply place) where
    abbrev entry : Entry
    entry = record { caller = x.0.caller; seq = x.0.seq; args = x.0.args; reply = reply }

    abbrev earlier : List Entry
    earlier = history_of step b.order is.start is.count is.earlier

    abbrev whole : List Entry
    whole = history_of step b.order is.start is.count (is.earlier ++ is.pass ∷ [])

    -- all that its caller has seen is the history up to its pass
    seen_whole : seen ≡ whole
    seen_whole =
        let here = is.entry reply place done in
        let there : place ≡ is.count + here.0 = here.1 in
        let past : is.count + length before ≤ place = is.since_is reply place done in
        is.seen_is ∙ longer_at before whole here.0 entry (subst (λ (l : List Entry). get_elem? l here.0 ≡ some entry) is.seen_is here.3) (omega arith)

    done_since : IsDoneIn step b.order is.start is.count x.0 reply place before seen
    done_since =
        let s : S = after step b.order is.start is.count earlier in
        let k : ℕ = is.count + length earlier in
        let fate = done_published is.pass.fate k is.pass.found (batch step b.order s k is.pass.found) is.at x reply place is.told done in
        let here = is.entry reply place done in
        let there : place ≡ is.count + here.0 = here.1 in
        let index : here.0 ≡ place - is.count = omega arith in
        record {
          legal = subst (λ (l : List Entry). IsLegal step b.order is.start is.count l) (sym seen_whole) (history_legal step b.order is.start is.count (is.earlier ++ is.pass ∷ []));
          earlier = earlier;
          found = is.pass.found;
          ends = seen_whole ∙ (history_more step b.order is.start is.count is.earlier is.pass ∙ ap (λ (l : List Entry). earlier ++ l) fate.0);
          own = (is.at, get_of_at is.pass.found is.at x.0 fate.1);
          past = is.since_is reply place done;
          entry = subst (λ (j : ℕ). slice_get seen j ≡ Some entry) index (get_of_at seen here.0 entry here.3);
        }

    -- What its caller has seen ends with the batch of its pass, from whatever state and count the opening image stands for.
    is_done : ((s t : S) (j k : ℕ) → Contents b.order b.image s j → Contents b.order b.image t k → (s ≡ t) × (j ≡ k)) → (s : S) (k : ℕ) → Contents b.order b.image s k → IsDoneIn step b.order s k x.0 reply place before seen
    is_done one s k at =
        let same = one is.start s is.count k is.opening at in
        subst (λ (z : S × ℕ). IsDoneIn step b.order z.0 z.1 x.0 reply place before seen) (λ i. (same.0 i, same.1 i)) done_since

module _ {S C Q R A : Type 0} (m : Machine S C Q R A) (back : (order : ℕ) (s : S) (count : ℕ) (words : List ℕ) (call : C) → m.words_call words ≡ Some call → let told = (m.step order s count call).1 in m.words_reply (m.reply_words told) ≡ Some told) where
  abbrev by_words : ℕ → S → ℕ → Option C → Option (S × List ℕ)
  by_words order s k o = option_map (λ (c : C). let done = m.step order s k c in (done.0, m.reply_words done.1)) o

  -- each entry has the words of a reply
  abbrev HaveReplies : List Entry → Type 0
  HaveReplies es = AllByRecursion (λ e. (reply : R) × (m.reply_words reply ≡ e.reply) × (m.words_reply (m.reply_words reply) ≡ Some reply)) es

  taken_replies : (order : ℕ) (s : S) (k : ℕ) (f : Found) (o : Option C) (rest : List Entry) → m.words_call f.args ≡ o → HaveReplies rest → HaveReplies (batch_of (on_words m) order k f (by_words order s k o) rest)
  taken_replies order s k f (Some c) rest is all = by_test (nat_lt k LAST_COUNT)
    where
      by_test : (t : Bool) → HaveReplies (cond t (record { caller = f.caller; seq = f.seq; args = f.args; reply = m.reply_words (m.step order s k c).1 } ∷ rest) [])
      by_test true = (((m.step order s k c).1, refl, back order s k f.args c is), all)
      by_test false = tt
  taken_replies order s k f None rest is all = tt

  batch_replies : (order : ℕ) (s : S) (k : ℕ) (fs : List Found) → HaveReplies (batch (on_words m) order s k fs)
  batch_replies order s k [] = tt
  batch_replies order s k (f ∷ fs) = taken_replies order s k f (m.words_call f.args) (batch (on_words m) order (left s (on_words m order s k f.args)) (k + 1) fs) refl (batch_replies order (left s (on_words m order s k f.args)) (k + 1) fs)

  -- the words are those of what an update is told
  abbrev AreWords : Updated (List ℕ) → Type 0
  AreWords w = (u : Updated R) × IsReadBack m u × (as_words m u ≡ w)

  batch_words : (k : ℕ) (fs : List Found) (es : List Entry) → HaveReplies es → (i : ℕ) (x : Told) → get_elem? (batch_told k fs es) i ≡ some x → AreWords x.1
  batch_words k [] es all i x e = absurd (some-ne-none x (sym e))
  batch_words k (f ∷ fs) [] all zero x e = (told.Spent, tt, ap (λ (y : Told). y.1) (some-injective (f, told.Spent) x e))
  batch_words k (f ∷ fs) [] all (suc i) x e = batch_words k fs [] tt i x e
  batch_words k (f ∷ fs) (g ∷ es) all zero x e = (told.Done all.0.0 k, all.0.2, ap (λ (w : List ℕ). told.Done w k) all.0.1 ∙ ap (λ (y : Told). y.1) (some-injective (f, told.Done g.reply k) x e))
  batch_words k (f ∷ fs) (g ∷ es) all (suc i) x e = batch_words (k + 1) fs es all.1 i x e

  fate_words : (fate : Fate) (k : ℕ) (fs : List Found) (es : List Entry) → HaveReplies es → (i : ℕ) (x : Told) → get_elem? (fate_told fate k fs es) i ≡ some x → AreWords x.1
  fate_words Published k fs es all i x e = batch_words k fs es all i x e
  fate_words Failed k fs es all i x e = (told.Failed, tt, all_alike told.Failed fs i x e)
  fate_words Doubt k fs es all i x e = (told.Doubt, tt, all_alike told.Doubt fs i x e)

  -- what a pass told a call are the words of what an update is told
  told_words : (Contents : ℕ → List ℕ → S → ℕ → Type 0) (b : Base) (x : Told) (since : ℕ) (before seen : List Entry) → IsToldByPass Contents (on_words m) b x since before seen → AreWords x.1
  told_words Contents b x since before seen is =
      let h : List Entry = history_of (on_words m) b.order is.start is.count is.earlier in
      let s : S = after (on_words m) b.order is.start is.count h in
      let k : ℕ = is.count + length h in
      fate_words is.pass.fate k is.pass.found (batch (on_words m) b.order s k is.pass.found) (batch_replies b.order s k is.pass.found) is.at x is.told

module _ {S C Q R A : Type 0} (m : Machine S C Q R A) where
  -- a place is the same by words
  within_words : (u : Updated R) → IsWithinPlaces u → IsWithinPlaces (as_words m u)
  within_words (told.Done reply place) low = low
  within_words told.Spent low = tt
  within_words told.Failed low = tt
  within_words told.Doubt low = tt

  within_back : (u : Updated R) → IsWithinPlaces (as_words m u) → IsWithinPlaces u
  within_back (told.Done reply place) low = low
  within_back told.Spent low = tt
  within_back told.Failed low = tt
  within_back told.Doubt low = tt

-- the call that was posted, as its pass finds it
found_is : (v : View) (calls : List (List ℕ)) (args : List ℕ) → length v.calls ≡ length v.outcomes → calls ≡ v.calls ++ args ∷ []
    → record { caller = v.number; seq = length v.outcomes; args = slice_index_or calls (length v.outcomes) [] } ≡ next_call (kept_of v) args
found_is v calls args idle posted =
    let last : slice_index_or (v.calls ++ args ∷ []) (length v.outcomes) [] ≡ args
    = ap (λ (n : ℕ). slice_index_or (v.calls ++ args ∷ []) n []) (sym idle) ∙ last_index v.calls args [] in
    let same : slice_index_or calls (length v.outcomes) [] ≡ args = ap (λ (l : List (List ℕ)). slice_index_or l (length v.outcomes) []) posted ∙ last in
    λ i. record { caller = v.number; seq = length v.outcomes; args = same i }

-- the view once a call was posted
abbrev pub posted : View → List ℕ → List ℕ → ℕ → View
posted v args laid steps = record v { calls = v.calls ++ args ∷ []; laid = laid; since = length v.seen; steps = steps }

-- so where the view before and the words are written otherwise
pub posted_same : (v w x : View) (words args laid : List ℕ) (steps : ℕ) → x ≡ posted v words laid steps → v ≡ w → words ≡ args → x ≡ posted w args laid steps
posted_same v w x words args laid steps posts same is = posts ∙ (λ i. posted (same i) (is i) laid steps)

module _ {S C Q R A : Type 0} (m : Machine S C Q R A) (Contents : ℕ → List ℕ → S → ℕ → Type 0) where
  -- what was told are the words of what an update is told, with a place below the last count
  pub told_some : (back : (order : ℕ) (s : S) (count : ℕ) (words : List ℕ) (call : C) → m.words_call words ≡ Some call → let told = (m.step order s count call).1 in m.words_reply (m.reply_words told) ≡ Some told) (v w : View) (h : HasBeenTold Contents (on_words m) v w) (answer : List ℕ) → ((x : Told) → IsLast w x → answer_words x.1 ≡ answer) → (u : Updated R) × IsWithinPlaces u × IsReadBack m u × (answer_words (as_words m u) ≡ answer)
  told_some back v w h answer same =
      let some = told_words m back Contents v.base h.told v.since v.seen w.seen h.is_told in
      let low = within_told Contents (on_words m) v.base h.told v.since v.seen w.seen h.is_told in
      let words : answer_words h.told.1 ≡ answer = same h.told (v.outcomes, ap (λ (z : View). z.outcomes) h.view) in
      (some.0, within_back m some.0 (subst IsWithinPlaces (sym some.2) low), some.1, ap answer_words some.2 ∙ words)

  -- A call was posted, then answered, and what was taken are the words of this update; the views are before, once it was posted, once it was answered, and after.
  pub record IsTaken (b : Base) (old v w new : View) (args : List ℕ) (u : Updated R) : Type 0 where
    pub base_is : old.base ≡ b
    pub idle : length old.calls ≡ length old.outcomes
    pub laid : List ℕ
    pub steps : ℕ
    pub posts : v ≡ posted old args laid steps
    pub told_of : HasBeenTold Contents (on_words m) v w
    pub more : ℕ
    pub takes : new ≡ record w { steps = more }
    pub answer : List ℕ
    pub taken : (x : Told) → IsLast w x → answer_words x.1 ≡ answer
    pub told : answer_words (as_words m u) ≡ answer
    pub low : IsWithinPlaces u

  module _ (b : Base) (old v w new : View) (args : List ℕ) (u : Updated R) (h : IsTaken b old v w new args u) where
    abbrev told_call : Told
    told_call = (next_call (kept_of old) args, as_words m u)

    told_is : h.told_of.told ≡ told_call
    told_is =
        let t = h.told_of in
        let found : t.told.0 ≡ next_call (kept_of old) args
        = t.found ∙ (ap (λ (z : View). record { caller = z.number; seq = length z.outcomes; args = slice_index_or z.calls (length z.outcomes) [] }) h.posts ∙ found_is old (old.calls ++ args ∷ []) args h.idle refl) in
        let words : t.told.1 ≡ as_words m u
        = one_told t.told.1 (as_words m u) (within_told Contents (on_words m) v.base t.told v.since v.seen w.seen t.is_told) (within_words m u h.low) (h.taken t.told (v.outcomes, ap (λ (z : View). z.outcomes) t.view) ∙ sym h.told) in
        λ i. (found i, words i)

    -- it is the next of its outcomes
    pub told_next : new.outcomes ≡ old.outcomes ++ told_call ∷ []
    told_next = ap (λ (z : View). z.outcomes) h.takes ∙ (ap (λ (z : View). z.outcomes) h.told_of.view ∙ (λ i. (h.posts i).outcomes ++ told_is i ∷ []))

    -- one pass told it
    pub told_once : IsToldByPass Contents (on_words m) b told_call (length old.seen) old.seen new.seen
    told_once =
        let base : v.base ≡ b = ap (λ (z : View). z.base) h.posts ∙ h.base_is in
        let seen : w.seen ≡ new.seen = sym (ap (λ (z : View). z.seen) h.takes) in
        subst (λ (z : Base × Told × View × List Entry). IsToldByPass Contents (on_words m) z.0 z.1 z.2.since z.2.seen z.3) (λ i. (base i, told_is i, h.posts i, seen i)) h.told_of.is_told

    -- and the caller's moments are those of what it has seen
    pub told_dated : IsDatedBy Contents (on_words m) b old new
    told_dated =
        let base : v.base ≡ b = ap (λ (z : View). z.base) h.posts ∙ h.base_is in
        let seen : w.seen ≡ new.seen = sym (ap (λ (z : View). z.seen) h.takes) in
        let moments : w.moments ≡ new.moments = sym (ap (λ (z : View). z.moments) h.takes) in (
          subst (λ (z : List ℕ × List ℕ). StartsWith z.1 z.0) (λ i. (ap (λ (z : View). z.moments) h.posts i, moments i)) h.told_of.moments_begin,
          subst (λ (z : Base × List Entry × List ℕ). KnowsMoments Contents (on_words m) z.0 z.1 z.2) (λ i. (base i, seen i, moments i)) h.told_of.dated,
        )

    -- and where it is done, what its caller has seen ends with the batch of that pass
    pub told_done : ((s t : S) (j k : ℕ) → Contents b.order b.image s j → Contents b.order b.image t k → (s ≡ t) × (j ≡ k)) → (s : S) (k : ℕ) → Contents b.order b.image s k → (reply : R) (place : ℕ) → u ≡ told.Done reply place
        → IsDoneIn (on_words m) b.order s k (next_call (kept_of old) args) (m.reply_words reply) place old.seen new.seen
    told_done one s k at reply place done = is_done Contents (on_words m) b told_call old.seen new.seen told_once (m.reply_words reply) place (ap (as_words m) done) one s k at

    -- and where it is done, its reply has at most twice the words of the call
    pub told_few : ((order : ℕ) (s : S) (count : ℕ) (words : List ℕ) (call : C) → m.words_call words ≡ Some call → length (m.reply_words (m.step order s count call).1) ≤ 2 * length words) → (reply : R) (place : ℕ) → u ≡ told.Done reply place → length (m.reply_words reply) ≤ 2 * length args
    told_few few reply place done =
        let once = told_once in
        let is = done_since Contents (on_words m) b told_call old.seen new.seen once (m.reply_words reply) place (ap (as_words m) done) in
        legal_few m few b.order once.start once.count new.seen (place - once.count) _ is.legal is.entry

    -- all of the view afterwards, by the one before
    pub new_is : new ≡ record old { calls = old.calls ++ args ∷ []; laid = h.laid; since = length old.seen; outcomes = old.outcomes ++ told_call ∷ []; seen = w.seen; moments = w.moments; steps = h.more }
    new_is = h.takes ∙ ((λ i. record (h.told_of.view i) { steps = h.more }) ∙ (λ i. record (h.posts i) { outcomes = (h.posts i).outcomes ++ told_is i ∷ []; seen = w.seen; moments = w.moments; steps = h.more }))

    -- and what it has seen is still known
    pub new_knows : (s : S) (k : ℕ) → Contents b.order b.image s k → KnowsEntries b.callers k new
    new_knows s k held =
        let base : v.base ≡ b = ap (λ (z : View). z.base) h.posts ∙ h.base_is in
        let knows = h.told_of.knows s k (subst (λ (z : Base). Contents z.order z.image s k) (sym base) held) in
        let same : KnowsEntries v.base.callers k (record w { steps = h.more }) = record { known = knows.known; own = knows.own } in
        subst (λ (z : Base × View). KnowsEntries z.0.callers k z.1) (λ i. (base i, sym h.takes i)) same

  -- All that an update leaves, where its call was posted.
  pub told_all : ((order : ℕ) (words : List ℕ) (s t : S) (j k : ℕ) → Contents order words s j → Contents order words t k → (s ≡ t) × (j ≡ k)) → (table : TableId) (b : Base) (p q : Caller) (v w : View) (args : List ℕ) (u : Updated R) →
      IsTaken b p.view v w q.view args u → p.table_id ≡ table → q.table_id ≡ p.table_id → length p.view.outcomes < LAST_COUNT → HasUpdated m Contents table b args u p q
  told_all one table b p q v w args u h at kept few =
      let is = new_is b p.view v w q.view args u h in
      let once = told_once b p.view v w q.view args u h in
      record {
        of = record { table_is = kept ∙ at; base_is = ap (λ (z : View). z.base) is ∙ h.base_is; knows = new_knows b p.view v w q.view args u h };
        same = (kept, ap (λ (z : View). z.base) is, ap (λ (z : View). z.number) is);
        later = once.begins;
        fronts = ap (λ (z : View). z.fronts) is;
        joined = ap (λ (z : View). z.joined) is;
        unposted = λ many. absurd (omega (arith, many, few));
        posted = λ _. ap (λ (z : View). z.calls) is;
        told = λ _. told_next b p.view v w q.view args u h;
        taken = λ _. once;
        dated = λ _. told_dated b p.view v w q.view args u h;
        done = told_done b p.view v w q.view args u h (λ s t j k. one b.order b.image s t j k);
      }

  -- and where none was
  pub told_none : (table : TableId) (b : Base) (p : Caller) (args : List ℕ) → IsCallerOf Contents table b p → LAST_COUNT ≤ length p.view.outcomes → HasUpdated m Contents table b args told.Spent p p
  told_none table b p args of many = record {
    of = of;
    same = (refl, refl, refl);
    later = ([], sym (append-nil p.view.seen));
    fronts = refl;
    joined = refl;
    unposted = λ _. (refl, refl);
    posted = λ few. absurd (omega (arith, many, few));
    told = λ few. absurd (omega (arith, many, few));
    taken = λ few. absurd (omega (arith, many, few));
    dated = λ few. absurd (omega (arith, many, few));
    done = λ s k held reply place never. absurd (cc never);
  }
