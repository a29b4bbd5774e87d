-- The published list, its records, and what views remember of them
use Rattle.rom_model.specs.declared.kept.Kept.{Kept}
use Rattle.std.proofs.Common.{◌≡◌, ◌≢◌, ℕ, zero, suc, ◌+◌, ◌<◌, ◌≤◌, ◌⊎◌, List, [], ◌∷◌, ◌++◌, map, take, drop, length, sym, refl, ap, ◌∙◌, subst, inl, inr, ⊎_elim, arith, Bool, true, false, cond, append_assoc, append-nil, length-append, ltb→lt, lt-ltb, Option, Some, None}
use Rattle.std.proofs.lemmas.Bool.{cases_lt}
use Rattle.std.specs.Prelude.{filter, nat_lt, ◌==◌}
use Rattle.std.specs.List.{AllByRecursion}
use mathlib.Core.Option.{some, some-injective, some-ne-none}
use lib.ListN.{get_elem?}
use Rattle.std.proofs.lemmas.List.{take-append-le, take_all}
use Rattle.rom_model.specs.Seen.{StartsWith}
use Rattle.rom_model.specs.declared.entry.Entry.{Entry}
use Rattle.rom_model.specs.declared.record.Fate.{Fate}
use Rattle.rom_model.specs.declared.record.Fate.TheVariants.{Published, Failed, Doubt}
use Rattle.rom_model.specs.declared.record.Found.{Found}
use Rattle.rom_model.specs.declared.record.PassRecord.{PassRecord}
use Rattle.rom_model.specs.declared.call.Updated.{Updated}
use Rattle.rom_model.specs.declared.call.Updated.TheVariants as told
use Rattle.rom_model.specs.History.{left, after, batch, batch_of, LAST_COUNT}
use Rattle.rom_model.specs.Passes.{batch_told, added, published, history_of, all_told, fate_told, AreInOrder, AreRising, HasFault}
use Rattle.rom_model.specs.Passes.{faults_after}
use Rattle.rom_model.specs.Story.{len_after}
use Rattle.rom_model.proofs.Recorded.{after_append, history_more, told_more, order_more}
use Rattle.rom_rule.specs.CallKinds.{longer}
use Rattle.rom_rule.specs.Calls.{AreScanned, caller_in, found_of, told_to_caller}
use Rattle.rom_rule.specs.Kinds.{with_faults_after}
use Rattle.rom_rule.specs.Records.{IsCall, IsDated, IsKeptInBook, IsRecordedFront, Recorded, Remembers}
use Rattle.rom_rule.specs.Views.{Book, Remembered, Told}
use Rattle.rom_rule.specs.declared.views.Base.{Base}
use Rattle.rom_rule.specs.declared.views.Request.{Request}
use Rattle.rom_rule.proofs.Told.{all_map, all_append, starts_shorter}

-- a fact about each of some records, at one of them
pub all_inside : (P : PassRecord → Type 0) (xs : List PassRecord) (r : PassRecord) (rest : List PassRecord) → AllByRecursion P (xs ++ r ∷ rest) → P r
all_inside P [] r rest h = h.0
all_inside P (x ∷ xs) r rest h = all_inside P xs r rest h.1

-- of records in order each has its fault
pub fault_inside : {S : Type 0} (step : ℕ → S → ℕ → List ℕ → Option (S × List ℕ)) (order : ℕ) (s : S) (k len faults : ℕ) (xs : List PassRecord) (r : PassRecord) (rest : List PassRecord) → AreInOrder step order s k len faults (xs ++ r ∷ rest) → HasFault r.fate r.faults_before r.faults_after
fault_inside step order s k len faults [] r rest h = h.5
fault_inside step order s k len faults (x ∷ xs) r rest h = let more : List Entry = added step order s k x in fault_inside step order (after step order s k more) (k + length more) x.len x.faults_after xs r rest h.6

-- callers that were scanned rise
pub rising : (low last : ℕ) (fs : List Request) → AreScanned low last (map caller_in fs) → AreRising low (map found_of fs)
rising low last [] h = tt
rising low last (f ∷ fs) h = (h.0, rising f.caller last fs h.1)

-- the length after some first records, where the last one's count of faults was raised
pub len_raised : (i len n : ℕ) (rs : List PassRecord) (r : PassRecord) → len_after len (take i (rs ++ with_faults_after n r ∷ [])) ≡ len_after len (take i (rs ++ r ∷ []))
len_raised zero len n rs r = refl
len_raised (suc zero) len n [] r = refl
len_raised (suc (suc i)) len n [] r = refl
len_raised (suc i) len n (x ∷ rs) r = len_raised i x.len n rs r

pub fault_raised : (fate : Fate) (before now later : ℕ) → now ≤ later → HasFault fate before now → HasFault fate before later
fault_raised Published before now later le h = tt
fault_raised Failed before now later le h = omega arith
fault_raised Doubt before now later le h = omega arith

abbrev reply_in : Updated (List ℕ) → List ℕ
reply_in (told.Done reply place) = reply
reply_in other = []

abbrev place_in : Updated (List ℕ) → ℕ
place_in (told.Done reply place) = place
place_in other = 0

no_done : (u : Updated (List ℕ)) (i : ℕ) (fs : List Found) (f : Found) (reply : List ℕ) (place : ℕ) → u ≢ told.Done reply place → get_elem? (map (λ g. let x : Told = (g, u) in x) fs) i ≡ some (f, told.Done reply place) → ⊥
no_done u i [] f reply place ne e = some-ne-none (f, told.Done reply place) (sym e)
no_done u zero (g ∷ fs) f reply place ne e = ne (ap (λ (x : Told). x.1) (some-injective (g, u) (f, told.Done reply place) e))
no_done u (suc i) (g ∷ fs) f reply place ne e = no_done u i fs f reply place ne e

-- the longer of two beginnings of a list
pub longer_begins : (whole xs ys : List Entry) → StartsWith whole xs → StartsWith whole ys → StartsWith whole (longer xs ys) × StartsWith (longer xs ys) xs × StartsWith (longer xs ys) ys
longer_begins whole xs ys h g = by_test (nat_lt (length ys) (length xs)) refl
  where
    by_test : (t : Bool) → nat_lt (length ys) (length xs) ≡ t → StartsWith whole (cond t xs ys) × StartsWith (cond t xs ys) xs × StartsWith (cond t xs ys) ys
    by_test true e = let lt = ltb→lt (length ys) (length xs) (subst lib.Dec.T (sym e) tt) in (h, ([], sym (append-nil xs)), starts_shorter whole ys xs g h (omega arith))
    by_test false e = (g, starts_shorter whole xs ys h g (ge_of e), ([], sym (append-nil ys)))
      where
        ge_of : nat_lt (length ys) (length xs) ≡ false → length xs ≤ length ys
        ge_of e' = elim (cases_lt (length ys) (length xs)) [ inl lt ↦ absurd (let z = lt-ltb (length ys) (length xs) lt in let clash : true ≡ false = sym z ∙ e' in cc) | inr ge ↦ omega arith ]

abbrev pub entry_of : Found → List ℕ → Entry
entry_of f reply = record { caller = f.caller; seq = f.seq; args = f.args; reply = reply }

module _ {S : Type 0} (step : ℕ → S → ℕ → List ℕ → Option (S × List ℕ)) (order : ℕ) where
  pub len_is : (s : S) (k len faults : ℕ) (rs : List PassRecord) → AreInOrder step order s k len faults rs → len_after len rs ≡ len + length (history_of step order s k rs)
  len_is s k len faults [] all = omega arith
  len_is s k len faults (r ∷ rs) all = let g : List Entry = added step order s k r in let h : List Entry = history_of step order (after step order s k g) (k + length g) rs in let there = all.0 in
      len_is (after step order s k g) (k + length g) r.len r.faults_after rs all.6 ∙ (let e : r.len + length h ≡ len + length (g ++ h) = omega (arith, length-append g h) in e)

  pub order_raised : (s : S) (k len faults n : ℕ) (rs : List PassRecord) (r : PassRecord) → r.faults_after ≤ n → AreInOrder step order s k len faults (rs ++ r ∷ []) → AreInOrder step order s k len faults (rs ++ with_faults_after n r ∷ [])
  order_raised s k len faults n [] r le all = let a = all.4 in (all.0, all.1, all.2, all.3, omega arith, fault_raised r.fate r.faults_before r.faults_after n le all.5, tt)
  order_raised s k len faults n (x ∷ rs) r le all = let g : List Entry = added step order s k x in (all.0, all.1, all.2, all.3, all.4, all.5, order_raised (after step order s k g) (k + length g) x.len x.faults_after n rs r le all.6)

  -- the history that some first records make is a beginning
  pub history_starts : (s : S) (k : ℕ) (xs ys : List PassRecord) → StartsWith (history_of step order s k (xs ++ ys)) (history_of step order s k xs)
  history_starts s k [] ys = (history_of step order s k ys, refl)
  history_starts s k (x ∷ xs) ys = let g : List Entry = added step order s k x in let h = history_starts (after step order s k g) (k + length g) xs ys in
      (h.0, ap (λ (l : List Entry). g ++ l) h.1 ∙ sym (append_assoc g (history_of step order (after step order s k g) (k + length g) xs) h.0))

  -- no call is done of a batch that ended
  none_done : (k i : ℕ) (fs : List Found) (f : Found) (reply : List ℕ) (place : ℕ) → get_elem? (batch_told k fs []) i ≡ some (f, told.Done reply place) → ⊥
  none_done k i [] f reply place e = some-ne-none (f, told.Done reply place) (sym e)
  none_done k zero (g ∷ fs) f reply place e = let z : told.Spent ≡ told.Done reply place = ap (λ (x : Told). x.1) (some-injective (g, told.Spent) (f, told.Done reply place) e) in cc
  none_done k (suc i) (g ∷ fs) f reply place e = none_done k i fs f reply place e

  -- what a batch told of a call that is done, is its entry
  pub batch_entry : (s : S) (k i : ℕ) (fs : List Found) (f : Found) (reply : List ℕ) (place : ℕ) → get_elem? (batch_told k fs (batch step order s k fs)) i ≡ some (f, told.Done reply place)
      → (place ≡ k + i) × (place < LAST_COUNT) × (get_elem? (batch step order s k fs) i ≡ some (entry_of f reply))
  batch_entry s k i [] f reply place e = absurd (some-ne-none (f, told.Done reply place) (sym e))
  batch_entry s k i (g ∷ fs) f reply place e = by_step (step order s k g.args) i (λ m h. batch_entry (left s (step order s k g.args)) (k + 1) m fs f reply place h) e
    where
      by_limit : (done : S × List ℕ) (t : Bool) → nat_lt k LAST_COUNT ≡ t → (m : ℕ) → let rest : List Entry = batch step order (left s (step order s k g.args)) (k + 1) fs in
          ((n : ℕ) → get_elem? (batch_told (k + 1) fs rest) n ≡ some (f, told.Done reply place) → (place ≡ k + 1 + n) × (place < LAST_COUNT) × (get_elem? rest n ≡ some (entry_of f reply)))
          → get_elem? (batch_told k (g ∷ fs) (cond t (entry_of g done.1 ∷ rest) [])) m ≡ some (f, told.Done reply place) → (place ≡ k + m) × (place < LAST_COUNT) × (get_elem? (cond t (entry_of g done.1 ∷ rest) []) m ≡ some (entry_of f reply))
      by_limit done true lt zero more h = let same : (g, told.Done done.1 k) ≡ (f, told.Done reply place) = some-injective (g, told.Done done.1 k) (f, told.Done reply place) h in let both : told.Done done.1 k ≡ told.Done reply place = ap (λ (x : Told). x.1) same in
          let here : k ≡ place = ap place_in both in let replies : done.1 ≡ reply = ap reply_in both in let low = ltb→lt k LAST_COUNT (subst lib.Dec.T (sym lt) tt) in (omega arith, omega arith, λ j. some (entry_of (ap (λ (x : Told). x.0) same j) (replies j)))
      by_limit done true lt (suc m) more h = let r = more m h in (omega (arith, r.0), r.1, r.2)
      by_limit done false lt m more h = absurd (none_done k m (g ∷ fs) f reply place h)

      by_step : (o : Option (S × List ℕ)) (m : ℕ) → let rest : List Entry = batch step order (left s (step order s k g.args)) (k + 1) fs in
          ((n : ℕ) → get_elem? (batch_told (k + 1) fs rest) n ≡ some (f, told.Done reply place) → (place ≡ k + 1 + n) × (place < LAST_COUNT) × (get_elem? rest n ≡ some (entry_of f reply)))
          → get_elem? (batch_told k (g ∷ fs) (batch_of step order k g o rest)) m ≡ some (f, told.Done reply place) → (place ≡ k + m) × (place < LAST_COUNT) × (get_elem? (batch_of step order k g o rest) m ≡ some (entry_of f reply))
      by_step (Some done) m more h = by_limit done (nat_lt k LAST_COUNT) refl m more h
      by_step None m more h = absurd (none_done k m (g ∷ fs) f reply place h)

  -- a batch that begins at the limit of the count is empty
  pub full_batch : (s : S) (k : ℕ) (fs : List Found) → k ≡ LAST_COUNT → batch step order s k fs ≡ []
  full_batch s k [] e = refl
  full_batch s k (f ∷ fs) e = by_step (step order s k f.args)
    where
      by_step : (o : Option (S × List ℕ)) → batch_of step order k f o (batch step order (left s (step order s k f.args)) (k + 1) fs) ≡ []
      by_step (Some done) = ap (λ (t : Bool). cond t (entry_of f done.1 ∷ batch step order (left s (step order s k f.args)) (k + 1) fs) []) (ap (λ (n : ℕ). nat_lt n LAST_COUNT) e)
      by_step None = refl

  pub fate_entry : (s : S) (k i : ℕ) (fate : Fate) (fs : List Found) (f : Found) (reply : List ℕ) (place : ℕ) → get_elem? (fate_told fate k fs (batch step order s k fs)) i ≡ some (f, told.Done reply place)
      → (j : ℕ) × (place ≡ k + j) × (place < LAST_COUNT) × (get_elem? (published fate (batch step order s k fs)) j ≡ some (entry_of f reply))
  fate_entry s k i Published fs f reply place e = let h = batch_entry s k i fs f reply place e in (i, h.0, h.1, h.2)
  fate_entry s k i Failed fs f reply place e = absurd (no_done told.Failed i fs f reply place (λ z. cc) e)
  fate_entry s k i Doubt fs f reply place e = absurd (no_done told.Doubt i fs f reply place (λ z. cc) e)

  -- what a pass told, after those first records
  abbrev pub told_by : S → ℕ → List PassRecord → PassRecord → List Told
  told_by s k earlier pass = let h : List Entry = history_of step order s k earlier in fate_told pass.fate (k + length h) pass.found (batch step order (after step order s k h) (k + length h) pass.found)

  pub record Source (s : S) (k : ℕ) (rs : List PassRecord) (x : Told) : Type 0 where
    pub earlier : List PassRecord
    pub pass : PassRecord
    pub rest : List PassRecord
    pub at : ℕ
    pub split : rs ≡ earlier ++ pass ∷ rest
    pub told : get_elem? (told_by s k earlier pass) at ≡ some x

  at_split : {A : Type 0} (xs ys : List A) (i : ℕ) (a : A) → get_elem? (xs ++ ys) i ≡ some a → (get_elem? xs i ≡ some a) ⊎ ((j : ℕ) × (get_elem? ys j ≡ some a))
  at_split [] ys i a e = inr (i, e)
  at_split (x ∷ xs) ys zero a e = inl e
  at_split (x ∷ xs) ys (suc i) a e = at_split xs ys i a e

  pub source : (s : S) (k : ℕ) (rs : List PassRecord) (j : ℕ) (x : Told) → get_elem? (all_told step order s k rs) j ≡ some x → Source s k rs x
  source s k [] j x e = absurd (some-ne-none x (sym e))
  source s k (r ∷ rs) j x e = let g : List Entry = added step order s k r in let s' : S = after step order s k g in let k' : ℕ = k + length g in let first : List Told = fate_told r.fate k r.found (batch step order s k r.found) in
      ⊎_elim
      (λ (at : get_elem? first j ≡ some x). record {
        earlier = [];
        pass = r;
        rest = rs;
        at = j;
        split = refl;
        told = subst (λ (z : ℕ). get_elem? (fate_told r.fate z r.found (batch step order s z r.found)) j ≡ some x) (let same : k ≡ k + 0 = omega arith in same) at;
      })
      (λ (at : (i : ℕ) × (get_elem? (all_told step order s' k' rs) i ≡ some x)). let h = source s' k' rs at.0 x at.1 in let l : List Entry = history_of step order s' k' h.earlier in record {
        earlier = r ∷ h.earlier;
        pass = h.pass;
        rest = h.rest;
        at = h.at;
        split = ap (λ (z : List PassRecord). r ∷ z) h.split;
        told = subst (λ (z : ℕ × S). get_elem? (fate_told h.pass.fate z.0 h.pass.found (batch step order z.1 z.0 h.pass.found)) h.at ≡ some x)
            (λ i. ((let same : k + length g + length l ≡ k + length (g ++ l) = omega (arith, length-append g l) in same) i, sym (after_append step order s k g l) i)) h.told;
      })
      (at_split first (all_told step order s' k' rs) j x e)

by_test : {A : Type 0} (x a : A) (xs ys : List A) (t : Bool) (n : ℕ) → ((m : ℕ) → get_elem? ys m ≡ some a → (j : ℕ) × (get_elem? xs j ≡ some a)) → get_elem? (cond t (x ∷ ys) ys) n ≡ some a → (j : ℕ) × (get_elem? (x ∷ xs) j ≡ some a)
by_test x a xs ys true zero f h = (0, h)
by_test x a xs ys true (suc n) f h = let r = f n h in (suc r.0, r.1)
by_test x a xs ys false n f h = let r = f n h in (suc r.0, r.1)

filter_at : {A : Type 0} (p : A → Bool) (xs : List A) (i : ℕ) (a : A) → get_elem? (filter p xs) i ≡ some a → (j : ℕ) × (get_elem? xs j ≡ some a)
filter_at p [] i a e = absurd (some-ne-none a (sym e))
filter_at p (x ∷ xs) i a e = by_test x a xs (filter p xs) (p x) i (λ m h. filter_at p xs m a h) e

pub told_at : (told : List Told) (c i : ℕ) (x : Told) → get_elem? (told_to_caller told c) i ≡ some x → (j : ℕ) × (get_elem? told j ≡ some x)
told_at told c i x e = filter_at (λ y. y.0.caller == c) told i x e

-- a front stays one, as records are added, and as the last one's count of faults is raised
pub front_longer : (count : ℕ) (rs more : List PassRecord) (f : ℕ) → IsRecordedFront count rs f → IsRecordedFront count (rs ++ more) f
front_longer count rs more f h = let le = h.1 in (h.0, omega (arith, length-append rs more), h.2 ∙ ap (λ (l : List PassRecord). count + len_after 0 l) (sym (take-append-le h.0 rs more h.1)))

pub front_raised : (count n : ℕ) (rs : List PassRecord) (r : PassRecord) (f : ℕ) → IsRecordedFront count (rs ++ r ∷ []) f → IsRecordedFront count (rs ++ with_faults_after n r ∷ []) f
front_raised count n rs r f h = let le = h.1 in (h.0, omega (arith, length-append rs (r ∷ []), length-append rs (with_faults_after n r ∷ [])), h.2 ∙ ap (λ (m : ℕ). count + m) (sym (len_raised h.0 0 n rs r)))

module _ (count : ℕ) (book book' : Book) (log : (l : List Entry) → StartsWith book.history l → StartsWith book'.history l) (front : (f : ℕ) → IsRecordedFront count book.records f → IsRecordedFront count book'.records f)
    (dated : (len : ℕ) (moments : List ℕ) → IsDated book.records len moments → IsDated book'.records len moments) where
  kept_on : (k : Kept) → IsKeptInBook count book k → IsKeptInBook count book' k
  kept_on k h = (log k.seen h.0, all_map (IsRecordedFront count book.records) (IsRecordedFront count book'.records) k.fronts front h.1, dated (length k.seen) k.moments h.2)

  pub remembers_on : (m : Remembered) → Remembers count book m → Remembers count book' m
  remembers_on m h = record {
    seen = log m.seen h.seen;
    dated = dated (length m.seen) m.moments h.dated;
    fronts = all_map (IsRecordedFront count book.records) (IsRecordedFront count book'.records) m.fronts front h.fronts;
    joined = all_map (IsKeptInBook count book) (IsKeptInBook count book') m.joined kept_on h.joined;
  }

module _ {S : Type 0} (Contents : ℕ → List ℕ → S → ℕ → Type 0) (step : ℕ → S → ℕ → List ℕ → Option (S × List ℕ)) (b : Base) (start : S) (count : ℕ) where
  -- the length of the published list is that after all records
  pub len_now : (book : Book) → Recorded step b start count book → length book.history ≡ len_after 0 (take (length book.records) book.records)
  len_now book r = ap length r.made ∙ ((let z : length (history_of step b.order start count book.records) ≡ 0 + length (history_of step b.order start count book.records) = omega arith in z)
      ∙ (sym (len_is step b.order start count 0 b.faults book.records r.in_order) ∙ ap (len_after 0) (sym (take_all (length book.records) book.records (omega arith)))))

  -- and its count is a front
  pub front_now : (book : Book) → Recorded step b start count book → IsRecordedFront count book.records (count + length book.history)
  front_now book r = (length book.records, omega arith, ap (λ (n : ℕ). count + n) (len_now book r))

  -- one record more
  pub book_more : (log : List Entry) (rs : List PassRecord) (told : List Told) (fate : Fate) (found : List Found) (before now moment k : ℕ) (more : List Entry) → k ≡ count + length log → more ≡ batch step b.order (after step b.order start count log) k found
      → 0 < length found → AreRising 0 found → AllByRecursion (λ f. IsCall step b f.args) found → faults_after b.faults rs ≤ before → before ≤ now → HasFault fate before now
      → Recorded step b start count record { history = log; records = rs; told = told }
      → Recorded step b start count record { history = log ++ published fate more; records = rs ++ record { found = found; fate = fate; faults_before = before; faults_after = now; len = length log + length (published fate more); committed = moment } ∷ []; told = told ++ fate_told fate k found more }
  book_more log rs told fate found before now moment k more k_is more_is some_found rise calls later on fault r = let h : List Entry = history_of step b.order start count rs in
      let last : PassRecord = record { found = found; fate = fate; faults_before = before; faults_after = now; len = length log + length (published fate more); committed = moment } in
      let same_k : k ≡ count + length h = k_is ∙ ap (λ (l : List Entry). count + length l) r.made in
      let same_batch : more ≡ batch step b.order (after step b.order start count h) (count + length h) found = more_is ∙ (λ i. batch step b.order (after step b.order start count (r.made i)) (same_k i) found) in record {
        made = (λ i. r.made i ++ published fate (same_batch i)) ∙ sym (history_more step b.order start count rs last);
        told = (λ i. r.told i ++ fate_told fate (same_k i) found (same_batch i)) ∙ sym (told_more step b.order start count rs last);
        in_order = order_more step b.order start count 0 b.faults rs last r.in_order (let e₀ = ap length r.made in let e₁ = ap (λ (l : List Entry). length (published fate l)) same_batch in omega arith) some_found rise later on fault;
        calls = all_append (λ x. AllByRecursion (λ f. IsCall step b f.args) x.found) rs (last ∷ []) r.calls (calls, tt);
      }

  -- the last record's count of faults is raised
  pub book_raised : (log : List Entry) (rs : List PassRecord) (told : List Told) (x : PassRecord) (n : ℕ) → x.faults_after ≤ n → Recorded step b start count record { history = log; records = rs ++ x ∷ []; told = told }
      → Recorded step b start count record { history = log; records = rs ++ with_faults_after n x ∷ []; told = told }
  book_raised log rs told x n le r = record {
    made = r.made ∙ (history_more step b.order start count rs x ∙ sym (history_more step b.order start count rs (with_faults_after n x)));
    told = r.told ∙ (told_more step b.order start count rs x ∙ sym (told_more step b.order start count rs (with_faults_after n x)));
    in_order = order_raised step b.order start count 0 b.faults n rs x le r.in_order;
    calls = same rs r.calls;
  }
    where
      same : (ys : List PassRecord) → AllByRecursion (λ y. AllByRecursion (λ f. IsCall step b f.args) y.found) (ys ++ x ∷ []) → AllByRecursion (λ y. AllByRecursion (λ f. IsCall step b f.args) y.found) (ys ++ with_faults_after n x ∷ [])
      same [] h = h
      same (y ∷ ys) h = (h.0, same ys h.1)
