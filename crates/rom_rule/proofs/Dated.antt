-- The moments at which the entries of histories were committed.
use Rattle.std.proofs.Common.{◌≡◌, ℕ, zero, suc, ◌+◌, ◌-◌, ◌≤◌, List, [], ◌∷◌, ◌++◌, take, drop, length, sym, refl, ap, ◌∙◌, subst, arith, length-append, Option}
use Rattle.std.specs.Prelude.{replicate}
use Rattle.std.proofs.lemmas.List.{take-append-drop, take-append-le, take_all}
use Rattle.std.proofs.Math.Seq.{take-append_seam}
use Rattle.rom_model.specs.History.{after}
use Rattle.rom_model.specs.Moments.{moments_of}
use Rattle.rom_model.specs.Passes.{AreInOrder, added, history_of}
use Rattle.rom_model.specs.Seen.{StartsWith}
use Rattle.rom_model.specs.Story.{len_after}
use Rattle.rom_model.specs.declared.entry.Entry.{Entry}
use Rattle.rom_model.specs.declared.record.PassRecord.{PassRecord}
use Rattle.rom_model.proofs.Moments.{moments_append, moments_long}
use Rattle.rom_rule.specs.Kinds.{with_faults_after}
use Rattle.rom_rule.specs.Records.{IsDated, KnowsMoments, Recorded}
use Rattle.rom_rule.specs.Views.{Book}
use Rattle.rom_rule.specs.declared.views.Base.{Base}
use Rattle.rom_rule.proofs.Books.{history_starts, len_is, len_now, len_raised}
use Rattle.rom_rule.proofs.Told.{starts_shorter}

-- they stay where the last record's count of faults is raised
moments_raised : (i len n : ℕ) (rs : List PassRecord) (r : PassRecord) → moments_of len (take i (rs ++ with_faults_after n r ∷ [])) ≡ moments_of len (take i (rs ++ r ∷ []))
moments_raised zero len n rs r = refl
moments_raised (suc zero) len n [] r = refl
moments_raised (suc (suc i)) len n [] r = refl
moments_raised (suc i) len n (x ∷ rs) r = ap (λ (l : List ℕ). replicate (x.len - len) x.committed ++ l) (moments_raised i x.len n rs r)

-- a history stays dated, as records are added, and as the last one's count of faults is raised
pub dated_longer : (rs more : List PassRecord) (len : ℕ) (moments : List ℕ) → IsDated rs len moments → IsDated (rs ++ more) len moments
dated_longer rs more len moments h = let le = h.1 in let same = sym (take-append-le h.0 rs more h.1) in (h.0, omega (arith, length-append rs more), h.2 ∙ ap (len_after 0) same, h.3 ∙ ap (moments_of 0) same)

pub dated_raised : (n : ℕ) (rs : List PassRecord) (r : PassRecord) (len : ℕ) (moments : List ℕ) → IsDated (rs ++ r ∷ []) len moments → IsDated (rs ++ with_faults_after n r ∷ []) len moments
dated_raised n rs r len moments h = let le = h.1 in (h.0, omega (arith, length-append rs (r ∷ []), length-append rs (with_faults_after n r ∷ [])), h.2 ∙ sym (len_raised h.0 0 n rs r), h.3 ∙ sym (moments_raised h.0 0 n rs r))

-- nothing was seen, and no pass was needed for it
pub dated_nothing : (rs : List PassRecord) → IsDated rs 0 []
dated_nothing rs = (0, omega arith, refl, refl)

-- the moments of what is dated begin those of all records
pub dated_begins : (rs : List PassRecord) (len : ℕ) (moments : List ℕ) → IsDated rs len moments → StartsWith (moments_of 0 rs) moments
dated_begins rs len moments h = let first : List PassRecord = take h.0 rs in let rest : List PassRecord = drop h.0 rs in let more : List ℕ = moments_of (len_after 0 first) rest in
    (more, ap (moments_of 0) (sym (take-append-drop h.0 rs)) ∙ (moments_append 0 first rest ∙ ap (λ (l : List ℕ). l ++ more) (sym h.3)))

-- two beginnings of a list that are as long
same_begin : {A : Type 0} (whole xs ys : List A) → StartsWith whole xs → StartsWith whole ys → length xs ≡ length ys → xs ≡ ys
same_begin whole xs ys h g e = sym (take-append_seam xs h.0) ∙ (ap (take (length xs)) (sym h.1 ∙ g.1) ∙ (ap (λ (n : ℕ). take n (ys ++ g.0)) e ∙ take-append_seam ys g.0))

-- some first of the records are in order too
order_first : {S : Type 0} (step : ℕ → S → ℕ → List ℕ → Option (S × List ℕ)) (order : ℕ) (s : S) (k len faults : ℕ) (xs ys : List PassRecord) → AreInOrder step order s k len faults (xs ++ ys) → AreInOrder step order s k len faults xs
order_first step order s k len faults [] ys all = tt
order_first step order s k len faults (x ∷ xs) ys all = let more : List Entry = added step order s k x in (all.0, all.1, all.2, all.3, all.4, all.5, order_first step order (after step order s k more) (k + length more) x.len x.faults_after xs ys all.6)

module _ {S : Type 0} (Contents : ℕ → List ℕ → S → ℕ → Type 0) (step : ℕ → S → ℕ → List ℕ → Option (S × List ℕ)) (b : Base) (start : S) (count : ℕ) where
  -- the published history is dated by all records
  pub dated_now : (book : Book) → Recorded step b start count book → IsDated book.records (length book.history) (moments_of 0 book.records)
  dated_now book r = (length book.records, omega arith, len_now Contents step b start count book r, ap (moments_of 0) (sym (take_all (length book.records) book.records (omega arith))))

  -- and the history that some first records make is by these
  pub dated_first : (book : Book) → Recorded step b start count book → (first rest : List PassRecord) → book.records ≡ first ++ rest → IsDated book.records (length (history_of step b.order start count first)) (moments_of 0 first)
  dated_first book r first rest split = subst (λ (rs : List PassRecord). IsDated rs (length (history_of step b.order start count first)) (moments_of 0 first)) (sym split) (
    length first,
    omega (arith, length-append first rest),
    (let z : length (history_of step b.order start count first) ≡ 0 + length (history_of step b.order start count first) = omega arith in z)
        ∙ (sym (len_is step b.order start count 0 b.faults first (order_first step b.order start count 0 b.faults first rest (subst (AreInOrder step b.order start count 0 b.faults) split r.in_order))) ∙ ap (len_after 0) (sym (take-append_seam first rest))),
    ap (moments_of 0) (sym (take-append_seam first rest)),
  )

  -- those of what is dated are in order
  first_in_order : (book : Book) → Recorded step b start count book → (i : ℕ) → AreInOrder step b.order start count 0 b.faults (take i book.records)
  first_in_order book r i = order_first step b.order start count 0 b.faults (take i book.records) (drop i book.records) (subst (AreInOrder step b.order start count 0 b.faults) (sym (take-append-drop i book.records)) r.in_order)

  -- and give it one moment for each entry
  pub dated_long : (book : Book) → Recorded step b start count book → (len : ℕ) (moments : List ℕ) → IsDated book.records len moments → length moments ≡ len
  dated_long book r len moments h = let in_order = first_in_order book r h.0 in let e₀ = h.2 in let e₁ = ap length h.3 in
      let n = len_is step b.order start count 0 b.faults (take h.0 book.records) in_order in let m = moments_long step b.order start count 0 b.faults (take h.0 book.records) in_order in omega arith

  -- of two beginnings of the history the longer one's moments begin with the other's
  pub dated_later : (book : Book) → Recorded step b start count book → (len : ℕ) (moments : List ℕ) (len' : ℕ) (moments' : List ℕ) → IsDated book.records len moments → IsDated book.records len' moments' → len ≤ len' → StartsWith moments' moments
  dated_later book r len moments len' moments' h g le = let had = dated_long book r len moments h in let has = dated_long book r len' moments' g in
      starts_shorter (moments_of 0 book.records) moments moments' (dated_begins book.records len moments h) (dated_begins book.records len' moments' g) (omega arith)

  -- what a dated beginning of the history tells its view
  pub moments_known : (book : Book) → Recorded step b start count book → Contents b.order b.image start count → (seen : List Entry) (moments : List ℕ) → StartsWith book.history seen → IsDated book.records (length seen) moments → KnowsMoments Contents step b seen moments
  moments_known book r opening seen moments begins h = let first : List PassRecord = take h.0 book.records in let rest : List PassRecord = drop h.0 book.records in let split : book.records ≡ first ++ rest = sym (take-append-drop h.0 book.records) in
      let in_order : AreInOrder step b.order start count 0 b.faults first = first_in_order book r h.0 in
      let whole : StartsWith book.history (history_of step b.order start count first) = subst (λ (l : List Entry). StartsWith l (history_of step b.order start count first)) (sym (r.made ∙ ap (history_of step b.order start count) split)) (history_starts step b.order start count first rest) in record {
        start = start;
        count = count;
        opening = opening;
        records = first;
        made = same_begin book.history seen (history_of step b.order start count first) begins whole (let e = h.2 in let n = len_is step b.order start count 0 b.faults first in_order in omega arith);
        in_order = in_order;
        moments_are = h.3;
        one_each = dated_long book r (length seen) moments h;
      }
