-- What a batch of wanted calls did, by what its pass did.
use Rattle.std.proofs.Common.{◌≡◌, ◌≢◌, ℕ, zero, suc, ◌+◌, ◌<◌, ◌≤◌, List, [], ◌∷◌, ◌++◌, map, take, drop, length, refl, sym, ap, ◌∙◌, subst, arith, Bool, true, false, cond, Option, Some, None, IsSome}
use Rattle.std.specs.Prelude.{nat_lt}
use Rattle.std.specs.List.{AllByRecursion}
use Rattle.std.proofs.Math.Seq.{drop-append_seam}
use Rattle.std.proofs.lemmas.List.{length-map}
use Rattle.rom_model.specs.History.{LAST_COUNT, after, batch, batch_of, left}
use Rattle.rom_model.specs.Machine.{Machine, on_words}
use Rattle.rom_model.specs.Passes.{HasFault, published}
use Rattle.rom_model.specs.declared.entry.Entry.{Entry}
use Rattle.rom_model.specs.declared.record.Fate.{Fate}
use Rattle.rom_model.specs.declared.record.Fate.TheVariants as fate
use Rattle.rom_model.specs.declared.record.Found.{Found}
use Rattle.rom_model.specs.declared.record.PassRecord.{PassRecord}
use Rattle.rom_device.specs.Device.{ShownDevice}
use Rattle.rom_combine.specs.AtRest.{Locked}
use Rattle.rom_combine.specs.Passing.{IsPass}
use Rattle.rom_combine.specs.Scanning.{posted_of}
use Rattle.rom_combine.specs.Shipping.{reply_in, update_of}
use Rattle.rom_combine.specs.Told.{fate_of}
use Rattle.rom_combine.specs.Wanted.{calls_found, posted_from, posted_in}
use Rattle.rom_combine.specs.declared.passed.Outcome.TheVariants as outcome
use Rattle.rom_combine.specs.declared.passed.Passed.{Passed}
use Rattle.rom_combine.specs.declared.scanning.Posted.{Posted}
use Rattle.rom_combine.proofs.Limits.{AreCalls, batch_short}
use Rattle.rom_combine.proofs.Weights.{first_found}
use Rattle.rom_rule.proofs.Books.{entry_of}
use Rattle.rom_rule.proofs.Told.{map_map}
use Rattle.rom_rule.specs.Calls.{found_of}
use Rattle.rom_rule.specs.Kinds.{record_list}
use Rattle.rom_rule.specs.Views.{plan_of, records_of}
use Rattle.rom_rule.specs.declared.views.Base.{Base}
use Rattle.rom_rule.specs.declared.views.Plan.{Plan}
use Rattle.rom_rule.specs.declared.views.Request.{Request}
use Rattle.rom_store.specs.Lone.{HasDoneCalls, args_in, args_of, reply_of}
use Rattle.rom_store.proofs.Becoming.{call_steps}

-- the words of wanted calls
posted_words : (caller : ℕ) (calls : List (List ℕ)) → map (λ (p : Posted). p.args) (posted_from caller calls) ≡ calls
posted_words caller [] = refl
posted_words caller (call ∷ calls) = ap (λ (l : List (List ℕ)). call ∷ l) (posted_words (caller + 1) calls)

-- A record is made where a call was found.
one_record : (founds : List Found) (r : PassRecord) → 0 < length founds → record_list founds r ≡ r ∷ []
one_record [] r few = absurd (omega (arith, few))
one_record (f ∷ founds) r few = refl

module _ {S : Type 0} (step : ℕ → S → ℕ → List ℕ → Option (S × List ℕ)) (order : ℕ) where
  -- A batch that did not do all calls has come to the limit.
  batch_limit : (s : S) (k : ℕ) (fs : List Found) → AreCalls step order fs → k ≤ LAST_COUNT → length (batch step order s k fs) < length fs → k + length (batch step order s k fs) ≡ LAST_COUNT
  batch_limit s k [] calls low short = absurd (omega (arith, short))
  batch_limit s k (f ∷ fs) calls low short = go (step order s k f.args) (batch step order (left s (step order s k f.args)) (k + 1) fs) (calls.0 s k) (λ lt few. batch_limit (left s (step order s k f.args)) (k + 1) fs calls.1 lt few) short
    where
      by_limit : (e : Entry) (t : Bool) (es : List Entry) → nat_lt k LAST_COUNT ≡ t → (k + 1 ≤ LAST_COUNT → length es < length fs → k + 1 + length es ≡ LAST_COUNT) → length (cond t (e ∷ es) []) < length (f ∷ fs) → k + length (cond t (e ∷ es) []) ≡ LAST_COUNT
      by_limit e true es is h few = let lt = Rattle.std.proofs.Math.Dec.ltb→lt k LAST_COUNT (subst lib.Dec.T (sym is) tt) in let r = h (omega (arith, lt)) (omega (arith, few)) in omega (arith, r)
      by_limit e false es is h few = by_test (λ lt. let yes : nat_lt k LAST_COUNT ≡ true = Rattle.std.proofs.Common.lt-ltb k LAST_COUNT lt in cc)
        where
          by_test : (k < LAST_COUNT → ⊥) → k + 0 ≡ LAST_COUNT
          by_test high = omega (arith, high, low)

      go : (o : Option (S × List ℕ)) (es : List Entry) → IsSome o → (k + 1 ≤ LAST_COUNT → length es < length fs → k + 1 + length es ≡ LAST_COUNT) → length (batch_of step order k f o es) < length (f ∷ fs) → k + length (batch_of step order k f o es) ≡ LAST_COUNT
      go (Some d) es there h few = by_limit (entry_of f d.1) (nat_lt k LAST_COUNT) es refl h few
      go None es there h few = absurd (let z : false ≡ true = there in cc)

  -- What is published of a batch is of its first calls.
  published_found : (s : S) (k : ℕ) (f : Fate) (fs : List Found) (more : List Entry) → more ≡ published f (batch step order s k fs) → map args_in more ≡ take (length more) (map args_of fs)
  published_found s k fate.Published fs more is = subst (λ (es : List Entry). map args_in es ≡ take (length es) (map args_of fs)) (sym is) (first_found step order s k fs)
  published_found s k fate.Failed fs more is = subst (λ (es : List Entry). map args_in es ≡ take (length es) (map args_of fs)) (sym is) refl
  published_found s k fate.Doubt fs more is = subst (λ (es : List Entry). map args_in es ≡ take (length es) (map args_of fs)) (sym is) refl

-- calls by their words
are_calls : {S C Q R A : Type 0} (m : Machine S C Q R A) (order : ℕ) (fs : List Found) (calls : List (List ℕ)) → map args_of fs ≡ calls → AllByRecursion (λ words. IsSome (m.words_call words)) calls → AreCalls (on_words m) order fs
are_calls m order [] calls are each = tt
are_calls m order (f ∷ fs) [] are each = absurd (omega (arith, ap length are))
are_calls m order (f ∷ fs) (call ∷ calls) are each = (
  λ s k. call_steps m f.args (subst (λ words. IsSome (m.words_call words)) (sym (ap (λ l. Rattle.std.proofs.Common.get_or l 0 call) are)) each.0) order s k,
  are_calls m order fs calls (ap (λ l. drop 1 l) are) each.1,
)

-- A pass that found just these calls did what a batch of them does.
module _ {D S C Q R A : Type 0} (shown : ShownDevice D) (m : Machine S C Q R A) (Contents : ℕ → List ℕ → S → ℕ → Type 0) (old new : Locked D) (callers before now : ℕ) (calls replies : List (List ℕ)) (r : Passed)
    (x : IsPass Contents (on_words m) old.view.base (plan_of old.view) (plan_of new.view) callers before now r)
    (wanted : calls_found (plan_of new.view) ≡ posted_from 1 calls) (some_wanted : 0 < length calls) where
  abbrev founds : List Found
  founds = map found_of x.scanned.requests

  found_words : map args_of founds ≡ calls
  found_words = sym (map_map (λ (p : Posted). p.args) posted_in founds) ∙ ap (map (λ (p : Posted). p.args)) (sym (ap (map posted_in) x.calls.1) ∙ wanted) ∙ posted_words 1 calls

  many_found : length founds ≡ length calls
  many_found = omega (arith, ap length found_words, length-map founds args_of)

  some_found : 0 < length founds
  some_found = omega (arith, many_found, some_wanted)

  abbrev its_record : PassRecord
  its_record = record { found = founds; fate = fate_of r.outcome; faults_before = before; faults_after = now; len = length (plan_of new.view).history; committed = x.moment }

  same_history : x.scanned.history ≡ (plan_of old.view).history
  same_history = ap (λ (p : Plan). p.history) x.scan.rest

  abbrev more : List Entry
  more = published (fate_of r.outcome) x.more

  -- the batch of the pass, from the history before it
  its_batch : (s : S) (k : ℕ) → Contents old.view.base.order old.view.base.image s k → let had = (plan_of old.view).history in x.more ≡ batch (on_words m) old.view.base.order (after (on_words m) old.view.base.order s k had) (k + length had) founds
  its_batch s k op = let b = x.batch s k op in let st : Base = old.view.base in
      b.1 ∙ (λ j. batch (on_words m) st.order (after (on_words m) st.order s k (same_history j)) ((b.0 ∙ ap (λ (es : List Entry). k + length es) same_history) j) founds)

  not_nothing : r.outcome ≢ outcome.Nothing
  not_nothing is = let none = x.nothing.0 is in let are = ap length x.scan.items_are in absurd (omega (arith, none, are, length-map x.scanned.requests posted_of, length-map x.scanned.requests found_of, some_found))

  reached : (s : S) (k : ℕ) → Contents old.view.base.order old.view.base.image s k → k + length (plan_of old.view).history ≤ LAST_COUNT → (fate_of r.outcome ≡ fate.Published) → length more < length calls → AreCalls (on_words m) old.view.base.order founds → k + length (plan_of new.view).history ≡ LAST_COUNT
  reached s k op low is few are =
      let had : List Entry = (plan_of old.view).history in let st : Base = old.view.base in
      let all : more ≡ batch (on_words m) st.order (after (on_words m) st.order s k had) (k + length had) founds = ap (λ f. published f x.more) is ∙ its_batch s k op in
      let end = batch_limit (on_words m) st.order (after (on_words m) st.order s k had) (k + length had) founds are low (omega (arith, ap length all, few, many_found)) in
      omega (arith, end, ap length all, ap length x.history, Rattle.std.proofs.Common.length-append had more)

  pub done_calls : (s₀ : S) (k₀ : ℕ) → Contents old.view.base.order old.view.base.image s₀ k₀
      → AllByRecursion (λ words. IsSome (m.words_call words)) calls → (0 < r.done → replies ≡ map reply_in (map update_of (drop (length (plan_of old.view).history) (plan_of new.view).history)))
      → HasFault (fate_of r.outcome) before now → before ≡ shown.faults old.twin.device → now ≡ shown.faults new.twin.device → HasDoneCalls shown Contents (on_words m) old new calls replies r
  done_calls s₀ k₀ op each kept fault was is = record {
    more = more;
    pass = its_record;
    history = x.history;
    args = published_found (on_words m) old.view.base.order _ _ (fate_of r.outcome) founds more (ap (published (fate_of r.outcome)) (its_batch s₀ k₀ op)) ∙ ap (take (length more)) found_words;
    steps = λ s k here. ap (published (fate_of r.outcome)) (its_batch s k here);
    done = x.done;
    limit = λ s k here low published few. reached s k here low published few (are_calls m old.view.base.order founds calls found_words each);
    replies_are = λ any. kept (omega (arith, any, x.done)) ∙ (map_map reply_in update_of _ ∙ ap (map reply_of) (ap (drop (length (plan_of old.view).history)) x.history ∙ drop-append_seam (plan_of old.view).history more));
    records = x.records ∙ ap (λ (l : List PassRecord). records_of (plan_of old.view) ++ l) (one_record founds its_record some_found);
    found = found_words;
    fate_is = refl;
    some = not_nothing;
    len_is = refl;
    cause = subst (λ (z : ℕ × ℕ). HasFault (fate_of r.outcome) z.0 z.1) (λ j. (was j, is j)) fault;
  }
