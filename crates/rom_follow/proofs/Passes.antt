-- The passes of a store with one caller: each found one update.
use Rattle.std.proofs.Common.{◌≡◌, ℕ, ◌+◌, ◌<◌, ◌≤◌, List, [], ◌∷◌, ◌++◌, length, refl, sym, ap, ◌∙◌, subst, arith, false, true, inl, inr, append_assoc, append-nil}
use Rattle.std.specs.Prelude.{◌==◌, ◌⊎◌, Bool, Option, Some, None, filter, if◌then◌else◌, nat_lt}
use Rattle.std.specs.List.{AllByRecursion, enumerate_from}
use Rattle.std.proofs.lemmas.List.{length-append}
use Rattle.std.proofs.lemmas.List.Elements.{filter-append}
use Rattle.std.proofs.lemmas.List.FromFn.{length-enumerate_from}
use Rattle.rom_model.specs.History.{LAST_COUNT, after, batch, batch_of}
use Rattle.rom_model.specs.Passes.{AreInOrder, AreRising, added, all_told, batch_told, fate_told, published}
use Rattle.rom_model.specs.Seen.{done_in}
use Rattle.rom_model.specs.declared.call.Updated.{Updated}
use Rattle.rom_model.specs.declared.call.Updated.TheVariants as updated
use Rattle.rom_model.specs.declared.entry.Entry.{Entry}
use Rattle.rom_model.specs.declared.record.Fate.{Fate}
use Rattle.rom_model.specs.declared.record.Fate.TheVariants.{Published, Failed, Doubt}
use Rattle.rom_model.specs.declared.record.Found.{Found}
use Rattle.rom_model.specs.declared.record.PassRecord.{PassRecord}
use Rattle.rom_model.proofs.Placed.{done_in_append, history_placed}
use Rattle.rom_rule.specs.Views.{Told}
use Rattle.rom_follow.specs.Closing.{ArePassesOf, TellsUpdate}
use Rattle.rom_follow.proofs.Alike.{is_one}

-- the found update is of a caller from 1 to 1
abbrev pub IsOwn : Found → Type 0
IsOwn f = (0 < f.caller) × (f.caller ≤ 1)

abbrev pub AreOwn : PassRecord → Type 0
AreOwn r = AllByRecursion IsOwn r.found

-- where callers rise and there is one, there is one update
pub one_found : (fs : List Found) → 0 < length fs → AreRising 0 fs → AllByRecursion IsOwn fs → (f : Found) × (fs ≡ f ∷ []) × IsOwn f
one_found [] some rising own = absurd (omega (arith, some))
one_found (f ∷ []) some rising own = (f, refl, own.0)
one_found (f ∷ g ∷ fs) some rising own = absurd (omega (arith, rising.0, rising.1.0, own.1.0.1))

batch_tells : (k : ℕ) (f : Found) (es : List Entry) → (u : Updated (List ℕ)) × (batch_told k (f ∷ []) es ≡ (f, u) ∷ []) × TellsUpdate Published u
batch_tells k f [] = (updated.Spent, refl, tt)
batch_tells k f (e ∷ es) = (updated.Done e.reply k, refl, tt)

fate_tells : (ended : Fate) (k : ℕ) (f : Found) (es : List Entry) → (u : Updated (List ℕ)) × (fate_told ended k (f ∷ []) es ≡ (f, u) ∷ []) × TellsUpdate ended u
fate_tells Published k f es = batch_tells k f es
fate_tells Failed k f es = (updated.Failed, refl, tt)
fate_tells Doubt k f es = (updated.Doubt, refl, tt)

own_filter : (x : Told) → IsOwn x.0 → filter (λ y. y.0.caller == 1) (x ∷ []) ≡ x ∷ []
own_filter x own = rw (is_one x.0.caller own) refl

module _ {S : Type 0} (step : ℕ → S → ℕ → List ℕ → Option (S × List ℕ)) (order : ℕ) where
  -- what a pass told its one update
  pub told_one : (s : S) (k : ℕ) (r : PassRecord) → 0 < length r.found → AreRising 0 r.found → AreOwn r → (f : Found) × (u : Updated (List ℕ)) × (r.found ≡ f ∷ []) × (fate_told r.fate k r.found (batch step order s k r.found) ≡ (f, u) ∷ []) × TellsUpdate r.fate u × IsOwn f
  told_one s k r some rising own =
      let one = one_found r.found some rising own in
      let told = fate_tells r.fate k one.0 (batch step order s k r.found) in
      (one.0, told.0, one.1, ap (λ (fs : List Found). fate_told r.fate k fs (batch step order s k r.found)) one.1 ∙ told.1, told.2, one.2)

  pub one_each : (s : S) (k len faults : ℕ) (rs : List PassRecord) → AreInOrder step order s k len faults rs → AllByRecursion AreOwn rs → ArePassesOf rs (all_told step order s k rs) × (filter (λ x. x.0.caller == 1) (all_told step order s k rs) ≡ all_told step order s k rs)
  one_each s k len faults [] in_order own = (tt, refl)
  one_each s k len faults (r ∷ rs) in_order own =
      let more : List Entry = added step order s k r in
      let told = told_one s k r in_order.1 in_order.2 own.0 in
      let rest = one_each (after step order s k more) (k + length more) r.len r.faults_after rs in_order.6 own.1 in
      let others : List Told = all_told step order (after step order s k more) (k + length more) rs in
      let mine : Told = (told.0, told.1) in
      let whole : all_told step order s k (r ∷ rs) ≡ mine ∷ others = ap (λ (xs : List Told). xs ++ others) told.3 in (
        subst (ArePassesOf (r ∷ rs)) (sym whole) (told.2, told.4, rest.0),
        ap (λ (xs : List Told). filter (λ x. x.0.caller == 1) xs) whole ∙ filter-append (λ x. x.0.caller == 1) (mine ∷ []) others ∙ (λ i. own_filter mine told.5 i ++ rest.1 i) ∙ sym whole,
      )

  -- how many of a pass's updates were done is by how many the history grew
  pub many_added : (s : S) (k : ℕ) (r : PassRecord) → length (done_in (fate_told r.fate k r.found (batch step order s k r.found))) ≡ length (added step order s k r)
  many_added s k r =
      let placed = history_placed step order s k (r ∷ []) in
      sym (ap length (sym (ap (λ (es : List Entry). enumerate_from k es) (append-nil (added step order s k r))) ∙ placed ∙ ap done_in (append-nil (fate_told r.fate k r.found (batch step order s k r.found))))) ∙ length-enumerate_from k (added step order s k r)

  -- A pass in doubt among others: what it found, and how many were done before it.
  pub record IsDoubtful (s : S) (k len : ℕ) (before : List PassRecord) (pass : PassRecord) (since : List PassRecord) : Type 0 where
    pub found : Found
    pub earlier : List Told
    pub later : List Told
    pub told : all_told step order s k (before ++ pass ∷ since) ≡ earlier ++ (found, updated.Doubt) ∷ later
    pub alone : pass.found ≡ found ∷ []
    pub len_is : pass.len ≡ len + length (done_in earlier)

  pub doubt_at : (s : S) (k len faults : ℕ) (before : List PassRecord) (pass : PassRecord) (since : List PassRecord) → AreInOrder step order s k len faults (before ++ pass ∷ since) → AllByRecursion AreOwn (before ++ pass ∷ since) → pass.fate ≡ Doubt → IsDoubtful s k len before pass since
  doubt_at s k len faults [] pass since in_order own fate_is =
      let more : List Entry = added step order s k pass in
      let told = told_one s k pass in_order.1 in_order.2 own.0 in
      let others : List Told = all_told step order (after step order s k more) (k + length more) since in
      let is : told.1 ≡ updated.Doubt = in_doubt told.1 (subst (λ (e : Fate). TellsUpdate e told.1) fate_is told.4) in
      let none : more ≡ [] = ap (λ (e : Fate). published e (batch step order s k pass.found)) fate_is in
      record {
        found = told.0;
        earlier = [];
        later = others;
        told = ap (λ (xs : List Told). xs ++ others) told.3 ∙ ap (λ (u : Updated (List ℕ)). (told.0, u) ∷ others) is;
        alone = told.2;
        len_is = in_order.0 ∙ ap (λ (n : ℕ). len + n) (ap length none);
      }
    where
      in_doubt : (u : Updated (List ℕ)) → TellsUpdate Doubt u → u ≡ updated.Doubt
      in_doubt (updated.Done reply place) tells = absurd tells
      in_doubt updated.Spent tells = absurd tells
      in_doubt updated.Failed tells = absurd tells
      in_doubt updated.Doubt tells = refl
  doubt_at s k len faults (r ∷ before) pass since in_order own fate_is =
      let more : List Entry = added step order s k r in
      let mine : List Told = fate_told r.fate k r.found (batch step order s k r.found) in
      let d = doubt_at (after step order s k more) (k + length more) r.len r.faults_after before pass since in_order.6 own.1 fate_is in
      record {
        found = d.found;
        earlier = mine ++ d.earlier;
        later = d.later;
        told = ap (λ (xs : List Told). mine ++ xs) d.told ∙ sym (append_assoc mine d.earlier ((d.found, updated.Doubt) ∷ d.later));
        alone = d.alone;
        len_is = omega (arith, d.len_is, in_order.0, many_added s k r, ap length (done_in_append mine d.earlier), length-append (done_in mine) (done_in d.earlier));
      }

  -- the batch of one update is none, or has its entry alone
  pub batch_one : (s : S) (k : ℕ) (f : Found) → (batch step order s k (f ∷ []) ≡ []) ⊎ ((e : Entry) × (batch step order s k (f ∷ []) ≡ e ∷ []) × (e.args ≡ f.args))
  batch_one s k f = by_step (step order s k f.args)
    where
      by_test : (b : Bool) (e : Entry) → e.args ≡ f.args → ((if b then e ∷ [] else []) ≡ []) ⊎ ((x : Entry) × ((if b then e ∷ [] else []) ≡ x ∷ []) × (x.args ≡ f.args))
      by_test true e same = inr (e, refl, same)
      by_test false e same = inl refl

      by_step : (o : Option (S × List ℕ)) → (batch_of step order k f o [] ≡ []) ⊎ ((e : Entry) × (batch_of step order k f o [] ≡ e ∷ []) × (e.args ≡ f.args))
      by_step None = inl refl
      by_step (Some done) = by_test (nat_lt k LAST_COUNT) record { caller = f.caller; seq = f.seq; args = f.args; reply = done.1 } refl
