-- The count never passes its limit.
use Rattle.std.specs.Prelude.{◌≡◌, ℕ, ◌+◌, ◌<◌, ◌≤◌, Bool, true, false, List, [], ◌∷◌, length, nat_lt, cond, Option, Some, None}
use Rattle.std.proofs.Common.{refl, arith, length-append}
use Rattle.std.proofs.lemmas.Bool.{ltb-true}
use Rattle.rom_model.specs.declared.entry.Entry.{Entry}
use Rattle.rom_model.specs.declared.record.Fate.{Fate}
use Rattle.rom_model.specs.declared.record.Fate.TheVariants.{Published, Failed, Doubt}
use Rattle.rom_model.specs.declared.record.Found.{Found}
use Rattle.rom_model.specs.declared.record.PassRecord.{PassRecord}
use Rattle.rom_model.specs.History.{after, left, batch, batch_of, LAST_COUNT}
use Rattle.rom_model.specs.Passes.{added, published, history_of}

cut_few : (k : ℕ) (e : Entry) (rest : List Entry) (b : Bool) → nat_lt k LAST_COUNT ≡ b → k ≤ LAST_COUNT → (k < LAST_COUNT → k + 1 + length rest ≤ LAST_COUNT) → k + length (cond b (e ∷ rest) []) ≤ LAST_COUNT
cut_few k e rest true is le more = let few = more (ltb-true k LAST_COUNT is) in omega arith
cut_few k e rest false is le more = omega arith

module _ {S : Type 0} (step : ℕ → S → ℕ → List ℕ → Option (S × List ℕ)) (n : ℕ) where
  taken_few : (k : ℕ) (f : Found) (rest : List Entry) (o : Option (S × List ℕ)) → k ≤ LAST_COUNT → (k < LAST_COUNT → k + 1 + length rest ≤ LAST_COUNT) → k + length (batch_of step n k f o rest) ≤ LAST_COUNT
  taken_few k f rest (Some done) le more = cut_few k record { caller = f.caller; seq = f.seq; args = f.args; reply = done.1 } rest (nat_lt k LAST_COUNT) refl le more
  taken_few k f rest None le more = omega arith

  batch_few : (s : S) (k : ℕ) (fs : List Found) → k ≤ LAST_COUNT → k + length (batch step n s k fs) ≤ LAST_COUNT
  batch_few s k [] le = omega arith
  batch_few s k (f ∷ fs) le = taken_few k f (batch step n (left s (step n s k f.args)) (k + 1) fs) (step n s k f.args) le (λ lt. batch_few (left s (step n s k f.args)) (k + 1) fs (omega arith))

  added_few : (s : S) (k : ℕ) (fate : Fate) (fs : List Found) → k ≤ LAST_COUNT → k + length (published fate (batch step n s k fs)) ≤ LAST_COUNT
  added_few s k Published fs le = batch_few s k fs le
  added_few s k Failed fs le = omega arith
  added_few s k Doubt fs le = omega arith

  -- a history that passes made on a heap within its limit
  pub history_few : (s : S) (k : ℕ) (rs : List PassRecord) → k ≤ LAST_COUNT → k + length (history_of step n s k rs) ≤ LAST_COUNT
  history_few s k [] le = omega arith
  history_few s k (r ∷ rs) le = let more : List Entry = added step n s k r in let rest : List Entry = history_of step n (after step n s k more) (k + length more) rs in
      let few = history_few (after step n s k more) (k + length more) rs (added_few s k r.fate r.found le) in
      omega (arith, length-append more rest)
