-- One caller whose updates have a pass each: what a pass more adds to what it was told and has seen.
use Rattle.std.specs.Prelude.{◌≡◌, ℕ, ◌+◌, List, [], ◌∷◌, ◌++◌, length, Option}
use Rattle.std.proofs.Common.{sym, ap, ◌∙◌, arith, subst, length-append}
use Rattle.rom_model.specs.declared.call.Updated.{Updated}
use Rattle.rom_model.specs.declared.call.Updated.TheVariants as told
use Rattle.rom_model.specs.declared.entry.Entry.{Entry}
use Rattle.rom_model.specs.declared.record.Fate.{Fate}
use Rattle.rom_model.specs.declared.record.Fate.TheVariants.{Published, Failed, Doubt}
use Rattle.rom_model.specs.declared.record.Found.{Found}
use Rattle.rom_model.specs.declared.record.PassRecord.{PassRecord}
use Rattle.rom_model.specs.History.{after, batch}
use Rattle.rom_model.specs.Passes.{published, history_of, all_told, fate_told}
use Rattle.rom_model.proofs.Recorded.{history_more, told_more}
use Rattle.rom_model.specs.Seen.{StartsWith, IsPlaced}

one_told : (x y : Found × Updated (List ℕ)) → x ∷ [] ≡ y ∷ [] → x.1 ≡ y.1
one_told x y is = let same : x ≡ y = cc in ap (λ z. z.1) same

placed_by : (k : ℕ) (h : List Entry) (f : Found) (w : Updated (List ℕ)) (fate : Fate) (es : List Entry) → fate_told fate (k + length h) (f ∷ []) es ≡ (f, w) ∷ [] → IsPlaced k h (h ++ published fate es) w
placed_by k h f w Published [] is = let same : told.Spent ≡ w = one_told (f, told.Spent) (f, w) is in subst (IsPlaced k h (h ++ [])) same tt
placed_by k h f w Published (e ∷ es) is =
    let same : told.Done e.reply (k + length h) ≡ w = one_told (f, told.Done e.reply (k + length h)) (f, w) is in
    subst (IsPlaced k h (h ++ e ∷ es)) same (omega arith, omega (arith, length-append h (e ∷ es)))
placed_by k h f w Failed es is = let same : told.Failed ≡ w = one_told (f, told.Failed) (f, w) is in subst (IsPlaced k h (h ++ [])) same tt
placed_by k h f w Doubt es is = let same : told.Doubt ≡ w = one_told (f, told.Doubt) (f, w) is in subst (IsPlaced k h (h ++ [])) same tt

module _ {S : Type 0} (step : ℕ → S → ℕ → List ℕ → Option (S × List ℕ)) (n : ℕ) where
  -- a pass that found this update alone, and told it this
  pub one_pass : (s : S) (k : ℕ) (rs : List PassRecord) (r : PassRecord) (f : Found) (w : Updated (List ℕ)) → r.found ≡ f ∷ [] →
      (let h = history_of step n s k rs in fate_told r.fate (k + length h) r.found (batch step n (after step n s k h) (k + length h) r.found) ≡ (f, w) ∷ []) →
      (all_told step n s k (rs ++ r ∷ []) ≡ all_told step n s k rs ++ (f, w) ∷ []) × StartsWith (history_of step n s k (rs ++ r ∷ [])) (history_of step n s k rs) × IsPlaced k (history_of step n s k rs) (history_of step n s k (rs ++ r ∷ [])) w
  one_pass s k rs r f w found is =
      let h : List Entry = history_of step n s k rs in let s' : S = after step n s k h in
      let es : List Entry = batch step n s' (k + length h) r.found in
      let alone : fate_told r.fate (k + length h) (f ∷ []) es ≡ (f, w) ∷ [] = ap (λ (fs : List Found). fate_told r.fate (k + length h) fs es) (sym found) ∙ is in
      let more : history_of step n s k (rs ++ r ∷ []) ≡ h ++ published r.fate es = history_more step n s k rs r in
      (told_more step n s k rs r ∙ ap (λ xs. all_told step n s k rs ++ xs) is, (published r.fate es, more), subst (λ z. IsPlaced k h z w) (sym more) (placed_by k h f w r.fate es alone))
