-- A pass's record after settling
use Rattle.std.proofs.Common.{◌≡◌, ℕ, List, [], ◌∷◌, ◌++◌, map, drop, length, refl, sym, ap, true, false, arith, length-append}
use Rattle.rom_model.specs.declared.record.Found.{Found}
use Rattle.rom_model.specs.declared.record.PassRecord.{PassRecord}
use Rattle.rom_rule.specs.Kinds.{MayRaise, record_list, with_faults_after}
use Rattle.rom_rule.specs.Views.{is_made}

-- the one record of a pass, where a call was found, may have a higher count of faults
pub may_raise : (fs : List Found) (r : PassRecord) → MayRaise r.faults_before r.faults_after (record_list fs r)
may_raise [] r = tt
may_raise (f ∷ fs) r = (refl, omega arith)

-- the count after the last record
pub faults_last : (f : ℕ) (rs : List PassRecord) (r : PassRecord) → Rattle.rom_model.specs.Passes.faults_after f (rs ++ r ∷ []) ≡ r.faults_after
faults_last f [] r = refl
faults_last f (q ∷ rs) r = faults_last q.faults_after rs r

-- the last count is the one that settling raised
pub faults_rested : (n f : ℕ) (rs : List PassRecord) (fs : List Rattle.rom_model.specs.declared.record.Found.Found) (r : PassRecord) → is_made (Rattle.rom_rule.specs.Kinds.record_list fs r) ≡ true
    → Rattle.rom_model.specs.Passes.faults_after f (rs ++ map (with_faults_after n) (Rattle.rom_rule.specs.Kinds.record_list fs r)) ≡ n
faults_rested n f rs [] r made = absurd (let z : false ≡ true = made in cc)
faults_rested n f rs (x ∷ fs) r made = faults_last f rs (with_faults_after n r)

last_same : (xs ys : List PassRecord) (a b : PassRecord) → xs ++ a ∷ [] ≡ ys ++ b ∷ [] → a ≡ b
last_same [] [] a b e = cc
last_same [] (y ∷ ys) a b e = absurd (omega (arith, ap length e, length-append ys (b ∷ [])))
last_same (x ∷ xs) [] a b e = absurd (omega (arith, ap length e, length-append xs (a ∷ [])))
last_same (x ∷ xs) (y ∷ ys) a b e = last_same xs ys a b (ap (drop 1) e)

-- settling leaves the moment in the record, which is the last
pub last_moment : (n : ℕ) (fs : List Found) (r : PassRecord) (rs qs : List PassRecord) (q : PassRecord) → is_made (record_list fs r) ≡ true → rs ++ map (with_faults_after n) (record_list fs r) ≡ qs ++ q ∷ [] → q.committed ≡ r.committed
last_moment n [] r rs qs q made e = absurd (let z : false ≡ true = made in cc)
last_moment n (f ∷ fs) r rs qs q made e = ap (λ (x : PassRecord). x.committed) (sym (last_same rs qs (with_faults_after n r) q e))
