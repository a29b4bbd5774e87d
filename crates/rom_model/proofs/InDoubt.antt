-- A story has one batch in doubt at most.
use Rattle.std.specs.Prelude.{◌≡◌, ◌≢◌, ℕ, List, [], ◌∷◌, ◌++◌, Option}
use Rattle.std.specs.List.{AllByRecursion}
use Rattle.std.proofs.Common.{sym, ap, ◌∙◌, subst}
use Rattle.rom_model.specs.Story.{Story, IsInDoubt, doubted_batch}
use Rattle.rom_model.specs.declared.entry.Entry.{Entry}
use Rattle.rom_model.specs.declared.record.Fate.TheVariants.{Doubt}
use Rattle.rom_model.specs.declared.record.PassRecord.{PassRecord}

-- none of these is in doubt, though this one, which is among them, is
among : (xs ys : List PassRecord) (p : PassRecord) → AllByRecursion (λ r. r.fate ≢ Doubt) (xs ++ p ∷ ys) → p.fate ≡ Doubt → ⊥
among [] ys p all is = all.0 is
among (x ∷ xs) ys p all is = among xs ys p all.1 is

-- the last record in doubt is one
one_last : (xs ys zs ws : List PassRecord) (p q : PassRecord) → xs ++ p ∷ zs ≡ ys ++ q ∷ ws → p.fate ≡ Doubt → q.fate ≡ Doubt → AllByRecursion (λ r. r.fate ≢ Doubt) zs → AllByRecursion (λ r. r.fate ≢ Doubt) ws → p ≡ q
one_last [] [] zs ws p q same is is' none none' = cc
one_last [] (y ∷ ys) zs ws p q same is is' none none' = let rest : zs ≡ ys ++ q ∷ ws = cc in absurd (among ys ws q (subst (AllByRecursion (λ r. r.fate ≢ Doubt)) rest none) is')
one_last (x ∷ xs) [] zs ws p q same is is' none none' = let rest : xs ++ p ∷ zs ≡ ws = cc in absurd (among xs zs p (subst (AllByRecursion (λ r. r.fate ≢ Doubt)) (sym rest) none') is)
one_last (x ∷ xs) (y ∷ ys) zs ws p q same is is' none none' = let rest : xs ++ p ∷ zs ≡ ys ++ q ∷ ws = cc in one_last xs ys zs ws p q rest is is' none none'

pub one_in_doubt : {S : Type 0} (step : ℕ → S → ℕ → List ℕ → Option (S × List ℕ)) (story : Story S) (b d : List Entry) → IsInDoubt step story b → IsInDoubt step story d → b ≡ d
one_in_doubt step story b d x y =
    x.batch_is ∙ ap (doubted_batch step story) (one_last x.before y.before x.since y.since x.pass y.pass (sym x.stands ∙ y.stands) x.fate y.fate x.last y.last) ∙ sym y.batch_is
