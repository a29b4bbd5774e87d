-- Words that are stored over, and put back.
use Rattle.std.proofs.Common.{◌≡◌, ℕ, zero, suc, ◌+◌, ◌-◌, ◌<◌, ◌≤◌, List, [], ◌∷◌, ◌++◌, length, slice_set, slice_index, refl, ap, ◌∙◌, arith, length-set}
use Rattle.std.proofs.lemmas.List.{set-set, set-get_or}
use Rattle.std.specs.Prelude.{Bool, true, false, IsTrue, if◌then◌else◌}
use Rattle.rom_undo.specs.RolledBack.{AreWithin, rolled_back}
use Rattle.rom_undo.specs.declared.before_image.BeforeImage.{BeforeImage}

-- what was kept last is put back first
pub rolled_last : (words : List BeforeImage) (b : BeforeImage) (image : List ℕ) → rolled_back (words ++ b ∷ []) image ≡ rolled_back words (slice_set image b.at b.word)
rolled_last [] b image = refl
rolled_last (w ∷ words) b image = ap (λ (i : List ℕ). slice_set i w.at w.word) (rolled_last words b image)

-- it lies within the words too
pub within_last : (len : ℕ) (words : List BeforeImage) (b : BeforeImage) → AreWithin len words → b.at < len → AreWithin len (words ++ b ∷ [])
within_last len [] b are is zero d lt = is
within_last len [] b are is (suc k) d lt = absurd (omega (arith, lt))
within_last len (w ∷ words) b are is zero d lt = are 0 d (omega arith)
within_last len (w ∷ words) b are is (suc k) d lt = within_last len words b (λ j e low. are (suc j) e (omega (arith, low))) is k d (omega (arith, lt))

-- there are as many words
pub length_rolled : (words : List BeforeImage) (image : List ℕ) → length (rolled_back words image) ≡ length image
length_rolled [] image = refl
length_rolled (w ∷ words) image = length-set (rolled_back words image) w.at w.word ∙ length_rolled words image

-- a word that was stored over is put back
pub stored_back : (image mid new : List ℕ) (at value word : ℕ) → mid ≡ image → new ≡ slice_set mid at value → word ≡ slice_index image at → slice_set new at word ≡ image
stored_back image mid new at value word kept stored was =
    ap (λ (i : List ℕ). slice_set i at word) (stored ∙ ap (λ (i : List ℕ). slice_set i at value) kept) ∙ (set-set image at value word ∙ (ap (λ (w : ℕ). slice_set image at w) was ∙ set-get_or image at 0))

-- what is told only where it is counted
pub told_where : (told : Bool) (x y : ℕ) → (IsTrue told → x ≡ y) → (if told then x else 0) ≡ (if told then y else 0)
told_where true x y same = same refl
told_where false x y same = refl
