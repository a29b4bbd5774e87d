-- Words in doubt: what devices over others tell of them, and what a device is of which no word is in doubt.
use Rattle.std.proofs.Common.{◌≡◌, ⊎_elim, ℕ, Bool, true, false, ◌&&◌, IsTrue, List, length, refl}
use Rattle.std.proofs.lemmas.List.{ext_get_or}
use Rattle.rom_device.specs.Device.{ShownDevice, AreSettled, TellsDoubts}
use Rattle.rom_device.specs.Fuse.{inner_of, shown_by_fuse}

-- where both hold, the second one does
pub and_last : (a b : Bool) → IsTrue (a && b) → IsTrue b
and_last true b is = is
and_last false b is = absurd (let never : false ≡ true = is in cc)

-- where both hold, the first one does
pub and_first : (a b : Bool) → IsTrue (a && b) → IsTrue a
and_first true b is = refl
and_first false b is = absurd (let never : false ≡ true = is in cc)

-- what is told of no type
pub untold : {P : Type 0} → IsTrue false → P
untold never = absurd (let is : false ≡ true = never in cc)

-- where each word is settled and none is in doubt, a stop leaves the words as they read
pub settled_sure : {D : Type 0} (shown : ShownDevice D) (d : D) → ((i : List ℕ) → shown.leaves d i → length i ≡ length (shown.words d)) → AreSettled shown d → ((at : ℕ) → shown.doubted d at → ⊥)
    → (i : List ℕ) → shown.leaves d i → i ≡ shown.words d
settled_sure shown d fit settled sure i left = ext_get_or 0 i (shown.words d) (fit i left) (λ b lt. ⊎_elim (λ reads. reads) (λ is. absurd (sure b is)) (settled i left b))

-- a fuse over a device that tells images with words in doubt tells them so too
pub fuse_doubts : {D : Type 0} (shown : ShownDevice D) → TellsDoubts shown → TellsDoubts (shown_by_fuse shown)
fuse_doubts shown told = record {
  words = told.words;
  reads_image = λ f. told.reads_image (inner_of f);
  images_fit = λ f. told.images_fit (inner_of f);
  counts_now = λ f. told.counts_now (inner_of f);
  only_now = λ f. told.only_now (inner_of f);
}
