-- What a stop leaves of a heap whose header was read and which then is recovered.
use Rattle.std.proofs.Common.{◌≡◌, ℕ, ◌≤◌, IsTrue, List, slice_index, subst, sym, ◌∙◌}
use Rattle.rom_device.specs.Device.{ShownDevice, Does, Leaves, OnlyReads, Stays, TellsDoubts}
use Rattle.rom_device.proofs.Going.{does_on, leaves_none, leaves_still, was_left}
use Rattle.rom_header.specs.Headers.{IsIdle}
use Rattle.rom_header.specs.Layout.{STATE}
use Rattle.rom_header.specs.Regions.{SameRegion}
use Rattle.rom_recover.specs.Doubt.{IsLeftInDoubt, MayBeInDoubt}
use Rattle.rom_header.proofs.Since.{leaves_from}
use Rattle.rom_recover.specs.Recovered.{Mended}

pub images_from : {D : Type 0} (shown : ShownDevice D) (order n : ℕ) (a b c : D) → ((t : ℕ) (i : List ℕ) → t ≤ shown.clock a → shown.leaves a i → shown.left_since a t i) → (IsTrue shown.tells_images → IsTrue shown.tells_words)
    → OnlyReads shown a b → (IsTrue shown.tells_words → n ≡ order) → (IsTrue shown.tells_images → Leaves shown (Mended n (shown.words b)) b c) → IsTrue shown.tells_images → Leaves shown (Mended order (shown.words a)) a c
images_from shown order n a b c counts both quiet named images told = leaves_from shown (Mended order (shown.words a)) (Mended n (shown.words b)) a b c counts (quiet.images told)
    (λ i mended. subst (λ (k : ℕ). Mended k (shown.words a) i) (named (both told)) (subst (λ (l : List ℕ). Mended n l i) (quiet.words (both told)) mended)) (images told)

-- reads before calls that write nothing
pub quiet_then : {D : Type 0} (shown : ShownDevice D) (a b c : D) → OnlyReads shown a b → Does shown Stays b c → Does shown Stays a c
quiet_then shown a b c only second = does_on shown Stays (λ x y z before after. after ∙ before) a b c (record { size = only.size; words = only.words; images = only.images; doubts = only.doubts; fewer = only.fewer }) second

-- and so with words in doubt
module _ {D : Type 0} (shown : ShownDevice D) (doubts : IsTrue shown.tells_doubts) (told : TellsDoubts shown) (a b : D) (only : OnlyReads shown a b) where
  pub read_leaves : Leaves shown (SameRegion (shown.words a)) a b
  read_leaves = leaves_still shown (SameRegion (shown.words a)) a a b (told.counts_now a) (leaves_none shown (SameRegion (shown.words a)) a) (only.doubts doubts)

  left_still : (order : ℕ) → IsLeftInDoubt shown order a → IsLeftInDoubt shown order b
  left_still order left = record {
    places = λ at is. subst (λ (l : List ℕ). MayBeInDoubt order (slice_index l STATE) at) (sym (only.words told.words)) (left.places at (only.fewer at is));
    states = λ idle i has. left.states (subst (λ (l : List ℕ). IsIdle l) (only.words told.words) idle) i (was_left shown a b (only.doubts doubts) i has);
  }

  pub doubts_from : (order n : ℕ) (c : D) → (IsTrue shown.tells_words → n ≡ order) → IsLeftInDoubt shown order a → (IsLeftInDoubt shown n b → Leaves shown (SameRegion (shown.words b)) b c) → Leaves shown (SameRegion (shown.words a)) a c
  doubts_from order n c named left since = leaves_from shown (SameRegion (shown.words a)) (SameRegion (shown.words b)) a b c (told.counts_now a) (only.doubts doubts)
      (λ i. subst (λ (l : List ℕ). SameRegion l i) (only.words told.words)) (since (subst (λ (k : ℕ). IsLeftInDoubt shown k b) (sym (named told.words)) (left_still order left)))
