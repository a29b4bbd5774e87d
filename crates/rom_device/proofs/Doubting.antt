-- A word that is written between two syncs, where no word is in doubt.
use Rattle.std.proofs.Common.{ℕ, IsTrue, List, subst, ◌∙◌}
use Rattle.rom_device.specs.Device.{ShownDevice, AreSettled, Does, IsRenewed, Leaves, Stays, TellsDoubts, WritesWord}
use Rattle.rom_device.specs.Doubt.{settled_sure}
use Rattle.rom_device.proofs.Going.{leaves_none, leaves_on, leaves_still}

module _ {D : Type 0} (shown : ShownDevice D) (doubts : IsTrue shown.tells_doubts) (told : TellsDoubts shown) (P : List ℕ → Type 0) (a b : D) (first : Does shown Stays a b) where
  pub synced_leaves : Leaves shown P a b
  synced_leaves = leaves_still shown P a a b (told.counts_now a) (leaves_none shown P a) (first.doubts doubts)

  pub then_leaves : (at v : ℕ) (c : D) → AreSettled shown b → ((place : ℕ) → IsRenewed shown place a) → Does shown (WritesWord at v) b c → ((y : List ℕ) → WritesWord at v (shown.words a) y → P y) → Leaves shown P a c
  then_leaves at v c settled free write has = leaves_on shown (WritesWord at v) P a b c synced_leaves (write.doubts doubts)
      (λ x y was by. has y (subst (λ (l : List ℕ). WritesWord at v l y) (settled_sure shown b (told.images_fit b) settled (λ place is. free place (first.fewer place is)) x was ∙ first.words told.words) by))

  pub then_still : (c d : D) → Leaves shown P a c → Does shown Stays c d → Leaves shown P a d
  then_still c d so_far last = leaves_still shown P a c d (told.counts_now c) so_far (last.doubts doubts)
