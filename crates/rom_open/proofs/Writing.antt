-- What a stop leaves while a batch runs: in each image the region counts that counted before, or the new one.
use Rattle.std.proofs.Common.{◌≡◌, inl, inr, ℕ, List, subst}
use Rattle.rom_device.specs.Device.{ShownDevice, Becomes, Runs}
use Rattle.rom_device.proofs.Going.{becomes_by}
use Rattle.rom_header.specs.Regions.{IsCurrentRegion}
use Rattle.rom_twin.specs.Images.{Committing, HasBack, HasMain, Twins}
use Rattle.rom_open.specs.Batch.{CountsEither}
use Rattle.rom_open.proofs.Regions.{back_region, either_region, main_region, twins_region}

module _ {D : Type 0} (shown : ShownDevice D) (n : ℕ) (c m : List ℕ) (a b : D) where
  pub begun_counts : Runs shown (Becomes (Twins n c)) a b → Runs shown (Becomes (CountsEither n c m)) a b
  begun_counts = becomes_by shown (Twins n c) (CountsEither n c m) (λ i is. inl (twins_region n c i is)) a b

  pub written_counts : (k : ℕ) (d : List ℕ) → k ≡ n → d ≡ c → Runs shown (Becomes (HasBack k d)) a b → Runs shown (Becomes (CountsEither n c m)) a b
  written_counts k d order same runs =
      becomes_by shown (HasBack n c) (CountsEither n c m) (λ i is. inl (back_region n c i is)) a b
      (subst (λ (z : ℕ × List ℕ). Runs shown (Becomes (HasBack z.0 z.1)) a b) (λ j. (order j, same j)) runs)

  pub committed_counts : (k : ℕ) (d e : List ℕ) → k ≡ n → d ≡ c → e ≡ m → Runs shown (Becomes (Committing k d e)) a b → Runs shown (Becomes (CountsEither n c m)) a b
  committed_counts k d e order same new runs =
      becomes_by shown (Committing n c m) (CountsEither n c m) (either_region n c m) a b
      (subst (λ (z : ℕ × (List ℕ × List ℕ)). Runs shown (Becomes (Committing z.0 z.1.0 z.1.1)) a b) (λ j. (order j, (same j, new j))) runs)

  pub copied_counts : Runs shown (Becomes (HasMain n m)) a b → Runs shown (Becomes (λ i. IsCurrentRegion n i m)) a b
  copied_counts = becomes_by shown (HasMain n m) (λ i. IsCurrentRegion n i m) (λ i is. main_region n m i is) a b

  pub finished_counts : (k : ℕ) (d : List ℕ) → k ≡ n → d ≡ m → Runs shown (Becomes (Twins k d)) a b → Runs shown (Becomes (λ i. IsCurrentRegion n i m)) a b
  finished_counts k d order same runs =
      becomes_by shown (Twins n m) (λ i. IsCurrentRegion n i m) (λ i is. twins_region n m i is) a b
      (subst (λ (z : ℕ × List ℕ). Runs shown (Becomes (Twins z.0 z.1)) a b) (λ j. (order j, same j)) runs)

  pub new_counts : (k : ℕ) (e : List ℕ) → k ≡ n → e ≡ m → Runs shown (Becomes (λ i. IsCurrentRegion k i e)) a b → Runs shown (Becomes (CountsEither n c m)) a b
  new_counts k e order same runs =
      becomes_by shown (λ i. IsCurrentRegion n i m) (CountsEither n c m) (λ i is. inr is) a b
      (subst (λ (z : ℕ × List ℕ). Runs shown (Becomes (λ i. IsCurrentRegion z.0 i z.1)) a b) (λ j. (order j, same j)) runs)
