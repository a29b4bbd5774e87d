-- Stores that are made one after another.
use Rattle.std.proofs.Common.{◌≡◌, ℕ, suc, ◌+◌, ◌*◌, ◌<◌, ◌≤◌, refl, ap, subst, ◌∙◌, arith}
use Rattle.std.specs.Prelude.{IsTrue}
use Rattle.std.proofs.Math.Nat.{mul-suc, mul-le-mul_left}
use Rattle.rom_model.specs.Space.{ShownSpace, Stores, HasRoom}

-- one part more of as many equal ones
pub mul_next : (k i n : ℕ) → i < n → k * i + k ≤ k * n
mul_next k i n lt = subst (λ (x : ℕ). x ≤ k * n) (mul-suc k i) (mul-le-mul_left k lt)

pub mul_more : (k i : ℕ) → k * (i + 1) ≡ k * i + k
mul_more k i = let next : i + 1 ≡ suc i = omega arith in ap (λ (x : ℕ). k * x) next ∙ mul-suc k i

module _ {M : Type 0} {shown : ShownSpace M} where
  -- no stores
  pub stores_none : (stores : ℕ) {space : M} → Stores shown stores space space
  stores_none stores = record {
    loads_later = λ told. omega arith;
    stores_later = λ told. omega arith;
    most_stores = λ told. omega arith;
    limit = refl;
    rest = refl;
  }

  -- some stores, and then others
  pub stores_more : {k m : ℕ} (stores : ℕ) {old mid new : M} → k + m ≤ stores → Stores shown k old mid → Stores shown m mid new → Stores shown stores old new
  stores_more stores few one two = record {
    loads_later = λ told. omega (arith, one.loads_later told, two.loads_later told);
    stores_later = λ told. omega (arith, one.stores_later told, two.stores_later told);
    most_stores = λ told. omega (arith, few, one.most_stores told, two.most_stores told);
    limit = two.limit ∙ one.limit;
    rest = two.rest ∙ one.rest;
  }

  -- fewer than so many stores
  pub stores_fewer : {k : ℕ} (stores : ℕ) {old new : M} → k ≤ stores → Stores shown k old new → Stores shown stores old new
  stores_fewer stores few made = stores_more stores (omega (arith, few)) made (stores_none 0)

  -- the room that is left after some stores
  pub room_left : {k m : ℕ} (stores : ℕ) {old new : M} → (IsTrue shown.has_limit → IsTrue shown.tells_stores) → k + stores ≤ m → HasRoom shown m old → Stores shown k old new → HasRoom shown stores new
  room_left stores counts few room made told = omega (arith, few, room told, made.most_stores (counts told), made.limit)
