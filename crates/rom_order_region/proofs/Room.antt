-- Stores one after another, and the room that they leave.
use Rattle.std.proofs.Common.{ℕ, ◌+◌, ◌≤◌, ◌∙◌, arith}
use Rattle.std.specs.Prelude.{IsTrue}
use Rattle.rom_model.specs.Space.{ShownSpace, Counts, Looks, Stores, HasRoom}

module _ {M : Type 0} {shown : ShownSpace M} where
  pub looks_stores : {j : ℕ} {old new : M} → Looks shown j old new → Stores shown 0 old new
  looks_stores one = record {
    loads_later = one.costs.loads_later;
    stores_later = one.costs.stores_later;
    most_stores = one.costs.most_stores;
    limit = one.costs.limit;
    rest = one.costs.rest;
  }

  pub counts_stores : {j k : ℕ} {old new : M} → Counts shown j k old new → Stores shown k old new
  counts_stores one = record {
    loads_later = λ told. omega (arith, one.loads_made told);
    stores_later = λ told. omega (arith, one.stores_made told);
    most_stores = λ told. omega (arith, one.stores_made told);
    limit = one.limit;
    rest = one.rest;
  }

  pub stores_then : {j k : ℕ} (stores : ℕ) {old mid new : M} → j + k ≤ stores → Stores shown j old mid → Stores shown k mid new → Stores shown stores old new
  stores_then stores few one two = record {
    loads_later = λ told. omega (arith, one.loads_later told, two.loads_later told);
    stores_later = λ told. omega (arith, one.stores_later told, two.stores_later told);
    most_stores = λ told. omega (arith, one.most_stores told, two.most_stores told);
    limit = two.limit ∙ one.limit;
    rest = two.rest ∙ one.rest;
  }

  pub stores_more : {j : ℕ} (stores : ℕ) {old new : M} → j ≤ stores → Stores shown j old new → Stores shown stores old new
  stores_more stores few one = record {
    loads_later = one.loads_later;
    stores_later = one.stores_later;
    most_stores = λ told. omega (arith, one.most_stores told);
    limit = one.limit;
    rest = one.rest;
  }

  -- the room that is left
  pub room_after : {k m : ℕ} (stores : ℕ) {old new : M} → (IsTrue shown.has_limit → IsTrue shown.tells_stores) → k + stores ≤ m → HasRoom shown m old → Stores shown k old new → HasRoom shown stores new
  room_after stores counts few room one told = omega (arith, room told, one.most_stores (counts told), one.limit)
