-- Stores after what is counted too.
use Rattle.std.proofs.Common.{ℕ, ◌+◌, ◌≤◌, ◌∙◌, arith}
use Rattle.rom_model.specs.Space.{ShownSpace, Costs, Stores}

pub stores_then : {M : Type 0} {shown : ShownSpace M} {j k m : ℕ} (stores : ℕ) {old mid new : M} → k + m ≤ stores → Costs shown j k old mid → Stores shown m mid new → Stores shown stores old new
stores_then stores few one two = record {
  loads_later = λ told. omega (arith, one.loads_later told, two.loads_later told);
  stores_later = λ told. omega (arith, one.stores_later told, two.stores_later told);
  most_stores = λ told. omega (arith, one.most_stores told, two.most_stores told);
  limit = two.limit ∙ one.limit;
  rest = two.rest ∙ one.rest;
}
