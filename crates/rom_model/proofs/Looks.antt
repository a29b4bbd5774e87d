-- What looking and storing cost, step by step.
use Rattle.std.proofs.Common.{◌≡◌, ℕ, ◌+◌, ◌≤◌, ◌∙◌, arith}
use Rattle.std.specs.Prelude.{IsTrue}
use Rattle.rom_model.specs.Space.{ShownSpace, Counts, Costs, Looks, Stores, HasRoom}

module _ {M : Type 0} (shown : ShownSpace M) (j k : ℕ) where
  pub looks_most : {old new : M} → j ≤ k → Looks shown j old new → Looks shown k old new
  looks_most le is = record {
    image = is.image;
    costs = record {
      loads_later = is.costs.loads_later;
      most_loads = λ told. omega (arith, is.costs.most_loads told);
      stores_later = is.costs.stores_later;
      most_stores = is.costs.most_stores;
      limit = is.costs.limit;
      rest = is.costs.rest;
    };
  }

  -- one load more
  pub looks_more : {old mid new : M} → j + 1 ≤ k → Looks shown j old mid → shown.image new ≡ shown.image mid → Counts shown 1 0 mid new → Looks shown k old new
  looks_more le is image counts = record {
    image = image ∙ is.image;
    costs = record {
      loads_later = λ told. omega (arith, is.costs.loads_later told, counts.loads_made told);
      most_loads = λ told. omega (arith, is.costs.most_loads told, counts.loads_made told);
      stores_later = λ told. omega (arith, is.costs.stores_later told, counts.stores_made told);
      most_stores = λ told. omega (arith, is.costs.most_stores told, counts.stores_made told);
      limit = counts.limit ∙ is.costs.limit;
      rest = counts.rest ∙ is.costs.rest;
    };
  }

module _ {M : Type 0} {shown : ShownSpace M} where
  pub costs_most : {j k : ℕ} (loads stores : ℕ) {old new : M} → j ≤ loads → k ≤ stores → Costs shown j k old new → Costs shown loads stores old new
  costs_most loads stores few less one = record {
    loads_later = one.loads_later;
    most_loads = λ told. omega (arith, one.most_loads told);
    stores_later = one.stores_later;
    most_stores = λ told. omega (arith, one.most_stores told);
    limit = one.limit;
    rest = one.rest;
  }

  -- one after another
  pub costs_then : {j k l m : ℕ} (loads stores : ℕ) {old mid new : M} → j + l ≤ loads → k + m ≤ stores → Costs shown j k old mid → Costs shown l m mid new → Costs shown loads stores old new
  costs_then loads stores few less one two = record {
    loads_later = λ told. omega (arith, one.loads_later told, two.loads_later told);
    most_loads = λ told. omega (arith, one.most_loads told, two.most_loads told);
    stores_later = λ told. omega (arith, one.stores_later told, two.stores_later told);
    most_stores = λ told. omega (arith, one.most_stores told, two.most_stores told);
    limit = two.limit ∙ one.limit;
    rest = two.rest ∙ one.rest;
  }

  -- the room that is left
  pub room_left : {j k m : ℕ} (stores : ℕ) {old new : M} → (IsTrue shown.has_limit → IsTrue shown.tells_stores) → k + stores ≤ m → HasRoom shown m old → Costs shown j k old new → HasRoom shown stores new
  room_left stores counts few room one told = omega (arith, room told, one.most_stores (counts told), one.limit)

  pub looks_then : {j k : ℕ} (loads : ℕ) {old mid new : M} → j + k ≤ loads → Looks shown j old mid → Looks shown k mid new → Looks shown loads old new
  looks_then loads few one two = record { image = two.image ∙ one.image; costs = costs_then loads 0 few (omega arith) one.costs two.costs }

  -- of the costs the stores alone
  pub stores_most : {j k : ℕ} (stores : ℕ) {old new : M} → k ≤ stores → Costs shown j k old new → Stores shown stores old new
  stores_most stores few one = record {
    loads_later = one.loads_later;
    stores_later = one.stores_later;
    most_stores = λ told. omega (arith, one.most_stores told);
    limit = one.limit;
    rest = one.rest;
  }

  -- stores after one that is counted
  pub stores_after : {j k m : ℕ} (stores : ℕ) {old mid new : M} → j + m ≤ stores → Counts shown k j old mid → Stores shown m mid new → Stores shown stores old new
  stores_after stores few one two = record {
    loads_later = λ told. omega (arith, one.loads_made told, two.loads_later told);
    stores_later = λ told. omega (arith, one.stores_made told, two.stores_later told);
    most_stores = λ told. omega (arith, one.stores_made told, two.most_stores told);
    limit = two.limit ∙ one.limit;
    rest = two.rest ∙ one.rest;
  }
