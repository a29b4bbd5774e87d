-- Only looking, call by call.
use Rattle.std.proofs.Common.{ℕ, refl, ◌∙◌, arith}
use Rattle.rom_model.specs.Space.{ShownSpace, Looks}
use Rattle.rom_model.proofs.Looks.{stores_most}
use Rattle.rom_heap.specs.Fits.{OnlyLooks}

module _ {M : Type 0} {shown : ShownSpace M} where
  pub looks_none : {space : M} → OnlyLooks shown space space
  looks_none = record { image = refl; stores = record { loads_later = λ told. omega arith; stores_later = λ told. omega arith; most_stores = λ told. omega arith; limit = refl; rest = refl } }

  pub looks_one : {loads : ℕ} {old new : M} → Looks shown loads old new → OnlyLooks shown old new
  looks_one is = record { image = is.image; stores = stores_most 0 (omega arith) is.costs }

  pub looks_both : {old mid new : M} → OnlyLooks shown old mid → OnlyLooks shown mid new → OnlyLooks shown old new
  looks_both one two = record {
    image = two.image ∙ one.image;
    stores = record {
      loads_later = λ told. omega (arith, one.stores.loads_later told, two.stores.loads_later told);
      stores_later = λ told. omega (arith, one.stores.stores_later told, two.stores.stores_later told);
      most_stores = λ told. omega (arith, one.stores.most_stores told, two.stores.most_stores told);
      limit = two.stores.limit ∙ one.stores.limit;
      rest = two.stores.rest ∙ one.stores.rest;
    };
  }
