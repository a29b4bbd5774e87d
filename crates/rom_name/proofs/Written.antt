-- What is written of an identity, by what a guarded write may leave.
use Rattle.std.proofs.Common.{◌≡◌, inl, inr, ⊎_elim, ℕ, ◌+◌, List, [], ◌∷◌, length, arith}
use Rattle.rom_model.specs.Space.{ChangesOnly}
use Rattle.rom_frame.specs.declared.head.HeapName.{HeapName}
use Rattle.rom_name.specs.Identities.{WritesEpoch, WritesGuarded, WritesIdentity, WritesName}
use Rattle.rom_name.specs.declared.identity.Identity.{Identity}

-- only the words from the guard on differ
guarded_only : (at : ℕ) (values : List ℕ) (place guard : ℕ) (x y : List ℕ) → at ≡ place + 1 → WritesGuarded at values place guard x y → ChangesOnly place (1 + length values) x y
guarded_only at values place guard x y next w = record {
  as_long = w.as_long;
  before = λ k low. w.others k (inl (omega (arith, next, low))) (omega (arith, low));
  behind = λ k high. w.others k (inr (omega (arith, next, high))) (omega (arith, high));
}

pub name_written : (name : HeapName) (x y : List ℕ) → WritesGuarded 5 (name.low ∷ []) 4 name.high x y → WritesName name x y
name_written name x y w = record {
  only = guarded_only 5 (name.low ∷ []) 4 name.high x y (omega arith) w;
  whole = ⊎_elim (λ same. inl same) (λ put. inr (λ i. record { high = put.0 i; low = put.1 0 (omega arith) i })) w.whole;
}

pub epoch_written : (epoch since : ℕ) (x y : List ℕ) → WritesGuarded 6 (epoch ∷ []) 7 since x y → WritesEpoch epoch since x y
epoch_written epoch since x y w = record {
  only = record {
    as_long = w.as_long;
    before = λ k low. w.others k (inl low) (omega (arith, low));
    behind = λ k high. w.others k (inr (omega (arith, high))) (omega (arith, high));
  };
  whole = ⊎_elim (λ same. inl same) (λ put. inr (put.1 0 (omega arith), put.0)) w.whole;
}

pub identity_written : (identity : Identity) (x y : List ℕ) → WritesGuarded 5 (identity.name.low ∷ identity.epoch ∷ identity.since ∷ []) 4 identity.name.high x y → WritesIdentity identity x y
identity_written identity x y w = record {
  only = guarded_only 5 (identity.name.low ∷ identity.epoch ∷ identity.since ∷ []) 4 identity.name.high x y (omega arith) w;
  whole = ⊎_elim (λ same. inl same)
      (λ put. inr (λ i. record { name = record { high = put.0 i; low = put.1 0 (omega arith) i }; epoch = put.1 1 (omega arith) i; since = put.1 2 (omega arith) i })) w.whole;
}
