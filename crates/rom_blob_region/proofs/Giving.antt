-- A region from whose keys blocks were taken, which are given back one after another.
use Rattle.std.proofs.Common.{◌≡◌, ◌≢◌, inl, inr, ℕ, ◌+◌, ◌-◌, ◌*◌, ◌^◌, ◌≤◌, Bool, List, [], ◌∷◌, ◌++◌, sym, ◌∙◌, ap, subst, arith}
use Rattle.std.specs.Prelude.{Option, Some, None}
use Rattle.std.proofs.lemmas.Bool.{cases_eq}
use Rattle.rom_model.specs.Space.{ChangesOnly}
use Rattle.rom_model.specs.Blocks.{IsNode, AreWords, block_at}
use Rattle.rom_model.specs.Chains.{times}
use Rattle.rom_model.proofs.Times.{times_here, times-append}
use Rattle.rom_blob_region.specs.State.{BlobState, order_for, some_block, taken_with}
use Rattle.rom_blob_region.specs.Region.{len_at, data_at, blob_at, IsBlob, AreBlobsApart, IsBlobs}
use Rattle.rom_blob_region.specs.Calls.{HoldsBody, BodyGiven}
use Rattle.rom_blob_region.proofs.Held.{taken_block, apart_fewer, words_fewer, apart_same, tree_same}
use Rattle.rom_blob_region.proofs.Places.{no_body, some_body}
use Rattle.rom_blob_region.proofs.Keeping.{HasKeys, held, whole, tree_keys, tree_held}

-- Where so many bytes stand that begin there: nowhere, or in that block.
pub record Placed (n len at : ℕ) (body : Option ℕ) : Type 0 where
  pub is_none : len ≡ 0 → body ≡ None
  pub is_some : len ≢ 0 → (x : ℕ) × (body ≡ Some x) × IsNode (n - order_for len) x × (at ≡ block_at n (order_for len) x)

pub blob_placed : (n : ℕ) (w : List ℕ) (b : ℕ) → 4 ≤ n → IsBlob n w b → Placed n (len_at n w b) (data_at n w b) (blob_at n w b).body
blob_placed n w b le is = record {
  is_none = λ none. no_body n w b none;
  is_some = λ some. let x = is.block some in (x.0, some_body n w b le x.0 some x.1 x.2, x.1, x.2);
}

-- The blocks of a region's keys are taken, and that of some bytes.
pub record WithBody (n len at : ℕ) (body : Option ℕ) (w : List ℕ) (f : ℕ → List ℕ) (s : BlobState) (count : ℕ) : Type 0 where
  pub keys : HasKeys n w f s count
  pub placed : Placed n len at body
  pub apart : AreBlobsApart n (some_block body ++ held n w f)
  pub tree : AreWords n (taken_with (some_block body ++ held n w f)) w

module _ {n len at : ℕ} {body : Option ℕ} {w : List ℕ} {f : ℕ → List ℕ} {s : BlobState} {count : ℕ} (le : 4 ≤ n) (is : WithBody n len at body w f s count) where
  abbrev all : List ℕ
  all = some_block body ++ held n w f

  -- what stands in a block may be given back
  pub holds_body : (some : len ≢ 0) → HoldsBody n len at (taken_with all) w (is.placed.is_some some).0
  holds_body some =
      let x = is.placed.is_some some in
      record {
        disjoint = is.apart.disjoint;
        words_are = is.tree;
        node = x.2;
        here = x.3;
        among = taken_block all x.0 (omega (arith, times-append x.0 (some_block body) (held n w f), ap (λ o. times x.0 (some_block o)) x.1, times_here x.0 []));
      }

  pub may_give_body : (many there : ℕ) → many ≡ len → there ≡ at → many ≢ 0 → (blocks : ℕ → Bool) × (x : ℕ) × HoldsBody n many there blocks w x
  may_give_body many there same here some =
      let is_some : len ≢ 0 = λ e. some (same ∙ e) in
      let x = (is.placed.is_some is_some).0 in
      (taken_with all, x, subst (λ m. HoldsBody n m there (taken_with all) w x) (sym same) (subst (λ a. HoldsBody n len a (taken_with all) w x) (sym here) (holds_body is_some)))

  pub given_back : (w' : List ℕ) → BodyGiven n len at w w' → ChangesOnly 17 (2 * 2 ^ n - 1) w w' → IsBlobs n w' f s count
  given_back w' given only = elim (cases_eq len 0) [
    | inl none ↦
        let same : w ≡ w' = sym (given.none none) in
        let counts : (c : ℕ) → times c all ≡ times c (held n w f) = λ c. ap (λ o. times c (some_block o ++ held n w f)) (is.placed.is_none none) in
        subst (λ (u : List ℕ). IsBlobs n u f s count) same (whole is.keys (apart_same n all (held n w f) counts is.apart) (tree_same n all (held n w f) w counts is.tree))
    | inr some ↦
        let x = is.placed.is_some some in
        let after = given.given some (taken_with all) x.0 (holds_body some) in
        let stay = tree_held le is.keys only in
        let counts : (c : ℕ) → times c all ≡ times c (held n w' f) + times c (x.0 ∷ []) = λ c. omega (arith, times-append c (some_block body) (held n w f), ap (λ o. times c (some_block o)) x.1, ap (times c) stay) in
        whole (tree_keys le is.keys only) (apart_fewer n all is.apart x.0 (held n w' f) after.0 counts) (words_fewer n all is.apart x.0 (held n w' f) w' counts after.1)
  ]
