-- A block for bytes that was looked for.
use Rattle.std.proofs.Common.{◌≡◌, ◌≢◌, inl, inr, ℕ, ◌+◌, ◌-◌, ◌≤◌, Bool, true, false, List, [], ◌∷◌, ◌++◌, length, refl, sym, ◌∙◌, ap, subst, arith}
use Rattle.std.specs.Prelude.{Option, Some, None, option_map}
use Rattle.std.proofs.lemmas.Bool.{cases_eq}
use Rattle.rom_model.specs.Blocks.{IsNode, IsDisjoint, IsLowest, NoneFree, AreWords}
use Rattle.rom_model.specs.Chains.{times}
use Rattle.rom_model.proofs.Nodes.{node_positive}
use Rattle.rom_model.proofs.Times.{times-append}
use Rattle.rom_blob_region.specs.State.{order_for, some_block, taken_with, lowest, new_body, taking_some}
use Rattle.rom_blob_region.specs.Region.{AreBlobsApart}
use Rattle.rom_blob_region.specs.Calls.{NoBody, BodyTaken}
use Rattle.rom_blob_region.proofs.Lowest.{lowest_some, lowest_none}
use Rattle.rom_blob_region.proofs.Held.{free_untaken, apart_more, words_more, taking_one}
use Rattle.rom_blob_region.proofs.Places.{order_small}
use Rattle.rom_blob_region.proofs.Giving.{Placed}

-- the number 0 is no block
pub no_zero : (n : ℕ) (T : ℕ → Bool) → IsDisjoint n T → T 0 ≡ false
no_zero n T disjoint = go (T 0) refl
  where
    go : (b : Bool) → T 0 ≡ b → T 0 ≡ false
    go true is = let at = disjoint.nodes 0 is in absurd (omega (arith, node_positive at.0 0 at.3))
    go false is = is

-- no bytes stand nowhere, and others where a block is free for them
pub body_none : (n : ℕ) (T : ℕ → Bool) (bytes : List ℕ) → length bytes ≡ 0 → new_body n T bytes ≡ Some None
body_none n T [] none = refl
body_none n T (b ∷ bytes) none = absurd (omega (arith, none))

pub body_some : (n : ℕ) (T : ℕ → Bool) (bytes : List ℕ) → length bytes ≢ 0 → new_body n T bytes ≡ option_map Some (lowest n T (order_for (length bytes)))
body_some n T [] some = absurd (some refl)
body_some n T (b ∷ bytes) some = refl

-- the block for bytes, which may be none, and all that was taken before
pub record Reserved (n len : ℕ) (xs bytes w : List ℕ) (at : ℕ) : Type 0 where
  pub body : Option ℕ
  pub chosen : new_body n (taken_with xs) bytes ≡ Some body
  pub apart : AreBlobsApart n (some_block body ++ xs)
  pub tree : AreWords n (taken_with (some_block body ++ xs)) w
  pub placed : Placed n len at body
  pub bare : len ≡ 0 → at ≡ 0

module _ (n len : ℕ) (xs bytes w : List ℕ) (le : 4 ≤ n) (apart : AreBlobsApart n xs) (words : AreWords n (taken_with xs) w) (many : length bytes ≡ len) where
  order_within : order_for len ≤ n
  order_within = omega (arith, le, order_small len)

  pub no_room : NoBody n len (taken_with xs) → new_body n (taken_with xs) bytes ≡ None
  no_room none =
      body_some n (taken_with xs) bytes (λ e. none.some (sym many ∙ e))
      ∙ ap (λ m. option_map Some (lowest n (taken_with xs) (order_for m))) many
      ∙ ap (option_map Some) (lowest_none n (taken_with xs) (no_zero n (taken_with xs) apart.disjoint) (order_for len) order_within none.none_free)

  pub reserved : (w' : List ℕ) (at : ℕ) → BodyTaken n len (taken_with xs) w w' at → Reserved n len xs bytes w' at
  reserved w' at taken = elim (cases_eq len 0) [
    | inl none ↦
        let both = taken.none none in
        record {
          body = None;
          chosen = body_none n (taken_with xs) bytes (many ∙ none);
          apart = apart;
          tree = subst (λ (v : List ℕ). AreWords n (taken_with xs) v) (sym both.1) words;
          placed = record { is_none = λ e. refl; is_some = λ some. absurd (some none) };
          bare = λ e. both.0;
        }
    | inr some ↦
        let t = taken.takes some in
        let deep : n - order_for len + order_for len ≡ n = omega (arith, order_within) in
        let node : IsNode (n - order_for len) t.node = t.lowest.node (n - order_for len) deep in
        let counts : (c : ℕ) → times c (t.node ∷ xs) ≡ times c xs + times c (t.node ∷ []) = λ c. omega (arith, times-append c (t.node ∷ []) xs) in
        record {
          body = Some t.node;
          chosen = body_some n (taken_with xs) bytes (λ e. some (sym many ∙ e))
              ∙ ap (λ m. option_map Some (lowest n (taken_with xs) (order_for m))) many
              ∙ ap (option_map Some) (lowest_some n (taken_with xs) (no_zero n (taken_with xs) apart.disjoint) (order_for len) t.node t.lowest);
          apart = apart_more n xs apart t.node (t.node ∷ xs) (free_untaken n (n - order_for len) (order_for len) t.node (taken_with xs) deep node t.lowest.free) t.disjoint counts;
          tree = words_more n t.node xs (t.node ∷ xs) w' counts t.words_are;
          placed = record { is_none = λ none. absurd (some none); is_some = λ e. (t.node, refl, node, t.here) };
          bare = λ none. absurd (some none);
        }
  ]

-- one perhaps more
pub taking_body : (body : Option ℕ) (xs : List ℕ) (i : ℕ) → taking_some body (taken_with xs) i ≡ taken_with (some_block body ++ xs) i
taking_body None xs i = refl
taking_body (Some x) xs i = taking_one x xs (x ∷ xs) (λ c. omega (arith, times-append c (x ∷ []) xs)) i

-- the unit for a new key's node
module _ (n : ℕ) (xs w : List ℕ) (apart : AreBlobsApart n xs) where
  pub no_unit : NoneFree n (taken_with xs) 0 → lowest n (taken_with xs) 0 ≡ None
  no_unit none = lowest_none n (taken_with xs) (no_zero n (taken_with xs) apart.disjoint) 0 (omega arith) none

  pub a_unit : (x : ℕ) → IsLowest n (taken_with xs) 0 x → lowest n (taken_with xs) 0 ≡ Some x
  a_unit x is = lowest_some n (taken_with xs) (no_zero n (taken_with xs) apart.disjoint) 0 x is
