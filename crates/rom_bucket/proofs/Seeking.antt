-- A walk along a bucket's chain whose keys rise, step by step.
use Rattle.std.proofs.Common.{◌≡◌, ℕ, ◌+◌, ◌<◌, ◌≤◌, Bool, false, List, [], ◌∷◌, ◌++◌, length, refl, sym, ◌∙◌, ap, subst, arith, length-append, append_assoc}
use Rattle.std.specs.Prelude.{slice_index, ◌==◌}
use Rattle.rom_model.specs.Blocks.{block_of}
use Rattle.rom_model.specs.Chains.{Chain, each_word}
use Rattle.rom_model.specs.Region.{bucket_of}
use Rattle.rom_model.proofs.Links.{link_push, chain_back, chain_first, each_append}
use Rattle.rom_bucket.specs.Walk.{head_of, IsBucket}
use Rattle.rom_model.specs.Rising.{AreBelow, StartsAbove, starts_with}
use Rattle.rom_bucket.specs.Rising.{WalkedBelow, IsSought, last_load}
use Rattle.rom_model.proofs.Rising.{below_push}
use Rattle.rom_bucket.proofs.Walking.{First, first_node, no_node, Along}

pub at_head : {n : ℕ} {w bs : List ℕ} (key link node : ℕ) → IsBucket n w (bucket_of n key) bs → link ≡ head_of n (bucket_of n key) → node ≡ slice_index w link → WalkedBelow n w bs key link node
at_head {n} {w} {bs} key link node is here load = record {
  front = [];
  back = bs;
  blocks_are = refl;
  below = tt;
  link_is = here;
  node_is = load ∙ ap (λ k. slice_index w k) here ∙ chain_first n (head_of n (bucket_of n key)) 2 w bs is;
}

module _ {n : ℕ} {w bs : List ℕ} {key link node : ℕ} (is : IsBucket n w (bucket_of n key) bs) (x : WalkedBelow n w bs key link node) where
  abbrev pub along : Along n (head_of n (bucket_of n key)) w bs node
  along = record { front = x.front; back = x.back; chain = is; are = x.blocks_are; node_is = x.node_is }

  -- at the chain's end
  module _ (none : node ≡ 0) where
    pub over : x.back ≡ []
    over = no_node n node x.back x.node_is none

    abbrev pub at_end : (found : Bool) → found ≡ false → IsSought n w bs key (record { place = record { link = link; node = node }; found = found })
    at_end found missing = record {
      walked = x;
      above = subst (λ cs. StartsAbove key (each_word n w 0 cs)) (sym over) tt;
      found = missing ∙ ap (λ cs. starts_with key (each_word n w 0 cs)) (sym over);
    }

    pub no_load : last_load x.back ≡ 0
    no_load = ap last_load over

  module _ (some : node ≡ 0 → ⊥) where
    abbrev here : First n node x.back
    here = first_node n node x.back x.node_is some

    pub plain : block_of n here.block + 0 ≡ node
    plain = omega (arith, here.here)

    -- at a node whose key is not below the key
    abbrev pub at_node : (found : Bool) → found ≡ (slice_index w node == key) → key ≤ slice_index w node → IsSought n w bs key (record { place = record { link = link; node = node }; found = found })
    at_node found tells high = record {
      walked = x;
      above = subst (λ cs. StartsAbove key (each_word n w 0 cs)) (sym here.are) (subst (λ k. key ≤ slice_index w k) (sym plain) high);
      found = tells ∙ ap (λ k. slice_index w k == key) (sym plain) ∙ ap (λ cs. starts_with key (each_word n w 0 cs)) (sym here.are);
    }

    pub one_load : last_load x.back ≡ 1
    one_load = ap last_load here.are

    -- one step more
    pub step : (next : ℕ) → slice_index w node < key → next ≡ slice_index w (node + 2) → (y : WalkedBelow n w bs key (node + 2) next) × (length y.front ≡ length x.front + 1)
    step next lt load =
        let head = head_of n (bucket_of n key) in
        let are : bs ≡ x.front ++ here.block ∷ here.behind = x.blocks_are ∙ ap (λ cs. x.front ++ cs) here.are in
        let rest = chain_back n head 2 w x.front (here.block ∷ here.behind) (subst (λ cs. Chain n w head 2 cs) are is) in (
          record {
            front = x.front ++ here.block ∷ [];
            back = here.behind;
            blocks_are = are ∙ sym (append_assoc x.front (here.block ∷ []) here.behind);
            below = subst (AreBelow key) (sym (each_append n 0 w x.front (here.block ∷ []))) (below_push key (slice_index w (block_of n here.block + 0)) (each_word n w 0 x.front) x.below (subst (λ k. slice_index w k < key) (sym plain) lt));
            link_is = let more : node + 2 ≡ block_of n here.block + 2 = omega (arith, here.here) in more ∙ sym (link_push n head 2 x.front here.block);
            node_is = load ∙ ap (λ k. slice_index w (k + 2)) here.here ∙ chain_first n (block_of n here.block + 2) 2 w here.behind rest.1;
          },
          length-append x.front (here.block ∷ []),
        )
