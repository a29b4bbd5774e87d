-- What is told of a new key, and the region that has it.
use Rattle.std.proofs.Common.{◌≡◌, inl, inr, ℕ, ◌+◌, ◌-◌, ◌*◌, ◌^◌, ◌<◌, ◌≤◌, Bool, true, false, List, ◌++◌, length, refl, sym, ◌∙◌, ap, subst, arith}
use Rattle.std.specs.Prelude.{slice_index, Option, Some, None}
use Rattle.std.specs.FinMap as finite
use Rattle.std.proofs.lemmas.Bool.{cases_eq, cases_lt}
use Rattle.rom_model.specs.Space.{ChangesOnly}
use Rattle.rom_model.specs.Blocks.{IsOrder, IsNode, IsDisjoint, IsFree, IsLowest, NoneFree, AreWords, taking, up, block_of, block_at, region_len}
use Rattle.rom_model.proofs.Members.{under_table}
use Rattle.rom_model.proofs.Nodes.{pow_small}
use Rattle.rom_model.proofs.Room.{tree_stays}
use Rattle.rom_block.specs.Taken.{Takes}
use Rattle.rom_bucket.specs.Link.{first_place, IsNodeLinked}
use Rattle.rom_bucket.proofs.Keys.{few}
use Rattle.rom_blob_region.specs.Bytes.{bytes_at, words_for, EndsInZeros}
use Rattle.rom_blob_region.specs.State.{BlobState, some_block, blocks_taken, taken_with, taking_some, lowest, new_body, set_new, set_node}
use Rattle.rom_blob_region.specs.Region.{blob_at, AreBlobsApart, IsBlobs, BlobContents}
use Rattle.rom_blob_region.specs.Calls.{NoBody, BodyTaken}
use Rattle.rom_blob_region.specs.declared.call.BlobReply.TheVariants as reply
use Rattle.rom_blob_region.proofs.Beside.{block_most}
use Rattle.rom_blob_region.proofs.Held.{taken_state, taken_table}
use Rattle.rom_blob_region.proofs.Places.{in_body}
use Rattle.rom_blob_region.proofs.Keeping.{HasKeys, held, has_keys, tree_keys, tree_held}
use Rattle.rom_blob_region.proofs.Giving.{Placed, WithBody}
use Rattle.rom_blob_region.proofs.Reserving.{Reserved, reserved, no_room, taking_body, no_unit, a_unit}
use Rattle.rom_blob_region.proofs.Adding.{Stored, StoredKeys, stored_keys, added_key}

-- where bytes stand, their words lie inside of the region
pub place_inside : (n len at : ℕ) (body : Option ℕ) → IsOrder n → len ≤ 256 → Placed n len at body → (len ≡ 0 → at ≡ 0) → (at + words_for len ≤ 16 + 6 * 2 ^ n) × (at < 2 ^ 32)
place_inside n len at body o few placed bare = elim (cases_eq len 0) [
  | inl none ↦ (omega (arith, none, bare none), omega (arith, bare none))
  | inr some ↦
      let x = placed.is_some some in
      let last = words_for len - 1 in
      let end = in_body n len x.0 at last o.least few x.2 x.3 (omega (arith, some)) in
      let most = block_most n x.0 (at + last) end in
      (omega (arith, some, most), omega (arith, most, pow_small n o.most))
]

-- the words that a store of bytes leaves
pub stored_in : {n len at : ℕ} {bytes old new : List ℕ} → length bytes ≡ len → bytes_at new at (length bytes) ≡ bytes → EndsInZeros new at (length bytes) → ChangesOnly at (words_for (length bytes)) old new → Stored n len at bytes old new
stored_in {n} {len} {at} {bytes} {old} {new} many same ends others = record {
  bytes_are = ap (λ m. bytes_at new at m) (sym many) ∙ same;
  ends = subst (λ m. EndsInZeros new at m) many ends;
  others = subst (λ m. ChangesOnly at (words_for m) old new) many others;
}

-- a unit that is free lies behind the bucket table
pub unit_late : (n y : ℕ) (zs : List ℕ) → 4 ≤ n → IsLowest n (taken_with zs) 0 y → (2 ^ n + 2 ^ (n - 4) ≤ y) × (y < 2 * 2 ^ n)
unit_late n y zs le is =
    let node = is.node n (omega arith) in
    let b = y - 2 ^ n in
    let here : 2 ^ n + b ≡ y = omega (arith, node.least) in
    elim (cases_lt b (2 ^ (n - 4))) [
      | inl lt ↦ absurd (
          let at_table : up (n - 4) y ≡ 16 = ap (λ a. up (n - 4) a) (sym here) ∙ under_table n b le lt in
          let none : taken_with zs 16 ≡ false = ap (taken_with zs) (sym at_table) ∙ is.free y (n - 4) node refl in
          let never : true ≡ false = sym (taken_table zs) ∙ none in cc)
      | inr ge ↦ (omega (arith, ge, here), node.most)
    ]

module _ {n : ℕ} {w : List ℕ} {f : ℕ → List ℕ} {s : BlobState} {count : ℕ} (is : IsBlobs n w f s count) where
  abbrev xs : List ℕ
  xs = held n w f

  -- what is taken in the state
  pub taken_is : (i : ℕ) → blocks_taken s i ≡ taken_with xs i
  taken_is i = ap (λ (m : BlobState). blocks_taken m i) (sym is.state_is) ∙ taken_state is.keys (blob_at n w) i

  same_taken : blocks_taken s ≡ taken_with xs
  same_taken = λ p i. taken_is i p

  pub body_for : (bytes : List ℕ) → new_body n (blocks_taken s) bytes ≡ new_body n (taken_with xs) bytes
  body_for bytes = ap (λ (T : ℕ → Bool). new_body n T bytes) same_taken

  node_for : (body : Option ℕ) → lowest n (taking_some body (blocks_taken s)) 0 ≡ lowest n (taken_with (some_block body ++ xs)) 0
  node_for body =
      let same : taking_some body (taken_with xs) ≡ taken_with (some_block body ++ xs) = (λ p i. taking_body body xs i p) in
      ap (λ (T : ℕ → Bool). lowest n (taking_some body T) 0) same_taken ∙ ap (λ (T : ℕ → Bool). lowest n T 0) same

  -- a block was taken for the bytes
  pub has_body : IsOrder n → {len at : ℕ} {bytes w1 : List ℕ} → length bytes ≡ len → ((blocks : ℕ → Bool) → IsDisjoint n blocks → AreWords n blocks w → BodyTaken n len blocks w w1 at) → Reserved n len xs bytes w1 at
  has_body o {len} {at} {bytes} {w1} many taken = reserved n len xs bytes w o.least is.apart is.tree many w1 at (taken (taken_with xs) is.apart.disjoint is.tree)

  module _ {len : ℕ} (bytes : List ℕ) (le : 4 ≤ n) (key : ℕ) (many : length bytes ≡ len) where
    -- there is no block for the bytes
    pub told_full : NoBody n len (taken_with xs) → set_new n s key bytes (new_body n (blocks_taken s) bytes) ≡ (s, reply.Full)
    told_full none = ap (set_new n s key bytes) (body_for bytes ∙ no_room n len xs bytes w le is.apart is.tree many none)

    module _ {w1 : List ℕ} {at : ℕ} (r : Reserved n len xs bytes w1 at) where
      set_it : (unit : Option ℕ) → lowest n (taken_with (some_block r.body ++ xs)) 0 ≡ unit → set_new n s key bytes (new_body n (blocks_taken s) bytes) ≡ set_node s key bytes r.body unit
      set_it unit is_unit = ap (set_new n s key bytes) (body_for bytes ∙ r.chosen) ∙ ap (set_node s key bytes r.body) (node_for r.body ∙ is_unit)

      -- there is none for the node
      pub told_no_unit : NoneFree n (taken_with (some_block r.body ++ xs)) 0 → set_new n s key bytes (new_body n (blocks_taken s) bytes) ≡ (s, reply.Full)
      told_no_unit none = set_it None (no_unit n (some_block r.body ++ xs) w r.apart none)

      -- there are both
      pub told_new : (y : ℕ) → IsLowest n (taken_with (some_block r.body ++ xs)) 0 y → set_new n s key bytes (new_body n (blocks_taken s) bytes) ≡ (finite.insert s key record { bytes = bytes; node = y; body = r.body }, reply.New)
      told_new y lowest_y = set_it (Some y) (a_unit n (some_block r.body ++ xs) w r.apart y lowest_y)

  module _ {len : ℕ} {bytes w1 : List ℕ} {at : ℕ} (o : IsOrder n) (r : Reserved n len xs bytes w1 at) (only : ChangesOnly 17 (2 * 2 ^ n - 1) w w1) where
    keys1 : HasKeys n w1 f s count
    keys1 = tree_keys o.least (has_keys is) only

    stay1 : held n w1 f ≡ xs
    stay1 = tree_held o.least (has_keys is) only

    -- the block for the bytes may be given back
    with_body : WithBody n len at r.body w1 f s count
    with_body = record {
      keys = keys1;
      placed = r.placed;
      apart = subst (λ ys. AreBlobsApart n (some_block r.body ++ ys)) (sym stay1) r.apart;
      tree = subst (λ ys. AreWords n (taken_with (some_block r.body ++ ys)) w1) (sym stay1) r.tree;
    }

    -- also where another block was looked for and not found
    pub with_body_still : {v : List ℕ} → v ≡ w1 → WithBody n len at r.body v f s count
    with_body_still same = subst (λ v. WithBody n len at r.body v f s count) (sym same) with_body

    module _ {w2 : List ℕ} {node : ℕ} (takes : Takes n 0 (taken_with (some_block r.body ++ xs)) w2 node) where
      abbrev b : ℕ
      b = takes.node - 2 ^ n

      -- the node's unit
      pub node_is : node ≡ block_of n b
      node_is = takes.here ∙ (let late = unit_late n takes.node (some_block r.body ++ xs) o.least takes.lowest in let unit : block_at n 0 takes.node ≡ block_of n b = omega (arith, late) in unit)

      pub node_least : block_of n (2 ^ (n - 4)) ≤ node
      node_least = omega (arith, node_is, unit_late n takes.node (some_block r.body ++ xs) o.least takes.lowest)

      pub node_most : node + 4 ≤ region_len n
      node_most = omega (arith, node_is, unit_late n takes.node (some_block r.body ++ xs) o.least takes.lowest)

      module _ (few_bytes : len ≤ 256) (then : ChangesOnly 17 (2 * 2 ^ n - 1) w1 w2) {w3 : List ℕ} (stored : Stored n len at bytes w2 w3) where
        keys2 : HasKeys n w2 f s count
        keys2 = tree_keys o.least keys1 then

        stay2 : held n w2 f ≡ xs
        stay2 = tree_held o.least keys1 then ∙ stay1

        after : StoredKeys o.least few_bytes keys2 r.placed (subst (λ ys. AreBlobsApart n (some_block r.body ++ ys)) (sym stay2) r.apart) stored
        after = stored_keys o.least few_bytes keys2 r.placed (subst (λ ys. AreBlobsApart n (some_block r.body ++ ys)) (sym stay2) r.apart) stored

        stay3 : held n w3 f ≡ xs
        stay3 = after.same ∙ stay2

        pub size_small : slice_index w3 3 < 2 ^ 63
        size_small = omega (arith, after.keys.keys.len, few after.keys.keys, pow_small n o.most)

        -- the key is there
        pub new_key : {w4 : List ℕ} (key : ℕ) → finite.get s key ≡ None → IsNodeLinked 3 (first_place n key w3) node record { key = key; second = len; last = at } w3 w4 → BlobContents n w4 (finite.insert s key record { bytes = bytes; node = takes.node; body = r.body }) count
        new_key {w4} key absent linked =
            let all = some_block r.body ++ xs in
            let late = unit_late n takes.node all o.least takes.lowest in
            let same : takes.node ≡ 2 ^ n + b = omega (arith, late) in
            let node_at : IsNode n (2 ^ n + b) = subst (λ z. IsNode n z) same (takes.lowest.node n (omega arith)) in
            let free : IsFree n (taken_with (some_block r.body ++ held n w3 f)) 0 (2 ^ n + b) = subst (λ ys. IsFree n (taken_with (some_block r.body ++ ys)) 0 (2 ^ n + b)) (sym stay3) (subst (λ z. IsFree n (taken_with all) 0 z) same takes.lowest.free) in
            let disjoint : IsDisjoint n (taking (2 ^ n + b) (taken_with (some_block r.body ++ held n w3 f))) = subst (λ ys. IsDisjoint n (taking (2 ^ n + b) (taken_with (some_block r.body ++ ys)))) (sym stay3) (subst (λ z. IsDisjoint n (taking z (taken_with all))) same takes.disjoint) in
            let words : AreWords n (taking takes.node (taken_with all)) w3 = tree_stays n (taking takes.node (taken_with all)) w2 w3 after.tree takes.words_are in
            let words_now : AreWords n (taking (2 ^ n + b) (taken_with (some_block r.body ++ held n w3 f))) w3 = subst (λ ys. AreWords n (taking (2 ^ n + b) (taken_with (some_block r.body ++ ys))) w3) (sym stay3) (subst (λ z. AreWords n (taking z (taken_with all)) w3) same words) in
            subst (λ z. BlobContents n w4 (finite.insert s key record { bytes = bytes; node = z; body = r.body }) count) (sym same)
            (added_key b o few_bytes after.keys r.placed r.bare (subst (λ ys. AreBlobsApart n (some_block r.body ++ ys)) (sym stay3) r.apart) stored.bytes_are stored.ends absent node_at free disjoint
            (subst (λ a. IsNodeLinked 3 (first_place n key w3) a record { key = key; second = len; last = at } w3 w4) node_is linked) words_now)
