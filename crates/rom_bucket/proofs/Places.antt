-- A place in a bucket's chain: where its link stands, and what stays where that link alone changes.
use Rattle.std.proofs.Common.{◌≡◌, ◌≢◌, ◌⊎◌, inl, inr, ⊎_elim, ℕ, ◌+◌, ◌-◌, ◌*◌, ◌^◌, ◌<◌, ◌≤◌, List, ◌∷◌, ◌++◌, sym, ◌∙◌, ap, subst, arith}
use Rattle.std.specs.Prelude.{slice_index}
use Rattle.std.proofs.lemmas.Bool.{cases_lt}
use Rattle.rom_model.specs.Blocks.{block_of}
use Rattle.rom_model.specs.Chains.{times, Chain}
use Rattle.rom_model.specs.Links.{link_after}
use Rattle.rom_model.specs.Region.{buckets, bucket_of}
use Rattle.rom_model.proofs.Times.{times-append}
use Rattle.rom_model.proofs.Links.{IsLink, link_in, chain_back, chain_first, chain_relinked}
use Rattle.rom_bucket.specs.Walk.{head_of}
use Rattle.rom_bucket.specs.Buckets.{blocks_of_buckets, AreBuckets, Between, There}
use Rattle.rom_bucket.specs.declared.walk.Place.{Place}
use Rattle.rom_bucket.proofs.Heads.{head_before, head_within}
use Rattle.rom_bucket.proofs.Keys.{in_all, single_in, placed_in}

-- the place before a key's node
abbrev pub before_node : {n : ℕ} {w : List ℕ} {f : ℕ → List ℕ} {key : ℕ} {place : Place} → There n w f key place → Between n f key place
before_node t = record { front = t.front; back = t.block ∷ t.back; blocks = t.blocks; link_is = t.link_is; node_is = t.node_is }

module _ {n size : ℕ} {w : List ℕ} {f : ℕ → List ℕ} {key : ℕ} {place : Place} (le : 4 ≤ n) (is : AreBuckets n size w f) (within : bucket_of n key < buckets n) (b : Between n f key place) where
  abbrev own : ℕ
  own = bucket_of n key

  pub in_own : (c : ℕ) → times c (f own) ≡ times c b.front + times c b.back
  in_own c = ap (times c) b.blocks ∙ times-append c b.front b.back

  late : (c : ℕ) → 0 < times c b.front → 2 ^ (n - 4) ≤ c
  late c some = (placed_in is own within c (omega (arith, in_own c, some))).0

  -- the link is the bucket's head, or the third word of a node before
  pub link_kinds : (place.link ≡ head_of n own) ⊎ ((c : ℕ) × (0 < times c (blocks_of_buckets n f)) × (place.link ≡ block_of n c + 2))
  link_kinds = ⊎_elim (λ at. inl (b.link_is ∙ at)) (λ x. inr (x.0, in_all is own within x.0 (omega (arith, in_own x.0, x.1)), b.link_is ∙ x.2)) (link_in n (head_of n own) 2 b.front)

  pub not_link : (c j : ℕ) → j < 4 → 2 ^ (n - 4) ≤ c → (j ≡ 2 → times c b.front ≡ 0) → block_of n c + j ≢ place.link
  not_link c j lt high beside e = ⊎_elim
      (λ at. absurd (omega (arith, e, b.link_is, at, high, head_before n own le within)))
      (λ x.
      let two : j ≡ 2 = omega (arith, e, b.link_is, x.2, lt) in
      let same : x.0 ≡ c = omega (arith, e, b.link_is, x.2, two) in
      absurd (omega (arith, x.1, ap (λ y. times y b.front) same, beside two)))
      (link_in n (head_of n own) 2 b.front)

  pub head_apart : (i : ℕ) → i < buckets n → i ≢ own → head_of n i ≢ place.link
  head_apart i lt ne e = ⊎_elim
      (λ at. ne (omega (arith, e, b.link_is, at)))
      (λ x. absurd (omega (arith, e, b.link_is, x.2, head_before n i le lt, late x.0 x.1)))
      (link_in n (head_of n own) 2 b.front)

  pub link_high : block_of n 0 ≤ place.link
  link_high = ⊎_elim (λ at. omega (arith, b.link_is, at)) (λ x. omega (arith, b.link_is, x.2)) (link_in n (head_of n own) 2 b.front)

  pub link_inside : place.link < 16 + 6 * 2 ^ n
  link_inside = ⊎_elim
      (λ at. omega (arith, b.link_is, at, head_within n own le within))
      (λ x. omega (arith, b.link_is, x.2, placed_in is own within x.0 (omega (arith, in_own x.0, x.1))))
      (link_in n (head_of n own) 2 b.front)

  -- a block of another bucket is not in this one
  pub elsewhere : (i c : ℕ) → i < buckets n → i ≢ own → 0 < times c (f i) → times c b.front ≡ 0
  elsewhere i c lt ne some = elim (cases_lt 0 (times c b.front)) [
    | inl both ↦ absurd (ne (sym (is.own_bucket i c lt some) ∙ is.own_bucket own c within (omega (arith, in_own c, both))))
    | inr none ↦ omega (arith, none)
  ]

  once : (c : ℕ) → times c b.front + times c b.back ≤ 1
  once c = omega (arith, in_own c, single_in is own within c)

  -- nor does one stand on both sides
  pub behind_only : (c : ℕ) → 0 < times c b.back → times c b.front ≡ 0
  behind_only c some = omega (arith, once c, some)

  own_chain : Chain n w (head_of n own) 2 (b.front ++ b.back)
  own_chain = subst (λ bs. Chain n w (head_of n own) 2 bs) b.blocks (is.chains own within)

  pub chain_behind : Chain n w (link_after n (head_of n own) 2 b.front) 2 b.back
  chain_behind = chain_back n (head_of n own) 2 w b.front b.back own_chain

  -- the link leads to the place's node
  pub leads : slice_index w (link_after n (head_of n own) 2 b.front) ≡ place.node
  leads = chain_first n (link_after n (head_of n own) 2 b.front) 2 w b.back chain_behind ∙ sym b.node_is

  pub link_leads : slice_index w place.link ≡ place.node
  link_leads = ap (λ k. slice_index w k) b.link_is ∙ leads

  -- the chain with other blocks behind the place
  pub relinked : (w' next : List ℕ) → ((k : ℕ) → k ≢ place.link → IsLink n (head_of n own) 2 b.front k → slice_index w' k ≡ slice_index w k) → Chain n w' (link_after n (head_of n own) 2 b.front) 2 next → Chain n w' (head_of n own) 2 (b.front ++ next)
  relinked w' next same ends = chain_relinked n (head_of n own) 2 w w' b.front b.back next
      (λ c some e. absurd (omega (arith, e, head_before n own le within, late c some)))
      (λ c. omega (arith, once c)) (λ k ne at. same k (λ e. ne (e ∙ b.link_is)) at) ends own_chain
