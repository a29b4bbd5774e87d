-- The queue with one more block.
use Rattle.std.proofs.Common.{◌≡◌, ◌≢◌, ◌⊎◌, inl, inr, ⊎_elim, ℕ, ◌+◌, ◌*◌, ◌^◌, ◌<◌, ◌≤◌, List, [], ◌∷◌, ◌++◌, length, refl, sym, ◌∙◌, ap, subst, arith, length-append}
use Rattle.std.specs.Prelude.{slice_index}
use Rattle.std.proofs.lemmas.Bool.{cases_lt}
use Rattle.rom_model.specs.Space.{ChangesOnly}
use Rattle.rom_model.specs.Blocks.{block_of}
use Rattle.rom_model.specs.Chains.{IsWordOfBlock, times, last_of, each_word, HoldZero}
use Rattle.rom_model.specs.Region.{IsQueue}
use Rattle.rom_model.proofs.Times.{times_here, times-append, times_one}
use Rattle.rom_model.proofs.Nodes.{pow_positive}
use Rattle.rom_model.proofs.Frames.{each_same}
use Rattle.rom_model.specs.Links.{link_after}
use Rattle.rom_queue.specs.Ends.{IsTailLinked, MayTake, IsAppended}
use Rattle.rom_model.proofs.Links.{link_in}
use Rattle.rom_queue.proofs.Links.{chain_push}

-- what the stores of an append leave
pub record Stored (n b value link : ℕ) (w w' : List ℕ) : Type 0 where
  pub as_long : length w' ≡ length w
  pub first : slice_index w' (block_of n b) ≡ value
  pub second : slice_index w' (block_of n b + 1) ≡ 0
  pub third : slice_index w' (block_of n b + 2) ≡ 0
  pub fourth : slice_index w' (block_of n b + 3) ≡ 0
  pub linked : slice_index w' link ≡ block_of n b
  pub tail : slice_index w' 4 ≡ block_of n b
  pub len : slice_index w' 5 ≡ slice_index w 5 + 1
  pub others : (k : ℕ) → (IsWordOfBlock n b k → ⊥) → k ≢ link → k ≢ 4 → k ≢ 5 → slice_index w' k ≡ slice_index w k

each_push : (n j : ℕ) (w bs : List ℕ) (b : ℕ) → each_word n w j (bs ++ b ∷ []) ≡ each_word n w j bs ++ slice_index w (block_of n b + j) ∷ []
each_push n j w [] b = refl
each_push n j w (a ∷ bs) b = ap (λ l. slice_index w (block_of n a + j) ∷ l) (each_push n j w bs b)

last_push : (n : ℕ) (bs : List ℕ) (b : ℕ) → last_of n (bs ++ b ∷ []) ≡ block_of n b
last_push n [] b = refl
last_push n (a ∷ []) b = refl
last_push n (a ∷ c ∷ bs) b = last_push n (c ∷ bs) b

module _ {n at value : ℕ} {w w' : List ℕ} (q : MayTake n at w) (stored : Stored n q.block value (link_after n 3 1 q.blocks) w w') where
  -- the words of the queue's blocks stay, but for the last link
  block_stays : (c j : ℕ) → 0 < times c q.blocks → j < 4 → block_of n c + j ≢ link_after n 3 1 q.blocks → slice_index w' (block_of n c + j) ≡ slice_index w (block_of n c + j)
  block_stays c j some lt ne =
      let other : c ≢ q.block = λ e. absurd (omega (arith, some, ap (λ x. times x q.blocks) e, q.absent)) in
      stored.others (block_of n c + j) (λ at. other (omega (arith, at))) ne (λ e. absurd (omega (arith, e))) (λ e. absurd (omega (arith, e)))

  -- the last link is a second word of a block, or the head
  not_link : (c j : ℕ) → j < 4 → j ≢ 1 → block_of n c + j ≢ link_after n 3 1 q.blocks
  not_link c j lt ne e = ⊎_elim
      (λ at. absurd (omega (arith, e, at)))
      (λ x. ne (omega (arith, e, x.2, lt)))
      (link_in n 3 1 q.blocks)

  pad : (j : ℕ) → j < 4 → j ≢ 1 → slice_index w' (block_of n q.block + j) ≡ 0 → HoldZero n w j q.blocks → HoldZero n w' j (q.blocks ++ q.block ∷ [])
  pad j lt ne new padded c some = elim (cases_lt 0 (times c q.blocks)) [
    | inl old ↦ block_stays c j old lt (not_link c j lt ne) ∙ padded c old
    | inr none ↦
        let is : c ≡ q.block = times_one c q.block (omega (arith, times-append c q.blocks (q.block ∷ []), some, none)) in
        subst (λ x. slice_index w' (block_of n x + j) ≡ 0) (sym is) new
  ]

  -- a word that is not the last link, the tail, the length or one of the block's
  stays : (k : ℕ) → (IsWordOfBlock n q.block k → ⊥) → ((c : ℕ) → 0 < times c q.blocks → IsWordOfBlock n c k → ⊥) → (k < 3) ⊎ (6 ≤ k) → slice_index w' k ≡ slice_index w k
  stays k outside apart place = stored.others k outside
      (λ e. ⊎_elim (λ at. ⊎_elim (λ lt. absurd (omega (arith, e, at, lt))) (λ ge. absurd (omega (arith, e, at, ge))) place) (λ x. absurd (apart x.0 x.1 (omega (arith, e, x.2), omega (arith, e, x.2)))) (link_in n 3 1 q.blocks))
      (λ e. ⊎_elim (λ lt. absurd (omega (arith, e, lt))) (λ ge. absurd (omega (arith, e, ge))) place)
      (λ e. ⊎_elim (λ lt. absurd (omega (arith, e, lt))) (λ ge. absurd (omega (arith, e, ge))) place)

  queue : IsQueue n w' (q.blocks ++ q.block ∷ []) (q.values ++ value ∷ [])
  queue = record {
    chain = chain_push n 3 1 w w' q.blocks q.block (λ c some e. absurd (omega (arith, e))) q.are.different
        (λ k ne is. ⊎_elim
        (λ at. stored.others k (λ inside. absurd (omega (arith, inside, at))) ne (λ e. absurd (omega (arith, e, at))) (λ e. absurd (omega (arith, e, at))))
        (λ x. subst (λ y. slice_index w' y ≡ slice_index w y) (sym x.2) (block_stays x.0 1 x.1 (omega arith) (λ e. ne (x.2 ∙ e))))
        is)
        stored.linked stored.second q.queue.chain;
    tail = stored.tail ∙ sym (last_push n q.blocks q.block);
    len = omega (arith, stored.len, q.queue.len, length-append q.blocks (q.block ∷ []));
    values_are =
        let old : each_word n w' 0 q.blocks ≡ q.values = each_same n 0 w w' q.blocks (λ c some. block_stays c 0 some (omega arith) (not_link c 0 (omega arith) (omega arith))) ∙ q.queue.values_are in
        let zero_more : block_of n q.block + 0 ≡ block_of n q.block = omega arith in
        let new : slice_index w' (block_of n q.block + 0) ≡ value = ap (λ x. slice_index w' x) zero_more ∙ stored.first in
        each_push n 0 w' q.blocks q.block ∙ ap (λ l. l ++ slice_index w' (block_of n q.block + 0) ∷ []) old ∙ ap (λ x. q.values ++ x ∷ []) new;
    third = pad 2 (omega arith) (omega arith) stored.third q.queue.third;
    fourth = pad 3 (omega arith) (omega arith) stored.fourth q.queue.fourth;
  }

  pub appended : IsAppended q value w'
  appended = record {
    queue = queue;
    others = record {
      as_long = stored.as_long;
      root = λ k small apart. stays k (λ inside. absurd (omega (arith, inside, small, pow_positive n))) (λ c some inside. absurd (omega (arith, inside, small, pow_positive n))) apart;
      others = λ k late outside. stays k
          (outside q.block (omega (arith, times-append q.block q.blocks (q.block ∷ []), times_here q.block [])))
          (λ c some. outside c (omega (arith, times-append c q.blocks (q.block ∷ []), some)))
          (inr (omega (arith, late)));
    };
    tree = λ k least most. stays k (λ inside. absurd (omega (arith, inside, most))) (λ c some inside. absurd (omega (arith, inside, most))) (inr (omega (arith, least)));
  }

-- the last link lies in the region, and beside the other words that an append stores
pub record LinkFits (n b link : ℕ) : Type 0 where
  pub within : link < 16 + 6 * 2 ^ n
  pub not_tail : link ≢ 4
  pub not_len : link ≢ 5
  pub outside : IsWordOfBlock n b link → ⊥

pub link_fits : {n at : ℕ} {w : List ℕ} (q : MayTake n at w) → LinkFits n q.block (link_after n 3 1 q.blocks)
link_fits {n} q = ⊎_elim
    (λ at. record { within = omega (arith, at); not_tail = λ e. absurd (omega (arith, at, e)); not_len = λ e. absurd (omega (arith, at, e)); outside = λ inside. absurd (omega (arith, at, inside)) })
    (λ x. let lt = q.are.within x.0 x.1 in record {
      within = omega (arith, x.2, lt);
      not_tail = λ e. absurd (omega (arith, x.2, e));
      not_len = λ e. absurd (omega (arith, x.2, e));
      outside = λ inside. let same : x.0 ≡ q.block = omega (arith, x.2, inside) in absurd (omega (arith, x.1, ap (λ y. times y q.blocks) same, q.absent));
    })
    (link_in n 3 1 q.blocks)

-- filling the block leaves the words beside it
pub stays_beside : {n at : ℕ} {v : List ℕ} (q : MayTake n at v) {w : List ℕ} (f : List ℕ) → ChangesOnly at 4 w f → (k : ℕ) → (IsWordOfBlock n q.block k → ⊥) → slice_index f k ≡ slice_index w k
stays_beside {n} {at} q f filled k outside = elim (cases_lt k at) [
  | inl lt ↦ filled.before k lt
  | inr ge ↦ elim (cases_lt k (at + 4)) [ inl lt ↦ absurd (outside (omega (arith, q.here, ge), omega (arith, q.here, lt))) | inr le ↦ filled.behind k le ]
]

-- and linking it leaves the block
pub filled_apart : {n at : ℕ} {v : List ℕ} (q : MayTake n at v) (last : ℕ) {w f w' : List ℕ} → last ≡ link_after n 3 1 q.blocks → ChangesOnly at 4 w f → IsTailLinked last at f w' → (k : ℕ) → (slice_index f k ≡ slice_index w k) ⊎ (slice_index w' k ≡ slice_index f k)
filled_apart {n} {at} q last end_is filled l k = elim (cases_lt k at) [
  | inl lt ↦ inl (filled.before k lt)
  | inr ge ↦ elim (cases_lt k (at + 4)) [
    | inl lt ↦ inr (l.others k (λ e. (link_fits q).outside (omega (arith, e, end_is, q.here, ge), omega (arith, e, end_is, q.here, lt))) (λ e. absurd (omega (arith, e, q.here, ge))) (λ e. absurd (omega (arith, e, q.here, ge))))
    | inr le ↦ inl (filled.behind k le)
  ]
]

-- the block is filled, and then it is linked
pub stored_two : {n at value last : ℕ} {w f w' : List ℕ} (q : MayTake n at w) → last ≡ link_after n 3 1 q.blocks
    → slice_index f at ≡ value → slice_index f (at + 1) ≡ 0 → slice_index f (at + 2) ≡ 0 → slice_index f (at + 3) ≡ 0 → ChangesOnly at 4 w f
    → IsTailLinked last at f w' → Stored n q.block value (link_after n 3 1 q.blocks) w w'
stored_two {n} {at} {value} {last} {w} {f} {w'} q end_is first second third fourth filled l = record {
  as_long = l.as_long ∙ filled.as_long;
  first = ap (λ k. slice_index w' k) plain ∙ kept 0 (omega arith) ∙ ap (λ k. slice_index f k) (sym plain) ∙ ap (λ k. slice_index f k) (sym q.here) ∙ first;
  second = kept 1 (omega arith) ∙ ap (λ k. slice_index f (k + 1)) (sym q.here) ∙ second;
  third = kept 2 (omega arith) ∙ ap (λ k. slice_index f (k + 2)) (sym q.here) ∙ third;
  fourth = kept 3 (omega arith) ∙ ap (λ k. slice_index f (k + 3)) (sym q.here) ∙ fourth;
  linked = ap (λ k. slice_index w' k) (sym end_is) ∙ l.linked ∙ q.here;
  tail = l.tail ∙ q.here;
  len = l.len ∙ ap (λ k. k + 1) (filled.before 5 (omega (arith, q.here)));
  others = λ k outside ne n4 n5. l.others k (λ e. ne (e ∙ end_is)) n4 n5 ∙ stays_beside q f filled k outside;
}
  where
    plain : block_of n q.block ≡ block_of n q.block + 0
    plain = omega arith

    kept : (j : ℕ) → j < 4 → slice_index w' (block_of n q.block + j) ≡ slice_index f (block_of n q.block + j)
    kept j lt = l.others (block_of n q.block + j) (λ e. (link_fits q).outside (omega (arith, e, end_is), omega (arith, e, end_is, lt))) (λ e. absurd (omega (arith, e))) (λ e. absurd (omega (arith, e)))
