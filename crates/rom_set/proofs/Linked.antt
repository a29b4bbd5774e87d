-- The set with one more block.
use Rattle.std.proofs.Common.{◌≡◌, ◌≢◌, inl, inr, ⊎_elim, ℕ, ◌+◌, ◌-◌, ◌*◌, ◌^◌, ◌<◌, ◌≤◌, List, ◌∷◌, ◌++◌, length, refl, sym, ◌∙◌, ap, subst, arith, length-append, length-set, get_or-set_other}
use Rattle.std.specs.Prelude.{slice_index, slice_set}
use Rattle.std.specs.FinSet as set
use Rattle.std.proofs.lemmas.Bool.{cases_eq, cases_lt}
use Rattle.std.proofs.lemmas.Grind.{get_or-set_at}
use Rattle.rom_model.specs.Space.{ChangesOnly}
use Rattle.rom_model.specs.Blocks.{block_of}
use Rattle.rom_model.specs.Chains.{IsWordOfBlock, times, Chain, each_word, HoldZero}
use Rattle.rom_model.specs.Rising.{IsRising}
use Rattle.rom_model.specs.Region.{IsSet}
use Rattle.rom_model.proofs.Times.{times_here, times_away, times-append}
use Rattle.rom_model.proofs.Frames.{each_same}
use Rattle.rom_model.specs.Links.{link_after, first_of}
use Rattle.rom_set.specs.Link.{MayLink, IsBlockLinked}
use Rattle.rom_set.specs.declared.walk.Place.{Place}
use Rattle.rom_model.proofs.Links.{chain_back, chain_first, chain_moved, chain_relinked, each_append}
use Rattle.rom_model.proofs.Rising.{above_next, rising_between}
use Rattle.rom_set.proofs.Rising.{from_list_between}
use Rattle.rom_set.proofs.Links.{first_other, link_within, not_link, not_link_of, beside, set_part, set_tree}
use Rattle.rom_set.proofs.Places.{place_rising, place_members}

-- what the stores of a linking leave
pub record Stored (n b key next link : ℕ) (w w' : List ℕ) : Type 0 where
  pub as_long : length w' ≡ length w
  pub first : slice_index w' (block_of n b + 0) ≡ key
  pub second : slice_index w' (block_of n b + 1) ≡ next
  pub third : slice_index w' (block_of n b + 2) ≡ 0
  pub fourth : slice_index w' (block_of n b + 3) ≡ 0
  pub linked : slice_index w' link ≡ block_of n b
  pub len : slice_index w' 7 ≡ slice_index w 7 + 1
  pub others : (k : ℕ) → (IsWordOfBlock n b k → ⊥) → k ≢ link → k ≢ 7 → slice_index w' k ≡ slice_index w k

module _ {n key at : ℕ} {place : Place} {w w' : List ℕ} (m : MayLink n key at place w) (stored : Stored n m.block key place.node (link_after n 6 1 m.is.walked.front) w w') where
  abbrev front : List ℕ
  front = m.is.walked.front

  abbrev back : List ℕ
  back = m.is.walked.back

  counts : (c : ℕ) → times c m.holds.blocks ≡ times c front + times c back
  counts c = ap (times c) m.is.walked.blocks_are ∙ times-append c front back

  -- the words of the set's blocks stay, but for the link
  block_stays : (c j : ℕ) → 0 < times c front + times c back → j < 4 → block_of n c + j ≢ link_after n 6 1 front → slice_index w' (block_of n c + j) ≡ slice_index w (block_of n c + j)
  block_stays c j some lt ne =
      let other : c ≢ m.block = λ e. absurd (omega (arith, some, counts c, ap (λ x. times x m.holds.blocks) e, m.absent)) in
      stored.others (block_of n c + j) (λ at. other (omega (arith, at))) ne (λ e. absurd (omega (arith, e)))

  behind_stays : (c j : ℕ) → 0 < times c back → j < 4 → slice_index w' (block_of n c + j) ≡ slice_index w (block_of n c + j)
  behind_stays c j some lt = block_stays c j (omega (arith, some)) lt (not_link_of n front c j lt (omega (arith, some, counts c, m.holds.are.different c)))

  before_stays : (c j : ℕ) → 0 < times c front → j < 4 → j ≢ 1 → slice_index w' (block_of n c + j) ≡ slice_index w (block_of n c + j)
  before_stays c j some lt ne = block_stays c j (omega (arith, some)) lt (not_link n front c j lt ne)

  whole : Chain n w 6 1 (front ++ back)
  whole = subst (λ cs. Chain n w 6 1 cs) m.is.walked.blocks_are m.holds.set.chain

  chain : Chain n w' 6 1 (front ++ m.block ∷ back)
  chain =
      let rest = chain_back n 6 1 w front back whole in
      let next : slice_index w' (block_of n m.block + 1) ≡ slice_index w (link_after n 6 1 front) = stored.second ∙ m.is.walked.node_is ∙ sym (chain_first n (link_after n 6 1 front) 1 w back rest) in
      chain_relinked n 6 1 w w' front back (m.block ∷ back) (λ c some e. absurd (omega (arith, e))) (λ c. omega (arith, counts c, m.holds.are.different c))
      (λ k ne is. ⊎_elim
      (λ at. stored.others k (λ inside. absurd (omega (arith, inside.0, at))) ne (λ e. absurd (omega (arith, e, at))))
      (λ x. subst (λ y. slice_index w' y ≡ slice_index w y) (sym x.2) (block_stays x.0 1 (omega (arith, x.1)) (omega arith) (λ e. ne (x.2 ∙ e))))
      is)
      (stored.linked, chain_moved n (link_after n 6 1 front) (block_of n m.block + 1) 1 w w' back next (λ c some. behind_stays c 1 some (omega arith)) rest)
      whole

  words : each_word n w' 0 (front ++ m.block ∷ back) ≡ each_word n w 0 front ++ key ∷ each_word n w 0 back
  words =
      let one = each_same n 0 w w' front (λ c some. before_stays c 0 some (omega arith) (omega arith)) in
      let two = each_same n 0 w w' back (λ c some. behind_stays c 0 some (omega arith)) in
      each_append n 0 w' front (m.block ∷ back) ∙ (λ i. one i ++ stored.first i ∷ two i)

  pad : (j : ℕ) → j < 4 → j ≢ 1 → slice_index w' (block_of n m.block + j) ≡ 0 → HoldZero n w j m.holds.blocks → HoldZero n w' j (front ++ m.block ∷ back)
  pad j lt ne new zero_before c some = elim (cases_eq m.block c) [
    | inl same ↦ subst (λ x. slice_index w' (block_of n x + j) ≡ 0) same new
    | inr other ↦
        let old : 0 < times c front + times c back = omega (arith, some, times-append c front (m.block ∷ back), times_away c m.block back other) in
        block_stays c j old lt (not_link n front c j lt ne) ∙ zero_before c (omega (arith, counts c, old))
  ]

  linked_set : IsSet n w' (front ++ m.block ∷ back) (set.insert m.holds.members key)
  linked_set =
      let above = above_next key (each_word n w 0 back) m.is.above (sym m.is.found ∙ m.missing) in
      record {
        chain = chain;
        len = omega (arith, stored.len, m.holds.set.len, ap length m.is.walked.blocks_are, length-append front back, length-append front (m.block ∷ back));
        rising = subst IsRising (sym words) (rising_between key (each_word n w 0 front) (each_word n w 0 back) m.is.walked.below above (place_rising m.holds.set m.is));
        keys_are = ap (λ ks. set.from_list ks) words ∙ from_list_between key (each_word n w 0 front) (each_word n w 0 back) ∙ ap (λ s. set.insert s key) (place_members m.holds.set m.is);
        third = pad 2 (omega arith) (omega arith) stored.third m.holds.set.third;
        fourth = pad 3 (omega arith) (omega arith) stored.fourth m.holds.set.fourth;
      }

  stays : (k : ℕ) → ((c : ℕ) → 0 < times c (front ++ m.block ∷ back) → IsWordOfBlock n c k → ⊥) → k ≢ 6 → k ≢ 7 → slice_index w' k ≡ slice_index w k
  stays k outside ne6 ne7 = stored.others k
      (outside m.block (omega (arith, times-append m.block front (m.block ∷ back), times_here m.block back)))
      (beside n front k (λ c some. outside c (omega (arith, times-append c front (m.block ∷ back), some))) ne6)
      ne7

  pub linked : IsBlockLinked m w'
  linked = record {
    holds = stored.first;
    set = linked_set;
    others = set_part n (front ++ m.block ∷ back) w w' stored.as_long stays;
    tree = set_tree n (front ++ m.block ∷ back) w w' stored.as_long stays;
  }

module _ {n key at : ℕ} {place : Place} {w : List ℕ} (m : MayLink n key at place w) where
  in_front : (c : ℕ) → times c m.is.walked.front ≤ times c m.holds.blocks
  in_front c = omega (arith, ap (times c) m.is.walked.blocks_are, times-append c m.is.walked.front m.is.walked.back)

  pub place_within : link_after n 6 1 m.is.walked.front < 16 + 6 * 2 ^ n
  place_within = link_within n m.is.walked.front (λ c some. m.holds.are.within c (omega (arith, some, in_front c)))

  pub place_beside : IsWordOfBlock n m.block (link_after n 6 1 m.is.walked.front) → ⊥
  place_beside inside =
      let j = link_after n 6 1 m.is.walked.front - block_of n m.block in
      not_link_of n m.is.walked.front m.block j (omega (arith, inside.1, inside.0)) (omega (arith, in_front m.block, m.absent)) (omega (arith, inside.0))

  -- a link elsewhere than in the block stays where the block is filled
  pub link_stays : (f : List ℕ) → ChangesOnly at 4 w f → slice_index f place.link ≡ slice_index w place.link
  link_stays f filled = elim (cases_lt place.link at) [
    | inl lt ↦ filled.before place.link lt
    | inr ge ↦ elim (cases_lt place.link (at + 4)) [
      | inl lt ↦ absurd (place_beside (omega (arith, m.here, m.is.walked.link_is, ge), omega (arith, m.here, m.is.walked.link_is, lt)))
      | inr le ↦ filled.behind place.link le
    ]
  ]

  -- the link word becomes another
  pub link_changes : slice_index w place.link ≢ at
  link_changes same =
      let rest = chain_back n 6 1 w m.is.walked.front m.is.walked.back (subst (λ cs. Chain n w 6 1 cs) m.is.walked.blocks_are m.holds.set.chain) in
      let next : slice_index w place.link ≡ first_of n m.is.walked.back = ap (λ k. slice_index w k) m.is.walked.link_is ∙ chain_first n (link_after n 6 1 m.is.walked.front) 1 w m.is.walked.back rest in
      let none : times m.block m.is.walked.back ≡ 0 = omega (arith, m.absent, ap (times m.block) m.is.walked.blocks_are, times-append m.block m.is.walked.front m.is.walked.back) in
      first_other n m.block m.is.walked.back none (sym next ∙ same ∙ m.here)

-- the block is filled, then linked, and the size is one more
pub stored_of : (n b key next at l link len : ℕ) (w f w' : List ℕ) → at ≡ block_of n b → l ≡ link → (IsWordOfBlock n b link → ⊥) → link ≢ 7 → link < length w → 7 < length w
    → slice_index f at ≡ key → slice_index f (at + 1) ≡ next → slice_index f (at + 2) ≡ 0 → slice_index f (at + 3) ≡ 0 → ChangesOnly at 4 w f
    → len ≡ slice_index (slice_set f l at) 7 → w' ≡ slice_set (slice_set f l at) 7 (len + 1) → Stored n b key next link w w'
stored_of n b key next at l link len w f w' here l_is apart not_len within long first second third fourth filled load is = record {
  as_long = ap length is ∙ length-set (slice_set f l at) 7 (len + 1) ∙ length-set f l at ∙ filled.as_long;
  first = kept 0 (omega arith) ∙ ap (λ k. slice_index f k) plain ∙ first;
  second = kept 1 (omega arith) ∙ ap (λ k. slice_index f (k + 1)) (sym here) ∙ second;
  third = kept 2 (omega arith) ∙ ap (λ k. slice_index f (k + 2)) (sym here) ∙ third;
  fourth = kept 3 (omega arith) ∙ ap (λ k. slice_index f (k + 3)) (sym here) ∙ fourth;
  linked = ap (λ x. slice_index x link) is ∙ get_or-set_other (slice_set f l at) 7 link (len + 1) 0 not_len ∙ get_or-set_at f l link at 0 (sym l_is) (omega (arith, l_is, within, filled.as_long)) ∙ here;
  len =
      let same : slice_index (slice_set f l at) 7 ≡ slice_index w 7 = get_or-set_other f l 7 at 0 (λ e. not_len (sym (e ∙ l_is))) ∙ filled.before 7 (omega (arith, here)) in
      let now : slice_index w' 7 ≡ len + 1 = ap (λ x. slice_index x 7) is ∙ get_or-set_at (slice_set f l at) 7 7 (len + 1) 0 refl (omega (arith, long, filled.as_long, length-set f l at)) in
      omega (arith, same, now, load);
  others = λ k outside ne n7. stays k ne n7 ∙ elim (cases_lt k at) [
    | inl lt ↦ filled.before k lt
    | inr ge ↦ elim (cases_lt k (at + 4)) [ inl lt ↦ absurd (outside (omega (arith, here, ge), omega (arith, here, lt))) | inr le ↦ filled.behind k le ]
  ];
}
  where
    plain : block_of n b + 0 ≡ at
    plain = omega (arith, here)

    stays : (k : ℕ) → k ≢ link → k ≢ 7 → slice_index w' k ≡ slice_index f k
    stays k ne n7 = ap (λ x. slice_index x k) is ∙ get_or-set_other (slice_set f l at) 7 k (len + 1) 0 n7 ∙ get_or-set_other f l k at 0 (λ e. ne (e ∙ l_is))

    kept : (j : ℕ) → j < 4 → slice_index w' (block_of n b + j) ≡ slice_index f (block_of n b + j)
    kept j lt = stays (block_of n b + j) (λ e. apart (omega (arith, e), omega (arith, e, lt))) (λ e. absurd (omega (arith, e)))
