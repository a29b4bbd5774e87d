-- The set with one block fewer.
use Rattle.std.proofs.Common.{◌≡◌, ◌≢◌, ⊎_elim, ℕ, ◌+◌, ◌-◌, ◌*◌, ◌^◌, ◌<◌, List, ◌∷◌, ◌++◌, length, refl, sym, ◌∙◌, ap, subst, arith, length-append, length-set, get_or-set_other}
use Rattle.std.specs.Prelude.{slice_index, slice_set}
use Rattle.std.specs.FinSet as set
use Rattle.std.proofs.lemmas.Grind.{get_or-set_at}
use Rattle.rom_model.specs.Blocks.{block_of}
use Rattle.rom_model.specs.Chains.{IsWordOfBlock, times, Chain, each_word, HoldZero}
use Rattle.rom_model.specs.Rising.{IsRising}
use Rattle.rom_model.specs.Region.{IsSet}
use Rattle.rom_model.proofs.Times.{times_here, times_more, times-append}
use Rattle.rom_model.proofs.Frames.{each_same}
use Rattle.rom_model.specs.Links.{link_after, first_of}
use Rattle.rom_set.specs.Link.{MayUnlink, IsBlockUnlinked}
use Rattle.rom_set.specs.declared.walk.Place.{Place}
use Rattle.rom_model.proofs.Links.{chain_back, chain_first, chain_moved, chain_relinked, each_append}
use Rattle.rom_model.proofs.Rising.{rising_back, below_before, above_behind, rising_without}
use Rattle.rom_set.proofs.Rising.{from_list_without}
use Rattle.rom_set.proofs.Links.{first_other, link_within, not_link, not_link_of, beside, set_part, set_tree}

-- what the stores of an unlinking leave
pub record Cut (n b link : ℕ) (w w' : List ℕ) : Type 0 where
  pub as_long : length w' ≡ length w
  pub linked : slice_index w' link ≡ slice_index w (block_of n b + 1)
  pub len : slice_index w' 7 ≡ slice_index w 7 - 1
  pub others : (k : ℕ) → k ≢ link → k ≢ 7 → slice_index w' k ≡ slice_index w k

module _ {n : ℕ} {place : Place} {w : List ℕ} (m : MayUnlink n place w) where
  counts : (c : ℕ) → times c m.holds.blocks ≡ times c m.front + times c (m.block ∷ m.back)
  counts c = ap (times c) m.blocks_are ∙ times-append c m.front (m.block ∷ m.back)

  pub link_in_region : link_after n 6 1 m.front < 16 + 6 * 2 ^ n
  link_in_region = link_within n m.front (λ c some. m.holds.are.within c (omega (arith, some, counts c)))

  pub block_within : m.block < 2 ^ n
  block_within = m.holds.are.within m.block (omega (arith, counts m.block, times_here m.block m.back))

  none_before : times m.block m.front ≡ 0
  none_before = omega (arith, counts m.block, times_here m.block m.back, m.holds.are.different m.block)

  -- the link word becomes another
  pub link_changes : slice_index w place.link ≢ slice_index w (place.node + 1)
  link_changes same =
      let rest = chain_back n 6 1 w m.front (m.block ∷ m.back) (subst (λ cs. Chain n w 6 1 cs) m.blocks_are m.holds.set.chain) in
      let next : slice_index w (place.node + 1) ≡ first_of n m.back = ap (λ k. slice_index w (k + 1)) m.node_is ∙ chain_first n (block_of n m.block + 1) 1 w m.back rest.1 in
      let here : slice_index w place.link ≡ block_of n m.block = ap (λ k. slice_index w k) m.link_is ∙ rest.0 in
      first_other n m.block m.back (omega (arith, counts m.block, times_here m.block m.back, m.holds.are.different m.block)) (sym next ∙ sym same ∙ here)

  pub some_len : 0 < slice_index w 7
  some_len = omega (arith, m.holds.set.len, ap length m.blocks_are, length-append m.front (m.block ∷ m.back))

  module _ {w' : List ℕ} (cut : Cut n m.block (link_after n 6 1 m.front) w w') where
    block_stays : (c j : ℕ) → block_of n c + j ≢ link_after n 6 1 m.front → slice_index w' (block_of n c + j) ≡ slice_index w (block_of n c + j)
    block_stays c j ne = cut.others (block_of n c + j) ne (λ e. absurd (omega (arith, e)))

    behind_stays : (c j : ℕ) → 0 < times c m.back → j < 4 → slice_index w' (block_of n c + j) ≡ slice_index w (block_of n c + j)
    behind_stays c j some lt = block_stays c j (not_link_of n m.front c j lt (omega (arith, some, counts c, times_more c m.block m.back, m.holds.are.different c)))

    whole : Chain n w 6 1 (m.front ++ m.block ∷ m.back)
    whole = subst (λ cs. Chain n w 6 1 cs) m.blocks_are m.holds.set.chain

    chain : Chain n w' 6 1 (m.front ++ m.back)
    chain =
        let rest = chain_back n 6 1 w m.front (m.block ∷ m.back) whole in
        chain_relinked n 6 1 w w' m.front (m.block ∷ m.back) m.back (λ c some e. absurd (omega (arith, e))) (λ c. omega (arith, counts c, m.holds.are.different c))
        (λ k ne is. ⊎_elim
        (λ at. cut.others k ne (λ e. absurd (omega (arith, e, at))))
        (λ x. subst (λ y. slice_index w' y ≡ slice_index w y) (sym x.2) (block_stays x.0 1 (λ e. ne (x.2 ∙ e))))
        is)
        (chain_moved n (block_of n m.block + 1) (link_after n 6 1 m.front) 1 w w' m.back cut.linked (λ c some. behind_stays c 1 some (omega arith)) rest.1)
        whole

    abbrev key : ℕ
    key = slice_index w (block_of n m.block + 0)

    words : each_word n w' 0 (m.front ++ m.back) ≡ each_word n w 0 m.front ++ each_word n w 0 m.back
    words =
        let one = each_same n 0 w w' m.front (λ c some. block_stays c 0 (not_link n m.front c 0 (omega arith) (omega arith))) in
        let two = each_same n 0 w w' m.back (λ c some. behind_stays c 0 some (omega arith)) in
        each_append n 0 w' m.front m.back ∙ (λ i. one i ++ two i)

    old_words : each_word n w 0 m.holds.blocks ≡ each_word n w 0 m.front ++ key ∷ each_word n w 0 m.back
    old_words = ap (λ cs. each_word n w 0 cs) m.blocks_are ∙ each_append n 0 w m.front (m.block ∷ m.back)

    rising : IsRising (each_word n w 0 m.front ++ key ∷ each_word n w 0 m.back)
    rising = subst IsRising old_words m.holds.set.rising

    pad : (j : ℕ) → j < 4 → j ≢ 1 → HoldZero n w j m.holds.blocks → HoldZero n w' j (m.front ++ m.back)
    pad j lt ne zero_before c some = block_stays c j (not_link n m.front c j lt ne) ∙ zero_before c (omega (arith, some, counts c, times-append c m.front m.back, times_more c m.block m.back))

    unlinked_set : IsSet n w' (m.front ++ m.back) (set.remove m.holds.members key)
    unlinked_set =
        let fewer = rising_without key (each_word n w 0 m.front) (each_word n w 0 m.back) rising in
        let below = below_before key (each_word n w 0 m.front) (each_word n w 0 m.back) rising in
        let above = above_behind key (each_word n w 0 m.back) (rising_back (each_word n w 0 m.front) (key ∷ each_word n w 0 m.back) rising) in
        record {
          chain = chain;
          len = omega (arith, cut.len, m.holds.set.len, ap length m.blocks_are, length-append m.front (m.block ∷ m.back), length-append m.front m.back);
          rising = subst IsRising (sym words) fewer;
          keys_are = ap (λ ks. set.from_list ks) words ∙ from_list_without key (each_word n w 0 m.front) (each_word n w 0 m.back) below above fewer
              ∙ ap (λ ks. set.remove (set.from_list ks) key) (sym old_words) ∙ ap (λ s. set.remove s key) m.holds.set.keys_are;
          third = pad 2 (omega arith) (omega arith) m.holds.set.third;
          fourth = pad 3 (omega arith) (omega arith) m.holds.set.fourth;
        }

    stays : (k : ℕ) → ((c : ℕ) → 0 < times c m.holds.blocks → IsWordOfBlock n c k → ⊥) → k ≢ 6 → k ≢ 7 → slice_index w' k ≡ slice_index w k
    stays k outside ne6 ne7 = cut.others k (beside n m.front k (λ c some. outside c (omega (arith, counts c, some))) ne6) ne7

    pub unlinked : IsBlockUnlinked m w'
    unlinked = record {
      set = unlinked_set;
      kept = λ j lt. block_stays m.block j (not_link_of n m.front m.block j lt none_before);
      others = set_part n m.holds.blocks w w' cut.as_long stays;
      tree = set_tree n m.holds.blocks w w' cut.as_long stays;
    }

pub len_stays : (w : List ℕ) (l v : ℕ) {link : ℕ} → link ≢ 7 → l ≡ link → slice_index (slice_set w l v) 7 ≡ slice_index w 7
len_stays w l v ne l_is = get_or-set_other w l 7 v 0 (λ e. ne (sym (e ∙ l_is)))

-- the link goes past the block, and the size is one less
pub cut_of : (n b node l link next len : ℕ) (w w' : List ℕ) → node ≡ block_of n b → l ≡ link → link ≢ 7 → link < length w → 7 < length w
    → next ≡ slice_index w (node + 1) → len ≡ slice_index (slice_set w l next) 7 → w' ≡ slice_set (slice_set w l next) 7 (len - 1) → Cut n b link w w'
cut_of n b node l link next len w w' here l_is not_len within long load loaded is = record {
  as_long = ap length is ∙ length-set (slice_set w l next) 7 (len - 1) ∙ length-set w l next;
  linked = ap (λ x. slice_index x link) is ∙ get_or-set_other (slice_set w l next) 7 link (len - 1) 0 not_len ∙ get_or-set_at w l link next 0 (sym l_is) (omega (arith, l_is, within)) ∙ load ∙ ap (λ k. slice_index w (k + 1)) here;
  len =
      let same = len_stays w l next not_len l_is in
      let now : slice_index w' 7 ≡ len - 1 = ap (λ x. slice_index x 7) is ∙ get_or-set_at (slice_set w l next) 7 7 (len - 1) 0 refl (omega (arith, long, length-set w l next)) in
      omega (arith, same, now, loaded);
  others = λ k ne n7. ap (λ x. slice_index x k) is ∙ get_or-set_other (slice_set w l next) 7 k (len - 1) 0 n7 ∙ get_or-set_other w l k next 0 (λ e. ne (e ∙ l_is));
}
