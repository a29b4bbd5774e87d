-- The words once nodes are linked one after another.
use Rattle.std.proofs.Common.{◌≡◌, ◌≢◌, ℕ, zero, suc, ◌+◌, ◌<◌, ◌≤◌, List, [], ◌∷◌, map, drop, length, get_or, refl, sym, ◌∙◌, ap, subst, arith, length-set, get_or-set_other}
use Rattle.std.specs.Prelude.{slice_index, slice_set}
use Rattle.std.proofs.lemmas.List.{at_drop_more, at_drop_all}
use Rattle.std.proofs.lemmas.Grind.{get_or-set_at}
use Rattle.rom_model.specs.Blocks.{block_of, region_len}
use Rattle.rom_model.specs.Chains.{times, Chain}
use Rattle.rom_model.specs.Region.{buckets}
use Rattle.rom_model.proofs.Times.{times_here, times_more}
use Rattle.rom_heap.specs.Node.{head_of, BeginAtBlocks, ChangesLinks}
use Rattle.rom_heap.specs.declared.renew.node.Node.{Node}
use Rattle.rom_heap.proofs.Heads.{head_within, head_apart}

-- from that link on the nodes that begin there are linked
pub relinked : List ℕ → ℕ → List ℕ → List ℕ
relinked w link [] = slice_set w link 0
relinked w link (at ∷ rest) = relinked (slice_set w link at) (at + 2) rest

pub length-relinked : (w : List ℕ) (link : ℕ) (rest : List ℕ) → length (relinked w link rest) ≡ length w
unfolding relinked
length-relinked w link [] = length-set w link 0
length-relinked w link (at ∷ rest) = length-relinked (slice_set w link at) (at + 2) rest ∙ length-set w link at

-- where the nodes begin
abbrev pub starts : List Node → List ℕ
starts nodes = map (λ node. node.at) nodes

-- The linking came to the node of that index: what is left of it makes of the words what all of it makes.
pub record LinkedTo (old : List ℕ) (head : ℕ) (nodes : List Node) (now : List ℕ) (link k : ℕ) : Type 0 where
  pub left : relinked now link (starts (drop k nodes)) ≡ relinked old head (starts nodes)

pub at_first : (old : List ℕ) (head : ℕ) (nodes : List Node) (link : ℕ) → link ≡ head → LinkedTo old head nodes old link 0
at_first old head nodes link is = record { left = ap (λ l. relinked old l (starts nodes)) is }

module _ {old : List ℕ} {head : ℕ} {nodes : List Node} {now : List ℕ} {link k : ℕ} (x : LinkedTo old head nodes now link k) where
  pub one_further : (d : Node) → k < length nodes → (next : List ℕ) → next ≡ slice_set now link (get_or nodes k d).at → LinkedTo old head nodes next ((get_or nodes k d).at + 2) (k + 1)
  unfolding relinked
  one_further d lt next is = record {
    left =
        ap (λ w. relinked w ((get_or nodes k d).at + 2) (starts (drop (k + 1) nodes))) is
        ∙ sym (at_drop_more (λ ns. relinked now link (starts ns)) nodes k d lt) ∙ x.left;
  }

  pub at_last : length nodes ≤ k → (new : List ℕ) → new ≡ slice_set now link 0 → new ≡ relinked old head (starts nodes)
  unfolding relinked
  at_last le new is = is ∙ sym (at_drop_all (λ ns. relinked now link (starts ns)) nodes k le) ∙ x.left

module _ (n : ℕ) where
  abbrev begins : List ℕ → List ℕ
  begins bs = map (block_of n) bs

  -- no other word differs
  pub link_others : (w : List ℕ) (link : ℕ) (bs : List ℕ) (k : ℕ) → k ≢ link → ((b : ℕ) → 0 < times b bs → k ≢ block_of n b + 2) → slice_index (relinked w link (begins bs)) k ≡ slice_index w k
  unfolding relinked
  link_others w link [] k ne apart = get_or-set_other w link k 0 0 ne
  link_others w link (b ∷ bs) k ne apart =
      link_others (slice_set w link (block_of n b)) (block_of n b + 2) bs k (apart b (omega (arith, times_here b bs))) (λ c some. apart c (omega (arith, some, times_more c b bs)))
      ∙ get_or-set_other w link k (block_of n b) 0 ne

  -- they are a chain, where they differ
  pub link_chain : (w : List ℕ) (link : ℕ) (bs : List ℕ) → link < length w → ((b : ℕ) → 0 < times b bs → block_of n b + 4 ≤ length w) → ((b : ℕ) → times b bs ≤ 1) → ((b : ℕ) → 0 < times b bs → link ≢ block_of n b + 2) → Chain n (relinked w link (begins bs)) link 2 bs
  unfolding relinked
  link_chain w link [] lt within once apart = get_or-set_at w link link 0 0 refl lt
  link_chain w link (b ∷ bs) lt within once apart =
      let here : 0 < times b (b ∷ bs) = omega (arith, times_here b bs) in
      let next = slice_set w link (block_of n b) in
      let long : length next ≡ length w = length-set w link (block_of n b) in (
        link_others next (block_of n b + 2) bs link (apart b here) (λ c some. apart c (omega (arith, some, times_more c b bs))) ∙ get_or-set_at w link link (block_of n b) 0 refl lt,
        link_chain next (block_of n b + 2) bs
            (omega (arith, within b here, long))
            (λ c some. omega (arith, within c (omega (arith, some, times_more c b bs)), long))
            (λ c. omega (arith, once c, times_more c b bs))
            (λ c some e. let same : b ≡ c = omega (arith, e) in absurd (omega (arith, some, ap (λ x. times x bs) same, once b, times_here b bs))),
      )

-- where a node begins
node_at : (n : ℕ) (nodes : List Node) (blocks : List ℕ) → starts nodes ≡ map (block_of n) blocks → (k : ℕ) (d : Node) → k < length nodes → (b : ℕ) × (0 < times b blocks) × ((get_or nodes k d).at ≡ block_of n b)
node_at n [] blocks e k d lt = absurd (omega (arith, lt))
node_at n (x ∷ xs) [] e k d lt = absurd (omega (arith, ap length e))
node_at n (x ∷ xs) (b ∷ bs) e zero d lt = (b, omega (arith, times_here b bs), ap (λ ys. get_or ys 0 0) e)
node_at n (x ∷ xs) (b ∷ bs) e (suc k) d lt =
    let rest : starts xs ≡ map (block_of n) bs = cc in
    let y = node_at n xs bs rest k d (omega (arith, lt)) in
    (y.0, omega (arith, y.1, times_more y.0 b bs), y.2)

module _ {n : ℕ} {nodes : List Node} {blocks : List ℕ} (are : BeginAtBlocks n nodes blocks) where
  pub node_within : (k : ℕ) (d : Node) → k < length nodes → (get_or nodes k d).at + 4 ≤ region_len n
  node_within k d lt = let x = node_at n nodes blocks are.begin k d lt in omega (arith, x.2, are.blocks_are.are.within x.0 x.1)

  -- what the nodes' linking leaves
  module _ {i : ℕ} (old new : List ℕ) (le : 4 ≤ n) (lt : i < buckets n) (sized : length old ≡ region_len n) (is : new ≡ relinked old (head_of n i) (starts nodes)) where
    links : new ≡ relinked old (head_of n i) (map (block_of n) blocks)
    links = is ∙ ap (relinked old (head_of n i)) are.begin

    pub linked : Chain n new (head_of n i) 2 blocks
    linked = subst (λ w. Chain n w (head_of n i) 2 blocks) (sym links) (link_chain n old (head_of n i) blocks
        (omega (arith, head_within n i le lt, sized))
        (λ b some. omega (arith, are.blocks_are.are.within b some, sized))
        are.blocks_are.are.different
        (λ b some. head_apart n i b 2 le lt (are.blocks_are.behind b some)))

    pub changes : ChangesLinks n i blocks old new
    changes = record {
      as_long = ap length links ∙ length-relinked old (head_of n i) (map (block_of n) blocks);
      others = λ k ne apart. ap (λ w. slice_index w k) links ∙ link_others n old (head_of n i) blocks k ne apart;
    }
