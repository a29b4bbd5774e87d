-- The inspection of a region: its parts in their order, each a relation between what was reached before it
-- and what it comes to, which is what is reached after it, or its first break.
use Rattle.std.specs.Prelude.{◌≡◌, ◌≢◌, ◌⊎◌, ℕ, zero, suc, ◌+◌, ◌-◌, ◌^◌, ◌<◌, max, Bool, true, ◌&&◌, nat_lt, nat_le, List, [], ◌∷◌, length, Option, Some, None, Result, Ok, Err, slice_index}
use Rattle.rom_model.specs.History.{LAST_COUNT}
use Rattle.rom_model.specs.Blocks.{AreWords}
use Rattle.rom_model.specs.Chains.{times}
use Rattle.rom_model.specs.Tests.{Test, test, tested, is_word, are_zero}
use Rattle.rom_model.specs.Parts.{Then}
use Rattle.rom_model.specs.declared.unfit.Break.{Break}
use Rattle.rom_model.specs.declared.unfit.Rule.TheVariants as rule
use Rattle.rom_model.specs.declared.unfit.Unfit.{Unfit}
use Rattle.rom_model.specs.declared.unfit.Unfit.TheVariants.{Malformed, Old, OutOfMemory}
use Rattle.rom_block.specs.Taken.{DiffersFirst}
use Rattle.rom_order_region.specs.Tree.{Tree, Leaf, Node, height}
use Rattle.rom_order_region.specs.Nodes.{node_at}
use Rattle.rom_order_region.specs.Region.{taken_pairs}

-- what was reached: a subtree, and the blocks of all nodes so far, the last first
pub record Sub : Type 0 where
  pub tree : Tree
  pub seen : List ℕ

-- The link at that offset leads to this block of two units, which was not reached before.
pub record LeadsToNode (n : ℕ) (words seen : List ℕ) (link b : ℕ) : Type 0 where
  pub here : slice_index words link ≡ node_at n b
  pub most : b < 2 ^ (n - 1)
  pub fresh : times b seen ≡ 0

-- following a link that is not 0
abbrev pub FollowsChild : ℕ → List ℕ → List ℕ → ℕ → Result ℕ Break → Type 0
FollowsChild n words seen link (Ok b) = LeadsToNode n words seen link b
FollowsChild n words seen link (Err e) = ((b : ℕ) → LeadsToNode n words seen link b → ⊥) × (e ≡ record { offset = link; rule = rule.Link })

-- above that key, if there is one
abbrev pub is_over : Option ℕ → ℕ → Bool
is_over None key = true
is_over (Some low) key = nat_lt low key

-- below that key, if there is one
abbrev pub is_under : Option ℕ → ℕ → Bool
is_under None key = true
is_under (Some high) key = nat_lt key high

-- the zeros of a node, and then its key
abbrev pub entry_tests : ℕ → List ℕ → Option ℕ → Option ℕ → ℕ → List Test
entry_tests n words low high b =
    is_word words (node_at n b + 5) rule.Pad 0 ∷ is_word words (node_at n b + 6) rule.Pad 0 ∷ is_word words (node_at n b + 7) rule.Pad 0
    ∷ test (node_at n b) rule.Order (is_over low (slice_index words (node_at n b)) && is_under high (slice_index words (node_at n b))) ∷ []

-- after the two subtrees of a node: its height, and then the balance
abbrev pub height_tests : ℕ → List ℕ → ℕ → Tree → Tree → List Test
height_tests n words b l r = is_word words (node_at n b + 4) rule.Count (max (height l) (height r) + 1) ∷ test (node_at n b + 4) rule.Ends (nat_le (height l) (height r + 1) && nat_le (height r) (height l + 1)) ∷ []

-- the tree with that node over the two
abbrev pub node_over : ℕ → List ℕ → ℕ → Tree → Tree → Tree
node_over n words b l r = Node b (slice_index words (node_at n b)) (slice_index words (node_at n b + 1)) l r

-- What the walk of a subtree comes to, so many levels above the one where a link must be 0.
abbrev pub Subtree : ℕ → ℕ → List ℕ → List ℕ → ℕ → Option ℕ → Option ℕ → Result Sub Break → Type 0
Subtree zero n words seen link low high r = r ≡ tested (is_word words link rule.Link 0 ∷ []) record { tree = Leaf; seen = seen }
Subtree (suc d) n words seen link low high r =
    ((slice_index words link ≡ 0) × (r ≡ Ok record { tree = Leaf; seen = seen }))
    ⊎ ((slice_index words link ≢ 0)
    × Then (FollowsChild n words seen link) (λ b.
    Then (λ s. s ≡ tested (entry_tests n words low high b) (b ∷ seen)) (λ reached.
    Then (Subtree d n words reached (node_at n b + 2) low (Some (slice_index words (node_at n b)))) (λ left.
    Then (Subtree d n words left.seen (node_at n b + 3) (Some (slice_index words (node_at n b))) high) (λ right s.
    s ≡ tested (height_tests n words b left.tree right.tree) record { tree = node_over n words b left.tree right.tree; seen = right.seen })))) r)

-- the root words
abbrev pub index_root_tests : List ℕ → List Test
index_root_tests words = is_word words 0 rule.Root 3 ∷ is_word words 1 rule.Root 1 ∷ test 2 rule.Root (nat_le (slice_index words 2) LAST_COUNT) ∷ are_zero words 5 12 rule.Root

-- what the tests of the root words come to
abbrev pub IndexRoot : List ℕ → Result (Unit {0}) Break → Type 0
IndexRoot words r = r ≡ tested {A = Unit {0}} (index_root_tests words) tt

-- Above so many levels no node may stand. (It stays shut, so that no goal takes the levels apart.)
unfoldable pub most_levels : ℕ
most_levels = 25

-- the nodes, whose number is the size
abbrev pub Nodes : ℕ → List ℕ → Result Sub Break → Type 0
Nodes n words = Then (Subtree most_levels n words [] 3 None None) (λ sub r. r ≡ tested (is_word words 4 rule.Count (length sub.seen) ∷ []) sub)

-- the words of the allocator's tree, of which the blocks that were reached are taken
abbrev pub IndexAllocatorTree : ℕ → List ℕ → Sub → Result Sub Break → Type 0
IndexAllocatorTree n words sub (Ok found) = (found ≡ sub) × AreWords n (taken_pairs n sub.seen) words
IndexAllocatorTree n words sub (Err e) = (e.rule ≡ rule.Tree) × DiffersFirst n (taken_pairs n sub.seen) words e.offset

-- All parts.
abbrev pub IndexInspection : ℕ → List ℕ → Result Sub Break → Type 0
IndexInspection n words = Then (IndexRoot words) (λ none. Then (Nodes n words) (λ sub. IndexAllocatorTree n words sub))

-- The first test of the inspection that does not hold.
abbrev pub FirstIndexBreak : ℕ → List ℕ → Break → Type 0
FirstIndexBreak n words e = IndexInspection n words (Err e)

-- Words are not accepted for their first break; there was no version before.
abbrev pub RejectsIndex : ℕ → List ℕ → Unfit → Type 0
RejectsIndex n words (Malformed offset rule) = FirstIndexBreak n words (record { offset = offset; rule = rule })
RejectsIndex n words Old = ⊥
RejectsIndex n words OutOfMemory = ⊥
