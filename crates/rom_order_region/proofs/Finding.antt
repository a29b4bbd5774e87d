-- A walk down a tree, step by step.
use Rattle.std.proofs.Common.{◌≡◌, ℕ, ◌+◌, ◌<◌, ◌≤◌, List, refl, sym, ◌∙◌, ap, subst, arith}
use Rattle.std.specs.Prelude.{slice_index, nat_lt, if◌then◌else◌, Some}
use Rattle.rom_model.specs.Space.{ShownSpace, Counts, Looks}
use Rattle.rom_model.specs.Chains.{times}
use Rattle.rom_order_region.specs.Tree.{Tree, Leaf, Node, entries, blocks, block_at_key}
use Rattle.rom_order_region.specs.Nodes.{node_at, IsTree, HasTree, level_at}
use Rattle.rom_order_region.specs.Keys.{EntriesRise}
use Rattle.rom_order_region.specs.Find.{IsFound}
use Rattle.rom_order_region.proofs.Choice.{of_below}
use Rattle.rom_order_region.proofs.Frame.{level_is, count_top, count_left, count_right}
use Rattle.rom_order_region.proofs.Sorted.{parts}
use Rattle.rom_order_region.proofs.Placed.{find_left, find_here, find_right}
use Rattle.rom_order_region.proofs.Detaching.{left_sub, right_sub, read_key}

-- what a search finds
abbrev pub FoundBy : ℕ → List ℕ → ℕ → ℕ → ℕ → Type 0
FoundBy n w top key node = (t : Tree) → IsTree n w top t → EntriesRise (entries t) → IsFound n w t key node

block_three : (k j : ℕ) (l r : Tree) (c u b : ℕ) → (k < j → block_at_key k l ≡ b) → (j < k → block_at_key k r ≡ b) → (k ≡ j → c ≡ b) → block_at_key k (Node c j u l r) ≡ b
block_three k j l r c u b p q s = of_below (λ x. x ≡ b) k j (block_at_key k l) (if nat_lt j k then block_at_key k r else c) p (λ ge. of_below (λ x. x ≡ b) j k (block_at_key k r) c q (λ le. s (omega arith)))

pub found_empty : {n top : ℕ} (w : List ℕ) (key : ℕ) → top ≡ 0 → FoundBy n w top key 0
found_empty w key none Leaf is rises = record { none = λ _. refl; here = λ some. absurd (some refl); among = λ some. absurd (some refl); some = λ some. absurd (some refl) }
found_empty w key none (Node c j u l r) is rises = absurd (omega (arith, none, is.at_is))

module _ {n top there : ℕ} (w : List ℕ) (key : ℕ) (linked : top ≡ 0 → ⊥) (there_is : there ≡ slice_index w top) where
  pub found_here : there ≡ key → FoundBy n w top key top
  found_here same Leaf is rises = absurd (linked is.at_is)
  found_here same (Node c j u l r) is rises =
      let p = parts (entries l) (j, u) (entries r) rises in
      let e : key ≡ j = omega (arith, same, there_is, read_key is) in
      let block : block_at_key key (Node c j u l r) ≡ c = block_three key j l r c u c (λ lt. absurd (omega (arith, lt, e))) (λ lt. absurd (omega (arith, lt, e))) (λ _. refl) in
      record {
        none = λ none. absurd (linked none);
        here = λ _. is.at_is ∙ ap (λ b. node_at n b) (sym block);
        among = λ _. subst (λ b. 0 < times b (blocks (Node c j u l r))) (sym block) (count_top c j u l r);
        some = λ _. find_here key j u (entries l) (entries r) p e ∙ ap (λ x. Some x) (sym (ap (λ a. slice_index w (a + 1)) is.at_is ∙ is.stands.0.value_is));
      }

  pub found_left : (left node : ℕ) → left ≡ slice_index w (top + 2) → key < there → FoundBy n w left key node → FoundBy n w top key node
  found_left left node left_is lt found Leaf is rises = absurd (linked is.at_is)
  found_left left node left_is lt found (Node c j u l r) is rises =
      let p = parts (entries l) (j, u) (entries r) rises in
      let less : key < j = omega (arith, lt, there_is, read_key is) in
      let f = found l (left_sub is left left_is) p.front in
      let same = find_left key j u (entries l) (entries r) p less in
      let block : block_at_key key (Node c j u l r) ≡ block_at_key key l = block_three key j l r c u (block_at_key key l) (λ _. refl) (λ gt. absurd (omega (arith, gt, less))) (λ e. absurd (omega (arith, e, less))) in
      record {
        none = λ none. same ∙ f.none none;
        here = λ some. f.here some ∙ ap (λ b. node_at n b) (sym block);
        among = λ some. subst (λ b. 0 < times b (blocks (Node c j u l r))) (sym block) (omega (arith, f.among some, count_left (block_at_key key l) c j u l r));
        some = λ some. same ∙ f.some some;
      }

  pub found_right : (right node : ℕ) → right ≡ slice_index w (top + 3) → there < key → FoundBy n w right key node → FoundBy n w top key node
  found_right right node right_is gt found Leaf is rises = absurd (linked is.at_is)
  found_right right node right_is gt found (Node c j u l r) is rises =
      let p = parts (entries l) (j, u) (entries r) rises in
      let more : j < key = omega (arith, gt, there_is, read_key is) in
      let f = found r (right_sub is right right_is) p.back in
      let same = find_right key j u (entries l) (entries r) p more in
      let block : block_at_key key (Node c j u l r) ≡ block_at_key key r = block_three key j l r c u (block_at_key key r) (λ lt. absurd (omega (arith, lt, more))) (λ _. refl) (λ e. absurd (omega (arith, e, more))) in
      record {
        none = λ none. same ∙ f.none none;
        here = λ some. f.here some ∙ ap (λ b. node_at n b) (sym block);
        among = λ some. subst (λ b. 0 < times b (blocks (Node c j u l r))) (sym block) (omega (arith, f.among some, count_right (block_at_key key r) c j u l r));
        some = λ some. same ∙ f.some some;
      }

-- a tree that is not empty has a level
pub level_some : {n top : ℕ} (w : List ℕ) → (top ≡ 0 → ⊥) → HasTree n w top → 1 ≤ level_at w top
level_some {n} {top} w some h = go h.tree h.is
  where
    go : (t : Tree) → IsTree n w top t → 1 ≤ level_at w top
    go Leaf is = absurd (some is.at_is)
    go (Node c j u l r) is = omega (arith, level_is n top w (Node c j u l r) is.at_is is.stands)

-- two loads and a walk
module _ {M : Type 0} {shown : ShownSpace M} where
  pub looks_loaded : (k : ℕ) {old new : M} → 1 ≤ k → shown.image new ≡ shown.image old → Counts shown 1 0 old new → Looks shown k old new
  looks_loaded k le same counts = record {
    image = same;
    costs = record {
      loads_later = λ told. omega (arith, counts.loads_made told);
      most_loads = λ told. omega (arith, counts.loads_made told);
      stores_later = λ told. omega (arith, counts.stores_made told);
      most_stores = λ told. omega (arith, counts.stores_made told);
      limit = counts.limit;
      rest = counts.rest;
    };
  }
