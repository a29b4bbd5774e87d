-- A node put over two trees.
use Rattle.std.proofs.Common.{◌≡◌, ◌≢◌, inl, inr, ℕ, ◌+◌, ◌<◌, ◌≤◌, max, List, [], ◌∷◌, length, refl, sym, ◌∙◌, ap, arith, length-set, get_or-set_other}
use Rattle.std.specs.Prelude.{slice_index, slice_set}
use Rattle.std.proofs.lemmas.Bool.{cases_eq}
use Rattle.std.proofs.lemmas.Grind.{get_or-set_at}
use Rattle.rom_model.specs.Blocks.{IsOrder, region_len}
use Rattle.rom_model.specs.Chains.{times}
use Rattle.rom_model.proofs.Times.{times_here, times_one}
use Rattle.rom_order_region.specs.Tree.{Tree, Node, height}
use Rattle.rom_order_region.specs.Nodes.{node_at, ChangesNodes, IsFork, BuildsTree}
use Rattle.rom_order_region.proofs.Members.{count}
use Rattle.rom_order_region.proofs.Frame.{fork_within, stands_apart, not_left, not_right}

-- three words of a node were stored
pub linked : (w : List ℕ) (at left right high : ℕ) → List ℕ
linked w at left right high = slice_set (slice_set (slice_set w (at + 2) left) (at + 3) right) (at + 4) high

module _ (w : List ℕ) (at left right high : ℕ) (within : at + 8 ≤ length w) where
  linked_long : length (linked w at left right high) ≡ length w
  unfolding linked
  linked_long = length-set (slice_set (slice_set w (at + 2) left) (at + 3) right) (at + 4) high ∙ length-set (slice_set w (at + 2) left) (at + 3) right ∙ length-set w (at + 2) left

  linked_other : (k : ℕ) → k ≢ at + 2 → k ≢ at + 3 → k ≢ at + 4 → slice_index (linked w at left right high) k ≡ slice_index w k
  unfolding linked
  linked_other k two three four =
      get_or-set_other (slice_set (slice_set w (at + 2) left) (at + 3) right) (at + 4) k high 0 four ∙ get_or-set_other (slice_set w (at + 2) left) (at + 3) k right 0 three ∙ get_or-set_other w (at + 2) k left 0 two

  linked_two : slice_index (linked w at left right high) (at + 2) ≡ left
  unfolding linked
  linked_two =
      get_or-set_other (slice_set (slice_set w (at + 2) left) (at + 3) right) (at + 4) (at + 2) high 0 (λ e. absurd (omega (arith, e))) ∙ get_or-set_other (slice_set w (at + 2) left) (at + 3) (at + 2) right 0 (λ e. absurd (omega (arith, e)))
      ∙ get_or-set_at w (at + 2) (at + 2) left 0 refl (omega arith)

  linked_three : slice_index (linked w at left right high) (at + 3) ≡ right
  unfolding linked
  linked_three =
      get_or-set_other (slice_set (slice_set w (at + 2) left) (at + 3) right) (at + 4) (at + 3) high 0 (λ e. absurd (omega (arith, e)))
      ∙ get_or-set_at (slice_set w (at + 2) left) (at + 3) (at + 3) right 0 refl (omega (arith, length-set w (at + 2) left))

  linked_four : slice_index (linked w at left right high) (at + 4) ≡ high
  unfolding linked
  linked_four = get_or-set_at (slice_set (slice_set w (at + 2) left) (at + 3) right) (at + 4) (at + 4) high 0 refl (omega (arith, length-set (slice_set w (at + 2) left) (at + 3) right, length-set w (at + 2) left))

pub joined : {n : ℕ} {w : List ℕ} {top left right b k v : ℕ} {l r : Tree} (w' : List ℕ) (high : ℕ) → IsOrder n → length w ≡ region_len n → (f : IsFork n w top left right b k v l r) → high ≡ max (height l) (height r) + 1
    → w' ≡ slice_set (slice_set (slice_set w (top + 2) left) (top + 3) right) (top + 4) high → BuildsTree n (b ∷ []) w w' (Node b k v l r)
unfolding linked
joined {n} {w} {top} {left} {right} {b} {k} {v} {l} {r} w' high order sized f high_is is =
    let at = node_at n b in
    let within : at + 8 ≤ length w = omega (arith, fork_within f order, f.top_is, sized) in
    let same : w' ≡ linked w at left right high = is ∙ ap (λ t. linked w t left right high) f.top_is in
    let changes : ChangesNodes n (b ∷ []) w w' = record {
      as_long = ap length same ∙ linked_long w at left right high within;
      others = λ j outside. ap (λ x. slice_index x j) same ∙ linked_other w at left right high within j
          (λ e. outside b (omega (arith, times_here b [])) record { least = omega (arith, e); most = omega (arith, e) })
          (λ e. outside b (omega (arith, times_here b [])) record { least = omega (arith, e); most = omega (arith, e) })
          (λ e. outside b (omega (arith, times_here b [])) record { least = omega (arith, e); most = omega (arith, e) });
    } in
    let other : (j : ℕ) → j ≢ at + 2 → j ≢ at + 3 → j ≢ at + 4 → slice_index w' j ≡ slice_index w j = λ j two three four. ap (λ x. slice_index x j) same ∙ linked_other w at left right high within j two three four in
    record {
      stands = (
        record {
          key_is = other at (λ e. absurd (omega (arith, e))) (λ e. absurd (omega (arith, e))) (λ e. absurd (omega (arith, e))) ∙ f.holds.key_is;
          value_is = other (at + 1) (λ e. absurd (omega (arith, e))) (λ e. absurd (omega (arith, e))) (λ e. absurd (omega (arith, e))) ∙ f.holds.value_is;
          sixth = other (at + 5) (λ e. absurd (omega (arith, e))) (λ e. absurd (omega (arith, e))) (λ e. absurd (omega (arith, e))) ∙ f.holds.sixth;
          seventh = other (at + 6) (λ e. absurd (omega (arith, e))) (λ e. absurd (omega (arith, e))) (λ e. absurd (omega (arith, e))) ∙ f.holds.seventh;
          eighth = other (at + 7) (λ e. absurd (omega (arith, e))) (λ e. absurd (omega (arith, e))) (λ e. absurd (omega (arith, e))) ∙ f.holds.eighth;
        },
        record {
          left_is = ap (λ x. slice_index x (at + 2)) same ∙ linked_two w at left right high within ∙ f.left_is;
          right_is = ap (λ x. slice_index x (at + 3)) same ∙ linked_three w at left right high within ∙ f.right_is;
          high_is = ap (λ x. slice_index x (at + 4)) same ∙ linked_four w at left right high within ∙ high_is;
        },
        stands_apart l changes (λ c some. away c l some (not_left f)) f.stands_left,
        stands_apart r changes (λ c some. away c r some (not_right f)) f.stands_right,
      );
      others = changes;
    }
  where
    away : (c : ℕ) (t : Tree) → 0 < count c t → count b t ≡ 0 → times c (b ∷ []) ≡ 0
    away c t some none = elim (cases_eq 0 (times c (b ∷ []))) [
      | inl zero_times ↦ sym zero_times
      | inr more ↦ absurd (omega (arith, some, none, ap (λ x. count x t) (times_one c b (omega arith))))
    ]
