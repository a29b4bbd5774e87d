-- The count of the region that counts, and what stays where the words of the identity alone differ.
use Rattle.std.proofs.Common.{◌≡◌, inl, inr, ℕ, ◌+◌, List, slice_index, sym, ap, ◌∙◌, arith, ⊎_elim}
use Rattle.rom_model.specs.Blocks.{region_len}
use Rattle.rom_model.specs.Space.{ChangesOnly}
use Rattle.rom_header.specs.Held.{Holds}
use Rattle.rom_header.specs.Layout.{MAIN, STATE, back_at, main_of, back_of}
use Rattle.rom_header.specs.Regions.{IsCounted, IsCurrentRegion, IsHeap}
use Rattle.rom_header.proofs.Parts.{get_or-part, heap_within, part_behind}
use Rattle.rom_name.specs.Identities.{KeepsRegion, count_at}

at_state : (order state : ℕ) (is : ℕ) → state ≡ is → count_at order state ≡ count_at order is
at_state order state is same = ap (count_at order) same

in_main : (order state : ℕ) (words region : List ℕ) → count_at order state ≡ MAIN + 2 → main_of order words ≡ region → slice_index words (count_at order state) ≡ slice_index region 2
in_main order state words region place is =
    ap (λ (at : ℕ). slice_index words at) place
    ∙ sym (get_or-part MAIN (region_len order) words 2 (omega arith))
    ∙ ap (λ (xs : List ℕ). slice_index xs 2) is

in_back : (order state : ℕ) (words region : List ℕ) → count_at order state ≡ back_at order + 2 → back_of order words ≡ region → slice_index words (count_at order state) ≡ slice_index region 2
in_back order state words region place is =
    ap (λ (at : ℕ). slice_index words at) place
    ∙ sym (get_or-part (back_at order) (region_len order) words 2 (omega arith))
    ∙ ap (λ (xs : List ℕ). slice_index xs 2) is

-- the count is word 2 of the region that counts
pub count_held : (order : ℕ) (words region : List ℕ) → IsCurrentRegion order words region → slice_index words (count_at order (slice_index words STATE)) ≡ slice_index region 2
count_held order words region current = by_state current.counts
  where
    by_state : IsCounted order words region → slice_index words (count_at order (slice_index words STATE)) ≡ slice_index region 2
    by_state (inl idle) = in_main order (slice_index words STATE) words region (at_state order (slice_index words STATE) 0 idle.0) idle.1
    by_state (inr (inl mutating)) = in_back order (slice_index words STATE) words region (at_state order (slice_index words STATE) 1 mutating.0) mutating.1
    by_state (inr (inr copying)) = in_main order (slice_index words STATE) words region (at_state order (slice_index words STATE) 2 copying.0) copying.1

-- words have one order
pub one_order : (m n : ℕ) (words : List ℕ) → IsHeap m words → IsHeap n words → m ≡ n
one_order m n words first second = sym first.header.order_is ∙ second.header.order_is

-- where words 4 to 7 alone differ, the region that counts stays
pub region_stays : (x y : List ℕ) → ChangesOnly 4 4 x y → KeepsRegion x y
region_stays x y within order region current =
    let heap = current.heap in
    let state : slice_index y STATE ≡ slice_index x STATE = within.before 3 (omega arith) in
    let main : main_of order y ≡ main_of order x = part_behind MAIN (region_len order) 4 4 x y within (omega (arith, heap.long)) (omega arith) in
    let back : back_of order y ≡ back_of order x = part_behind (back_at order) (region_len order) 4 4 x y within (omega (arith, heap.long)) (omega arith) in
    record {
      heap = heap_within order 4 4 x y (omega arith) within heap;
      counts = ⊎_elim
          (λ idle. inl (state ∙ idle.0, main ∙ idle.1, back ∙ idle.2))
          (λ other. ⊎_elim (λ mutating. inr (inl (state ∙ mutating.0, back ∙ mutating.1))) (λ copying. inr (inr (state ∙ copying.0, main ∙ copying.1))) other)
          current.counts;
    }

-- so whatever the words held they hold, of any object
pub holds_stays : {S : Type 0} (Contents : ℕ → List ℕ → S → ℕ → Type 0) (order : ℕ) (x y : List ℕ) (s : S) (k : ℕ) → ChangesOnly 4 4 x y → Holds Contents order x s k → Holds Contents order y s k
holds_stays Contents order x y s k within held = record { region = held.region; current = region_stays x y within order held.region held.current; contents = held.contents }
