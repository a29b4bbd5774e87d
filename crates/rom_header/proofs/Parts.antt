-- Parts of the words of a heap, and what writes leave of them.
use Rattle.std.proofs.Common.{◌≡◌, ℕ, ◌+◌, ◌<◌, ◌≤◌, List, length, get_or, set, drop, refl, sym, ◌∙◌, arith, length-drop, get_or-set_same}
use Rattle.std.proofs.lemmas.List.{get_or-take, get_or-drop, length-take}
use Rattle.std.proofs.lemmas.Grind.{same_number_lists}
use Rattle.rom_model.specs.Blocks.{region_len}
use Rattle.rom_model.specs.Space.{ChangesOnly}
use Rattle.rom_model.proofs.Changes.{changes_set}
use Rattle.rom_header.specs.Layout.{part, main_of, back_of, back_at, MAIN, STATE}
use Rattle.rom_header.specs.Regions.{IsHeap}

pub get_or-part : (at len : ℕ) (x : List ℕ) (k : ℕ) → k < len → get_or (part at len x) k 0 ≡ get_or x (at + k) 0
get_or-part at len x k h = get_or-take len (drop at x) k 0 h ∙ get_or-drop at x k 0

part_len : (at len : ℕ) (x : List ℕ) → length (part at len x) ≤ len
part_len at len x = omega (arith, length-take len (drop at x))

-- two parts are the same where their words are
pub part_moved : (from to len : ℕ) (x y : List ℕ) → length y ≡ length x → from + len ≤ length x → to + len ≤ length x
    → ((k : ℕ) → k < len → get_or y (to + k) 0 ≡ get_or x (from + k) 0) → part to len y ≡ part from len x
part_moved from to len x y e ff tf same =
    same_number_lists _ _ (omega (arith, length-take len (drop to y), length-take len (drop from x), length-drop from x, length-drop to y))
    (λ k h. let lt : k < len = omega (arith, part_len to len y) in get_or-part to len y k lt ∙ same k lt ∙ sym (get_or-part from len x k lt))

-- a part whose words are those of the image is the image
pub part_is : (at len : ℕ) (m y : List ℕ) → length m ≡ len → at + len ≤ length y → ((k : ℕ) → k < len → get_or y (at + k) 0 ≡ get_or m k 0) → part at len y ≡ m
part_is at len m y long room same =
    let size : length (part at len y) ≡ len = omega (arith, length-take len (drop at y), length-drop at y) in
    same_number_lists (part at len y) m (omega (arith, size, long))
    (λ k h. let lt : k < len = omega (arith, size) in get_or-part at len y k lt ∙ same k lt)

-- writes elsewhere leave a part as it is
pub part_before : (at len lo n : ℕ) (x y : List ℕ) → ChangesOnly lo n x y → at + len ≤ length x → at + len ≤ lo → part at len y ≡ part at len x
part_before at len lo n x y within fits apart = part_moved at at len x y within.as_long fits fits (λ k h. within.before (at + k) (omega arith))

pub part_behind : (at len lo n : ℕ) (x y : List ℕ) → ChangesOnly lo n x y → at + len ≤ length x → lo + n ≤ at → part at len y ≡ part at len x
part_behind at len lo n x y within fits apart = part_moved at at len x y within.as_long fits fits (λ k h. within.behind (at + k) (omega arith))

-- the header stands where only later words are written
pub heap_within : (n lo many : ℕ) (x y : List ℕ) → 4 ≤ lo → ChangesOnly lo many x y → IsHeap n x → IsHeap n y
heap_within n lo many x y late within is = record {
  header = record {
    magic = within.before 0 (omega arith) ∙ is.header.magic;
    version = within.before 1 (omega arith) ∙ is.header.version;
    order_is = within.before 2 (omega arith) ∙ is.header.order_is;
    fits = is.header.fits;
  };
  long = omega (arith, within.as_long, is.long);
  state = rw (within.before 3 (omega arith)) is.state;
}

-- what is left of a heap where its state is written
pub record StateSet (n state : ℕ) (x y : List ℕ) : Type 0 where
  pub heap : IsHeap n y
  pub state_is : get_or y STATE 0 ≡ state
  pub main_is : main_of n y ≡ main_of n x
  pub back_is : back_of n y ≡ back_of n x

pub state_set : (n state : ℕ) (x : List ℕ) → state ≤ 2 → IsHeap n x → StateSet n state x (set x STATE state)
state_set n state x low is =
    let y = set x STATE state in
    let within : ChangesOnly STATE 1 x y = changes_set STATE 1 x STATE state (omega arith) (omega arith) in
    let long : STATE < length x = omega (arith, is.long) in
    let there : get_or y STATE 0 ≡ state = rw get_or-set_same refl in
    record {
      heap = record {
        header = record {
          magic = within.before 0 (omega arith) ∙ is.header.magic;
          version = within.before 1 (omega arith) ∙ is.header.version;
          order_is = within.before 2 (omega arith) ∙ is.header.order_is;
          fits = is.header.fits;
        };
        long = omega (arith, within.as_long, is.long);
        state = omega (arith, there, low);
      };
      state_is = there;
      main_is = part_behind MAIN (region_len n) STATE 1 x y within (omega (arith, is.long)) (omega arith);
      back_is = part_behind (back_at n) (region_len n) STATE 1 x y within (omega (arith, is.long)) (omega arith);
    }
