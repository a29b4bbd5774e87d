-- A new heap while it is made.
use Rattle.std.proofs.Common.{◌≡◌, ◌≢◌, inl, inr, ℕ, ◌+◌, ◌*◌, ◌<◌, ◌≤◌, List, length, get_or, set, refl, sym, ◌∙◌, subst, arith, length-set, get_or-set_other, get_or-set_same}
use Rattle.rom_model.specs.Space.{ChangesOnly}
use Rattle.rom_model.specs.Blocks.{IsOrder, region_len}
use Rattle.rom_model.proofs.Changes.{changes_joins, changes_wider}
use Rattle.rom_device.specs.Device.{ShownDevice, Does, WritesWord, WritesMany}
use Rattle.rom_device.proofs.Going.{does_by, does_on}
use Rattle.rom_header.specs.Fresh.{IsNewHeap, NoneOrNew, UnreadAreZero, IsLaid}
use Rattle.rom_header.specs.Layout.{back_at, words_needed, MAGIC, MAIN}
use Rattle.rom_header.proofs.Parts.{part_is}

-- the three runs of writes lay a heap out
pub laid : (order : ℕ) (image x y z : List ℕ) → length image ≡ region_len order →
    ((k : ℕ) → k < length image → get_or x (8 + k) 0 ≡ get_or image k 0) →
    ChangesOnly (back_at order) (length image) x y → ((k : ℕ) → k < length image → get_or y (back_at order + k) 0 ≡ get_or image k 0) →
    ChangesOnly 1 7 y z → get_or z 1 0 ≡ 1 → get_or z 2 0 ≡ order → get_or z 3 0 ≡ 0 → UnreadAreZero z → IsLaid order image z
laid order image x y z size first at_back second at_head version order_is idle unread = record {
  version = version;
  order_is = order_is;
  idle = idle;
  unread = unread;
  main = λ k h. at_head.behind (8 + k) (omega arith) ∙ at_back.before (8 + k) (omega arith) ∙ first k (omega arith);
  back = λ k h. at_head.behind (back_at order + k) (omega arith) ∙ second k (omega arith);
}

-- the magic makes it a heap
pub made : (order : ℕ) (m y : List ℕ) → IsLaid order m y → length m ≡ region_len order → words_needed order ≤ length y → IsOrder order → IsNewHeap order m (set y 0 MAGIC)
made order m y laid long room fits =
    let w = set y 0 MAGIC in
    let size : length w ≡ length y = length-set y 0 MAGIC in
    let has : 0 < length y = omega arith in
    let other : (k : ℕ) → 0 < k → get_or w k 0 ≡ get_or y k 0 = λ k h. let ne : k ≢ 0 = omega arith in rw get_or-set_other refl in
    record {
      heap = record {
        header = record {
          magic = rw get_or-set_same refl;
          version = other 1 (omega arith) ∙ laid.version;
          order_is = other 2 (omega arith) ∙ laid.order_is;
          fits = fits;
        };
        long = omega (arith, size);
        state = omega (arith, other 3 (omega arith), laid.idle);
      };
      idle = other 3 (omega arith) ∙ laid.idle;
      unread = (other 4 (omega arith) ∙ laid.unread.0, other 5 (omega arith) ∙ laid.unread.1, other 6 (omega arith) ∙ laid.unread.2, other 7 (omega arith) ∙ laid.unread.3);
      main_is = part_is 8 (region_len order) m w long (omega (arith, size)) (λ k lt. other (8 + k) (omega arith) ∙ laid.main k lt);
      back_is = part_is (back_at order) (region_len order) m w long (omega (arith, size)) (λ k lt. other (back_at order + k) (omega arith) ∙ laid.back k lt);
    }

-- while the rest is written there is no magic
pub still_none : (order at n : ℕ) (m x y : List ℕ) → get_or x 0 0 ≢ MAGIC → 1 ≤ at → ChangesOnly at n x y → NoneOrNew order m y
still_none order at n m x y none late within = inl (λ e. none (sym (within.before 0 (omega arith)) ∙ e))

-- and then there is the whole heap
pub sealed : (order : ℕ) (m y i : List ℕ) → get_or y 0 0 ≢ MAGIC → IsLaid order m y → length m ≡ region_len order → words_needed order ≤ length y → IsOrder order → WritesWord 0 MAGIC y i → NoneOrNew order m i
sealed order m y i none laid long room fits (inl same) = inl (subst (λ (l : List ℕ). get_or l 0 0 ≢ MAGIC) (sym same) none)
sealed order m y i none laid long room fits (inr put) = inr (subst (λ (l : List ℕ). IsNewHeap order m l) (sym put) (made order m y laid long room fits))

-- the runs of writes are one, in all words of a heap but its magic
module _ {D : Type 0} (shown : ShownDevice D) (order main back : ℕ) (image : List ℕ) (at_main : main ≡ MAIN) (at_back : back ≡ back_at order) (long : length image ≡ region_len order)
    (a b c : D) (first : Does shown (WritesMany main image) a b) (second : Does shown (WritesMany back image) b c) where
  abbrev all_but : ℕ
  all_but = 7 + 2 * region_len order

  run : (at : ℕ) (values : List ℕ) → 1 ≤ at → at + length values ≤ 1 + all_but → (x y : D) → Does shown (WritesMany at values) x y → Does shown (ChangesOnly 1 all_but) x y
  run at values low high = does_by shown (WritesMany at values) (ChangesOnly 1 all_but) (λ x y many. changes_wider 1 all_but at (length values) low high x y many.only)

  pub laid_two : Does shown (ChangesOnly 1 (7 + 2 * region_len order)) a c
  laid_two = does_on shown (ChangesOnly 1 all_but) (changes_joins 1 all_but) a b c
      (run main image (omega (arith, at_main)) (omega (arith, at_main, long)) a b first) (run back image (omega (arith, at_back)) (omega (arith, at_back, long)) b c second)

  pub laid_three : (header : List ℕ) → length header ≡ 7 → (d : D) → Does shown (WritesMany 1 header) c d → Does shown (ChangesOnly 1 (7 + 2 * region_len order)) a d
  laid_three header short d third = does_on shown (ChangesOnly 1 all_but) (changes_joins 1 all_but) a c d laid_two (run 1 header (omega arith) (omega (arith, short)) c d third)
