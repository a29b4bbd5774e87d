-- The laws of the object, which its trait asks for.
use Rattle.std.specs.Prelude.{◌≡◌, ℕ, ◌+◌, ◌*◌, ◌≤◌, List, [], ◌∷◌, length, Some, slice_index}
use Rattle.std.proofs.Common.{refl, sym, ap, ◌∙◌, arith}
use Rattle.std.specs.FinMap as map
use Rattle.rom_model.specs.History.{LAST_COUNT}
use Rattle.rom_model.specs.Blocks.{region_len}
use Rattle.rom_order_region.specs.Tree.{Tree, Leaf, Node, entries}
use Rattle.rom_order_region.specs.Nodes.{TreeStands, node_at, root}
use Rattle.rom_order_region.specs.declared.call.OrderCall.{OrderCall}
use Rattle.rom_order_region.specs.declared.call.OrderReply.{OrderReply}
use Rattle.rom_order_region.specs.declared.call.OrderReply.TheVariants.{Was, NoPrior, Full}
use Rattle.rom_order.specs.Codes as codes
use Rattle.rom_order_region.specs.State.{Pairs, index_step}
use Rattle.rom_order_region.specs.Region.{IndexContents}
use Rattle.rom_order.specs.Tagged as tagged

-- two trees that stand where one link leads are one
pub one_tree : (n : ℕ) (w : List ℕ) (t u : Tree) → root n t ≡ root n u → TreeStands n w t → TreeStands n w u → t ≡ u
one_tree n w Leaf Leaf same p q = refl
one_tree n w Leaf (Node c j u x y) same p q = absurd (omega (arith, same))
one_tree n w (Node b k v l r) Leaf same p q = absurd (omega (arith, same))
one_tree n w (Node b k v l r) (Node c j u x y) same p q =
    let at : node_at n b ≡ node_at n c = same in
    let block : b ≡ c = omega (arith, at) in
    let key : k ≡ j = sym p.0.key_is ∙ ap (λ a. slice_index w a) at ∙ q.0.key_is in
    let value : v ≡ u = sym p.0.value_is ∙ ap (λ a. slice_index w (a + 1)) at ∙ q.0.value_is in
    let left : l ≡ x = one_tree n w l x (sym p.1.left_is ∙ ap (λ a. slice_index w (a + 2)) at ∙ q.1.left_is) p.2 q.2 in
    let right : r ≡ y = one_tree n w r y (sym p.1.right_is ∙ ap (λ a. slice_index w (a + 3)) at ∙ q.1.right_is) p.3 q.3 in
    λ i. Node (block i) (key i) (value i) (left i) (right i)

-- a region stands for one map and one count
same_contents : {n : ℕ} {w : List ℕ} {s t : Pairs} {j k : ℕ} → IndexContents n w s j → IndexContents n w t k → (s ≡ t) × (j ≡ k)
same_contents {n} {w} {s} {t} one two =
    let tree = one_tree n w one.0 two.0 (sym one.1.top.at_is ∙ two.1.top.at_is) one.1.top.stands two.1.top.stands in
    (map.same_entries_map s t (one.1.entries_are ∙ ap (λ x. entries x) tree ∙ sym two.1.entries_are), sym one.1.count_is ∙ two.1.count_is)

-- the same, as the trait of an object asks for it
pub one_index_contents : (n : ℕ) (words : List ℕ) (s t : Pairs) (j k : ℕ) → IndexContents n words s j → IndexContents n words t k → (s ≡ t) × (j ≡ k)
one_index_contents n words s t j k one two = same_contents one two

-- A well-formed region has its order's length. Its word 0, the kind, is 3. Its word 2 is the count, which is
-- at most LAST_COUNT.
pub index_contents_within : (n : ℕ) (words : List ℕ) (s : Pairs) (k : ℕ) → IndexContents n words s k → (length words ≡ region_len n) × (slice_index words 2 ≡ k) × (k ≤ LAST_COUNT) × (slice_index words 0 ≡ 3)
index_contents_within n words s k is = (is.1.as_long, is.1.count_is, is.1.count_fits, is.1.kind)

-- words that are read as a call are the words of that call
pub index_call_only : (words : List ℕ) (call : OrderCall) → codes.index_call_from_words words ≡ Some call → codes.index_call_words call ≡ words
index_call_only words call is = tagged.tagged_call_only words call is

-- the words of the reply to a call are read as that reply
pub index_reply_back : (n : ℕ) (s : Pairs) (count : ℕ) (words : List ℕ) (call : OrderCall) → codes.index_call_from_words words ≡ Some call → let told = (index_step n s count call).1 in codes.index_reply_from_words (codes.index_reply_words told) ≡ Some told
index_reply_back n s count words call is = tagged.tagged_reply_back (index_step n s count call).1

-- the words of the reply to a call are at most twice as many as those of the call
pub index_reply_few : (n : ℕ) (s : Pairs) (count : ℕ) (words : List ℕ) (call : OrderCall) → codes.index_call_from_words words ≡ Some call → length (codes.index_reply_words (index_step n s count call).1) ≤ 2 * length words
index_reply_few n s count [] call is = cc
index_reply_few n s count (tag ∷ words) call is = omega (arith, few (index_step n s count call).1)
  where
    few : (told : OrderReply) → length (codes.index_reply_words told) ≤ 2
    few (Was v) = omega arith
    few NoPrior = omega arith
    few Full = omega arith

-- words that are read as a reply are the words of that reply
pub index_reply_only : (words : List ℕ) (reply : OrderReply) → codes.index_reply_from_words words ≡ Some reply → codes.index_reply_words reply ≡ words
index_reply_only words reply is = tagged.tagged_reply_only words reply is
