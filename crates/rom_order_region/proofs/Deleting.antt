-- What an update that takes a key out leaves of a region.
use Rattle.std.proofs.Common.{◌≡◌, ℕ, ◌+◌, ◌-◌, ◌*◌, ◌^◌, ◌<◌, ◌≤◌, Bool, true, List, [], ◌∷◌, ◌++◌, length, refl, sym, ◌∙◌, ap, subst, arith, length-set, length-append, get_or-set_other}
use Rattle.std.specs.Prelude.{slice_index, slice_set, Option}
use Rattle.std.specs.FinMap as map
use Rattle.std.proofs.lemmas.Grind.{get_or-set_at}
use Rattle.rom_model.specs.Space.{ChangesOnly}
use Rattle.rom_model.specs.Blocks.{IsOrder, IsNode, IsDisjoint, AreWords, giving, block_at}
use Rattle.rom_model.specs.Chains.{times}
use Rattle.rom_model.proofs.Times.{times_here}
use Rattle.rom_model.proofs.Nodes.{pow_positive}
use Rattle.rom_block.specs.Taken.{IsTakenAt}
use Rattle.rom_order_region.specs.Tree.{Tree, blocks, detached, block_at_key}
use Rattle.rom_order_region.specs.Nodes.{node_at, BuildsTreeAt}
use Rattle.rom_order_region.specs.Keys.{EntriesRise}
use Rattle.rom_order_region.specs.Find.{IsFound}
use Rattle.rom_order_region.proofs.Members.{count}
use Rattle.rom_order_region.proofs.Heights.{shrunk_detached}
use Rattle.rom_order_region.proofs.Sorted.{Parts, parts, entries_gone}
use Rattle.rom_order_region.proofs.Placed.{spot}
use Rattle.rom_order_region.proofs.Frame.{apart_part}
use Rattle.rom_order_region.proofs.Revalued.{count-detached}
use Rattle.rom_order_region.proofs.Detaching.{count-detached_le}
use Rattle.rom_order_region.specs.declared.call.OrderReply.TheVariants.{Was, NoPrior}
use Rattle.rom_order_region.specs.State.{Pairs, delete_pair}
use Rattle.rom_order_region.specs.Region.{taken_pairs, IsIndexRegion, IndexContents}
use Rattle.rom_order_region.proofs.Pairs.{pair_taken, pair_begins, pairs_disjoint, giving_pair}
use Rattle.rom_order_region.proofs.Regions.{below_same, tree_same, stands_above, region_rises, region_next}
use Rattle.rom_order_region.proofs.Asked.{get_is}

module _ {n : ℕ} {w : List ℕ} {t : Tree} {s : Pairs} {k : ℕ} (order : IsOrder n) (is : IsIndexRegion n w t s k) (key node : ℕ) (found : IsFound n w t key node) where
  pub del_none : (w' : List ℕ) → w' ≡ w → node ≡ 0 → (NoPrior ≡ (delete_pair s key (map.get s key)).1) × IndexContents n w' (delete_pair s key (map.get s key)).0 k
  del_none w' same none =
      let gets = get_is is key ∙ found.none none in
      subst (λ (o : Option ℕ). (NoPrior ≡ (delete_pair s key o).1) × IndexContents n w' (delete_pair s key o).0 k) (sym gets) (refl, subst (λ (x : List ℕ). IndexContents n x s k) (sym same) (t, is))

  module _ (some : node ≡ 0 → ⊥) where
    abbrev b : ℕ
    b = block_at_key key t

    at : node ≡ node_at n b
    at = found.here some

    within : b < 2 ^ (n - 1)
    within = is.top.apart.within b (found.among some)

    counts : (q : ℕ) → count q t ≡ count q (detached key t) + times q (b ∷ [])
    counts q = count-detached q key (slice_index w (node + 1)) t (region_rises is) (found.some some)

    -- the node is out of the tree
    module _ {w1 w2 : List ℕ} {to : ℕ} (size : ℕ) (done : BuildsTreeAt n (blocks t) w w1 (detached key t) to) (image : w2 ≡ slice_set (slice_set w1 3 to) 4 size) where
      long : length w2 ≡ length w
      long = ap length image ∙ length-set (slice_set w1 3 to) 4 size ∙ length-set w1 3 to ∙ done.becomes.others.as_long

      other : (a : ℕ) → (a ≡ 3 → ⊥) → (a ≡ 4 → ⊥) → slice_index w2 a ≡ slice_index w1 a
      other a three four = ap (λ x. slice_index x a) image ∙ get_or-set_other (slice_set w1 3 to) 4 a size 0 four ∙ get_or-set_other w1 3 a to 0 three

      words : AreWords n (taken_pairs n (blocks t)) w2
      words = tree_same n (taken_pairs n (blocks t)) w w2 (λ a lo hi. other a (λ e. absurd (omega (arith, e, lo))) (λ e. absurd (omega (arith, e, lo))) ∙ below_same a done.becomes.others hi) is.tree

      is_node : IsNode (n - 1) (2 ^ (n - 1) + b)
      is_node = record { least = omega arith; most = omega (arith, within) }

      begins : node ≡ block_at n 1 (2 ^ (n - 1) + b)
      begins = at ∙ sym (pair_begins n (2 ^ (n - 1) + b) b order refl)

      held : taken_pairs n (blocks t) (2 ^ (n - 1) + b) ≡ true
      held = let e : 2 ^ (n - 1) + b - 2 ^ (n - 1) ≡ b = omega arith in pair_taken n (blocks t) (2 ^ (n - 1) + b) (omega arith) (omega (arith, ap (λ x. times x (blocks t)) e, found.among some))

      -- its block may be given back
      pub may_give : IsTakenAt n 1 node w2
      may_give = (taken_pairs n (blocks t), 2 ^ (n - 1) + b, pairs_disjoint (blocks t) order is.top.apart, words, is_node, begins, held)

      -- it was given back
      pub del_was : (w3 : List ℕ) (before : ℕ) → before ≡ slice_index w (node + 1) → size ≡ slice_index w1 4 - 1
          → ((taken : ℕ → Bool) (x : ℕ) → IsDisjoint n taken → AreWords n taken w2 → IsNode (n - 1) x → node ≡ block_at n 1 x → taken x ≡ true → IsDisjoint n (giving x taken) × AreWords n (giving x taken) w3)
          → ChangesOnly 17 (2 * 2 ^ n - 1) w2 w3 → (Was before ≡ (delete_pair s key (map.get s key)).1) × IndexContents n w3 (delete_pair s key (map.get s key)).0 k
      del_was w3 before before_is size_is given only =
          let x = slice_index w (node + 1) in
          let u = detached key t in
          let gets = get_is is key ∙ found.some some in
          let p = spot key x t (region_rises is) (found.some some) in
          let es : map.entries s ≡ p.front ++ (key, x) ∷ p.back = is.entries_are ∙ p.are in
          let around : Parts p.front key p.back = parts p.front (key, x) p.back (subst (λ xs. EntriesRise xs) p.are (region_rises is)) in
          let gone = entries_gone s key x p.front p.back es around in
          let shrunk = shrunk_detached key t is.balance in
          let three : slice_index w2 3 ≡ to = ap (λ y. slice_index y 3) image ∙ get_or-set_other (slice_set w1 3 to) 4 3 size 0 (λ e. absurd (omega (arith, e))) ∙ get_or-set_at w1 3 3 to 0 refl (omega (arith, done.becomes.others.as_long, is.as_long)) in
          let four : slice_index w2 4 ≡ size = ap (λ y. slice_index y 4) image ∙ get_or-set_at (slice_set w1 3 to) 4 4 size 0 refl (omega (arith, done.becomes.others.as_long, is.as_long, length-set w1 3 to)) in
          let absent : times b (blocks u) ≡ 0 = omega (arith, counts b, times_here b [], is.top.apart.different b) in
          let after = given (taken_pairs n (blocks t)) (2 ^ (n - 1) + b) (pairs_disjoint (blocks t) order is.top.apart) words is_node begins held in
          let low : (a : ℕ) → a ≤ 16 → (a ≡ 3 → ⊥) → (a ≡ 4 → ⊥) → slice_index w3 a ≡ slice_index w a = λ a le not3 not4. only.before a (omega (arith, le)) ∙ other a not3 not4 ∙ below_same a done.becomes.others (omega (arith, le, pow_positive n)) in
          let size1 : slice_index w1 4 ≡ map.len s = below_same 4 done.becomes.others (omega (arith, pow_positive n)) ∙ is.size in
          subst (λ (o : Option ℕ). (Was before ≡ (delete_pair s key o).1) × IndexContents n w3 (delete_pair s key o).0 k) (sym gets) (
            ap (λ y. Was y) before_is,
            (
              u,
              region_next w3 u (map.remove s key) is (only.as_long ∙ long) low
                  record {
                    at_is = only.before 3 (omega arith) ∙ three ∙ done.at_is;
                    stands = stands_above n w1 w3 u (λ a le. only.behind a (omega (arith, le, pow_positive n)) ∙ other a (λ e. absurd (omega (arith, e, le, pow_positive n))) (λ e. absurd (omega (arith, e, le, pow_positive n)))) done.becomes.stands;
                    apart = apart_part (blocks t) (blocks u) (λ q. count-detached_le q key t) is.top.apart;
                  }
                  shrunk.balance
                  (omega (arith, only.before 4 (omega arith), four, size_is, size1, map.len-entries s, map.len-entries (map.remove s key), ap (λ xs. length xs) gone, ap (λ xs. length xs) es, length-append p.front ((key, x) ∷ p.back), length-append p.front p.back))
                  (gone ∙ sym p.become)
                  (giving_pair n b (blocks t) (blocks u) w3 absent counts after.1),
            ),
          )
