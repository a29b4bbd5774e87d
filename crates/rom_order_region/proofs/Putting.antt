-- What an update that gives a key a value leaves of a region.
use Rattle.std.proofs.Common.{◌≡◌, inl, inr, ℕ, ◌+◌, ◌-◌, ◌*◌, ◌^◌, ◌<◌, ◌≤◌, Bool, true, false, List, [], ◌∷◌, ◌++◌, length, refl, sym, ◌∙◌, ap, subst, arith, length-set, length-append, get_or-set_other}
use Rattle.std.specs.Prelude.{slice_index, slice_set, Option, None, nat_lt, if◌then◌else◌}
use Rattle.std.specs.FinMap as map
use Rattle.std.proofs.lemmas.Bool.{cases_lt}
use Rattle.std.proofs.lemmas.Bool.Decides.{nat_tests}
use Rattle.std.proofs.lemmas.Grind.{get_or-set_at}
use Rattle.rom_model.specs.Space.{ChangesOnly}
use Rattle.rom_model.specs.Blocks.{IsOrder, AreWords, NoneFree, taking}
use Rattle.rom_model.specs.Chains.{times}
use Rattle.rom_model.proofs.Times.{times_here, times_one, times-append}
use Rattle.rom_model.proofs.Nodes.{pow_positive}
use Rattle.rom_block.specs.Taken.{Takes}
use Rattle.rom_order_region.specs.Tree.{Tree, Leaf, Node, entries, blocks, attached, block_at_key, revalued}
use Rattle.rom_order_region.specs.Nodes.{node_at, TreeStands, AreNodesApart, BuildsTree, BuildsTreeAt}
use Rattle.rom_order_region.specs.Attach.{IsAttach}
use Rattle.rom_order_region.specs.Keys.{EntriesRise}
use Rattle.rom_order_region.specs.Find.{IsFound}
use Rattle.rom_order_region.proofs.Members.{count, count-attached}
use Rattle.rom_order_region.proofs.Heights.{grown_attached}
use Rattle.rom_order_region.proofs.Sorted.{Parts, parts, rise_split, entries_changed, entries_new}
use Rattle.rom_order_region.proofs.Placed.{Gap, gap, spot}
use Rattle.rom_order_region.proofs.Frame.{node_within, apart_part, stands_apart}
use Rattle.rom_order_region.proofs.Revalued.{of_three, revalue, balance-revalued, root-revalued}
use Rattle.rom_order_region.proofs.Walked.{length-entries}
use Rattle.rom_order_region.specs.declared.call.OrderReply.{OrderReply}
use Rattle.rom_order_region.specs.declared.call.OrderReply.TheVariants.{Was, NoPrior, Full}
use Rattle.rom_order_region.specs.State.{Pairs, put_pair}
use Rattle.rom_order_region.specs.Region.{taken_pairs, room_for, IsIndexRegion, IndexContents}
use Rattle.rom_order_region.proofs.Pairs.{NewPair, new_pair, pair_begins, taking_pair, pairs_lack, pairs_full}
use Rattle.rom_order_region.proofs.Regions.{below_same, tree_same, stands_above, region_rises, region_size, region_next}
use Rattle.rom_order_region.proofs.Asked.{get_is}

pub blocks-revalued : (k v : ℕ) (t : Tree) → blocks (revalued k v t) ≡ blocks t
blocks-revalued k v Leaf = refl
blocks-revalued k v (Node c j u l r) = of_three (λ t. blocks t ≡ blocks (Node c j u l r)) k j (Node c j u (revalued k v l) r) (Node c j u l (revalued k v r)) (Node c k v l r)
    (λ _. ap (λ bs. c ∷ (bs ++ blocks r)) (blocks-revalued k v l)) (λ _. ap (λ bs. c ∷ (blocks l ++ bs)) (blocks-revalued k v r)) (λ _. refl)

module _ {n : ℕ} {w : List ℕ} {t : Tree} {s : Pairs} {k : ℕ} (order : IsOrder n) (is : IsIndexRegion n w t s k) (key value : ℕ) where
  -- the key had a value
  module _ (node before : ℕ) (found : IsFound n w t key node) (some : node ≡ 0 → ⊥) (before_is : before ≡ slice_index w (node + 1)) where
    pub put_region : (w' : List ℕ) → w' ≡ slice_set w (node + 1) value → IsIndexRegion n w' (revalued key value t) (map.insert s key value) k
    put_region w' image =
        let u = slice_index w (node + 1) in
        let b = block_at_key key t in
        let at : node ≡ node_at n b = found.here some in
        let inside : b < 2 ^ (n - 1) = is.top.apart.within b (found.among some) in
        let within : node + 1 < length w = omega (arith, at, node_within n b order inside, is.as_long) in
        let other : (a : ℕ) → (a ≡ node + 1 → ⊥) → slice_index w' a ≡ slice_index w a = λ a ne. ap (λ x. slice_index x a) image ∙ get_or-set_other w (node + 1) a value 0 ne in
        let new : slice_index w' (node + 1) ≡ value = ap (λ x. slice_index x (node + 1)) image ∙ get_or-set_at w (node + 1) (node + 1) value 0 refl within in
        let low : (a : ℕ) → a < 16 + 2 * 2 ^ n → slice_index w' a ≡ slice_index w a = λ a lt. other a (λ e. absurd (omega (arith, e, lt, at))) in
        let p = spot key u t (region_rises is) (found.some some) in
        let es : map.entries s ≡ p.front ++ (key, u) ∷ p.back = is.entries_are ∙ p.are in
        let around : Parts p.front key p.back = parts p.front (key, u) p.back (subst (λ xs. EntriesRise xs) p.are (region_rises is)) in
        let changed = entries_changed s key value p.front p.back u es around in
        region_next w' (revalued key value t) (map.insert s key value) is
        (ap length image ∙ length-set w (node + 1) value)
        (λ j le three four. low j (omega (arith, le, pow_positive n)))
        record {
          at_is = low 3 (omega (arith, pow_positive n)) ∙ is.top.at_is ∙ sym (root-revalued n key value t);
          stands = revalue w w' value key u b t refl (region_rises is) (found.some some) is.top.apart is.top.stands
              (λ a ne. other a (λ e. ne (e ∙ ap (λ x. x + 1) at))) (ap (λ x. slice_index w' (x + 1)) (sym at) ∙ new);
          apart = subst (λ bs. AreNodesApart n bs) (sym (blocks-revalued key value t)) is.top.apart;
        }
        (balance-revalued key value t is.balance)
        (omega (arith, low 4 (omega (arith, pow_positive n)), is.size, map.len-entries s, map.len-entries (map.insert s key value), ap (λ xs. length xs) changed, ap (λ xs. length xs) es, length-append p.front ((key, value) ∷ p.back), length-append p.front ((key, u) ∷ p.back)))
        (changed ∙ sym (p.change value))
        (subst (λ bs. AreWords n (taken_pairs n bs) w') (sym (blocks-revalued key value t)) (tree_same n (taken_pairs n (blocks t)) w w' (λ a lo hi. low a hi) is.tree))

    pub put_was : (w' : List ℕ) → w' ≡ slice_set w (node + 1) value → (Was before ≡ (put_pair n s key value (map.get s key)).1) × IndexContents n w' (put_pair n s key value (map.get s key)).0 k
    put_was w' image =
        let gets = get_is is key ∙ found.some some in
        subst (λ (o : Option ℕ). (Was before ≡ (put_pair n s key value o).1) × IndexContents n w' (put_pair n s key value o).0 k) (sym gets) (ap (λ x. Was x) before_is, (revalued key value t, put_region w' image))

  module _ (node : ℕ) (found : IsFound n w t key node) (none : node ≡ 0) where
    gets : map.get s key ≡ None
    gets = get_is is key ∙ found.none none

    with_none : (room : Bool) → nat_lt (map.len s) (room_for n) ≡ room → put_pair n s key value (map.get s key) ≡ (if room then (map.insert s key value, NoPrior) else (s, Full))
    with_none room test = ap (λ (o : Option ℕ). put_pair n s key value o) gets ∙ ap (λ b. if b then (map.insert s key value, NoPrior) else (s, Full)) test

    -- there is no room
    pub put_full : (w' : List ℕ) → w' ≡ w → NoneFree n (taken_pairs n (blocks t)) 1 → (Full ≡ (put_pair n s key value (map.get s key)).1) × IndexContents n w' (put_pair n s key value (map.get s key)).0 k
    put_full w' same full =
        let many : 2 ^ (n - 1) ≤ length (blocks t) = pairs_full (blocks t) order is.top.apart full in
        let le : room_for n ≤ map.len s = omega (arith, many, region_size is, length-entries t) in
        let test : nat_lt (map.len s) (room_for n) ≡ false = no_room (map.len s) (room_for n) le in
        subst (λ (x : Pairs × OrderReply). (Full ≡ x.1) × IndexContents n w' x.0 k) (sym (with_none false test)) (refl, subst (λ (x : List ℕ). IndexContents n x s k) (sym same) (t, is))
      where
        no_room : (a b : ℕ) → b ≤ a → nat_lt a b ≡ false
        no_room a b le = grind (arith, nat_tests)

    -- a block was taken
    module _ {w1 : List ℕ} {at : ℕ} (only : ChangesOnly 17 (2 * 2 ^ n - 1) w w1) (takes : Takes n 1 (taken_pairs n (blocks t)) w1 at) where
      abbrev pub pair : NewPair n takes.node (blocks t)
      pair = new_pair order takes.lowest

      pub at_is : at ≡ node_at n pair.block
      at_is = takes.here ∙ pair_begins n takes.node pair.block order pair.node_is

      sums : (q : ℕ) → times q (pair.block ∷ blocks t) ≡ times q (pair.block ∷ []) + count q t
      sums q = times-append q (pair.block ∷ []) (blocks t)

      more_apart : AreNodesApart n (pair.block ∷ blocks t)
      more_apart = record {
        different = λ q. elim (cases_lt 0 (times q (pair.block ∷ []))) [
          | inl one ↦
              let e : q ≡ pair.block = times_one q pair.block one in
              omega (arith, sums q, ap (λ x. times x (pair.block ∷ [])) e, ap (λ x. count x t) e, times_here pair.block [], pair.absent)
          | inr gone ↦ omega (arith, sums q, gone, is.top.apart.different q)
        ];
        within = λ q some. elim (cases_lt 0 (times q (pair.block ∷ []))) [
          | inl one ↦ omega (arith, times_one q pair.block one, pair.most)
          | inr gone ↦ is.top.apart.within q (omega (arith, some, sums q, gone))
        ];
      }

      taken_stands : TreeStands n w1 t
      taken_stands = stands_above n w w1 t (λ a le. only.behind a (omega (arith, le, pow_positive n))) is.top.stands

      module _ {w2 : List ℕ} (filled : BuildsTree n (pair.block ∷ []) w1 w2 (Node pair.block key value Leaf Leaf)) where
        pub is_attach : (top : ℕ) → top ≡ slice_index w 3 → IsAttach n w2 top at pair.block key value t
        is_attach top top_is = record {
          top_is = top_is ∙ is.top.at_is;
          stands = stands_apart t filled.others (λ q some. elim (cases_lt 0 (times q (pair.block ∷ []))) [
            | inl one ↦ absurd (omega (arith, some, pair.absent, ap (λ x. count x t) (times_one q pair.block one)))
            | inr gone ↦ omega arith
          ]) taken_stands;
          node_is = at_is;
          single = filled.stands;
          apart = more_apart;
        }

        module _ {w3 : List ℕ} {to : ℕ} (done : BuildsTreeAt n (pair.block ∷ blocks t) w2 w3 (attached pair.block key value t) to) where
          low_same : (a : ℕ) → a ≤ 16 → slice_index w3 a ≡ slice_index w a
          low_same a le = below_same a done.becomes.others (omega (arith, le, pow_positive n)) ∙ below_same a filled.others (omega (arith, le, pow_positive n)) ∙ only.before a (omega (arith, le))

          pub size_now : slice_index w3 4 ≡ map.len s
          size_now = low_same 4 (omega arith) ∙ is.size

          pub put_new : (w4 : List ℕ) (size : ℕ) → size ≡ slice_index w3 4 → w4 ≡ slice_set (slice_set w3 3 to) 4 (size + 1) → (NoPrior ≡ (put_pair n s key value (map.get s key)).1) × IndexContents n w4 (put_pair n s key value (map.get s key)).0 k
          put_new w4 size size_is image =
              let b = pair.block in
              let u = attached b key value t in
              let few : length (blocks t) < 2 ^ (n - 1) = pairs_lack (blocks t) b is.top.apart pair.most pair.absent in
              let lt : map.len s < room_for n = omega (arith, few, region_size is, length-entries t) in
              let test : nat_lt (map.len s) (room_for n) ≡ true = has_room (map.len s) (room_for n) lt in
              let long : length w3 ≡ length w = done.becomes.others.as_long ∙ filled.others.as_long ∙ only.as_long in
              let long4 : length w4 ≡ length w = ap length image ∙ length-set (slice_set w3 3 to) 4 (size + 1) ∙ length-set w3 3 to ∙ long in
              let other : (a : ℕ) → (a ≡ 3 → ⊥) → (a ≡ 4 → ⊥) → slice_index w4 a ≡ slice_index w3 a = λ a three four. ap (λ x. slice_index x a) image ∙ get_or-set_other (slice_set w3 3 to) 4 a (size + 1) 0 four ∙ get_or-set_other w3 3 a to 0 three in
              let three : slice_index w4 3 ≡ to = ap (λ x. slice_index x 3) image ∙ get_or-set_other (slice_set w3 3 to) 4 3 (size + 1) 0 (λ e. absurd (omega (arith, e))) ∙ get_or-set_at w3 3 3 to 0 refl (omega (arith, long, is.as_long)) in
              let four : slice_index w4 4 ≡ size + 1 = ap (λ x. slice_index x 4) image ∙ get_or-set_at (slice_set w3 3 to) 4 4 (size + 1) 0 refl (omega (arith, long, is.as_long, length-set w3 3 to)) in
              let p = gap b key t (region_rises is) (found.none none) in
              let es : map.entries s ≡ p.front ++ p.back = is.entries_are ∙ p.are in
              let around : Parts p.front key p.back = around_gap p in
              let new_entries = entries_new s key value p.front p.back es around in
              let grown = grown_attached b key value t is.balance in
              let allocator : AreWords n (taken_pairs n (blocks u)) w4 = taking_pair n b (blocks t) (blocks u) w4 (λ q. omega (arith, count-attached q b key value t))
              (tree_same n (taking (2 ^ (n - 1) + b) (taken_pairs n (blocks t))) w1 w4
              (λ a lo hi. other a (λ e. absurd (omega (arith, e, lo))) (λ e. absurd (omega (arith, e, lo))) ∙ below_same a done.becomes.others hi ∙ below_same a filled.others hi)
              (subst (λ x. AreWords n (taking x (taken_pairs n (blocks t))) w1) pair.node_is takes.words_are)) in
              subst (λ (x : Pairs × OrderReply). (NoPrior ≡ x.1) × IndexContents n w4 x.0 k) (sym (with_none true test)) (
                refl,
                (
                  u,
                  region_next w4 u (map.insert s key value) is long4
                      (λ a le not3 not4. other a not3 not4 ∙ low_same a le)
                      record {
                        at_is = three ∙ done.at_is;
                        stands = stands_above n w3 w4 u (λ a le. other a (λ e. absurd (omega (arith, e, le, pow_positive n))) (λ e. absurd (omega (arith, e, le, pow_positive n)))) done.becomes.stands;
                        apart = apart_part (b ∷ blocks t) (blocks u) (λ q. omega (arith, count-attached q b key value t, sums q)) more_apart;
                      }
                      grown.balance
                      (omega (arith, four, size_is, size_now, map.len-entries s, map.len-entries (map.insert s key value), ap (λ xs. length xs) new_entries, ap (λ xs. length xs) es, length-append p.front ((key, value) ∷ p.back), length-append p.front p.back))
                      (new_entries ∙ sym (p.become value))
                      allocator,
                ),
              )
            where
              has_room : (a b : ℕ) → a < b → nat_lt a b ≡ true
              has_room a b lt = grind (arith, nat_tests)

              around_gap : (p : Gap key (entries t) (λ v. entries (attached pair.block key v t))) → Parts p.front key p.back
              around_gap p =
                  let all : EntriesRise (p.front ++ p.back) = subst (λ xs. EntriesRise xs) p.are (region_rises is) in
                  let split = rise_split p.front p.back all in
                  record { front = split.0; below = p.below; above = p.above; back = split.1 }
