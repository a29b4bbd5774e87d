-- No room is told only where many units are in use.
use Rattle.std.proofs.Common.{◌≡◌, inl, inr, ℕ, zero, suc, ◌+◌, ◌-◌, ◌*◌, ◌^◌, ◌≤◌, Bool, true, false, List, [], ◌∷◌, ◌++◌, length, refl, sym, ◌∙◌, ap, subst, arith}
use Rattle.std.specs.Prelude.{Option, Some, None, option_map, is_some, if◌then◌else◌, ◌==◌, ◌&&◌}
use Rattle.std.specs.List.{sum_by}
use Rattle.std.specs.FinMap as finite
use Rattle.std.proofs.lemmas.Bool.{cases_eq, eqb-true}
use Rattle.std.proofs.lemmas.List.Sums.{sum_by-cons, sum-map}
use Rattle.std.proofs.lemmas.Nat.{pow-add}
use Rattle.rom_model.specs.Blocks.{IsNode}
use Rattle.rom_model.specs.Chains.{times}
use Rattle.rom_model.proofs.Times.{times_away}
use Rattle.rom_model.proofs.Nodes.{pow_positive, node_positive}
use Rattle.rom_model.proofs.Members.{quarter_pow}
use Rattle.rom_blob_region.specs.State.{Blob, BlobState, order_for, some_block, all_in, blocks_taken, taken_with, taking_some, lowest, new_body, next_body, set_node, set_new, set_again, set_blob, body_units, units_of, units_in, table_blocks, cut_blob, blob_step, IsCrowded, MayRefuse}
use Rattle.rom_blob_region.specs.declared.call.BlobCall.{BlobCall}
use Rattle.rom_blob_region.specs.declared.call.BlobCall.TheVariants.{Set, Cut}
use Rattle.rom_blob_region.specs.declared.call.BlobReply.TheVariants as reply
use Rattle.rom_blob_region.proofs.Held.{taken_none}
use Rattle.rom_blob_region.proofs.Places.{order_small}
use Rattle.rom_blob_region.proofs.Ranges.{AllInRange, IsRanged, lowest_node}
use Rattle.rom_blob_region.proofs.Reserving.{body_none, body_some, taking_body}
use Rattle.rom_blob_region.proofs.Crowding.{counted, nodes_in, AllPlaced, crowded, none_of}

halved : (n j : ℕ) → j ≤ n → 2 ^ n ≡ 2 ^ j * 2 ^ (n - j)
halved n j le = let e : j + (n - j) ≡ n = omega (arith, le) in ap (λ a. 2 ^ a) (sym e) ∙ pow-add 2 j (n - j)

-- the blocks of keys with their orders
abbrev body_pairs : ℕ → Option ℕ → List (ℕ × ℕ)
body_pairs order None = []
body_pairs order (Some x) = (x, order) ∷ []

pairs_in : List (ℕ × Blob) → List (ℕ × ℕ)
pairs_in [] = []
pairs_in (e ∷ es) = (e.1.node, 0) ∷ (body_pairs (order_for (length e.1.bytes)) e.1.body ++ pairs_in es)

nodes_are : (es : List (ℕ × Blob)) → nodes_in (pairs_in es) ≡ all_in es
unfolding pairs_in
nodes_are [] = refl
nodes_are (e ∷ es) = ap (λ xs. e.1.node ∷ xs) (go e.1.body) ∙ ap (λ xs. e.1.node ∷ (some_block e.1.body ++ xs)) (nodes_are es)
  where
    go : (o : Option ℕ) → nodes_in (body_pairs (order_for (length e.1.bytes)) o ++ pairs_in es) ≡ some_block o ++ nodes_in (pairs_in es)
    go None = refl
    go (Some x) = refl

module _ (n : ℕ) (le : 4 ≤ n) where
  placed : (es : List (ℕ × Blob)) → AllInRange n es → AllPlaced n (pairs_in es)
  unfolding pairs_in
  placed [] all = tt
  placed (e ∷ es) all =
      let node : IsNode (n - 0) e.1.node = (let same : n ≡ n - 0 = omega arith in subst (λ d. IsNode d e.1.node) same all.0.node) in
      (omega arith, node, body e.1.body refl (placed es all.1))
    where
      body : (o : Option ℕ) → e.1.body ≡ o → AllPlaced n (pairs_in es) → AllPlaced n (body_pairs (order_for (length e.1.bytes)) o ++ pairs_in es)
      body None is rest = rest
      body (Some x) is rest = (omega (arith, le, order_small (length e.1.bytes)), all.0.body x is, rest)

  units_are : (es : List (ℕ × Blob)) → AllInRange n es → counted (pairs_in es) ≤ sum_by (λ e. units_of e.1) es
  unfolding pairs_in
  units_are [] all = omega arith
  units_are (e ∷ es) all =
      let here = body e.1.body refl in
      omega (arith, here, units_are es all.1, sum_by-cons (λ e. units_of e.1) e es)
    where
      body : (o : Option ℕ) → e.1.body ≡ o → counted (body_pairs (order_for (length e.1.bytes)) o ++ pairs_in es) ≤ body_units (length e.1.bytes) + counted (pairs_in es)
      body None is = let same : counted (pairs_in es) ≤ body_units (length e.1.bytes) + counted (pairs_in es) = omega arith in same
      body (Some x) is =
          let units : body_units (length e.1.bytes) ≡ 2 ^ order_for (length e.1.bytes) = ap (λ b. if b then 0 else 2 ^ order_for (length e.1.bytes)) (some (length e.1.bytes == 0) refl) in
          let same : 2 ^ order_for (length e.1.bytes) + counted (pairs_in es) ≤ body_units (length e.1.bytes) + counted (pairs_in es) = omega (arith, units) in
          same
        where
          some : (t : Bool) → (length e.1.bytes == 0) ≡ t → (length e.1.bytes == 0) ≡ false
          some true none = absurd (all.0.some x is (eqb-true (length e.1.bytes) 0 none))
          some false none = none

-- no block begins at 0
no_zero : (n : ℕ) (ms : List (ℕ × ℕ)) → AllPlaced n ms → times 0 (nodes_in ms) ≡ 0
no_zero n [] all = refl
no_zero n (m ∷ ms) all =
    let positive = node_positive (n - m.1) m.0 all.1 in
    omega (arith, times_away 0 m.0 (nodes_in ms) (λ e. omega (arith, e, positive)), no_zero n ms all.2)

-- a call that takes a key out is never refused
pub cut_not_full : (s : BlobState) (key : ℕ) (was : Option Blob) → (cut_blob s key was).1 ≡ reply.Full → ⊥
cut_not_full s key None told = let never : reply.NoPrior ≡ reply.Full = told in cc
cut_not_full s key (Some was) told = let never : reply.Was (length was.bytes) ≡ reply.Full = told in cc

-- where no block of an order is free beside these, they have that many units
none_left : (n order : ℕ) (ms : List (ℕ × ℕ)) → 4 ≤ n → order ≤ n → AllPlaced n ms → lowest n (taken_with (nodes_in ms)) order ≡ None → 2 ^ (n - order) ≤ counted ms + table_blocks n order
none_left n order ms le within all none =
    let zero : taken_with (nodes_in ms) 0 ≡ false = taken_none (nodes_in ms) 0 (omega arith) (no_zero n ms all) in
    crowded n order ms le within all (none_of n order (taken_with (nodes_in ms)) zero within none) zero

module _ (n : ℕ) (s : BlobState) (le : 4 ≤ n) (ranged : IsRanged n s) where
  abbrev xs : List ℕ
  xs = all_in (finite.entries s)

  abbrev pairs : List (ℕ × ℕ)
  pairs = pairs_in (finite.entries s)

  all_placed : AllPlaced n pairs
  all_placed = placed n le (finite.entries s) ranged

  all_nodes : nodes_in pairs ≡ xs
  all_nodes = nodes_are (finite.entries s)

  all_units : counted pairs ≤ units_in s
  all_units = omega (arith, units_are n le (finite.entries s) ranged, sum-map (λ e. units_of e.1) (finite.entries s))

  -- no block for bytes is free
  none_for : (order : ℕ) → order ≤ n → lowest n (blocks_taken s) order ≡ None → 2 ^ (n - order) ≤ units_in s + table_blocks n order
  none_for order within none =
      omega (arith, none_left n order pairs le within all_placed (ap (λ ys. lowest n (taken_with ys) order) all_nodes ∙ none), all_units)

  -- no unit beside a block for bytes is free
  none_beside : (x order : ℕ) → order ≤ 3 → IsNode (n - order) x → lowest n (taken_with (x ∷ xs)) 0 ≡ None → 2 ^ (n - order) ≤ units_in s + table_blocks n order + 1
  none_beside x order small node none =
      fewer order small (none_left n 0 ((x, order) ∷ pairs) le (omega arith) (omega (arith, small, le), node, all_placed) (ap (λ ys. lowest n (taken_with (x ∷ ys)) 0) all_nodes ∙ none))
    where
      whole_n : 2 ^ (n - 0) ≡ 2 ^ n
      whole_n = let e : n - 0 ≡ n = omega arith in ap (λ a. 2 ^ a) e

      fewer : (j : ℕ) → j ≤ 3 → 2 ^ (n - 0) ≤ 2 ^ j + counted pairs + table_blocks n 0 → 2 ^ (n - j) ≤ units_in s + table_blocks n j + 1
      fewer zero most crowd = omega (arith, crowd, all_units)
      fewer (suc zero) most crowd = let p : 2 ^ n ≡ 2 * 2 ^ (n - 1) = halved n 1 (omega (arith, le)) in omega (arith, crowd, whole_n, all_units, p, quarter_pow n le, pow_positive (n - 4))
      fewer (suc (suc zero)) most crowd = let p : 2 ^ n ≡ 4 * 2 ^ (n - 2) = halved n 2 (omega (arith, le)) in omega (arith, crowd, whole_n, all_units, p, quarter_pow n le, pow_positive (n - 4))
      fewer (suc (suc (suc zero))) most crowd = let p : 2 ^ n ≡ 8 * 2 ^ (n - 3) = halved n 3 (omega (arith, le)) in omega (arith, crowd, whole_n, all_units, p, quarter_pow n le, pow_positive (n - 4))
      fewer (suc (suc (suc (suc j)))) most crowd = absurd (omega (arith, most))

  -- no room is told only then
  pub full_bound : (key : ℕ) (bytes : List ℕ) → (set_blob n s key bytes (finite.get s key)).1 ≡ reply.Full → IsCrowded n s (length bytes)
  full_bound key bytes full = by_key (finite.get s key) full
    where
      order_within : order_for (length bytes) ≤ n
      order_within = omega (arith, le, order_small (length bytes))

      no_block : option_map Some (lowest n (blocks_taken s) (order_for (length bytes))) ≡ None → IsCrowded n s (length bytes)
      no_block is = go (lowest n (blocks_taken s) (order_for (length bytes))) refl is
        where
          go : (x : Option ℕ) → lowest n (blocks_taken s) (order_for (length bytes)) ≡ x → option_map Some x ≡ None → IsCrowded n s (length bytes)
          go None none shut = omega (arith, none_for (order_for (length bytes)) order_within none)
          go (Some x) found shut = absurd (let never : Some (Some x) ≡ None = shut in cc)

      no_node : (body : Option ℕ) → new_body n (blocks_taken s) bytes ≡ Some body → (unit : Option ℕ) → lowest n (taking_some body (blocks_taken s)) 0 ≡ unit → (set_node s key bytes body unit).1 ≡ reply.Full → IsCrowded n s (length bytes)
      no_node body chosen (Some y) found told = absurd (let never : reply.New ≡ reply.Full = told in cc)
      no_node None chosen None none told = elim (cases_eq (length bytes) 0) [
        | inl zero_long ↦
            let e : order_for (length bytes) ≡ 0 = ap order_for zero_long in
            subst (λ j. 2 ^ (n - j) ≤ units_in s + table_blocks n j + 1) (sym e) (omega (arith, none_for 0 (omega arith) none))
        | inr some ↦ absurd (other (lowest n (blocks_taken s) (order_for (length bytes))) (sym (body_some n (blocks_taken s) bytes some) ∙ chosen))
      ]
        where
          other : (x : Option ℕ) → option_map Some x ≡ Some None → ⊥
          other None is = absurd (let never : None ≡ Some None = is in cc)
          other (Some x) is = absurd (let never : Some (Some x) ≡ Some None = is in cc)
      no_node (Some x) chosen None none told = elim (cases_eq (length bytes) 0) [
        | inl zero_long ↦ absurd (let never : Some None ≡ Some (Some x) = sym (body_none n (blocks_taken s) bytes zero_long) ∙ chosen in cc)
        | inr some ↦
            let found : lowest n (blocks_taken s) (order_for (length bytes)) ≡ Some x = inner (lowest n (blocks_taken s) (order_for (length bytes))) (sym (body_some n (blocks_taken s) bytes some) ∙ chosen) in
            let same : taking_some (Some x) (blocks_taken s) ≡ taken_with (x ∷ xs) = (λ p i. taking_body (Some x) xs i p) in
            none_beside x (order_for (length bytes)) (order_small (length bytes)) (lowest_node n (order_for (length bytes)) x (blocks_taken s) found) (ap (λ (T : ℕ → Bool). lowest n T 0) (sym same) ∙ none)
      ]
        where
          inner : (y : Option ℕ) → option_map Some y ≡ Some (Some x) → y ≡ Some x
          inner None is = absurd (let never : None ≡ Some (Some x) = is in cc)
          inner (Some y) is = let same : Some y ≡ Some x = cc in same

      by_body : (body : Option (Option ℕ)) → new_body n (blocks_taken s) bytes ≡ body → (set_new n s key bytes body).1 ≡ reply.Full → IsCrowded n s (length bytes)
      by_body None none told = elim (cases_eq (length bytes) 0) [
        | inl zero_long ↦ absurd (let never : Some None ≡ None = sym (body_none n (blocks_taken s) bytes zero_long) ∙ none in cc)
        | inr some ↦ no_block (sym (body_some n (blocks_taken s) bytes some) ∙ none)
      ]
      by_body (Some body) chosen told = no_node body chosen (lowest n (taking_some body (blocks_taken s)) 0) refl told

      again : (was : Blob) (bs : List ℕ) → next_body n (blocks_taken s) was bs ≡ None → option_map Some (lowest n (blocks_taken s) (order_for (length bs))) ≡ None
      again was [] none = absurd (let never : Some None ≡ None = none in cc)
      again was (b ∷ bs) none = go (is_some was.body && (order_for (length was.bytes) == order_for (length (b ∷ bs)))) none
        where
          go : (t : Bool) → (if t then Some was.body else option_map Some (lowest n (blocks_taken s) (order_for (length (b ∷ bs))))) ≡ None → option_map Some (lowest n (blocks_taken s) (order_for (length (b ∷ bs)))) ≡ None
          go true is = absurd (let never : Some was.body ≡ None = is in cc)
          go false is = is

      by_next : (was : Blob) (body : Option (Option ℕ)) → next_body n (blocks_taken s) was bytes ≡ body → (set_again s key bytes was body).1 ≡ reply.Full → IsCrowded n s (length bytes)
      by_next was (Some body) chosen told = absurd (let never : reply.Was (length was.bytes) ≡ reply.Full = told in cc)
      by_next was None none told = no_block (again was bytes none)

      by_key : (x : Option Blob) → (set_blob n s key bytes x).1 ≡ reply.Full → IsCrowded n s (length bytes)
      by_key None told = by_body (new_body n (blocks_taken s) bytes) refl told
      by_key (Some was) told = by_next was (next_body n (blocks_taken s) was bytes) refl told

  -- so each call that is refused may be
  pub refused_bound : (count : ℕ) (call : BlobCall) → (blob_step n s count call).1 ≡ reply.Full → MayRefuse n s call
  refused_bound count (Set key bytes) told = full_bound key bytes told
  refused_bound count (Cut key) told = absurd (cut_not_full s key (finite.get s key) told)
