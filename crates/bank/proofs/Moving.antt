-- A move leaves the sum of the map's values.
use Rattle.std.proofs.Common.{◌≡◌, ◌≢◌, inl, inr, ℕ, ◌+◌, ◌-◌, ◌≤◌, ◌^◌, Bool, true, false, cond, List, [], ◌∷◌, map, refl, sym, ◌∙◌, ap, subst, arith, rules}
use Rattle.std.specs.Prelude.{◌==◌, nat_lt, ◌&&◌, T, Option, None, Some, option_map, if◌then◌else◌}
use Rattle.std.specs.List.{sum_by}
use Rattle.std.specs.declared.cmp.Ordering.{Ordering}
use Rattle.std.specs.declared.cmp.Ordering.TheVariants.{Less, Equal, Greater}
use Rattle.std.specs.Ordering.{nat_cmp, eq_by_cmp, is_eq, is_lt}
use Rattle.std.specs.Cmp.{nat_cmp_total, unsigned_tied}
use Rattle.std.specs.FinMap as finite
use Rattle.std.specs.FinMap.Entries.{by_order, below_all, put, find, is_sorted}
use Rattle.std.proofs.lemmas.Bool.{cases_eq, cases_lt}
use Rattle.std.proofs.lemmas.Bool.Decides.{nat_tests}
use Rattle.std.proofs.lemmas.List.Sums.{sum_by-cons}
use Rattle.rom_model.specs.History.{after, left}
use Rattle.rom_model.specs.Machine.{on_words}
use Rattle.rom_model.specs.State.{State, Stamped, shift, total_of, transfer, value_of, written}
use Rattle.rom_model.specs.Trio.{trio}
use Rattle.rom_model.specs.declared.call.SingleReply.{SingleReply}
use Rattle.rom_model.specs.declared.call.SingleReply.TheVariants.{Moved, Over}
use Rattle.rom_model.specs.declared.entry.Entry.{Entry}
use Rattle.std.specs.List.{AllByRecursion}
use Rattle.bank.specs.Moved.{IsMove}

first : (a b : Bool) → T (a && b) → T a
first a b p = search rules

second : (a b : Bool) → T (a && b) → T b
second a b p = search rules

less : (o : Ordering) → T (is_lt o) → o ≡ Less
less o p = search rules

module _ {V : Type 0} (f : V → ℕ) where
  -- the weight of a value, where there is one
  abbrev pub weight : Option V → ℕ
  weight None = 0
  weight (Some v) = f v

  abbrev pub sum_of : List (ℕ × V) → ℕ
  sum_of es = sum_by f (map (λ e. e.1) es)

  nowhere : (k x : ℕ) (es : List (ℕ × V)) → nat_cmp k x ≡ Less → T (below_all nat_cmp x es) → find nat_cmp k es ≡ None
  nowhere k x [] p h = refl
  nowhere k x (e ∷ es) p h =
      let next : nat_cmp x e.0 ≡ Less = less _ (first _ _ h) in
      ap (λ r. cond (is_eq r) (Some e.1) (find nat_cmp k es)) (nat_cmp_total.trans k x e.0 p next) ∙ nowhere k x es p (second _ _ h)

  sum_put : (k : ℕ) (v : V) (es : List (ℕ × V)) → T (is_sorted nat_cmp es) → sum_of (put nat_cmp k v es) + weight (find nat_cmp k es) ≡ sum_of es + f v
  sum_put k v [] h = let one = sum_by-cons f v [] in omega (arith, one)
  sum_put k v (e ∷ es) h = by (nat_cmp k e.0) refl (sum_put k v es (second _ _ h))
    where
      more : sum_of (e ∷ es) ≡ f e.1 + sum_of es
      more = sum_by-cons f e.1 (map (λ x. x.1) es)

      by : (r : Ordering) → nat_cmp k e.0 ≡ r → sum_of (put nat_cmp k v es) + weight (find nat_cmp k es) ≡ sum_of es + f v →
          sum_of (by_order r ((k, v) ∷ e ∷ es) ((e.0, v) ∷ es) (e ∷ put nat_cmp k v es)) + weight (cond (is_eq r) (Some e.1) (find nat_cmp k es)) ≡ sum_of (e ∷ es) + f v
      by Less p rest = let none = ap weight (nowhere k e.0 es p (first _ _ h)) in let new = sum_by-cons f v (map (λ x. x.1) (e ∷ es)) in omega (arith, none, new)
      by Equal p rest = let new = sum_by-cons f v (map (λ x. x.1) es) in omega (arith, new, more)
      by Greater p rest = let new = sum_by-cons f e.1 (map (λ x. x.1) (put nat_cmp k v es)) in omega (arith, rest, new, more)

  -- what the values of a map sum up to once a key has this one, and had another or none
  pub sum_insert : (m : finite.FinMap nat_cmp V) (k : ℕ) (v : V) → sum_by f (finite.values (finite.insert m k v)) + weight (finite.get m k) ≡ sum_by f (finite.values m) + f v
  sum_insert m k v =
      let is = finite.entries-insert nat_cmp_total m k v in let found = finite.get-entries m k in
      let put_is = sum_put k v (finite.entries m) (finite.entries_sorted m) in
      omega (arith, put_is, ap sum_of is, ap weight found)

-- what a key has is its value
abbrev of_kept : Stamped → ℕ
of_kept kept = kept.value

apart : (q k : ℕ) → q ≢ k → eq_by_cmp nat_cmp q k ≡ false
apart q k ne = let test : (q == k) ≡ false = grind (arith, nat_tests) in unsigned_tied q k ∙ test

-- what a map of these pairs sums up to
abbrev sum_in : finite.FinMap nat_cmp Stamped → ℕ
sum_in pairs = sum_by of_kept (finite.values pairs)

weight_is : (o : Option Stamped) (u : ℕ) → option_map of_kept o ≡ Some u → weight of_kept o ≡ u
weight_is o u is = search rules

shift_keeps : (s : State) (stamp a b d u w : ℕ) → value_of s a ≡ Some u → value_of s b ≡ Some w → total_of (shift s stamp a b d u w).0 ≡ total_of s
shift_keeps s stamp a b d u w at_a at_b = elim (cases_lt u d) [
  | inl short ↦ let test : nat_lt u d ≡ true = grind (arith, nat_tests) in rw test refl
  | inr enough ↦
      let test : nat_lt u d ≡ false = grind (arith, nat_tests) in rw test (elim (cases_eq a b) [
        | inl same ↦ let here : (a == b) ≡ true = grind (arith, nat_tests) in rw here refl
        | inr other ↦ let here : (a == b) ≡ false = grind (arith, nat_tests) in rw here (fits (nat_lt (w + d) (2 ^ 64)) (moved enough other))
      ])
]
  where
    once : finite.FinMap nat_cmp Stamped
    once = written s.pairs stamp a (u - d)

    moved : d ≤ u → a ≢ b → sum_in (written once stamp b (w + d)) ≡ sum_in s.pairs
    moved enough other =
        let first = sum_insert of_kept s.pairs a (record { value = u - d; stamp = stamp }) in
        let last = sum_insert of_kept once b (record { value = w + d; stamp = stamp }) in
        let had : weight of_kept (finite.get s.pairs a) ≡ u = weight_is (finite.get s.pairs a) u at_a in
        let still : finite.get once b ≡ finite.get s.pairs b =
        finite.get-insert nat_cmp_total s.pairs a (record { value = u - d; stamp = stamp }) b ∙ ap (λ t. cond t (Some (record { value = u - d; stamp = stamp })) (finite.get s.pairs b)) (apart b a (λ e. other (sym e))) in
        let has : weight of_kept (finite.get once b) ≡ w = ap (weight of_kept) still ∙ weight_is (finite.get s.pairs b) w at_b in
        omega (arith, first, last, had, has, enough)

    fits : (t : Bool) → sum_in (written once stamp b (w + d)) ≡ sum_in s.pairs → (let done : State × SingleReply = if t then (record s { pairs = written once stamp b (w + d) }, Moved) else (s, Over) in total_of done.0 ≡ total_of s)
    fits t is = search rules

transfer_keeps : (s : State) (stamp a b d : ℕ) (had has : Option ℕ) → value_of s a ≡ had → value_of s b ≡ has → total_of (transfer s stamp a b d had has).0 ≡ total_of s
transfer_keeps s stamp a b d (Some u) (Some w) at_a at_b = shift_keeps s stamp a b d u w at_a at_b
transfer_keeps s stamp a b d (Some u) None at_a at_b = refl
transfer_keeps s stamp a b d None has at_a at_b = refl

-- an update whose words are those of a move keeps the total
pub move_keeps : (n : ℕ) (s : State) (k : ℕ) (args : List ℕ) → IsMove args → total_of (left s (on_words trio n s k args)) ≡ total_of s
move_keeps n s k args (a, b, d, is) = subst (λ (z : List ℕ). total_of (left s (on_words trio n s k z)) ≡ total_of s) (sym is) (transfer_keeps s (k + 1) a b d (value_of s a) (value_of s b) refl refl)

-- and so do many
pub moves_keep : (n : ℕ) (s : State) (k : ℕ) (es : List Entry) → AllByRecursion (λ e. IsMove e.args) es → total_of (after (on_words trio) n s k es) ≡ total_of s
moves_keep n s k [] all = refl
moves_keep n s k (e ∷ es) all = moves_keep n (left s (on_words trio n s k e.args)) (k + 1) es all.1 ∙ move_keeps n s k e.args all.0
