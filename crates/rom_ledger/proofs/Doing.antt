-- What the calls on the map and the queue tell and leave is what a conditional update gives.
use Rattle.std.proofs.Common.{◌≡◌, ◌≢◌, ◌⊎◌, ⊎_elim, ℕ, ◌+◌, ◌^◌, ◌<◌, ◌≤◌, Bool, true, false, List, [], ◌∷◌, drop, Option, Some, None, refl, sym, ap, subst, ◌∙◌, arith, lt-ltb}
use Rattle.std.specs.Prelude.{◌==◌, is_some, slice_get, if◌then◌else◌}
use Rattle.std.proofs.lemmas.Bool.{le-ltb, eq-eqb, ne_eqb}
use Rattle.rom_model.specs.Space.{ShownSpace, Costs, Looks}
use Rattle.rom_model.specs.State.{State, live, cap, value_of}
use Rattle.rom_model.specs.Region.{IsWellFormed, Contents}
use Rattle.rom_model.specs.declared.call.SingleReply.TheVariants as reply
use Rattle.rom_model.proofs.Looks.{costs_then, stores_most}
use Rattle.rom_queue.specs.Queue.{with_queue}
use Rattle.rom_map.specs.Map.{IsPut}
use Rattle.rom_map.specs.declared.map.Put.{Put}
use Rattle.rom_map.specs.declared.map.Put.TheVariants.{New, Was, Full}
use Rattle.rom_heap.specs.Updates.{HasStamp}
use Rattle.rom_heap.proofs.Steps.{room_is, full_is}
use Rattle.rom_ledger.specs.State.{with_value, inc, make, cas, deq_if, conditional}
use Rattle.rom_ledger.specs.Does.{DoesConditional}
use Rattle.rom_ledger.specs.declared.call.Conditional.{Conditional}
use Rattle.rom_ledger.specs.declared.call.Conditional.TheVariants as call
use Rattle.rom_ledger.specs.declared.call.LedgerTold.{LedgerTold}
use Rattle.rom_ledger.specs.declared.call.LedgerTold.TheVariants as told

pub is_none : (o : Option ℕ) → is_some o ≡ false → o ≡ None
is_none (Some u) is = absurd (let never : true ≡ false = is in cc)
is_none None is = refl

module _ (n : ℕ) (s : State) (j : ℕ) where
  -- a sum is written where it fits
  abbrev summed : Bool → ℕ → ℕ → ℕ → ℕ → State × LedgerTold
  summed fits stamp k d u = if fits then (with_value s stamp k (u + d), told.Heap (reply.Was u)) else (s, told.Heap reply.Over)

  pub inc_absent : (k d : ℕ) → value_of s k ≡ None → conditional n s j (call.Inc k d) ≡ (s, told.Heap reply.Absent)
  inc_absent k d is = ap (inc s (j + 1) k d) is

  pub inc_over : (k d u : ℕ) → value_of s k ≡ Some u → 2 ^ 64 ≤ u + d → conditional n s j (call.Inc k d) ≡ (s, told.Heap reply.Over)
  inc_over k d u is over = ap (inc s (j + 1) k d) is ∙ ap (λ b. summed b (j + 1) k d u) (le-ltb (u + d) (2 ^ 64) over)

  pub inc_added : (stamp k d u v : ℕ) → stamp ≡ j + 1 → value_of s k ≡ Some u → v ≡ u + d → u + d < 2 ^ 64 → conditional n s j (call.Inc k d) ≡ (with_value s stamp k v, told.Heap (reply.Was u))
  inc_added stamp k d u v at is sum fits =
      ap (inc s (j + 1) k d) is ∙ ap (λ b. summed b (j + 1) k d u) (lt-ltb (u + d) (2 ^ 64) fits) ∙ (λ i. (with_value s (sym at i) k (sym sum i), told.Heap (reply.Was u)))

  -- where a new key gets a value
  abbrev given : Bool → ℕ → ℕ → ℕ → State × LedgerTold
  given room stamp k v = if room then (with_value s stamp k v, told.Heap reply.Added) else (s, told.Heap reply.Full)

  pub make_present : (k v : ℕ) (o : Option ℕ) → value_of s k ≡ o → is_some o ≡ true → conditional n s j (call.New k v) ≡ (s, told.Heap reply.Present)
  make_present k v (Some u) is some = ap (make n s (j + 1) k v) is
  make_present k v None is some = absurd (let never : false ≡ true = some in cc)

  pub make_added : (stamp k v : ℕ) → stamp ≡ j + 1 → value_of s k ≡ None → live s < cap n → conditional n s j (call.New k v) ≡ (with_value s stamp k v, told.Heap reply.Added)
  make_added stamp k v at is room = ap (make n s (j + 1) k v) is ∙ (λ i. given (room_is n s room i) (sym at i) k v)

  pub make_full : (k v : ℕ) → value_of s k ≡ None → live s ≡ cap n → conditional n s j (call.New k v) ≡ (s, told.Heap reply.Full)
  make_full k v is full = ap (make n s (j + 1) k v) is ∙ ap (λ b. given b (j + 1) k v) (full_is n s full)

  -- where a key that has a value gets another
  abbrev swapped : Bool → ℕ → ℕ → ℕ → ℕ → State × LedgerTold
  swapped same stamp k v w = if same then (with_value s stamp k v, told.Heap (reply.Was w)) else (s, told.Other w)

  pub cas_absent : (k u v : ℕ) → value_of s k ≡ None → conditional n s j (call.Cas k u v) ≡ (s, told.Heap reply.Absent)
  cas_absent k u v is = ap (cas s (j + 1) k u v) is

  pub cas_other : (k u v w : ℕ) → value_of s k ≡ Some w → w ≢ u → conditional n s j (call.Cas k u v) ≡ (s, told.Other w)
  cas_other k u v w is differ = ap (cas s (j + 1) k u v) is ∙ ap (λ b. swapped b (j + 1) k v w) (ne_eqb w u differ)

  pub cas_done : (stamp k u v w : ℕ) → stamp ≡ j + 1 → value_of s k ≡ Some w → w ≡ u → conditional n s j (call.Cas k u v) ≡ (with_value s stamp k v, told.Heap (reply.Was w))
  cas_done stamp k u v w at is same = ap (cas s (j + 1) k u v) is ∙ (λ i. swapped (eq-eqb w u same i) (sym at i) k v w)

-- the queue's first
module _ (s : State) (v : ℕ) where
  -- where it is taken
  abbrev taken : Bool → ℕ → List ℕ → State × LedgerTold
  taken same w rest = if same then (with_queue s rest, told.Heap (reply.Head w)) else (s, told.Other w)

  pub deq_none : (q : List ℕ) → None ≡ slice_get q 0 → deq_if s v q ≡ (s, told.Heap reply.Empty)
  deq_none [] is = refl
  deq_none (x ∷ xs) is = absurd (let never : None ≡ Some x = is in cc)

  pub deq_other : (q : List ℕ) (w : ℕ) → Some w ≡ slice_get q 0 → w ≢ v → deq_if s v q ≡ (s, told.Other w)
  deq_other [] w is differ = absurd (let never : Some w ≡ None = is in cc)
  deq_other (x ∷ xs) w is differ = let same : Some w ≡ Some x = is in let here : x ≡ w = cc in ap (λ u. taken (u == v) u xs) here ∙ ap (λ b. taken b w xs) (ne_eqb w v differ)

  pub deq_done : (q : List ℕ) (w : ℕ) → Some w ≡ slice_get q 0 → w ≡ v → deq_if s v q ≡ (with_queue s (drop 1 q), told.Heap (reply.Head w))
  deq_done [] w is one = absurd (let never : Some w ≡ None = is in cc)
  deq_done (x ∷ xs) w is one = let same : Some w ≡ Some x = is in let here : x ≡ w = cc in ap (λ u. taken (u == v) u xs) here ∙ ap (λ b. taken b w xs) (eq-eqb w v one)

-- what a put leaves where it is known whether the key had a value
module _ (n : ℕ) (s : State) (count key value stamp : ℕ) (new : List ℕ) where
  pub put_there : (r : Put) (u : ℕ) → value_of s key ≡ Some u → IsPut n s count key value stamp r new → Contents n new (with_value s stamp key value) count
  put_there New u is put = put.2
  put_there (Was before) u is put = put.1
  put_there Full u is put = absurd (let never : Some u ≡ None = sym is ∙ put.0 in cc)

  pub put_absent : (r : Put) → (r ≡ New) ⊎ ((u : ℕ) × (r ≡ Was u)) → value_of s key ≡ None → IsPut n s count key value stamp r new → (live s < cap n) × Contents n new (with_value s stamp key value) count
  put_absent New other is put = (put.1, put.2)
  put_absent (Was before) other is put = absurd (let never : None ≡ Some before = sym is ∙ put.0 in cc)
  put_absent Full other is put = absurd (⊎_elim (λ same. let never : Full ≡ New = same in cc) (λ same. let never : Full ≡ Was same.0 = same.1 in cc) other)

-- an update that does so
by_step : {n : ℕ} {new : List ℕ} {k : ℕ} (done : State × LedgerTold) (after : State) (told : LedgerTold) → done ≡ (after, told) → Contents n new after k → (told ≡ done.1) × Contents n new done.0 k
by_step {n} {new} {k} done after told is held = (sym (ap (λ d. d.1) is), subst (λ s. Contents n new s k) (sym (ap (λ d. d.0) is)) held)

module _ {M : Type 0} {shown : ShownSpace M} {n : ℕ} where
  -- what is known of the words before loads is known behind them
  pub held_after : {loads k : ℕ} {s : State} {old new : M} → Looks shown loads old new → Contents n (shown.image old) s k → Contents n (shown.image new) s k
  held_after {k = k} {s = s} looks held = subst (λ w. Contents n w s k) (sym looks.image) held

  pub stamp_after : {loads stamp : ℕ} {old new : M} → Looks shown loads old new → HasStamp n (shown.image old) stamp → HasStamp n (shown.image new) stamp
  stamp_after {stamp = stamp} looks is = subst (λ w. HasStamp n w stamp) (sym looks.image) is

  pub well_formed_after : {loads : ℕ} {old new : M} → Looks shown loads old new → IsWellFormed n (shown.image old) → IsWellFormed n (shown.image new)
  well_formed_after looks is = subst (λ w. IsWellFormed n w) (sym looks.image) is

  module _ {call : Conditional} {told : LedgerTold} {old new : M} where
    -- an update that changes nothing
    pub stays : {loads : ℕ} → ((s : State) (j : ℕ) → Contents n (shown.image old) s (j + 1) → conditional n s j call ≡ (s, told)) → Looks shown loads old new → DoesConditional shown n call told old new
    stays is looks = record {
      step_is = λ s j held. by_step (conditional n s j call) s told (is s j held) (held_after looks held);
      stores = stores_most 31 (omega arith) looks.costs;
    }

    -- loads alone, and then a change
    pub changes : {loads more stores : ℕ} {mid : M} (after : State → State) →
        ((s : State) (j : ℕ) → Contents n (shown.image old) s (j + 1) → (conditional n s j call ≡ (after s, told)) × Contents n (shown.image new) (after s) (j + 1)) →
        Looks shown loads old mid → stores ≤ 31 → Costs shown more stores mid new → DoesConditional shown n call told old new
    changes {loads = loads} {more = more} after does looks few costs = record {
      step_is = λ s j held. by_step (conditional n s j call) (after s) told (does s j held).0 (does s j held).1;
      stores = stores_most 31 few (costs_then (loads + more) _ (omega arith) (omega arith) looks.costs costs);
    }
