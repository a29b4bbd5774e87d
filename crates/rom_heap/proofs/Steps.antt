-- What the calls on the structures answer and leave is what the step gives.
use Rattle.std.proofs.Common.{◌≡◌, ℕ, ◌+◌, ◌<◌, ◌≤◌, false, true, Bool, cond, List, [], ◌∷◌, drop, sym, ap, subst, ◌∙◌, arith, lt-ltb, Some, None}
use Rattle.std.specs.Prelude.{slice_get, slice_index, nat_lt, if◌then◌else◌}
use Rattle.std.specs.FinSet as set
use Rattle.std.proofs.lemmas.Bool.{ltb-true}
use Rattle.rom_model.specs.Space.{ShownSpace, ChangesOnly, Costs, Looks}
use Rattle.rom_model.specs.History.{LAST_COUNT}
use Rattle.rom_model.specs.State.{State, live, cap, has_room, value_of, written, deq, put, transfer, one, first_of_queue}
use Rattle.rom_model.specs.Region.{IsWellFormed, Contents}
use Rattle.rom_model.specs.declared.call.Single.{Single}
use Rattle.rom_model.specs.declared.call.Single.TheVariants.{Enq, Add, Rem, Put, Move}
use Rattle.rom_model.specs.declared.call.SingleReply.{SingleReply}
use Rattle.rom_model.specs.declared.call.SingleReply.TheVariants as reply
use Rattle.rom_model.specs.declared.call.Answer.TheVariants as answer
use Rattle.rom_model.proofs.Looks.{stores_most}
use Rattle.rom_model.proofs.Recounted.{recounted_contents}
use Rattle.rom_queue.specs.Queue.{with_queue, with_last}
use Rattle.rom_set.specs.Set.{with_members}
use Rattle.rom_map.specs.Map.{with_pairs}
use Rattle.rom_heap.specs.Updates.{HasStamp, DoesUpdate, most_stores}

-- a number is not below itself
not_below : (n : ℕ) (b : Bool) → nat_lt n n ≡ b → b ≡ false
not_below n true is = absurd (let less : n < n = ltb-true n n is in omega (arith, less))
not_below n false is = λ i. false

pub room_is : (n : ℕ) (s : State) → live s < cap n → has_room n s ≡ true
room_is n s lt = lt-ltb (live s) (cap n) lt

pub full_is : (n : ℕ) (s : State) → live s ≡ cap n → has_room n s ≡ false
full_is n s is = ap (λ m. nat_lt m (cap n)) is ∙ not_below (cap n) (nat_lt (cap n) (cap n)) (λ i. nat_lt (cap n) (cap n))

module _ (n : ℕ) (s : State) (j : ℕ) where
  pub enq_room : (v : ℕ) → live s < cap n → one n s j (Enq v) ≡ (with_last s v, reply.Queued)
  enq_room v lt = ap (λ b. cond b (with_last s v, reply.Queued) (s, reply.Full)) (room_is n s lt)

  pub enq_full : (v : ℕ) → live s ≡ cap n → one n s j (Enq v) ≡ (s, reply.Full)
  enq_full v is = ap (λ b. cond b (with_last s v, reply.Queued) (s, reply.Full)) (full_is n s is)

  -- where the set has the number, where it has not but there is room, and where there is none
  abbrev added : Bool → Bool → ℕ → State × SingleReply
  added there room key = if there then (s, reply.Present) else if room then (with_members s (set.insert s.members key), reply.Added) else (s, reply.Full)

  pub add_there : (key : ℕ) → set.contains s.members key ≡ true → one n s j (Add key) ≡ (s, reply.Present)
  add_there key there = ap (λ b. added b (has_room n s) key) there

  pub add_new : (key : ℕ) → set.contains s.members key ≡ false → live s < cap n → one n s j (Add key) ≡ (with_members s (set.insert s.members key), reply.Added)
  add_new key there lt = λ i. added (there i) (room_is n s lt i) key

  pub add_full : (key : ℕ) → set.contains s.members key ≡ false → live s ≡ cap n → one n s j (Add key) ≡ (s, reply.Full)
  add_full key there is = λ i. added (there i) (full_is n s is i) key

  abbrev removed : Bool → ℕ → State × SingleReply
  removed there key = if there then (with_members s (set.remove s.members key), reply.Removed) else (s, reply.Absent)

  pub rem_there : (key : ℕ) → set.contains s.members key ≡ true → one n s j (Rem key) ≡ (with_members s (set.remove s.members key), reply.Removed)
  rem_there key there = ap (λ b. removed b key) there

  pub rem_absent : (key : ℕ) → set.contains s.members key ≡ false → one n s j (Rem key) ≡ (s, reply.Absent)
  rem_absent key there = ap (λ b. removed b key) there

  -- where a new key is put
  abbrev given : Bool → ℕ → ℕ → ℕ → State × SingleReply
  given room stamp key v = if room then (with_pairs s (written s.pairs stamp key v), reply.NoPrior) else (s, reply.Full)

  pub put_was : (stamp key v u : ℕ) → stamp ≡ j + 1 → value_of s key ≡ Some u → one n s j (Put key v) ≡ (with_pairs s (written s.pairs stamp key v), reply.Was u)
  put_was stamp key v u at is = ap (put n s (j + 1) key v) is ∙ ap (λ t. (with_pairs s (written s.pairs t key v), reply.Was u)) (sym at)

  pub put_new : (stamp key v : ℕ) → stamp ≡ j + 1 → value_of s key ≡ None → live s < cap n → one n s j (Put key v) ≡ (with_pairs s (written s.pairs stamp key v), reply.NoPrior)
  put_new stamp key v at is lt = ap (put n s (j + 1) key v) is ∙ (λ i. given (room_is n s lt i) (sym at i) key v)

  pub put_full : (key v : ℕ) → value_of s key ≡ None → live s ≡ cap n → one n s j (Put key v) ≡ (s, reply.Full)
  put_full key v is full = ap (put n s (j + 1) key v) is ∙ ap (λ b. given b (j + 1) key v) (full_is n s full)

-- a move that writes with that stamp
pub moved : {n : ℕ} {new : List ℕ} (s : State) (j a b d : ℕ) {stamp : ℕ} {told : SingleReply} → stamp ≡ j + 1 →
    (let after = transfer s stamp a b d (value_of s a) (value_of s b) in (told ≡ after.1) × Contents n new after.0 (j + 1)) → let after = one n s j (Move a b d) in (told ≡ after.1) × Contents n new after.0 (j + 1)
moved {n} {new} s j a b d {told = told} at is =
    subst (λ (x : ℕ). let after = transfer s x a b d (value_of s a) (value_of s b) in (told ≡ after.1) × Contents n new after.0 (j + 1)) at is

-- the queue's first
pub deq_some : (s : State) (q : List ℕ) (v : ℕ) → Some v ≡ slice_get q 0 → deq s q ≡ (with_queue s (drop 1 q), reply.Head v)
deq_some s [] v is = absurd (let never : Some v ≡ None = is in cc)
deq_some s (x ∷ xs) v is = let same : Some v ≡ Some x = is in let here : x ≡ v = cc in ap (λ u. (with_queue s xs, reply.Head u)) here

pub deq_none : (s : State) (q : List ℕ) → None ≡ slice_get q 0 → deq s q ≡ (s, reply.Empty)
deq_none s [] is = λ i. (s, reply.Empty)
deq_none s (x ∷ xs) is = absurd (let never : None ≡ Some x = is in cc)

-- an update that does so
module _ {n : ℕ} {new : List ℕ} {k : ℕ} where
  pub by_step : (done : State × SingleReply) (after : State) (told : SingleReply) → done ≡ (after, told) → Contents n new after k → (told ≡ done.1) × Contents n new done.0 k
  by_step done after told is held = (sym (ap (λ d. d.1) is), subst (λ s. Contents n new s k) (sym (ap (λ d. d.0) is)) held)

-- an update that changes nothing
module _ {M : Type 0} {shown : ShownSpace M} {n : ℕ} {call : Single} {told : SingleReply} {old new : M} where
  pub stays : {loads : ℕ} → ((s : State) (j : ℕ) → Contents n (shown.image old) s (j + 1) → one n s j call ≡ (s, told)) → most_stores n call told ≡ 0 → Looks shown loads old new → DoesUpdate shown n call told old new
  stays is none looks = record {
    step_is = λ s j held. by_step (one n s j call) s told (is s j held) (subst (λ w. Contents n w s (j + 1)) (sym looks.image) held);
    stores = stores_most (most_stores n call told) (omega (arith, none)) looks.costs;
  }

  -- an update that changes something
  pub changes : {loads stores : ℕ} (after : State → State) → ((s : State) (j : ℕ) → Contents n (shown.image old) s (j + 1) → one n s j call ≡ (after s, told)) →
      ((s : State) (k : ℕ) → Contents n (shown.image old) s k → Contents n (shown.image new) (after s) k) → stores ≤ most_stores n call told → Costs shown loads stores old new → DoesUpdate shown n call told old new
  changes after is contents few costs = record {
    step_is = λ s j held. by_step (one n s j call) (after s) told (is s j held) (contents s (j + 1) held);
    stores = stores_most (most_stores n call told) few costs;
  }

-- what is counted is well-formed, and its stamp is that of each state and place for which it stands
module _ {n : ℕ} {w : List ℕ} {stamp : ℕ} (is : HasStamp n w stamp) where
  pub well_formed : IsWellFormed n w
  well_formed = record { state = is.state; count = is.place + 1; contents = is.contents }

  pub stamp_within : stamp ≤ slice_index w 2
  stamp_within = omega (arith, is.stamp_is, is.contents.1.shape.root.count_is)

  pub stamp_of : {s : State} (j : ℕ) → Contents n w s (j + 1) → stamp ≡ j + 1
  stamp_of j held = is.stamp_is ∙ (sym is.contents.1.shape.root.count_is ∙ held.1.shape.root.count_is)

-- the region in which one update more is counted
pub raised : {n : ℕ} {w w' : List ℕ} {s : State} {k : ℕ} → k < LAST_COUNT → slice_index w' 2 ≡ slice_index w 2 + 1 → ChangesOnly 2 1 w w' → Contents n w s k → Contents n w' s (k + 1)
raised {n} {w} {w'} {s} {k} lt word only held = recounted_contents (k + 1) (omega arith) (omega (arith, lt)) only (word ∙ ap (λ m. m + 1) held.1.shape.root.count_is) held

-- what is told of the queue's first
pub peek_some : (q : List ℕ) (v : ℕ) → Some v ≡ slice_get q 0 → first_of_queue q ≡ answer.Head v
peek_some [] v is = absurd (let never : Some v ≡ None = is in cc)
peek_some (x ∷ xs) v is = let same : Some v ≡ Some x = is in let here : x ≡ v = cc in ap answer.Head here

pub peek_none : (q : List ℕ) → None ≡ slice_get q 0 → first_of_queue q ≡ answer.Empty
peek_none [] is = λ i. answer.Empty
peek_none (x ∷ xs) is = absurd (let never : None ≡ Some x = is in cc)
