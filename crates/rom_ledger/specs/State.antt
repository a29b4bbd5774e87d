-- What the updates of a ledger do, in the state of a queue, a set and a map.
use Rattle.std.specs.Prelude.{ℕ, ◌+◌, ◌^◌, ◌==◌, Bool, true, false, List, [], ◌∷◌, nat_lt, Option, Some, None, if◌then◌else◌}
use Rattle.rom_model.specs.State.{State, has_room, step, value_of, written}
use Rattle.rom_model.specs.Singles.{call_of, reply_kind, reply_of}
use Rattle.rom_model.specs.declared.call.Kind.{Kind}
use Rattle.rom_model.specs.declared.call.Kind.TheVariants as kind
use Rattle.rom_model.specs.declared.call.Single.TheVariants.{Del}
use Rattle.rom_model.specs.declared.call.SingleReply.{SingleReply}
use Rattle.rom_model.specs.declared.call.SingleReply.TheVariants as reply
use Rattle.rom_ledger.specs.declared.call.Conditional.{Conditional}
use Rattle.rom_ledger.specs.declared.call.Conditional.TheVariants.{Inc, New, Cas, DeqIf}
use Rattle.rom_ledger.specs.declared.call.LedgerSingle.{LedgerSingle}
use Rattle.rom_ledger.specs.declared.call.LedgerSingle.TheVariants as single
use Rattle.rom_ledger.specs.declared.call.LedgerCall.{LedgerCall}
use Rattle.rom_ledger.specs.declared.call.LedgerCall.TheVariants as call
use Rattle.rom_ledger.specs.declared.call.LedgerTold.{LedgerTold}
use Rattle.rom_ledger.specs.declared.call.LedgerTold.TheVariants as told
use Rattle.rom_ledger.specs.declared.call.LedgerReply.{LedgerReply}
use Rattle.rom_ledger.specs.declared.call.LedgerReply.TheVariants as answer

-- a key has the value v now, written with that stamp
abbrev pub with_value : State → ℕ → ℕ → ℕ → State
with_value s stamp k v = record s { pairs = written s.pairs stamp k v }

-- d is added to the value of a key, where it has one; the last argument is the key's value now
abbrev pub inc : State → ℕ → ℕ → ℕ → Option ℕ → State × LedgerTold
inc s stamp k d None = (s, told.Heap reply.Absent)
inc s stamp k d (Some u) = if nat_lt (u + d) (2 ^ 64) then (with_value s stamp k (u + d), told.Heap (reply.Was u)) else (s, told.Heap reply.Over)

-- a key gets the value v, where it has none; the last argument is the key's value now
abbrev pub make : ℕ → State → ℕ → ℕ → ℕ → Option ℕ → State × LedgerTold
make n s stamp k v (Some u) = (s, told.Heap reply.Present)
make n s stamp k v None = if has_room n s then (with_value s stamp k v, told.Heap reply.Added) else (s, told.Heap reply.Full)

-- a key gets the value v, where it has the value u; the last argument is the key's value now
abbrev pub cas : State → ℕ → ℕ → ℕ → ℕ → Option ℕ → State × LedgerTold
cas s stamp k u v None = (s, told.Heap reply.Absent)
cas s stamp k u v (Some w) = if w == u then (with_value s stamp k v, told.Heap (reply.Was w)) else (s, told.Other w)

-- the queue's first is taken, where it is v
abbrev pub deq_if : State → ℕ → List ℕ → State × LedgerTold
deq_if s v [] = (s, told.Heap reply.Empty)
deq_if s v (w ∷ rest) = if w == v then (record s { queue = rest }, told.Heap (reply.Head w)) else (s, told.Other w)

-- What a conditional update leaves in a heap of order n that has counted so many updates, and what it is told.
abbrev pub conditional : ℕ → State → ℕ → Conditional → State × LedgerTold
conditional n s count (Inc k d) = inc s (count + 1) k d (value_of s k)
conditional n s count (New k v) = make n s (count + 1) k v (value_of s k)
conditional n s count (Cas k u v) = cas s (count + 1) k u v (value_of s k)
conditional n s count (DeqIf v) = deq_if s v s.queue

-- what is told of an update that is done alone
abbrev pub reply_to : LedgerTold → LedgerReply
reply_to (told.Heap r) = answer.Heap (reply_of r)
reply_to (told.Other v) = answer.Other v

-- what a call leaves, and what it is told
abbrev pub ledger_step : ℕ → State → ℕ → LedgerCall → State × LedgerReply
ledger_step n s count (call.Heap c) = let done = step n s count c in (done.0, answer.Heap done.1)
ledger_step n s count (call.Conditional c) = let done = conditional n s count c in (done.0, reply_to done.1)

-- the call that does what a member does
abbrev pub as_call : LedgerSingle → LedgerCall
as_call (single.Heap c) = call.Heap (call_of c)
as_call (single.Conditional c) = call.Conditional c

-- what a member is told, of the kind of its call's reply; a member's call is no group, so that the second line is never used
abbrev pub told_alone : Kind SingleReply (List SingleReply) → LedgerTold
told_alone (kind.Single r) = told.Heap r
told_alone (kind.Several replies) = told.Heap reply.Full

-- what a member is told, of the reply to its call
abbrev pub told_of : LedgerReply → LedgerTold
told_of (answer.Heap r) = told_alone (reply_kind r)
told_of (answer.Other v) = told.Other v

-- Whether a reply is a success. `none` says whether `NoPrior` is one of this update: it is to `put`, whose key had
-- no value, and not to `del`, whose key was to go.
abbrev pub is_success : Bool → SingleReply → Bool
is_success none reply.Queued = true
is_success none (reply.Head v) = true
is_success none reply.Added = true
is_success none reply.Removed = true
is_success none (reply.Was v) = true
is_success none reply.Moved = true
is_success none reply.NoPrior = none
is_success none reply.Full = false
is_success none reply.Empty = false
is_success none reply.Present = false
is_success none reply.Absent = false
is_success none (reply.Short v) = false
is_success none reply.Over = false

-- whether `none` is a success of an update
abbrev pub none_is_success : LedgerSingle → Bool
none_is_success (single.Heap (Del k)) = false
none_is_success other = true

-- whether a member that was told this did what it is for
abbrev pub succeeds : LedgerSingle → LedgerTold → Bool
succeeds m (told.Heap r) = is_success (none_is_success m) r
succeeds m (told.Other v) = false
