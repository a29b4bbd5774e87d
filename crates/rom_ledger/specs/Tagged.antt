-- The words of calls, replies and members stand for them alone.
use Rattle.std.proofs.Common.{◌≡◌, ℕ, ◌*◌, ◌≤◌, List, [], ◌∷◌, ◌++◌, length, Bool, true, false, refl, sym, ap, ◌∙◌, Some, None, append-nil, arith}
use Rattle.std.specs.Prelude.{Option, ◌==◌, if◌then◌else◌}
use Rattle.std.proofs.lemmas.Bool.{eqb-true}
use Rattle.rom_model.specs.Codes as heap
use Rattle.rom_model.specs.Singles.{reply_of}
use Rattle.rom_model.specs.State.{State, step}
use Rattle.rom_model.specs.declared.call.Call.{Call}
use Rattle.rom_model.specs.declared.call.Reply.{Reply}
use Rattle.rom_model.specs.declared.call.Reply.TheVariants as heap_reply
use Rattle.rom_model.specs.declared.call.Single.TheVariants.{Enq, Deq, Add, Rem, Put, Del, Move}
use Rattle.rom_model.specs.declared.call.SingleReply.{SingleReply}
use Rattle.rom_model.specs.declared.call.SingleReply.TheVariants as reply
use Rattle.rom_model.proofs.Tags.{call_only, reply_back, reply_few, reply_only, plain_reply_read, plain_reply_words, single_reply_back}
use Rattle.rom_ledger.specs.State.{conditional, ledger_step, reply_to}
use Rattle.rom_ledger.specs.Codes.{bare_member, bare_told, call_or, conditional_words, ledger_call_words, ledger_reply_words, member_words, one_member, reply_or, three_member, told_words, two_member, words_conditional, words_ledger_call, words_ledger_reply, words_member, words_other, words_told}
use Rattle.rom_ledger.specs.declared.call.Conditional.{Conditional}
use Rattle.rom_ledger.specs.declared.call.Conditional.TheVariants.{Inc, New, Cas, DeqIf}
use Rattle.rom_ledger.specs.declared.call.LedgerSingle.{LedgerSingle}
use Rattle.rom_ledger.specs.declared.call.LedgerSingle.TheVariants as single
use Rattle.rom_ledger.specs.declared.call.LedgerCall.{LedgerCall}
use Rattle.rom_ledger.specs.declared.call.LedgerCall.TheVariants as call
use Rattle.rom_ledger.specs.declared.call.LedgerTold.{LedgerTold}
use Rattle.rom_ledger.specs.declared.call.LedgerTold.TheVariants as told
use Rattle.rom_ledger.specs.declared.call.LedgerReply.{LedgerReply}
use Rattle.rom_ledger.specs.declared.call.LedgerReply.TheVariants as answer

none_only : {X P : Type 0} (x : X) → None ≡ Some x → P
none_only x is = absurd (let never : None ≡ Some x = is in cc)

same_some : {X : Type 0} (x y : X) → Some x ≡ Some y → x ≡ y
same_some x y is = cc

-- What is chosen by a tag of its own has the words that were read, where what is read otherwise has them.
chosen : {X : Type 0} (words : X → List ℕ) (tag own : ℕ) (x c : X) (behind : List ℕ) (rest : Option X) → words x ≡ own ∷ behind → (if tag == own then Some x else rest) ≡ Some c → (rest ≡ Some c → words c ≡ tag ∷ behind) → words c ≡ tag ∷ behind
chosen words tag own x c behind rest its is there = by_test (tag == own) refl is
  where
    by_test : (b : Bool) → (tag == own) ≡ b → (if b then Some x else rest) ≡ Some c → words c ≡ tag ∷ behind
    by_test true same here = ap words (sym (same_some x c here)) ∙ its ∙ ap (λ t. t ∷ behind) (sym (eqb-true tag own same))
    by_test false same here = there here

-- what is read only where a number is 0
behind_zero : {X P : Type 0} (v : ℕ) (c : X) (rest : Option X) → (if v == 0 then rest else None) ≡ Some c → (0 ≡ v → rest ≡ Some c → P) → P
behind_zero {P = P} v c rest is there = by_test (v == 0) refl is
  where
    by_test : (b : Bool) → (v == 0) ≡ b → (if b then rest else None) ≡ Some c → P
    by_test true same here = there (sym (eqb-true v 0 same)) here
    by_test false same here = none_only c here

-- words that are read as a conditional update are the words of that update
conditional_only : (words : List ℕ) (c : Conditional) → words_conditional words ≡ Some c → conditional_words c ≡ words
conditional_only [] c is = none_only c is
conditional_only (tag ∷ []) c is = none_only c is
conditional_only (tag ∷ v ∷ []) c is = chosen conditional_words tag 12 (DeqIf v) c (v ∷ []) None refl is (λ e. none_only c e)
conditional_only (tag ∷ k ∷ v ∷ []) c is = chosen conditional_words tag 9 (Inc k v) c (k ∷ v ∷ []) _ refl is (λ e. chosen conditional_words tag 10 (New k v) c (k ∷ v ∷ []) None refl e (λ e. none_only c e))
conditional_only (tag ∷ k ∷ u ∷ v ∷ []) c is = chosen conditional_words tag 11 (Cas k u v) c (k ∷ u ∷ v ∷ []) None refl is (λ e. none_only c e)
conditional_only (tag ∷ k ∷ u ∷ v ∷ x ∷ more) c is = none_only c is

-- words that are read as a call are the words of that call
pub tagged_call_only : (words : List ℕ) (c : LedgerCall) → words_ledger_call words ≡ Some c → ledger_call_words c ≡ words
tagged_call_only words c is = by_or (words_conditional words) (heap.words_call words) refl refl is
  where
    by_or : (own : Option Conditional) (other : Option Call) → words_conditional words ≡ own → heap.words_call words ≡ other → call_or own other ≡ Some c → ledger_call_words c ≡ words
    by_or (Some own) other read unread here = ap ledger_call_words (sym (same_some (call.Conditional own) c here)) ∙ conditional_only words own read
    by_or None (Some own) unread read here = ap ledger_call_words (sym (same_some (call.Heap own) c here)) ∙ call_only words own read
    by_or None None unread read here = none_only c here

-- words that are read as another number are its words
other_only : (words : List ℕ) (v : ℕ) → words_other words ≡ Some v → 15 ∷ v ∷ [] ≡ words
other_only [] v is = none_only v is
other_only (tag ∷ []) v is = none_only v is
other_only (tag ∷ u ∷ []) v is = chosen (λ w. 15 ∷ w ∷ []) tag 15 u v (u ∷ []) None refl is (λ e. none_only v e)
other_only (tag ∷ u ∷ x ∷ more) v is = none_only v is

-- words that are read as a reply are the words of that reply
pub tagged_reply_only : (words : List ℕ) (r : LedgerReply) → words_ledger_reply words ≡ Some r → ledger_reply_words r ≡ words
tagged_reply_only words r is = by_or (words_other words) (heap.words_reply words) refl refl is
  where
    by_or : (own : Option ℕ) (other : Option Reply) → words_other words ≡ own → heap.words_reply words ≡ other → reply_or own other ≡ Some r → ledger_reply_words r ≡ words
    by_or (Some v) other read unread here = ap ledger_reply_words (sym (same_some (answer.Other v) r here)) ∙ other_only words v read
    by_or None (Some own) unread read here = ap ledger_reply_words (sym (same_some (answer.Heap own) r here)) ∙ reply_only words own read
    by_or None None unread read here = none_only r here

-- the words of replies to a group are no other number's
no_other_group : (m : ℕ) (rest : List ℕ) → words_other (14 ∷ m ∷ rest) ≡ None
no_other_group m [] = refl
no_other_group m (x ∷ more) = refl

no_other : (r : Reply) → words_other (heap.reply_words r) ≡ None
no_other heap_reply.Queued = refl
no_other heap_reply.Full = refl
no_other (heap_reply.Head v) = refl
no_other heap_reply.Empty = refl
no_other heap_reply.Added = refl
no_other heap_reply.Present = refl
no_other heap_reply.Removed = refl
no_other heap_reply.Absent = refl
no_other heap_reply.NoPrior = refl
no_other (heap_reply.Was v) = refl
no_other heap_reply.Moved = refl
no_other (heap_reply.Short v) = refl
no_other heap_reply.Over = refl
no_other (heap_reply.All replies) = no_other_group (length replies) (heap.all_words heap.single_reply_words replies)

-- A reply of a queue, a set and a map is read from its words here too, where it is read there.
heap_reply_back : (r : Reply) → heap.words_reply (heap.reply_words r) ≡ Some r → words_ledger_reply (heap.reply_words r) ≡ Some (answer.Heap r)
heap_reply_back r back = λ i. reply_or (no_other r i) (back i)

-- the reply to an update of one structure is read from its words
plain_back : (r : SingleReply) → heap.words_reply (heap.reply_words (reply_of r)) ≡ Some (reply_of r)
plain_back r =
    let words = heap.single_reply_words r in
    ap heap.words_reply (plain_reply_words r ∙ sym (append-nil words)) ∙ plain_reply_read (words ++ []) r (single_reply_back r [])

told_reply_back : (t : LedgerTold) → words_ledger_reply (ledger_reply_words (reply_to t)) ≡ Some (reply_to t)
told_reply_back (told.Heap r) = heap_reply_back (reply_of r) (plain_back r)
told_reply_back (told.Other v) = refl

-- what is read as a call of a queue, a set and a map is read as it there
heap_read : (words : List ℕ) (c : Call) → words_ledger_call words ≡ Some (call.Heap c) → heap.words_call words ≡ Some c
heap_read words c is = by_or (words_conditional words) (heap.words_call words) is
  where
    by_or : (own : Option Conditional) (other : Option Call) → call_or own other ≡ Some (call.Heap c) → other ≡ Some c
    by_or (Some own) other here = absurd (let never : call.Conditional own ≡ call.Heap c = same_some (call.Conditional own) (call.Heap c) here in cc)
    by_or None (Some own) here = ap Some (let same : call.Heap own ≡ call.Heap c = same_some (call.Heap own) (call.Heap c) here in cc)
    by_or None None here = none_only (call.Heap c) here

-- the words of the reply to a call are read as that reply
pub tagged_reply_back : (n : ℕ) (s : State) (count : ℕ) (words : List ℕ) (c : LedgerCall) → words_ledger_call words ≡ Some c → let told = (ledger_step n s count c).1 in words_ledger_reply (ledger_reply_words told) ≡ Some told
tagged_reply_back n s count words (call.Conditional c) is = told_reply_back (conditional n s count c).1
tagged_reply_back n s count words (call.Heap c) is = heap_reply_back (step n s count c).1 (reply_back n s count words c (heap_read words c is))

-- the reply to an update of one structure has two words at most
plain_few : (r : SingleReply) → length (heap.single_reply_words r) ≤ 2
plain_few reply.Queued = omega arith
plain_few reply.Full = omega arith
plain_few (reply.Head v) = omega arith
plain_few reply.Empty = omega arith
plain_few reply.Added = omega arith
plain_few reply.Present = omega arith
plain_few reply.Removed = omega arith
plain_few reply.Absent = omega arith
plain_few reply.NoPrior = omega arith
plain_few (reply.Was v) = omega arith
plain_few reply.Moved = omega arith
plain_few (reply.Short v) = omega arith
plain_few reply.Over = omega arith

told_few : (t : LedgerTold) → length (ledger_reply_words (reply_to t)) ≤ 2
told_few (told.Heap r) = omega (arith, plain_few r, ap length (plain_reply_words r))
told_few (told.Other v) = omega arith

-- the words of the reply to a call are at most twice as many as those of the call
pub tagged_reply_few : (n : ℕ) (s : State) (count : ℕ) (words : List ℕ) (c : LedgerCall) → words_ledger_call words ≡ Some c → length (ledger_reply_words (ledger_step n s count c).1) ≤ 2 * length words
tagged_reply_few n s count words (call.Heap c) is = reply_few n s count words c (heap_read words c is)
tagged_reply_few n s count [] (call.Conditional c) is = none_only (call.Conditional c) is
tagged_reply_few n s count (tag ∷ words) (call.Conditional c) is = omega (arith, told_few (conditional n s count c).1)

-- no call's words begin with 0
pub tagged_no_zero_call : (words : List ℕ) → words_ledger_call (0 ∷ words) ≡ None
tagged_no_zero_call [] = refl
tagged_no_zero_call (a ∷ []) = refl
tagged_no_zero_call (a ∷ b ∷ []) = refl
tagged_no_zero_call (a ∷ b ∷ d ∷ []) = refl
tagged_no_zero_call (a ∷ b ∷ d ∷ x ∷ more) = refl

-- no reply's words begin with 0
pub tagged_no_zero_reply : (words : List ℕ) → words_ledger_reply (0 ∷ words) ≡ None
tagged_no_zero_reply [] = refl
tagged_no_zero_reply (v ∷ []) = refl
tagged_no_zero_reply (v ∷ x ∷ more) = refl

-- a member has four words
pub member_length : (m : LedgerSingle) → length (member_words m) ≡ 4
member_length (single.Heap (Enq v)) = refl
member_length (single.Heap Deq) = refl
member_length (single.Heap (Add k)) = refl
member_length (single.Heap (Rem k)) = refl
member_length (single.Heap (Put k v)) = refl
member_length (single.Heap (Del k)) = refl
member_length (single.Heap (Move a b d)) = refl
member_length (single.Conditional (Inc k d)) = refl
member_length (single.Conditional (New k v)) = refl
member_length (single.Conditional (Cas k u v)) = refl
member_length (single.Conditional (DeqIf v)) = refl

-- the words of a member are read as that member
pub tagged_member_back : (m : LedgerSingle) → words_member (member_words m) ≡ Some m
tagged_member_back (single.Heap (Enq v)) = refl
tagged_member_back (single.Heap Deq) = refl
tagged_member_back (single.Heap (Add k)) = refl
tagged_member_back (single.Heap (Rem k)) = refl
tagged_member_back (single.Heap (Put k v)) = refl
tagged_member_back (single.Heap (Del k)) = refl
tagged_member_back (single.Heap (Move a b d)) = refl
tagged_member_back (single.Conditional (Inc k d)) = refl
tagged_member_back (single.Conditional (New k v)) = refl
tagged_member_back (single.Conditional (Cas k u v)) = refl
tagged_member_back (single.Conditional (DeqIf v)) = refl

-- words that are read as a member are the words of that member
pub tagged_member_only : (words : List ℕ) (m : LedgerSingle) → words_member words ≡ Some m → member_words m ≡ words
tagged_member_only [] m is = none_only m is
tagged_member_only (tag ∷ []) m is = none_only m is
tagged_member_only (tag ∷ a ∷ []) m is = none_only m is
tagged_member_only (tag ∷ a ∷ b ∷ []) m is = none_only m is
tagged_member_only (tag ∷ a ∷ b ∷ d ∷ x ∷ more) m is = none_only m is
tagged_member_only (tag ∷ a ∷ b ∷ d ∷ []) m is = three d is
  where
    own : (tagged : ℕ) (x : LedgerSingle) (behind : List ℕ) (rest : Option LedgerSingle) → member_words x ≡ tagged ∷ behind → (if tag == tagged then Some x else rest) ≡ Some m → (rest ≡ Some m → member_words m ≡ tag ∷ behind) → member_words m ≡ tag ∷ behind
    own tagged x behind rest its e there = chosen member_words tag tagged x m behind rest its e there

    bare : bare_member tag ≡ Some m → member_words m ≡ tag ∷ 0 ∷ 0 ∷ 0 ∷ []
    bare e = own 2 (single.Heap Deq) (0 ∷ 0 ∷ 0 ∷ []) None refl e (λ e. none_only m e)

    one : (k : ℕ) → one_member tag k ≡ Some m → member_words m ≡ tag ∷ k ∷ 0 ∷ 0 ∷ []
    one k e =
        let behind = k ∷ 0 ∷ 0 ∷ [] in
        own 1 (single.Heap (Enq k)) behind _ refl e (λ e. own 3 (single.Heap (Add k)) behind _ refl e (λ e. own 4 (single.Heap (Rem k)) behind _ refl e (λ e. own 6 (single.Heap (Del k)) behind _ refl e (λ e.
        own 12 (single.Conditional (DeqIf k)) behind _ refl e (λ e. behind_zero k m (bare_member tag) e (λ zero e. bare e ∙ ap (λ v. tag ∷ v ∷ 0 ∷ 0 ∷ []) zero))))))

    two : (k v : ℕ) → two_member tag k v ≡ Some m → member_words m ≡ tag ∷ k ∷ v ∷ 0 ∷ []
    two k v e =
        let behind = k ∷ v ∷ 0 ∷ [] in
        own 5 (single.Heap (Put k v)) behind _ refl e (λ e. own 9 (single.Conditional (Inc k v)) behind _ refl e (λ e. own 10 (single.Conditional (New k v)) behind _ refl e (λ e.
        behind_zero v m (one_member tag k) e (λ zero e. one k e ∙ ap (λ v. tag ∷ k ∷ v ∷ 0 ∷ []) zero))))

    three : (d : ℕ) → three_member tag a b d ≡ Some m → member_words m ≡ tag ∷ a ∷ b ∷ d ∷ []
    three d e =
        let behind = a ∷ b ∷ d ∷ [] in
        own 7 (single.Heap (Move a b d)) behind _ refl e (λ e. own 11 (single.Conditional (Cas a b d)) behind _ refl e (λ e.
        behind_zero d m (two_member tag a b) e (λ zero e. two a b e ∙ ap (λ v. tag ∷ a ∷ b ∷ v ∷ []) zero)))

-- what a member is told has two words
pub told_length : (t : LedgerTold) → length (told_words t) ≡ 2
told_length (told.Heap reply.Queued) = refl
told_length (told.Heap reply.Full) = refl
told_length (told.Heap (reply.Head v)) = refl
told_length (told.Heap reply.Empty) = refl
told_length (told.Heap reply.Added) = refl
told_length (told.Heap reply.Present) = refl
told_length (told.Heap reply.Removed) = refl
told_length (told.Heap reply.Absent) = refl
told_length (told.Heap reply.NoPrior) = refl
told_length (told.Heap (reply.Was v)) = refl
told_length (told.Heap reply.Moved) = refl
told_length (told.Heap (reply.Short v)) = refl
told_length (told.Heap reply.Over) = refl
told_length (told.Other v) = refl

-- the words of what a member is told are read as that
pub tagged_told_back : (t : LedgerTold) → words_told (told_words t) ≡ Some t
tagged_told_back (told.Heap reply.Queued) = refl
tagged_told_back (told.Heap reply.Full) = refl
tagged_told_back (told.Heap (reply.Head v)) = refl
tagged_told_back (told.Heap reply.Empty) = refl
tagged_told_back (told.Heap reply.Added) = refl
tagged_told_back (told.Heap reply.Present) = refl
tagged_told_back (told.Heap reply.Removed) = refl
tagged_told_back (told.Heap reply.Absent) = refl
tagged_told_back (told.Heap reply.NoPrior) = refl
tagged_told_back (told.Heap (reply.Was v)) = refl
tagged_told_back (told.Heap reply.Moved) = refl
tagged_told_back (told.Heap (reply.Short v)) = refl
tagged_told_back (told.Heap reply.Over) = refl
tagged_told_back (told.Other v) = refl

-- words that are read as what a member is told are the words of that
pub tagged_told_only : (words : List ℕ) (t : LedgerTold) → words_told words ≡ Some t → told_words t ≡ words
tagged_told_only [] t is = none_only t is
tagged_told_only (tag ∷ []) t is = none_only t is
tagged_told_only (tag ∷ v ∷ x ∷ more) t is = none_only t is
tagged_told_only (tag ∷ v ∷ []) t is =
    own 3 (told.Heap (reply.Head v)) v _ refl is (λ e. own 10 (told.Heap (reply.Was v)) v _ refl e (λ e. own 12 (told.Heap (reply.Short v)) v _ refl e (λ e. own 15 (told.Other v) v _ refl e (λ e.
    behind_zero v t (bare_told tag) e (λ zero e. bare e ∙ ap (λ w. tag ∷ w ∷ []) zero)))))
  where
    own : (tagged : ℕ) (x : LedgerTold) (w : ℕ) (rest : Option LedgerTold) → told_words x ≡ tagged ∷ w ∷ [] → (if tag == tagged then Some x else rest) ≡ Some t → (rest ≡ Some t → told_words t ≡ tag ∷ w ∷ []) → told_words t ≡ tag ∷ w ∷ []
    own tagged x w rest its e there = chosen told_words tag tagged x t (w ∷ []) rest its e there

    alone : (tagged : ℕ) (r : SingleReply) (rest : Option LedgerTold) → told_words (told.Heap r) ≡ tagged ∷ 0 ∷ [] → (if tag == tagged then Some (told.Heap r) else rest) ≡ Some t → (rest ≡ Some t → told_words t ≡ tag ∷ 0 ∷ []) → told_words t ≡ tag ∷ 0 ∷ []
    alone tagged r rest its e there = own tagged (told.Heap r) 0 rest its e there

    bare : bare_told tag ≡ Some t → told_words t ≡ tag ∷ 0 ∷ []
    bare e =
        alone 1 reply.Queued _ refl e (λ e. alone 2 reply.Full _ refl e (λ e. alone 4 reply.Empty _ refl e (λ e. alone 5 reply.Added _ refl e (λ e. alone 6 reply.Present _ refl e (λ e. alone 7 reply.Removed _ refl e (λ e.
        alone 8 reply.Absent _ refl e (λ e. alone 9 reply.NoPrior _ refl e (λ e. alone 11 reply.Moved _ refl e (λ e. alone 13 reply.Over None refl e (λ e. none_only t e))))))))))
