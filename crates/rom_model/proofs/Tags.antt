-- The words of calls and replies stand for them alone.
use Rattle.std.proofs.Common.{◌≡◌, ℕ, zero, suc, List, [], ◌∷◌, ◌++◌, length, Bool, true, false, refl, sym, ap, subst, ◌∙◌, Some, None, append_assoc, append-nil, ◌+◌, ◌*◌, ◌≤◌, arith}
use Rattle.std.specs.Prelude.{Option, option_map, ◌==◌, nat_le, ◌&&◌, if◌then◌else◌}
use Rattle.std.specs.Option.{option_and_then}
use Rattle.std.proofs.lemmas.Bool.{eqb-true}
use Rattle.std.proofs.lemmas.List.{length-append}
use Rattle.std.proofs.lemmas.Option.{option_and_then_some}
use Rattle.rom_model.specs.State.{State, one, replies_to, state_after, any_full, step_of, step}
use Rattle.rom_model.specs.Groups.{is_size, HasSize, HasFewReplies}
use Rattle.rom_model.specs.Singles.{call_of, kind_of, reply_of, reply_kind}
use Rattle.rom_model.specs.declared.call.Kind.{Kind}
use Rattle.rom_model.specs.declared.call.Kind.TheVariants as kind
use Rattle.rom_model.specs.declared.call.Single.{Single}
use Rattle.rom_model.specs.declared.call.Single.TheVariants.{Enq, Deq, Add, Rem, Put, Del, Move}
use Rattle.rom_model.specs.declared.call.SingleReply.{SingleReply}
use Rattle.rom_model.specs.declared.call.SingleReply.TheVariants.{Queued, Full, Head, Empty, Added, Present, Removed, Absent, NoPrior, Was, Moved, Short, Over}
use Rattle.rom_model.specs.declared.call.Call.{Call}
use Rattle.rom_model.specs.declared.call.Call.TheVariants as call
use Rattle.rom_model.specs.declared.call.Reply.{Reply}
use Rattle.rom_model.specs.declared.call.Reply.TheVariants as reply
use Rattle.rom_model.specs.Codes.{all_words, read_all, whole, single_words, read_three, read_two, read_one, read_single, kind_words, call_words, read_group, words_call, single_reply_words, read_number, read_single_reply, reply_kind_words, reply_words, read_replies, words_reply}

and-right : (a b : Bool) → (a && b) ≡ true → b ≡ true
and-right true b is = is
and-right false b is = absurd (let never : false ≡ true = is in cc)

-- What is read from the words of one, and of many, whatever words are behind them.
module _ {X : Type 0} (words : X → List ℕ) (read : List ℕ → Option (X × List ℕ)) (one_back : (x : X) (rest : List ℕ) → read (words x ++ rest) ≡ Some (x, rest)) where
  pub all_back : (xs : List X) (rest : List ℕ) → read_all read (length xs) (all_words words xs ++ rest) ≡ Some (xs, rest)
  all_back [] rest = refl
  all_back (x ∷ xs) rest =
      let next : Option (X × List ℕ) → Option (List X × List ℕ) = option_and_then (λ first. option_map (λ more. (first.0 ∷ more.0, more.1)) (read_all read (length xs) first.1)) in
      let first : read ((words x ++ all_words words xs) ++ rest) ≡ Some (x, all_words words xs ++ rest) = ap read (append_assoc (words x) (all_words words xs) rest) ∙ one_back x (all_words words xs ++ rest) in
      ap next first ∙ ap (λ (o : Option (List X × List ℕ)). option_map (λ more. (x ∷ more.0, more.1)) o) (all_back xs rest)

  pub whole_back : {Y : Type 0} (make : List X → Y) (xs : List X) → whole make (read_all read (length xs) (all_words words xs)) ≡ Some (make xs)
  whole_back make xs = ap (λ (ws : List ℕ). whole make (read_all read (length xs) ws)) (sym (append-nil (all_words words xs))) ∙ ap (whole make) (all_back xs [])

pub single_back : (c : Single) (rest : List ℕ) → read_single (single_words c ++ rest) ≡ Some (c, rest)
single_back (Enq v) rest = refl
single_back Deq rest = refl
single_back (Add k) rest = refl
single_back (Rem k) rest = refl
single_back (Put k v) rest = refl
single_back (Del k) rest = refl
single_back (Move a b d) rest = refl

pub single_reply_back : (r : SingleReply) (rest : List ℕ) → read_single_reply (single_reply_words r ++ rest) ≡ Some (r, rest)
single_reply_back Queued rest = refl
single_reply_back Full rest = refl
single_reply_back (Head v) rest = refl
single_reply_back Empty rest = refl
single_reply_back Added rest = refl
single_reply_back Present rest = refl
single_reply_back Removed rest = refl
single_reply_back Absent rest = refl
single_reply_back NoPrior rest = refl
single_reply_back (Was v) rest = refl
single_reply_back Moved rest = refl
single_reply_back (Short v) rest = refl
single_reply_back Over rest = refl

-- of a group of two to eight members
pub group_back : (calls : List Single) → is_size (length calls) ≡ true → words_call (kind_words (kind.Several calls)) ≡ Some (call.Group calls)
group_back calls size =
    ap (λ (b : Bool). if b then whole call.Group (read_all read_single (length calls) (all_words single_words calls)) else None) size ∙ whole_back single_words read_single single_back call.Group calls

pub replies_back : (replies : List SingleReply) → nat_le (length replies) 8 ≡ true → words_reply (reply_kind_words (kind.Several replies)) ≡ Some (reply.All replies)
replies_back replies size =
    ap (λ (b : Bool). if b then whole reply.All (read_all read_single_reply (length replies) (all_words single_reply_words replies)) else None) size ∙ whole_back single_reply_words read_single_reply single_reply_back reply.All replies

-- The words of any group, also of one with another number of members, are read as the group or as nothing.
pub group_or_none : (calls : List Single) (P : Option Call → Type 0) → P (Some (call.Group calls)) → P None → P (words_call (kind_words (kind.Several calls)))
group_or_none calls P some none = by_size (is_size (length calls))
  where
    by_size : (b : Bool) → P (if b then whole call.Group (read_all read_single (length calls) (all_words single_words calls)) else None)
    by_size true = subst P (sym (whole_back single_words read_single single_back call.Group calls)) some
    by_size false = none

-- so of replies
pub replies_or_none : (replies : List SingleReply) (P : Option Reply → Type 0) → P (Some (reply.All replies)) → P None → P (words_reply (reply_kind_words (kind.Several replies)))
replies_or_none replies P some none = by_size (nat_le (length replies) 8)
  where
    by_size : (b : Bool) → P (if b then whole reply.All (read_all read_single_reply (length replies) (all_words single_reply_words replies)) else None)
    by_size true = subst P (sym (whole_back single_reply_words read_single_reply single_reply_back reply.All replies)) some
    by_size false = none

-- The words of each call and each reply that a program can have are read as it.
pub call_back : (c : Call) → HasSize (kind_of c) → words_call (call_words c) ≡ Some c
call_back (call.Enq v) size = refl
call_back call.Deq size = refl
call_back (call.Add k) size = refl
call_back (call.Rem k) size = refl
call_back (call.Put k v) size = refl
call_back (call.Del k) size = refl
call_back (call.Move a b d) size = refl
call_back (call.Group calls) size = group_back calls size

pub coded_reply : (r : Reply) → HasFewReplies (reply_kind r) → words_reply (reply_words r) ≡ Some r
coded_reply reply.Queued size = refl
coded_reply reply.Full size = refl
coded_reply (reply.Head v) size = refl
coded_reply reply.Empty size = refl
coded_reply reply.Added size = refl
coded_reply reply.Present size = refl
coded_reply reply.Removed size = refl
coded_reply reply.Absent size = refl
coded_reply reply.NoPrior size = refl
coded_reply (reply.Was v) size = refl
coded_reply reply.Moved size = refl
coded_reply (reply.Short v) size = refl
coded_reply reply.Over size = refl
coded_reply (reply.All replies) size = replies_back replies size

-- the replies of that kind
of_all : (r : Reply) → (replies : List SingleReply) → reply_kind r ≡ kind.Several replies → reply.All replies ≡ r
of_all (reply.All own) replies is = ap reply.All (let same : kind.Several own ≡ kind.Several replies = is in let one : replies ≡ own = cc in one)
of_all other replies is = absurd (let never : kind.Single _ ≡ kind.Several replies = is in cc)

pub several_reply : (r : Reply) (replies : List SingleReply) → reply_kind r ≡ kind.Several replies → reply.All replies ≡ r
several_reply r replies is = of_all r replies is

-- What words are read as are those words.
by_some : {A B P : Type 0} (f : A → B) (o : Option A) (y : B) → option_map f o ≡ Some y → ((x : A) → o ≡ Some x → f x ≡ y → P) → P
by_some f None y is found = absurd (let never : None ≡ Some y = is in cc)
by_some f (Some x) y is found = found x refl (let same : Some (f x) ≡ Some y = is in cc)

by_whole : {X Y P : Type 0} (make : X → Y) (o : Option (X × List ℕ)) (y : Y) → whole make o ≡ Some y → ((x : X) → o ≡ Some (x, []) → make x ≡ y → P) → P
by_whole make None y is found = absurd (let never : None ≡ Some y = is in cc)
by_whole make (Some (x, [])) y is found = found x refl (let same : Some (make x) ≡ Some y = is in cc)
by_whole make (Some (x, w ∷ more)) y is found = absurd (let never : None ≡ Some y = is in cc)

by_test : {Y P : Type 0} (b : Bool) (o e : Option Y) (y : Y) → (if b then o else e) ≡ Some y → (b ≡ true → o ≡ Some y → P) → (e ≡ Some y → P) → P
by_test true o e y is here there = here refl is
by_test false o e y is here there = there is

module _ {X : Type 0} (words : X → List ℕ) (read : List ℕ → Option (X × List ℕ)) (one_only : (ws : List ℕ) (x : X) (rest : List ℕ) → read ws ≡ Some (x, rest) → words x ++ rest ≡ ws) where
  pub all_only : (m : ℕ) (ws : List ℕ) (done : List X × List ℕ) → read_all read m ws ≡ Some done → (length done.0 ≡ m) × (all_words words done.0 ++ done.1 ≡ ws)
  all_only zero ws done is =
      let same : Some ([], ws) ≡ Some done = is in let here : ([], ws) ≡ done = cc in
      (ap (λ (d : List X × List ℕ). length d.0) (sym here), ap (λ (d : List X × List ℕ). all_words words d.0 ++ d.1) (sym here))
  all_only (suc m) ws done is =
      option_and_then_some (λ first. option_map (λ more. (first.0 ∷ more.0, more.1)) (read_all read m first.1)) (read ws) done is (λ first first_is rest.
      by_some (λ more. (first.0 ∷ more.0, more.1)) (read_all read m first.1) done rest (λ more more_is same.
      let deeper = all_only m first.1 more more_is in
      let one : words first.0 ++ first.1 ≡ ws = one_only ws first.0 first.1 first_is in (
        ap (λ (d : List X × List ℕ). length d.0) (sym same) ∙ ap suc deeper.0,
        ap (λ (d : List X × List ℕ). all_words words d.0 ++ d.1) (sym same) ∙ (append_assoc (words first.0) (all_words words more.0) more.1 ∙ (ap (λ (l : List ℕ). words first.0 ++ l) deeper.1 ∙ one)),
      )))

one_some : {X : Type 0} (x y : X) → Some x ≡ Some y → x ≡ y
one_some x y is = cc

-- what is chosen by its own tag
by_tag : {X P : Type 0} (tag own : ℕ) (x y : X) (rest more : List ℕ) (other : Option (X × List ℕ)) → (if tag == own then Some (x, rest) else other) ≡ Some (y, more) → (tag ≡ own → x ≡ y → rest ≡ more → P) → (other ≡ Some (y, more) → P) → P
by_tag tag own x y rest more other is here there =
    by_test (tag == own) (Some (x, rest)) other (y, more) is (λ test same. let e : (x, rest) ≡ (y, more) = one_some (x, rest) (y, more) same in here (eqb-true tag own test) (ap (λ p. p.0) e) (ap (λ p. p.1) e)) there

abbrev IsOf : {X : Type 0} → (X → List ℕ) → X → List ℕ → List ℕ → Type 0
IsOf words x rest ws = words x ++ rest ≡ ws

-- the words of one that is chosen by its own tag are that tag and its numbers
by_own : {X : Type 0} (words : X → List ℕ) (tag own : ℕ) (x y : X) (numbers rest more : List ℕ) (other : Option (X × List ℕ)) → words x ≡ own ∷ numbers → (if tag == own then Some (x, rest) else other) ≡ Some (y, more)
    → (other ≡ Some (y, more) → IsOf words y more (tag ∷ (numbers ++ rest))) → IsOf words y more (tag ∷ (numbers ++ rest))
by_own words tag own x y numbers rest more other its is there =
    by_tag tag own x y rest more other is (λ same here behind. (λ i. words (sym here i) ++ sym behind i) ∙ (ap (λ (l : List ℕ). l ++ rest) its ∙ ap (λ t. t ∷ (numbers ++ rest)) (sym same))) there

none_only : {X P : Type 0} (y : X) → None ≡ Some y → P
none_only y is = absurd (let never : None ≡ Some y = is in cc)

pub single_only : (ws : List ℕ) (x : Single) (rest : List ℕ) → read_single ws ≡ Some (x, rest) → IsOf single_words x rest ws
single_only [] x more is = none_only (x, more) is
single_only (tag ∷ rest) x more is = by_own single_words tag 2 Deq x [] rest more (read_one tag rest) refl is (ones rest)
  where
    threes : (a b : ℕ) (rest : List ℕ) → read_three tag a b rest ≡ Some (x, more) → IsOf single_words x more (tag ∷ a ∷ b ∷ rest)
    threes a b [] is = none_only (x, more) is
    threes a b (d ∷ rest) is = by_own single_words tag 7 (Move a b d) x (a ∷ b ∷ d ∷ []) rest more None refl is (λ e. none_only (x, more) e)

    twos : (k : ℕ) (rest : List ℕ) → read_two tag k rest ≡ Some (x, more) → IsOf single_words x more (tag ∷ k ∷ rest)
    twos k [] is = none_only (x, more) is
    twos k (v ∷ rest) is = by_own single_words tag 5 (Put k v) x (k ∷ v ∷ []) rest more (read_three tag k v rest) refl is (threes k v rest)

    ones : (rest : List ℕ) → read_one tag rest ≡ Some (x, more) → IsOf single_words x more (tag ∷ rest)
    ones [] is = none_only (x, more) is
    ones (k ∷ rest) is =
        by_own single_words tag 1 (Enq k) x (k ∷ []) rest more _ refl is (λ e. by_own single_words tag 3 (Add k) x (k ∷ []) rest more _ refl e (λ e. by_own single_words tag 4 (Rem k) x (k ∷ []) rest more _ refl e (λ e.
        by_own single_words tag 6 (Del k) x (k ∷ []) rest more (read_two tag k rest) refl e (twos k rest))))

pub single_reply_only : (ws : List ℕ) (x : SingleReply) (rest : List ℕ) → read_single_reply ws ≡ Some (x, rest) → IsOf single_reply_words x rest ws
single_reply_only [] x more is = none_only (x, more) is
single_reply_only (tag ∷ rest) x more is =
    bare 1 Queued refl _ is (λ e. bare 2 Full refl _ e (λ e. bare 4 Empty refl _ e (λ e. bare 5 Added refl _ e (λ e. bare 6 Present refl _ e (λ e. bare 7 Removed refl _ e (λ e. bare 8 Absent refl _ e (λ e.
    bare 9 NoPrior refl _ e (λ e. bare 11 Moved refl _ e (λ e. bare 13 Over refl (read_number tag rest) e (numbers rest))))))))))
  where
    bare : (own : ℕ) (r : SingleReply) → single_reply_words r ≡ own ∷ [] → (other : Option (SingleReply × List ℕ)) → (if tag == own then Some (r, rest) else other) ≡ Some (x, more) → (other ≡ Some (x, more) → IsOf single_reply_words x more (tag ∷ rest)) → IsOf single_reply_words x more (tag ∷ rest)
    bare own r its other is there = by_own single_reply_words tag own r x [] rest more other its is there

    numbers : (rest : List ℕ) → read_number tag rest ≡ Some (x, more) → IsOf single_reply_words x more (tag ∷ rest)
    numbers [] is = none_only (x, more) is
    numbers (v ∷ rest) is =
        by_own single_reply_words tag 3 (Head v) x (v ∷ []) rest more _ refl is (λ e. by_own single_reply_words tag 10 (Was v) x (v ∷ []) rest more _ refl e (λ e.
        by_own single_reply_words tag 12 (Short v) x (v ∷ []) rest more None refl e (λ e. none_only (x, more) e)))

plain_words : (c : Single) → call_words (call_of c) ≡ single_words c
plain_words (Enq v) = refl
plain_words Deq = refl
plain_words (Add k) = refl
plain_words (Rem k) = refl
plain_words (Put k v) = refl
plain_words (Del k) = refl
plain_words (Move a b d) = refl

-- an update that is done alone
pub plain_kind : (c : Single) → kind_of (call_of c) ≡ kind.Single c
plain_kind (Enq v) = refl
plain_kind Deq = refl
plain_kind (Add k) = refl
plain_kind (Rem k) = refl
plain_kind (Put k v) = refl
plain_kind (Del k) = refl
plain_kind (Move a b d) = refl

plain_size : (c : Single) → HasSize (kind_of (call_of c))
plain_size (Enq v) = tt
plain_size Deq = tt
plain_size (Add k) = tt
plain_size (Rem k) = tt
plain_size (Put k v) = tt
plain_size (Del k) = tt
plain_size (Move a b d) = tt

pub plain_reply_words : (r : SingleReply) → reply_words (reply_of r) ≡ single_reply_words r
plain_reply_words Queued = refl
plain_reply_words Full = refl
plain_reply_words (Head v) = refl
plain_reply_words Empty = refl
plain_reply_words Added = refl
plain_reply_words Present = refl
plain_reply_words Removed = refl
plain_reply_words Absent = refl
plain_reply_words NoPrior = refl
plain_reply_words (Was v) = refl
plain_reply_words Moved = refl
plain_reply_words (Short v) = refl
plain_reply_words Over = refl

-- what is read as a call has these words, and its group has two to eight members
pub call_read : (words : List ℕ) (c : Call) → words_call words ≡ Some c → (call_words c ≡ words) × HasSize (kind_of c)
call_read [] c is = none_only c is
call_read (tag ∷ rest) c is =
    by_test (tag == 8) (read_group rest) (whole call_of (read_single (tag ∷ rest))) c is (λ test here. in_group rest here (eqb-true tag 8 test))
    (λ here. by_whole call_of (read_single (tag ∷ rest)) c here (λ x read same.
    (ap call_words (sym same) ∙ (plain_words x ∙ (sym (append-nil (single_words x)) ∙ single_only (tag ∷ rest) x [] read)), subst (λ y. HasSize (kind_of y)) same (plain_size x))))
  where
    in_group : (rest : List ℕ) → read_group rest ≡ Some c → tag ≡ 8 → (call_words c ≡ tag ∷ rest) × HasSize (kind_of c)
    in_group [] is tagged = none_only c is
    in_group (m ∷ rest) is tagged =
        by_test (is_size m) (whole call.Group (read_all read_single m rest)) None c is (λ size here. by_whole call.Group (read_all read_single m rest) c here (λ calls read same.
        let done = all_only single_words read_single single_only m rest (calls, []) read in
        let members : all_words single_words calls ≡ rest = sym (append-nil (all_words single_words calls)) ∙ done.1 in
        (ap call_words (sym same) ∙ (λ i. sym tagged i ∷ done.0 i ∷ members i), subst (λ y. HasSize (kind_of y)) same (ap is_size done.0 ∙ size)))) (λ e. none_only c e)

pub call_only : (words : List ℕ) (call : Call) → words_call words ≡ Some call → call_words call ≡ words
call_only words call is = (call_read words call is).0

pub has_size : (words : List ℕ) (call : Call) → words_call words ≡ Some call → HasSize (kind_of call)
has_size words call is = (call_read words call is).1

pub reply_only : (words : List ℕ) (reply : Reply) → words_reply words ≡ Some reply → reply_words reply ≡ words
reply_only [] r is = none_only r is
reply_only (tag ∷ rest) r is =
    by_test (tag == 14) (read_replies rest) (whole reply_of (read_single_reply (tag ∷ rest))) r is (λ test here. of_group rest here (eqb-true tag 14 test))
    (λ here. by_whole reply_of (read_single_reply (tag ∷ rest)) r here (λ x read same.
    ap reply_words (sym same) ∙ (plain_reply_words x ∙ (sym (append-nil (single_reply_words x)) ∙ single_reply_only (tag ∷ rest) x [] read))))
  where
    of_group : (rest : List ℕ) → read_replies rest ≡ Some r → tag ≡ 14 → reply_words r ≡ tag ∷ rest
    of_group [] is tagged = none_only r is
    of_group (m ∷ rest) is tagged =
        by_test (nat_le m 8) (whole reply.All (read_all read_single_reply m rest)) None r is (λ size here. by_whole reply.All (read_all read_single_reply m rest) r here (λ replies read same.
        let done = all_only single_reply_words read_single_reply single_reply_only m rest (replies, []) read in
        let members : all_words single_reply_words replies ≡ rest = sym (append-nil (all_words single_reply_words replies)) ∙ done.1 in
        ap reply_words (sym same) ∙ (λ i. sym tagged i ∷ done.0 i ∷ members i))) (λ e. none_only r e)

-- The words of a reply to an update of one structure are read as it, and no word is left.
single_reply_alone : (ws : List ℕ) (r : SingleReply) → words_reply ws ≡ Some (reply_of r) → read_single_reply ws ≡ Some (r, [])
single_reply_alone ws r is = ap read_single_reply (sym (reply_only ws (reply_of r) is) ∙ (plain_reply_words r ∙ sym (append-nil (single_reply_words r)))) ∙ single_reply_back r []

-- the words that are left behind what was read
left_of : Option (SingleReply × List ℕ) → List ℕ
left_of None = []
left_of (Some (r, rest)) = rest

-- No word is left behind the reply whose words these are.
pub none_left : (ws : List ℕ) (o : SingleReply) (rest : List ℕ) → read_single_reply ws ≡ Some (o, rest) → (r : SingleReply) → words_reply ws ≡ Some (reply_of r) → rest ≡ []
unfolding left_of
none_left ws o rest read r is = ap left_of (sym read ∙ single_reply_alone ws r is)

-- no update of one structure begins the words of a group
none_in_group : (rest : List ℕ) → read_single (8 ∷ rest) ≡ None
none_in_group [] = refl
none_in_group (a ∷ []) = refl
none_in_group (a ∷ b ∷ []) = refl
none_in_group (a ∷ b ∷ d ∷ rest) = refl

-- the first update of one structure in words
abbrev first_of : Option (Single × List ℕ) → Option Single
first_of read = option_map (λ r. r.0) read

-- a call whose words begin with an update of one structure is that update
pub single_is : (words : List ℕ) (x : Single) (c : Call) → first_of (read_single words) ≡ Some x → words_call words ≡ Some c → c ≡ call_of x
single_is [] x c first is = none_only x first
single_is (tag ∷ rest) x c first is =
    by_test (tag == 8) (read_group rest) (whole call_of (read_single (tag ∷ rest))) c is (λ test here. none_only x (sym (ap first_of (ap (λ t. read_single (t ∷ rest)) (eqb-true tag 8 test) ∙ none_in_group rest)) ∙ first))
    (λ here. by_whole call_of (read_single (tag ∷ rest)) c here (λ y read same. sym same ∙ ap call_of (one_some y x (sym (ap first_of read) ∙ first))))

as_many : (n : ℕ) (s : State) (count : ℕ) (calls : List Single) → length (replies_to n s count calls) ≡ length calls
as_many n s count [] = refl
as_many n s count (c ∷ calls) = ap suc (as_many n (one n s count c).0 count calls)

replied : (n : ℕ) (s : State) (count : ℕ) (call : Kind Single (List Single)) → HasSize call → HasFewReplies (reply_kind (step_of n s count call).1)
replied n s count (kind.Single c) size = plain (one n s count c).1
  where
    plain : (r : SingleReply) → HasFewReplies (reply_kind (reply_of r))
    plain Queued = tt
    plain Full = tt
    plain (Head v) = tt
    plain Empty = tt
    plain Added = tt
    plain Present = tt
    plain Removed = tt
    plain Absent = tt
    plain NoPrior = tt
    plain (Was v) = tt
    plain Moved = tt
    plain (Short v) = tt
    plain Over = tt
replied n s count (kind.Several calls) size = in_group (any_full (replies_to n s count calls))
  where
    in_group : (b : Bool) → HasFewReplies (reply_kind (let done : State × Reply = if b then (s, reply.Full) else (state_after n s count calls, reply.All (replies_to n s count calls)) in done.1))
    in_group true = tt
    in_group false = ap (λ m. nat_le m 8) (as_many n s count calls) ∙ and-right (nat_le 2 (length calls)) (nat_le (length calls) 8) size

pub reply_back : (n : ℕ) (s : State) (count : ℕ) (words : List ℕ) (call : Call) → words_call words ≡ Some call → let told = (step n s count call).1 in words_reply (reply_words told) ≡ Some told
reply_back n s count words call is = coded_reply (step n s count call).1 (replied n s count (kind_of call) (has_size words call is))

-- an update of one structure has a word at least, and the reply to it two at most
some_words : (c : Single) → 1 ≤ length (single_words c)
some_words (Enq v) = omega arith
some_words Deq = omega arith
some_words (Add k) = omega arith
some_words (Rem k) = omega arith
some_words (Put k v) = omega arith
some_words (Del k) = omega arith
some_words (Move a b d) = omega arith

two_words : (r : SingleReply) → length (single_reply_words r) ≤ 2
two_words Queued = omega arith
two_words Full = omega arith
two_words (Head v) = omega arith
two_words Empty = omega arith
two_words Added = omega arith
two_words Present = omega arith
two_words Removed = omega arith
two_words Absent = omega arith
two_words NoPrior = omega arith
two_words (Was v) = omega arith
two_words Moved = omega arith
two_words (Short v) = omega arith
two_words Over = omega arith

all_few : (n : ℕ) (s : State) (count : ℕ) (calls : List Single) → length (all_words single_reply_words (replies_to n s count calls)) ≤ 2 * length (all_words single_words calls)
all_few n s count [] = omega arith
all_few n s count (c ∷ calls) =
    let first = (one n s count c).1 in
    let state = (one n s count c).0 in
    omega (arith, length-append (single_reply_words first) (all_words single_reply_words (replies_to n state count calls)), length-append (single_words c) (all_words single_words calls), two_words first, some_words c, all_few n state count calls)

few_told : (n : ℕ) (s : State) (count : ℕ) (call : Kind Single (List Single)) → length (reply_words (step_of n s count call).1) ≤ 2 * length (kind_words call)
few_told n s count (kind.Single c) = alone (one n s count c).1
  where
    alone : (r : SingleReply) → length (reply_words (reply_of r)) ≤ 2 * length (single_words c)
    alone r = omega (arith, ap length (plain_reply_words r), two_words r, some_words c)
few_told n s count (kind.Several calls) = in_group (any_full (replies_to n s count calls))
  where
    in_group : (b : Bool) → length (reply_words (let done : State × Reply = if b then (s, reply.Full) else (state_after n s count calls, reply.All (replies_to n s count calls)) in done.1)) ≤ 2 * length (kind_words (kind.Several calls))
    in_group true = omega arith
    in_group false = omega (arith, all_few n s count calls)

pub reply_few : (n : ℕ) (s : State) (count : ℕ) (words : List ℕ) (call : Call) → words_call words ≡ Some call → length (reply_words (step n s count call).1) ≤ 2 * length words
reply_few n s count words call is = subst (λ (ws : List ℕ). length (reply_words (step n s count call).1) ≤ 2 * length ws) (call_only words call is) (few_told n s count (kind_of call))

-- the words of an update of one structure are read as that update
pub plain_back : (c : Single) → words_call (single_words c) ≡ Some (call_of c)
plain_back c = ap words_call (sym (plain_words c)) ∙ call_back (call_of c) (plain_size c)

plain_reply_back : (r : SingleReply) → words_reply (single_reply_words r) ≡ Some (reply_of r)
plain_reply_back Queued = refl
plain_reply_back Full = refl
plain_reply_back (Head v) = refl
plain_reply_back Empty = refl
plain_reply_back Added = refl
plain_reply_back Present = refl
plain_reply_back Removed = refl
plain_reply_back Absent = refl
plain_reply_back NoPrior = refl
plain_reply_back (Was v) = refl
plain_reply_back Moved = refl
plain_reply_back (Short v) = refl
plain_reply_back Over = refl

-- words that are those of a reply to one update, with none behind them, are read as that reply
pub plain_reply_read : (words : List ℕ) (r : SingleReply) → read_single_reply words ≡ Some (r, []) → words_reply words ≡ Some (reply_of r)
plain_reply_read words r read = ap words_reply (sym (single_reply_only words r [] read) ∙ append-nil (single_reply_words r)) ∙ plain_reply_back r
