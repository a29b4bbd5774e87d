-- What a guarded group does, for any object.
use Rattle.std.specs.Prelude.{ℕ, zero, suc, ◌+◌, ◌*◌, nat_le, Bool, List, [], ◌∷◌, ◌++◌, length, take, drop, Option, Some, None, option_map, if◌then◌else◌}
use Rattle.std.specs.List.{flat_map}
use Rattle.std.specs.Option.{option_and_then}
use Rattle.rom_model.specs.Machine.{Machine}
use Rattle.rom_model.specs.Groups.{is_size}
use Rattle.rom_guard.specs.declared.call.GuardedCall.{GuardedCall}
use Rattle.rom_guard.specs.declared.call.GuardedCall.TheVariants as call
use Rattle.rom_guard.specs.declared.call.GuardedReply.{GuardedReply}
use Rattle.rom_guard.specs.declared.call.GuardedReply.TheVariants as reply

-- What is shown of members M, each of which is told a T, of an object with calls C and replies R.
pub record ShownMembers (C R M T : Type 0) : Type 0 where
  -- the call that does what a member does, alone
  pub as_call : M → C
  -- what a member is told, of what that call is told
  pub told_of : R → T
  -- whether a member that was told this did what it is for
  pub succeeds : M → T → Bool
  -- the four words of a member, and the member that words are those of
  pub member_words : M → List ℕ
  pub words_member : List ℕ → Option M
  -- the two words of what a member is told, and what words tell
  pub told_words : T → List ℕ
  pub words_told : List ℕ → Option T

-- What members come to that are done in order, all of them at one count: the state after them and what each was told, where each succeeded; else which one did not, counted from 1, and what it was told.
pub data Tried (S T : Type 0) : Type 0 where
  Succeeded : S → List T → Tried S T
  Stopped : ℕ → T → Tried S T

module _ {S C Q R A M T : Type 0} (own : Machine S C Q R A) (shown : ShownMembers C R M T) where
  -- the members behind those that left the state s and were told `told`; there were `before` of them
  abbrev pub tried_from : ℕ → ℕ → ℕ → S → List T → List M → Tried S T
  tried_from n count before s told [] = Succeeded s told
  tried_from n count before s told (m ∷ members) = let done = own.step n s count (shown.as_call m) in
      if shown.succeeds m (shown.told_of done.1) then tried_from n count (before + 1) done.0 (told ++ shown.told_of done.1 ∷ []) members else Stopped (before + 1) (shown.told_of done.1)

  -- all of them, from this state on
  abbrev pub tried : ℕ → S → ℕ → List M → Tried S T
  tried n s count members = tried_from n count 0 s [] members

-- All members are done, or the state stays.
abbrev pub group_of : {S R T : Type 0} → S → Tried S T → S × GuardedReply R T (List T)
group_of s (Succeeded t told) = (t, reply.All told)
group_of s (Stopped member told) = (s, reply.Undone member told)

-- how many there are, and the words of each, one behind the other
abbrev pub listed : {X : Type 0} → (X → List ℕ) → List X → List ℕ
listed words xs = length xs ∷ flat_map words xs

-- n things, each read of `width` words; no word is left
abbrev pub read_each : {X : Type 0} → (List ℕ → Option X) → ℕ → ℕ → List ℕ → Option (List X)
read_each read width zero [] = Some []
read_each read width zero (w ∷ words) = None
read_each read width (suc n) words =
    if nat_le width (length words) then option_and_then (λ x. option_map (λ xs. x ∷ xs) (read_each read width n (drop width words))) (read (take width words)) else None

-- Two to eight are read of words that tell first how many there are.
abbrev pub read_listed : {X : Type 0} → (List ℕ → Option X) → ℕ → List ℕ → Option (List X)
read_listed read width [] = None
read_listed read width (n ∷ words) = if is_size n then read_each read width n words else None

module _ {S C Q R A M T : Type 0} (own : Machine S C Q R A) (shown : ShownMembers C R M T) where
  -- What a call leaves, and what it is told: an own call does what the object does, and a group all or nothing.
  abbrev pub step : ℕ → S → ℕ → GuardedCall C (List M) → S × GuardedReply R T (List T)
  step n s count (call.Own c) = let done = own.step n s count c in (done.0, reply.Own done.1)
  step n s count (call.All members) = group_of s (tried own shown n s count members)

  -- Each member counts twice: what it stores may be rolled back.
  abbrev pub weight : GuardedCall C (List M) → ℕ
  weight (call.Own c) = own.weight c
  weight (call.All members) = 2 * length members

  -- the words of a call: a group's begin with 0
  abbrev pub call_words : GuardedCall C (List M) → List ℕ
  call_words (call.Own c) = own.call_words c
  call_words (call.All members) = 0 ∷ listed shown.member_words members

  -- the call that the words are those of
  abbrev pub words_call : List ℕ → Option (GuardedCall C (List M))
  words_call (zero ∷ words) = option_map call.All (read_listed shown.words_member 4 words)
  words_call words = option_map call.Own (own.words_call words)

  -- the words of a reply: those to a group begin with 0, and those to one that was not done with two
  abbrev pub reply_words : GuardedReply R T (List T) → List ℕ
  reply_words (reply.Own r) = own.reply_words r
  reply_words (reply.All told) = 0 ∷ listed shown.told_words told
  reply_words (reply.Undone member told) = 0 ∷ 0 ∷ member ∷ shown.told_words told

  -- the reply that the words are those of
  abbrev pub words_reply : List ℕ → Option (GuardedReply R T (List T))
  words_reply (zero ∷ zero ∷ member ∷ words) = option_map (reply.Undone member) (shown.words_told words)
  words_reply (zero ∷ words) = option_map reply.All (read_listed shown.words_told 2 words)
  words_reply words = option_map reply.Own (own.words_reply words)

  -- an object's machine with guarded groups
  abbrev pub guarded : Machine S (GuardedCall C (List M)) Q (GuardedReply R T (List T)) A
  guarded = record {
    empty = own.empty;
    step = step;
    weight = weight;
    tell = own.tell;
    cost = own.cost;
    call_words = call_words;
    words_call = words_call;
    reply_words = reply_words;
    words_reply = words_reply;
  }
