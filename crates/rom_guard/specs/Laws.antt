-- The laws of an object with guarded groups, which its trait asks for.
use Rattle.std.specs.Prelude.{◌≡◌, ℕ, zero, suc, ◌+◌, ◌*◌, ◌≤◌, true, List, [], ◌∷◌, length, Option, Some, None, option_map}
use Rattle.std.specs.List.{flat_map}
use Rattle.std.proofs.Common.{refl, sym, ap, subst, ◌∙◌, arith}
use Rattle.rom_model.specs.Groups.{is_size}
use Rattle.rom_model.specs.Machine.{Machine}
use Rattle.rom_guard.specs.declared.call.GuardedCall.{GuardedCall}
use Rattle.rom_guard.specs.declared.call.GuardedCall.TheVariants as call
use Rattle.rom_guard.specs.declared.call.GuardedReply.{GuardedReply}
use Rattle.rom_guard.specs.declared.call.GuardedReply.TheVariants as reply
use Rattle.rom_guard.specs.Guarded.{ShownMembers, Tried, Succeeded, Stopped, call_words, group_of, listed, read_listed, reply_words, step, tried, words_call, words_reply}
use Rattle.rom_guard.specs.Working.{tried_words}
use Rattle.rom_guard.specs.Wording.{AsMany, as_many, group_read, listed_long, listed_only, own_read, size_least, tried_back}

-- what was made was made of something
made_from : {X Y : Type 0} (make : X → Y) (o : Option X) (y : Y) → option_map make o ≡ Some y → (x : X) × (o ≡ Some x) × (make x ≡ y)
made_from make None y is = absurd (cc)
made_from make (Some x) y is = let same : make x ≡ y = cc in (x, refl, same)

module _ {S C Q R A M T : Type 0} (own : Machine S C Q R A) (shown : ShownMembers C R M T) where
  -- words that are read as the reply to a group that was done are that reply's
  all_only : ((words : List ℕ) (t : T) → shown.words_told words ≡ Some t → shown.told_words t ≡ words) → (words : List ℕ) (told : GuardedReply R T (List T)) → option_map reply.All (read_listed shown.words_told 2 words) ≡ Some told → reply_words own shown told ≡ 0 ∷ words
  all_only only words told is =
      let made = made_from reply.All (read_listed shown.words_told 2 words) told is in
      let lists = listed_only shown.told_words 2 shown.words_told only words made.0 made.1 in
      ap (reply_words own shown) (sym made.2) ∙ ap (λ ws. 0 ∷ ws) lists.1

  -- words that are read as a reply to a call of the object's own are that reply's
  own_only : ((words : List ℕ) (r : R) → own.words_reply words ≡ Some r → own.reply_words r ≡ words) → (words : List ℕ) (told : GuardedReply R T (List T)) → option_map reply.Own (own.words_reply words) ≡ Some told → reply_words own shown told ≡ words
  own_only only words told is =
      let made = made_from reply.Own (own.words_reply words) told is in
      ap (reply_words own shown) (sym made.2) ∙ only words made.0 made.1

  -- a reply to a call of the object's own is read back
  own_back : ((words : List ℕ) → own.words_reply (0 ∷ words) ≡ None) → (words : List ℕ) (r : R) → own.words_reply words ≡ Some r → words_reply own shown words ≡ Some (reply.Own r)
  own_back never [] r is = ap (option_map reply.Own) is
  own_back never (zero ∷ words) r is = let none = never words in absurd (cc)
  own_back never (suc w ∷ words) r is = ap (option_map reply.Own) is

  -- the words of the reply to a group
  pub group_words : (s : S) (came : Tried S T) → reply_words own shown (group_of s came).1 ≡ tried_words shown came
  group_words s (Succeeded t told) = refl
  group_words s (Stopped member why) = refl

  few : ((t : T) → length (shown.told_words t) ≡ 2) → (n : ℕ) (came : Tried S T) → AsMany own shown n came → 2 ≤ n → length (tried_words shown came) ≤ 2 * (2 + 4 * n)
  few two n (Succeeded s told) many least =
      let long : length (tried_words shown (Succeeded s told)) ≡ 2 + length (flat_map shown.told_words told) = omega arith in
      omega (arith, long, many, listed_long shown.told_words 2 two told)
  few two n (Stopped member why) many least =
      let long : length (tried_words shown {S = S} (Stopped member why)) ≡ 3 + length (shown.told_words why) = omega arith in
      omega (arith, long, least, two why)

  module _ (member : (words : List ℕ) (m : M) → shown.words_member words ≡ Some m → shown.member_words m ≡ words) (two : (t : T) → length (shown.told_words t) ≡ 2) (n j : ℕ) (s : S) (words : List ℕ) (ms : List M) (is : words_call own shown words ≡ Some (call.All ms)) where
    sized : is_size (length ms) ≡ true
    sized =
        let group = group_read own shown member words ms is in
        ap (λ (xs : List M). is_size (length xs)) (sym group.1) ∙ group.0.size

    -- the reply to a group that has words is read back
    group_back : ((t : T) → shown.words_told (shown.told_words t) ≡ Some t) → words_reply own shown (reply_words own shown (group_of s (tried own shown n s j ms)).1) ≡ Some (group_of s (tried own shown n s j ms)).1
    group_back back = ap (words_reply own shown) (group_words s (tried own shown n s j ms)) ∙ tried_back own shown two back n j s ms sized

    -- and has at most twice as many words
    group_few : ((m : M) → length (shown.member_words m) ≡ 4) → length (reply_words own shown (group_of s (tried own shown n s j ms)).1) ≤ 2 * length words
    group_few four =
        let group = group_read own shown member words ms is in
        let came = tried own shown n s j ms in
        let whole : words ≡ 0 ∷ listed shown.member_words ms = group.0.is ∙ ap (λ xs. 0 ∷ listed shown.member_words xs) group.1 in
        let each = listed_long shown.member_words 4 four ms in
        let long : length words ≡ 2 + 4 * length ms = ap length whole ∙ omega arith in
        let none : 0 + length ms ≡ length ms = omega arith in
        let many : AsMany own shown (length ms) came = subst (λ k. AsMany own shown k came) none (as_many own shown n j 0 s [] ms) in
        let most = few two (length ms) came many (size_least (length ms) sized) in
        let same : length (reply_words own shown (group_of s came).1) ≡ length (tried_words shown came) = ap length (group_words s came) in
        omega (arith, same, most, long)

  -- words that are read as a call are that call's
  pub guarded_call_only : ((words : List ℕ) (m : M) → shown.words_member words ≡ Some m → shown.member_words m ≡ words) → ((words : List ℕ) (c : C) → own.words_call words ≡ Some c → own.call_words c ≡ words)
      → (words : List ℕ) (called : GuardedCall C (List M)) → words_call own shown words ≡ Some called → call_words own shown called ≡ words
  guarded_call_only member calls words (call.Own c) is = calls words c (own_read own shown words c is).1
  guarded_call_only member calls words (call.All ms) is =
      let group = group_read own shown member words ms is in
      ap (λ xs. 0 ∷ listed shown.member_words xs) (sym group.1) ∙ sym group.0.is

  -- words that are read as a reply are that reply's
  pub guarded_reply_only : ((words : List ℕ) (t : T) → shown.words_told words ≡ Some t → shown.told_words t ≡ words) → ((words : List ℕ) (r : R) → own.words_reply words ≡ Some r → own.reply_words r ≡ words)
      → (words : List ℕ) (told : GuardedReply R T (List T)) → words_reply own shown words ≡ Some told → reply_words own shown told ≡ words
  guarded_reply_only only only_own [] told is = own_only only_own [] told is
  guarded_reply_only only only_own (zero ∷ []) told is = all_only only [] told is
  guarded_reply_only only only_own (zero ∷ zero ∷ []) told is = all_only only (0 ∷ []) told is
  guarded_reply_only only only_own (zero ∷ zero ∷ member ∷ words) told is =
      let made = made_from (reply.Undone member) (shown.words_told words) told is in
      ap (reply_words own shown) (sym made.2) ∙ ap (λ ws. 0 ∷ 0 ∷ member ∷ ws) (only words made.0 made.1)
  guarded_reply_only only only_own (zero ∷ suc n ∷ words) told is = all_only only (suc n ∷ words) told is
  guarded_reply_only only only_own (suc w ∷ words) told is = own_only only_own (suc w ∷ words) told is

  module _ (member : (words : List ℕ) (m : M) → shown.words_member words ≡ Some m → shown.member_words m ≡ words) (two : (t : T) → length (shown.told_words t) ≡ 2) where
    -- what a call is told that has words is read back
    pub guarded_reply_back : ((t : T) → shown.words_told (shown.told_words t) ≡ Some t) → ((words : List ℕ) → own.words_reply (0 ∷ words) ≡ None)
        → ((order : ℕ) (s : S) (count : ℕ) (words : List ℕ) (c : C) → own.words_call words ≡ Some c → own.words_reply (own.reply_words (own.step order s count c).1) ≡ Some (own.step order s count c).1)
        → (order : ℕ) (s : S) (count : ℕ) (words : List ℕ) (called : GuardedCall C (List M)) → words_call own shown words ≡ Some called
        → words_reply own shown (reply_words own shown (step own shown order s count called).1) ≡ Some (step own shown order s count called).1
    guarded_reply_back back never backs order s count words (call.Own c) is =
        let told = (own.step order s count c).1 in
        own_back never (own.reply_words told) told (backs order s count words c (own_read own shown words c is).1)
    guarded_reply_back back never backs order s count words (call.All ms) is = group_back member two order count s words ms is back

    -- the words of the reply to a call are at most twice as many as those of the call
    pub guarded_reply_few : ((m : M) → length (shown.member_words m) ≡ 4)
        → ((order : ℕ) (s : S) (count : ℕ) (words : List ℕ) (c : C) → own.words_call words ≡ Some c → length (own.reply_words (own.step order s count c).1) ≤ 2 * length words)
        → (order : ℕ) (s : S) (count : ℕ) (words : List ℕ) (called : GuardedCall C (List M)) → words_call own shown words ≡ Some called
        → length (reply_words own shown (step own shown order s count called).1) ≤ 2 * length words
    guarded_reply_few four fews order s count words (call.Own c) is = fews order s count words c (own_read own shown words c is).1
    guarded_reply_few four fews order s count words (call.All ms) is = group_few member two order count s words ms is four
