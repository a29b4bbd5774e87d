-- Words that ask for a group: what they do, and how much they weigh.
use Rattle.std.proofs.Common.{◌≡◌, ℕ, zero, suc, ◌*◌, ◌≤◌, List, [], ◌∷◌, length, Some, None, true, refl, sym, ap, subst, ◌∙◌, arith}
use Rattle.std.specs.Prelude.{Option, IsSome, option_map, slice_index}
use Rattle.std.specs.Option.{option_map_or}
use Rattle.rom_model.specs.Groups.{is_size}
use Rattle.rom_model.specs.Machine.{Machine, on_words, weight_on_words}
use Rattle.rom_guard.specs.declared.call.GuardedCall.{GuardedCall}
use Rattle.rom_guard.specs.declared.call.GuardedCall.TheVariants as call
use Rattle.rom_guard.specs.declared.call.GuardedReply.{GuardedReply}
use Rattle.rom_guard.specs.Guarded.{ShownMembers, group_of, guarded, read_listed, reply_words, step, tried, weight, words_call, words_reply}
use Rattle.rom_guard.specs.Working.{IsGroup, members_in, tried_words}
use Rattle.rom_guard.specs.Laws.{group_words}
use Rattle.rom_guard.specs.Wording.{group_read, tried_back}

module _ {S C Q R A M T : Type 0} (own : Machine S C Q R A) (shown : ShownMembers C R M T) where
  -- The words are read as a group, and there these words are one's.
  pub record IsAsked (words there : List ℕ) : Type 0 where
    pub group : IsGroup shown there
    pub call : words_call own shown words ≡ Some (call.All (members_in shown there))

  some_group : (only : (words : List ℕ) (m : M) → shown.words_member words ≡ Some m → shown.member_words m ≡ words) (words : List ℕ) (o : Option (List M)) → words_call own shown words ≡ option_map call.All o → IsSome {T = GuardedCall C (List M)} (option_map call.All o) → IsAsked words words
  some_group only words None is some = absurd (cc)
  some_group only words (Some ms) is some = let read = group_read own shown only words ms is in record { group = read.0; call = is ∙ ap (λ xs. Some (call.All xs)) (sym read.1) }

  from_zero : (only : (words : List ℕ) (m : M) → shown.words_member words ≡ Some m → shown.member_words m ≡ words) (words : List ℕ) → 1 ≤ length words → slice_index words 0 ≡ 0 → IsSome (words_call own shown words) → IsAsked words words
  from_zero only [] long first some = absurd (omega (arith, long))
  from_zero only (zero ∷ rest) long first some = some_group only (zero ∷ rest) (read_listed shown.words_member 4 rest) refl some
  from_zero only (suc w ∷ rest) long first some = absurd (omega (arith, first))

  -- words that begin with 0 and are a call's are a group's
  pub zero_asks : (only : (words : List ℕ) (m : M) → shown.words_member words ≡ Some m → shown.member_words m ≡ words) {words seen there : List ℕ} → seen ≡ words → there ≡ words → 1 ≤ length seen → slice_index seen 0 ≡ 0 → IsSome (words_call own shown words) → IsAsked words there
  zero_asks only {words} {seen} {there} seen_is there_is long first some =
      let asked = from_zero only words (subst (λ ws. 1 ≤ length ws) seen_is long) (sym (ap (λ ws. slice_index ws 0) seen_is) ∙ first) some in
      subst (IsAsked words) (sym there_is) asked

  module _ {words there : List ℕ} (asked : IsAsked words there) where
    -- What the step on these words is: its reply has the words of what the group came to.
    pub asked_step : (n k : ℕ) (s : S) (told : List ℕ) (Holds : S → Type 0) → let came = tried own shown n s k (members_in shown there) in told ≡ tried_words shown came → Holds (group_of {R = R} s came).0
        → (after : S) × (on_words (guarded own shown) n s k words ≡ Some (after, told)) × Holds after
    asked_step n k s told Holds is holds =
        let came = tried own shown n s k (members_in shown there) in
        let after = (group_of {R = R} s came).0 in
        let does = ap (option_map (λ c. (((guarded own shown).step n s k c).0, reply_words own shown ((guarded own shown).step n s k c).1))) asked.call in
        (after, does ∙ ap (λ ws. Some (after, ws)) (group_words own shown s came ∙ sym is), holds)

    -- each member counts twice
    pub asked_weight : weight_on_words (guarded own shown) words ≡ 2 * length (members_in shown there)
    asked_weight = ap (λ o. option_map_or (weight own shown) o 0) asked.call

  some_is : {x y : GuardedReply R T (List T)} → ◌≡◌ {A = Option (GuardedReply R T (List T))} (Some x) (Some y) → x ≡ y
  some_is same = cc

  module _ (two : (t : T) → length (shown.told_words t) ≡ 2) (back : (t : T) → shown.words_told (shown.told_words t) ≡ Some t) (n k : ℕ) (s : S) (members : List M) (size : is_size (length members) ≡ true) {told : List ℕ} {found : Option (GuardedReply R T (List T))} (is : told ≡ tried_words shown (tried own shown n s k members)) (reads : found ≡ words_reply own shown told) where
    -- what a group came to is read from its words
    pub reply_found : found ≡ Some (group_of s (tried own shown n s k members)).1
    reply_found = reads ∙ (ap (words_reply own shown) is ∙ tried_back own shown two back n k s members size)

    pub reply_some : IsSome found
    reply_some = subst IsSome (sym reply_found) refl

    -- it is what the step gives
    pub group_done : {asks : GuardedCall C (List M)} {reply : GuardedReply R T (List T)} (Holds : S → Type 0) → asks ≡ call.All members → found ≡ Some reply → Holds (group_of {R = R} s (tried own shown n s k members)).0
        → (reply ≡ (step own shown n s k asks).1) × Holds (step own shown n s k asks).0
    group_done {asks} {reply} Holds asked was holds =
        subst (λ (c : GuardedCall C (List M)). (reply ≡ (step own shown n s k c).1) × Holds (step own shown n s k c).0) (sym asked) (some_is (sym was ∙ reply_found), holds)
