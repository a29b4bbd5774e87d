-- How far the members of a group have come that are done one after another.
use Rattle.std.proofs.Common.{◌≡◌, ℕ, ◌+◌, ◌<◌, ◌≤◌, Bool, true, false, List, [], ◌∷◌, ◌++◌, length, drop, Some, slice_get, refl, sym, ap, subst, ◌∙◌, arith, length-append}
use Rattle.std.specs.Prelude.{slice_index, if◌then◌else◌}
use Rattle.std.specs.List.{flat_map}
use Rattle.std.proofs.lemmas.List.{drop_more, drop_all, flat_map_more}
use Rattle.std.proofs.lemmas.Option.{get_or_from_slice_get}
use Rattle.rom_model.specs.Machine.{Machine}
use Rattle.rom_guard.specs.Guarded.{ShownMembers, Tried, Stopped, tried, tried_from}
use Rattle.rom_guard.specs.Working.{IsGroup, IsTried, members_in, tried_words}

-- the member at an index is the first of those from there on
first_from : {X : Type 0} (xs : List X) (i : ℕ) (x : X) → i < length xs → Some x ≡ slice_get xs i → drop i xs ≡ x ∷ drop (i + 1) xs
first_from xs i x lt is = drop_more xs i x lt ∙ ap (λ y. y ∷ drop (i + 1) xs) (get_or_from_slice_get xs i x x (sym is))

-- Words behind none are a 0 and a number.
pub two_told : {before words : List ℕ} {many n : ℕ} → before ≡ [] → words ≡ before ++ 0 ∷ many ∷ [] → many ≡ n → words ≡ 0 ∷ n ∷ []
two_told {before} {words} {many} {n} none is same = is ∙ (ap (λ ws. ws ++ 0 ∷ many ∷ []) none ∙ ap (λ k. 0 ∷ k ∷ []) same)

module _ {C R M T : Type 0} (shown : ShownMembers C R M T) {words : List ℕ} (group : IsGroup shown words) where
  -- the second word tells how many members there are
  pub second_is : slice_index words 1 ≡ length (members_in shown words)
  second_is = ap (λ ws. slice_index ws 1) group.is

  pub is_within : {i : ℕ} → i < slice_index words 1 → i < length (members_in shown words)
  is_within lt = omega (arith, second_is, lt)

module _ {S C Q R A M T : Type 0} (own : Machine S C Q R A) (shown : ShownMembers C R M T) where
  -- So many members have succeeded. The state after them holds, and the words of what they were told stand behind a 0 and the number of all members.
  pub record Reached (n : ℕ) (s : S) (j : ℕ) (members : List M) (i : ℕ) (words : List ℕ) (Holds : S → Type 0) : Type 0 where
    pub state : S
    pub replies : List T
    pub rest : tried own shown n s j members ≡ tried_from own shown n j i state replies (drop i members)
    pub many : length replies ≡ i
    pub told : words ≡ 0 ∷ length members ∷ flat_map shown.told_words replies
    pub holds : Holds state

  -- what comes of the members from one on, as it succeeds or not
  tried_next : (n j i : ℕ) (t : S) (replies : List T) (members : List M) (m : M) (r : T) (good : Bool) → i < length members → Some m ≡ slice_get members i → r ≡ shown.told_of (own.step n t j (shown.as_call m)).1 → shown.succeeds m r ≡ good
      → tried_from own shown n j i t replies (drop i members) ≡ if good then tried_from own shown n j (i + 1) (own.step n t j (shown.as_call m)).0 (replies ++ r ∷ []) (drop (i + 1) members) else Stopped (i + 1) r
  tried_next n j i t replies members m r good lt at is says =
      let done = own.step n t j (shown.as_call m) in
      let rest = drop (i + 1) members in
      ap (λ (ms : List M). tried_from own shown n j i t replies ms) (first_from members i m lt at)
      ∙ (ap (λ (x : T). if shown.succeeds m x then tried_from own shown n j (i + 1) done.0 (replies ++ x ∷ []) rest else Stopped (i + 1) x) (sym is)
      ∙ ap (λ (b : Bool). if b then tried_from own shown n j (i + 1) done.0 (replies ++ r ∷ []) rest else Stopped (i + 1) r) says)

  module _ {n j i : ℕ} {s : S} {members : List M} {words : List ℕ} {Holds : S → Type 0} where
    -- one more succeeds
    pub one_more : {more : List ℕ} {After : S → Type 0} (m : M) (r : T) → i < length members → Some m ≡ slice_get members i → (at : Reached n s j members i words Holds) → r ≡ shown.told_of (own.step n at.state j (shown.as_call m)).1 → shown.succeeds m r ≡ true → more ≡ words ++ shown.told_words r → After (own.step n at.state j (shown.as_call m)).0
        → Reached n s j members (i + 1) more After
    one_more m r lt is at told good all holds = record {
      state = (own.step n at.state j (shown.as_call m)).0;
      replies = at.replies ++ r ∷ [];
      rest = at.rest ∙ tried_next n j i at.state at.replies members m r true lt is told good;
      many = length-append at.replies (r ∷ []) ∙ ap (λ k. k + 1) at.many;
      told = all ∙ (ap (λ ws. ws ++ shown.told_words r) at.told ∙ flat_map_more shown.told_words (0 ∷ length members ∷ []) at.replies r);
      holds = holds;
    }

    -- one does not succeed
    pub one_stops : {told : List ℕ} (After : S → Type 0) (m : M) (r : T) → i < length members → Some m ≡ slice_get members i → (at : Reached n s j members i words Holds) → r ≡ shown.told_of (own.step n at.state j (shown.as_call m)).1 → shown.succeeds m r ≡ false → told ≡ 0 ∷ 0 ∷ (i + 1) ∷ shown.told_words r
        → (told ≡ tried_words shown (tried own shown n s j members)) × IsTried (tried own shown n s j members) false After
    one_stops {told} After m r lt is at why bad all =
        subst (λ (came : Tried S T). (told ≡ tried_words shown came) × IsTried came false After) (sym (at.rest ∙ tried_next n j i at.state at.replies members m r false lt is why bad)) (all, refl)

    -- all have succeeded
    pub all_done : length members ≤ i → i ≤ length members → Reached n s j members i words Holds
        → (words ≡ tried_words shown (tried own shown n s j members)) × IsTried (tried own shown n s j members) true Holds
    all_done most least at =
        let same : length members ≡ length at.replies = omega (arith, most, least, at.many) in
        subst (λ (came : Tried S T). (words ≡ tried_words shown came) × IsTried came true Holds) (sym (at.rest ∙ ap (λ (ms : List M). tried_from own shown n j i at.state at.replies ms) (drop_all i members most))) (at.told ∙ ap (λ k. 0 ∷ k ∷ flat_map shown.told_words at.replies) same, (refl, at.holds))

  -- none is done yet
  pub none_yet : (n : ℕ) (s : S) (j : ℕ) (members : List M) {words : List ℕ} {Holds : S → Type 0} → words ≡ 0 ∷ length members ∷ [] → Holds s → Reached n s j members 0 words Holds
  none_yet n s j members is holds = record { state = s; replies = []; rest = refl; many = refl; told = is; holds = holds }
