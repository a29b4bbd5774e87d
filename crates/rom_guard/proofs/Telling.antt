-- What members were told, as it is printed.
use Rattle.std.proofs.Common.{add-one, ◌≡◌, ℕ, zero, suc, ◌+◌, ◌<◌, ◌≤◌, true, List, [], ◌∷◌, ◌++◌, length, take, drop, Some, refl, sym, ap, subst, ◌∙◌, arith}
use Rattle.std.specs.Prelude.{◌≢◌, Option, None, IsSome, codes, option_map, slice_get, slice_index}
use Rattle.std.specs.List.{AllByRecursion, flat_map}
use Rattle.std.proofs.lemmas.Grind.{flat_map-append}
use Rattle.std.proofs.lemmas.List.{append_assoc, append-nil, take-append-drop}
use Rattle.rom_model.specs.Groups.{is_size}
use Rattle.rom_text.specs.Streams.{ShownSink}
use Rattle.rom_text.specs.Text.{ShownText}
use Rattle.rom_text.proofs.Prints.{Printed, Stopped, printed_both, stopped_first, stopped_second}
use Rattle.rom_model.specs.Machine.{Machine}
use Rattle.rom_guard.specs.declared.call.GuardedReply.{GuardedReply}
use Rattle.rom_guard.specs.declared.call.GuardedReply.TheVariants as reply
use Rattle.rom_guard.specs.Guarded.{ShownMembers, read_listed, words_reply}
use Rattle.rom_guard.specs.Texts.{done_text, next_text}
use Rattle.rom_guard.specs.Working.{IsToldAll}
use Rattle.rom_guard.specs.Wording.{is_listed}

-- the first ones, and the one at the index behind them
with_next : {X : Type 0} (xs : List X) (i : ℕ) (x : X) → Some x ≡ slice_get xs i → take (suc i) xs ≡ take i xs ++ x ∷ []
with_next [] i x is = absurd (cc)
with_next (y ∷ ys) zero x is = let same : y ≡ x = cc in ap (λ z. z ∷ []) same
with_next (y ∷ ys) (suc i) x is = ap (λ zs. y ∷ zs) (with_next ys i x is)

one_more : {X : Type 0} (xs : List X) (i : ℕ) (x : X) → Some x ≡ slice_get xs i → take (i + 1) xs ≡ take i xs ++ x ∷ []
one_more xs i x is = ap (λ n. take n xs) (add-one i) ∙ with_next xs i x is

all_push : {X : Type 0} (P : X → Type 0) (xs : List X) (x : X) → AllByRecursion P xs → P x → AllByRecursion P (xs ++ x ∷ [])
all_push P [] x all one = (one, tt)
all_push P (y ∷ ys) x all one = (all.0, all_push P ys x all.1 one)

-- there are some of some
some_first : {X : Type 0} (xs : List X) (i : ℕ) → 0 < i → 0 < length xs → 0 < length (take i xs)
some_first [] i far some = absurd (omega (arith, some))
some_first (x ∷ xs) zero far some = absurd (omega (arith, far))
some_first (x ∷ xs) (suc i) far some = omega arith

-- a group has some members
pub some_of : {X : Type 0} (xs : List X) → is_size (length xs) ≡ true → 0 < length xs
some_of [] size = absurd (cc)
some_of (x ∷ xs) size = omega arith

-- what holds of the first ones and of the next one
pub all_more : {X : Type 0} (P : X → Type 0) (xs : List X) (i : ℕ) (x : X) → Some x ≡ slice_get xs i → AllByRecursion P (take i xs) → P x → AllByRecursion P (take (i + 1) xs)
all_more P xs i x is all one = subst (λ ys. AllByRecursion P ys) (sym (one_more xs i x is)) (all_push P (take i xs) x all one)

module _ {T : Type 0} (told : ShownText T) where
  -- some members, and the others behind them
  done_split : (xs ys : List T) → 0 < length xs → done_text told (xs ++ ys) ≡ done_text told xs ++ flat_map (next_text told) ys
  done_split [] ys some = absurd (omega (arith, some))
  done_split (x ∷ xs) ys some =
      let all : List ℕ = flat_map (next_text told) xs in
      let rest : List ℕ = flat_map (next_text told) ys in
      ap (λ t. codes "done " ++ (told.text x ++ t)) (flat_map-append (next_text told) xs ys)
      ∙ (let moved : codes "done " ++ (told.text x ++ (all ++ rest)) ≡ (codes "done " ++ (told.text x ++ all)) ++ rest = simp append_assoc refl in moved)

  -- the first members, and the next one
  done_more : (xs : List T) (i : ℕ) (x : T) → 0 < i → i < length xs → Some x ≡ slice_get xs i → done_text told (take (i + 1) xs) ≡ done_text told (take i xs) ++ next_text told x
  done_more xs i x some within is =
      ap (done_text told) (one_more xs i x is)
      ∙ (done_split (take i xs) (x ∷ []) (some_first xs i some (omega (arith, within))) ∙ ap (λ t. done_text told (take i xs) ++ t) (append-nil (next_text told x)))

  module _ {O : Type 0} (shown : ShownSink O) where
    -- one member more is printed
    pub printed_more : (a b c : O) (xs : List T) (i : ℕ) (x : T) → 0 < i → i < length xs → Some x ≡ slice_get xs i → Printed shown a b (done_text told (take i xs)) → Printed shown b c (next_text told x) → Printed shown a c (done_text told (take (i + 1) xs))
    printed_more a b c xs i x some within is first next = subst (λ t. Printed shown a c t) (sym (done_more xs i x some within is)) (printed_both shown a b c _ _ first next)

    -- the printing stops in what a member behind the first was told
    pub stopped_more : (a b c : O) (xs : List T) (i : ℕ) (x : T) → 0 < i → i < length xs → Some x ≡ slice_get xs i → Printed shown a b (done_text told (take i xs)) → Stopped shown b c (next_text told x) → Stopped shown a c (done_text told xs)
    stopped_more a b c xs i x some within is first next =
        let more : 0 < length (take (i + 1) xs) = some_first xs (i + 1) (omega arith) (omega (arith, within)) in
        let whole : done_text told (take (i + 1) xs) ++ flat_map (next_text told) (drop (i + 1) xs) ≡ done_text told xs = sym (done_split (take (i + 1) xs) (drop (i + 1) xs) more) ∙ ap (done_text told) (take-append-drop (i + 1) xs) in
        subst (λ t. Stopped shown a c t) whole
        (stopped_first shown a c _ _ (subst (λ t. Stopped shown a c t) (sym (done_more xs i x some within is)) (stopped_second shown a b c _ _ first next)))

    -- the first member is printed
    pub printed_first : (a b c : O) (xs : List T) (x : T) → Some x ≡ slice_get xs 0 → Printed shown a b (codes "done ") → Printed shown b c (told.text x) → Printed shown a c (done_text told (take 1 xs))
    printed_first a b c xs x is first next =
        let one : done_text told (take 1 xs) ≡ codes "done " ++ told.text x = ap (done_text told) (one_more xs 0 x is) ∙ ap (λ t. codes "done " ++ t) (append-nil (told.text x)) in
        subst (λ t. Printed shown a c t) (sym one) (printed_both shown a b c _ _ first next)

    -- the printing stops in what the first was told
    pub stopped_in_first : (a b c : O) (xs : List T) (x : T) → Some x ≡ slice_get xs 0 → Printed shown a b (codes "done ") → Stopped shown b c (told.text x) → Stopped shown a c (done_text told xs)
    stopped_in_first a b c [] x is first next = absurd (cc)
    stopped_in_first a b c (y ∷ ys) x is first next =
        let same : x ≡ y = cc in
        stopped_second shown a b c (codes "done ") (told.text y ++ flat_map (next_text told) ys) first (stopped_first shown b c (told.text y) (flat_map (next_text told) ys) (subst (λ z. Stopped shown b c (told.text z)) same next))

    -- the printing stops before them
    pub stopped_before : (a b : O) (xs : List T) → 0 < length xs → Stopped shown a b (codes "done ") → Stopped shown a b (done_text told xs)
    stopped_before a b [] some before = absurd (omega (arith, some))
    stopped_before a b (y ∷ ys) some before = stopped_first shown a b (codes "done ") (told.text y ++ flat_map (next_text told) ys) before

-- what stands before what a member was told, and that
pub undone_parts : (digits member why : List ℕ) → digits ≡ member → (codes "undone " ++ (digits ++ (codes " " ++ []))) ++ why ≡ codes "undone " ++ member ++ codes " " ++ why
undone_parts digits member why is =
    let moved : (codes "undone " ++ (member ++ (codes " " ++ []))) ++ why ≡ codes "undone " ++ member ++ codes " " ++ why = simp append_assoc refl in
    ap (λ ds. (codes "undone " ++ (ds ++ (codes " " ++ []))) ++ why) is ∙ moved

module _ {S C Q R A M T : Type 0} (own : Machine S C Q R A) (shown : ShownMembers C R M T) (only : (words : List ℕ) (t : T) → shown.words_told words ≡ Some t → shown.told_words t ≡ words) where
  abbrev all_reply : List T → GuardedReply R T (List T)
  all_reply told = reply.All told

  all_listed : (words : List ℕ) (o : Option (List T)) → read_listed shown.words_told 2 words ≡ o → IsSome (option_map all_reply o) → IsToldAll shown (0 ∷ words)
  all_listed words None is some = absurd (cc)
  all_listed words (Some told) is some = (is_listed shown.told_words 2 shown.words_told only words told is).0

  -- words that tell of no member that did not succeed are those of a reply to a group that was done
  pub all_told : (words rest : List ℕ) → words ≡ 0 ∷ rest → (3 ≤ length words → slice_index words 1 ≢ 0) → IsSome (words_reply own shown words) → IsToldAll shown words
  all_told words rest is done some = subst (λ ws. IsToldAll shown ws) (sym is) (by_rest rest (subst (λ ws. 3 ≤ length ws → slice_index ws 1 ≢ 0) is done) (subst (λ ws. IsSome (words_reply own shown ws)) is some))
    where
      by_rest : (rest : List ℕ) → (3 ≤ length (0 ∷ rest) → slice_index (0 ∷ rest) 1 ≢ 0) → IsSome (words_reply own shown (0 ∷ rest)) → IsToldAll shown (0 ∷ rest)
      by_rest [] done some = all_listed [] (read_listed shown.words_told 2 []) refl some
      by_rest (zero ∷ []) done some = all_listed (0 ∷ []) (read_listed shown.words_told 2 (0 ∷ [])) refl some
      by_rest (zero ∷ w ∷ more) done some = absurd (done (omega arith) refl)
      by_rest (suc n ∷ more) done some = all_listed (suc n ∷ more) (read_listed shown.words_told 2 (suc n ∷ more)) refl some
