-- What is written one behind the other, and read from there.
use Rattle.std.proofs.Common.{◌≡◌, ◌≢◌, ℕ, zero, suc, ◌+◌, ◌-◌, ◌*◌, ◌<◌, ◌≤◌, Bool, true, false, List, [], ◌∷◌, ◌++◌, length, take, drop, Some, None, refl, sym, ap, subst, ◌∙◌, arith}
use Rattle.std.specs.Prelude.{Option, IsSome, option_map, ◌&&◌, nat_le, slice_get, if◌then◌else◌}
use Rattle.std.specs.List.{flat_map}
use Rattle.std.specs.Option.{option_and_then}
use Rattle.std.proofs.Math.Nat.{mul-suc, mul-le-mul_left}
use Rattle.std.proofs.lemmas.Bool.{le-leb}
use Rattle.std.proofs.lemmas.Bool.Decides.{nat_tests}
use Rattle.std.proofs.lemmas.List.{drop-drop, drop_at, length-append, length_push, take-append-drop, take_at}
use Rattle.rom_model.specs.Groups.{is_size}
use Rattle.rom_model.specs.Machine.{Machine}
use Rattle.rom_guard.specs.declared.call.GuardedCall.{GuardedCall}
use Rattle.rom_guard.specs.declared.call.GuardedCall.TheVariants as call
use Rattle.rom_guard.specs.declared.call.GuardedReply.TheVariants as reply
use Rattle.rom_guard.specs.Guarded.{ShownMembers, Tried, Succeeded, Stopped, group_of, listed, read_each, read_listed, tried, tried_from, words_call, words_reply}
use Rattle.rom_guard.specs.Working.{IsGroup, IsListed, list_of, listed_in, members_in, tried_words}

-- where a test holds
pub when : {Y : Type 0} (b : Bool) (o p : Option Y) → b ≡ true → (if b then o else p) ≡ o
when b o p is = ap (λ (c : Bool). if c then o else p) is

-- something is read only where the test holds
pub only_when : {Y : Type 0} (b : Bool) (o : Option Y) (y : Y) → (if b then o else None) ≡ Some y → (b ≡ true) × (o ≡ Some y)
only_when true o y is = (refl, is)
only_when false o y is = absurd (cc)

-- two to eight is a size
pub is_sized : (n : ℕ) → 2 ≤ n → n ≤ 8 → is_size n ≡ true
is_sized n least most = ap (λ b. b && nat_le n 8) (le-leb 2 n least) ∙ le-leb n 8 most

-- a size is two to eight
pub size_least : (n : ℕ) → is_size n ≡ true → 2 ≤ n
size_least n size = grind (arith, nat_tests)

-- and at most eight
pub size_most : (n : ℕ) → is_size n ≡ true → n ≤ 8
size_most n size = grind (arith, nat_tests)

-- the first and the others are read where both are there
first_and_others : {X : Type 0} (o : Option X) (more : Option (List X)) (xs : List X) → option_and_then (λ x. option_map (λ ys. x ∷ ys) more) o ≡ Some xs → (y : X) × (ys : List X) × (o ≡ Some y) × (more ≡ Some ys) × (xs ≡ y ∷ ys)
first_and_others None more xs is = absurd (cc)
first_and_others (Some y) None xs is = absurd (cc)
first_and_others (Some y) (Some ys) xs is = let same : xs ≡ y ∷ ys = cc in (y, ys, refl, refl, same)

-- what there is at an index
some_at : {X : Type 0} (xs : List X) (i : ℕ) → i < length xs → (x : X) × (slice_get xs i ≡ Some x)
some_at [] i lt = absurd (omega (arith, lt))
some_at (x ∷ xs) zero lt = (x, refl)
some_at (x ∷ xs) (suc i) lt = some_at xs i (omega (arith, lt))

module _ {X : Type 0} (write : X → List ℕ) (width : ℕ) where
  -- so many words have as many times more
  pub listed_long : ((x : X) → length (write x) ≡ width) → (xs : List X) → length (flat_map write xs) ≡ width * length xs
  listed_long long [] = omega arith
  listed_long long (x ∷ xs) = length-append (write x) (flat_map write xs) ∙ (let one = long x in let more = listed_long long xs in let next = mul-suc width (length xs) in omega arith)

  -- the words of the one at an index
  pub piece : ((x : X) → length (write x) ≡ width) → (xs : List X) (i : ℕ) (x : X) → slice_get xs i ≡ Some x → take width (drop (width * i) (flat_map write xs)) ≡ write x
  piece long [] i x is = absurd (cc)
  piece long (y ∷ ys) zero x is =
      let same : y ≡ x = cc in
      let none : width * zero ≡ zero = omega arith in
      ap (λ k. take width (drop k (write y ++ flat_map write ys))) none ∙ (take_at (write y) (flat_map write ys) width (long y) ∙ ap write same)
  piece long (y ∷ ys) (suc i) x is =
      let next : width * suc i ≡ width + width * i = let step = mul-suc width i in omega arith in
      ap (λ k. take width (drop k (write y ++ flat_map write ys))) next
      ∙ (ap (take width) (sym (drop-drop (width * i) width (write y ++ flat_map write ys)) ∙ ap (drop (width * i)) (drop_at (write y) (flat_map write ys) width (long y)))
      ∙ piece long ys i x is)

  module _ (read : List ℕ → Option X) where
    -- what is written is read back
    pub each_back : ((x : X) → length (write x) ≡ width) → ((x : X) → read (write x) ≡ Some x) → (xs : List X) → read_each read width (length xs) (flat_map write xs) ≡ Some xs
    each_back long back [] = refl
    each_back long back (x ∷ xs) =
        let words = write x ++ flat_map write xs in
        let enough : width ≤ length words = let one = long x in let both = length-append (write x) (flat_map write xs) in omega arith in
        let front : read (take width words) ≡ Some x = ap read (take_at (write x) (flat_map write xs) width (long x)) ∙ back x in
        let others : read_each read width (length xs) (drop width words) ≡ Some xs = ap (read_each read width (length xs)) (drop_at (write x) (flat_map write xs) width (long x)) ∙ each_back long back xs in
        when (nat_le width (length words)) _ None (le-leb width (length words) enough)
        ∙ (ap (option_and_then (λ y. option_map (λ ys. y ∷ ys) (read_each read width (length xs) (drop width words)))) front
        ∙ ap (option_map (λ ys. x ∷ ys)) others)

    -- what is read was written so
    pub each_only : ((words : List ℕ) (x : X) → read words ≡ Some x → write x ≡ words) → (n : ℕ) (words : List ℕ) (xs : List X) → read_each read width n words ≡ Some xs → (length xs ≡ n) × (flat_map write xs ≡ words)
    each_only only zero [] xs is = let none : xs ≡ [] = cc in (ap length none, ap (flat_map write) none)
    each_only only zero (w ∷ words) xs is = absurd (cc)
    each_only only (suc n) words xs is =
        let enough = only_when (nat_le width (length words)) _ xs is in
        let read_so = first_and_others (read (take width words)) (read_each read width n (drop width words)) xs enough.1 in
        let rest = each_only only n (drop width words) read_so.1 read_so.3 in
        let first : write read_so.0 ≡ take width words = only (take width words) read_so.0 read_so.2 in
        let long : length xs ≡ suc n = ap length read_so.4 ∙ ap suc rest.0 in
        let both : flat_map write xs ≡ take width words ++ drop width words = ap (flat_map write) read_so.4 ∙ (ap (λ ws. ws ++ flat_map write read_so.1) first ∙ ap (λ ws. take width words ++ ws) rest.1) in
        (long, both ∙ take-append-drop width words)

    -- a list of two to eight is read back
    pub listed_back : ((x : X) → length (write x) ≡ width) → ((x : X) → read (write x) ≡ Some x) → (xs : List X) → is_size (length xs) ≡ true → read_listed read width (listed write xs) ≡ Some xs
    listed_back long back xs size = when (is_size (length xs)) _ None size ∙ each_back long back xs

    -- what is read is two to eight, written so
    pub listed_only : ((words : List ℕ) (x : X) → read words ≡ Some x → write x ≡ words) → (words : List ℕ) (xs : List X) → read_listed read width words ≡ Some xs → (is_size (length xs) ≡ true) × (listed write xs ≡ words)
    listed_only only [] xs is = absurd (cc)
    listed_only only (n ∷ words) xs is =
        let sized = only_when (is_size n) (read_each read width n words) xs is in
        let each = each_only only n words xs sized.1 in
        (ap is_size each.0 ∙ sized.0, λ i. each.0 i ∷ each.1 i)

    -- words that are read behind a 0 list what is read
    pub is_listed : ((words : List ℕ) (x : X) → read words ≡ Some x → write x ≡ words) → (words : List ℕ) (xs : List X) → read_listed read width words ≡ Some xs → IsListed write (listed_in read width (0 ∷ words)) (0 ∷ words) × (listed_in read width (0 ∷ words) ≡ xs)
    is_listed only words xs is =
        let same : listed_in read width (0 ∷ words) ≡ xs = ap list_of is in
        let both = listed_only only words xs is in
        (subst (λ ys. IsListed write ys (0 ∷ words)) (sym same) (record { is = ap (λ ws. 0 ∷ ws) (sym both.1); size = both.0 }), same)

    -- words that are made of two to eight list them
    pub made_listed : ((x : X) → length (write x) ≡ width) → ((x : X) → read (write x) ≡ Some x) → (xs : List X) (words : List ℕ) → is_size (length xs) ≡ true → words ≡ 0 ∷ listed write xs → IsListed write (listed_in read width words) words × (read_listed read width (drop 1 words) ≡ Some xs)
    made_listed long back xs words size is =
        let same : read_listed read width (drop 1 words) ≡ Some xs = ap (λ ws. read_listed read width (drop 1 ws)) is ∙ listed_back long back xs size in
        (subst (λ ys. IsListed write ys words) (sym (ap list_of same)) (record { is = is; size = size }), same)

    module _ (long : (x : X) → length (write x) ≡ width) (xs : List X) (words : List ℕ) (lists : IsListed write xs words) where
      -- the words of the one at an index are within the words of all
      pub within : (i : ℕ) → i < length xs → 2 + width * i + width ≤ length words
      within i lt =
          let all : length words ≡ 2 + length (flat_map write xs) = ap length lists.is ∙ omega arith in
          let next : width * suc i ≡ width + width * i = let step = mul-suc width i in omega arith in
          let most : width * suc i ≤ width * length xs = mul-le-mul_left width (omega (arith, lt)) in
          omega (arith, all, next, most, listed_long long xs)

      -- they are read as that one
      pub read_at : ((x : X) → read (write x) ≡ Some x) → (i : ℕ) → i < length xs → read (take width (drop (2 + width * i) words)) ≡ slice_get xs i
      read_at back i lt =
          let one = some_at xs i lt in
          let behind : drop (2 + width * i) words ≡ drop (width * i) (flat_map write xs) = ap (drop (2 + width * i)) lists.is ∙ sym (drop-drop (width * i) 2 (0 ∷ listed write xs)) in
          ap (λ ws. read (take width ws)) behind ∙ (ap read (piece long xs i one.0 one.1) ∙ (back one.0 ∙ sym one.1))

      -- and so is the part of a slice that has them
      pub read_part : ((x : X) → read (write x) ≡ Some x) → (i : ℕ) (found : Option X) → i < length xs → found ≡ read (take (2 + width * i + width - (2 + width * i)) (drop (2 + width * i) words)) → found ≡ slice_get xs i
      read_part back i found lt is =
          let wide : 2 + width * i + width - (2 + width * i) ≡ width = omega arith in
          is ∙ (ap (λ k. read (take k (drop (2 + width * i) words))) wide ∙ read_at back i lt)

      pub read_some : ((x : X) → read (write x) ≡ Some x) → (i : ℕ) (found : Option X) → i < length xs → found ≡ read (take (2 + width * i + width - (2 + width * i)) (drop (2 + width * i) words)) → IsSome found
      read_some back i found lt is = let one = some_at xs i lt in subst IsSome (sym (read_part back i found lt is ∙ one.1)) refl

-- what is told is read again only as what it was
made_of : {X Y : Type 0} (make : X → Y) → ((x y : X) → make x ≡ make y → x ≡ y) → (o : Option X) (x : X) → option_map make o ≡ Some (make x) → o ≡ Some x
made_of make one None x is = absurd (cc)
made_of make one (Some y) x is = let same : make y ≡ make x = cc in ap Some (one y x same)

module _ {S C Q R A M T : Type 0} (own : Machine S C Q R A) (shown : ShownMembers C R M T) where
  -- as many were told something as were done
  abbrev pub AsMany : ℕ → Tried S T → Type 0
  AsMany n (Succeeded s told) = length told ≡ n
  AsMany n (Stopped member why) = Unit {0}

  both_many : (n : ℕ) (b : Bool) (x y : Tried S T) → AsMany n x → AsMany n y → AsMany n (if b then x else y)
  both_many n true x y one two = one
  both_many n false x y one two = two

  pub as_many : (n j before : ℕ) (s : S) (told : List T) (members : List M) → AsMany (length told + length members) (tried_from own shown n j before s told members)
  as_many n j before s told [] = omega arith
  as_many n j before s told (m ∷ members) =
      let done = own.step n s j (shown.as_call m) in
      let more = told ++ shown.told_of done.1 ∷ [] in
      let rest = tried_from own shown n j (before + 1) done.0 more members in
      let many : length more + length members ≡ length told + suc (length members) = let one = length_push told (shown.told_of done.1) in omega arith in
      both_many (length told + suc (length members)) (shown.succeeds m (shown.told_of done.1)) rest (Stopped (before + 1) (shown.told_of done.1)) (subst (λ k. AsMany k rest) many (as_many n j (before + 1) done.0 more members)) tt

  -- the words of a reply to a group that was done are read as what is listed there
  reads_all : (n : ℕ) (words : List ℕ) → is_size n ≡ true → words_reply own shown (0 ∷ n ∷ words) ≡ option_map reply.All (read_listed shown.words_told 2 (n ∷ words))
  reads_all zero words size = absurd (cc)
  reads_all (suc n) words size = refl

  module _ (two : (t : T) → length (shown.told_words t) ≡ 2) (back : (t : T) → shown.words_told (shown.told_words t) ≡ Some t) where
    -- the reply to a group that was done is read back
    pub all_back : (told : List T) → is_size (length told) ≡ true → words_reply own shown (0 ∷ listed shown.told_words told) ≡ Some (reply.All told)
    all_back told size = reads_all (length told) (flat_map shown.told_words told) size ∙ ap (option_map reply.All) (listed_back shown.told_words 2 shown.words_told two back told size)

    -- and so is the reply to one that was not
    pub undone_back : (member : ℕ) (why : T) → words_reply own shown (0 ∷ 0 ∷ member ∷ shown.told_words why) ≡ Some (reply.Undone member why)
    undone_back member why = ap (option_map (reply.Undone member)) (back why)

    came_back : (n : ℕ) (s : S) (came : Tried S T) → AsMany n came → is_size n ≡ true → words_reply own shown (tried_words shown came) ≡ Some (group_of s came).1
    came_back n s (Succeeded t told) many size = all_back told (ap is_size many ∙ size)
    came_back n s (Stopped member why) many size = undone_back member why

    -- the reply to a group of two to eight is read back, whatever it came to
    pub tried_back : (n j : ℕ) (s : S) (members : List M) → is_size (length members) ≡ true → words_reply own shown (tried_words shown (tried own shown n s j members)) ≡ Some (group_of s (tried own shown n s j members)).1
    tried_back n j s members size =
        let none : 0 + length members ≡ length members = omega arith in
        came_back (length members) s (tried own shown n s j members) (subst (λ k. AsMany k (tried own shown n s j members)) none (as_many n j 0 s [] members)) size

  one_group : (xs ys : List M) → ◌≡◌ {A = GuardedCall C (List M)} (call.All xs) (call.All ys) → xs ≡ ys
  one_group xs ys same = cc

  one_own : (x y : C) → ◌≡◌ {A = GuardedCall C (List M)} (call.Own x) (call.Own y) → x ≡ y
  one_own x y same = cc

  never_own : (o : Option C) (ms : List M) → option_map call.Own o ≡ Some (call.All ms) → ⊥
  never_own None ms is = cc
  never_own (Some c) ms is = cc

  never_group : (o : Option (List M)) (c : C) → option_map call.All o ≡ Some (call.Own c) → ⊥
  never_group None c is = cc
  never_group (Some ms) c is = cc

  -- words that are read as a group are that group's
  pub group_read : ((words : List ℕ) (m : M) → shown.words_member words ≡ Some m → shown.member_words m ≡ words) → (words : List ℕ) (ms : List M) → words_call own shown words ≡ Some (call.All ms) → IsGroup shown words × (members_in shown words ≡ ms)
  group_read only [] ms is = absurd (never_own (own.words_call []) ms is)
  group_read only (zero ∷ words) ms is = is_listed shown.member_words 4 shown.words_member only words ms (made_of call.All one_group (read_listed shown.words_member 4 words) ms is)
  group_read only (suc w ∷ words) ms is = absurd (never_own (own.words_call (suc w ∷ words)) ms is)

  -- words that are read as a call of the object's own are no group's
  pub own_read : (words : List ℕ) (c : C) → words_call own shown words ≡ Some (call.Own c) → ((rest : List ℕ) → words ≢ 0 ∷ rest) × (own.words_call words ≡ Some c)
  own_read [] c is = ((λ rest same. cc), made_of call.Own one_own (own.words_call []) c is)
  own_read (zero ∷ words) c is = absurd (never_group (read_listed shown.words_member 4 words) c is)
  own_read (suc w ∷ words) c is = ((λ rest same. cc), made_of call.Own one_own (own.words_call (suc w ∷ words)) c is)
