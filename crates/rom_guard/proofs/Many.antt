-- Words that list two to eight, each with so many words, are read one after another.
use Rattle.std.proofs.Common.{◌≡◌, ℕ, suc, ◌+◌, ◌-◌, ◌*◌, ◌<◌, ◌≤◌, List, [], ◌∷◌, ◌++◌, length, take, drop, Some, None, refl, sym, ap, ◌∙◌, arith}
use Rattle.std.specs.Prelude.{Option, slice_index}
use Rattle.std.specs.List.{flat_map}
use Rattle.std.proofs.Math.Nat.{mul-suc, mul-le-mul_left}
use Rattle.std.proofs.Math.Seq.{take-add}
use Rattle.std.proofs.lemmas.List.{drop-drop, flat_map_more, length-drop, length_push, take_all}
use Rattle.rom_model.specs.Groups.{is_size}
use Rattle.rom_guard.specs.Guarded.{listed, read_listed}
use Rattle.rom_guard.specs.Working.{HasMany, IsListed, listed_in}
use Rattle.rom_guard.specs.Wording.{listed_long, listed_only, made_listed, read_some}

-- The words behind the first two begin with so many that are written one behind the other.
pub record IsReadTo {X : Type 0} (write : X → List ℕ) (width : ℕ) (words : List ℕ) (i : ℕ) : Type 0 where
  pub xs : List X
  pub many : length xs ≡ i
  pub are : flat_map write xs ≡ take (width * i) (drop 2 words)

-- nothing is read where nothing can be
nothing_read : {Y : Type 0} (o : Option Y) → ((y : Y) → o ≡ Some y → ⊥) → o ≡ None
nothing_read None never = refl
nothing_read (Some y) never = absurd (never y refl)

-- two words and those behind them
split_two : (words : List ℕ) (n : ℕ) → 2 ≤ length words → slice_index words 0 ≡ 0 → slice_index words 1 ≡ n → words ≡ 0 ∷ n ∷ drop 2 words
split_two [] n long zeroed is = absurd (omega (arith, long))
split_two (a ∷ []) n long zeroed is = absurd (omega (arith, long))
split_two (a ∷ b ∷ words) n long zeroed is = λ i. zeroed i ∷ is i ∷ words

-- the words behind the first tell how many there are
split_one : (words listing : List ℕ) (n : ℕ) → n ∷ listing ≡ drop 1 words → (slice_index words 1 ≡ n) × (length words ≡ 2 + length listing)
split_one [] listing n is = absurd (cc)
split_one (a ∷ words) listing n is = (ap (λ ws. slice_index ws 0) (sym is), ap (λ ws. suc (length ws)) (sym is) ∙ omega arith)

module _ {X : Type 0} (write : X → List ℕ) (width : ℕ) (words : List ℕ) where
  -- none is read yet
  pub read_to_none : IsReadTo write width words 0
  read_to_none =
      let none : width * 0 ≡ 0 = omega arith in
      record { xs = []; many = refl; are = sym (ap (λ k. take k (drop 2 words)) none) }

  -- one more is read
  pub read_to_more : (read : List ℕ → Option X) → ((ws : List ℕ) (x : X) → read ws ≡ Some x → write x ≡ ws) → (i : ℕ) (x : X) → IsReadTo write width words i → read (take (2 + width * i + width - (2 + width * i)) (drop (2 + width * i) words)) ≡ Some x → IsReadTo write width words (i + 1)
  read_to_more read only i x so_far is =
      let wide : 2 + width * i + width - (2 + width * i) ≡ width = omega arith in
      let there : write x ≡ take width (drop (width * i) (drop 2 words)) = only _ x is ∙ (ap (λ k. take k (drop (2 + width * i) words)) wide ∙ ap (take width) (sym (drop-drop (width * i) 2 words))) in
      let next : width * i + width ≡ width * (i + 1) = let step = mul-suc width i in let one : i + 1 ≡ suc i = omega arith in sym (ap (λ k. width * k) one ∙ step ∙ omega arith) in
      record {
        xs = so_far.xs ++ x ∷ [];
        many = length_push so_far.xs x ∙ ap (λ k. k + 1) so_far.many;
        are = sym (flat_map_more write [] so_far.xs x) ∙ (ap (λ ws. ws ++ write x) so_far.are ∙ (ap (λ ws. take (width * i) (drop 2 words) ++ ws) there ∙ (sym (take-add (width * i) width (drop 2 words)) ∙ ap (λ k. take k (drop 2 words)) next)));
      }

  -- the next is within the words
  pub many_within : (many i : ℕ) → HasMany width words many → i < many → 2 + width * i + width ≤ length words
  many_within many i has lt =
      let next : width * suc i ≡ width + width * i = let step = mul-suc width i in omega arith in
      let most : width * suc i ≤ width * many = mul-le-mul_left width (omega (arith, lt)) in
      omega (arith, has.long, next, most)

  module _ (read : List ℕ → Option X) (only : (ws : List ℕ) (x : X) → read ws ≡ Some x → write x ≡ ws) (long : (x : X) → length (write x) ≡ width) where
    -- words that are read as a list have as many
    pub many_of : (xs : List X) → read_listed read width (drop 1 words) ≡ Some xs → HasMany width words (length xs)
    many_of xs is =
        let lists = listed_only write width read only (drop 1 words) xs is in
        let two = split_one words (flat_map write xs) (length xs) lists.1 in
        record { size = lists.0; told = two.0; long = two.1 ∙ ap (λ k. 2 + k) (listed_long write width long xs) }

    -- nothing is read where there are not so many
    pub none_of_many : ((many : ℕ) → HasMany width words many → ⊥) → read_listed read width (drop 1 words) ≡ None
    none_of_many none = nothing_read (read_listed read width (drop 1 words)) (λ xs is. none (length xs) (many_of xs is))

    module _ (back : (x : X) → read (write x) ≡ Some x) (many : ℕ) (has : HasMany width words many) where
      -- all are read
      pub all_read : slice_index words 0 ≡ 0 → IsReadTo write width words many → (xs : List X) × IsListed write (listed_in read width words) words × (read_listed read width (drop 1 words) ≡ Some xs)
      all_read zeroed so_far =
          let lead : 2 ≤ length words = omega (arith, has.long) in
          let rest : length (drop 2 words) ≤ width * many = omega (arith, has.long, length-drop 2 words) in
          let whole : flat_map write so_far.xs ≡ drop 2 words = so_far.are ∙ take_all (width * many) (drop 2 words) rest in
          let is : words ≡ 0 ∷ listed write so_far.xs = split_two words (length so_far.xs) lead zeroed (has.told ∙ sym so_far.many) ∙ ap (λ ws. 0 ∷ length so_far.xs ∷ ws) (sym whole) in
          let made = made_listed write width read long back so_far.xs words (ap is_size so_far.many ∙ has.size) is in
          (so_far.xs, made.0, made.1)

      -- nothing is read where one is not
      pub one_unread : slice_index words 0 ≡ 0 → (i : ℕ) → i < many → read (take (2 + width * i + width - (2 + width * i)) (drop (2 + width * i) words)) ≡ None → read_listed read width (drop 1 words) ≡ None
      one_unread zeroed i lt is = nothing_read (read_listed read width (drop 1 words)) never
        where
          never : (xs : List X) → read_listed read width (drop 1 words) ≡ Some xs → ⊥
          never xs read_so =
              let lists = listed_only write width read only (drop 1 words) xs read_so in
              let as_many : length xs ≡ many = sym (split_one words (flat_map write xs) (length xs) lists.1).0 ∙ has.told in
              let lead : 2 ≤ length words = omega (arith, has.long) in
              let whole : words ≡ 0 ∷ listed write xs = by_first words lead zeroed lists.1 in
              let some = read_some write width read long xs words (record { is = whole; size = lists.0 }) back i None (omega (arith, lt, as_many)) (sym is) in cc
            where
              by_first : (ws : List ℕ) → 2 ≤ length ws → slice_index ws 0 ≡ 0 → listed write xs ≡ drop 1 ws → ws ≡ 0 ∷ listed write xs
              by_first [] le first same = absurd (omega (arith, le))
              by_first (a ∷ ws) le first same = λ j. first j ∷ sym same j
