-- What is known of a source by its first message.
use Rattle.std.proofs.Common.{◌≡◌, ◌≢◌, ◌⊎◌, inl, inr, ℕ, ◌+◌, ◌-◌, ◌<◌, ◌≤◌, List, [], ◌++◌, Option, Some, None, Result, length, take, drop, refl, subst, sym, ap, ◌∙◌, arith, length-take, length-append, take-append-drop}
use Rattle.std.proofs.lemmas.List.{drop-drop, drop_all, take_at}
use Rattle.std.proofs.lemmas.Slice.{between_is}
use Rattle.std.proofs.KnownBytes.{prepend_known-nil}
use Rattle.std.specs.Prelude.{Bool, true, false, IsTrue, IsFalse, if◌then◌else◌}
use Rattle.std.specs.Io.KnownBytes.{Consumes, IsAtEnd, Keeps, ReadConsumes, prepend_known}
use Rattle.rom_text.specs.Limits.{CameToEnd}
use Rattle.rom_text.specs.Streams.{ShownSource}
use Rattle.rom_frame.specs.Heads.{AreWords, head}
use Rattle.rom_frame.specs.Messages.{GaveOn, IsCount, IsMessageHeard, first_word}
use Rattle.rom_frame.specs.declared.head.Head.{Head}
use Rattle.rom_frame.specs.declared.stream.message.MessageKind.{MessageKind}
use Rattle.rom_frame.specs.declared.stream.message.MessageKind.TheVariants.{Whole, End, Broken, Failed, TooLong}
use Rattle.rom_frame.proofs.Heads.{head_first, length-head}
use Rattle.rom_frame.proofs.Hearing.{same_word}

-- bytes that are held are given from their front
pub given : (held copied tail : List ℕ) (at len count : ℕ) → length copied ≡ count → copied ≡ take count (take (len - at) (drop at held)) →
    drop at (take len held) ≡ take count (copied ++ tail) ++ drop (at + count) (take len held)
given held copied tail at len count long is =
    let front : take count (copied ++ tail) ≡ take count (drop at (take len held)) = take_at copied tail count long ∙ is ∙ ap (take count) (between_is held at len) in
    sym (take-append-drop count (drop at (take len held)))
    ∙ (λ i. sym front i ++ drop-drop count at (take len held) i)

pub none_held : (held : List ℕ) (at len : ℕ) → len ≤ at → drop at (take len held) ≡ []
none_held held at len past = drop_all at (take len held) (omega (arith, past, length-take len held))

-- a read of the source, where no bytes are held
pub behind_held : {E : Type 0} (held : List ℕ) (a b : Option (List ℕ)) (r : Result ℕ E) (buf : List ℕ) → held ≡ [] → ReadConsumes a b r buf → ReadConsumes (prepend_known held a) (prepend_known held b) r buf
behind_held held a b r buf none is =
    subst (λ (h : List ℕ). ReadConsumes (prepend_known h a) (prepend_known h b) r buf) (sym none)
    (subst (λ (x : Option (List ℕ)). ReadConsumes x (prepend_known [] b) r buf) (sym (prepend_known-nil a))
    (subst (λ (x : Option (List ℕ)). ReadConsumes a x r buf) (sym (prepend_known-nil b)) is))

-- bytes that were read and are held are there still
kept_by : (a b : Option (List ℕ)) (bs : List ℕ) → Consumes a b bs → Keeps a (prepend_known bs b)
kept_by None b bs is = tt
kept_by (Some x) None bs is = absurd is
kept_by (Some x) (Some y) bs is = sym is

pub held_back : (held : List ℕ) (a b : Option (List ℕ)) (bs : List ℕ) → held ≡ [] → Consumes a b bs → Keeps (prepend_known held a) (prepend_known bs b)
held_back held a b bs none is =
    subst (λ (h : List ℕ). Keeps (prepend_known h a) (prepend_known bs b)) (sym none)
    (subst (λ (x : Option (List ℕ)). Keeps x (prepend_known bs b)) (sym (prepend_known-nil a)) (kept_by a b bs is))

-- and so with those that were taken for good
pub taken_from : (held : List ℕ) (a b : Option (List ℕ)) (bs : List ℕ) → held ≡ [] → Consumes a b bs → Consumes (prepend_known held a) (prepend_known held b) bs
taken_from held a b bs none is =
    subst (λ (h : List ℕ). Consumes (prepend_known h a) (prepend_known h b) bs) (sym none)
    (subst (λ (x : Option (List ℕ)). Consumes x (prepend_known [] b) bs) (sym (prepend_known-nil a))
    (subst (λ (x : Option (List ℕ)). Consumes a x bs) (sym (prepend_known-nil b)) is))

module _ {S : Type 0} (shown : ShownSource S) (bytes : List ℕ) (old new : S) (short : length bytes ≤ 512) where
  pub end_heard : (kind : MessageKind) (first : ℕ) → IsMessageHeard shown 0 bytes old new kind → (8 ≤ length bytes → first_word bytes ≡ first)
      → (kind ≡ End) ⊎ ((kind ≡ Broken) × ((length bytes < 8) ⊎ IsCount first)) → CameToEnd shown old new
  end_heard Whole first heard same (inl is) = absurd (let never : Whole ≡ End = is in cc)
  end_heard Whole first heard same (inr is) = absurd (let never : Whole ≡ Broken = is.0 in cc)
  end_heard End first heard same is = heard.1
  end_heard Broken first (few, inr late) same is = late.2
  end_heard Broken first (few, inl none) same (inl is) = absurd (let never : Broken ≡ End = is in cc)
  end_heard Broken first (few, inl none) same (inr (is, inl some)) = absurd (omega (arith, none.0.0, some))
  end_heard Broken first (few, inl none) same (inr (is, inr count)) = absurd (none.0.1 (subst IsCount (sym (same (omega (arith, none.0.0)))) count))
  end_heard Failed first heard same (inl is) = absurd (let never : Failed ≡ End = is in cc)
  end_heard Failed first heard same (inr is) = absurd (let never : Failed ≡ Broken = is.0 in cc)
  end_heard TooLong first heard same is = absurd (omega (arith, short, heard.0))

  pub going_heard : (kind : MessageKind) (first : ℕ) → IsMessageHeard shown 0 bytes old new kind → kind ≢ Failed → (8 ≤ length bytes → first_word bytes ≡ first)
      → (kind ≢ End) × (kind ≡ Broken → (8 ≤ length bytes) × (IsCount first → ⊥)) → GaveOn shown old new
  going_heard Whole first heard unfailed same is = heard.2
  going_heard End first heard unfailed same is = absurd (is.0 refl)
  going_heard Broken first (few, inl none) unfailed same is = none.1
  going_heard Broken first (few, inr (some, inl less, came)) unfailed same is = absurd (omega (arith, less, (is.1 refl).0))
  going_heard Broken first (few, inr (some, inr (count, less), came)) unfailed same is = absurd ((is.1 refl).1 (subst IsCount (same ((is.1 refl).0)) count))
  going_heard Failed first heard unfailed same is = absurd (unfailed refl)
  going_heard TooLong first heard unfailed same is = absurd (omega (arith, short, heard.0))

  -- what the source counted, up to its end or before
  pub how_heard : (kind : MessageKind) (first : ℕ) → IsMessageHeard shown 0 bytes old new kind → kind ≢ Failed → (8 ≤ length bytes → first_word bytes ≡ first) → (at_end : Bool)
      → (IsTrue at_end → (kind ≡ End) ⊎ ((kind ≡ Broken) × ((length bytes < 8) ⊎ IsCount first)))
      → (IsFalse at_end → (kind ≢ End) × (kind ≡ Broken → (8 ≤ length bytes) × (IsCount first → ⊥)))
      → (shown.faults new ≡ shown.faults old) × (shown.idle (if at_end then old else new) ≡ shown.idle old)
  how_heard kind first heard unfailed same true end going = ((end_heard kind first heard same (end refl)).unfailed, refl)
  how_heard kind first heard unfailed same false end going = let gave = going_heard kind first heard unfailed same (going refl) in (gave.faults, gave.idle)

  -- bytes that were heard as no head are not those of one
  module _ (h : Head) (rest ys : List ℕ) (words : AreWords h) (all : head h ++ rest ≡ bytes ++ ys) where
    seven : 8 ≤ length bytes → first_word bytes ≡ 7
    seven some =
        ap first_word (sym (take_at bytes ys (length bytes) refl))
        ∙ same_word (length bytes) (bytes ++ ys) some
        ∙ ap first_word (sym all)
        ∙ head_first h rest

    long : length bytes + length ys ≡ 56 + length rest
    long = omega (arith, ap length all, length-append (head h) rest, length-append bytes ys, length-head h)

    whole_head : length bytes ≡ 56 → bytes ≡ head h
    whole_head many = sym (take_at bytes ys 56 many) ∙ ap (take 56) (sym all) ∙ take_at (head h) rest 56 (length-head h)

    no_head_in : (kind : MessageKind) → IsMessageHeard shown 0 bytes old new kind → kind ≢ Failed → (kind ≡ Whole → bytes ≢ head h) → (IsAtEnd (shown.left new) → ys ≡ []) → ⊥
    no_head_in Whole heard unfailed none ended =
        let some : 8 ≤ length bytes = omega (arith, heard.0.count.0, heard.0.whole) in
        none refl (whole_head (omega (arith, heard.0.whole, seven some)))
    no_head_in End heard unfailed none ended = omega (arith, long, ap length heard.0, ap length (ended heard.1.at_end))
    no_head_in Broken (few, inl (no_count, gave)) unfailed none ended =
        let is = seven (omega (arith, no_count.0)) in no_count.1 (omega (arith, is), omega (arith, is))
    no_head_in Broken (few, inr (some, inl less, came)) unfailed none ended = omega (arith, long, less, ap length (ended came.at_end))
    no_head_in Broken (few, inr (some, inr (count, less), came)) unfailed none ended =
        let many : 56 ≤ length bytes = omega (arith, long, ap length (ended came.at_end)) in
        omega (arith, less, many, seven (omega (arith, many)))
    no_head_in Failed heard unfailed none ended = unfailed refl
    no_head_in TooLong heard unfailed none ended = omega (arith, short, heard.0)

  pub no_head_heard : (kind : MessageKind) → IsMessageHeard shown 0 bytes old new kind → kind ≢ Failed → Consumes (shown.left old) (shown.left new) bytes
      → (kind ≡ Whole → (h : Head) → AreWords h → bytes ≢ head h) → (h : Head) (rest : List ℕ) → AreWords h → shown.left old ≡ Some (head h ++ rest) → ⊥
  no_head_heard kind heard unfailed consumed none h rest words is = by_left (shown.left new) refl (subst (λ (x : Option (List ℕ)). Consumes x (shown.left new) bytes) is consumed)
    where
      by_left : (b : Option (List ℕ)) → shown.left new ≡ b → Consumes (Some (head h ++ rest)) (shown.left new) bytes → ⊥
      by_left None is_2 all = subst (λ (x : Option (List ℕ)). Consumes (Some (head h ++ rest)) x bytes) is_2 all
      by_left (Some ys) is_2 all =
          no_head_in h rest ys words (subst (λ (x : Option (List ℕ)). Consumes (Some (head h ++ rest)) x bytes) is_2 all) kind heard unfailed
          (λ whole. none whole h words) (λ ended. subst IsAtEnd is_2 ended)
