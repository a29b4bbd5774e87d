-- Texts that are printed one after another.
use Rattle.std.specs.Prelude.{◌≡◌, ℕ, ◌+◌, ◌-◌, List, ◌++◌, length, take, drop, min, Option, Result, Ok, Err}
use Rattle.std.proofs.Common.{sym, subst, ap, ◌∙◌, get_or, ◌<◌, take-add, arith, length-drop}
use Rattle.std.specs.Io.KnownBytes.{Appends}
use Rattle.std.proofs.KnownBytes.{Appends-trans}
use Rattle.std.proofs.lemmas.List.{take_all, take-append-le, take_min, take-append-drop, drop_more}
use Rattle.std.proofs.lemmas.List.Concat.{flat_map-cons}
use Rattle.std.proofs.lemmas.Grind.{flat_map-append}
use Rattle.std.specs.List.{flat_map}
use Rattle.std.proofs.Math.Seq.{take-append-add}
use Rattle.std.specs.Result.{IsErrAnd}
use Rattle.std.proofs.lemmas.Result.{err_from_is_err_and}
use Rattle.rom_model.specs.Faults.{FailedLast, HasCause}
use Rattle.rom_text.specs.Streams.{ShownSink, AppendsFront, AppendsText, Prints}

-- what `&text[at..]` reads
rest_is : (text : List ℕ) (at : ℕ) → take (length text - at) (drop at text) ≡ drop at text
rest_is text at = take_all _ _ (omega (arith, length-drop at text))

-- a write goes on where the one before stopped
pub wrote_on : (a b c : Option (List ℕ)) (text : List ℕ) (at n : ℕ) → Appends a b (take at text) → Appends b c (take n (take (length text - at) (drop at text))) → Appends a c (take (at + n) text)
wrote_on a b c text at n before now =
    let all : take at text ++ take n (take (length text - at) (drop at text)) ≡ take (at + n) text = ap (λ ys. take at text ++ take n ys) (rest_is text at) ∙ sym (take-add at n text) in
    subst (λ bs. Appends a c bs) all (Appends-trans a b c _ _ before now)

-- some of the first text is as much of both
take_of_both : (xs ys : List ℕ) (n : ℕ) → take n xs ≡ take (min n (length xs)) (xs ++ ys)
take_of_both xs ys n = sym (take-append-le (min n (length xs)) xs ys (omega arith) ∙ take_min n xs)

-- what is taken of the first text is taken of both
pub front_of_both : (a b : Option (List ℕ)) (xs ys : List ℕ) → AppendsFront a b xs → AppendsFront a b (xs ++ ys)
front_of_both a b xs ys (n, some) = (min n (length xs), subst (λ bs. Appends a b bs) (take_of_both xs ys n) some)

-- the first text is taken whole, and some of the second
pub after_the_first : (a b c : Option (List ℕ)) (xs ys : List ℕ) → Appends a b xs → AppendsFront b c ys → AppendsFront a c (xs ++ ys)
after_the_first a b c xs ys first (n, some) = (length xs + n, subst (λ bs. Appends a c bs) (sym (take-append-add xs ys n)) (Appends-trans a b c xs (take n ys) first some))

-- a list of texts that stops in one of them
front_of_all : {X : Type 0} (f : X → List ℕ) (a b c : Option (List ℕ)) (xs : List X) (i : ℕ) (d : X) → i < length xs →
    Appends a b (flat_map f (take i xs)) → AppendsFront b c (f (get_or xs i d)) → AppendsFront a c (flat_map f xs)
front_of_all f a b c xs i d lt before some =
    let all : flat_map f xs ≡ flat_map f (take i xs) ++ (f (get_or xs i d) ++ flat_map f (drop (i + 1) xs)) =
    sym (ap (flat_map f) (take-append-drop i xs)) ∙ flat_map-append f (take i xs) (drop i xs)
    ∙ ap (λ ys. flat_map f (take i xs) ++ flat_map f ys) (drop_more xs i d lt)
    ∙ ap (λ ys. flat_map f (take i xs) ++ ys) (flat_map-cons f (get_or xs i d) (drop (i + 1) xs)) in
    subst (λ text. AppendsFront a c text) (sym all) (after_the_first a b c _ _ before (front_of_both b c (f (get_or xs i d)) _ some))

module _ {O : Type 0} (shown : ShownSink O) where
  -- The text is printed, and no write failed.
  pub record Printed (a b : O) (text : List ℕ) : Type 0 where
    pub bytes : Appends (shown.taken a) (shown.taken b) text
    pub faults : shown.faults b ≡ shown.faults a
    pub rest : shown.rest b ≡ shown.rest a

  -- Some of the text is printed, and the last write failed, and no other.
  pub record Stopped (a b : O) (text : List ℕ) : Type 0 where
    pub bytes : AppendsFront (shown.taken a) (shown.taken b) text
    pub failed : FailedLast (shown.faults a) (shown.faults b) (shown.failing b)
    pub rest : shown.rest b ≡ shown.rest a

  -- what `Ok` says
  pub printed : {T E : Type 0} (a b : O) (v : T) (text : List ℕ) → (let r : Result T E = Ok v in Prints shown a b r text) → Printed a b text
  printed a b v text p = record { bytes = p.bytes; faults = p.cause.none; rest = p.rest }

  -- what `Err` says
  pub stopped : {T E : Type 0} (a b : O) (e : E) (text : List ℕ) → (let r : Result T E = Err e in Prints shown a b r text) → Stopped a b text
  stopped a b e text p = record { bytes = p.bytes; failed = p.cause.failed; rest = p.rest }

  -- the exit of a `?`
  pub prints_stopped : {T E : Type 0} (Q : E → Type 0) (a b : O) (r : Result T E) (text : List ℕ) → IsErrAnd r Q → Stopped a b text → Prints shown a b r text
  prints_stopped Q a b r text err some =
      let p = err_from_is_err_and {Q = Q} r err in
      rw p.1 (record { bytes = some.bytes; cause = record { none = tt; failed = some.failed }; rest = some.rest })

  -- the first of two texts stops
  pub stopped_first : (a b : O) (xs ys : List ℕ) → Stopped a b xs → Stopped a b (xs ++ ys)
  stopped_first a b xs ys some = record { bytes = front_of_both _ _ xs ys some.bytes; failed = some.failed; rest = some.rest }

  -- the first text is printed, and the second stops
  pub stopped_second : (a b c : O) (xs ys : List ℕ) → Printed a b xs → Stopped b c ys → Stopped a c (xs ++ ys)
  stopped_second a b c xs ys first some = record {
    bytes = after_the_first _ _ _ xs ys first.bytes some.bytes;
    failed = subst (λ n. FailedLast n (shown.faults c) (shown.failing c)) first.faults some.failed;
    rest = some.rest ∙ first.rest;
  }

  -- the first text is printed, and the second
  pub printed_both : (a b c : O) (xs ys : List ℕ) → Printed a b xs → Printed b c ys → Printed a c (xs ++ ys)
  printed_both a b c xs ys first second = record {
    bytes = Appends-trans _ _ _ xs ys first.bytes second.bytes;
    faults = second.faults ∙ first.faults;
    rest = second.rest ∙ first.rest;
  }

  -- a list of texts stops in one of them
  pub stopped_in : {X : Type 0} (f : X → List ℕ) (a b c : O) (xs : List X) (i : ℕ) (d : X) → i < length xs →
      Printed a b (flat_map f (take i xs)) → Stopped b c (f (get_or xs i d)) → Stopped a c (flat_map f xs)
  stopped_in f a b c xs i d lt before some = record {
    bytes = front_of_all f _ _ _ xs i d lt before.bytes some.bytes;
    failed = subst (λ n. FailedLast n (shown.faults c) (shown.failing c)) before.faults some.failed;
    rest = some.rest ∙ before.rest;
  }

  -- the first text is printed, and then as much of the second as its printing says
  pub both_printed : {T E : Type 0} (a b c : O) (r : Result T E) (xs ys : List ℕ) → Printed a b xs → Prints shown b c r ys → Prints shown a c r (xs ++ ys)
  both_printed a b c r xs ys first second = record {
    bytes = texts r second.bytes;
    cause = subst (λ n. HasCause n (shown.faults c) (shown.failing c) r) first.faults second.cause;
    rest = second.rest ∙ first.rest;
  }
    where
      texts : {T E : Type 0} (r : Result T E) → AppendsText (shown.taken b) (shown.taken c) r ys → AppendsText (shown.taken a) (shown.taken c) r (xs ++ ys)
      texts (Ok v) all = Appends-trans _ _ _ xs ys first.bytes all
      texts (Err e) some = after_the_first _ _ _ xs ys first.bytes some
