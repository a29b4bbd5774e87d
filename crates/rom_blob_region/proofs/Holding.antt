-- What the tests of a node say where they hold, and what makes them hold.
use Rattle.std.proofs.Common.{◌≡◌, inl, inr, ℕ, zero, suc, ◌+◌, ◌-◌, ◌*◌, ◌/◌, ◌%◌, ◌^◌, ◌<◌, ◌≤◌, true, false, List, [], ◌∷◌, sym, ◌∙◌, ap, arith}
use Rattle.std.specs.Prelude.{Ok, slice_index, ◌==◌, ◌||◌, nat_le}
use Rattle.std.proofs.Math.Nat.{zero-div, div-div-eq-div-mul}
use Rattle.std.proofs.lemmas.Bool.{cases_eq, eq-eqb, eqb-true, le-leb, leb-true, or_left, or_right}
use Rattle.std.proofs.lemmas.Nat.{pow-add}
use Rattle.rom_model.specs.declared.unfit.Rule.TheVariants.{Pad, Count, Bucket, Repeat}
use Rattle.rom_model.specs.Blocks.{block_of}
use Rattle.rom_model.specs.Chains.{times, each_word}
use Rattle.rom_model.specs.Region.{bucket_of}
use Rattle.rom_model.specs.Tests.{Test, test, checked}
use Rattle.rom_model.proofs.Holding.{all_hold, holds_more}
use Rattle.rom_blob_region.specs.Bytes.{words_for, EndsInZeros}
use Rattle.rom_blob_region.specs.Region.{len_at, data_at}
use Rattle.rom_blob_region.specs.Tests.{blob_key_of, key_tests, ends_bare, end_tests}

-- a node that has passed the tests of its key
pub record HoldsKey (n : ℕ) (w : List ℕ) (i : ℕ) (before : List ℕ) (b : ℕ) : Type 0 where
  pub few : len_at n w b ≤ 256
  pub own : bucket_of n (blob_key_of n w b) ≡ i
  pub once : times (blob_key_of n w b) (each_word n w 0 before) ≡ 0

module _ (n : ℕ) (w : List ℕ) (i : ℕ) (before : List ℕ) (b : ℕ) where
  abbrev few_test : Test
  few_test = test (block_of n b + 1) Count (nat_le (len_at n w b) 256)

  abbrev own_test : Test
  own_test = test (block_of n b) Bucket (bucket_of n (blob_key_of n w b) == i)

  abbrev once_test : Test
  once_test = test (block_of n b) Repeat (times (blob_key_of n w b) (each_word n w 0 before) == 0)

  pub key_held : checked (key_tests n w i before b) ≡ Ok tt → HoldsKey n w i before b
  key_held hold =
      let a = all_hold few_test (own_test ∷ once_test ∷ []) tt tt hold in
      let o = all_hold own_test (once_test ∷ []) tt tt a.rest in
      let c = all_hold once_test [] tt tt o.rest in
      record {
        few = leb-true (len_at n w b) 256 a.here;
        own = eqb-true (bucket_of n (blob_key_of n w b)) i o.here;
        once = eqb-true (times (blob_key_of n w b) (each_word n w 0 before)) 0 c.here;
      }

  pub key_holds : HoldsKey n w i before b → checked (key_tests n w i before b) ≡ Ok tt
  key_holds is =
      holds_more few_test (own_test ∷ once_test ∷ []) tt (le-leb (len_at n w b) 256 is.few)
      ∙ (holds_more own_test (once_test ∷ []) tt (eq-eqb (bucket_of n (blob_key_of n w b)) i is.own) ∙ holds_more once_test [] tt (eq-eqb (times (blob_key_of n w b) (each_word n w 0 before)) 0 is.once))

-- a number without bytes from one on has none behind it
none_behind : (x r k : ℕ) → r ≤ k → x / 256 ^ r ≡ 0 → x / 256 ^ k ≡ 0
none_behind x r k le none =
    let e : r + (k - r) ≡ k = omega (arith, le) in
    let p : 256 ^ k ≡ 256 ^ r * 256 ^ (k - r) = ap (λ a. 256 ^ a) (sym e) ∙ pow-add 256 r (k - r) in
    ap (λ a. x / a) p ∙ sym (div-div-eq-div-mul x (256 ^ r) (256 ^ (k - r))) ∙ ap (λ a. a / 256 ^ (k - r)) none ∙ zero-div (256 ^ (k - r))

-- a word whose bytes from one on are all 0 has none there
none_there : (m x r : ℕ) → r + m ≡ 8 → x < 2 ^ 64 → ((k : ℕ) → r ≤ k → k < 8 → x / 256 ^ k % 256 ≡ 0) → x / 256 ^ r ≡ 0
none_there zero x r deep small zeros = let e : r ≡ 8 = omega arith in ap (λ a. x / 256 ^ a) e ∙ (let none : x / 18446744073709551616 ≡ 0 = omega (arith, small) in none)
none_there (suc m) x r deep small zeros =
    let rest : x / 256 ^ (r + 1) ≡ 0 = none_there m x (r + 1) (omega arith) small (λ k ge lt. zeros k (omega (arith, ge)) lt) in
    let next : x / 256 ^ (r + 1) ≡ x / 256 ^ r / 256 = ap (λ a. x / a) (pow-add 256 r 1) ∙ sym (div-div-eq-div-mul x (256 ^ r) 256) in
    digits (x / 256 ^ r) (omega (arith, next, rest)) (zeros r (omega arith) (omega (arith, deep)))
  where
    digits : (y : ℕ) → y / 256 ≡ 0 → y % 256 ≡ 0 → y ≡ 0
    digits y high low = omega (arith, high, low)

-- the words of bytes
module _ (w : List ℕ) (at len : ℕ) where
  abbrev last : ℕ
  last = slice_index w (at + len / 8)

  bare_word : len % 8 ≡ 0 → EndsInZeros w at len
  bare_word whole k ge lt = absurd (omega (arith, whole, ge, lt))

  bare_bytes : last / 256 ^ (len % 8) ≡ 0 → EndsInZeros w at len
  bare_bytes none k ge lt =
      let word : k / 8 ≡ len / 8 = omega (arith, ge, lt) in
      ap (λ a. slice_index w (at + a) / 256 ^ (k % 8) % 256) word ∙ ap (λ a. a % 256) (none_behind last (len % 8) (k % 8) (omega (arith, ge, lt, word)) none)

  bare_ends : ends_bare w at len ≡ true → EndsInZeros w at len
  bare_ends bare = elim (cases_eq (len % 8) 0) [
    | inl whole ↦ bare_word whole
    | inr some ↦
        let test : (len % 8 == 0) ≡ false = Rattle.std.proofs.lemmas.Bool.ne_eqb (len % 8) 0 some in
        let rest : (last / 256 ^ (len % 8) == 0) ≡ true = ap (λ t. t || (last / 256 ^ (len % 8) == 0)) (sym test) ∙ bare in
        bare_bytes (eqb-true (last / 256 ^ (len % 8)) 0 rest)
  ]

  ends_are_bare : last < 2 ^ 64 → EndsInZeros w at len → ends_bare w at len ≡ true
  ends_are_bare small ends = elim (cases_eq (len % 8) 0) [
    | inl whole ↦ or_left (len % 8 == 0) (last / 256 ^ (len % 8) == 0) (eq-eqb (len % 8) 0 whole)
    | inr some ↦ or_right (len % 8 == 0) (last / 256 ^ (len % 8) == 0) (eq-eqb (last / 256 ^ (len % 8)) 0 (none_there (8 - len % 8) last (len % 8) (omega arith) small (zeros some)))
  ]
    where
      zeros : (len % 8 ≡ 0 → ⊥) → (k : ℕ) → len % 8 ≤ k → k < 8 → last / 256 ^ k % 256 ≡ 0
      zeros some k ge lt =
          let j = 8 * (len / 8) + k in
          let word : j / 8 ≡ len / 8 = omega (arith, lt) in
          let byte : j % 8 ≡ k = omega (arith, lt) in
          let past : len ≤ j = omega (arith, ge) in
          let within : j < 8 * words_for len = omega (arith, lt, some) in
          sym (λ t. slice_index w (at + word t) / 256 ^ byte t % 256) ∙ ends j past within

module _ (n : ℕ) (w : List ℕ) (b : ℕ) where
  abbrev end_test : Test
  end_test = test (data_at n w b + len_at n w b / 8) Pad (ends_bare w (data_at n w b) (len_at n w b))

  pub end_held : checked (end_tests n w b) ≡ Ok tt → EndsInZeros w (data_at n w b) (len_at n w b)
  end_held hold = bare_ends w (data_at n w b) (len_at n w b) (all_hold end_test [] tt tt hold).here

  pub end_holds : slice_index w (data_at n w b + len_at n w b / 8) < 2 ^ 64 → EndsInZeros w (data_at n w b) (len_at n w b) → checked (end_tests n w b) ≡ Ok tt
  end_holds small ends = holds_more end_test [] tt (ends_are_bare w (data_at n w b) (len_at n w b) small ends)
