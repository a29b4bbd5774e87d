-- The nodes that are gone along again, and the tests of a key.
use Rattle.std.proofs.Common.{◌≡◌, ◌≢◌, ℕ, ◌+◌, ◌^◌, ◌<◌, Bool, true, false, List, [], ◌∷◌, length, refl, sym, ◌∙◌, ap, subst, arith}
use Rattle.std.specs.Prelude.{Ok, slice_index, ◌==◌, nat_le, not}
use Rattle.std.proofs.lemmas.Bool.Decides.{nat_tests}
use Rattle.rom_model.specs.Blocks.{block_of}
use Rattle.rom_model.specs.Chains.{times, each_word}
use Rattle.rom_model.specs.Region.{bucket_of}
use Rattle.rom_model.specs.declared.unfit.Rule.TheVariants.{Count, Bucket, Repeat}
use Rattle.rom_model.specs.Tests.{test, checked}
use Rattle.rom_model.proofs.Times.{times_here, times_away}
use Rattle.rom_model.proofs.InTurn.{first_holds}
use Rattle.rom_blob_region.specs.Tests.{blob_key_of, key_tests}
use Rattle.rom_blob_region.specs.Walks.{IsBlobWay}

-- the first of some nodes that are left
pub record IsNext (n : ℕ) (w : List ℕ) (link : ℕ) (rest : List ℕ) : Type 0 where
  pub unit : ℕ
  pub more : List ℕ
  pub are : rest ≡ unit ∷ more
  pub here : slice_index w link ≡ block_of n unit
  pub inside : unit < 2 ^ n
  pub way : IsBlobWay n w (slice_index w link + 2) more

pub next_of : (n : ℕ) (w : List ℕ) (link : ℕ) (rest : List ℕ) → 0 < length rest → IsBlobWay n w link rest → IsNext n w link rest
next_of n w link [] some way = absurd (omega (arith, some))
next_of n w link (b ∷ rest) some way = record {
  unit = b;
  more = rest;
  are = refl;
  here = way.0;
  inside = way.1;
  way = subst (λ (a : ℕ). IsBlobWay n w (a + 2) rest) (sym way.0) way.2;
}

module _ (n : ℕ) (w : List ℕ) (link : ℕ) (rest : List ℕ) (key many : ℕ) (next : IsNext n w link rest) (same : times key (each_word n w 0 rest) ≡ many) where
  key_there : slice_index w (slice_index w link) ≡ blob_key_of n w next.unit
  key_there = ap (λ (a : ℕ). slice_index w a) (next.here ∙ (let e : block_of n next.unit ≡ block_of n next.unit + 0 = omega arith in e))

  whole : times key (each_word n w 0 (next.unit ∷ next.more)) ≡ many
  whole = ap (λ (us : List ℕ). times key (each_word n w 0 us)) (sym next.are) ∙ same

  -- the key stands there
  pub key_stands : slice_index w (slice_index w link) ≡ key → not (many == 0) ≡ true
  key_stands is =
      let here : blob_key_of n w next.unit ≡ key = sym key_there ∙ is in
      some many (omega (arith, sym whole, times_here (blob_key_of n w next.unit) (each_word n w 0 next.more), ap (λ (k : ℕ). times k (each_word n w 0 (next.unit ∷ next.more))) here))
    where
      some : (t : ℕ) → 0 < t → not (t == 0) ≡ true
      some t more = grind (arith, nat_tests)

  -- another key stands there
  pub key_differs : slice_index w (slice_index w link) ≢ key → times key (each_word n w 0 next.more) ≡ many
  key_differs other = sym (times_away key (blob_key_of n w next.unit) (each_word n w 0 next.more) (λ e. other (key_there ∙ e))) ∙ whole

not_not : (t : Bool) → not (not t) ≡ t
not_not true = refl
not_not false = refl

-- the last test of a key, after the others held
pub last_decides : (n : ℕ) (w before : List ℕ) (number b node : ℕ) (stands : Bool) → node ≡ block_of n b → checked (test (node + 1) Count (nat_le (slice_index w (node + 1)) 256) ∷ []) ≡ Ok tt → checked (test node Bucket (bucket_of n (slice_index w node) == number) ∷ []) ≡ Ok tt
    → stands ≡ not (times (slice_index w node) (each_word n w 0 before) == 0) → checked (test node Repeat (not stands) ∷ []) ≡ checked (key_tests n w number before b)
last_decides n w before number b node stands here few own is =
    let key : slice_index w node ≡ blob_key_of n w b = ap (λ (a : ℕ). slice_index w a) (let e : node ≡ block_of n b + 0 = omega (arith, here) in e) in
    let t0 = test (node + 1) Count (nat_le (slice_index w (node + 1)) 256) in
    let t1 = test node Bucket (bucket_of n (slice_index w node) == number) in
    let t2 = test node Repeat (times (slice_index w node) (each_word n w 0 before) == 0) in
    let last : not stands ≡ (times (slice_index w node) (each_word n w 0 before) == 0) = ap not is ∙ not_not (times (slice_index w node) (each_word n w 0 before) == 0) in
    ap (λ (t : Bool). checked (test node Repeat t ∷ [])) last
    ∙ (sym (first_holds tt (t1 ∷ []) (t2 ∷ []) own)
    ∙ (sym (first_holds tt (t0 ∷ []) (t1 ∷ t2 ∷ []) few)
    ∙ (ap (λ (k : ℕ). checked (t0 ∷ test node Bucket (bucket_of n k == number) ∷ test node Repeat (times k (each_word n w 0 before) == 0) ∷ [])) key
    ∙ ap (λ (a : ℕ). checked (test (a + 1) Count (nat_le (slice_index w (a + 1)) 256) ∷ test a Bucket (bucket_of n (blob_key_of n w b) == number) ∷ test a Repeat (times (blob_key_of n w b) (each_word n w 0 before) == 0) ∷ [])) here)))
