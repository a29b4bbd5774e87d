-- Walks along the chains of buckets, which take the keys of the nodes or add up what these have.
use Rattle.std.proofs.Common.{◌≡◌, inl, inr, ℕ, zero, suc, ◌+◌, ◌*◌, ◌^◌, ◌≤◌, add-one, List, [], ◌∷◌, ◌++◌, length, refl, sym, ◌∙◌, ap, arith, length-append, append_assoc}
use Rattle.std.specs.Prelude.{slice_index}
use Rattle.std.specs.List.{sum_by}
use Rattle.std.proofs.lemmas.Bool.{cases_lt}
use Rattle.std.proofs.lemmas.List.Sums.{sum_by-append, sum_by_push}
use Rattle.rom_model.specs.Blocks.{block_of}
use Rattle.rom_model.specs.Chains.{each_word}
use Rattle.rom_model.specs.Region.{all_of}
use Rattle.rom_model.proofs.Links.{chain_first, each_append}
use Rattle.rom_bucket.specs.Walk.{head_of, IsBucket}
use Rattle.rom_bucket.proofs.Walking.{Along, first, further, further-front}

-- the way before the first node
abbrev pub at_start : {n : ℕ} {w bs : List ℕ} (i head node : ℕ) → IsBucket n w i bs → head ≡ head_of n i → node ≡ slice_index w head → Along n (head_of n i) w bs node
at_start {n} {w} {bs} i head node is here load = record { front = []; back = bs; chain = is; are = refl; node_is = load ∙ ap (λ k. slice_index w k) here ∙ chain_first n (head_of n i) 2 w bs is }

module _ {n l : ℕ} {w bs : List ℕ} {node : ℕ} (x : Along n l w bs node) (some : node ≡ 0 → ⊥) (next : ℕ) (load : next ≡ slice_index w (node + 2)) where
  -- one key more
  pub next_key : (old items more : List ℕ) → items ≡ old ++ each_word n w 0 x.front → more ≡ items ++ slice_index w node ∷ [] → more ≡ old ++ each_word n w 0 (further x some next load).front
  next_key old items more so_far pushed =
      let b = (first x some).block in
      let key : slice_index w node ≡ slice_index w (block_of n b + 0) = (let at : node ≡ block_of n b + 0 = omega (arith, (first x some).here) in ap (λ k. slice_index w k) at) in
      pushed ∙ (λ i. so_far i ++ key i ∷ []) ∙ append_assoc old (each_word n w 0 x.front) (slice_index w (block_of n b + 0) ∷ []) ∙ ap (λ ks. old ++ ks) (sym (each_append n 0 w x.front (b ∷ [])) ∙ ap (each_word n w 0) (sym (further-front x some next load)))

  -- one summand more
  pub next_sum : (f : ℕ → ℕ) (total value : ℕ) → total ≡ sum_by f x.front → value ≡ f (first x some).block → total + value ≡ sum_by f (further x some next load).front
  next_sum f total value so_far is = omega (arith, so_far, is, ap (λ cs. sum_by f cs) (further-front x some next load) ∙ sum_by_push f x.front (first x some).block)

  pub next_long : length (further x some next load).front ≡ length x.front + 1
  next_long = ap length (further-front x some next load) ∙ length-append x.front ((first x some).block ∷ [])

-- the blocks of one bucket more
pub all_next : (f : ℕ → List ℕ) (m : ℕ) → all_of f (m + 1) ≡ all_of f m ++ f m
all_next f m = ap (all_of f) (add-one m)

-- the sum over the first buckets
pub record SummedTo (f : ℕ → ℕ) (m : ℕ) (bucket : ℕ → List ℕ) (total : ℕ) : Type 0 where
  pub total_is : total ≡ sum_by f (all_of bucket m)
  pub fits : total ≤ length (all_of bucket m) * 2 ^ 64

pub next_bucket : {f : ℕ → ℕ} {m : ℕ} {bucket : ℕ → List ℕ} {total : ℕ} (value : ℕ) → SummedTo f m bucket total → value ≡ sum_by f (bucket m) → value ≤ length (bucket m) * 2 ^ 64 → SummedTo f (m + 1) bucket (total + value)
next_bucket {f} {m} {bucket} value x is fits =
    let sums = ap (λ cs. sum_by f cs) (all_next bucket m) ∙ sum_by-append f (all_of bucket m) (bucket m) in
    let long = ap length (all_next bucket m) ∙ length-append (all_of bucket m) (bucket m) in
    record { total_is = omega (arith, x.total_is, is, sums); fits = omega (arith, x.fits, fits, long) }

pub all_shorter : (f : ℕ → List ℕ) (m k : ℕ) → m ≤ k → length (all_of f m) ≤ length (all_of f k)
all_shorter f m zero le = let same : m ≡ 0 = omega arith in omega (arith, ap (λ j. length (all_of f j)) same)
all_shorter f m (suc k) le = elim (cases_lt k m) [
  | inl last ↦ let same : m ≡ suc k = omega arith in omega (arith, ap (λ j. length (all_of f j)) same)
  | inr before ↦ omega (arith, all_shorter f m k before, length-append (all_of f k) (f k))
]
