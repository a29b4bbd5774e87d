-- The nodes that a walk reached first.
use Rattle.std.proofs.Common.{◌≡◌, ◌≢◌, inl, inr, ℕ, zero, suc, ◌+◌, ◌-◌, ◌*◌, ◌^◌, ◌<◌, ◌≤◌, true, List, [], ◌∷◌, ◌++◌, length, drop, sym, ◌∙◌, ap, subst, arith}
use Rattle.std.specs.Prelude.{slice_index, ◌==◌, not}
use Rattle.std.proofs.lemmas.Bool.{cases_lt}
use Rattle.std.proofs.lemmas.Bool.Decides.{nat_tests}
use Rattle.rom_model.specs.Blocks.{block_of}
use Rattle.rom_model.specs.Chains.{times, each_word}
use Rattle.rom_model.proofs.Times.{times_here, times_more}
use Rattle.rom_heap.specs.declared.inspect.walk.Walk.{Walk}
use Rattle.rom_heap.specs.declared.inspect.walk.Walk.TheVariants as along
use Rattle.rom_heap.specs.Walks.{LeadsTo, next_link, Reaches, IsWalk, key_of}
use Rattle.rom_heap.proofs.Marking.{link_inside}

-- the first so many of these, of which the last stands first
abbrev pub first_of : ℕ → List ℕ → List ℕ
first_of i before = drop (length before - i) before

-- the one behind the first i
pub record IsNext (n : ℕ) (w : List ℕ) (walk : Walk) (seen before : List ℕ) (i : ℕ) : Type 0 where
  pub block : ℕ
  pub more : drop (length before - (i + 1)) before ≡ block ∷ first_of i before
  pub reaches : Reaches n w walk seen (first_of i before)
  pub leads : LeadsTo n w (first_of i before ++ seen) (next_link n walk (first_of i before)) block

pub next_of : (n : ℕ) (w : List ℕ) (walk : Walk) (seen before : List ℕ) (i : ℕ) → i < length before → Reaches n w walk seen before → IsNext n w walk seen before i
next_of n w walk seen [] i lt f = absurd (omega (arith, lt))
next_of n w walk seen (c ∷ cs) i lt f = elim (cases_lt i (length cs)) [
  | inl less ↦
      let x = next_of n w walk seen cs i less f.0 in
      let one : suc (length cs - i) ≡ length (c ∷ cs) - i = omega (arith, less) in
      let two : suc (length cs - (i + 1)) ≡ length (c ∷ cs) - (i + 1) = omega (arith, less) in
      let same : first_of i cs ≡ first_of i (c ∷ cs) = ap (λ k. drop k (c ∷ cs)) one in
      record {
        block = x.block;
        more = ap (λ k. drop k (c ∷ cs)) (sym two) ∙ x.more ∙ ap (λ (xs : List ℕ). x.block ∷ xs) same;
        reaches = subst (λ (xs : List ℕ). Reaches n w walk seen xs) same x.reaches;
        leads = subst (λ (xs : List ℕ). LeadsTo n w (xs ++ seen) (next_link n walk xs) x.block) same x.leads;
      }
  | inr ge ↦
      let one : 1 ≡ length (c ∷ cs) - i = omega (arith, ge, lt) in
      let two : 0 ≡ length (c ∷ cs) - (i + 1) = omega (arith, ge, lt) in
      let same : cs ≡ first_of i (c ∷ cs) = ap (λ k. drop k (c ∷ cs)) one in
      record {
        block = c;
        more = ap (λ k. drop k (c ∷ cs)) (sym two) ∙ ap (λ (xs : List ℕ). c ∷ xs) same;
        reaches = subst (λ (xs : List ℕ). Reaches n w walk seen xs) same f.0;
        leads = subst (λ (xs : List ℕ). LeadsTo n w (xs ++ seen) (next_link n walk xs) c) same f.1;
      }
]

times_drop : (n : ℕ) (w : List ℕ) (key k : ℕ) (bs : List ℕ) → times key (each_word n w 0 (drop k bs)) ≤ times key (each_word n w 0 bs)
times_drop n w key zero bs = omega arith
times_drop n w key (suc k) [] = omega arith
times_drop n w key (suc k) (b ∷ bs) = omega (arith, times_drop n w key k bs, times_more key (key_of n w b) (each_word n w 0 bs))

-- what one turn of the search knows, at the link behind the first i
module _ (n : ℕ) (w : List ℕ) (number : ℕ) (seen before : List ℕ) (count i link key : ℕ) (le : 4 ≤ n) (is : IsWalk n (along.OldBucket number)) (f : Reaches n w (along.OldBucket number) seen before) (long : count ≡ length before) (lt : i < count)
    (here : link ≡ next_link n (along.OldBucket number) (drop (count - i) before)) where
  next_is : IsNext n w (along.OldBucket number) seen before i
  next_is = next_of n w (along.OldBucket number) seen before i (omega (arith, lt, long)) f

  here_too : link ≡ next_link n (along.OldBucket number) (first_of i before)
  here_too = here ∙ ap (λ (k : ℕ). next_link n (along.OldBucket number) (drop (k - i) before)) long

  pub at_link : link < 16 + 6 * 2 ^ n
  at_link = let x = next_of n w (along.OldBucket number) seen before i (omega (arith, lt, long)) f in omega (arith, here_too, link_inside n w (along.OldBucket number) seen (first_of i before) le is x.reaches)

  pub node_is : (b : ℕ) × (slice_index w link ≡ block_of n b) × (b < 2 ^ n) × (drop (count - (i + 1)) before ≡ b ∷ drop (count - i) before)
  node_is =
      let x = next_of n w (along.OldBucket number) seen before i (omega (arith, lt, long)) f in (
        x.block,
        ap (λ (a : ℕ). slice_index w a) here_too ∙ x.leads.here,
        x.leads.most,
        ap (λ (k : ℕ). drop (k - (i + 1)) before) long ∙ x.more ∙ ap (λ (k : ℕ). x.block ∷ drop (k - i) before) (sym long),
      )

  key_there : (b : ℕ) → slice_index w link ≡ block_of n b → slice_index w (slice_index w link) ≡ key_of n w b
  key_there b at = ap (λ (a : ℕ). slice_index w a) (at ∙ (let e : block_of n b ≡ block_of n b + 0 = omega arith in e))

  -- the key stands there
  pub key_stands : slice_index w (slice_index w link) ≡ key → not (times key (each_word n w 0 before) == 0) ≡ true
  key_stands is_key =
      let x = node_is in
      let same : key ≡ key_of n w x.0 = sym is_key ∙ key_there x.0 x.1 in
      let one : 0 < times key (each_word n w 0 (x.0 ∷ drop (count - i) before)) = omega (arith, times_here (key_of n w x.0) (each_word n w 0 (drop (count - i) before)), ap (λ (a : ℕ). times a (each_word n w 0 (x.0 ∷ drop (count - i) before))) same) in
      let part : times key (each_word n w 0 (x.0 ∷ drop (count - i) before)) ≤ times key (each_word n w 0 before) = subst (λ (xs : List ℕ). times key (each_word n w 0 xs) ≤ times key (each_word n w 0 before)) x.3 (times_drop n w key (count - (i + 1)) before) in
      some (times key (each_word n w 0 before)) (omega (arith, one, part))
    where
      some : (t : ℕ) → 0 < t → not (t == 0) ≡ true
      some t more = grind (arith, nat_tests)

  -- another key stands there
  pub key_differs : slice_index w (slice_index w link) ≢ key → times key (each_word n w 0 (drop (count - i) before)) ≡ 0
      → (slice_index w link + 2 ≡ next_link n (along.OldBucket number) (drop (count - (i + 1)) before)) × (times key (each_word n w 0 (drop (count - (i + 1)) before)) ≡ 0)
  key_differs other none =
      let x = node_is in
      let rest = drop (count - i) before in
      let ne : key_of n w x.0 ≢ key = λ e. other (key_there x.0 x.1 ∙ e) in
      let zero_more : times key (each_word n w 0 (x.0 ∷ rest)) ≡ 0 = Rattle.rom_model.proofs.Times.times_away key (key_of n w x.0) (each_word n w 0 rest) ne ∙ none in
      let ahead : slice_index w link + 2 ≡ block_of n x.0 + 2 = ap (λ (a : ℕ). a + 2) x.1 in (
        subst (λ (xs : List ℕ). slice_index w link + 2 ≡ next_link n (along.OldBucket number) xs) (sym x.3) ahead,
        subst (λ (xs : List ℕ). times key (each_word n w 0 xs) ≡ 0) (sym x.3) zero_more,
      )
