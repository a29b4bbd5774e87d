-- The end of a part: the tests after its walk.
use Rattle.std.proofs.Common.{◌≡◌, inl, inr, ℕ, zero, suc, ◌+◌, ◌<◌, ◌≤◌, Bool, List, [], ◌∷◌, ◌++◌, length, refl, sym, ◌∙◌, ap, subst, arith}
use Rattle.std.specs.Prelude.{Result, Ok, Err}
use Rattle.rom_model.specs.declared.unfit.Rule.TheVariants.{Ends, Count}
use Rattle.rom_model.specs.Region.{buckets}
use Rattle.rom_model.specs.declared.unfit.Break.{Break}
use Rattle.rom_heap.specs.declared.inspect.walk.Reached.{Reached}
use Rattle.std.proofs.lemmas.Bool.{cases_lt}
use Rattle.rom_heap.specs.declared.inspect.version.Version.{Version}
use Rattle.rom_heap.specs.declared.inspect.walk.Walk.{Walk}
use Rattle.rom_heap.specs.declared.inspect.walk.Walk.TheVariants as along
use Rattle.rom_model.specs.Tests.{Test, tested, checked, is_word}
use Rattle.rom_heap.specs.Tests.{newest, queue_tests, set_tests, map_tests}
use Rattle.rom_heap.specs.Walks.{bucket_walk, Walks, AreMarks, IsReached}
use Rattle.rom_model.specs.Parts.{Then}
use Rattle.rom_heap.specs.Parts.{Queue, Set, OneByOne, Map, AnswersPart}
use Rattle.rom_model.proofs.InTurn.{first_breaks, first_holds, breaking, passing}

module _ (n : ℕ) (walk : Result (List ℕ) Break → Type 0) (tests : List ℕ → List Test) (seen : List ℕ) (marks : List Bool) where
  -- the walk broke
  pub walk_broke : (e : Break) → walk (Err e) → Then walk (λ blocks r. r ≡ tested (tests blocks) (blocks ++ seen)) (Err e)
  walk_broke e broke = inl broke

  pub ended : (blocks : List ℕ) (r : Result (Unit {0}) Break) → walk (Ok blocks) → AreMarks n (blocks ++ seen) marks → r ≡ checked (tests blocks)
      → AnswersPart n (Then walk (λ blocks r. r ≡ tested (tests blocks) (blocks ++ seen))) r marks
  ended blocks (Ok done) is are tests_are = (blocks ++ seen, (blocks, is, sym (passing (tests blocks) (blocks ++ seen) (sym tests_are))), are)
  ended blocks (Err e) is are tests_are = inr (blocks, is, sym (breaking (tests blocks) (blocks ++ seen) e (sym tests_are)))

module _ (n : ℕ) (w seen blocks : List ℕ) (marks : List Bool) (reached : Reached) where
  pub queue_broke : (e : Break) → Walks n w along.Queue seen (Ok blocks) → IsReached n along.Queue blocks reached → AreMarks n (blocks ++ seen) marks → checked (is_word w 4 Ends reached.last ∷ []) ≡ Err e
      → AnswersPart n (Queue n w seen) (Err e) marks
  queue_broke e is known are broke =
      let four : checked (is_word w 4 Ends (newest n blocks) ∷ []) ≡ Err e = ap (λ (x : ℕ). checked (is_word w 4 Ends x ∷ [])) (sym known.last) ∙ broke in
      ended n (Walks n w along.Queue seen) (queue_tests n w) seen marks blocks (Err e) is are (sym (first_breaks tt (is_word w 4 Ends (newest n blocks) ∷ []) (is_word w 5 Count (length blocks) ∷ []) e four))

  pub queue_ended : (r : Result (Unit {0}) Break) → Walks n w along.Queue seen (Ok blocks) → IsReached n along.Queue blocks reached → AreMarks n (blocks ++ seen) marks
      → checked (is_word w 4 Ends reached.last ∷ []) ≡ Ok tt → r ≡ checked (is_word w 5 Count reached.count ∷ []) → AnswersPart n (Queue n w seen) r marks
  queue_ended r is known are tail count =
      let four : checked (is_word w 4 Ends (newest n blocks) ∷ []) ≡ Ok tt = ap (λ (x : ℕ). checked (is_word w 4 Ends x ∷ [])) (sym known.last) ∙ tail in
      let five : r ≡ checked (is_word w 5 Count (length blocks) ∷ []) = count ∙ ap (λ (x : ℕ). checked (is_word w 5 Count x ∷ [])) known.count in
      ended n (Walks n w along.Queue seen) (queue_tests n w) seen marks blocks r is are (five ∙ sym (first_holds tt (is_word w 4 Ends (newest n blocks) ∷ []) (is_word w 5 Count (length blocks) ∷ []) four))

  pub set_ended : (r : Result (Unit {0}) Break) → Walks n w along.Set seen (Ok blocks) → IsReached n along.Set blocks reached → AreMarks n (blocks ++ seen) marks
      → r ≡ checked (is_word w 7 Count reached.count ∷ []) → AnswersPart n (Set n w seen) r marks
  set_ended r is known are count = ended n (Walks n w along.Set seen) (set_tests w) seen marks blocks r is are (count ∙ ap (λ (x : ℕ). checked (is_word w 7 Count x ∷ [])) known.count)

module _ (n : ℕ) (w seen blocks : List ℕ) (marks : List Bool) where
  pub map_ended : (v : Version) (count : ℕ) (r : Result (Unit {0}) Break) → OneByOne n w (bucket_walk v) seen (buckets n) (Ok blocks) → count ≡ length blocks → AreMarks n (blocks ++ seen) marks
      → r ≡ checked (is_word w 9 Count count ∷ []) → AnswersPart n (Map v n w seen) r marks
  map_ended v count r is long are counted = ended n (OneByOne n w (bucket_walk v) seen (buckets n)) (map_tests w) seen marks blocks r is are (counted ∙ ap (λ (x : ℕ). checked (is_word w 9 Count x ∷ [])) long)

-- one walk more
module _ (n : ℕ) (w : List ℕ) (walks : ℕ → Walk) (seen : List ℕ) where
  pub one_more : (i : ℕ) (before blocks : List ℕ) → OneByOne n w walks seen i (Ok before) → Walks n w (walks i) (before ++ seen) (Ok blocks) → OneByOne n w walks seen (i + 1) (Ok (blocks ++ before))
  one_more i before blocks was is =
      let e : suc i ≡ i + 1 = omega arith in
      subst (λ (k : ℕ). OneByOne n w walks seen k (Ok (blocks ++ before))) e (before, was, (blocks, is, refl))

  broke_before : (i m : ℕ) (e : Break) → i ≤ m → OneByOne n w walks seen i (Err e) → OneByOne n w walks seen m (Err e)
  broke_before i zero e le broke = let z : i ≡ 0 = omega arith in subst (λ (k : ℕ). OneByOne n w walks seen k (Err e)) z broke
  broke_before i (suc m) e le broke = elim (cases_lt i (suc m)) [
    | inl lt ↦ inl (broke_before i m e (omega (arith, lt)) broke)
    | inr ge ↦ let z : i ≡ suc m = omega arith in subst (λ (k : ℕ). OneByOne n w walks seen k (Err e)) z broke
  ]

  pub one_broke : (i m : ℕ) (before : List ℕ) (e : Break) → i < m → OneByOne n w walks seen i (Ok before) → Walks n w (walks i) (before ++ seen) (Err e) → OneByOne n w walks seen m (Err e)
  one_broke i m before e lt was broke =
      let here : OneByOne n w walks seen (suc i) (Err e) = inr (before, was, inl broke) in
      broke_before (suc i) m e (omega (arith, lt)) here
