-- The results of lawful callers are as many as their lines.
use Rattle.std.specs.Prelude.{◌≡◌, ℕ, ◌+◌, ◌<◌, ◌≤◌, List, [], ◌∷◌, length, All}
use Rattle.std.proofs.Common.{zero, suc, refl, ap, arith, get_or}
use Rattle.rom_model.specs.Lawful.{Answers, AreServed}
use Rattle.rom_model.specs.Machine.{Machine}
use Rattle.rom_model.specs.Story.{Story}
use Rattle.rom_model.specs.declared.line.Step.{Step}
use Rattle.rom_model.specs.declared.line.LineResult.{LineResult}

module _ {S C Q R A : Type 0} (machine : Machine S C Q R A) (story : Story S) where
  -- of one caller
  answers_many : (lines : List (Step C Q)) (results : List (LineResult R A)) → Answers machine story lines results → length results ≡ length lines
  answers_many [] [] answers = refl
  answers_many [] (r ∷ results) answers = absurd answers
  answers_many (l ∷ lines) [] answers = absurd answers
  answers_many (l ∷ lines) (r ∷ results) answers = ap suc (answers_many lines results answers.1)

  -- there are results of each caller
  pub served_many : (caller : ℕ) (scripts : List (List (Step C Q))) (results : List (List (LineResult R A))) → AreServed machine story caller scripts results → length results ≡ length scripts
  served_many caller [] [] served = refl
  served_many caller [] (rs ∷ results) served = absurd served
  served_many caller (ls ∷ scripts) [] served = absurd served
  served_many caller (ls ∷ scripts) (rs ∷ results) served = ap suc (served_many (caller + 1) scripts results served.1)

  -- and of each caller as many as it has lines
  served_at : (caller : ℕ) (scripts : List (List (Step C Q))) (results : List (List (LineResult R A))) (k : ℕ) (d : List (LineResult R A)) (e : List (Step C Q)) → AreServed machine story caller scripts results →
      k < length results → length (get_or results k d) ≡ length (get_or scripts k e)
  served_at caller scripts [] k d e served lt = absurd (omega arith)
  served_at caller [] (rs ∷ results) k d e served lt = absurd served
  served_at caller (ls ∷ scripts) (rs ∷ results) zero d e served lt = answers_many ls rs served.0.answered
  served_at caller (ls ∷ scripts) (rs ∷ results) (suc k) d e served lt = served_at (caller + 1) scripts results k d e served.1 (omega arith)

  -- so they are few where the lines are
  pub served_few : (n caller : ℕ) (scripts : List (List (Step C Q))) (results : List (List (LineResult R A))) → AreServed machine story caller scripts results → All (λ ls. length ls ≤ n) scripts → All (λ rs. length rs ≤ n) results
  served_few n caller scripts results served few = λ k d lt.
      omega (arith, served_at caller scripts results k d [] served lt, few k [] (omega (arith, served_many caller scripts results served, lt)))
