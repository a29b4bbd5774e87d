-- What is ruled out of talks.
use Rattle.std.specs.Prelude.{◌≡◌, ℕ, ◌+◌, ◌≤◌, ◌<◌, List, ◌∷◌, ◌++◌, length, take, drop}
use Rattle.std.proofs.Common.{⊎_elim, sym, ap, ◌∙◌, arith, length-append, length-take}
use Rattle.std.proofs.lemmas.Bool.{cases_lt}
use Rattle.std.proofs.lemmas.Grind.{flat_map-append}
use Rattle.std.proofs.lemmas.List.{take-append-drop, take-take}
use Rattle.rom_model.specs.Heard.{HasHeard}
use Rattle.rom_model.specs.Machine.{Machine}
use Rattle.rom_model.specs.declared.line.Step.{Step}
use Rattle.rom_model.specs.declared.line.LineResult.{LineResult}
use Rattle.rom_model.proofs.Hearing.{told_few}
use Rattle.rom_text.specs.Text.{Texts, line_text, result_text, results_text}
use Rattle.rom_hear.specs.Events.{Event, Said, said_in}
use Rattle.rom_store.specs.Callers.{Caller}
use Rattle.rom_store.specs.Closing.{kept_in}
use Rattle.rom_talk.specs.Talks.{IsSaidInTurn}

module _ {S C Q R A : Type 0} (m : Machine S C Q R A) (order : ℕ) (start : S) (opened : ℕ) (texts : Texts R A) where
  -- the text of more results is as long at least
  longer_text : (results : List (LineResult R A)) (n many : ℕ) → n ≤ many → length (results_text texts (take n results)) ≤ length (results_text texts (take many results))
  longer_text results n many few =
      let first : List (LineResult R A) = take n results in
      let rest : List (LineResult R A) = drop n (take many results) in
      let split : take many results ≡ first ++ rest = sym (take-append-drop n (take many results)) ∙ ap (λ (rs : List (LineResult R A)). rs ++ rest) (take-take n many results few) in
      let text : results_text texts (take many results) ≡ results_text texts first ++ results_text texts rest = ap (results_text texts) split ∙ flat_map-append (λ r. line_text (result_text texts r)) first rest in
      omega (arith, ap length text, length-append (results_text texts first) (results_text texts rest))

  -- A caller that has not yet said all of its first replies, of so many lines, has not been told of more updates: no line is done before all is said that the lines before it were told.
  none_ahead : (steps : List (Step C Q)) (results : List (LineResult R A)) (log before after : List (Event Caller)) (bytes : List ℕ) (knowing : Caller) (n : ℕ) →
      IsSaidInTurn texts (λ k. HasHeard m order start opened (kept_in k)) steps results log → log ≡ before ++ Said bytes knowing ∷ after →
      length (said_in before) < length (results_text texts (take n results)) → length (kept_in knowing).told ≤ n
  none_ahead steps results log before after bytes knowing n turn is fewer =
      let h = turn before after bytes knowing is in
      let whole : length (results_text texts (take h.many results)) ≤ length (said_in before) = omega (arith, ap length h.whole.1, length-take h.whole.0 (said_in before)) in
      let told : length (kept_in knowing).told ≤ h.many + 1 = omega (arith, told_few m order start opened (kept_in knowing) (take (h.many + 1) steps) (take (h.many + 1) results) h.did, length-take (h.many + 1) steps) in
      ⊎_elim
      (λ ahead. omega (arith, told, ahead))
      (λ behind. absurd (omega (arith, whole, fewer, longer_text results n h.many (omega (arith, behind)))))
      (cases_lt h.many n)
