-- One more mark, and the bytes behind it; and what was heard of a text.
use Rattle.std.specs.Prelude.{◌≡◌, ℕ, ◌+◌, ◌-◌, ◌≤◌, List, [], ◌∷◌, ◌++◌, length, take, drop}
use Rattle.std.proofs.Common.{sym, ap, ◌∙◌, append_assoc, arith, length-drop}
use Rattle.std.proofs.lemmas.List.{append-nil, drop-append-le, drop-drop, nil_from_length, take-append-drop, take-append-le, take_all}
use Rattle.rom_text.proofs.Pieces.{rest_from}
use Rattle.rom_hear.specs.Events.{Event, Heard, Said, heard_in}
use Rattle.rom_hear.specs.Marks.{IsHeardOf, bytes_in, bytes_of, event_of, log_in, log_of}
use Rattle.rom_hear.specs.declared.mark.Mark.{Mark}
use Rattle.rom_hear.specs.declared.mark.Passed.{Passed}
use Rattle.rom_hear.proofs.Logs.{heard_in-append}

-- the front of the slice behind an index
pub slice_left : (text slice : List ℕ) (at most : ℕ) → slice ≡ text → take most (take (length slice - at) (drop at slice)) ≡ take most (drop at text)
slice_left text slice at most is = ap (λ (bs : List ℕ). take most bs) (rest_from slice at ∙ ap (λ (bs : List ℕ). drop at bs) is)

module _ {K : Type 0} where
  pub bytes_in-append : (marks : List (Mark K)) (m : Mark K) → bytes_in (marks ++ m ∷ []) ≡ bytes_in marks + bytes_of m
  bytes_in-append [] m = omega arith
  bytes_in-append (x ∷ marks) m = omega (arith, bytes_in-append marks m)

  -- what passes now stands behind what passed
  pub log_of-append : (marks : List (Mark K)) (bytes more : List ℕ) (m : Mark K) → bytes_in marks ≡ length bytes → bytes_of m ≡ length more →
      log_of (marks ++ m ∷ []) (bytes ++ more) ≡ log_of marks bytes ++ event_of m more ∷ []
  log_of-append [] bytes more m none count =
      let all : take (bytes_of m) (bytes ++ more) ≡ more =
      ap (λ (bs : List ℕ). take (bytes_of m) (bs ++ more)) (nil_from_length bytes (sym none)) ∙ take_all (bytes_of m) more (omega (arith, count)) in
      ap (λ (bs : List ℕ). event_of m bs ∷ []) all
  log_of-append (x ∷ marks) bytes more m all count =
      let within : bytes_of x ≤ length bytes = omega (arith, all) in
      let rest : bytes_in marks ≡ length (drop (bytes_of x) bytes) = omega (arith, all, length-drop (bytes_of x) bytes) in
      ap (λ (bs : List ℕ). event_of x bs ∷ log_of (marks ++ m ∷ []) (drop (bytes_of x) (bytes ++ more))) (take-append-le (bytes_of x) bytes more within)
      ∙ ap (λ (bs : List ℕ). event_of x (take (bytes_of x) bytes) ∷ log_of (marks ++ m ∷ []) bs) (drop-append-le (bytes_of x) bytes more within)
      ∙ ap (λ (log : List (Event K)). event_of x (take (bytes_of x) bytes) ∷ log) (log_of-append marks (drop (bytes_of x) bytes) more m rest count)

  -- where more of the text was heard, less is left
  pub heard_more : (text : List ℕ) (at most : ℕ) (p q : Passed K) (bytes : List ℕ) → IsHeardOf text at p → log_in q ≡ log_in p ++ Heard bytes ∷ [] → bytes ≡ take most (drop at text) → IsHeardOf text (at + most) q
  heard_more text at most p q bytes so_far log is =
      let heard : heard_in (log_in q) ≡ heard_in (log_in p) ++ take most (drop at text) =
      ap heard_in log ∙ heard_in-append (log_in p) (Heard bytes ∷ []) ∙ ap (λ (bs : List ℕ). heard_in (log_in p) ++ bs) (append-nil bytes ∙ is) in
      ap (λ (bs : List ℕ). bs ++ drop (at + most) text) heard
      ∙ append_assoc (heard_in (log_in p)) (take most (drop at text)) (drop (at + most) text)
      ∙ ap (λ (bs : List ℕ). heard_in (log_in p) ++ (take most (drop at text) ++ bs)) (sym (drop-drop most at text))
      ∙ ap (λ (bs : List ℕ). heard_in (log_in p) ++ bs) (take-append-drop most (drop at text))
      ∙ so_far

  -- and where something was said, as much is left
  pub heard_same : (text : List ℕ) (at : ℕ) (p q : Passed K) (bytes : List ℕ) (knowing : K) → IsHeardOf text at p → log_in q ≡ log_in p ++ Said bytes knowing ∷ [] → IsHeardOf text at q
  heard_same text at p q bytes knowing so_far log =
      ap (λ (bs : List ℕ). bs ++ drop at text) (ap heard_in log ∙ heard_in-append (log_in p) (Said bytes knowing ∷ []) ∙ append-nil (heard_in (log_in p)))
      ∙ so_far
