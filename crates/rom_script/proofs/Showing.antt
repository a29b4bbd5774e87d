-- What is shown of a heap that was opened.
use Rattle.std.specs.Prelude.{◌≡◌, ℕ, List, [], ◌∷◌, ◌++◌, codes, Result, Ok, Err}
use Rattle.std.proofs.Common.{refl, inl, inr, append-nil}
use Rattle.std.proofs.lemmas.List.{append_assoc}
use Rattle.rom_text.specs.Streams.{ShownSink, Prints, StopsWriting}
use Rattle.rom_text.specs.Text.{line_text}
use Rattle.rom_script.specs.Stat.{IsWrittenOrCutShort}

-- five lines as pieces, of which each begins with a name
named_lines : (a order b count sizes f free total lf : List ℕ) →
    (a ++ (order ++ ((lf ++ b) ++ (count ++ (lf ++ []))))) ++ (sizes ++ lf) ++ ((f ++ (free ++ (lf ++ []))) ++ (total ++ lf))
    ≡ ((a ++ order) ++ lf) ++ ((b ++ count) ++ lf) ++ (sizes ++ lf) ++ ((f ++ free) ++ lf) ++ (total ++ lf)
named_lines a order b count sizes f free total lf = simp (append_assoc, append-nil) refl

pub five_lines : (order count sizes free total : List ℕ) →
    (codes "order " ++ (order ++ (codes "\ncount " ++ (count ++ (codes "\n" ++ []))))) ++ line_text sizes ++ ((codes "free " ++ (free ++ (codes "\n" ++ []))) ++ line_text total)
    ≡ line_text (codes "order " ++ order) ++ line_text (codes "count " ++ count) ++ line_text sizes ++ line_text (codes "free " ++ free) ++ line_text total
five_lines order count sizes free total = named_lines (codes "order ") order (codes "count ") count sizes (codes "free ") free total (10 ∷ [])

module _ {O : Type 0} (sink : ShownSink O) where
  -- a text that was printed, whatever became of it
  pub put : {T E : Type 0} (old new : O) (r : Result T E) (text : List ℕ) → Prints sink old new r text → IsWrittenOrCutShort sink old new text
  put old new (Ok v) text p = inl (p.bytes, p.cause.none)
  put old new (Err e) text p = inr (p.bytes, p.cause.failed)

  -- so its writing stopped at a fault, if there was one
  pub put_stops : (old new : O) (text : List ℕ) → IsWrittenOrCutShort sink old new text → StopsWriting sink old new
  put_stops old new text (inl written) = inl written.1
  put_stops old new text (inr short) = inr short.1
