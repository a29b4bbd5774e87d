-- The lines of a drill, of which the pieces stand one behind another.
use Rattle.std.specs.Prelude.{◌≡◌, ℕ, List, [], ◌++◌, codes}
use Rattle.std.proofs.Common.{refl, append_assoc, append-nil}
use Rattle.rom_text.specs.Text.{line_text}

pub drill_line : (start callers calls : List ℕ) → codes "drill " ++ (start ++ (codes " callers " ++ (callers ++ (codes " calls " ++ (calls ++ (codes "\n" ++ [])))))) ≡ line_text (codes "drill " ++ start ++ codes " callers " ++ callers ++ codes " calls " ++ calls)
drill_line start callers calls = simp (append_assoc, append-nil) refl

pub sums_line : (into out_of : List ℕ) → codes "enqueued " ++ (into ++ (codes " dequeued " ++ (out_of ++ (codes "\n" ++ [])))) ≡ line_text (codes "enqueued " ++ into ++ codes " dequeued " ++ out_of)
sums_line into out_of = simp (append_assoc, append-nil) refl

pub two_and_three : (a b c d e : List ℕ) → (a ++ b) ++ ((c ++ d) ++ e) ≡ a ++ b ++ c ++ d ++ e
two_and_three a b c d e = simp append_assoc refl
