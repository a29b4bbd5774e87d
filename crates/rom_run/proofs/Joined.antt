-- The pieces of a line, one behind another.
use Rattle.std.proofs.Common.{◌≡◌, ℕ, List, [], ◌++◌, refl, ap, append-nil}
use Rattle.std.proofs.lemmas.List.{append_assoc}

pub two_pieces : (a b : List ℕ) → a ++ (b ++ []) ≡ a ++ b
two_pieces a b = ap (λ bs. a ++ bs) (append-nil b)

pub three_pieces : (a b c : List ℕ) → a ++ (b ++ (c ++ [])) ≡ a ++ b ++ c
three_pieces a b c = simp (append_assoc, append-nil) refl

pub four_pieces : (a b c d : List ℕ) → a ++ (b ++ (c ++ (d ++ []))) ≡ a ++ b ++ c ++ d
four_pieces a b c d = simp (append_assoc, append-nil) refl

pub six_pieces : (a b c d e f : List ℕ) → a ++ (b ++ (c ++ (d ++ (e ++ (f ++ []))))) ≡ a ++ b ++ c ++ d ++ e ++ f
six_pieces a b c d e f = simp (append_assoc, append-nil) refl
