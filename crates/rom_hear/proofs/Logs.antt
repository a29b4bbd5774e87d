-- What is said of a log by its parts.
use Rattle.std.specs.Prelude.{◌≡◌, ℕ, ◌+◌, ◌==◌, Bool, true, false, cond, if◌then◌else◌, List, [], ◌∷◌, ◌++◌}
use Rattle.std.specs.List.{concat}
use Rattle.std.proofs.Common.{refl, sym, ap, ◌∙◌, append_assoc, arith}
use Rattle.rom_hear.specs.Events.{Event, Heard, Said, ends_in, has_ended, has_none, heard_in, heards, pieces_said, said_in, saids}

pub ends_in-append : (xs ys : List ℕ) → ends_in (xs ++ ys) ≡ ends_in xs + ends_in ys
ends_in-append [] ys = omega arith
ends_in-append (b ∷ xs) ys = at (b == 10) (ends_in-append xs ys)
  where
    at : (lf : Bool) → ends_in (xs ++ ys) ≡ ends_in xs + ends_in ys → cond lf (ends_in (xs ++ ys) + 1) (ends_in (xs ++ ys)) ≡ cond lf (ends_in xs + 1) (ends_in xs) + ends_in ys
    at true rest = omega (arith, rest)
    at false rest = rest

module _ {K : Type 0} where
  pub heard_in-append : (log more : List (Event K)) → heard_in (log ++ more) ≡ heard_in log ++ heard_in more
  heard_in-append [] more = refl
  heard_in-append (Heard bytes ∷ log) more = ap (λ (bs : List ℕ). bytes ++ bs) (heard_in-append log more) ∙ sym (append_assoc bytes (heard_in log) (heard_in more))
  heard_in-append (Said bytes knowing ∷ log) more = heard_in-append log more

  pub said_in-append : (log more : List (Event K)) → said_in (log ++ more) ≡ said_in log ++ said_in more
  said_in-append [] more = refl
  said_in-append (Heard bytes ∷ log) more = said_in-append log more
  said_in-append (Said bytes knowing ∷ log) more = ap (λ (bs : List ℕ). bytes ++ bs) (said_in-append log more) ∙ sym (append_assoc bytes (said_in log) (said_in more))

  pub has_ended-append : (log more : List (Event K)) → has_ended (log ++ more) ≡ (if has_ended log then true else has_ended more)
  has_ended-append [] more = refl
  has_ended-append (Said bytes knowing ∷ log) more = has_ended-append log more
  has_ended-append (Heard bytes ∷ log) more = at (has_none bytes) (has_ended-append log more)
    where
      at : (none : Bool) → has_ended (log ++ more) ≡ cond (has_ended log) true (has_ended more) → cond none true (has_ended (log ++ more)) ≡ cond (cond none true (has_ended log)) true (has_ended more)
      at true rest = refl
      at false rest = rest

  pub heard_in-saids : (knowing : K) (pieces : List (List ℕ)) → heard_in (saids knowing pieces) ≡ []
  heard_in-saids knowing [] = refl
  heard_in-saids knowing (piece ∷ pieces) = heard_in-saids knowing pieces

  pub said_in-saids : (knowing : K) (pieces : List (List ℕ)) → said_in (saids knowing pieces) ≡ concat pieces
  said_in-saids knowing [] = refl
  said_in-saids knowing (piece ∷ pieces) = ap (λ (bs : List ℕ). piece ++ bs) (said_in-saids knowing pieces)

  pub has_ended-saids : (knowing : K) (pieces : List (List ℕ)) → has_ended (saids knowing pieces) ≡ false
  has_ended-saids knowing [] = refl
  has_ended-saids knowing (piece ∷ pieces) = has_ended-saids knowing pieces

  -- the pieces that were said are those, and one more where one more was said
  pub pieces_said-saids : (knowing : K) (pieces : List (List ℕ)) (more : List (Event K)) → pieces_said (saids knowing pieces ++ more) ≡ pieces ++ pieces_said more
  pieces_said-saids knowing [] more = refl
  pieces_said-saids knowing (piece ∷ pieces) more = ap (λ (ps : List (List ℕ)). piece ∷ ps) (pieces_said-saids knowing pieces more)

pub said_in-heards : (K : Type 0) (pieces : List (List ℕ)) → said_in (heards {K = K} pieces) ≡ []
said_in-heards K [] = refl
said_in-heards K (piece ∷ pieces) = said_in-heards K pieces
