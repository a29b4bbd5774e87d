-- Words laid out one after another
use Rattle.std.proofs.Common.{◌≡◌, ℕ, suc, ◌+◌, ◌<◌, ◌≤◌, List, [], ◌∷◌, ◌++◌, take, length, get_or, sym, refl, ap, ◌∙◌, arith, length-take}
use Rattle.std.specs.Prelude.{drop, Bool, true, false}
use Rattle.std.specs.Bool.{OnTrue}
use Rattle.rom_model.specs.declared.call.Updated.{Updated}
use Rattle.rom_model.specs.declared.call.Updated.TheVariants.{Done, Spent, Failed, Doubt}
use Rattle.std.proofs.Math.Seq.{take-suc}
use Rattle.std.proofs.lemmas.List.{take_all}
use Rattle.rom_rule.specs.Calls.{answer_words, packed}

-- the first words, and the next one
pub take_more : (ws : List ℕ) (i : ℕ) → i < length ws → take (i + 1) ws ≡ take i ws ++ get_or ws i 0 ∷ []
take_more ws i lt = ap (λ (n : ℕ). take n ws) (let e : i + 1 ≡ suc i = omega arith in e) ∙ take-suc ws i 0 lt

-- after a first word
pub laid_more : (x : ℕ) (ws : List ℕ) (i : ℕ) → i < length ws → take (1 + i) (x ∷ take i ws) ++ get_or ws i 0 ∷ [] ≡ x ∷ take (i + 1) ws
laid_more x ws i lt = ap (λ (n : ℕ). take n (x ∷ take i ws) ++ get_or ws i 0 ∷ []) (let e : 1 + i ≡ suc i = omega arith in e)
    ∙ (ap (λ (l : List ℕ). x ∷ (l ++ get_or ws i 0 ∷ [])) (take_all i (take i ws) (omega (arith, length-take i ws))) ∙ ap (λ (l : List ℕ). x ∷ l) (sym (take_more ws i lt)))

-- how an answer is laid out
pub answer_parts : (u : Updated (List ℕ)) → (2 ≤ length (answer_words u)) × (get_or (answer_words u) 1 0 + 2 ≡ length (answer_words u))
answer_parts (Done reply place) = (omega arith, omega arith)
answer_parts Spent = (omega arith, omega arith)
answer_parts Failed = (omega arith, omega arith)
answer_parts Doubt = (omega arith, omega arith)

pub answer_whole : (u : Updated (List ℕ)) → answer_words u ≡ get_or (answer_words u) 0 0 ∷ packed (drop 2 (answer_words u))
answer_whole (Done reply place) = refl
answer_whole Spent = refl
answer_whole Failed = refl
answer_whole Doubt = refl

-- the words of a list, and one more after them
pub all_more : (x w i : ℕ) (ws : List ℕ) → length ws ≡ i → take (1 + i) (x ∷ ws) ++ w ∷ [] ≡ x ∷ (ws ++ w ∷ [])
all_more x w i ws e = ap (λ (n : ℕ). take n (x ∷ ws) ++ w ∷ []) (let z : 1 + i ≡ suc i = omega arith in z) ∙ ap (λ (l : List ℕ). x ∷ (l ++ w ∷ [])) (take_all i ws (omega arith))

pub on_true : (b : Bool) (P : Type 0) → b ≡ true → OnTrue b P → P
on_true true P e h = h
on_true false P e h = absurd (let z : false ≡ true = e in cc)
