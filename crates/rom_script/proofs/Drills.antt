-- The scripts of a drill, as far as they are written.
use Rattle.std.specs.Prelude.{◌≡◌, ℕ, ◌+◌, ◌-◌, ◌<◌, List, [], ◌∷◌, ◌++◌}
use Rattle.std.proofs.Common.{suc, sym, ap, ◌∙◌, arith, append_assoc, append-nil}
use Rattle.rom_model.specs.declared.call.Call.{Call}
use Rattle.rom_model.specs.declared.call.Query.{Query}
use Rattle.rom_model.specs.declared.line.Step.{Step}
use Rattle.rom_script.specs.Drill.{item, items, next}

-- of the items that are left, one more is written
pub item_more : (callers caller calls made x y : ℕ) (script written whole : List (Step Call Query)) → made < calls → y ≡ next x → script ++ items callers caller (calls - made) x ≡ whole →
    written ≡ script ++ item callers caller y → written ++ items callers caller (calls - (made + 1)) y ≡ whole
item_more callers caller calls made x y script written whole lt next_is so_far one =
    let left : calls - made ≡ suc (calls - (made + 1)) = omega arith in
    ap (λ w. w ++ items callers caller (calls - (made + 1)) y) one
    ∙ append_assoc script (item callers caller y) (items callers caller (calls - (made + 1)) y)
    ∙ ap (λ z. script ++ (item callers caller z ++ items callers caller (calls - (made + 1)) z)) next_is
    ∙ ap (λ n. script ++ items callers caller n x) (sym left)
    ∙ so_far

-- none is left
pub none_left : (callers caller calls made x : ℕ) (script whole : List (Step Call Query)) → made ≡ calls → script ++ items callers caller (calls - made) x ≡ whole → script ≡ whole
none_left callers caller calls made x script whole all so_far =
    let none : 0 ≡ calls - made = omega arith in
    sym (append-nil script) ∙ ap (λ n. script ++ items callers caller n x) none ∙ so_far

-- four lines are written one by one
pub four_more : {X : Type 0} (old one two three four : List X) (a b c d : X) → one ≡ old ++ a ∷ [] → two ≡ one ++ b ∷ [] → three ≡ two ++ c ∷ [] → four ≡ three ++ d ∷ [] → four ≡ old ++ a ∷ b ∷ c ∷ d ∷ []
four_more old one two three four a b c d is_one is_two is_three is_four =
    is_four
    ∙ ap (λ l. l ++ d ∷ []) (is_three ∙ ap (λ l. l ++ c ∷ []) (is_two ∙ ap (λ l. l ++ b ∷ []) is_one))
    ∙ ap (λ l. l ++ d ∷ []) (ap (λ l. l ++ c ∷ []) (append_assoc old (a ∷ []) (b ∷ [])) ∙ append_assoc old (a ∷ b ∷ []) (c ∷ []))
    ∙ append_assoc old (a ∷ b ∷ c ∷ []) (d ∷ [])
