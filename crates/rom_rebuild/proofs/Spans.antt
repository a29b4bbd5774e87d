-- Elements that stand side by side, and their texts one behind the other.
use Rattle.std.proofs.Common.{◌≡◌, ℕ, ◌+◌, ◌-◌, ◌<◌, ◌≤◌, List, [], ◌∷◌, ◌++◌, length, take, drop, get_or, sym, ◌∙◌, ap, arith, append-nil}
use Rattle.std.specs.List.{flat_map}
use Rattle.std.proofs.lemmas.Grind.{flat_map-append}
use Rattle.std.proofs.lemmas.List.{get_or-take, get_or-drop, length-take, length-drop, take_all, take_more}
use Rattle.rom_rebuild.specs.declared.elements.element.Element.{Element}
use Rattle.rom_rebuild.specs.Lines.{behind_text, span}

pub span_length : (from to : ℕ) (es : List Element) → from ≤ to → to ≤ length es → length (span from to es) ≡ to - from
span_length from to es order within = omega (arith, length-take (to - from) (drop from es), length-drop from es, order, within)

pub element_at : (from to i : ℕ) (es : List Element) (d : Element) → from ≤ i → i < to → get_or (span from to es) (i - from) d ≡ get_or es i d
element_at from to i es d behind before =
    let place : from + (i - from) ≡ i = omega (arith, behind) in
    get_or-take (to - from) (drop from es) (i - from) d (omega (arith, behind, before)) ∙ get_or-drop from es (i - from) d ∙ ap (λ k. get_or es k d) place

more_texts : (es : List Element) (j : ℕ) (d : Element) → j < length es → flat_map behind_text (take j es) ++ behind_text (get_or es j d) ≡ flat_map behind_text (take (j + 1) es)
more_texts es j d lt =
    ap (λ t. flat_map behind_text (take j es) ++ t) (sym (append-nil (behind_text (get_or es j d)))) ∙ sym (flat_map-append behind_text (take j es) (get_or es j d ∷ [])) ∙ ap (flat_map behind_text) (sym (take_more es j d lt))

-- the texts from an index on, and one more behind them
pub next_text : (from to i : ℕ) (es : List Element) (d : Element) → to ≤ length es → from ≤ i → i < to →
    flat_map behind_text (take (i - from) (span from to es)) ++ behind_text (get_or es i d) ≡ flat_map behind_text (take (i + 1 - from) (span from to es))
next_text from to i es d within behind before =
    let next : i - from + 1 ≡ i + 1 - from = omega (arith, behind) in
    ap (λ e. flat_map behind_text (take (i - from) (span from to es)) ++ behind_text e) (sym (element_at from to i es d behind before))
    ∙ more_texts (span from to es) (i - from) d (omega (arith, span_length from to es (omega (arith, behind, before)) within, behind, before))
    ∙ ap (λ m. flat_map behind_text (take m (span from to es))) next

pub all_texts : (from to : ℕ) (es : List Element) → from ≤ to → to ≤ length es → take (to - from) (span from to es) ≡ span from to es
all_texts from to es order within = take_all (to - from) (span from to es) (omega (arith, span_length from to es order within))
