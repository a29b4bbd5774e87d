-- Elements by groups of eight.
use Rattle.std.proofs.Common.{◌≡◌, ℕ, zero, suc, ◌+◌, ◌-◌, ◌*◌, ◌<◌, ◌≤◌, List, [], ◌∷◌, ◌++◌, codes, map, length, take, drop, get_or, refl, sym, ◌∙◌, ap, arith, ne_eqb, append-nil, append_assoc}
use Rattle.std.specs.Prelude.{min, if◌then◌else◌}
use Rattle.std.specs.Int.{div_ceil}
use Rattle.std.specs.List.{flat_map}
use Rattle.std.proofs.lemmas.List.{drop-drop, drop_more, get_or-map, length-drop, length-map, take_min}
use Rattle.rom_model.specs.declared.call.Single.{Single}
use Rattle.rom_rebuild.specs.declared.elements.element.Element.{Element}
use Rattle.rom_rebuild.specs.declared.elements.element.Element.TheVariants.{Value, Member, Pair}
use Rattle.rom_rebuild.specs.Lines.{behind_text, element_line, element_lines, front_of, group_at, group_line, groups, groups_needed, groups_of, insertion_of, span}
use Rattle.rom_rebuild.proofs.Spans.{span_length}
use Rattle.rom_script.specs.Lines.{single_line}
use Rattle.rom_text.specs.Text.{line_text}

pub groups_many : (m : ℕ) (es : List Element) → length (groups m es) ≡ m
groups_many zero es = refl
groups_many (suc m) es = ap suc (groups_many m (drop 8 es))

pub lines_many : (es : List Element) → length (element_lines es) ≡ groups_needed (length es)
lines_many es = length-map (groups_of es) group_line ∙ groups_many (groups_needed (length es)) es

-- a quotient that is rounded up
pub needed_is : (n : ℕ) → div_ceil n 8 ≡ groups_needed n
needed_is n = omega arith

-- so many groups have all elements, and the last one has some
pub needed_all : (n : ℕ) → n ≤ groups_needed n * 8
needed_all n = omega arith

pub needed_some : (n : ℕ) → groups_needed n * 8 < n + 8
needed_some n = omega arith

-- each line has a first element
pub line_some : (es : List Element) (i : ℕ) → i < length (element_lines es) → i * 8 < length es
line_some es i lt = omega (arith, lt, lines_many es, needed_some (length es))

-- a bound on the lines is one on the elements
pub few_elements : (es : List Element) → length (element_lines es) ≤ 7680 → length es ≤ 61440
few_elements es few = omega (arith, few, lines_many es, needed_all (length es))

-- the group of that number
group_in : (m i : ℕ) (es : List Element) (d : List Element) → i < m → get_or (groups m es) i d ≡ group_at i es
group_in zero i es d lt = absurd (omega (arith, lt))
group_in (suc m) zero es d lt = refl
group_in (suc m) (suc i) es d lt =
    let e : 8 + i * 8 ≡ suc i * 8 = omega arith in
    group_in m i (drop 8 es) d (omega (arith, lt)) ∙ ap (take 8) (drop-drop (i * 8) 8 es ∙ ap (λ k. drop k es) e)

-- the line of that number
pub line_of_group : (es : List Element) (i : ℕ) (d : List ℕ) → i < length (element_lines es) → get_or (element_lines es) i d ≡ group_line (group_at i es)
line_of_group es i d lt =
    let few : i < groups_needed (length es) = omega (arith, lt, lines_many es) in
    get_or-map group_line (groups_of es) i [] d (omega (arith, few, groups_many (groups_needed (length es)) es)) ∙ ap group_line (group_in (groups_needed (length es)) i es [] few)

-- its first element, and those behind it
pub group_split : (from to : ℕ) (es : List Element) (d : Element) → from < length es → to ≡ min (from + 8) (length es) → take 8 (drop from es) ≡ get_or es from d ∷ span (from + 1) to es
group_split from to es d lt is =
    let size : to - (from + 1) ≡ min 7 (length (drop (from + 1) es)) = omega (arith, lt, is, length-drop (from + 1) es) in
    ap (take 8) (drop_more es from d lt) ∙ ap (λ xs. get_or es from d ∷ xs) (sym (ap (λ k. take k (drop (from + 1) es)) size ∙ take_min 7 (drop (from + 1) es)))

mapped : (f : Single → List ℕ) (es : List Element) → flat_map f (map insertion_of es) ≡ flat_map (λ e. f (insertion_of e)) es
mapped f [] = refl
mapped f (e ∷ es) = ap (λ t. f (insertion_of e) ++ t) (mapped f es)

alone : (e : Element) → group_line (e ∷ []) ≡ element_line e
alone (Value v) = refl
alone (Member k) = refl
alone (Pair k v) = refl

-- how a group is written
pub group_text : (e : Element) (es : List Element) → group_line (e ∷ es) ≡ (front_of (length (e ∷ es)) ++ element_line e) ++ flat_map behind_text es
group_text e [] = alone e ∙ sym (append-nil (element_line e))
group_text e (f ∷ es) =
    let more : front_of (length (e ∷ f ∷ es)) ≡ codes "tx " = ap (λ b. if b then [] else codes "tx ") (ne_eqb (length (e ∷ f ∷ es)) 1 (λ is. omega (arith, is))) in
    ap (λ t. codes "tx " ++ (element_line e ++ t)) (mapped (λ c. codes " ; " ++ single_line c) (f ∷ es)) ∙ sym (append_assoc (codes "tx ") (element_line e) (flat_map behind_text (f ∷ es)))
    ∙ ap (λ t. (t ++ element_line e) ++ flat_map behind_text (f ∷ es)) (sym more)

-- the line of the group that begins at an index
pub split_text : (from to : ℕ) (es : List Element) (d : Element) → from < length es → to ≡ min (from + 8) (length es) → group_line (take 8 (drop from es)) ≡ (front_of (to - from) ++ element_line (get_or es from d)) ++ flat_map behind_text (span (from + 1) to es)
split_text from to es d lt is =
    let e = get_or es from d in
    let xs = span (from + 1) to es in
    let long : length (e ∷ xs) ≡ to - from = omega (arith, span_length (from + 1) to es (omega (arith, lt, is)) (omega (arith, is)), lt, is) in
    ap group_line (group_split from to es d lt is) ∙ group_text e xs ∙ ap (λ m. (front_of m ++ element_line e) ++ flat_map behind_text xs) long

-- the line of a group, by what is printed of it
pub printed_text : (number to : ℕ) (es : List Element) (front : List ℕ) (e : Element) → number * 8 < length es → to ≡ min (number * 8 + 8) (length es) → front ≡ front_of (to - number * 8) → get_or es (number * 8) e ≡ e →
    line_text (group_line (group_at number es)) ≡ ((front ++ element_line e) ++ flat_map behind_text (span (number * 8 + 1) to es)) ++ 10 ∷ []
printed_text number to es front e lt is front_is here =
    ap line_text (split_text (number * 8) to es e lt is ∙ (λ i. (sym front_is i ++ element_line (here i)) ++ flat_map behind_text (span (number * 8 + 1) to es)))
