-- The lines of groups are read as the updates that they are written as, and are short and plain.
use Rattle.std.proofs.Common.{◌≡◌, ℕ, zero, suc, ◌+◌, ◌-◌, ◌*◌, ◌<◌, ◌≤◌, Bool, true, false, List, [], ◌∷◌, ◌++◌, codes, map, length, drop, decimal, refl, ◌∙◌, ap, arith, length-append}
use Rattle.std.specs.Prelude.{◌≢◌, ◌&&◌, ◌==◌, nat_le, nat_lt, slice_index, if◌then◌else◌}
use Rattle.std.specs.List.{AllByRecursion, flat_map, list_all}
use Rattle.std.proofs.lemmas.Bool.{le-leb, lt-ltb, ltb-true}
use Rattle.std.proofs.lemmas.List.{length-drop, length-map, length-take}
use Rattle.rom_carry.proofs.Carrying.{all_drop, all_take}
use Rattle.rom_carry.specs.Carried.{AreWritten}
use Rattle.rom_carry.specs.Scripts.{IsPlain}
use Rattle.rom_model.specs.Groups.{is_size}
use Rattle.rom_rebuild.specs.declared.elements.element.Element.{Element}
use Rattle.rom_rebuild.specs.declared.elements.element.Element.TheVariants.{Value, Member, Pair}
use Rattle.rom_rebuild.specs.Carried.{bounds}
use Rattle.rom_rebuild.specs.Elements.{ElementFits}
use Rattle.rom_rebuild.specs.Lines.{behind_text, element_line, element_lines, front_of, group_line, groups, groups_needed, groups_of, insertion_of, insertions_of}
use Rattle.rom_rebuild.proofs.Grouped.{steps_of}
use Rattle.rom_rebuild.proofs.Groups.{group_text, lines_many, needed_some}
use Rattle.rom_script.specs.Lines.{CallFits, ReadsTrio, SingleCallFits}
use Rattle.rom_text.specs.Lines.{AreRead}
use Rattle.rom_text.proofs.Numbers.{number_short}
use Rattle.rom_text.proofs.Reading.{both, decimal_is_a_word, is_word}

-- a group, as lines have one: one element to eight
pub record IsGroup (es : List Element) : Type 0 where
  pub some : 0 < length es
  pub few : length es ≤ 8
  pub fit : AllByRecursion ElementFits es

-- all groups of some elements are
pub are_groups : (m : ℕ) (es : List Element) → AllByRecursion ElementFits es → m * 8 < length es + 8 → AllByRecursion IsGroup (groups m es)
are_groups zero es fit some = tt
are_groups (suc zero) es fit some = (record { some = omega (arith, some, length-take 8 es); few = omega (arith, length-take 8 es); fit = all_take ElementFits 8 es fit }, tt)
are_groups (suc (suc m)) es fit some = (
  record { some = omega (arith, some, length-take 8 es); few = omega (arith, length-take 8 es); fit = all_take ElementFits 8 es fit },
  are_groups (suc m) (drop 8 es) (all_drop ElementFits 8 es fit) (omega (arith, some, length-drop 8 es)),
)

single_fits : (e : Element) → ElementFits e → SingleCallFits (insertion_of e)
single_fits (Value v) fit = fit
single_fits (Member k) fit = fit
single_fits (Pair k v) fit = fit

singles_fit : (es : List Element) → AllByRecursion ElementFits es → AllByRecursion SingleCallFits (map insertion_of es)
singles_fit [] fit = tt
singles_fit (e ∷ es) fit = (single_fits e fit.0, singles_fit es fit.1)

group_size : (m : ℕ) → 2 ≤ m → m ≤ 8 → is_size m ≡ true
group_size m low high = ap (λ b. b && nat_le m 8) (le-leb 2 m low) ∙ le-leb m 8 high

call_fits : (es : List Element) → IsGroup es → CallFits (insertions_of es)
call_fits [] is = absurd (omega (arith, is.some))
call_fits (Value v ∷ []) is = is.fit.0
call_fits (Member k ∷ []) is = is.fit.0
call_fits (Pair k v ∷ []) is = is.fit.0
call_fits (e ∷ f ∷ es) is = (group_size (length (map insertion_of (e ∷ f ∷ es))) (omega arith) (omega (arith, is.few, length-map es insertion_of)), singles_fit (e ∷ f ∷ es) is.fit)

pub groups_read : (gs : List (List Element)) → AllByRecursion IsGroup gs → AreRead ReadsTrio (map group_line gs) (steps_of gs)
groups_read [] are = tt
groups_read (es ∷ gs) are = ((call_fits es are.0, refl), groups_read gs are.1)

-- a group's line has at most 384 bytes
element_short : (e : Element) → ElementFits e → length (element_line e) ≤ 45
element_short (Value v) fit = omega (arith, number_short v fit)
element_short (Member k) fit = omega (arith, number_short k fit)
element_short (Pair k v) fit = omega (arith, length-append (decimal k) (32 ∷ decimal v), number_short k fit.0, number_short v fit.1)

behind_short : (es : List Element) → AllByRecursion ElementFits es → length (flat_map behind_text es) ≤ 48 * length es
behind_short [] fit = omega arith
behind_short (e ∷ es) fit = omega (arith, length-append (behind_text e) (flat_map behind_text es), length-append (codes " ; ") (element_line e), element_short e fit.0, behind_short es fit.1)

pub front_short : (many : ℕ) → length (front_of many) ≤ 3
front_short many = go (many == 1)
  where
    go : (b : Bool) → length (if b then [] else codes "tx ") ≤ 3
    go true = omega arith
    go false = omega arith

short : (es : List Element) → IsGroup es → length (group_line es) ≤ 384
short [] is = absurd (omega (arith, is.some))
short (e ∷ es) is =
    let front = front_of (length (e ∷ es)) in
    omega (arith, ap length (group_text e es), length-append (front ++ element_line e) (flat_map behind_text es), length-append front (element_line e), front_short (length (e ∷ es)), element_short e is.fit.0, behind_short es is.fit.1, is.few)

-- neither LF nor CR is among its bytes
abbrev is_plain : List ℕ → Bool
is_plain w = list_all (λ b. nat_lt 13 b) w

plain_append : (xs ys : List ℕ) → is_plain xs ≡ true → is_plain ys ≡ true → is_plain (xs ++ ys) ≡ true
plain_append [] ys one two = two
plain_append (x ∷ xs) ys one two =
    let parts = both (nat_lt 13 x) (is_plain xs) one in
    ap (λ t. t && is_plain (xs ++ ys)) parts.0 ∙ plain_append xs ys parts.1 two

plain_word : (w : List ℕ) → is_word w ≡ true → is_plain w ≡ true
plain_word [] word = refl
plain_word (b ∷ bs) word =
    let parts = both (nat_lt 32 b) (is_word bs) word in
    ap (λ t. t && is_plain bs) (lt-ltb 13 b (omega (arith, ltb-true 32 b parts.0))) ∙ plain_word bs parts.1

digits_plain : (n : ℕ) → is_plain (decimal n) ≡ true
digits_plain n = plain_word (decimal n) (decimal_is_a_word n)

element_plain : (e : Element) → is_plain (element_line e) ≡ true
element_plain (Value v) = digits_plain v
element_plain (Member k) = digits_plain k
element_plain (Pair k v) = plain_append (decimal k) (32 ∷ decimal v) (digits_plain k) (digits_plain v)

behind_plain : (es : List Element) → is_plain (flat_map behind_text es) ≡ true
behind_plain [] = refl
behind_plain (e ∷ es) = plain_append (behind_text e) (flat_map behind_text es) (element_plain e) (behind_plain es)

front_plain : (many : ℕ) → is_plain (front_of many) ≡ true
front_plain many = go (many == 1)
  where
    go : (b : Bool) → is_plain (if b then [] else codes "tx ") ≡ true
    go true = refl
    go false = refl

line_plain : (es : List Element) → IsGroup es → is_plain (group_line es) ≡ true
line_plain [] is = absurd (omega (arith, is.some))
line_plain (e ∷ es) is =
    let front = front_of (length (e ∷ es)) in
    ap is_plain (group_text e es) ∙ plain_append (front ++ element_line e) (flat_map behind_text es) (plain_append front (element_line e) (front_plain (length (e ∷ es))) (element_plain e)) (behind_plain es)

no_end : (w : List ℕ) → is_plain w ≡ true → AllByRecursion (λ byte. byte ≢ 10) w
no_end [] plain = tt
no_end (b ∷ bs) plain = let parts = both (nat_lt 13 b) (is_plain bs) plain in (λ is. omega (arith, is, ltb-true 13 b parts.0), no_end bs parts.1)

no_return : (w : List ℕ) (k : ℕ) → is_plain w ≡ true → slice_index w k ≢ 13
no_return [] k plain = λ is. omega (arith, is)
no_return (b ∷ bs) zero plain = let parts = both (nat_lt 13 b) (is_plain bs) plain in λ is. omega (arith, is, ltb-true 13 b parts.0)
no_return (b ∷ bs) (suc k) plain = let parts = both (nat_lt 13 b) (is_plain bs) plain in no_return bs k parts.1

all_short : (gs : List (List Element)) → AllByRecursion IsGroup gs → AllByRecursion (λ line. length line ≤ 384) (map group_line gs)
all_short [] are = tt
all_short (es ∷ gs) are = (short es are.0, all_short gs are.1)

all_plain : (gs : List (List Element)) → AllByRecursion IsGroup gs → AllByRecursion IsPlain (map group_line gs)
all_plain [] are = tt
all_plain (es ∷ gs) are =
    let plain = line_plain es are.0 in
    (record { no_end = no_end (group_line es) plain; no_return = no_return (group_line es) (length (group_line es) - 1) plain }, all_plain gs are.1)

pub groups_of_are : (es : List Element) → AllByRecursion ElementFits es → AllByRecursion IsGroup (groups_of es)
groups_of_are es fit = are_groups (groups_needed (length es)) es fit (needed_some (length es))

-- the lines are within their bounds
pub lines_written : (es : List Element) → AllByRecursion ElementFits es → length es ≤ 61440 → AreWritten bounds (element_lines es)
lines_written es fit few = record {
  few = omega (arith, lines_many es, needed_some (length es), few);
  short = all_short (groups_of es) (groups_of_are es fit);
  plain = all_plain (groups_of es) (groups_of_are es fit);
}
