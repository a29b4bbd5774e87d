-- Entries whose numbers have at most 64 bits.
use Rattle.std.proofs.Common.{◌≡◌, ℕ, zero, suc, ◌+◌, ◌-◌, ◌^◌, ◌<◌, true, cond, List, [], ◌∷◌, length, get_or, refl, sym, ◌∙◌, ap, subst, arith}
use Rattle.std.specs.Prelude.{◌&&◌, nat_le, slice_index}
use Rattle.std.specs.FinMap as map
use Rattle.std.specs.List.{AllByRecursion}
use Rattle.std.proofs.lemmas.Bool.Decides.{nat_tests}
use Rattle.rom_carry.proofs.Carrying.{all_append}
use Rattle.rom_order_region.specs.Nodes.{TreeStands, node_at}
use Rattle.rom_order_region.specs.Query.{inside}
use Rattle.rom_order_region.specs.Region.{IndexContents}
use Rattle.rom_order_region.specs.State.{Pairs}
use Rattle.rom_order_region.specs.Tree.{Tree, Leaf, Node, entries}
use Rattle.rom_order_carry.specs.Entries.{EntryFits}

-- each word has at most 64 bits
abbrev pub WordsFit : List ℕ → Type 0
WordsFit words = AllByRecursion (λ word. word < 2 ^ 64) words

word_fits : (w : List ℕ) (k : ℕ) → WordsFit w → slice_index w k < 2 ^ 64
word_fits [] k fit = omega arith
word_fits (x ∷ w) zero fit = fit.0
word_fits (x ∷ w) (suc k) fit = word_fits w k fit.1

tree_fits : (n : ℕ) (w : List ℕ) (t : Tree) → WordsFit w → TreeStands n w t → AllByRecursion EntryFits (entries t)
tree_fits n w Leaf fit stands = tt
tree_fits n w (Node b k v l r) fit stands =
    let key : k < 2 ^ 64 = subst (λ a. a < 2 ^ 64) stands.0.key_is (word_fits w (node_at n b) fit) in
    let value : v < 2 ^ 64 = subst (λ a. a < 2 ^ 64) stands.0.value_is (word_fits w (node_at n b + 1) fit) in
    all_append EntryFits (entries l) ((k, v) ∷ entries r) (tree_fits n w l fit stands.2) ((key, value), tree_fits n w r fit stands.3)

-- the entries of a region have words' numbers
pub entries_fit : (n : ℕ) (w : List ℕ) (s : Pairs) (k : ℕ) → WordsFit w → IndexContents n w s k → AllByRecursion EntryFits (map.entries s)
entries_fit n w s k fit held = subst (λ es. AllByRecursion EntryFits es) (sym held.1.entries_are) (tree_fits n w held.0 fit held.1.top.stands)

pub entry_fits : (es : List (ℕ × ℕ)) (i : ℕ) (d : ℕ × ℕ) → AllByRecursion EntryFits es → i < length es → EntryFits (get_or es i d)
entry_fits [] i d fit lt = absurd (omega (arith, lt))
entry_fits (e ∷ es) zero d fit lt = fit.0
entry_fits (e ∷ es) (suc i) d fit lt = entry_fits es i d fit.1 (omega (arith, lt))

in_range : (x : ℕ) → x < 2 ^ 64 → (nat_le 0 x && nat_le x (2 ^ 64 - 1)) ≡ true
in_range x fit = grind (arith, nat_tests)

-- all of them lie between the least word and the greatest
pub inside_all : (es : List (ℕ × ℕ)) → AllByRecursion EntryFits es → inside 0 (2 ^ 64 - 1) es ≡ es
inside_all [] fit = refl
inside_all (e ∷ es) fit = ap (λ b. cond b (e ∷ inside 0 (2 ^ 64 - 1) es) (inside 0 (2 ^ 64 - 1) es)) (in_range e.0 fit.0.0) ∙ ap (λ xs. e ∷ xs) (inside_all es fit.1)
