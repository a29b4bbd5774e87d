-- The keys of a map and their values, as its entries.
use Rattle.std.proofs.Common.{◌≡◌, ℕ, Bool, true, false, cond, T, List, [], ◌∷◌, map, refl, ◌∙◌, ap}
use Rattle.std.specs.Prelude.{◌&&◌, Option, Some, option_map}
use Rattle.std.specs.Option.{unwrap_or}
use Rattle.std.specs.Ordering.{nat_cmp, is_eq, is_lt, ordering_reverse}
use Rattle.std.specs.Cmp.{nat_cmp_total, tied_itself}
use Rattle.std.specs.declared.cmp.Ordering.{Ordering}
use Rattle.std.specs.declared.cmp.Ordering.TheVariants.{Less, Equal, Greater}
use Rattle.std.specs.FinMap as finite
use Rattle.std.specs.FinMap.Entries.{below_all, find, is_sorted}
use Rattle.rom_model.specs.State.{State, Stamped, value_of}
use Rattle.rom_rebuild.specs.declared.elements.element.Element.TheVariants.{Pair}
use Rattle.rom_rebuild.specs.Elements.{paired}

pub first : (a b : Bool) → T (a && b) → T a
first true b is = tt
first false b is = absurd is

pub second : (a b : Bool) → T (a && b) → T b
second true b is = is
second false b is = absurd is

pub less_is : (o : Ordering) → T (is_lt o) → o ≡ Less
less_is Less is = refl
less_is Equal is = absurd is
less_is Greater is = absurd is

abbrev value : Option Stamped → ℕ
value found = unwrap_or (option_map (λ (kept : Stamped). kept.value) found) 0

abbrev keys_of : List (ℕ × Stamped) → List ℕ
keys_of es = map (λ e. e.0) es

-- entries behind a lesser key are found where they were
found_behind : (x : ℕ) (v : Stamped) (es fs : List (ℕ × Stamped)) → T (below_all nat_cmp x fs) → map (λ q. value (find nat_cmp q ((x, v) ∷ es))) (keys_of fs) ≡ map (λ q. value (find nat_cmp q es)) (keys_of fs)
found_behind x v es [] below = refl
found_behind x v es (f ∷ fs) below =
    let above : is_eq (nat_cmp f.0 x) ≡ false = ap is_eq (nat_cmp_total.antisymm f.0 x ∙ ap ordering_reverse (less_is (nat_cmp x f.0) (first (is_lt (nat_cmp x f.0)) (below_all nat_cmp x fs) below))) in
    let rest = found_behind x v es fs (second (is_lt (nat_cmp x f.0)) (below_all nat_cmp x fs) below) in
    λ i. value (cond (above i) (Some v) (find nat_cmp f.0 es)) ∷ rest i

found_values : (es : List (ℕ × Stamped)) → T (is_sorted nat_cmp es) → map (λ q. value (find nat_cmp q es)) (keys_of es) ≡ map (λ e. e.1.value) es
found_values [] sorted = refl
found_values (e ∷ es) sorted =
    let here : value (find nat_cmp e.0 (e ∷ es)) ≡ e.1.value = ap (λ b. value (cond (is_eq b) (Some e.1) (find nat_cmp e.0 es))) (tied_itself nat_cmp_total e.0) in
    let rest = found_behind e.0 e.1 es es (first (below_all nat_cmp e.0 es) (is_sorted nat_cmp es) sorted) ∙ found_values es (second (below_all nat_cmp e.0 es) (is_sorted nat_cmp es) sorted) in
    λ i. here i ∷ rest i

same_values : (m : finite.FinMap nat_cmp Stamped) (ks : List ℕ) → map (λ q. value (finite.get m q)) ks ≡ map (λ q. value (find nat_cmp q (finite.entries m))) ks
same_values m [] = refl
same_values m (k ∷ ks) = λ i. value (finite.get-entries m k i) ∷ same_values m ks i

-- the values of the map's keys are those of its entries
pub values_entries : (s : State) → map (λ key. unwrap_or (value_of s key) 0) (finite.keys s.pairs) ≡ map (λ e. e.1.value) (finite.entries s.pairs)
values_entries s = same_values s.pairs (finite.keys s.pairs) ∙ found_values (finite.entries s.pairs) (finite.entries_sorted s.pairs)

-- so keys and values together are the entries
pub paired_entries : (es : List (ℕ × Stamped)) → paired (map (λ e. e.0) es) (map (λ e. e.1.value) es) ≡ map (λ e. Pair e.0 e.1.value) es
paired_entries [] = refl
paired_entries (e ∷ es) = ap (λ ps. Pair e.0 e.1.value ∷ ps) (paired_entries es)
