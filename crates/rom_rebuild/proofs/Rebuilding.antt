-- The lines of the elements of a state rebuild it.
use Rattle.std.proofs.Common.{◌≡◌, ℕ, ◌+◌, ◌≤◌, Bool, true, false, cond, T, List, [], ◌∷◌, ◌++◌, map, reverse, length, refl, sym, ◌∙◌, ap, subst, arith, length-append}
use Rattle.std.specs.Prelude.{Option, Some, None, option_map}
use Rattle.std.specs.List.{AllByRecursion}
use Rattle.std.specs.Ordering.{nat_cmp, eq_by_cmp, is_eq, is_lt}
use Rattle.std.specs.Cmp.{nat_cmp_total}
use Rattle.std.specs.declared.cmp.Ordering.{Ordering}
use Rattle.std.specs.declared.cmp.Ordering.TheVariants.{Less, Equal, Greater}
use Rattle.std.specs.FinSet as set
use Rattle.std.specs.FinMap as finite
use Rattle.std.specs.FinMap.Entries.{below_all, find, is_sorted}
use Rattle.std.proofs.lemmas.List.{length-map, length-reverse}
use Rattle.std.proofs.lemmas.List.Sorted.{IsPermutation-reverse, list_any-IsPermutation}
use Rattle.rom_carry.specs.Carried.{AreCarrying, RebuildLines}
use Rattle.rom_carry.proofs.Carrying.{carried}
use Rattle.rom_model.specs.State.{State, Stamped, cap, empty, live, value_of}
use Rattle.rom_model.specs.Trio.{trio}
use Rattle.rom_model.specs.declared.line.Step.TheVariants.{Update}
use Rattle.rom_model.proofs.Contents.{len-rising}
use Rattle.rom_rebuild.specs.declared.elements.element.Element.{Element}
use Rattle.rom_rebuild.specs.declared.elements.element.Element.TheVariants.{Value, Member}
use Rattle.rom_rebuild.specs.Carried.{IsRefused, SameElements, bounds}
use Rattle.rom_rebuild.specs.Elements.{AreElements, ElementFits}
use Rattle.rom_rebuild.specs.Lines.{element_lines, groups_needed, groups_of, insertions_of}
use Rattle.rom_rebuild.proofs.Caps.{cap_more}
use Rattle.rom_rebuild.proofs.Entries.{first, second}
use Rattle.rom_rebuild.proofs.Grouped.{groups_done, steps_of}
use Rattle.rom_rebuild.proofs.Groups.{groups_many, needed_all, needed_some}
use Rattle.rom_rebuild.proofs.Reading.{groups_of_are, groups_read, lines_written}
use Rattle.rom_rebuild.proofs.Taking.{NoneFull, after, after_append, none_append, tied, pair_of, put_over, queue_all, set_all, map_all}
use Rattle.rom_script.specs.Lines.{ReadsTrio}

not_equal : (o : Ordering) → T (is_lt o) → is_eq o ≡ false
not_equal Less is = refl
not_equal Equal is = absurd is
not_equal Greater is = absurd is

-- a key below all of some entries is not found in them
find_none : (q : ℕ) (es : List (ℕ × Stamped)) → T (below_all nat_cmp q es) → find nat_cmp q es ≡ None
find_none q [] below = refl
find_none q (e ∷ es) below = ap (λ b. cond b (Some e.1) (find nat_cmp q es)) (not_equal (nat_cmp q e.0) (first (is_lt (nat_cmp q e.0)) (below_all nat_cmp q es) below)) ∙ find_none q es (second (is_lt (nat_cmp q e.0)) (below_all nat_cmp q es) below)

abbrev value : Option Stamped → Option ℕ
value found = option_map (λ (kept : Stamped). kept.value) found

or_else : Option Stamped → Option ℕ → Option ℕ
or_else (Some kept) old = Some kept.value
or_else None old = old

-- entries whose keys rise give each key its value
over_sorted : (es : List (ℕ × Stamped)) (old : ℕ → Option ℕ) (q : ℕ) → T (is_sorted nat_cmp es) → put_over es old q ≡ or_else (find nat_cmp q es) (old q)
unfolding put_over or_else
over_sorted [] old q sorted = refl
over_sorted (e ∷ es) old q sorted =
    over_sorted es (λ p. cond (eq_by_cmp nat_cmp p e.0) (Some e.1.value) (old p)) q (second (below_all nat_cmp e.0 es) (is_sorted nat_cmp es) sorted) ∙ go (eq_by_cmp nat_cmp q e.0) refl
  where
    go : (t : Bool) → eq_by_cmp nat_cmp q e.0 ≡ t → or_else (find nat_cmp q es) (cond (eq_by_cmp nat_cmp q e.0) (Some e.1.value) (old q)) ≡ or_else (cond (eq_by_cmp nat_cmp q e.0) (Some e.1) (find nat_cmp q es)) (old q)
    go true same =
        let here : q ≡ e.0 = tied q e.0 same in
        let gone : find nat_cmp q es ≡ None = ap (λ p. find nat_cmp p es) here ∙ find_none e.0 es (first (below_all nat_cmp e.0 es) (is_sorted nat_cmp es) sorted) in
        (λ i. or_else (gone i) (cond (same i) (Some e.1.value) (old q))) ∙ ap (λ b. or_else (cond b (Some e.1) (find nat_cmp q es)) (old q)) (sym same)
    go false other = (λ i. or_else (find nat_cmp q es) (cond (other i) (Some e.1.value) (old q))) ∙ ap (λ b. or_else (cond b (Some e.1) (find nat_cmp q es)) (old q)) (sym other)

from_none : (found : Option Stamped) → or_else found None ≡ value found
unfolding or_else
from_none (Some kept) = refl
from_none None = refl

-- a state has as many elements as it is made of
pub elements_many : (s : State) (es : List Element) → AreElements s es → length es ≡ live s
elements_many s es is =
    let numbers : set.len s.members ≡ length is.numbers = ap (λ m. set.len m) (sym is.members) ∙ len-rising is.numbers is.rising in
    let ks = reverse is.numbers in
    omega (arith, ap length is.are, length-append (map Value s.queue) (map Member ks ++ map pair_of (finite.entries s.pairs)), length-append (map Member ks) (map pair_of (finite.entries s.pairs)), length-map s.queue Value, length-map ks Member, length-reverse is.numbers, length-map (finite.entries s.pairs) pair_of, numbers, finite.len-entries s.pairs)

-- numbers in another order are the same set
set_reversed : (xs : List ℕ) → set.from_list {R = nat_cmp} (reverse xs) ≡ set.from_list xs
set_reversed xs = set.same_set nat_cmp_total finite.nat_cmp-IsAntisymmetric _ _ (λ q.
    set.contains-from_list nat_cmp_total (reverse xs) q ∙ sym (list_any-IsPermutation (eq_by_cmp nat_cmp q) xs (reverse xs) (IsPermutation-reverse xs)) ∙ sym (set.contains-from_list nat_cmp_total xs q))

module _ (n : ℕ) (s : State) (es : List Element) (is : AreElements s es) (fits : live s ≤ cap n) where
  -- what the elements make of a new heap
  pub record Made : Type 0 where
    pub same : SameElements s (after n empty 0 es)
    pub none : NoneFull n empty 0 es

  made : Made
  made =
      let vs = map Value s.queue in
      let falling = reverse is.numbers in
      let ks = map Member falling in
      let ps = map pair_of (finite.entries s.pairs) in
      let numbers : set.len s.members ≡ length falling = ap (λ m. set.len m) (sym is.members) ∙ len-rising is.numbers is.rising ∙ sym (length-reverse is.numbers) in
      let none : live empty ≡ 0 = omega (arith, set.len-empty nat_cmp, finite.len-empty nat_cmp Stamped) in
      let one = queue_all n empty 0 s.queue (omega (arith, none, fits)) in
      let t = after n empty 0 vs in
      let two = set_all n t (0 + length vs) [] falling one.members (omega (arith, one.taken.few, none, fits, numbers, length-map s.queue Value)) in
      let u = after n t (0 + length vs) ks in
      let three = map_all n u (0 + length vs + length ks) (finite.entries s.pairs) (omega (arith, two.taken.few, one.taken.few, none, fits, numbers, finite.len-entries s.pairs, length-map s.queue Value, length-map falling Member)) in
      let last = after n u (0 + length vs + length ks) ps in
      let whole : after n empty 0 (vs ++ (ks ++ ps)) ≡ last = after_append n empty 0 vs (ks ++ ps) ∙ after_append n t (0 + length vs) ks ps in
      let all : after n empty 0 es ≡ last = ap (λ xs. after n empty 0 xs) is.are ∙ whole in
      let quiet = none_append n empty 0 vs (ks ++ ps) one.taken.none (none_append n t (0 + length vs) ks ps two.taken.none three.taken.none) in
      record {
        same = record {
          queue = ap (λ (z : State). z.queue) all ∙ three.queue ∙ two.queue ∙ one.queue;
          members = ap (λ (z : State). z.members) all ∙ three.members ∙ two.members ∙ set_reversed is.numbers ∙ is.members;
          values = λ q.
              ap (λ (z : State). value_of z q) all ∙ three.values q ∙ over_sorted (finite.entries s.pairs) (value_of u) q (finite.entries_sorted s.pairs)
              ∙ ap (λ o. or_else (find nat_cmp q (finite.entries s.pairs)) o) (ap (λ m. value (finite.get m q)) (two.pairs ∙ one.pairs) ∙ ap value (finite.get-empty nat_cmp q)) ∙ from_none (find nat_cmp q (finite.entries s.pairs)) ∙ ap value (sym (finite.get-entries s.pairs q));
        };
        none = subst (λ xs. NoneFull n empty 0 xs) (sym is.are) quiet;
      }

  -- the lines of their groups rebuild the state
  pub rebuilt : AllByRecursion ElementFits es → RebuildLines trio ReadsTrio SameElements IsRefused n (element_lines es) s
  rebuilt fit =
      let m = groups_needed (length es) in
      let done = groups_done n empty 0 0 m es (λ some. omega arith) (needed_all (length es)) (needed_some (length es)) made.none in
      record {
        steps = steps_of (groups_of es);
        read = groups_read (groups_of es) (groups_of_are es fit);
        rebuild = record {
          same = subst (λ t. SameElements s t) (sym done.state) made.same;
          none_refused = done.none;
          answered = done.many ∙ sym (length-map (groups_of es) (λ es. Update (insertions_of es)) ∙ groups_many m es);
        };
      }

-- Lines of all elements carry a state over.
pub elements_carry : (n : ℕ) (s : State) (es : List Element) → AreElements s es → AllByRecursion ElementFits es → live s ≤ cap n → length es ≤ 61440 → AreCarrying trio ReadsTrio SameElements IsRefused bounds n s (element_lines es)
elements_carry n s es is fit fits few =
    carried trio ReadsTrio SameElements IsRefused bounds n s (element_lines es) (lines_written es fit few) (λ greater above order. rebuilt greater s es is (cap_more n greater s above fits) fit)
