-- What the groups of some elements make of a state, each at one place.
use Rattle.std.proofs.Common.{◌≡◌, ◌≢◌, ℕ, zero, suc, ◌+◌, ◌*◌, ◌/◌, ◌<◌, ◌≤◌, false, List, [], ◌∷◌, ◌++◌, map, length, take, drop, refl, sym, ◌∙◌, ap, subst, arith}
use Rattle.std.specs.Prelude.{◌||◌, if◌then◌else◌}
use Rattle.std.specs.List.{AllByRecursion}
use Rattle.std.proofs.lemmas.List.{length-drop, length-take, take-append-drop}
use Rattle.rom_carry.specs.Rebuilds.{after_steps, told_by_steps}
use Rattle.rom_model.specs.Singles.{reply_of}
use Rattle.rom_model.specs.State.{State, any_full, group, is_full, one, replies_to, state_after, step}
use Rattle.rom_model.specs.Trio.{trio}
use Rattle.rom_model.specs.declared.call.Call.{Call}
use Rattle.rom_model.specs.declared.call.Query.{Query}
use Rattle.rom_model.specs.declared.call.Reply.{Reply}
use Rattle.rom_model.specs.declared.call.Reply.TheVariants as reply
use Rattle.rom_model.specs.declared.call.SingleReply.{SingleReply}
use Rattle.rom_model.specs.declared.call.SingleReply.TheVariants as told
use Rattle.rom_model.specs.declared.line.Step.{Step}
use Rattle.rom_model.specs.declared.line.Step.TheVariants.{Update}
use Rattle.rom_rebuild.specs.declared.elements.element.Element.{Element}
use Rattle.rom_rebuild.specs.declared.elements.element.Element.TheVariants.{Value, Member, Pair}
use Rattle.rom_rebuild.specs.Carried.{IsRefused}
use Rattle.rom_rebuild.specs.Lines.{groups, insertion_of, insertions_of}
use Rattle.rom_rebuild.proofs.Taking.{NoneFull, after, after_append, none_parts, told_each}

not_full : (r : SingleReply) → r ≢ told.Full → reply_of r ≢ reply.Full
not_full told.Queued ne is = let never : reply.Queued ≡ reply.Full = is in cc
not_full told.Full ne is = ne refl
not_full (told.Head v) ne is = let never : reply.Head v ≡ reply.Full = is in cc
not_full told.Empty ne is = let never : reply.Empty ≡ reply.Full = is in cc
not_full told.Added ne is = let never : reply.Added ≡ reply.Full = is in cc
not_full told.Present ne is = let never : reply.Present ≡ reply.Full = is in cc
not_full told.Removed ne is = let never : reply.Removed ≡ reply.Full = is in cc
not_full told.Absent ne is = let never : reply.Absent ≡ reply.Full = is in cc
not_full told.NoPrior ne is = let never : reply.NoPrior ≡ reply.Full = is in cc
not_full (told.Was v) ne is = let never : reply.Was v ≡ reply.Full = is in cc
not_full told.Moved ne is = let never : reply.Moved ≡ reply.Full = is in cc
not_full (told.Short v) ne is = let never : reply.Short v ≡ reply.Full = is in cc
not_full told.Over ne is = let never : reply.Over ≡ reply.Full = is in cc

plain : (r : SingleReply) → r ≢ told.Full → is_full r ≡ false
plain told.Queued ne = refl
plain told.Full ne = absurd (ne refl)
plain (told.Head v) ne = refl
plain told.Empty ne = refl
plain told.Added ne = refl
plain told.Present ne = refl
plain told.Removed ne = refl
plain told.Absent ne = refl
plain told.NoPrior ne = refl
plain (told.Was v) ne = refl
plain told.Moved ne = refl
plain (told.Short v) ne = refl
plain told.Over ne = refl

none_any : (rs : List SingleReply) → AllByRecursion (λ r. r ≢ told.Full) rs → any_full rs ≡ false
none_any [] none = refl
none_any (r ∷ rs) none = ap (λ b. b || any_full rs) (plain r none.0) ∙ none_any rs none.1

-- the place of an element is that of its group
place : (k j : ℕ) → j * 8 ≤ k → k < j * 8 + 8 → k / 8 ≡ j
place k j low high = omega (arith, low, high)

state_same : (n : ℕ) (s : State) (k j : ℕ) (es : List Element) → j * 8 ≤ k → k + length es ≤ j * 8 + 8 → state_after n s j (map insertion_of es) ≡ after n s k es
state_same n s k j [] low high = refl
state_same n s k j (e ∷ es) low high =
    state_same n (one n s j (insertion_of e)).0 (k + 1) j es (omega (arith, low)) (omega (arith, high)) ∙ ap (λ p. after n (one n s p (insertion_of e)).0 (k + 1) es) (sym (place k j low (omega (arith, high))))

told_same : (n : ℕ) (s : State) (k j : ℕ) (es : List Element) → j * 8 ≤ k → k + length es ≤ j * 8 + 8 → replies_to n s j (map insertion_of es) ≡ told_each n s k es
told_same n s k j [] low high = refl
told_same n s k j (e ∷ es) low high =
    ap (λ rs. (one n s j (insertion_of e)).1 ∷ rs) (told_same n (one n s j (insertion_of e)).0 (k + 1) j es (omega (arith, low)) (omega (arith, high)))
    ∙ ap (λ p. (one n s p (insertion_of e)).1 ∷ told_each n (one n s p (insertion_of e)).0 (k + 1) es) (sym (place k j low (omega (arith, high))))

alone : (n : ℕ) (s : State) (j : ℕ) (e : Element) → step n s j (insertions_of (e ∷ [])) ≡ ((one n s j (insertion_of e)).0, reply_of (one n s j (insertion_of e)).1)
alone n s j (Value v) = refl
alone n s j (Member k) = refl
alone n s j (Pair k v) = refl

-- what one group does, of which the first element has that number
pub record Done (n : ℕ) (s : State) (k j : ℕ) (es : List Element) : Type 0 where
  pub state : (step n s j (insertions_of es)).0 ≡ after n s k es
  pub told : IsRefused (step n s j (insertions_of es)).1 → ⊥

group_done : (n : ℕ) (s : State) (k j : ℕ) (es : List Element) → 0 < length es → j * 8 ≤ k → k + length es ≤ j * 8 + 8 → NoneFull n s k es → Done n s k j es
group_done n s k j [] some low high none = absurd (omega (arith, some))
group_done n s k j (e ∷ []) some low high none =
    let at : k / 8 ≡ j = place k j low (omega (arith, high)) in
    record {
      state = ap (λ (d : State × Reply). d.0) (alone n s j e) ∙ ap (λ p. (one n s p (insertion_of e)).0) (sym at);
      told = λ is. not_full (one n s j (insertion_of e)).1 (subst (λ p. (one n s p (insertion_of e)).1 ≢ told.Full) at none.0) (sym (ap (λ (d : State × Reply). d.1) (alone n s j e)) ∙ is);
    }
group_done n s k j (e ∷ f ∷ es) some low high none =
    let cs = map insertion_of (e ∷ f ∷ es) in
    let quiet : any_full (replies_to n s j cs) ≡ false = ap any_full (told_same n s k j (e ∷ f ∷ es) low high) ∙ none_any (told_each n s k (e ∷ f ∷ es)) none in
    let done : group n s j cs ≡ (state_after n s j cs, reply.All (replies_to n s j cs)) = ap (λ b. if b then (s, reply.Full) else (state_after n s j cs, reply.All (replies_to n s j cs))) quiet in
    record {
      state = ap (λ (d : State × Reply). d.0) done ∙ state_same n s k j (e ∷ f ∷ es) low high;
      told = λ is. let never : reply.All (replies_to n s j cs) ≡ reply.Full = sym (ap (λ (d : State × Reply). d.1) done) ∙ is in cc;
    }

-- the updates of some groups
abbrev pub steps_of : List (List Element) → List (Step Call Query)
steps_of gs = map (λ es. Update (insertions_of es)) gs

pub record AllDone (n : ℕ) (s : State) (k j m : ℕ) (es : List Element) : Type 0 where
  pub state : after_steps trio n s j (steps_of (groups m es)) ≡ after n s k es
  pub none : AllByRecursion (λ r. IsRefused r → ⊥) (told_by_steps trio n s j (steps_of (groups m es)))
  pub many : length (told_by_steps trio n s j (steps_of (groups m es))) ≡ m

pub groups_done : (n : ℕ) (s : State) (k j m : ℕ) (es : List Element) → (0 < length es → k ≡ j * 8) → length es ≤ m * 8 → m * 8 < length es + 8 → NoneFull n s k es → AllDone n s k j m es
groups_done n s k j zero [] at all some none = record { state = refl; none = tt; many = refl }
groups_done n s k j zero (e ∷ es) at all some none = absurd (omega (arith, all))
groups_done n s k j (suc m) es at all some none =
    let xs = take 8 es in
    let ys = drop 8 es in
    let long = length-take 8 es in
    let left = length-drop 8 es in
    let here : k ≡ j * 8 = at (omega (arith, some)) in
    let split : es ≡ xs ++ ys = sym (take-append-drop 8 es) in
    let parts = none_parts n s k xs ys (subst (λ zs. NoneFull n s k zs) split none) in
    let done = group_done n s k j xs (omega (arith, long, some)) (omega (arith, here)) (omega (arith, here, long)) parts.0 in
    let next : State = (step n s j (insertions_of xs)).0 in
    let rest = groups_done n next (k + length xs) (j + 1) m ys (λ more. omega (arith, here, long, left, more)) (omega (arith, left, all)) (omega (arith, left, all, some)) (subst (λ (t : State). NoneFull n t (k + length xs) ys) (sym done.state) parts.1) in
    record {
      state = rest.state ∙ ap (λ (t : State). after n t (k + length xs) ys) done.state ∙ sym (after_append n s k xs ys) ∙ ap (after n s k) (sym split);
      none = (done.told, rest.none);
      many = ap suc rest.many;
    }
