-- What the one caller of a store has seen is what was done of its updates.
use Rattle.std.proofs.Common.{◌≡◌, ℕ, zero, suc, ◌+◌, ◌<◌, ◌≤◌, List, [], ◌∷◌, ◌++◌, length, refl, sym, ap, ◌∙◌, subst, arith, true, false}
use Rattle.std.specs.Prelude.{◌==◌, Bool, Option, Some, None, IsSome, filter, map, nat_lt, if◌then◌else◌}
use Rattle.std.specs.List.{AllByRecursion, enumerate_from}
use Rattle.std.proofs.lemmas.List.{append-nil, append_cancel_left, map-append, length-append}
use Rattle.std.proofs.lemmas.Bool.Decides.{nat_tests}
use mathlib.Core.Option.{some}
use lib.ListN.{get_elem?}
use Rattle.atomic_table.specs.Seated.{TableId}
use Rattle.rom_model.specs.Codes.{reply_words}
use Rattle.rom_model.specs.History.{IsLegal, LAST_COUNT, after, batch, batch_of, left}
use Rattle.rom_model.specs.Lawful.{as_words}
use Rattle.rom_model.specs.Machine.{on_words}
use Rattle.rom_model.specs.Passes.{batch_told, fate_told, history_of, published}
use Rattle.rom_model.specs.Region.{Contents}
use Rattle.rom_model.specs.Seen.{done_in}
use Rattle.rom_model.specs.State.{State}
use Rattle.rom_model.specs.Trio.{trio}
use Rattle.rom_model.specs.declared.call.Call.{Call}
use Rattle.rom_model.specs.declared.call.Reply.{Reply}
use Rattle.rom_model.specs.declared.call.Updated.{Updated}
use Rattle.rom_model.specs.declared.call.Updated.TheVariants.{Done, Spent, Failed, Doubt}
use Rattle.rom_model.specs.declared.entry.Entry.{Entry}
use Rattle.rom_model.specs.declared.record.Fate.{Fate}
use Rattle.rom_model.specs.declared.record.Fate.TheVariants as fate
use Rattle.rom_model.specs.declared.record.Found.{Found}
use Rattle.rom_model.proofs.Placed.{done_in_append, enumerate_append}
use Rattle.rom_model.proofs.Recorded.{history_more}
use Rattle.rom_rule.specs.CallKinds.{IsToldByPass, longer}
use Rattle.rom_rule.specs.Views.{Told}
use Rattle.rom_rule.specs.declared.views.Base.{Base}
use Rattle.rom_store.specs.Callers.{Caller}
use Rattle.rom_follow.specs.Alone.{IsAlone, IsOutcome}
use Rattle.rom_follow.specs.Taking.{entry_at, found_at}
use Rattle.rom_follow.proofs.Alike.{all_own}

pub seen_is_done : (table : TableId) (base : Base) (p : Caller) (s : State) (k : ℕ) → IsAlone table base p → Contents base.order base.image s k → enumerate_from k p.view.seen ≡ done_in p.view.outcomes
seen_is_done table base p s k alone held =
    let knows = alone.numbered.of.knows s k held in
    let known : AllByRecursion (λ e. (0 < e.caller) × (e.caller ≤ 1)) p.view.seen = subst (λ n. AllByRecursion (λ e. (0 < e.caller) × (e.caller ≤ n)) p.view.seen) alone.one knows.known in
    let number : p.view.number ≡ 1 = alone.numbered.number in
    sym (all_own k p.view.seen known) ∙ ap (λ n. filter (λ x. x.1.caller == n) (enumerate_from k p.view.seen)) (sym number) ∙ knows.own

entries_in : (k : ℕ) (xs : List Entry) → map (λ x. x.1) (enumerate_from k xs) ≡ xs
entries_in k [] = refl
entries_in k (x ∷ xs) = ap (λ ys. x ∷ ys) (entries_in (k + 1) xs)

pub same_seen : (k : ℕ) (xs ys : List Entry) → enumerate_from k xs ≡ enumerate_from k ys → xs ≡ ys
same_seen k xs ys same = sym (entries_in k xs) ∙ ap (λ zs. map (λ x. x.1) zs) same ∙ entries_in k ys

first_one : {X : Type 0} (x y : X) → x ∷ [] ≡ y ∷ [] → x ≡ y
first_one x y is = cc

told_one : (x y : Told) → some x ≡ some y → x.1 ≡ y.1
told_one x y is = let same : x ≡ y = cc in ap (λ z. z.1) same

pub last_seen : (k : ℕ) (xs ys : List Entry) (place : ℕ) (e : Entry) → enumerate_from k xs ≡ enumerate_from k ys ++ (place, e) ∷ [] → (xs ≡ ys ++ e ∷ []) × (place ≡ k + length ys)
last_seen k xs ys place e same = (more, at)
  where
    more : xs ≡ ys ++ e ∷ []
    more = sym (entries_in k xs) ∙ ap (λ zs. map (λ x. x.1) zs) same ∙ map-append (λ x. x.1) (enumerate_from k ys) ((place, e) ∷ []) ∙ ap (λ zs. zs ++ e ∷ []) (entries_in k ys)

    one : ℕ × Entry
    one = (place, e)

    other : ℕ × Entry
    other = (k + length ys, e)

    both : one ∷ [] ≡ other ∷ []
    both = append_cancel_left (enumerate_from k ys) (one ∷ []) (other ∷ []) (sym same ∙ ap (enumerate_from k) more ∙ enumerate_append k ys (e ∷ []))

    at : place ≡ k + length ys
    at = ap (λ x. x.0) (first_one one other both)

-- Where a batch tells `Spent`, it goes up to the last count.
module _ {S : Type 0} (step : ℕ → S → ℕ → List ℕ → Option (S × List ℕ)) (order : ℕ) where
  one_full : (k : ℕ) (f : Found) (o : Option (S × List ℕ)) (rest : List Entry) (fs : List Found) (at : ℕ) (g : Found) → IsSome o
      → ((at' : ℕ) → get_elem? (batch_told (k + 1) fs rest) at' ≡ some (g, Spent) → LAST_COUNT ≤ k + 1 + length rest)
      → get_elem? (batch_told k (f ∷ fs) (batch_of step order k f o rest)) at ≡ some (g, Spent) → LAST_COUNT ≤ k + length (batch_of step order k f o rest)
  one_full k f None rest fs at g some_one next is = absurd (let never : false ≡ true = some_one in cc)
  one_full k f (Some done) rest fs at g some_one next is = by (nat_lt k LAST_COUNT) refl at is
    where
      e : Entry
      e = record { caller = f.caller; seq = f.seq; args = f.args; reply = done.1 }

      by : (b : Bool) → nat_lt k LAST_COUNT ≡ b → (at : ℕ) → get_elem? (batch_told k (f ∷ fs) (if b then e ∷ rest else [])) at ≡ some (g, Spent) → LAST_COUNT ≤ k + length (if b then e ∷ rest else [])
      by true test zero is = absurd (let never : Done done.1 k ≡ Spent = told_one (f, Done done.1 k) (g, Spent) is in cc)
      by true test (suc at) is = omega (arith, next at is)
      by false test at is = grind (arith, nat_tests)

  pub spent_full : (s : S) (k : ℕ) (fs : List Found) → AllByRecursion (λ f. (s : S) (k : ℕ) → IsSome (step order s k f.args)) fs → (at : ℕ) (g : Found) → get_elem? (batch_told k fs (batch step order s k fs)) at ≡ some (g, Spent) → LAST_COUNT ≤ k + length (batch step order s k fs)
  spent_full s k [] calls at g is = absurd (none_there at is)
    where
      none_there : (at : ℕ) → get_elem? {A = Found × Updated (List ℕ)} [] at ≡ some (g, Spent) → ⊥
      none_there zero is = cc
      none_there (suc at) is = cc
  spent_full s k (f ∷ fs) calls at g is =
      one_full k f (step order s k f.args) (batch step order (left s (step order s k f.args)) (k + 1) fs) fs at g (calls.0 s k) (λ at' there. spent_full (left s (step order s k f.args)) (k + 1) fs calls.1 at' g there) is

  -- so of a pass: only one that published tells `Spent`
  pub pass_full : (ended : Fate) (s : S) (k : ℕ) (fs : List Found) → AllByRecursion (λ f. (s : S) (k : ℕ) → IsSome (step order s k f.args)) fs → (at : ℕ) (g : Found) → get_elem? (fate_told ended k fs (batch step order s k fs)) at ≡ some (g, Spent) → (ended ≡ fate.Published) × (LAST_COUNT ≤ k + length (batch step order s k fs))
  pass_full fate.Published s k fs calls at g is = (refl, spent_full s k fs calls at g is)
  pass_full fate.Failed s k fs calls at g is = absurd (never fs at is)
    where
      never : (fs : List Found) (at : ℕ) → get_elem? (map (λ f. let x : Found × Updated (List ℕ) = (f, Failed) in x) fs) at ≡ some (g, Spent) → ⊥
      never [] zero is = cc
      never [] (suc at) is = cc
      never (f ∷ fs) zero is = let never : Failed ≡ Spent = told_one (f, Failed) (g, Spent) is in cc
      never (f ∷ fs) (suc at) is = never fs at is
  pass_full fate.Doubt s k fs calls at g is = absurd (never fs at is)
    where
      never : (fs : List Found) (at : ℕ) → get_elem? (map (λ f. let x : Found × Updated (List ℕ) = (f, Doubt) in x) fs) at ≡ some (g, Spent) → ⊥
      never [] zero is = cc
      never [] (suc at) is = cc
      never (f ∷ fs) zero is = let never : Doubt ≡ Spent = told_one (f, Doubt) (g, Spent) is in cc
      never (f ∷ fs) (suc at) is = never fs at is

not_shorter : (xs ys : List Entry) → length ys ≤ length (longer xs ys)
not_shorter xs ys = by (nat_lt (length ys) (length xs)) refl
  where
    by : (b : Bool) → nat_lt (length ys) (length xs) ≡ b → length ys ≤ length (if b then xs else ys)
    by true test = grind (arith, nat_tests)
    by false test = omega arith

-- what is told `Spent` was told so at the last count, and the caller had seen all up to it
pub spent_last : (base : Base) (f : Found) (since : ℕ) (seen seen' : List Entry) (t : IsToldByPass Contents (on_words trio) base (f, Spent) since seen seen') → LAST_COUNT ≤ t.count + length seen'
spent_last base f since seen seen' t =
    let step = on_words trio in
    let h : List Entry = history_of step base.order t.start t.count t.earlier in
    let s : State = after step base.order t.start t.count h in
    let full = pass_full step base.order t.pass.fate s (t.count + length h) t.pass.found t.calls t.at f t.told in
    let whole : history_of step base.order t.start t.count (t.earlier ++ t.pass ∷ []) ≡ h ++ batch step base.order s (t.count + length h) t.pass.found =
    history_more step base.order t.start t.count t.earlier t.pass ∙ ap (λ (x : Fate). h ++ published x (batch step base.order s (t.count + length h) t.pass.found)) full.0 in
    let long : length (history_of step base.order t.start t.count (t.earlier ++ t.pass ∷ [])) ≤ length seen' = subst (λ (xs : List Entry). length (history_of step base.order t.start t.count (t.earlier ++ t.pass ∷ [])) ≤ length xs) (sym t.seen_is) (not_shorter seen (history_of step base.order t.start t.count (t.earlier ++ t.pass ∷ []))) in
    omega (arith, full.1, ap length whole, long, length-append h (batch step base.order s (t.count + length h) t.pass.found))

module _ (one_contents : (order : ℕ) (words : List ℕ) (s t : State) (j k : ℕ) → Contents order words s j → Contents order words t k → (s ≡ t) × (j ≡ k)) where
  -- what became of an update
  pub outcome_is : (table : TableId) (base : Base) (p q : Caller) (call : Call) (told : Updated Reply) (s : State) (k : ℕ) → IsAlone table base p → IsAlone table base q → Contents base.order base.image s k
      → q.view.outcomes ≡ p.view.outcomes ++ (found_at (length p.view.outcomes) call, as_words trio told) ∷ []
      → IsToldByPass Contents (on_words trio) base (found_at (length p.view.outcomes) call, as_words trio told) (length p.view.seen) p.view.seen q.view.seen
      → ((reply : Reply) (place : ℕ) → told ≡ Done reply place → IsLegal (on_words trio) base.order s k q.view.seen)
      → IsOutcome base.order s k call p.view told q.view
  outcome_is table base p q call told s k alone alone' held tried is_told legal = by told tried is_told legal
    where
      before : enumerate_from k p.view.seen ≡ done_in p.view.outcomes
      before = seen_is_done table base p s k alone held

      since : (u : Updated Reply) → q.view.outcomes ≡ p.view.outcomes ++ (found_at (length p.view.outcomes) call, as_words trio u) ∷ [] → enumerate_from k q.view.seen ≡ enumerate_from k p.view.seen ++ done_in ((found_at (length p.view.outcomes) call, as_words trio u) ∷ [])
      since u tried = seen_is_done table base q s k alone' held ∙ ap done_in tried ∙ done_in_append p.view.outcomes ((found_at (length p.view.outcomes) call, as_words trio u) ∷ []) ∙ ap (λ xs. xs ++ done_in ((found_at (length p.view.outcomes) call, as_words trio u) ∷ [])) (sym before)

      still : enumerate_from k q.view.seen ≡ enumerate_from k p.view.seen ++ [] → q.view.seen ≡ p.view.seen
      still same = same_seen k q.view.seen p.view.seen (same ∙ append-nil (enumerate_from k p.view.seen))

      by : (u : Updated Reply) → q.view.outcomes ≡ p.view.outcomes ++ (found_at (length p.view.outcomes) call, as_words trio u) ∷ []
          → IsToldByPass Contents (on_words trio) base (found_at (length p.view.outcomes) call, as_words trio u) (length p.view.seen) p.view.seen q.view.seen
          → ((reply : Reply) (place : ℕ) → u ≡ Done reply place → IsLegal (on_words trio) base.order s k q.view.seen) → IsOutcome base.order s k call p.view u q.view
      by (Done reply place) tried is_told legal =
          let last = last_seen k q.view.seen p.view.seen place (entry_at (length p.view.outcomes) call reply) (since (Done reply place) tried) in
          let entry = is_told.entry (reply_words reply) place refl in
          (last.1, entry.2, last.0, legal reply place refl)
      by Spent tried is_told legal =
          let same : q.view.seen ≡ p.view.seen = still (since Spent tried) in
          let count : is_told.count ≡ k = (one_contents base.order base.image is_told.start s is_told.count k is_told.opening held).1 in
          (same, omega (arith, spent_last base (found_at (length p.view.outcomes) call) (length p.view.seen) p.view.seen q.view.seen is_told, count, ap length same))
      by Failed tried is_told legal = still (since Failed tried)
      by Doubt tried is_told legal = still (since Doubt tried)
