-- Passes and rooms that become jobs, and jobs that become passes and results again.
use Rattle.std.proofs.Common.{◌≡◌, ℕ, ◌+◌, ◌-◌, ◌<◌, List, [], map, length, sym, ap, ◌∙◌, subst, arith, option_map, get_or}
use Rattle.std.specs.Prelude.{slice_get, unwrap_or}
use Rattle.std.proofs.lemmas.Option.{slice_get-map, slice_get-get_or}
use Rattle.atomic_table.specs.Seated.{TableId}
use Rattle.rom_model.specs.declared.line.Step.{Step}
use Rattle.rom_model.specs.declared.line.LineResult.{LineResult}
use Rattle.rom_model.specs.Machine.{Machine}
use Rattle.rom_lines.specs.Replies.{HasRoomFor, Reserved}
use Rattle.rom_rule.specs.Views.{fresh_view}
use Rattle.rom_rule.specs.declared.views.Base.{Base}
use Rattle.rom_store.specs.Callers.{Caller, IsNewCaller, IsNumberedCaller}
use Rattle.rom_store.specs.Closing.{kept_in}
use Rattle.rom_store.specs.Working.{HasSeenNothing, HasReservedRoom, IsNext, IsPast, HasDoneLines, script_of}

first_of : (base : Base) (i : ℕ) (pass : Caller) → pass.view ≡ record (fresh_view base) { number = i + 1 } → HasSeenNothing (kept_in pass)
first_of base i pass bare = record { seen = ap (λ v. v.seen) bare; fronts = ap (λ v. v.fronts) bare; told = ap (λ v. v.outcomes) bare }

module _ {S : Type 0} (Contents : ℕ → List ℕ → S → ℕ → Type 0) (table : TableId) (base : Base) where
  pub next_job : {C Q T : Type 0} (call_words : C → List ℕ) (scripts : List (List (Step C Q))) (i k j : ℕ) (pass : Caller) (results : Reserved T) →
      IsNewCaller Contents table base i pass → HasReservedRoom call_words scripts k results → k ≡ i → i + 1 + j ≡ length scripts → IsNext Contents call_words table base scripts j pass results
  next_job call_words scripts i k j pass results new is same place =
      let number = new.numbered.number in
      let at : k + 1 ≡ pass.view.number = ap (λ n. n + 1) same ∙ sym number in
      record {
        ready = record {
          of = new.numbered.of;
          from_one = omega arith;
          known = omega arith;
          first = first_of base i pass new.bare;
          alone = ap (λ v. v.joined) new.bare;
          none = is.none;
          fits = subst (λ n. HasRoomFor call_words (script_of scripts n) results) at is.fits;
        };
        place = omega arith;
      }

  module _ {C Q R A : Type 0} (m : Machine S C Q R A) (scripts : List (List (Step C Q))) (i j : ℕ) (pass : Caller) (results : List (LineResult R A)) where
    pub past_number : IsPast m Contents base table scripts j pass results → j + i + 1 ≡ length scripts → IsNumberedCaller Contents table base i pass
    past_number past place = let here = past.place in record { of = past.of; number = omega arith }

    pub past_done : IsPast m Contents base table scripts j pass results → j + i + 1 ≡ length scripts → HasDoneLines m Contents base pass (script_of scripts (i + 1)) results
    past_done past place =
        let here = past.place in let number : pass.view.number ≡ i + 1 = omega arith in
        subst (λ n. HasDoneLines m Contents base pass (script_of scripts n) results) number past.done

-- the script of a caller, where it stands
pub script_is : {V X : Type 0} (f : V → List X) (scripts : List V) (number i : ℕ) (d : V) → i ≡ number - 1 → i < length scripts → script_of (map f scripts) number ≡ f (get_or scripts i d)
script_is f scripts number i d place lt =
    ap (λ z. unwrap_or (slice_get (map f scripts) z) []) (sym place)
    ∙ ap (λ o. unwrap_or o []) (slice_get-map f scripts i ∙ ap (option_map f) (slice_get-get_or scripts i d lt))

-- and where its place is told by the number of those before it
pub script_here : {V X : Type 0} (f : V → List X) (scripts : List V) (n i : ℕ) (v : V) → n ≡ i → i < length scripts → v ≡ get_or scripts i v → script_of (map f scripts) (n + 1) ≡ f v
script_here f scripts n i v here lt is = script_is f scripts (n + 1) i v (let back : i ≡ n + 1 - 1 = omega arith in back) lt ∙ ap f (sym is)
