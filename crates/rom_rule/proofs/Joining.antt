-- What new, joined and spent views keep of the calls.
use Rattle.rom_model.specs.declared.kept.Kept.{Kept}
use Rattle.std.proofs.Common.{◌≡◌, ◌≢◌, ℕ, ◌+◌, ◌<◌, ◌≤◌, List, [], ◌∷◌, ◌++◌, map, length, set, sym, refl, ap, ◌∙◌, subst, ⊎_elim, arith, Bool, true, append-nil, length-append}
use Rattle.std.specs.List.{AllByRecursion}
use mathlib.Core.Logic.{dite}
use mathlib.Core.Option.{some}
use native.Mathlib.Decide.{ℕ_discrete}
use lib.ListN.{get_elem?}
use Rattle.atomic_table.proofs.Lists.{at_map, at_snoc}
use Rattle.rom_rule.specs.Calls.{Announced, IsClosedCaller, KnowsCalls, owing, told_to_caller}
use Rattle.rom_rule.specs.Readers.{Differ}
use Rattle.rom_rule.specs.Views.{CallerCalls, PlanCalls, Told, calls_in, number_in}
use Rattle.rom_rule.specs.declared.views.View.{View}
use Rattle.rom_rule.proofs.Frames.{each_set, each_set_at, unseen}
use Rattle.rom_rule.proofs.Slots.{put, put_here, put_else}
use Rattle.rom_rule.proofs.Told.{at_low, all_append, all_map}
use Rattle.rom_rule.proofs.Posting.{answers_le, number_at}

module _ (P : List ℕ → Type 0) (callers count : ℕ) (slots : List ℕ) (sp : PlanCalls) where
  module _ (all_calls : List CallerCalls) (r : Announced P callers slots count sp all_calls) where
    -- a seat's view is added
    joins : (t : CallerCalls) → KnowsCalls callers slots count r.calls r.given r.closed sp t → Announced P callers slots count sp (all_calls ++ t ∷ [])
    joins t knows = record {
      calls = r.calls;
      given = r.given;
      closed = r.closed;
      fresh = r.fresh;
      each = r.each;
      views = λ j u e. ⊎_elim (λ (z : get_elem? all_calls j ≡ some u). r.views j u z) (λ (z : t ≡ u). subst (KnowsCalls callers slots count r.calls r.given r.closed sp) z knows) (at_snoc all_calls t u j e);
      requests = r.requests;
      known = r.known;
    }

    -- a view without a number and without words knows of no calls
    unnumbered : (t : CallerCalls) → t.number ≡ 0 → t.laid ≡ [] → t.since ≡ 0 → t.joined ≡ [] → KnowsCalls callers slots count r.calls r.given r.closed sp t
    unnumbered t zero_is bare since none_kept = let l = ap length bare in record {
      live = λ h. absurd (omega arith);
      joined = subst (AllByRecursion (IsClosedCaller callers r.calls r.closed sp.told)) (sym none_kept) tt;
      mine = λ h. absurd (omega arith);
      outcomes = λ h. absurd (omega arith);
      taken_le = λ h. absurd (omega arith);
      laid_there = λ h. absurd (omega arith);
      laid_few = omega arith;
      since_le = omega arith;
      since = λ y h. absurd (omega arith);
    }

    pub notes : (t : CallerCalls) → t.number ≡ 0 → t.laid ≡ [] → t.since ≡ 0 → t.joined ≡ [] → Announced P callers slots count sp (all_calls ++ t ∷ [])
    notes t zero_is bare since none_kept = joins t (unnumbered t zero_is bare since none_kept)

    -- the next number is given to a new view
    pub deals : (t : CallerCalls) → t ≡ record { number = sp.dealt + 1; calls = []; outcomes = []; laid = []; since = 0; joined = [] } → sp.dealt < callers → Announced P callers slots count (record sp { dealt = sp.dealt + 1 }) (all_calls ++ t ∷ [])
    unfolding joins
    deals t is low = let c : ℕ = sp.dealt + 1 in let f = r.fresh c (omega arith) in let none_posted = ap length f.0 in let u = r.each c (omega arith) (omega arith) in let le = answers_le P callers count slots sp c (r.calls c) (r.given c) (owing sp.made c sp.requests) (told_to_caller sp.told c) u in
        let all = joins t (subst (KnowsCalls callers slots count r.calls r.given r.closed sp) (sym is) record {
          live = λ _. f.2;
          joined = tt;
          mine = λ _. sym f.0;
          outcomes = λ _. (told_to_caller sp.told c, refl);
          taken_le = λ _. omega arith;
          laid_there = λ _ i lt. absurd (omega arith);
          laid_few = omega arith;
          since_le = omega arith;
          since = λ y _ at. let lt = at_low (told_to_caller sp.told c) 0 y at in absurd (omega arith);
        }) in record {
          calls = r.calls;
          given = r.given;
          closed = r.closed;
          fresh = λ d past. r.fresh d (omega arith);
          each = r.each;
          views = λ j y e. let k = all.views j y e in record { live = k.live; joined = k.joined; mine = k.mine; outcomes = k.outcomes; taken_le = k.taken_le; laid_there = k.laid_there; laid_few = k.laid_few; since_le = k.since_le; since = k.since };
          requests = record { all_open = r.requests.all_open; scanned = r.requests.scanned; unmade = r.requests.unmade };
          known = r.known;
        }

  module _ (views : List View) (r : Announced P callers slots count sp (map calls_in views)) where
    -- a step of a view that changes no slot
    pub calls_only : (id : ℕ) (w : View) → KnowsCalls callers slots count r.calls r.given r.closed sp (calls_in w) → Announced P callers slots count sp (map calls_in (set views id w))
    calls_only id w knows = record {
      calls = r.calls;
      given = r.given;
      closed = r.closed;
      fresh = r.fresh;
      each = r.each;
      views = each_set (λ _. KnowsCalls callers slots count r.calls r.given r.closed sp) (λ _. KnowsCalls callers slots count r.calls r.given r.closed sp) calls_in views id w (λ _ _ _ h. h) knows r.views;
      requests = r.requests;
      known = r.known;
    }

    -- a view is joined into another and spent
    pub merges : (id other : ℕ) (v w v' w' : View) → get_elem? views id ≡ some v → get_elem? views other ≡ some w → other ≢ id → Differ (map number_in views) → w.number ≤ callers → w.number ≤ sp.dealt → length w.calls ≡ length w.outcomes
        → calls_in v' ≡ record (calls_in v) { joined = v.joined ++ record { number = w.number; seen = w.seen; moments = w.moments; fronts = w.fronts; told = w.outcomes } ∷ w.joined }
        → calls_in w' ≡ record { number = 0; calls = []; outcomes = []; laid = []; since = 0; joined = [] } → Announced P callers slots count sp (map calls_in (set (set views id v') other w'))
    merges id other v w v' w' at there apart differ low dealt none_open is is' = let kv = r.views id (calls_in v) (at_map calls_in views id v at) in let kw = r.views other (calls_in w) (at_map calls_in views other w there) in let closed' : ℕ → Bool = put r.closed w.number true in
        let still : (k : Kept) → IsClosedCaller callers r.calls r.closed sp.told k → IsClosedCaller callers r.calls closed' sp.told k = λ k h pos. let g = h pos in (g.0, dite (ℕ_discrete k.number w.number) (λ e. ap closed' e ∙ put_here r.closed w.number true) (λ ne. put_else r.closed w.number true k.number ne ∙ g.1), g.2, g.3) in
        let still_all : (ks : List Kept) → AllByRecursion (IsClosedCaller callers r.calls r.closed sp.told) ks → AllByRecursion (IsClosedCaller callers r.calls closed' sp.told) ks = λ ks h. all_map (IsClosedCaller callers r.calls r.closed sp.told) (IsClosedCaller callers r.calls closed' sp.told) ks still h in
        let others : (t : CallerCalls) → (0 < t.number → t.number ≢ w.number) → AllByRecursion (IsClosedCaller callers r.calls closed' sp.told) t.joined → KnowsCalls callers slots count r.calls r.given r.closed sp (record t { joined = [] }) → KnowsCalls callers slots count r.calls r.given closed' sp t
        = (λ t ne kept k. record { live = λ pos. put_else r.closed w.number true t.number (ne pos) ∙ k.live pos; joined = kept; mine = k.mine; outcomes = k.outcomes; taken_le = k.taken_le; laid_there = k.laid_there; laid_few = k.laid_few; since_le = k.since_le; since = k.since }) in
        let bare : (t : CallerCalls) → KnowsCalls callers slots count r.calls r.given r.closed sp t → KnowsCalls callers slots count r.calls r.given r.closed sp (record t { joined = [] })
        = (λ t k. record { live = k.live; joined = tt; mine = k.mine; outcomes = k.outcomes; taken_le = k.taken_le; laid_there = k.laid_there; laid_few = k.laid_few; since_le = k.since_le; since = k.since }) in record {
          calls = r.calls;
          given = r.given;
          closed = closed';
          fresh = λ c past. let f = r.fresh c past in (
            f.0,
            f.1,
            dite (ℕ_discrete c w.number)
                (λ e. absurd (omega arith))
                (λ ne. put_else r.closed w.number true c ne ∙ f.2),
          );
          each = r.each;
          views = each_set_at (λ j t. j ≢ other → KnowsCalls callers slots count r.calls r.given closed' sp t) (λ _. KnowsCalls callers slots count r.calls r.given closed' sp) calls_in (set views id v') other w'
              (λ j t ne e h. h ne)
              (subst (KnowsCalls callers slots count r.calls r.given closed' sp) (sym is') record {
                live = λ z. absurd (omega arith);
                joined = tt;
                mine = λ z. absurd (omega arith);
                outcomes = λ z. absurd (omega arith);
                taken_le = λ z. absurd (omega arith);
                laid_there = λ z. absurd (omega arith);
                laid_few = omega arith;
                since_le = omega arith;
                since = λ y z. absurd (omega arith);
              })
              (each_set_at (λ _. KnowsCalls callers slots count r.calls r.given r.closed sp) (λ j t. j ≢ other → KnowsCalls callers slots count r.calls r.given closed' sp t) calls_in views id v'
              (λ j t ne e k ne'. others t (λ pos same. ne' (differ j other t.number (number_at P callers count slots sp views r views j t e) (at_map number_in views other w there ∙ ap some (sym same)) pos)) (still_all t.joined k.joined) (bare t k))
              (λ _. subst (KnowsCalls callers slots count r.calls r.given closed' sp) (sym is) (others _ (λ pos same. apart (differ other id w.number (at_map number_in views other w there) (at_map number_in views id v at ∙ ap some same) (omega arith)))
              (all_append (IsClosedCaller callers r.calls closed' sp.told) v.joined _ (still_all v.joined kv.joined) ((λ pos. (low, put_here r.closed w.number true, sym (ap length (kw.mine pos)) ∙ none_open, kw.outcomes pos)), still_all w.joined kw.joined)) (bare (calls_in v) kv)))
              r.views);
          requests = r.requests;
          known = r.known;
        }

    pub same_calls : (id : ℕ) (v w : View) → get_elem? views id ≡ some v → calls_in w ≡ calls_in v → Announced P callers slots count sp (map calls_in (set views id w))
    same_calls id v w at same = subst (λ (l : List CallerCalls). Announced P callers slots count sp l) (sym (unseen calls_in views id v w at same)) r

    -- a caller whose view was joined was told what the records told it
    pub told_whole : (k : Kept) → IsClosedCaller callers r.calls r.closed sp.told k → 0 < k.number → told_to_caller sp.told k.number ≡ k.told
    told_whole k h pos = let g = h pos in let c : ℕ = k.number in let t = r.each c pos g.0 in let le = answers_le P callers count slots sp c (r.calls c) (r.given c) (owing sp.made c sp.requests) (told_to_caller sp.told c) t in let all = g.2 in
        let rest = g.3 in rest.1 ∙ (ap (λ (l : List Told). k.told ++ l) (empty rest.0 (omega (arith, ap length rest.1, length-append k.told rest.0))) ∙ append-nil k.told)
      where
        empty : (l : List Told) → length l ≡ 0 → l ≡ []
        empty [] e = refl
        empty (x ∷ l) e = absurd (omega arith)

    pub all_told_whole : (id : ℕ) (v : View) → get_elem? views id ≡ some v → AllByRecursion (λ k. 0 < k.number → told_to_caller sp.told k.number ≡ k.told) v.joined
    all_told_whole id v at = all_map (IsClosedCaller callers r.calls r.closed sp.told) (λ k. 0 < k.number → told_to_caller sp.told k.number ≡ k.told) v.joined told_whole (r.views id (calls_in v) (at_map calls_in views id v at)).joined
