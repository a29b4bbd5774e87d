-- What the loads of turns and of argument words keep of the calls.
use Rattle.std.proofs.Common.{◌≡◌, ℕ, ◌+◌, ◌*◌, ◌/◌, ◌%◌, ◌<◌, ◌≤◌, List, [], ◌∷◌, ◌++◌, map, take, length, get_or, sym, refl, ap, ◌∙◌, subst, ⊎_elim, arith, Bool, true, false, cond, eqb, ne_eqb, length-take}
use mathlib.Core.Logic.{dite}
use mathlib.Core.Option.{some, some-injective, some-ne-none}
use native.Mathlib.Decide.{ℕ_discrete}
use lib.ListN.{get_elem?}
use Rattle.atomic_table.proofs.Lists.{at_map, at_snoc}
use Rattle.rom_model.specs.Seen.{StartsWith}
use Rattle.rom_rule.specs.CallKinds.{alter, loading}
use Rattle.rom_rule.specs.Calls.{Announced, AreFound, AreScanned, IsOpen, Open, SlotHolds, caller_in, owing, packed, slot_word_at, told_to_caller}
use Rattle.rom_rule.specs.Views.{CallerCalls, Each, PlanCalls}
use Rattle.rom_rule.specs.declared.views.Request.{Request}
use Rattle.rom_rule.proofs.Told.{starts_at, starts_take, starts_more, map_append, scanned_more, scanned_up, scanned_one, owed_none}
use Rattle.rom_rule.proofs.Altered.{at_or, callers_altered, each_altered, or_at, owed_kept, owing_kept}

module _ (P : List ℕ → Type 0) (callers count : ℕ) (slots : List ℕ) (sp : PlanCalls) where
  module _ (all_calls : List CallerCalls) (r : Announced P callers slots count sp all_calls) where
    -- a step of the writer's that requests calls and changes no slot
    requests_step : (fs : List Request) (last : ℕ) (made : Bool) → AreFound callers slots r.calls r.given (record sp { requests = fs; scanned = last; made = made }) → ((c : ℕ) → owing made c fs ≡ owing sp.made c sp.requests)
        → Announced P callers slots count (record sp { requests = fs; scanned = last; made = made }) all_calls
    requests_step fs last made found same = record {
      calls = r.calls;
      given = r.given;
      closed = r.closed;
      fresh = r.fresh;
      each = λ c pos low. subst (λ (n : ℕ). SlotHolds P slots c (r.calls c) (r.given c) n (told_to_caller sp.told c)) (sym (same c)) (r.each c pos low);
      views = λ y t e. let k = r.views y t e in record { live = k.live; joined = k.joined; mine = k.mine; outcomes = k.outcomes; taken_le = k.taken_le; laid_there = k.laid_there; laid_few = k.laid_few; since_le = k.since_le; since = k.since };
      requests = found;
      known = r.known;
    }

    -- none is owed, where all are answered
    no_owing : Each (λ _ f. f.answered ≡ true) sp.requests → (t : Bool) (c : ℕ) → 0 ≡ owing t c sp.requests
    no_owing all true c = sym (owed_none c sp.requests (λ j f e _. all j f e))
    no_owing all false c = refl

    -- a pass begins
    pub begins : Each (λ _ f. f.answered ≡ true) sp.requests → Announced P callers slots count (record sp { requests = []; scanned = 0; made = false }) all_calls
    begins all = requests_step [] 0 false record { all_open = λ j f e. absurd (some-ne-none f (sym e)); scanned = omega arith; unmade = λ _ j f e. absurd (some-ne-none f (sym e)) } (no_owing all sp.made)

    abbrev pub new_request : ℕ → ℕ → Request
    new_request c turn = record { caller = c; seq = turn / 2; words = []; laid = []; place = []; answered = false }

    two : (n k : ℕ) → n ≡ 2 * k + 1 → n / 2 ≡ k
    two n k e = omega arith

    -- the next turn is loaded
    pub scans : (c turn : ℕ) → sp.made ≡ false → c ≡ sp.scanned + 1 → c ≤ callers → turn ≡ slot_word_at slots c 0 → Announced P callers slots count (record sp { requests = cond (eqb (turn % 2) 1) (sp.requests ++ new_request c turn ∷ []) sp.requests; scanned = c }) all_calls
    scans c turn unmade next low is = subst (λ (t : Bool). Announced P callers slots count (record sp { requests = cond (eqb (turn % 2) 1) (sp.requests ++ new_request c turn ∷ []) sp.requests; scanned = c; made = t }) all_calls) (sym unmade)
        (requests_step (cond (eqb (turn % 2) 1) (sp.requests ++ new_request c turn ∷ []) sp.requests) c false (found (eqb (turn % 2) 1) refl) (λ d. ap (λ (t : Bool). owing t d sp.requests) (sym unmade)))
      where
        found : (t : Bool) → eqb (turn % 2) 1 ≡ t → AreFound callers slots r.calls r.given (record sp { requests = cond t (sp.requests ++ new_request c turn ∷ []) sp.requests; scanned = c; made = false })
        found false e = record { all_open = r.requests.all_open; scanned = scanned_up 0 sp.scanned c (map caller_in sp.requests) r.requests.scanned (omega arith); unmade = λ _. r.requests.unmade unmade }
        found true e = let t = r.each c (omega arith) low in let t₀ = t.given_le in let t₁ = t.one_open in let t₂ = t.turn in let odd : turn % 2 ≡ 1 = dite (ℕ_discrete (turn % 2) 1) (λ z. z) (λ ne. let f = ne_eqb (turn % 2) 1 ne in cc) in record {
          all_open = λ j f at. ⊎_elim (λ (z : get_elem? sp.requests j ≡ some f). r.requests.all_open j f z)
              (λ (z : new_request c turn ≡ f). subst (Open callers slots r.calls r.given) z (
                omega arith,
                low,
                λ _. record {
                  posted = omega arith;
                  seq = two turn (r.given c) (omega arith);
                  loaded = (packed (get_or (r.calls c) (r.given c) []), refl);
                  placed = λ k lt. absurd (omega arith);
                  place_few = omega arith;
                  laid = λ k lt. absurd (omega arith);
                  laid_few = omega arith;
                },
              ))
              (at_snoc sp.requests (new_request c turn) f j at);
          scanned = subst (AreScanned 0 c) (sym (map_append caller_in sp.requests (new_request c turn ∷ []))) (scanned_more 0 sp.scanned c (map caller_in sp.requests) r.requests.scanned (omega arith));
          unmade = λ _ j f at. ⊎_elim (λ (z : get_elem? sp.requests j ≡ some f). r.requests.unmade unmade j f z) (λ (z : new_request c turn ≡ f). ap (λ (y : Request). y.answered) (sym z)) (at_snoc sp.requests (new_request c turn) f j at);
        }

    -- two found calls of one caller are one
    pub one_request : (q p : ℕ) (f g : Request) → get_elem? sp.requests q ≡ some f → get_elem? sp.requests p ≡ some g → f.caller ≡ g.caller → f ≡ g
    one_request q p f g at at' same = let e = scanned_one 0 sp.scanned (map caller_in sp.requests) q p g.caller r.requests.scanned (at_map caller_in sp.requests q f at ∙ ap some same) (at_map caller_in sp.requests p g at') in
        some-injective f g (sym at ∙ (ap (get_elem? sp.requests) e ∙ at'))

    -- what stands in the slot of a caller whose call was found and isn't answered
    pub open_at : (q : ℕ) (f : Request) → get_elem? sp.requests q ≡ some f → f.answered ≡ false → (0 < f.caller) × (f.caller ≤ callers) × IsOpen slots (r.calls f.caller) (r.given f.caller) f
    open_at q f at pending = let o = r.requests.all_open q f at in (o.0, o.1, o.2 pending)

    -- the words of a found call
    pub heard_at : (q j : ℕ) (f : Request) → get_elem? sp.requests q ≡ some f → f.answered ≡ false → j ≤ length f.words → (0 < j → j ≤ get_or f.words 0 0)
        → (slot_word_at slots f.caller (1 + j) ≡ get_or (packed (get_or (r.calls f.caller) (r.given f.caller) [])) j 0) × (j < length (packed (get_or (r.calls f.caller) (r.given f.caller) [])))
    heard_at q j f at pending le next = let c : ℕ = f.caller in let call : List ℕ = get_or (r.calls c) (r.given c) [] in let o = open_at q f at pending in let open_now = o.2 in let t = r.each c o.0 o.1 in
        let lt : j < length (packed call) = dite (ℕ_discrete j 0) (λ e. omega arith) (λ ne. let n = next (omega arith) in
        let first : get_or (packed call) 0 0 ≡ get_or f.words 0 0 = or_at (packed call) 0 (get_or f.words 0 0) 0 (starts_at (packed call) f.words 0 (get_or f.words 0 0) open_now.loaded (at_or f.words 0 0 (omega arith))) in omega arith) in
        (t.posted open_now.posted j lt, lt)

    -- with the next word
    pub heard_more : (q j : ℕ) (f : Request) (x : ℕ) → get_elem? sp.requests q ≡ some f → f.answered ≡ false → j ≤ length f.words → (0 < j → j ≤ get_or f.words 0 0) → x ≡ slot_word_at slots f.caller (1 + j)
        → StartsWith (packed (get_or (r.calls f.caller) (r.given f.caller) [])) (take j f.words ++ x ∷ [])
    heard_more q j f x at pending le next is = let c : ℕ = f.caller in let call : List ℕ = get_or (r.calls c) (r.given c) [] in let here = heard_at q j f at pending le next in let o = (open_at q f at pending).2 in let cut : length (take j f.words) ≡ j = omega (arith, length-take j f.words) in
        starts_more (packed call) (take j f.words) x (starts_take (packed call) f.words j o.loaded) (ap (get_elem? (packed call)) cut ∙ (at_or (packed call) j 0 here.1 ∙ ap some (sym (is ∙ here.0))))

    -- a word of a request's call is loaded
    pub hears : (q j : ℕ) (f : Request) (x : ℕ) → get_elem? sp.requests q ≡ some f → f.answered ≡ false → j ≤ length f.words → (0 < j → j ≤ get_or f.words 0 0) → x ≡ slot_word_at slots f.caller (1 + j)
        → Announced P callers slots count (record sp { requests = map (alter f.caller (loading j x)) sp.requests }) all_calls
    hears q j f x at pending le next is = let c : ℕ = f.caller in let o = (open_at q f at pending).2 in let more = heard_more q j f x at pending le next is in
        requests_step (map (alter c (loading j x)) sp.requests) sp.scanned sp.made
        record {
          all_open = each_altered c (loading j x) (Open callers slots r.calls r.given) sp.requests
              (λ p g at' same. let old = r.requests.all_open p g at' in let e : f ≡ g = one_request q p f g at at' (sym same) in
              subst (λ (y : Request). Open callers slots r.calls r.given (loading j x y)) e ((open_at q f at pending).0, (open_at q f at pending).1, λ n. record { posted = o.posted; seq = o.seq; loaded = more; placed = o.placed; place_few = o.place_few; laid = o.laid; laid_few = o.laid_few }))
              (λ p g at' ne. r.requests.all_open p g at');
          scanned = subst (AreScanned 0 sp.scanned) (sym (callers_altered c (loading j x) sp.requests (λ _. refl))) r.requests.scanned;
          unmade = λ m. each_altered c (loading j x) (λ g. g.answered ≡ false) sp.requests (λ p g at' _. r.requests.unmade m p g at') (λ p g at' _. r.requests.unmade m p g at');
        }
        (λ d. owing_kept sp.made d (map (alter c (loading j x)) sp.requests) sp.requests (owed_kept c (loading j x) d sp.requests (λ _. refl)))
