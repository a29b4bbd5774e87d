-- What the stores of an answer keep of the calls.
use Rattle.std.proofs.Common.{◌≡◌, ◌≢◌, ℕ, zero, suc, ◌+◌, ◌*◌, ◌<◌, ◌≤◌, ◌⊎◌, List, [], ◌∷◌, map, take, length, get_or, sym, refl, ap, ◌∙◌, subst, inl, inr, ⊎_elim, arith, Bool, true, false, length-append, length-take, get_or-take}
use mathlib.Core.Logic.{dite}
use mathlib.Core.Option.{some, some-injective}
use native.Mathlib.Decide.{ℕ_discrete}
use lib.ListN.{get_elem?}
use Rattle.rom_rule.specs.CallKinds.{alter, answering, laying, placing}
use Rattle.rom_rule.specs.Calls.{Announced, AreFound, AreScanned, IsOpen, Lies, Open, SlotHolds, answer_words, owing, packed, slot_word_at, told_to_caller}
use Rattle.rom_rule.specs.Views.{CallerCalls, PlanCalls, Told}
use Rattle.rom_rule.specs.declared.views.Request.{Request}
use Rattle.rom_rule.proofs.Slots.{put, put_here, put_else, lies_more, changed, slot_word_here, slot_word_else, lies_else, slot_holds_else, open_else}
use Rattle.rom_rule.proofs.Told.{at_low, owed_none}
use Rattle.rom_rule.proofs.Altered.{callers_altered, each_altered, owed_kept, owed_other, owing_kept}
use Rattle.rom_rule.proofs.Posting.{answers_le}
use Rattle.rom_rule.proofs.Scanning.{one_request, open_at}

module _ (P : List ℕ → Type 0) (callers count : ℕ) (slots : List ℕ) (sp : PlanCalls) where
  module _ (all_calls : List CallerCalls) (r : Announced P callers slots count sp all_calls) where
    -- a step of the writer's on the word j of a slot: word 0, or one of an answer
    answer_step : (c j x n : ℕ) (fs : List Request) → 0 < c → c ≤ callers → (j ≡ 0) ⊎ ((42 ≤ j) × (j < 64)) → r.given c ≤ n → 0 < length (r.calls c)
        → SlotHolds P (changed slots c j x) c (r.calls c) n (owing sp.made c fs) (told_to_caller sp.told c) → ((d : ℕ) → d ≢ c → owing sp.made d fs ≡ owing sp.made d sp.requests)
        → AreFound callers (changed slots c j x) r.calls (put r.given c n) (record sp { requests = fs }) → Announced P callers (changed slots c j x) count (record sp { requests = fs }) all_calls
    answer_step c j x n fs pos low where_ le some_call holds_c same found = let new : List ℕ = changed slots c j x in let given' : ℕ → ℕ = put r.given c n in let lj : j < 64 = ⊎_elim (λ (e : j ≡ 0). omega arith) (λ (e : (42 ≤ j) × (j < 64)). e.1) where_ in record {
      calls = r.calls;
      given = given';
      closed = r.closed;
      fresh = λ d past. let f = r.fresh d past in let ne : d ≢ c = (λ e. let none_posted = ap length f.0 in let lc = ap (λ (k : ℕ). length (r.calls k)) e in omega arith) in (f.0, put_else r.given c n d ne ∙ f.1, f.2);
      each = λ d pd ld. dite (ℕ_discrete d c)
          (λ e. subst (λ (y : ℕ). SlotHolds P new y (r.calls y) (given' y) (owing sp.made y fs) (told_to_caller sp.told y)) (sym e) (subst (λ (y : ℕ). SlotHolds P new c (r.calls c) y (owing sp.made c fs) (told_to_caller sp.told c)) (sym (put_here r.given c n)) holds_c))
          (λ ne. subst (λ (y : ℕ × ℕ). SlotHolds P new d (r.calls d) y.0 y.1 (told_to_caller sp.told d)) (λ i. (sym (put_else r.given c n d ne) i, sym (same d ne) i)) (slot_holds_else slots c j x P d (r.calls d) (r.given d) (owing sp.made d sp.requests) (told_to_caller sp.told d) pos pd lj ne (r.each d pd ld)));
      views = λ y t e. let k = r.views y t e in record {
        live = k.live;
        joined = k.joined;
        mine = k.mine;
        outcomes = k.outcomes;
        taken_le = λ z. let a = k.taken_le z in dite (ℕ_discrete t.number c) (λ e'. let g = ap given' e' ∙ put_here r.given c n in let g' = ap r.given e' in omega arith) (λ ne. subst (λ (m : ℕ). length t.outcomes ≤ m) (sym (put_else r.given c n t.number ne)) a);
        laid_there = λ z. let few = k.laid_few in lies_else slots c j x t.number 1 t.laid pos z lj (omega arith) (λ _ i lt a. ⊎_elim (λ (e' : j ≡ 0). absurd (omega arith)) (λ (e' : (42 ≤ j) × (j < 64)). let e₀ = e'.0 in absurd (omega arith)) where_) (k.laid_there z);
        laid_few = k.laid_few;
        since_le = k.since_le;
        since = k.since;
      };
      requests = found;
      known = r.known;
    }

    -- a call that was found and isn't answered keeps its turn and its words, where a word of its answer is stored
    still_open : (c j x : ℕ) (calls : List (List ℕ)) (given owe : ℕ) (answers : List Told) → 0 < c → 42 ≤ j → j < 64 → length calls ≡ given + 1 → SlotHolds P slots c calls given owe answers → SlotHolds P (changed slots c j x) c calls given owe answers
    still_open c j x calls given owe answers pos least most open_now t = record {
      given_le = t.given_le;
      one_open = t.one_open;
      few = t.few;
      turn = slot_word_else slots c j x c 0 pos pos most (omega arith) (λ _ z. absurd (omega arith)) ∙ t.turn;
      short = t.short;
      posted = λ now. let h = (t.short given (omega arith)).0 in lies_else slots c j x c 1 (packed (get_or calls given [])) pos pos most (omega arith) (λ _ i lt z. absurd (omega arith)) (t.posted now);
      recorded = t.recorded;
      asked = t.asked;
      answered = λ i y e z here. absurd (omega arith);
    }

    -- a word of a reply is stored, or their number
    pub lays_down : (q i : ℕ) (f : Request) (x : ℕ) → get_elem? sp.requests q ≡ some f → f.answered ≡ false → i ≤ length f.laid → i < 21 → length slots ≡ 64 * callers
        → Announced P callers (changed slots f.caller (43 + i) x) count (record sp { requests = map (alter f.caller (laying i x)) sp.requests }) all_calls
    lays_down q i f x at pending le few long = let c : ℕ = f.caller in let j : ℕ = 43 + i in let o = open_at P callers count slots sp all_calls r q f at pending in let pos = o.0 in let low = o.1 in let now = o.2 in let new : List ℕ = changed slots c j x in let posted = now.posted in let place_few = now.place_few in let laid_few = now.laid_few in
        let fs : List Request = map (alter c (laying i x)) sp.requests in let same : (d : ℕ) → owing sp.made d fs ≡ owing sp.made d sp.requests = λ d. owing_kept sp.made d fs sp.requests (owed_kept c (laying i x) d sp.requests (λ _. refl)) in let here = put_here r.given c (r.given c) in
        let cut : length (take i f.laid) ≡ i = omega (arith, length-take i f.laid) in
        let before : Lies new c 43 (take i f.laid) = λ n lt. slot_word_else slots c j x c (43 + n) pos pos (omega arith) (omega arith) (λ _ z. omega arith) ∙ (now.laid n (omega arith) ∙ sym (get_or-take i f.laid n 0 (omega arith))) in
        answer_step c j x (r.given c) fs pos low (inr (omega arith, omega arith)) (omega arith) (omega arith)
        (subst (λ (n : ℕ). SlotHolds P new c (r.calls c) (r.given c) n (told_to_caller sp.told c)) (sym (same c)) (still_open c j x (r.calls c) (r.given c) (owing sp.made c sp.requests) (told_to_caller sp.told c) pos (omega arith) (omega arith) posted (r.each c pos low)))
        (λ d _. same d)
        record {
          all_open = each_altered c (laying i x) (Open callers new r.calls (put r.given c (r.given c))) sp.requests
              (λ p g at' is. let e : f ≡ g = one_request P callers count slots sp all_calls r q p f g at at' (sym is) in
              subst (λ (y : Request). Open callers new r.calls (put r.given c (r.given c)) (laying i x y)) e (
                pos,
                low,
                λ n. subst (λ (y : ℕ). IsOpen new (r.calls c) y (laying i x f)) (sym here) record {
                  posted = now.posted;
                  seq = now.seq;
                  loaded = now.loaded;
                  placed = lies_else slots c j x c 42 f.place pos pos (omega arith) (omega arith) (λ _ i lt z. absurd (omega arith)) now.placed;
                  place_few = now.place_few;
                  laid = lies_more new c 43 x (take i f.laid) before (ap (λ (n : ℕ). slot_word_at new c (43 + n)) cut ∙ slot_word_here slots c j x (omega arith));
                  laid_few = omega (arith, length-append (take i f.laid) (x ∷ []));
                },
              ))
              (λ p g at' ne. let h = r.requests.all_open p g at' in (h.0, h.1, λ n. subst (λ (y : ℕ). IsOpen new (r.calls g.caller) y g) (sym (put_else r.given c (r.given c) g.caller ne)) (open_else slots c j x (r.calls g.caller) (r.given g.caller) g pos h.0 (omega arith) ne (h.2 n))));
          scanned = subst (AreScanned 0 sp.scanned) (sym (callers_altered c (laying i x) sp.requests (λ _. refl))) r.requests.scanned;
          unmade = λ m. each_altered c (laying i x) (λ g. g.answered ≡ false) sp.requests (λ p g at' _. r.requests.unmade m p g at') (λ p g at' _. r.requests.unmade m p g at');
        }

    -- a place is stored
    pub puts_down : (q : ℕ) (f : Request) (x : ℕ) → get_elem? sp.requests q ≡ some f → f.answered ≡ false → length slots ≡ 64 * callers
        → Announced P callers (changed slots f.caller 42 x) count (record sp { requests = map (alter f.caller (placing x)) sp.requests }) all_calls
    puts_down q f x at pending long = let c : ℕ = f.caller in let o = open_at P callers count slots sp all_calls r q f at pending in let pos = o.0 in let low = o.1 in let now = o.2 in let new : List ℕ = changed slots c 42 x in let posted = now.posted in let laid_few = now.laid_few in
        let fs : List Request = map (alter c (placing x)) sp.requests in let same : (d : ℕ) → owing sp.made d fs ≡ owing sp.made d sp.requests = λ d. owing_kept sp.made d fs sp.requests (owed_kept c (placing x) d sp.requests (λ _. refl)) in let here = put_here r.given c (r.given c) in
        answer_step c 42 x (r.given c) fs pos low (inr (omega arith, omega arith)) (omega arith) (omega arith)
        (subst (λ (n : ℕ). SlotHolds P new c (r.calls c) (r.given c) n (told_to_caller sp.told c)) (sym (same c)) (still_open c 42 x (r.calls c) (r.given c) (owing sp.made c sp.requests) (told_to_caller sp.told c) pos (omega arith) (omega arith) posted (r.each c pos low)))
        (λ d _. same d)
        record {
          all_open = each_altered c (placing x) (Open callers new r.calls (put r.given c (r.given c))) sp.requests
              (λ p g at' is. let e : f ≡ g = one_request P callers count slots sp all_calls r q p f g at at' (sym is) in
              subst (λ (y : Request). Open callers new r.calls (put r.given c (r.given c)) (placing x y)) e (
                pos,
                low,
                λ n. subst (λ (y : ℕ). IsOpen new (r.calls c) y (placing x f)) (sym here) record {
                  posted = now.posted;
                  seq = now.seq;
                  loaded = now.loaded;
                  placed = lies_more new c 42 x [] (λ i lt. absurd (omega arith)) (slot_word_here slots c 42 x (omega arith));
                  place_few = omega arith;
                  laid = lies_else slots c 42 x c 43 f.laid pos pos (omega arith) (omega arith) (λ _ i lt z. absurd (omega arith)) now.laid;
                  laid_few = now.laid_few;
                },
              ))
              (λ p g at' ne. let h = r.requests.all_open p g at' in (h.0, h.1, λ n. subst (λ (y : ℕ). IsOpen new (r.calls g.caller) y g) (sym (put_else r.given c (r.given c) g.caller ne)) (open_else slots c 42 x (r.calls g.caller) (r.given g.caller) g pos h.0 (omega arith) ne (h.2 n))));
          scanned = subst (AreScanned 0 sp.scanned) (sym (callers_altered c (placing x) sp.requests (λ _. refl))) r.requests.scanned;
          unmade = λ m. each_altered c (placing x) (λ g. g.answered ≡ false) sp.requests (λ p g at' _. r.requests.unmade m p g at') (λ p g at' _. r.requests.unmade m p g at');
        }

    none_owed : (c : ℕ) (t : Bool) → owing t c (map (alter c answering) sp.requests) ≡ 0
    none_owed c true = owed_none c (map (alter c answering) sp.requests) (each_altered c answering (λ g. g.caller ≡ c → g.answered ≡ true) sp.requests (λ p g at' is _. refl) (λ p g at' ne e. absurd (ne e)))
    none_owed c false = refl

    -- the place, and the reply after it
    whole_answer : (new : List ℕ) (c p : ℕ) (place laid : List ℕ) → place ≡ p ∷ [] → Lies new c 42 place → Lies new c 43 laid → Lies new c 42 (p ∷ laid)
    whole_answer new c p place laid is there after zero lt = there 0 (let one = ap length is in omega arith) ∙ ap (λ (l : List ℕ). get_or l 0 0) is
    whole_answer new c p place laid is there after (suc i) lt = ap (slot_word_at new c) (let e : 42 + suc i ≡ 43 + i = omega arith in e) ∙ after i (omega arith)

    -- a turn is stored, even
    pub answers : (q : ℕ) (f : Request) (y : Told) (p : ℕ) → get_elem? sp.requests q ≡ some f → f.answered ≡ false → get_elem? (told_to_caller sp.told f.caller) f.seq ≡ some y → f.place ≡ p ∷ [] → p ∷ f.laid ≡ answer_words y.1 → length slots ≡ 64 * callers
        → Announced P callers (changed slots f.caller 0 (2 * f.seq + 2)) count (record sp { requests = map (alter f.caller answering) sp.requests }) all_calls
    answers q f y p at pending told placed whole long = let c : ℕ = f.caller in let x : ℕ = 2 * f.seq + 2 in let o = open_at P callers count slots sp all_calls r q f at pending in let pos = o.0 in let low = o.1 in let now = o.2 in let new : List ℕ = changed slots c 0 x in let posted = now.posted in let seq = now.seq in
        let laid_few = now.laid_few in let place_few = now.place_few in let fs : List Request = map (alter c answering) sp.requests in let given' : ℕ → ℕ = put r.given c (r.given c + 1) in let t = r.each c pos low in let le = answers_le P callers count slots sp c (r.calls c) (r.given c) (owing sp.made c sp.requests) (told_to_caller sp.told c) t in
        let there = at_low (told_to_caller sp.told c) f.seq y told in let zero_now = none_owed c sp.made in let all = ap length whole in
        let made : sp.made ≡ true = is_made sp.made refl (omega (arith, t.recorded)) in
        let stands : Lies new c 42 (answer_words y.1) = subst (Lies new c 42) whole (whole_answer new c p f.place f.laid placed (lies_else slots c 0 x c 42 f.place pos pos (omega arith) (omega arith) (λ _ i lt z. absurd (omega arith)) now.placed) (lies_else slots c 0 x c 43 f.laid pos pos (omega arith) (omega arith) (λ _ i lt z. absurd (omega arith)) now.laid)) in
        answer_step c 0 x (r.given c + 1) fs pos low (inl refl) (omega arith) (omega arith)
        record {
          given_le = omega arith;
          one_open = omega arith;
          few = t.few;
          turn = slot_word_here slots c 0 x (omega arith) ∙ omega arith;
          short = t.short;
          posted = λ z. absurd (omega arith);
          recorded = omega (arith, t.recorded);
          asked = t.asked;
          answered = λ i z e last here. let same : z ≡ y = some-injective z y (sym here ∙ (ap (get_elem? (told_to_caller sp.told c)) (let k : i ≡ f.seq = omega arith in k) ∙ told)) in
              subst (λ (u : Told). (length (answer_words u.1) ≤ 22) × Lies new c 42 (answer_words u.1)) (sym same) (omega arith, stands);
        }
        (λ d ne. owing_kept sp.made d fs sp.requests (owed_other c d sp.requests ne))
        record {
          all_open = each_altered c answering (Open callers new r.calls given') sp.requests
              (λ k g at' is. let h = r.requests.all_open k g at' in (h.0, h.1, λ n. absurd (let z : true ≡ false = n in cc)))
              (λ k g at' ne. let h = r.requests.all_open k g at' in (h.0, h.1, λ n. subst (λ (z : ℕ). IsOpen new (r.calls g.caller) z g) (sym (put_else r.given c (r.given c + 1) g.caller ne)) (open_else slots c 0 x (r.calls g.caller) (r.given g.caller) g pos h.0 (omega arith) ne (h.2 n))));
          scanned = subst (AreScanned 0 sp.scanned) (sym (callers_altered c answering sp.requests (λ _. refl))) r.requests.scanned;
          unmade = λ m. absurd (let z : true ≡ false = sym made ∙ m in cc);
        }
      where
        is_made : (t : Bool) → sp.made ≡ t → length (told_to_caller sp.told f.caller) ≢ r.given f.caller + 0 → sp.made ≡ true
        is_made true e ne = e
        is_made false e ne = let pos = (open_at P callers count slots sp all_calls r q f at pending).0 in let low = (open_at P callers count slots sp all_calls r q f at pending).1 in absurd (ne ((r.each f.caller pos low).recorded ∙ ap (λ (b : Bool). r.given f.caller + owing b f.caller sp.requests) e))
