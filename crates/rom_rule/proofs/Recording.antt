-- What the record of a pass keeps of the calls.
use Rattle.std.proofs.Common.{◌≡◌, ℕ, suc, ◌+◌, ◌<◌, ◌≤◌, List, [], ◌∷◌, ◌++◌, map, take, length, get_or, sym, refl, ap, ◌∙◌, subst, ⊎_elim, arith, Bool, true, false, append-nil, length-append}
use Rattle.std.specs.Prelude.{filter, drop, ◌==◌}
use Rattle.std.specs.List.{AllByRecursion}
use Rattle.std.proofs.lemmas.List.Elements.{filter-append}
use mathlib.Core.Option.{some, some-injective}
use lib.ListN.{get_elem?}
use Rattle.atomic_table.proofs.Lists.{at_map, at_last}
use Rattle.rom_model.specs.Seen.{StartsWith}
use Rattle.rom_model.specs.declared.entry.Entry.{Entry}
use Rattle.rom_model.specs.declared.record.Fate.{Fate}
use Rattle.rom_model.specs.declared.record.Found.{Found}
use Rattle.rom_model.specs.Passes.{fate_told}
use Rattle.rom_rule.specs.Calls.{Announced, AreScanned, IsClosedCaller, SlotHolds, caller_in, found_in, found_of, numbered, owing, packed, slot_word_at, told_to_caller}
use Rattle.rom_rule.specs.Views.{CallerCalls, Each, PlanCalls, Told}
use Rattle.rom_rule.specs.declared.views.Request.{Request}
use Rattle.rom_rule.proofs.Told.{starts_longer, starts_more, at_front, all_at, all_append, all_map, at_numbered, fate_found, IsLate, fate_late, told_found, map_append, length_map, map_map, OneOf, one_of, caller_of, one_told, owed_all, all_filter}
use Rattle.rom_rule.proofs.Altered.{at_split}
use Rattle.rom_rule.proofs.Scanning.{heard_at, heard_more, one_request, open_at}

module _ (P : List ℕ → Type 0) (callers count : ℕ) (slots : List ℕ) (sp : PlanCalls) where
  module _ (all_calls : List CallerCalls) (r : Announced P callers slots count sp all_calls) where
    -- a call that was loaded whole is the one that was posted
    whole_call : (call ws : List ℕ) → StartsWith (packed call) ws → ws ≡ packed (drop 1 ws) → drop 1 ws ≡ call
    whole_call call ws h whole = let args : List ℕ = drop 1 ws in let both : packed call ≡ packed args ++ h.0 = h.1 ∙ ap (λ (l : List ℕ). l ++ h.0) whole in
        let heads : length call ≡ length args = ap (λ (l : List ℕ). get_or l 0 0) both in let tails : call ≡ args ++ h.0 = ap (drop 1) both in
        let none_left : h.0 ≡ [] = empty h.0 (omega (arith, ap length tails, length-append args h.0)) in sym (append-nil args) ∙ (ap (λ (l : List ℕ). args ++ l) (sym none_left) ∙ sym tails)
      where
        empty : (l : List ℕ) → length l ≡ 0 → l ≡ []
        empty [] e = refl
        empty (x ∷ l) e = absurd (omega arith)

    -- the number of a call's words is small
    pub hears_few : (q j : ℕ) (f : Request) → get_elem? sp.requests q ≡ some f → f.answered ≡ false → j ≤ length f.words → (0 < j → j ≤ get_or f.words 0 0) → (j < 41) × (j ≡ 0 → slot_word_at slots f.caller (1 + j) ≤ 40)
    hears_few q j f at pending le next = let c : ℕ = f.caller in let o = open_at P callers count slots sp all_calls r q f at pending in let posted = o.2.posted in let t = r.each c o.0 o.1 in let few = (t.short (r.given c) (omega arith)).0 in let here = heard_at P callers count slots sp all_calls r q j f at pending le next in let h₀ = here.1 in
        (omega arith, λ none. let first = here.0 ∙ ap (λ (n : ℕ). get_or (packed (get_or (r.calls c) (r.given c) [])) n 0) none in omega arith)

    -- what was loaded whole is a call
    pub hears_call : (q p j : ℕ) (f g : Request) (x : ℕ) (args : List ℕ) → get_elem? sp.requests q ≡ some f → get_elem? sp.requests p ≡ some g → g.caller ≡ f.caller → f.answered ≡ false → j ≤ length f.words → (0 < j → j ≤ get_or f.words 0 0) → x ≡ slot_word_at slots f.caller (1 + j)
        → take j g.words ++ x ∷ [] ≡ packed args → P args
    hears_call q p j f g x args at at' same pending le next is whole = let c : ℕ = f.caller in let call : List ℕ = get_or (r.calls c) (r.given c) [] in let o = open_at P callers count slots sp all_calls r q f at pending in let posted = o.2.posted in
        let e : f ≡ g = one_request P callers count slots sp all_calls r q p f g at at' (sym same) in let ws : List ℕ = take j f.words ++ x ∷ [] in let ws_are : ws ≡ packed args = ap (λ (y : Request). take j y.words ++ x ∷ []) e ∙ whole in
        let args_are : drop 1 ws ≡ args = ap (drop 1) ws_are in
        subst P (sym (whole_call call ws (heard_more P callers count slots sp all_calls r q j f x at pending le next is) (ws_are ∙ ap packed (sym args_are))) ∙ args_are) ((r.each c o.0 o.1).short (r.given c) (omega arith)).1

    -- the words of found calls are those of calls
    pub calls_found : sp.made ≡ false → Each (λ _ f. f.words ≡ packed (drop 1 f.words)) sp.requests → AllByRecursion (λ (x : Found). P x.args) (map found_of sp.requests)
    calls_found unmade whole = all sp.requests (λ j f e. let h = r.requests.all_open j f e in let o = h.2 (r.requests.unmade unmade j f e) in let posted = o.posted in let t = r.each f.caller h.0 h.1 in
        subst P (sym (whole_call (get_or (r.calls f.caller) (r.given f.caller) []) f.words o.loaded (whole j f e))) (t.short (r.given f.caller) (omega arith)).1)
      where
        all : (fs : List Request) → Each (λ _ f. P (drop 1 f.words)) fs → AllByRecursion (λ (x : Found). P x.args) (map found_of fs)
        all [] h = tt
        all (f ∷ fs) h = (h 0 f refl, all fs (λ j g e. h (suc j) g e))

    -- the pass gets its record, which tells each found call
    pub makes : (fate : Fate) (k extra : ℕ) (batch : List Entry) → sp.made ≡ false → Each (λ _ f. f.words ≡ packed (drop 1 f.words)) sp.requests → k ≡ count + sp.len
        → Announced P callers slots count (record sp { made = true; told = sp.told ++ fate_told fate k (map found_of sp.requests) batch; len = sp.len + extra }) all_calls
    makes fate k extra batch unmade whole is = let new : List Told = fate_told fate k (map found_of sp.requests) batch in let found = fate_found fate k (map found_of sp.requests) batch in
        let late : (c : ℕ) → AllByRecursion (IsLate k) (told_to_caller new c) = λ c. all_filter (IsLate k) (λ y. y.0.caller == c) new (fate_late fate k (map found_of sp.requests) batch) in
        let two_parts : (c : ℕ) → told_to_caller (sp.told ++ new) c ≡ told_to_caller sp.told c ++ told_to_caller new c = λ c. filter-append (λ (y : Told). y.0.caller == c) sp.told new in
        let new_found : (c : ℕ) → map found_in (told_to_caller new c) ≡ filter (λ f. f.caller == c) (map found_of sp.requests) = λ c. told_found new c ∙ ap (λ (l : List Found). filter (λ f. f.caller == c) l) found in
        let before : (c : ℕ) → 0 < c → c ≤ callers → length (told_to_caller sp.told c) ≡ r.given c = λ c pos low. (r.each c pos low).recorded ∙ (ap (λ (b : Bool). r.given c + owing b c sp.requests) unmade ∙ (let z : r.given c + 0 ≡ r.given c = omega arith in z)) in record {
          calls = r.calls;
          given = r.given;
          closed = r.closed;
          fresh = r.fresh;
          each = λ c pos low. let t = r.each c pos low in let old = before c pos low in let parts = two_parts c in let here = new_found c in record {
            given_le = t.given_le;
            one_open = t.one_open;
            few = t.few;
            turn = t.turn;
            short = t.short;
            posted = t.posted;
            recorded = omega (arith, ap length parts, length-append (told_to_caller sp.told c) (told_to_caller new c), ap length here, length_map found_in (told_to_caller new c), owed_all c sp.requests (r.requests.unmade unmade));
            asked = subst (StartsWith (numbered c 0 (r.calls c))) (sym (ap (map found_in) parts ∙ (map_append found_in (told_to_caller sp.told c) (told_to_caller new c) ∙ ap (λ (l : List Found). map found_in (told_to_caller sp.told c) ++ l) here)))
                (⊎_elim (λ (e : filter (λ f. f.caller == c) (map found_of sp.requests) ≡ []). subst (λ (l : List Found). StartsWith (numbered c 0 (r.calls c)) (map found_in (told_to_caller sp.told c) ++ l)) (sym e) (subst (StartsWith (numbered c 0 (r.calls c))) (sym (append-nil (map found_in (told_to_caller sp.told c)))) t.asked))
                (λ (e : OneOf c sp.requests). subst (λ (l : List Found). StartsWith (numbered c 0 (r.calls c)) (map found_in (told_to_caller sp.told c) ++ l)) (sym e.4) (starts_more (numbered c 0 (r.calls c)) (map found_in (told_to_caller sp.told c)) (found_of e.1) t.asked (next c e t old)))
                (one_of c 0 sp.scanned sp.requests r.requests.scanned));
            answered = λ i y all last at. t.answered i y all last (at_front (told_to_caller sp.told c) (told_to_caller new c) i y (omega arith) (subst (λ (l : List Told). get_elem? l i ≡ some y) parts at));
          };
          views = λ y t e. let n = r.views y t e in record {
            live = n.live;
            joined = all_map (IsClosedCaller callers r.calls r.closed sp.told) (IsClosedCaller callers r.calls r.closed (sp.told ++ new)) t.joined (λ z h pos. let g = h pos in (g.0, g.1, g.2, subst (λ (l : List Told). StartsWith l z.told) (sym (two_parts z.number)) (starts_longer (told_to_caller sp.told z.number) z.told (told_to_caller new z.number) g.3))) n.joined;
            mine = n.mine;
            outcomes = λ pos. subst (λ (l : List Told). StartsWith l t.outcomes) (sym (two_parts t.number)) (starts_longer (told_to_caller sp.told t.number) t.outcomes (told_to_caller new t.number) (n.outcomes pos));
            taken_le = n.taken_le;
            laid_there = n.laid_there;
            laid_few = n.laid_few;
            since_le = let l = n.since_le in omega arith;
            since = λ z pos here. ⊎_elim (λ (old : get_elem? (told_to_caller sp.told t.number) (length t.outcomes) ≡ some z). n.since z pos old)
                (λ (g : (j : ℕ) × (get_elem? (told_to_caller new t.number) j ≡ some z)). λ reply place same. let lo = all_at (IsLate k) (told_to_caller new t.number) g.0 z (late t.number) g.1 reply place same in let l = n.since_le in omega arith)
                (at_split (told_to_caller sp.told t.number) (told_to_caller new t.number) (length t.outcomes) z (subst (λ (l : List Told). get_elem? l (length t.outcomes) ≡ some z) (two_parts t.number) here));
          };
          requests = record { all_open = r.requests.all_open; scanned = r.requests.scanned; unmade = λ m. absurd (let z : true ≡ false = m in cc) };
          known = all_append (λ (x : Told). (0 < x.0.caller) × (x.0.caller ≤ callers)) sp.told new r.known (known_found new (map found_of sp.requests) found (known_finds sp.requests (λ j f e. let o = r.requests.all_open j f e in (o.0, o.1))));
        }
      where
        next : (c : ℕ) (e : OneOf c sp.requests) → SlotHolds P slots c (r.calls c) (r.given c) (owing sp.made c sp.requests) (told_to_caller sp.told c) → length (told_to_caller sp.told c) ≡ r.given c → get_elem? (numbered c 0 (r.calls c)) (length (map found_in (told_to_caller sp.told c))) ≡ some (found_of e.1)
        next c e t old = let f : Request = e.1 in let o = (r.requests.all_open e.0 f e.2).2 (r.requests.unmade unmade e.0 f e.2) in let posted = ap (λ (m : ℕ). length (r.calls m)) e.3 in let given = ap r.given e.3 in let many = o.posted in let seq = o.seq in
            let i : ℕ = length (map found_in (told_to_caller sp.told c)) in let i_is : i ≡ r.given c = length_map found_in (told_to_caller sp.told c) ∙ old in
            let args : drop 1 f.words ≡ get_or (r.calls c) i [] = whole_call (get_or (r.calls f.caller) (r.given f.caller) []) f.words o.loaded (whole e.0 f e.2) ∙ (λ z. get_or (r.calls (e.3 z)) ((given ∙ sym i_is) z) []) in
            at_numbered c 0 i (r.calls c) (omega arith) ∙ (λ z. some record { caller = sym e.3 z; seq = (let same : 0 + i ≡ f.seq = omega arith in same) z; args = sym args z })

        known_finds : (fs : List Request) → Each (λ _ f. (0 < f.caller) × (f.caller ≤ callers)) fs → AllByRecursion (λ (x : Found). (0 < x.caller) × (x.caller ≤ callers)) (map found_of fs)
        known_finds [] h = tt
        known_finds (f ∷ fs) h = (h 0 f refl, known_finds fs (λ j g e. h (suc j) g e))

        known_found : (xs : List Told) (fs : List Found) → map found_in xs ≡ fs → AllByRecursion (λ (x : Found). (0 < x.caller) × (x.caller ≤ callers)) fs → AllByRecursion (λ (x : Told). (0 < x.0.caller) × (x.0.caller ≤ callers)) xs
        known_found xs fs e h = go xs (subst (AllByRecursion (λ (x : Found). (0 < x.caller) × (x.caller ≤ callers))) (sym e) h)
          where
            go : (ys : List Told) → AllByRecursion (λ (x : Found). (0 < x.caller) × (x.caller ≤ callers)) (map found_in ys) → AllByRecursion (λ (x : Told). (0 < x.0.caller) × (x.0.caller ≤ callers)) ys
            go [] g = tt
            go (y ∷ ys) g = (g.0, go ys g.1)

    -- each found call is told what its pass's record tells it
    pub tells_each : (fate : Fate) (k : ℕ) (batch : List Entry) → sp.made ≡ false → (q : ℕ) (f : Request) (x : Told) → get_elem? sp.requests q ≡ some f → get_elem? (fate_told fate k (map found_of sp.requests) batch) q ≡ some x
        → get_elem? (told_to_caller (sp.told ++ fate_told fate k (map found_of sp.requests) batch) f.caller) f.seq ≡ some x
    tells_each fate k batch unmade q f x at told = let new : List Told = fate_told fate k (map found_of sp.requests) batch in let c : ℕ = f.caller in let o = open_at P callers count slots sp all_calls r q f at (r.requests.unmade unmade q f at) in let seq = o.2.seq in
        let same : x.0 ≡ found_of f = some-injective x.0 (found_of f) (sym (at_map found_in new q x told) ∙ (ap (λ (l : List Found). get_elem? l q) (fate_found fate k (map found_of sp.requests) batch) ∙ at_map found_of sp.requests q f at)) in
        let callers_same : map caller_of new ≡ map caller_in sp.requests = sym (map_map (λ (y : Found). y.caller) found_in new) ∙ (ap (map (λ (y : Found). y.caller)) (fate_found fate k (map found_of sp.requests) batch) ∙ map_map (λ (y : Found). y.caller) found_of sp.requests) in
        let one : told_to_caller new c ≡ x ∷ [] = ap (told_to_caller new) (sym (ap (λ (y : Found). y.caller) same)) ∙ one_told 0 sp.scanned q new x (subst (AreScanned 0 sp.scanned) (sym callers_same) r.requests.scanned) told in
        let before : length (told_to_caller sp.told c) ≡ f.seq = (r.each c o.0 o.1).recorded ∙ (ap (λ (b : Bool). r.given c + owing b c sp.requests) unmade ∙ (let z : r.given c + 0 ≡ f.seq = omega arith in z)) in
        subst (λ (l : List Told). get_elem? l f.seq ≡ some x) (sym (filter-append (λ (y : Told). y.0.caller == c) sp.told new ∙ ap (λ (l : List Told). told_to_caller sp.told c ++ l) one)) (at_last (told_to_caller sp.told c) x f.seq before)
