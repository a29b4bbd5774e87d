-- What a caller's steps on its slot keep of the calls.
use Rattle.std.proofs.Common.{◌≡◌, ◌≢◌, ℕ, zero, suc, ◌+◌, ◌*◌, ◌^◌, ◌<◌, ◌≤◌, List, [], ◌∷◌, ◌++◌, map, take, length, get_or, set, sym, ap, ◌∙◌, subst, arith, false, length-append, length-take, get_or-take}
use mathlib.Core.Logic.{dite}
use mathlib.Core.Option.{some, some-injective, some-ne-none}
use native.Mathlib.Decide.{ℕ_discrete}
use lib.ListN.{get_elem?}
use Rattle.atomic_table.proofs.Lists.{at_map}
use Rattle.rom_model.specs.Seen.{StartsWith}
use Rattle.rom_model.specs.declared.record.Found.{Found}
use Rattle.rom_rule.specs.Calls.{Announced, IsOpen, KnowsCalls, Lies, SlotHolds, answer_words, found_in, numbered, owing, packed, slot_word_at, told_to_caller}
use Rattle.rom_rule.specs.Readers.{Differ}
use Rattle.rom_rule.specs.Views.{CallerCalls, PlanCalls, Told, calls_in, number_in}
use Rattle.rom_rule.specs.declared.views.Request.{Request}
use Rattle.rom_rule.specs.declared.views.View.{View}
use Rattle.rom_rule.proofs.Frames.{each_set_at}
use Rattle.rom_rule.proofs.Slots.{put, put_here, put_else, kept_else, last_word, early, lies_more, changed, slot_word_here, slot_word_else, lies_else, slot_holds_else, knows_calls_else, open_else}
use Rattle.rom_rule.proofs.Told.{starts_longer, starts_le, at_low, length_numbered, numbered_more, length_map}

module _ (P : List ℕ → Type 0) (callers count : ℕ) (slots : List ℕ) (sp : PlanCalls) where
  -- an answer that was recorded is of one of the calls posted
  pub answers_le : (c : ℕ) (calls : List (List ℕ)) (given owe : ℕ) (answers : List Told) → SlotHolds P slots c calls given owe answers → length answers ≤ length calls
  answers_le c calls given owe answers t = let h = starts_le (numbered c 0 calls) (map found_in answers) t.asked in omega (arith, length_map found_in answers, length_numbered c 0 calls)

  module _ (views : List View) (r : Announced P callers slots count sp (map calls_in views)) where
    pub number_at : (vs : List View) (y : ℕ) (t : CallerCalls) → get_elem? (map calls_in vs) y ≡ some t → get_elem? (map number_in vs) y ≡ some t.number
    number_at [] y t e = absurd (some-ne-none t (sym e))
    number_at (z ∷ zs) zero t e = ap (λ (k : CallerCalls). some k.number) (some-injective (calls_in z) t e)
    number_at (z ∷ zs) (suc y) t e = number_at zs y t e

    -- a step of a caller's on the word j of its slot
    caller_calls_step : (id j x : ℕ) (v w : View) (calls : List (List ℕ)) → get_elem? views id ≡ some v → 0 < v.number → v.number ≤ callers → v.number ≤ sp.dealt → j < 64 → Differ (map number_in views)
        → SlotHolds P (changed slots v.number j x) v.number calls (r.given v.number) (owing sp.made v.number sp.requests) (told_to_caller sp.told v.number)
        → KnowsCalls callers (changed slots v.number j x) count (put r.calls v.number calls) r.given r.closed sp (calls_in w)
        → ((f : Request) → f.caller ≡ v.number → f.answered ≡ false → IsOpen slots (r.calls f.caller) (r.given f.caller) f → IsOpen (changed slots v.number j x) (put r.calls v.number calls f.caller) (r.given f.caller) f)
        → Announced P callers (changed slots v.number j x) count sp (map calls_in (set views id w))
    caller_calls_step id j x v w calls at pos low dealt lj apart all_calls knows requests = let c : ℕ = v.number in let new : List ℕ = changed slots c j x in let calls' : ℕ → List (List ℕ) = put r.calls c calls in record {
      calls = calls';
      given = r.given;
      closed = r.closed;
      fresh = λ d past. let ne : d ≢ c = (λ e. omega arith) in let f = r.fresh d past in (put_else r.calls c calls d ne ∙ f.0, f.1, f.2);
      each = λ d pd ld. dite (ℕ_discrete d c)
          (λ e. subst (λ (y : ℕ). SlotHolds P new y (calls' y) (r.given y) (owing sp.made y sp.requests) (told_to_caller sp.told y)) (sym e)
          (subst (λ (y : List (List ℕ)). SlotHolds P new c y (r.given c) (owing sp.made c sp.requests) (told_to_caller sp.told c)) (sym (put_here r.calls c calls)) all_calls))
          (λ ne. subst (λ (y : List (List ℕ)). SlotHolds P new d y (r.given d) (owing sp.made d sp.requests) (told_to_caller sp.told d)) (sym (put_else r.calls c calls d ne))
          (slot_holds_else slots c j x P d (r.calls d) (r.given d) (owing sp.made d sp.requests) (told_to_caller sp.told d) pos pd lj ne (r.each d pd ld)));
      views = each_set_at (λ _. KnowsCalls callers slots count r.calls r.given r.closed sp) (λ _. KnowsCalls callers new count calls' r.given r.closed sp) calls_in views id w
          (λ y t ne e k. knows_calls_else slots c j x callers count r.calls calls' r.given r.closed sp t pos lj (λ same. ne (apart y id c (number_at views y t e ∙ ap some same) (at_map number_in views id v at) pos)) ((r.views id (calls_in v) (at_map calls_in views id v at)).live pos) (λ d other. put_else r.calls c calls d other) k)
          knows r.views;
      requests = record {
        all_open = λ y f e. let o = r.requests.all_open y f e in (
          o.0,
          o.1,
          λ n. dite (ℕ_discrete f.caller c) (λ is. requests f is n (o.2 n))
              (λ ne. subst (λ (l : List (List ℕ)). IsOpen new l (r.given f.caller) f) (sym (put_else r.calls c calls f.caller ne)) (open_else slots c j x (r.calls f.caller) (r.given f.caller) f pos o.0 lj ne (o.2 n))),
        );
        scanned = r.requests.scanned;
        unmade = r.requests.unmade;
      };
      known = r.known;
    }

    -- what a caller with no call posted knows
    idle : (id : ℕ) (v : View) → get_elem? views id ≡ some v → 0 < v.number → v.number ≤ callers → length v.calls ≡ length v.outcomes
        → (v.calls ≡ r.calls v.number) × (r.given v.number ≡ length v.calls) × SlotHolds P slots v.number (r.calls v.number) (r.given v.number) (owing sp.made v.number sp.requests) (told_to_caller sp.told v.number) × KnowsCalls callers slots count r.calls r.given r.closed sp (calls_in v)
    idle id v at pos low none_open = let k = r.views id (calls_in v) (at_map calls_in views id v at) in let t = r.each v.number pos low in let mine = k.mine pos in let same = ap length mine in let t₀ = k.taken_le pos in let t₁ = t.given_le in
        (mine, omega arith, t, k)

    -- a word of the next call is stored
    pub lays : (id j x : ℕ) (v w : View) → get_elem? views id ≡ some v → 0 < v.number → v.number ≤ callers → v.number ≤ sp.dealt → Differ (map number_in views) → length slots ≡ 64 * callers → length v.calls ≡ length v.outcomes → j ≤ length v.laid → j ≤ 40
        → calls_in w ≡ record (calls_in v) { laid = take j v.laid ++ x ∷ [] } → Announced P callers (changed slots v.number (1 + j) x) count sp (map calls_in (set views id w))
    lays id j x v w at pos low dealt apart long none_open lj few is = let c : ℕ = v.number in let i = idle id v at pos low none_open in let mine = i.0 in let all = i.1 in let t = i.2 in let k = i.3 in let new : List ℕ = changed slots c (1 + j) x in
        let same = ap length mine in let cut : length (take j v.laid) ≡ j = omega (arith, length-take j v.laid) in let lies = k.laid_there pos in
        let before : Lies new c 1 (take j v.laid) = λ n lt. slot_word_else slots c (1 + j) x c (1 + n) pos pos (omega arith) (omega arith) (λ _ z. omega arith) ∙ (lies n (omega arith) ∙ sym (get_or-take j v.laid n 0 (omega arith))) in
        caller_calls_step id (1 + j) x v w (r.calls c) at pos low dealt (omega arith) apart
        record {
          given_le = t.given_le;
          one_open = t.one_open;
          few = t.few;
          turn = slot_word_else slots c (1 + j) x c 0 pos pos (omega arith) (omega arith) (λ _ z. absurd (omega arith)) ∙ t.turn;
          short = t.short;
          posted = λ now. absurd (omega arith);
          recorded = t.recorded;
          asked = t.asked;
          answered = λ n y e last here. let h = t.answered n y e last here in let few' = h.0 in (few', lies_else slots c (1 + j) x c 42 (answer_words y.1) pos pos (omega arith) (omega arith) (λ _ m lt z. absurd (omega arith)) h.1);
        }
        (subst (KnowsCalls callers new count (put r.calls c (r.calls c)) r.given r.closed sp) (sym is) record {
          live = k.live;
          joined = kept_else callers c r.calls (put r.calls c (r.calls c)) r.closed sp.told v.joined (k.live pos) (λ d other. put_else r.calls c (r.calls c) d other) k.joined;
          mine = λ _. mine ∙ sym (put_here r.calls c (r.calls c));
          outcomes = k.outcomes;
          taken_le = k.taken_le;
          laid_there = λ _. lies_more new c 1 x (take j v.laid) before (ap (λ (n : ℕ). slot_word_at new c (1 + n)) cut ∙ slot_word_here slots c (1 + j) x (omega arith));
          laid_few = omega (arith, length-append (take j v.laid) (x ∷ []));
          since_le = k.since_le;
          since = k.since;
        })
        (λ f e n o. let z = o.posted in let lc = ap (λ (m : ℕ). length (r.calls m)) e in let gc = ap r.given e in absurd (omega arith))

    -- the call is posted
    pub posts : (id : ℕ) (v w : View) (args : List ℕ) → get_elem? views id ≡ some v → 0 < v.number → v.number ≤ callers → v.number ≤ sp.dealt → Differ (map number_in views) → length slots ≡ 64 * callers → length v.calls ≡ length v.outcomes → v.laid ≡ packed args → length args ≤ 40 → P args
        → length v.calls < 2 ^ 62 → length v.seen ≤ sp.len → calls_in w ≡ record (calls_in v) { calls = v.calls ++ args ∷ []; since = length v.seen }
        → Announced P callers (changed slots v.number 0 (2 * length v.calls + 1)) count sp (map calls_in (set views id w))
    posts id v w args at pos low dealt apart long none_open laid few good room seen is = let c : ℕ = v.number in let i = idle id v at pos low none_open in let mine = i.0 in let all = i.1 in let t = i.2 in let k = i.3 in let x : ℕ = 2 * length v.calls + 1 in
        let new : List ℕ = changed slots c 0 x in let same = ap length mine in let calls' : List (List ℕ) = r.calls c ++ args ∷ [] in let more = length-append (r.calls c) (args ∷ []) in let more' = length-append v.calls (args ∷ []) in
        let there : Lies new c 1 v.laid = (let l = k.laid_few in lies_else slots c 0 x c 1 v.laid pos pos (omega arith) (omega arith) (λ _ m lt z. absurd (omega arith)) (k.laid_there pos)) in
        let last : get_or calls' (r.given c) [] ≡ args = ap (λ (n : ℕ). get_or calls' n []) (let e : r.given c ≡ length (r.calls c) = omega arith in e) ∙ last_word (r.calls c) args [] in
        let none_yet = answers_le c (r.calls c) (r.given c) (owing sp.made c sp.requests) (told_to_caller sp.told c) t in
        caller_calls_step id 0 x v w calls' at pos low dealt (omega arith) apart
        record {
          given_le = omega arith;
          one_open = omega arith;
          few = omega arith;
          turn = slot_word_here slots c 0 x (omega arith) ∙ omega arith;
          short = λ n lt. dite (ℕ_discrete n (length (r.calls c)))
              (λ e. subst (λ (l : List ℕ). (length l ≤ 40) × P l) (sym (ap (λ (m : ℕ). get_or calls' m []) e ∙ last_word (r.calls c) args [])) (few, good))
              (λ ne. subst (λ (l : List ℕ). (length l ≤ 40) × P l) (sym (early (r.calls c) args [] n (omega arith))) (t.short n (omega arith)));
          posted = λ _. subst (λ (l : List ℕ). Lies new c 1 l) (laid ∙ ap packed (sym last)) there;
          recorded = t.recorded;
          asked = subst (λ (l : List Found). StartsWith l (map found_in (told_to_caller sp.told c))) (sym (numbered_more c 0 (r.calls c) args)) (starts_longer (numbered c 0 (r.calls c)) (map found_in (told_to_caller sp.told c)) _ t.asked);
          answered = λ n y e z here. absurd (omega arith);
        }
        (subst (KnowsCalls callers new count (put r.calls c calls') r.given r.closed sp) (sym is) record {
          live = k.live;
          joined = kept_else callers c r.calls (put r.calls c calls') r.closed sp.told v.joined (k.live pos) (λ d other. put_else r.calls c calls' d other) k.joined;
          mine = λ _. ap (λ (l : List (List ℕ)). l ++ args ∷ []) mine ∙ sym (put_here r.calls c calls');
          outcomes = k.outcomes;
          taken_le = k.taken_le;
          laid_there = λ _. there;
          laid_few = k.laid_few;
          since_le = seen;
          since = λ y _ here. let lt = at_low (told_to_caller sp.told c) (length v.outcomes) y here in absurd (omega arith);
        })
        (λ f e n o. let z = o.posted in let lc = ap (λ (m : ℕ). length (r.calls m)) e in let gc = ap r.given e in absurd (omega arith))
