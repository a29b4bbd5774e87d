-- What a caller is told of its calls.
use Rattle.std.proofs.Common.{◌≡◌, ℕ, ◌+◌, ◌%◌, ◌<◌, ◌≤◌, List, [], ◌∷◌, ◌++◌, map, length, get_or, set, sym, refl, ap, ◌∙◌, subst, arith, length-append}
use mathlib.Core.Option.{some, some-injective}
use lib.ListN.{get_elem?}
use Rattle.atomic_table.proofs.Lists.{at_map, at_last}
use Rattle.rom_rule.specs.Calls.{Announced, IsLater, KnowsCalls, Lies, answer_words, found_in, numbered, owing, slot_word_at, told_to_caller}
use Rattle.rom_rule.specs.Views.{PlanCalls, Told, calls_in}
use Rattle.rom_rule.specs.declared.views.View.{View}
use Rattle.rom_rule.proofs.Told.{starts_at, starts_more, at_low, at_some, at_numbered}
use Rattle.rom_rule.proofs.Posting.{answers_le}
use Rattle.rom_rule.proofs.Joining.{calls_only}

module _ (P : List ℕ → Type 0) (callers count : ℕ) (slots : List ℕ) (sp : PlanCalls) where
  module _ (views : List View) (r : Announced P callers slots count sp (map calls_in views)) where
    -- what was told of a call, once its turn is even
    pub learns : (id : ℕ) (v : View) → get_elem? views id ≡ some v → 0 < v.number → v.number ≤ callers → length v.calls ≡ length v.outcomes + 1 → slot_word_at slots v.number 0 % 2 ≡ 0
        → (y : Told) × (get_elem? (told_to_caller sp.told v.number) (length v.outcomes) ≡ some y) × (y.0 ≡ record { caller = v.number; seq = length v.outcomes; args = get_or v.calls (length v.outcomes) [] }) × IsLater count v.since y
        × ((w : View) → calls_in w ≡ record (calls_in v) { outcomes = v.outcomes ++ y ∷ [] } → Announced P callers slots count sp (map calls_in (set views id w)))
    learns id v at pos low open_now even = let c : ℕ = v.number in let k = r.views id (calls_in v) (at_map calls_in views id v at) in let t = r.each c pos low in let mine = k.mine pos in let same = ap length mine in let t₀ = t.given_le in let t₁ = t.one_open in let t₂ = t.turn in let t₃ = t.recorded in let k₀ = k.taken_le pos in
        let i : ℕ = length v.outcomes in let all : r.given c ≡ length (r.calls c) = omega arith in let found = at_some (told_to_caller sp.told c) i (omega arith) in let y : Told = found.0 in let le = answers_le P callers count slots sp c (r.calls c) (r.given c) (owing sp.made c sp.requests) (told_to_caller sp.told c) t in
        let first : get_elem? (numbered c 0 (r.calls c)) i ≡ some y.0 = starts_at (numbered c 0 (r.calls c)) (map found_in (told_to_caller sp.told c)) i y.0 t.asked (at_map found_in (told_to_caller sp.told c) i y found.1) in (
          y,
          found.1,
          some-injective y.0 _ (sym first ∙ (at_numbered c 0 i (r.calls c) (omega arith) ∙ (λ z. some record { caller = c; seq = (let e : 0 + i ≡ i = omega arith in e) z; args = get_or (sym mine z) i [] }))),
          k.since y pos found.1,
          λ w is. calls_only P callers count slots sp views r id w (subst (KnowsCalls callers slots count r.calls r.given r.closed sp) (sym is) record {
            live = k.live;
            joined = k.joined;
            mine = k.mine;
            outcomes = λ _. starts_more (told_to_caller sp.told c) v.outcomes y (k.outcomes pos) found.1;
            taken_le = λ _. omega (arith, length-append v.outcomes (y ∷ []));
            laid_there = k.laid_there;
            laid_few = k.laid_few;
            since_le = k.since_le;
            since = λ z _ here. let lt = at_low (told_to_caller sp.told c) (length (v.outcomes ++ y ∷ [])) z here in absurd (omega (arith, length-append v.outcomes (y ∷ [])));
          }),
        )

    -- the last answer stands in the slot
    pub takes : (id : ℕ) (v : View) (before : List Told) (y : Told) → get_elem? views id ≡ some v → 0 < v.number → v.number ≤ callers → length v.calls ≡ length v.outcomes → v.outcomes ≡ before ++ y ∷ []
        → (length (answer_words y.1) ≤ 22) × Lies slots v.number 42 (answer_words y.1)
    takes id v before y at pos low none_open is = let c : ℕ = v.number in let k = r.views id (calls_in v) (at_map calls_in views id v at) in let t = r.each c pos low in let mine = k.mine pos in let same = ap length mine in let t₀ = t.given_le in let k₀ = k.taken_le pos in
        let many = ap length is in let more = length-append before (y ∷ []) in
        t.answered (length before) y (omega arith) (omega arith) (starts_at (told_to_caller sp.told c) v.outcomes (length before) y (k.outcomes pos) (subst (λ (l : List Told). get_elem? l (length before) ≡ some y) (sym is) (at_last before y (length before) refl)))
