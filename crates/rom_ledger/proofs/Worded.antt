-- Calls of a ledger by their words.
use Rattle.std.proofs.Common.{◌≡◌, ℕ, ◌≤◌, arith, Bool, true, false, List, [], ◌∷◌, Option, Some, None, refl, sym, ap, ◌∙◌}
use Rattle.std.specs.Prelude.{◌==◌, ◌&&◌, nat_le, option_map, if◌then◌else◌}
use Rattle.std.proofs.lemmas.Bool.{le-leb, ne_eqb}
use Rattle.rom_model.specs.State.{State, step}
use Rattle.rom_model.specs.Machine.{on_words}
use Rattle.rom_model.specs.Trio.{trio}
use Rattle.rom_model.specs.Codes as heap
use Rattle.rom_model.specs.declared.call.Call.{Call}
use Rattle.rom_ledger.specs.State.{conditional, ledger_step, reply_to}
use Rattle.rom_ledger.specs.Codes.{is_tagged, words_conditional, words_ledger_call, ledger_reply_words, call_or}
use Rattle.rom_ledger.specs.Ledger.{ledger}
use Rattle.rom_ledger.specs.declared.call.Conditional.{Conditional}
use Rattle.rom_ledger.specs.declared.call.Conditional.TheVariants.{Inc, New, Cas, DeqIf}
use Rattle.rom_ledger.specs.declared.call.LedgerCall.{LedgerCall}
use Rattle.rom_ledger.specs.declared.call.LedgerCall.TheVariants as call
use Rattle.rom_ledger.specs.declared.call.LedgerTold.{LedgerTold}

-- what the words of a call do
abbrev did : ℕ → State → ℕ → Option LedgerCall → Option (State × List ℕ)
did n s k o = option_map (λ call. let done = ledger_step n s k call in (done.0, ledger_reply_words done.1)) o

-- words of a conditional update
module _ (words : List ℕ) (own : Conditional) (read : words_conditional words ≡ Some own) where
  own_call : words_ledger_call words ≡ Some (call.Conditional own)
  own_call = ap (λ (o : Option Conditional). call_or o (heap.words_call words)) read

  pub own_done : (n : ℕ) (s : State) (k : ℕ) (heard : LedgerTold) (told : List ℕ) → heard ≡ (conditional n s k own).1 → told ≡ ledger_reply_words (reply_to heard) → on_words ledger n s k words ≡ Some ((conditional n s k own).0, told)
  own_done n s k heard told comes spelt = ap (did n s k) own_call ∙ (λ i. Some ((conditional n s k own).0, sym (spelt ∙ ap (λ t. ledger_reply_words (reply_to t)) comes) i))

-- a tag that is none from 9 to 12 is none of them
other_tag : (tag n : ℕ) → (nat_le 9 tag && nat_le tag 12) ≡ false → 9 ≤ n → n ≤ 12 → (tag == n) ≡ false
other_tag tag n out low high = ne_eqb tag n (λ same.
    let least : nat_le 9 tag ≡ true = le-leb 9 tag (omega (arith, same, low)) in
    let most : nat_le tag 12 ≡ true = le-leb tag 12 (omega (arith, same, high)) in
    let never : true ≡ false = (λ i. sym least i && sym most i) ∙ out in
    absurd (let no_way : true ≡ false = never in cc))

-- words without the tag of a conditional update are none's
pub none_tagged : (words : List ℕ) → is_tagged words ≡ false → words_conditional words ≡ None
none_tagged [] out = refl
none_tagged (tag ∷ []) out = refl
none_tagged (tag ∷ v ∷ []) out = ap (λ (b : Bool). if b then Some (DeqIf v) else None) (other_tag tag 12 out (omega arith) (omega arith))
none_tagged (tag ∷ k ∷ v ∷ []) out =
    ap (λ (b : Bool). if b then Some (Inc k v) else if tag == 10 then Some (New k v) else None) (other_tag tag 9 out (omega arith) (omega arith))
    ∙ ap (λ (b : Bool). if b then Some (New k v) else None) (other_tag tag 10 out (omega arith) (omega arith))
none_tagged (tag ∷ k ∷ u ∷ v ∷ []) out = ap (λ (b : Bool). if b then Some (Cas k u v) else None) (other_tag tag 11 out (omega arith) (omega arith))
none_tagged (tag ∷ k ∷ u ∷ v ∷ x ∷ more) out = refl

-- words of no conditional update are those of a heap's
module _ (words : List ℕ) (none : words_conditional words ≡ None) where
  heap_call : words_ledger_call words ≡ option_map call.Heap (heap.words_call words)
  heap_call = ap (λ (o : Option Conditional). call_or o (heap.words_call words)) none

  pub heap_words : (n : ℕ) (s : State) (k : ℕ) → on_words ledger n s k words ≡ on_words trio n s k words
  heap_words n s k = ap (did n s k) heap_call ∙ by_call (heap.words_call words)
    where
      by_call : (o : Option Call) → did n s k (option_map call.Heap o) ≡ option_map (λ c. let done = step n s k c in (done.0, heap.reply_words done.1)) o
      by_call (Some c) = refl
      by_call None = refl
