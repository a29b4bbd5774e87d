-- The words of a ledger's own calls are read where there are guarded groups too.
use Rattle.std.specs.Prelude.{◌≡◌, ◌≢◌, ℕ, List, [], ◌∷◌, length, Option, Some, None, option_map}
use Rattle.std.proofs.Common.{refl, sym, ap, subst, ◌∙◌}
use Rattle.rom_model.specs.Codes as codes_of
use Rattle.rom_model.specs.declared.call.Call.{Call}
use Rattle.rom_model.specs.declared.call.Call.TheVariants as heap_call
use Rattle.rom_model.specs.declared.call.Query.{Query}
use Rattle.rom_model.specs.declared.line.Step.{Step}
use Rattle.rom_model.specs.declared.line.Step.TheVariants.{Update, Ask}
use Rattle.rom_model.proofs.Tags.{call_only}
use Rattle.rom_text.specs.Lines.{AsksFor}
use Rattle.rom_text.specs.declared.lines.Parsed.{Parsed}
use Rattle.rom_text.specs.declared.lines.Parsed.TheVariants as asked
use Rattle.rom_script.specs.Lines as heap
use Rattle.rom_guard.specs.declared.call.GuardedCall.{GuardedCall}
use Rattle.rom_guard.specs.declared.call.GuardedCall.TheVariants as guarded
use Rattle.rom_ledger.specs.Codes.{call_or, conditional_words, words_conditional}
use Rattle.rom_ledger.specs.Ledger.{guarded_ledger}
use Rattle.rom_ledger.specs.Lines.{ReadsLedger}
use Rattle.rom_ledger.specs.declared.call.Conditional.{Conditional}
use Rattle.rom_ledger.specs.declared.call.Conditional.TheVariants.{Inc, New, Cas, DeqIf}
use Rattle.rom_ledger.specs.declared.call.LedgerCall.{LedgerCall}
use Rattle.rom_ledger.specs.declared.call.LedgerCall.TheVariants as call
use Rattle.rom_ledger.specs.declared.call.LedgerSingle.{LedgerSingle}

-- what a queue, a set and a map read, where there is no conditional update
abbrev own_call : Option Call → Option (GuardedCall LedgerCall (List LedgerSingle))
own_call read = option_map guarded.Own (option_map call.Heap read)

-- the words of a group are no conditional update's
no_conditional : (words : List ℕ) → words_conditional (8 ∷ words) ≡ None
no_conditional [] = refl
no_conditional (a ∷ []) = refl
no_conditional (a ∷ b ∷ []) = refl
no_conditional (a ∷ b ∷ c ∷ []) = refl
no_conditional (a ∷ b ∷ c ∷ d ∷ words) = refl

-- The words of a call begin neither with 0 nor with a conditional update's tag.
heap_back : (c : Call) → codes_of.words_call (codes_of.call_words c) ≡ Some c → guarded_ledger.words_call (codes_of.call_words c) ≡ Some (guarded.Own (call.Heap c))
heap_back (heap_call.Enq v) back = ap own_call back
heap_back heap_call.Deq back = ap own_call back
heap_back (heap_call.Add k) back = ap own_call back
heap_back (heap_call.Rem k) back = ap own_call back
heap_back (heap_call.Put k v) back = ap own_call back
heap_back (heap_call.Del k) back = ap own_call back
heap_back (heap_call.Move a b d) back = ap own_call back
heap_back (heap_call.Group calls) back = λ i. option_map guarded.Own (call_or (no_conditional (length calls ∷ codes_of.all_words codes_of.single_words calls) i) (back i))

-- words that a queue, a set and a map read as a call are read as that call
heap_words : (words : List ℕ) (c : Call) → codes_of.words_call words ≡ Some c → guarded_ledger.words_call words ≡ Some (guarded.Own (call.Heap c))
heap_words words c read =
    let same : codes_of.call_words c ≡ words = call_only words c read in
    ap guarded_ledger.words_call (sym same) ∙ heap_back c (ap codes_of.words_call same ∙ read)

-- the words of a conditional update are read as it
pub conditional_words_back : (words : List ℕ) (c : Conditional) → words ≡ conditional_words c → guarded_ledger.words_call words ≡ Some (guarded.Own (call.Conditional c))
conditional_words_back words c is = ap guarded_ledger.words_call is ∙ by_call c
  where
    by_call : (c : Conditional) → guarded_ledger.words_call (conditional_words c) ≡ Some (guarded.Own (call.Conditional c))
    by_call (Inc k d) = refl
    by_call (New k v) = refl
    by_call (Cas k u v) = refl
    by_call (DeqIf v) = refl

-- What a line asks a queue, a set and a map for it asks a ledger for.
pub heap_asks : (line words : List ℕ) (read : Parsed Query) (step : Step Call Query) → read ≢ asked.Unread → AsksFor codes_of.words_call words read step → heap.ReadsTrio line step →
    (step : Step (GuardedCall LedgerCall (List LedgerSingle)) Query) × AsksFor guarded_ledger.words_call words read step × ReadsLedger line step
heap_asks line words asked.Update step some asks reads =
    let own = guarded.Own (call.Heap asks.0) in
    (Update own, (own, (λ i. Update own), heap_words words asks.0 asks.2), subst (heap.ReadsTrio line) asks.1 reads)
heap_asks line words (asked.Ask q) step some asks reads = (Ask q, (λ i. Ask q), subst (heap.ReadsTrio line) asks reads)
heap_asks line words asked.Unread step some asks reads = absurd (some refl)
