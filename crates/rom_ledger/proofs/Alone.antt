-- Calls and members by what they are.
use Rattle.std.proofs.Common.{◌≡◌, ℕ, ◌+◌, List, refl, sym, ap, subst, ◌∙◌}
use Rattle.rom_model.specs.State.{State, one, step, step_of}
use Rattle.rom_model.specs.Singles.{call_of, reply_kind, reply_of}
use Rattle.rom_model.specs.Region.{Contents}
use Rattle.rom_model.specs.declared.call.Call.{Call}
use Rattle.rom_model.specs.declared.call.Reply.{Reply}
use Rattle.rom_model.specs.declared.call.Single.{Single}
use Rattle.rom_model.specs.declared.call.SingleReply.{SingleReply}
use Rattle.rom_model.specs.declared.call.SingleReply.TheVariants.{Queued, Full, Head, Empty, Added, Present, Removed, Absent, NoPrior, Was, Moved, Short, Over}
use Rattle.rom_model.proofs.Tags.{plain_kind}
use Rattle.rom_ledger.specs.State.{conditional, ledger_step, reply_to, as_call, told_alone, told_of}
use Rattle.rom_ledger.specs.declared.call.Conditional.{Conditional}
use Rattle.rom_ledger.specs.declared.call.LedgerCall.{LedgerCall}
use Rattle.rom_ledger.specs.declared.call.LedgerCall.TheVariants as call
use Rattle.rom_ledger.specs.declared.call.LedgerSingle.{LedgerSingle}
use Rattle.rom_ledger.specs.declared.call.LedgerSingle.TheVariants as single
use Rattle.rom_ledger.specs.declared.call.LedgerTold.{LedgerTold}
use Rattle.rom_ledger.specs.declared.call.LedgerTold.TheVariants as told
use Rattle.rom_ledger.specs.declared.call.LedgerReply.{LedgerReply}
use Rattle.rom_ledger.specs.declared.call.LedgerReply.TheVariants as answer

-- a reply to an update that is done alone tells what the member is told
heap_alone : (r : SingleReply) → told_alone (reply_kind (reply_of r)) ≡ told.Heap r
heap_alone Queued = refl
heap_alone Full = refl
heap_alone (Head v) = refl
heap_alone Empty = refl
heap_alone Added = refl
heap_alone Present = refl
heap_alone Removed = refl
heap_alone Absent = refl
heap_alone NoPrior = refl
heap_alone (Was v) = refl
heap_alone Moved = refl
heap_alone (Short v) = refl
heap_alone Over = refl

alone : (t : LedgerTold) → told_of (reply_to t) ≡ t
alone (told.Heap r) = heap_alone r
alone (told.Other v) = refl

module _ (n : ℕ) (s : State) (k : ℕ) (new : List ℕ) where
  -- a call gives this reply, and leaves words that stand for the state after it
  abbrev Done : LedgerReply → LedgerCall → Type 0
  Done reply asked = let after = ledger_step n s k asked in (reply ≡ after.1) × Contents n new after.0 (k + 1)

  pub heap_done : (asked : LedgerCall) (own : Call) (reply : Reply) → asked ≡ call.Heap own → (let after = step n s k own in (reply ≡ after.1) × Contents n new after.0 (k + 1)) → Done (answer.Heap reply) asked
  heap_done asked own reply is done = subst (λ x. Done (answer.Heap reply) x) (sym is) (ap answer.Heap done.0, done.1)

  pub conditional_done : (asked : LedgerCall) (own : Conditional) (heard : LedgerTold) (reply : LedgerReply) → asked ≡ call.Conditional own → reply ≡ reply_to heard → (let after = conditional n s k own in (heard ≡ after.1) × Contents n new after.0 (k + 1)) → Done reply asked
  conditional_done asked own heard reply is tells done = subst (λ x. Done reply x) (sym is) (tells ∙ ap reply_to done.0, done.1)

  -- a member's call does, and the member is told so
  abbrev MemberDone : LedgerTold → LedgerSingle → Type 0
  MemberDone heard member = let after = ledger_step n s k (as_call member) in (heard ≡ told_of after.1) × Contents n new after.0 (k + 1)

  pub heap_member : (member : LedgerSingle) (own : Single) (heard : SingleReply) → member ≡ single.Heap own → (let after = one n s k own in (heard ≡ after.1) × Contents n new after.0 (k + 1)) → MemberDone (told.Heap heard) member
  heap_member member own heard is done =
      let after = one n s k own in
      let stepped : step n s k (call_of own) ≡ (after.0, reply_of after.1) = ap (step_of n s k) (plain_kind own) in
      subst (λ x. MemberDone (told.Heap heard) x) (sym is)
      (subst (λ (d : State × Reply). (told.Heap heard ≡ told_alone (reply_kind d.1)) × Contents n new d.0 (k + 1)) (sym stepped) (ap told.Heap done.0 ∙ sym (heap_alone after.1), done.1))

  pub conditional_member : (member : LedgerSingle) (own : Conditional) (heard : LedgerTold) → member ≡ single.Conditional own → (let after = conditional n s k own in (heard ≡ after.1) × Contents n new after.0 (k + 1)) → MemberDone heard member
  conditional_member member own heard is done = subst (λ x. MemberDone heard x) (sym is) (done.0 ∙ sym (alone (conditional n s k own).1), done.1)
