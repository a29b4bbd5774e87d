-- A script of a queue, a set and a map means the same to a ledger.
use Rattle.std.specs.Prelude.{◌≡◌, ℕ, List}
use Rattle.rom_model.specs.State.{State, empty, step, tell}
use Rattle.rom_model.specs.declared.call.Call.{Call}
use Rattle.rom_model.specs.declared.call.Reply.{Reply}
use Rattle.rom_model.specs.declared.call.Query.{Query}
use Rattle.rom_model.specs.declared.call.Answer.{Answer}
use Rattle.rom_model.specs.declared.line.Step.TheVariants.{Update, Ask}
use Rattle.rom_text.specs.Trio.{answer_text, reply_text}
use Rattle.rom_script.specs.Lines.{ReadsTrio}
use Rattle.rom_guard.specs.declared.call.GuardedCall.TheVariants as guarded
use Rattle.rom_guard.specs.declared.call.GuardedReply.TheVariants as told
use Rattle.rom_ledger.specs.Ledger.{guarded_ledger}
use Rattle.rom_ledger.specs.Lines.{ReadsLedger}
use Rattle.rom_ledger.specs.Texts.{ledger_texts}
use Rattle.rom_ledger.specs.declared.call.LedgerCall.TheVariants as call
use Rattle.rom_ledger.specs.declared.call.LedgerReply.TheVariants as answer

-- What is said of each line, call and reply of a queue, a set and a map.
pub record MeansTheSame : Type 0 where
  -- a line that asks there for a call or a query asks here for the same
  pub call_line : (line : List ℕ) (c : Call) → ReadsTrio line (Update c) → ReadsLedger line (Update (guarded.Own (call.Heap c)))
  pub query_line : (line : List ℕ) (q : Query) → ReadsTrio line (Ask q) → ReadsLedger line (Ask q)
  -- a new heap holds the same
  pub empty_is : guarded_ledger.empty ≡ empty
  -- the call leaves the same state, and is told the same
  pub step_is : (n : ℕ) (s : State) (count : ℕ) (c : Call) → let done = step n s count c in guarded_ledger.step n s count (guarded.Own (call.Heap c)) ≡ (done.0, told.Own (answer.Heap done.1))
  -- the query is told the same
  pub tell_is : (s : State) (q : Query) → guarded_ledger.tell s q ≡ tell s q
  -- reply and answer are printed as there
  pub text_is : (r : Reply) → ledger_texts.reply (told.Own (answer.Heap r)) ≡ reply_text r
  pub answer_is : (a : Answer) → ledger_texts.answer a ≡ answer_text a
