-- The laws of the object and of its members, which their traits ask for.
use Rattle.std.specs.Prelude.{◌≡◌, ℕ, ◌+◌, ◌-◌, ◌*◌, ◌<◌, ◌≤◌, List, ◌∷◌, length, Some, None, slice_set}
use Rattle.std.proofs.Common.{arith, get_or-set_same}
use Rattle.rom_model.specs.History.{LAST_COUNT}
use Rattle.rom_model.specs.State.{State}
use Rattle.rom_model.specs.Region.{Contents}
use Rattle.rom_model.proofs.Changes.{changes_set}
use Rattle.rom_model.proofs.Recounted.{recounted_contents}
use Rattle.rom_ledger.specs.State.{ledger_step}
use Rattle.rom_ledger.specs.Codes.{ledger_call_words, ledger_reply_words, member_words, told_words, words_ledger_call, words_ledger_reply, words_member, words_told}
use Rattle.rom_ledger.specs.declared.call.LedgerCall.{LedgerCall}
use Rattle.rom_ledger.specs.declared.call.LedgerReply.{LedgerReply}
use Rattle.rom_ledger.specs.declared.call.LedgerSingle.{LedgerSingle}
use Rattle.rom_ledger.specs.declared.call.LedgerTold.{LedgerTold}
use Rattle.rom_ledger.specs.Tagged as tagged

-- words that are read as a call are the words of that call
pub ledger_call_only : (words : List ℕ) (call : LedgerCall) → words_ledger_call words ≡ Some call → ledger_call_words call ≡ words
ledger_call_only words call is = tagged.tagged_call_only words call is

-- the words of the reply to a call are read as that reply
pub ledger_reply_back : (n : ℕ) (s : State) (count : ℕ) (words : List ℕ) (call : LedgerCall) → words_ledger_call words ≡ Some call → let told = (ledger_step n s count call).1 in words_ledger_reply (ledger_reply_words told) ≡ Some told
ledger_reply_back n s count words call is = tagged.tagged_reply_back n s count words call is

-- words that are read as a reply are the words of that reply
pub ledger_reply_only : (words : List ℕ) (reply : LedgerReply) → words_ledger_reply words ≡ Some reply → ledger_reply_words reply ≡ words
ledger_reply_only words reply is = tagged.tagged_reply_only words reply is

-- the words of the reply to a call are at most twice as many as those of the call
pub ledger_reply_few : (n : ℕ) (s : State) (count : ℕ) (words : List ℕ) (call : LedgerCall) → words_ledger_call words ≡ Some call → length (ledger_reply_words (ledger_step n s count call).1) ≤ 2 * length words
ledger_reply_few n s count words call is = tagged.tagged_reply_few n s count words call is

-- 31 stores a member are 248 for eight
pub enough : (1 ≤ 32) × (8 * (32 - 1) ≤ 248) × (248 ≤ 65536)
enough = (omega arith, omega arith, omega arith)

-- a region whose count is raised stands for the same state
pub raised : (n : ℕ) (words : List ℕ) (s : State) (k : ℕ) → Contents n words s k → k < LAST_COUNT → Contents n (slice_set words 2 (k + 1)) s (k + 1)
raised n words s k is below =
    recounted_contents (k + 1) (omega arith) (omega (arith, below)) (changes_set 2 1 words 2 (k + 1) (omega arith) (omega arith))
    (get_or-set_same words 2 (k + 1) 0 (omega (arith, is.1.shape.as_long))) is

-- a member has four words
pub member_four : (m : LedgerSingle) → length (member_words m) ≡ 4
member_four m = tagged.member_length m

-- the words of a member are read as that member
pub member_back : (m : LedgerSingle) → words_member (member_words m) ≡ Some m
member_back m = tagged.tagged_member_back m

-- words that are read as a member are the words of that member
pub member_only : (words : List ℕ) (m : LedgerSingle) → words_member words ≡ Some m → member_words m ≡ words
member_only words m is = tagged.tagged_member_only words m is

-- what a member is told has two words
pub told_two : (t : LedgerTold) → length (told_words t) ≡ 2
told_two t = tagged.told_length t

-- the words of what a member is told are read as that
pub told_back : (t : LedgerTold) → words_told (told_words t) ≡ Some t
told_back t = tagged.tagged_told_back t

-- words that are read as what a member is told are the words of that
pub told_only : (words : List ℕ) (t : LedgerTold) → words_told words ≡ Some t → told_words t ≡ words
told_only words t is = tagged.tagged_told_only words t is

-- no call's words begin with 0
pub no_zero_call : (words : List ℕ) → words_ledger_call (0 ∷ words) ≡ None
no_zero_call words = tagged.tagged_no_zero_call words

-- no reply's words begin with 0
pub no_zero_reply : (words : List ℕ) → words_ledger_reply (0 ∷ words) ≡ None
no_zero_reply words = tagged.tagged_no_zero_reply words
