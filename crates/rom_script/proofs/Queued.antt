-- What an update has put into the queue and taken out of it, by what is read of its words and of its reply's.
use Rattle.std.proofs.Common.{◌≡◌, ◌≢◌, ℕ, List, refl, sym, ap, ◌∙◌}
use Rattle.std.specs.Prelude.{Option, Some, None, IfSome, IfNone, option_map}
use Rattle.rom_model.proofs.Tags.{single_is}
use Rattle.rom_model.specs.Codes.{read_single, words_call, words_reply}
use Rattle.rom_model.specs.Singles.{reply_of}
use Rattle.rom_model.specs.declared.call.Answer.{Answer}
use Rattle.rom_model.specs.declared.call.Call.{Call}
use Rattle.rom_model.specs.declared.call.Call.TheVariants as call
use Rattle.rom_model.specs.declared.call.Query.{Query}
use Rattle.rom_model.specs.declared.call.Reply.{Reply}
use Rattle.rom_model.specs.declared.call.Reply.TheVariants as reply
use Rattle.rom_model.specs.declared.call.Single.TheVariants as single
use Rattle.rom_model.specs.declared.call.SingleReply.{SingleReply}
use Rattle.rom_model.specs.declared.call.SingleReply.TheVariants as told
use Rattle.rom_model.specs.declared.call.Updated.TheVariants as updated
use Rattle.rom_model.specs.declared.line.LineResult.{LineResult}
use Rattle.rom_model.specs.declared.line.LineResult.TheVariants as outcome
use Rattle.rom_model.specs.declared.line.Step.{Step}
use Rattle.rom_model.specs.declared.line.Step.TheVariants as step
use Rattle.rom_script.specs.Drill.{dequeued_by, enqueued_by}

-- an update that is told anything else has put nothing into the queue
none_queued : (v place : ℕ) (r : Reply) → r ≢ reply.Queued → 0 ≡ enqueued_by (step.Update (call.Enq v)) (outcome.Update (updated.Done r place))
none_queued v place reply.Queued other = absurd (other refl)
none_queued v place reply.Full other = refl
none_queued v place (reply.Head w) other = refl
none_queued v place reply.Empty other = refl
none_queued v place reply.Added other = refl
none_queued v place reply.Present other = refl
none_queued v place reply.Removed other = refl
none_queued v place reply.Absent other = refl
none_queued v place reply.NoPrior other = refl
none_queued v place (reply.Was w) other = refl
none_queued v place reply.Moved other = refl
none_queued v place (reply.Short w) other = refl
none_queued v place reply.Over other = refl
none_queued v place (reply.All replies) other = refl

-- nothing is taken out without a head
none_taken : (place : ℕ) (r : Reply) → ((v : ℕ) → r ≢ reply.Head v) → 0 ≡ dequeued_by (outcome.Update (updated.Done r place))
none_taken place reply.Queued other = refl
none_taken place reply.Full other = refl
none_taken place (reply.Head v) other = absurd (other v refl)
none_taken place reply.Empty other = refl
none_taken place reply.Added other = refl
none_taken place reply.Present other = refl
none_taken place reply.Removed other = refl
none_taken place reply.Absent other = refl
none_taken place reply.NoPrior other = refl
none_taken place (reply.Was w) other = refl
none_taken place reply.Moved other = refl
none_taken place (reply.Short w) other = refl
none_taken place reply.Over other = refl
none_taken place (reply.All replies) other = refl

same_some : {X : Type 0} (x y : X) → Some x ≡ Some y → x ≡ y
same_some x y is = cc

-- what is read of these words as the reply to an update of one structure
some_read : (said : List ℕ) (o : Option SingleReply) → IfSome o (λ one. words_reply said ≡ Some (reply_of one)) → (one : SingleReply) → o ≡ Some one → words_reply said ≡ Some (reply_of one)
some_read said None some one is = absurd (cc)
some_read said (Some x) some one is = some ∙ ap (λ y. Some (reply_of y)) (same_some x one is)

-- where no reply to an update of one structure is read, these are the words of none
none_read : (said : List ℕ) (o : Option SingleReply) → IfNone o ((one : SingleReply) → words_reply said ≢ Some (reply_of one)) → o ≡ None → (one : SingleReply) → words_reply said ≢ Some (reply_of one)
none_read said None none is = none
none_read said (Some x) none is = absurd (cc)

-- Of an update that was done, and was told the reply with these words:
module _ (became : LineResult Reply Answer) (said : List ℕ) (place : ℕ) (t : (r : Reply) × (became ≡ outcome.Update (updated.Done r place)) × (words_reply said ≡ Some r)) (o : Option SingleReply) where
  pub no_head : IfNone o ((one : SingleReply) → words_reply said ≢ Some (reply_of one)) → o ≡ None → 0 ≡ dequeued_by became
  no_head none is = none_taken place t.0 (λ v e. none_read said o none is (told.Head v) (t.2 ∙ ap Some e)) ∙ ap dequeued_by (sym t.1)

  -- and its call has words that begin with those of this `enq`
  module _ (asks : Step Call Query) (words : List ℕ) (l : (c : Call) × (asks ≡ step.Update c) × (words_call words ≡ Some c)) (v : ℕ) (first : Some (single.Enq v) ≡ option_map (λ read. read.0) (read_single words)) where
    enq : asks ≡ step.Update (call.Enq v)
    enq = l.1 ∙ ap step.Update (single_is words (single.Enq v) l.0 (sym first) l.2)

    pub queued : IfSome o (λ one. words_reply said ≡ Some (reply_of one)) → o ≡ Some told.Queued → v ≡ enqueued_by asks became
    queued some is =
        let done = t.1 ∙ ap (λ r. outcome.Update (updated.Done r place)) (same_some t.0 reply.Queued (sym t.2 ∙ some_read said o some told.Queued is)) in
        (λ i. enqueued_by (sym enq i) (sym done i))

    pub not_queued : IfNone o ((one : SingleReply) → words_reply said ≢ Some (reply_of one)) → o ≡ None → 0 ≡ enqueued_by asks became
    not_queued none is = none_queued v place t.0 (λ e. none_read said o none is told.Queued (t.2 ∙ ap Some e)) ∙ (λ i. enqueued_by (sym enq i) (sym t.1 i))
