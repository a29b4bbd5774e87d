-- Updates and replies of one structure, beside those of groups.
use Rattle.std.specs.Prelude.{List}
use Rattle.rom_model.specs.declared.call.Single.{Single}
use Rattle.rom_model.specs.declared.call.Single.TheVariants as single
use Rattle.rom_model.specs.declared.call.SingleReply.{SingleReply}
use Rattle.rom_model.specs.declared.call.SingleReply.TheVariants as told
use Rattle.rom_model.specs.declared.call.Call.{Call}
use Rattle.rom_model.specs.declared.call.Call.TheVariants as call
use Rattle.rom_model.specs.declared.call.Reply.{Reply}
use Rattle.rom_model.specs.declared.call.Reply.TheVariants as reply
use Rattle.rom_model.specs.declared.call.Kind.{Kind}
use Rattle.rom_model.specs.declared.call.Kind.TheVariants as kind

-- the update that does this alone
abbrev pub call_of : Single → Call
call_of (single.Enq v) = call.Enq v
call_of single.Deq = call.Deq
call_of (single.Add k) = call.Add k
call_of (single.Rem k) = call.Rem k
call_of (single.Put k v) = call.Put k v
call_of (single.Del k) = call.Del k
call_of (single.Move a b d) = call.Move a b d

-- what an update does alone, or its members
abbrev pub kind_of : Call → Kind Single (List Single)
kind_of (call.Enq v) = kind.Single (single.Enq v)
kind_of call.Deq = kind.Single single.Deq
kind_of (call.Add k) = kind.Single (single.Add k)
kind_of (call.Rem k) = kind.Single (single.Rem k)
kind_of (call.Put k v) = kind.Single (single.Put k v)
kind_of (call.Del k) = kind.Single (single.Del k)
kind_of (call.Move a b d) = kind.Single (single.Move a b d)
kind_of (call.Group calls) = kind.Several calls

-- the reply to an update that is done alone
abbrev pub reply_of : SingleReply → Reply
reply_of told.Queued = reply.Queued
reply_of told.Full = reply.Full
reply_of (told.Head v) = reply.Head v
reply_of told.Empty = reply.Empty
reply_of told.Added = reply.Added
reply_of told.Present = reply.Present
reply_of told.Removed = reply.Removed
reply_of told.Absent = reply.Absent
reply_of told.NoPrior = reply.NoPrior
reply_of (told.Was v) = reply.Was v
reply_of told.Moved = reply.Moved
reply_of (told.Short v) = reply.Short v
reply_of told.Over = reply.Over

-- the reply to an update of one structure, or those to a group's members
abbrev pub reply_kind : Reply → Kind SingleReply (List SingleReply)
reply_kind reply.Queued = kind.Single told.Queued
reply_kind reply.Full = kind.Single told.Full
reply_kind (reply.Head v) = kind.Single (told.Head v)
reply_kind reply.Empty = kind.Single told.Empty
reply_kind reply.Added = kind.Single told.Added
reply_kind reply.Present = kind.Single told.Present
reply_kind reply.Removed = kind.Single told.Removed
reply_kind reply.Absent = kind.Single told.Absent
reply_kind reply.NoPrior = kind.Single told.NoPrior
reply_kind (reply.Was v) = kind.Single (told.Was v)
reply_kind reply.Moved = kind.Single told.Moved
reply_kind (reply.Short v) = kind.Single (told.Short v)
reply_kind reply.Over = kind.Single told.Over
reply_kind (reply.All replies) = kind.Several replies
