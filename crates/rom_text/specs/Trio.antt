-- What is printed of the replies and answers of a queue, a set and a map.
use Rattle.std.specs.Prelude.{ℕ, ◌^◌, ◌<◌, List, [], ◌∷◌, ◌++◌, codes, decimal}
use Rattle.std.specs.List.{AllByRecursion, flat_map}
use Rattle.rom_model.specs.Singles.{reply_kind}
use Rattle.rom_model.specs.declared.call.Kind.{Kind}
use Rattle.rom_model.specs.declared.call.Kind.TheVariants as kind
use Rattle.rom_model.specs.declared.call.Reply.{Reply}
use Rattle.rom_model.specs.declared.call.SingleReply.{SingleReply}
use Rattle.rom_model.specs.declared.call.SingleReply.TheVariants as reply
use Rattle.rom_model.specs.declared.call.Answer.{Answer}
use Rattle.rom_model.specs.declared.call.Answer.TheVariants as answer
use Rattle.rom_text.specs.Text.{ShownText}

-- the text of a reply to an update of one structure
abbrev pub single_text : SingleReply → List ℕ
single_text reply.Queued = codes "queued"
single_text reply.Full = codes "full"
single_text (reply.Head v) = codes "head " ++ decimal v
single_text reply.Empty = codes "empty"
single_text reply.Added = codes "added"
single_text reply.Present = codes "present"
single_text reply.Removed = codes "removed"
single_text reply.Absent = codes "absent"
single_text reply.NoPrior = codes "none"
single_text (reply.Was v) = codes "was " ++ decimal v
single_text reply.Moved = codes "moved"
single_text (reply.Short v) = codes "short " ++ decimal v
single_text reply.Over = codes "over"

-- the text of a reply that stands behind others in a group's, with its separator
abbrev pub next_text : SingleReply → List ℕ
next_text r = codes " ; " ++ single_text r

-- the text of a group's replies
abbrev pub all_text : List SingleReply → List ℕ
all_text [] = codes "all"
all_text (r ∷ replies) = codes "all " ++ (single_text r ++ flat_map next_text replies)

-- the text of a reply to an update of one structure, or to a group
abbrev pub kind_text : Kind SingleReply (List SingleReply) → List ℕ
kind_text (kind.Single r) = single_text r
kind_text (kind.Several replies) = all_text replies

-- the text of a reply
abbrev pub reply_text : Reply → List ℕ
reply_text r = kind_text (reply_kind r)

-- the text of an answer
abbrev pub answer_text : Answer → List ℕ
answer_text answer.Yes = codes "yes"
answer_text answer.No = codes "no"
answer_text (answer.Value v) = codes "value " ++ decimal v
answer_text answer.Missing = codes "none"
answer_text (answer.Head v) = codes "head " ++ decimal v
answer_text answer.Empty = codes "empty"
answer_text (answer.Sizes queue set map) = codes "queue " ++ decimal queue ++ codes " set " ++ decimal set ++ codes " map " ++ decimal map
answer_text (answer.Total t) = codes "total " ++ decimal t
answer_text (answer.Fresh c) = codes "fresh " ++ decimal c

-- the numbers of a reply to an update of one structure are words
abbrev pub SingleFits : SingleReply → Type 0
SingleFits (reply.Head v) = v < 2 ^ 64
SingleFits (reply.Was v) = v < 2 ^ 64
SingleFits (reply.Short v) = v < 2 ^ 64
SingleFits other = Unit {0}

-- the numbers of a reply to an update of one structure, or to a group, are words
abbrev pub KindFits : Kind SingleReply (List SingleReply) → Type 0
KindFits (kind.Single r) = SingleFits r
KindFits (kind.Several replies) = AllByRecursion SingleFits replies

-- the numbers of a reply are words
abbrev pub ReplyFits : Reply → Type 0
ReplyFits r = KindFits (reply_kind r)

-- the numbers of an answer are words, and a total has at most 128 bits
abbrev pub AnswerFits : Answer → Type 0
AnswerFits answer.Yes = Unit {0}
AnswerFits answer.No = Unit {0}
AnswerFits (answer.Value v) = v < 2 ^ 64
AnswerFits answer.Missing = Unit {0}
AnswerFits (answer.Head v) = v < 2 ^ 64
AnswerFits answer.Empty = Unit {0}
AnswerFits (answer.Sizes queue set map) = (queue < 2 ^ 64) × (set < 2 ^ 64) × (map < 2 ^ 64)
AnswerFits (answer.Total t) = t < 2 ^ 128
AnswerFits (answer.Fresh c) = c < 2 ^ 64

-- how a reply to an update of one structure is printed
abbrev pub shown_single : ShownText SingleReply
shown_single = record { text = single_text; Fits = SingleFits }

-- how a reply is printed
abbrev pub shown_reply : ShownText Reply
shown_reply = record { text = reply_text; Fits = ReplyFits }

-- how an answer is printed
abbrev pub shown_answer : ShownText Answer
shown_answer = record { text = answer_text; Fits = AnswerFits }
