-- What the lines of a script ask for.
use Rattle.std.specs.Prelude.{◌≡◌, ℕ, ◌^◌, ◌<◌, true, List, ◌++◌, length, codes}
use Rattle.std.specs.List.{AllByRecursion, join_by}
use Rattle.rom_model.specs.Groups.{is_size}
use Rattle.rom_model.specs.Singles.{kind_of}
use Rattle.rom_model.specs.declared.call.Single.{Single}
use Rattle.rom_model.specs.declared.call.Single.TheVariants as single
use Rattle.rom_model.specs.declared.call.Kind.{Kind}
use Rattle.rom_model.specs.declared.call.Kind.TheVariants as kind
use Rattle.rom_model.specs.declared.call.Call.{Call}
use Rattle.rom_model.specs.declared.call.Query.{Query}
use Rattle.rom_model.specs.declared.call.Query.TheVariants as query
use Rattle.rom_model.specs.declared.line.Step.{Step}
use Rattle.rom_model.specs.declared.line.Step.TheVariants.{Update, Ask, Unread}
pub use Rattle.rom_text.specs.Lines.{lines_of, pieces_of, spaced, without_cr}

-- how an update of one structure is written
abbrev pub single_line : Single → List ℕ
single_line (single.Enq v) = codes "enq" ++ spaced v
single_line single.Deq = codes "deq"
single_line (single.Add k) = codes "add" ++ spaced k
single_line (single.Rem k) = codes "rem" ++ spaced k
single_line (single.Put k v) = codes "put" ++ spaced k ++ spaced v
single_line (single.Del k) = codes "del" ++ spaced k
single_line (single.Move a b d) = codes "move" ++ spaced a ++ spaced b ++ spaced d

-- how the members of a group are written: one behind the other, between each two a semicolon with a space on either side
abbrev pub members_line : List Single → List ℕ
members_line calls = join_by single_line (codes " ; ") calls

-- how an update is written, of one structure or of several
abbrev pub kind_line : Kind Single (List Single) → List ℕ
kind_line (kind.Single c) = single_line c
kind_line (kind.Several calls) = codes "tx " ++ members_line calls

-- how a call is written
abbrev pub call_line : Call → List ℕ
call_line call = kind_line (kind_of call)

-- how a query is written
abbrev pub query_line : Query → List ℕ
query_line (query.Has k) = codes "has" ++ spaced k
query_line (query.Get k) = codes "get" ++ spaced k
query_line query.Peek = codes "peek"
query_line query.Len = codes "len"
query_line query.Total = codes "total"
query_line (query.Fresh place) = codes "fresh" ++ spaced place

-- each number of an update of one structure has at most 64 bits
abbrev pub SingleCallFits : Single → Type 0
SingleCallFits (single.Enq v) = v < 2 ^ 64
SingleCallFits single.Deq = Unit {0}
SingleCallFits (single.Add k) = k < 2 ^ 64
SingleCallFits (single.Rem k) = k < 2 ^ 64
SingleCallFits (single.Put k v) = (k < 2 ^ 64) × (v < 2 ^ 64)
SingleCallFits (single.Del k) = k < 2 ^ 64
SingleCallFits (single.Move a b d) = (a < 2 ^ 64) × (b < 2 ^ 64) × (d < 2 ^ 64)

-- each of two to eight members fits so
abbrev pub MembersFit : List Single → Type 0
MembersFit calls = (is_size (length calls) ≡ true) × AllByRecursion SingleCallFits calls

-- an update fits, of one structure or of several
abbrev pub CallKindFits : Kind Single (List Single) → Type 0
CallKindFits (kind.Single c) = SingleCallFits c
CallKindFits (kind.Several calls) = MembersFit calls

-- each number of a call does, and a group has two to eight members
abbrev pub CallFits : Call → Type 0
CallFits call = CallKindFits (kind_of call)

-- each number of a query has at most 64 bits
abbrev pub QueryFits : Query → Type 0
QueryFits (query.Has k) = k < 2 ^ 64
QueryFits (query.Get k) = k < 2 ^ 64
QueryFits query.Peek = Unit {0}
QueryFits query.Len = Unit {0}
QueryFits query.Total = Unit {0}
QueryFits (query.Fresh place) = place < 2 ^ 64

-- each number of a step has at most 64 bits
abbrev pub StepFits : Step Call Query → Type 0
StepFits (Update call) = CallFits call
StepFits (Ask query) = QueryFits query
StepFits Unread = Unit {0}

-- The line is written as the step is, or as no step is.
abbrev pub ReadsTrio : List ℕ → Step Call Query → Type 0
ReadsTrio line (Update c) = CallFits c × (line ≡ call_line c)
ReadsTrio line (Ask q) = QueryFits q × (line ≡ query_line q)
ReadsTrio line Unread = ((c : Call) → CallFits c → line ≡ call_line c → ⊥) × ((q : Query) → QueryFits q → line ≡ query_line q → ⊥)
