-- What the words of a line ask for.
use Rattle.std.specs.Prelude.{◌≡◌, ℕ, List, [], ◌∷◌, codes}
use Rattle.rom_model.specs.Singles.{kind_of}
use Rattle.rom_model.specs.declared.call.Single.{Single}
use Rattle.rom_model.specs.declared.call.Single.TheVariants as single
use Rattle.rom_model.specs.declared.call.Kind.{Kind}
use Rattle.rom_model.specs.declared.call.Kind.TheVariants as kind
use Rattle.rom_model.specs.declared.call.Call.{Call}
use Rattle.rom_model.specs.declared.call.Query.{Query}
use Rattle.rom_model.specs.declared.call.Query.TheVariants as query
use Rattle.rom_model.specs.declared.line.Step.{Step}
use Rattle.rom_model.specs.declared.line.Step.TheVariants.{Update, Ask, Unread}

-- the first word of the line of an update of one structure, and the numbers behind it
abbrev pub single_phrase : Single → List ℕ × List ℕ
single_phrase (single.Enq v) = (codes "enq", v ∷ [])
single_phrase single.Deq = (codes "deq", [])
single_phrase (single.Add k) = (codes "add", k ∷ [])
single_phrase (single.Rem k) = (codes "rem", k ∷ [])
single_phrase (single.Put k v) = (codes "put", k ∷ v ∷ [])
single_phrase (single.Del k) = (codes "del", k ∷ [])
single_phrase (single.Move a b d) = (codes "move", a ∷ b ∷ d ∷ [])

-- the first word of a query's line, and the number behind it where there is one
abbrev pub query_phrase : Query → List ℕ × List ℕ
query_phrase (query.Has k) = (codes "has", k ∷ [])
query_phrase (query.Get k) = (codes "get", k ∷ [])
query_phrase query.Peek = (codes "peek", [])
query_phrase query.Len = (codes "len", [])
query_phrase query.Total = (codes "total", [])
query_phrase (query.Fresh place) = (codes "fresh", place ∷ [])

-- They are those of the update. Of a group they never are: its line is no word with numbers behind it.
abbrev pub AsksUpdate : List ℕ → List ℕ → Kind Single (List Single) → Type 0
AsksUpdate name numbers (kind.Single c) = (name, numbers) ≡ single_phrase c
AsksUpdate name numbers (kind.Several calls) = ⊥

-- a line of this word and these numbers asks for the step, or for none
abbrev pub Asks : List ℕ → List ℕ → Step Call Query → Type 0
Asks name numbers (Update call) = AsksUpdate name numbers (kind_of call)
Asks name numbers (Ask q) = (name, numbers) ≡ query_phrase q
Asks name numbers Unread = ((c : Single) → (name, numbers) ≡ single_phrase c → ⊥) × ((q : Query) → (name, numbers) ≡ query_phrase q → ⊥)
