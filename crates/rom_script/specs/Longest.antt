-- How long a line is that asks for something: 560 bytes at most, which a group of eight has.
use Rattle.std.specs.Prelude.{◌≡◌, ℕ, ◌+◌, ◌*◌, ◌^◌, ◌<◌, ◌≤◌, nat_le, true, List, [], ◌∷◌, ◌++◌, length, codes, decimal}
use Rattle.std.specs.List.{AllByRecursion, flat_map, join_by}
use Rattle.std.proofs.Common.{ap, arith, length-append}
use Rattle.std.proofs.lemmas.Bool.{and_parts, leb-true}
use Rattle.rom_model.specs.Groups.{is_size}
use Rattle.rom_model.specs.Singles.{kind_of}
use Rattle.rom_model.specs.declared.call.Single.{Single}
use Rattle.rom_model.specs.declared.call.Single.TheVariants as single
use Rattle.rom_model.specs.declared.call.Kind.{Kind}
use Rattle.rom_model.specs.declared.call.Kind.TheVariants as kind
use Rattle.rom_model.specs.declared.call.Call.{Call}
use Rattle.rom_model.specs.declared.call.Query.{Query}
use Rattle.rom_model.specs.declared.call.Query.TheVariants as query
use Rattle.rom_model.specs.declared.line.Step.TheVariants.{Unread}
use Rattle.rom_text.proofs.Numbers.{number_short}
use Rattle.rom_text.specs.declared.short.TheConstants.{LONGEST}
use Rattle.rom_script.specs.Lines.{CallFits, CallKindFits, QueryFits, ReadsTrio, SingleCallFits, call_line, kind_line, members_line, query_line, single_line, spaced}

-- a number with its space has at most 21 bytes
pub spaced_short : (n : ℕ) → n < 2 ^ 64 → length (spaced n) ≤ 21
spaced_short n fits = omega (arith, number_short n fits)

-- an update of one structure has at most 67
pub single_short : (c : Single) → SingleCallFits c → length (single_line c) ≤ 67
single_short (single.Enq v) fits = omega (arith, length-append (codes "enq") (spaced v), spaced_short v fits)
single_short single.Deq fits = omega arith
single_short (single.Add k) fits = omega (arith, length-append (codes "add") (spaced k), spaced_short k fits)
single_short (single.Rem k) fits = omega (arith, length-append (codes "rem") (spaced k), spaced_short k fits)
single_short (single.Put k v) fits = omega (arith, length-append (decimal k) (spaced v), number_short k fits.0, spaced_short v fits.1)
single_short (single.Del k) fits = omega (arith, length-append (codes "del") (spaced k), spaced_short k fits)
single_short (single.Move a b d) fits =
    omega (arith, length-append (decimal a ++ spaced b) (spaced d), length-append (decimal a) (spaced b), number_short a fits.0, spaced_short b fits.1, spaced_short d fits.2)

few_members : (n : ℕ) → is_size n ≡ true → n ≤ 8
few_members n is = leb-true n 8 (and_parts (nat_le 2 n) (nat_le n 8) is).1

-- the members of a group, of which none has a longer line
module _ {X : Type 0} (line : X → List ℕ) (Fits : X → Type 0) (short : (x : X) → Fits x → length (line x) ≤ 67) where
  -- each further member brings a separator
  further_short : (members : List X) → AllByRecursion Fits members → length (flat_map (λ x. codes " ; " ++ line x) members) ≤ 70 * length members
  further_short [] fits = omega arith
  further_short (x ∷ members) fits =
      omega (arith, length-append (codes " ; " ++ line x) (flat_map (λ x. codes " ; " ++ line x) members), length-append (codes " ; ") (line x), short x fits.0, further_short members fits.1)

  pub members_short : (members : List X) → is_size (length members) ≡ true → AllByRecursion Fits members → length (join_by line (codes " ; ") members) ≤ 557
  members_short [] size fits = omega arith
  members_short (x ∷ members) size fits =
      omega (arith, length-append (line x) (flat_map (λ x. codes " ; " ++ line x) members), short x fits.0, further_short members fits.1, few_members (length (x ∷ members)) size)

kind_short : (k : Kind Single (List Single)) → CallKindFits k → length (kind_line k) ≤ 560
kind_short (kind.Single c) fits = omega (arith, single_short c fits)
kind_short (kind.Several calls) fits = omega (arith, length-append (codes "tx ") (members_line calls), members_short single_line SingleCallFits single_short calls fits.0 fits.1)

-- an update has at most 560
pub call_short : (c : Call) → CallFits c → length (call_line c) ≤ 560
call_short c fits = kind_short (kind_of c) fits

-- a query has at most 26
pub query_short : (q : Query) → QueryFits q → length (query_line q) ≤ 26
query_short (query.Has k) fits = omega (arith, length-append (codes "has") (spaced k), spaced_short k fits)
query_short (query.Get k) fits = omega (arith, length-append (codes "get") (spaced k), spaced_short k fits)
query_short query.Peek fits = omega arith
query_short query.Len fits = omega arith
query_short query.Total fits = omega arith
query_short (query.Fresh place) fits = omega (arith, length-append (codes "fresh") (spaced place), spaced_short place fits)

-- a longer line is written as no step is
pub long_unread : (line : List ℕ) → LONGEST < length line → ReadsTrio line Unread
long_unread line long = (
  λ c fits is. absurd (omega (arith, long, ap length is, call_short c fits)),
  λ q fits is. absurd (omega (arith, long, ap length is, query_short q fits)),
)
