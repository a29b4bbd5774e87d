-- The lines that updates of one structure and queries have.
use Rattle.std.specs.Prelude.{◌≡◌, ◌≢◌, ℕ, ◌≤◌, List, ◌∷◌, ◌++◌, codes, length, drop, map, decimal, Option, Some, None, IfSome, IfNone, MatchOption, take, true, false, nat_eq, ◌+◌}
use Rattle.std.proofs.Common.{refl, sym, ap, subst, ◌∙◌, arith, rules, append_assoc}
use Rattle.std.specs.Borrow.{Bor}
use Rattle.std.specs.Cmp.Lexicographic.{pointwise}
use Rattle.std.proofs.lemmas.Bool.Decides.{Decides-eqb}
use Rattle.std.specs.List.{join_with_byte}
use Rattle.std.proofs.lemmas.Slice.Eq.{strip_prefix_is}
use Rattle.std.proofs.lemmas.List.Splits.{join_with_byte-slice_split}
use Rattle.rom_model.specs.Singles.{call_of, kind_of}
use Rattle.rom_model.specs.declared.call.Single.{Single}
use Rattle.rom_model.specs.declared.call.Single.TheVariants as single
use Rattle.rom_model.specs.declared.call.Kind.{Kind}
use Rattle.rom_model.specs.declared.call.Kind.TheVariants as kind
use Rattle.rom_model.specs.declared.call.Call.{Call}
use Rattle.rom_model.specs.declared.call.Query.{Query}
use Rattle.rom_model.specs.declared.call.Query.TheVariants as query
use Rattle.rom_model.specs.declared.line.Step.{Step}
use Rattle.rom_model.specs.declared.line.Step.TheVariants.{Update, Ask, Unread}
use Rattle.rom_text.specs.Phrases.{NumbersFit, line_words, phrase_words}
use Rattle.rom_text.proofs.Phrases.{numbers_are, phrase_read}
use Rattle.rom_text.proofs.Reading.{is_word}
use Rattle.rom_script.specs.Asking.{Asks, AsksUpdate, single_phrase, query_phrase}
use Rattle.rom_script.specs.Lines.{CallKindFits, QueryFits, ReadsTrio, SingleCallFits, kind_line, members_line, query_line, single_line}

-- the line of an update of one structure is its name and its numbers with spaces between
pub single_joined : (c : Single) → single_line c ≡ join_with_byte 32 (phrase_words (single_phrase c).0 (single_phrase c).1)
single_joined (single.Enq v) = refl
single_joined single.Deq = refl
single_joined (single.Add k) = refl
single_joined (single.Rem k) = refl
single_joined (single.Put k v) = refl
single_joined (single.Del k) = refl
single_joined (single.Move a b d) = simp append_assoc refl

-- and so is a query's
query_joined : (q : Query) → query_line q ≡ join_with_byte 32 (phrase_words (query_phrase q).0 (query_phrase q).1)
query_joined (query.Has k) = refl
query_joined (query.Get k) = refl
query_joined query.Peek = refl
query_joined query.Len = refl
query_joined query.Total = refl
query_joined (query.Fresh place) = refl

-- the name of an update is a word
pub single_named : (c : Single) → is_word (single_phrase c).0 ≡ true
single_named (single.Enq v) = refl
single_named single.Deq = refl
single_named (single.Add k) = refl
single_named (single.Rem k) = refl
single_named (single.Put k v) = refl
single_named (single.Del k) = refl
single_named (single.Move a b d) = refl

-- and so is a query's
query_named : (q : Query) → is_word (query_phrase q).0 ≡ true
query_named (query.Has k) = refl
query_named (query.Get k) = refl
query_named query.Peek = refl
query_named query.Len = refl
query_named query.Total = refl
query_named (query.Fresh place) = refl

-- an update fits where its numbers do
pub single_fits : (c : Single) → SingleCallFits c → NumbersFit (single_phrase c).1
single_fits (single.Enq v) fits = (fits, tt)
single_fits single.Deq fits = tt
single_fits (single.Add k) fits = (fits, tt)
single_fits (single.Rem k) fits = (fits, tt)
single_fits (single.Put k v) fits = (fits.0, (fits.1, tt))
single_fits (single.Del k) fits = (fits, tt)
single_fits (single.Move a b d) fits = (fits.0, (fits.1, (fits.2, tt)))

pub fits_single : (c : Single) → NumbersFit (single_phrase c).1 → SingleCallFits c
fits_single (single.Enq v) fit = fit.0
fits_single single.Deq fit = tt
fits_single (single.Add k) fit = fit.0
fits_single (single.Rem k) fit = fit.0
fits_single (single.Put k v) fit = (fit.0, fit.1.0)
fits_single (single.Del k) fit = fit.0
fits_single (single.Move a b d) fit = (fit.0, fit.1.0, fit.1.1.0)

-- the same of a query
query_fits : (q : Query) → QueryFits q → NumbersFit (query_phrase q).1
query_fits (query.Has k) fits = (fits, tt)
query_fits (query.Get k) fits = (fits, tt)
query_fits query.Peek fits = tt
query_fits query.Len fits = tt
query_fits query.Total fits = tt
query_fits (query.Fresh place) fits = (fits, tt)

fits_query : (q : Query) → NumbersFit (query_phrase q).1 → QueryFits q
fits_query (query.Has k) fit = fit.0
fits_query (query.Get k) fit = fit.0
fits_query query.Peek fit = tt
fits_query query.Len fit = tt
fits_query query.Total fit = tt
fits_query (query.Fresh place) fit = fit.0

-- no update of one structure and no query has more than three numbers
pub single_is_short : (c : Single) → length (single_phrase c).1 ≤ 3
single_is_short (single.Enq v) = omega arith
single_is_short single.Deq = omega arith
single_is_short (single.Add k) = omega arith
single_is_short (single.Rem k) = omega arith
single_is_short (single.Put k v) = omega arith
single_is_short (single.Del k) = omega arith
single_is_short (single.Move a b d) = omega arith

query_is_short : (q : Query) → length (query_phrase q).1 ≤ 3
query_is_short (query.Has k) = omega arith
query_is_short (query.Get k) = omega arith
query_is_short query.Peek = omega arith
query_is_short query.Len = omega arith
query_is_short query.Total = omega arith
query_is_short (query.Fresh place) = omega arith

-- How commands of one kind are written: a word, and at most three numbers behind it, which the line has with spaces between.
pub record Phrased (X : Type 0) : Type 1 where
  pub phrase : X → List ℕ × List ℕ
  pub line : X → List ℕ
  pub Fits : X → Type 0
  pub joined : (x : X) → line x ≡ join_with_byte 32 (phrase_words (phrase x).0 (phrase x).1)
  pub named : (x : X) → is_word (phrase x).0 ≡ true
  pub numbers_fit : (x : X) → Fits x → NumbersFit (phrase x).1
  pub fits : (x : X) → NumbersFit (phrase x).1 → Fits x
  pub short : (x : X) → length (phrase x).1 ≤ 3

-- the updates of a queue, a set and a map
abbrev pub phrased_updates : Phrased Single
phrased_updates = record { phrase = single_phrase; line = single_line; Fits = SingleCallFits; joined = single_joined; named = single_named; numbers_fit = single_fits; fits = fits_single; short = single_is_short }

-- the queries
abbrev phrased_queries : Phrased Query
phrased_queries = record { phrase = query_phrase; line = query_line; Fits = QueryFits; joined = query_joined; named = query_named; numbers_fit = query_fits; fits = fits_query; short = query_is_short }

-- a name and numbers are those of the words
phrase_is : (name numbers : List ℕ) (p : List ℕ × List ℕ) → NumbersFit numbers → NumbersFit p.1 → phrase_words name numbers ≡ phrase_words p.0 p.1 → (name, numbers) ≡ p
phrase_is name numbers (w, ns) fit fit_ns same = λ i. (first_of same i, numbers_are numbers ns fit fit_ns (ap (drop 1) same) i)
  where
    first_of : name ∷ map decimal numbers ≡ w ∷ map decimal ns → name ≡ w
    first_of is = search rules

module _ {X : Type 0} (phrased : Phrased X) where
  -- the words of a command's line
  words_of : (x : X) → line_words (phrased.line x) ≡ phrase_words (phrased.phrase x).0 (phrased.phrase x).1
  words_of x = ap line_words (phrased.joined x) ∙ phrase_read (phrased.phrase x).0 (phrased.phrase x).1 (phrased.named x)

  -- it is asked for by its words alone
  pub phrase_reads : (line name numbers : List ℕ) (x : X) → line_words line ≡ phrase_words name numbers → NumbersFit numbers → (name, numbers) ≡ phrased.phrase x → phrased.Fits x × (line ≡ phrased.line x)
  phrase_reads line name numbers x words fit asks = (
    phrased.fits x (subst NumbersFit (ap (λ p. p.1) asks) fit),
    sym (join_with_byte-slice_split 32 line) ∙ ap (join_with_byte 32) words ∙ ap (λ p. join_with_byte 32 (phrase_words p.0 p.1)) asks ∙ sym (phrased.joined x),
  )

  -- words that ask for no command are those of no command's line
  pub no_phrase_of : (line name numbers : List ℕ) → line_words line ≡ phrase_words name numbers → NumbersFit numbers → ((x : X) → (name, numbers) ≢ phrased.phrase x) → (x : X) → phrased.Fits x → line ≢ phrased.line x
  no_phrase_of line name numbers words fit none x fits is =
      none x (phrase_is name numbers (phrased.phrase x) fit (phrased.numbers_fit x fits) (sym words ∙ ap line_words is ∙ words_of x))

  -- a line that is no word with numbers behind it is no command's
  pub no_phrase : (line : List ℕ) → ((name numbers : List ℕ) → length numbers ≤ 3 → NumbersFit numbers → line_words line ≢ phrase_words name numbers) → (x : X) → phrased.Fits x → line ≢ phrased.line x
  no_phrase line none x fits is = none (phrased.phrase x).0 (phrased.phrase x).1 (phrased.short x) (phrased.numbers_fit x fits) (ap line_words is ∙ words_of x)

-- the same of what is found for the numbers of the words
module _ {X : Type 0} (phrased : Phrased X) (line name numbers asked : List ℕ) (o : Option X) (words : line_words line ≡ phrase_words name numbers) (fit : NumbersFit numbers) (same : asked ≡ numbers) where
  pub command_of : IfSome o (λ x. (name, asked) ≡ phrased.phrase x) → IfSome o (λ x. phrased.Fits x × (line ≡ phrased.line x))
  command_of some = by_option o some
    where
      by_option : (o : Option X) → IfSome o (λ x. (name, asked) ≡ phrased.phrase x) → IfSome o (λ x. phrased.Fits x × (line ≡ phrased.line x))
      by_option None some = some
      by_option (Some x) some = phrase_reads phrased line name numbers x words fit (subst (λ ns. (name, ns) ≡ phrased.phrase x) same some)

  pub no_command_of : IfNone o ((x : X) → (name, asked) ≢ phrased.phrase x) → IfNone o ((x : X) → phrased.Fits x → line ≢ phrased.line x)
  no_command_of none = by_option o none
    where
      by_option : (o : Option X) → IfNone o ((x : X) → (name, asked) ≢ phrased.phrase x) → IfNone o ((x : X) → phrased.Fits x → line ≢ phrased.line x)
      by_option None none = no_phrase_of phrased line name numbers words fit (subst (λ ns. (x : X) → (name, ns) ≢ phrased.phrase x) same none)
      by_option (Some x) none = none

-- no line of a group is such
abbrev pub NoGroup : List ℕ → Type 0
NoGroup line = (members : List ℕ) → line ≢ codes "tx " ++ members

-- what is written as no update of one structure, and as no group, is written as no call
no_call : (line : List ℕ) → NoGroup line → ((c : Single) → SingleCallFits c → line ≢ single_line c) → (k : Kind Single (List Single)) → CallKindFits k → line ≢ kind_line k
no_call line other none (kind.Single c) fits is = none c fits is
no_call line other none (kind.Several calls) fits is = other (members_line calls) is

-- a line of these words, which is no group's, asks for what the words ask for
pub asked_reads : (line name numbers : List ℕ) (step : Step Call Query) → NoGroup line → line_words line ≡ phrase_words name numbers → NumbersFit numbers → Asks name numbers step → ReadsTrio line step
asked_reads line name numbers (Update call) other words fit asks = by_kind (kind_of call) asks
  where
    by_kind : (k : Kind Single (List Single)) → AsksUpdate name numbers k → CallKindFits k × (line ≡ kind_line k)
    by_kind (kind.Single c) is = phrase_reads phrased_updates line name numbers c words fit is
    by_kind (kind.Several calls) is = absurd is
asked_reads line name numbers (Ask q) other words fit asks = phrase_reads phrased_queries line name numbers q words fit asks
asked_reads line name numbers Unread other words fit asks = (
  (λ call. no_call line other (no_phrase_of phrased_updates line name numbers words fit asks.0) (kind_of call)),
  no_phrase_of phrased_queries line name numbers words fit asks.1,
)

-- a line that is no group's and no word with numbers behind it is unread
pub no_phrase_reads : (line : List ℕ) → NoGroup line → ((name numbers : List ℕ) → length numbers ≤ 3 → NumbersFit numbers → line_words line ≢ phrase_words name numbers) → ReadsTrio line Unread
no_phrase_reads line other none = ((λ call. no_call line other (no_phrase phrased_updates line none) (kind_of call)), no_phrase phrased_queries line none)

-- the call of an update of one structure is asked for by the update's words
pub asks_single : (name numbers : List ℕ) (c : Single) → (name, numbers) ≡ single_phrase c → Asks name numbers (Update (call_of c))
asks_single name numbers (single.Enq v) is = is
asks_single name numbers single.Deq is = is
asks_single name numbers (single.Add k) is = is
asks_single name numbers (single.Rem k) is = is
asks_single name numbers (single.Put k v) is = is
asks_single name numbers (single.Del k) is = is
asks_single name numbers (single.Move a b d) is = is

-- how a line begins, by what is left of it
pub group_text : (line : List ℕ) (r : Option (Bor (List ℕ))) →
    MatchOption r (pointwise nat_eq (take 3 line) (codes "tx ") ≡ false) (λ x. (pointwise nat_eq (take 3 line) (codes "tx ") ≡ true) × (x.now ≡ drop 3 line) × (length x.now + 3 ≡ length line)) →
    MatchOption r (NoGroup line) (λ x. line ≡ codes "tx " ++ x.now)
group_text line r cases = strip_prefix_is Decides-eqb line (codes "tx ") r cases
