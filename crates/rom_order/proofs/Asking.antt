-- The lines that calls and queries have.
use Rattle.std.specs.Prelude.{◌≡◌, ◌≢◌, ℕ, ◌≤◌, List, ◌∷◌, length, drop, map, decimal, true}
use Rattle.std.specs.List.{join_with_byte}
use Rattle.std.proofs.Common.{refl, sym, ap, subst, ◌∙◌, arith, rules, append_assoc}
use Rattle.std.proofs.lemmas.List.Splits.{join_with_byte-slice_split}
use Rattle.rom_model.specs.declared.line.Step.{Step}
use Rattle.rom_model.specs.declared.line.Step.TheVariants.{Update, Ask, Unread}
use Rattle.rom_text.specs.Phrases.{NumbersFit, line_words, phrase_words}
use Rattle.rom_text.proofs.Phrases.{numbers_are, phrase_read}
use Rattle.rom_text.proofs.Reading.{is_word}
use Rattle.rom_order_region.specs.declared.call.OrderCall.{OrderCall}
use Rattle.rom_order_region.specs.declared.call.OrderCall.TheVariants.{Put, Del}
use Rattle.rom_order_region.specs.declared.call.OrderQuery.{OrderQuery}
use Rattle.rom_order_region.specs.declared.call.OrderQuery.TheVariants.{Get, From, Range}
use Rattle.rom_order.specs.Asking.{AsksIndex, index_call_phrase, index_query_phrase}
use Rattle.rom_order.specs.Lines.{IndexCallFits, IndexQueryFits, ReadsIndex, index_call_line, index_query_line}

-- the line of a call is its name and its numbers with spaces between
call_joined : (c : OrderCall) → index_call_line c ≡ join_with_byte 32 (phrase_words (index_call_phrase c).0 (index_call_phrase c).1)
call_joined (Put k v) = refl
call_joined (Del k) = refl

-- and so is a query's
query_joined : (q : OrderQuery) → index_query_line q ≡ join_with_byte 32 (phrase_words (index_query_phrase q).0 (index_query_phrase q).1)
query_joined (Get k) = refl
query_joined (From k) = refl
query_joined (Range a b) = refl

-- the name of a call is a word
call_named : (c : OrderCall) → is_word (index_call_phrase c).0 ≡ true
call_named (Put k v) = refl
call_named (Del k) = refl

-- and so is a query's
query_named : (q : OrderQuery) → is_word (index_query_phrase q).0 ≡ true
query_named (Get k) = refl
query_named (From k) = refl
query_named (Range a b) = refl

-- the words of a call's line
call_words : (c : OrderCall) → line_words (index_call_line c) ≡ phrase_words (index_call_phrase c).0 (index_call_phrase c).1
call_words c = ap line_words (call_joined c) ∙ phrase_read (index_call_phrase c).0 (index_call_phrase c).1 (call_named c)

-- the words of a query's line
query_words : (q : OrderQuery) → line_words (index_query_line q) ≡ phrase_words (index_query_phrase q).0 (index_query_phrase q).1
query_words q = ap line_words (query_joined q) ∙ phrase_read (index_query_phrase q).0 (index_query_phrase q).1 (query_named q)

-- a call fits where its numbers do
call_fits : (c : OrderCall) → IndexCallFits c → NumbersFit (index_call_phrase c).1
call_fits (Put k v) fits = (fits.0, (fits.1, tt))
call_fits (Del k) fits = (fits, tt)

fits_call : (c : OrderCall) → NumbersFit (index_call_phrase c).1 → IndexCallFits c
fits_call (Put k v) fit = (fit.0, fit.1.0)
fits_call (Del k) fit = fit.0

-- the same of a query
query_fits : (q : OrderQuery) → IndexQueryFits q → NumbersFit (index_query_phrase q).1
query_fits (Get k) fits = (fits, tt)
query_fits (From k) fits = (fits, tt)
query_fits (Range a b) fits = (fits.0, (fits.1, tt))

fits_query : (q : OrderQuery) → NumbersFit (index_query_phrase q).1 → IndexQueryFits q
fits_query (Get k) fit = fit.0
fits_query (From k) fit = fit.0
fits_query (Range a b) fit = (fit.0, fit.1.0)

-- no call and no query has more than three numbers
call_is_short : (c : OrderCall) → length (index_call_phrase c).1 ≤ 3
call_is_short (Put k v) = omega arith
call_is_short (Del k) = omega arith

query_is_short : (q : OrderQuery) → length (index_query_phrase q).1 ≤ 3
query_is_short (Get k) = omega arith
query_is_short (From k) = omega arith
query_is_short (Range a b) = omega arith

-- a name and numbers are those of the words
phrase_is : (name numbers : List ℕ) (p : List ℕ × List ℕ) → NumbersFit numbers → NumbersFit p.1 → phrase_words name numbers ≡ phrase_words p.0 p.1 → (name, numbers) ≡ p
phrase_is name numbers (w, ns) fit fit_ns same = λ i. (first_of same i, numbers_are numbers ns fit fit_ns (ap (drop 1) same) i)
  where
    first_of : name ∷ map decimal numbers ≡ w ∷ map decimal ns → name ≡ w
    first_of is = search rules

-- a line of these words asks for what the words ask for
pub asked_reads : (line name numbers : List ℕ) (step : Step OrderCall OrderQuery) → line_words line ≡ phrase_words name numbers → NumbersFit numbers → AsksIndex name numbers step → ReadsIndex line step
asked_reads line name numbers (Update c) words fit asks = (
  fits_call c (subst NumbersFit (ap (λ p. p.1) asks) fit),
  sym (join_with_byte-slice_split 32 line) ∙ ap (join_with_byte 32) words ∙ ap (λ p. join_with_byte 32 (phrase_words p.0 p.1)) asks ∙ sym (call_joined c),
)
asked_reads line name numbers (Ask q) words fit asks = (
  fits_query q (subst NumbersFit (ap (λ p. p.1) asks) fit),
  sym (join_with_byte-slice_split 32 line) ∙ ap (join_with_byte 32) words ∙ ap (λ p. join_with_byte 32 (phrase_words p.0 p.1)) asks ∙ sym (query_joined q),
)
asked_reads line name numbers Unread words fit asks = (
  (λ c fits is. asks.0 c (phrase_is name numbers (index_call_phrase c) fit (call_fits c fits) (sym words ∙ ap line_words is ∙ call_words c))),
  (λ q fits is. asks.1 q (phrase_is name numbers (index_query_phrase q) fit (query_fits q fits) (sym words ∙ ap line_words is ∙ query_words q))),
)

-- a line that is no word with numbers behind it is unread
pub no_phrase_reads : (line : List ℕ) → ((name numbers : List ℕ) → length numbers ≤ 3 → NumbersFit numbers → line_words line ≢ phrase_words name numbers) → ReadsIndex line Unread
no_phrase_reads line none = (
  (λ c fits is. none (index_call_phrase c).0 (index_call_phrase c).1 (call_is_short c) (call_fits c fits) (ap line_words is ∙ call_words c)),
  (λ q fits is. none (index_query_phrase q).0 (index_query_phrase q).1 (query_is_short q) (query_fits q fits) (ap line_words is ∙ query_words q)),
)
