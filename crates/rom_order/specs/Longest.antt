-- How long a line is that asks for something: 47 bytes at most, which a range of two long numbers has.
use Rattle.std.specs.Prelude.{ℕ, ◌^◌, ◌<◌, ◌≤◌, List, length, codes, decimal}
use Rattle.std.proofs.Common.{ap, arith, length-append}
use Rattle.rom_model.specs.declared.line.Step.TheVariants.{Unread}
use Rattle.rom_text.proofs.Numbers.{number_short}
use Rattle.rom_text.specs.Lines.{spaced}
use Rattle.rom_text.specs.declared.short.TheConstants.{LONGEST}
use Rattle.rom_order_region.specs.declared.call.OrderCall.{OrderCall}
use Rattle.rom_order_region.specs.declared.call.OrderCall.TheVariants.{Put, Del}
use Rattle.rom_order_region.specs.declared.call.OrderQuery.{OrderQuery}
use Rattle.rom_order_region.specs.declared.call.OrderQuery.TheVariants.{Get, From, Range}
use Rattle.rom_order.specs.Lines.{IndexCallFits, IndexQueryFits, ReadsIndex, index_call_line, index_query_line}

spaced_short : (n : ℕ) → n < 2 ^ 64 → length (spaced n) ≤ 21
spaced_short n fits = omega (arith, number_short n fits)

call_short : (c : OrderCall) → IndexCallFits c → length (index_call_line c) ≤ 45
call_short (Put k v) fits = omega (arith, length-append (decimal k) (spaced v), number_short k fits.0, spaced_short v fits.1)
call_short (Del k) fits = omega (arith, length-append (codes "del") (spaced k), spaced_short k fits)

query_short : (q : OrderQuery) → IndexQueryFits q → length (index_query_line q) ≤ 47
query_short (Get k) fits = omega (arith, length-append (codes "get") (spaced k), spaced_short k fits)
query_short (From k) fits = omega (arith, length-append (codes "from") (spaced k), spaced_short k fits)
query_short (Range a b) fits = omega (arith, length-append (decimal a) (spaced b), number_short a fits.0, spaced_short b fits.1)

-- a longer line is written as no step is
pub long_unread : (line : List ℕ) → LONGEST < length line → ReadsIndex line Unread
long_unread line long = (
  λ c fits is. absurd (omega (arith, long, ap length is, call_short c fits)),
  λ q fits is. absurd (omega (arith, long, ap length is, query_short q fits)),
)
