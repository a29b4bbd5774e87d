use Rattle.std.proofs.Common.{ℕ, List, Result, Ok, Err, inl, inr, subst}
use Rattle.rom_text.specs.Runs.{IsLineWrittenOrCutShort}
use Rattle.rom_text.specs.Streams.{Prints, ShownSink}
use Rattle.rom_text.specs.Text.{line_text}
use Rattle.rom_text.proofs.Prints.{printed, stopped}
use Rattle.rom_name.specs.Texts.{unadopted_line}
use Rattle.rom_name.proofs.telling.tell_unadopted.Goals as goal

-- a line was printed, or not
line_told : {T E K : Type 0} (sink : ShownSink K) (old new : K) (r : Result T E) (line : List ℕ) → Prints sink old new r (line_text line) → IsLineWrittenOrCutShort sink old new line
line_told sink old new (Ok v) line is = let p = printed sink old new v (line_text line) is in inl (p.bytes, p.faults)
line_told sink old new (Err e) line is = let s = stopped sink old new e (line_text line) is in inr (s.bytes, s.failed)

pub returns-clause-told : goal.returns-clause-told
returns-clause-told g c = (
  c.unadopted_number.ensures,
  line_told g.K.Sink.shown c.args.out.now c.print_text.new.out c.print_text.result (unadopted_line c.args.why)
      (subst (λ text. Prints g.K.Sink.shown c.args.out.now c.print_text.new.out c.print_text.result text) c.unadopted_text.ensures c.print_text.ensures.prints),
)
