use Rattle.std.proofs.Common.{ap, ◌∙◌, subst}
use Rattle.rom_model.specs.Faults.{HasCause}
use Rattle.rom_text.proofs.Prints.{prints_stopped}
use Rattle.rom_text.proofs.Handing.{taken_behind, handed_text}
use Rattle.rom_text.proofs.gathered.print_through.Goals as goal

pub returns-in_err-print-clause-prints : goal.returns-in_err-print-clause-prints
returns-in_err-print-clause-prints g c =
    let o = g.O.Sink.shown in
    let p = c.in_err-print.ensures.prints in
    prints_stopped o _ _ _ c.from_residual.result _ c.from_residual.ensures.1 (record {
      bytes = taken_behind _ _ _ _ _ _ c.requires.none (ap (λ z. z.1) p.rest ∙ c.requires.opened) c.print.new.out.grown p.bytes;
      failed = record { once = p.cause.failed.once; last = c.print.new.out.failed p.cause.failed.last };
      rest = ap (λ z. z.2) p.rest;
    })

pub returns-clause-prints : goal.returns-clause-prints
returns-clause-prints g c =
    let o = g.O.Sink.shown in
    let p = c.in_ok-print.ensures.prints in
    let h = c.hand_over.ensures.hands in
    record {
      bytes = handed_text _ _ _ _ _ _ _ _ c.hand_over.result c.requires.none (c.hand_over.ensures.opened ∙ ap (λ z. z.1) p.rest ∙ c.requires.opened) c.hand_over.new.self.grown
          p.bytes h.kept c.hand_over.ensures.none_waits;
      cause = subst (λ n. HasCause n (o.faults c.hand_over.new.self.out.now) (o.failing c.hand_over.new.self.out.now) c.hand_over.result) p.cause.none h.cause;
      rest = h.rest ∙ ap (λ z. z.2) p.rest;
    }
