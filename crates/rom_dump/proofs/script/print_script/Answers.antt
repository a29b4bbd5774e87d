use Rattle.std.proofs.Common.{inl, inr, sym, subst}
use Rattle.rom_carry.specs.Scripts.{script_of}
use Rattle.rom_run.specs.Statuses.{exit_number}
use Rattle.rom_dump.specs.Shown.{EndsAsScript, EndsAsText, EndsAsWhole}
use Rattle.rom_dump.proofs.Showing.{put_again}
use Rattle.rom_dump.proofs.script.print_script.Goals as goal

pub returns-in-Some-clause-printed : goal.returns-in-Some-clause-printed
returns-in-Some-clause-printed g c =
    let o = g.K.Sink.shown in
    let lines = g.C.Elements.Written.lines c.in-Ok.elements in
    let many = g.C.Elements.Written.bounds.part in
    let fits = g.met.C.Elements.Written.part_fits in
    let text = subst (λ ls. EndsAsText o (script_of ls) c.args.out.now c.print_part.new.out (exit_number c.print_part.result)) c.of.ensures c.print_part.ensures.text in
    let again : EndsAsScript o many c.args.part lines c.args.out.now c.print_part.new.out (exit_number c.print_part.result) = subst (λ p. EndsAsScript o many p lines c.args.out.now c.print_part.new.out (exit_number c.print_part.result)) (sym c.in-Some.is) text in
    inl (put_again o (record { kind = g.O.Object.KIND; Carrying = g.C.Carry.Carrying; Sized = g.C.Carry.Sized; Measured = g.C.Carry.Measured; bounds = g.C.Elements.Written.bounds }) c.args.order c.args.image.items lines c.args.part c.args.out.now c.print_part.new.out (exit_number c.print_part.result)
    (subst (λ w. g.C.Carry.Carrying c.args.order w lines) c.of-space.ensures c.in-Ok.ensures.carrying) c.in-Ok.ensures.written fits.1 fits.2 again)

pub returns-clause-printed : goal.returns-clause-printed
returns-clause-printed g c =
    let o = g.K.Sink.shown in
    let lines = g.C.Elements.Written.lines c.in-Ok.elements in
    let many = g.C.Elements.Written.bounds.part in
    let fits = g.met.C.Elements.Written.part_fits in
    let text = subst (λ ls. EndsAsWhole o many ls c.args.out.now c.print_whole.new.out (exit_number c.print_whole.result)) c.whole.ensures.lines c.print_whole.ensures.text in
    let again : EndsAsScript o many c.args.part lines c.args.out.now c.print_whole.new.out (exit_number c.print_whole.result) = subst (λ p. EndsAsScript o many p lines c.args.out.now c.print_whole.new.out (exit_number c.print_whole.result)) (sym c.in-None.is) text in
    inl (put_again o (record { kind = g.O.Object.KIND; Carrying = g.C.Carry.Carrying; Sized = g.C.Carry.Sized; Measured = g.C.Carry.Measured; bounds = g.C.Elements.Written.bounds }) c.args.order c.args.image.items lines c.args.part c.args.out.now c.print_whole.new.out (exit_number c.print_whole.result)
    (subst (λ w. g.C.Carry.Carrying c.args.order w lines) c.of-space.ensures c.in-Ok.ensures.carrying) c.in-Ok.ensures.written fits.1 fits.2 again)
