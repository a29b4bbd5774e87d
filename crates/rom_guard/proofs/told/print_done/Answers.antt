use Rattle.std.proofs.Common.{rules, arith, ◌<◌, length, codes}
use Rattle.rom_text.proofs.Prints.{printed, stopped, prints_stopped}
use Rattle.rom_guard.specs.Working.{told_in}
use Rattle.rom_guard.proofs.Telling.{all_more, printed_more, some_of, stopped_before, stopped_in_first, stopped_more}
use Rattle.rom_guard.proofs.told.print_done.Goals as goal

pub returns-in_err-print_text-clause-prints : goal.returns-in_err-print_text-clause-prints
returns-in_err-print_text-clause-prints g c =
    let o = g.S.Sink.shown in
    let told = told_in g.P.Members.shown c.args.words.now in
    prints_stopped o _ _ _ c.from_residual.result _ c.from_residual.ensures.1
    (stopped_before g.P.Told.Print.shown o _ _ told (some_of told c.requires.size) (stopped o _ _ _ (codes "done ") c.in_err-print_text.ensures.prints))

pub returns-in_err-print-clause-prints : goal.returns-in_err-print-clause-prints
returns-in_err-print-clause-prints g c =
    let o = g.S.Sink.shown in
    let told = told_in g.P.Members.shown c.args.words.now in
    prints_stopped o _ _ _ c.from_residual-in_err-print.result _ c.from_residual-in_err-print.ensures.1
    (stopped_in_first g.P.Told.Print.shown o _ _ _ told c.told_at.result c.told_at.ensures (printed o _ _ _ (codes "done ") c.in_ok-print_text.ensures.prints) (stopped o _ _ _ _ c.in_err-print.ensures.prints))

pub returns-in_err-print_next-clause-prints : goal.returns-in_err-print_next-clause-prints
returns-in_err-print_next-clause-prints g c =
    let o = g.S.Sink.shown in
    let told = told_in g.P.Members.shown c.args.words.now in
    let within : c.loop-i.i < length told = search rules in
    prints_stopped o _ _ _ c.from_residual-in_err-print_next.result _ c.from_residual-in_err-print_next.ensures.1
    (stopped_more g.P.Told.Print.shown o _ _ _ told c.loop-i.i c.told_at-in-loop-i.result (omega (arith, c.loop-i.invariant.some)) within c.told_at-in-loop-i.ensures c.loop-i.invariant.printed (stopped o _ _ _ _ c.in_err-print_next.ensures.prints))

pub loop-i-preserved : goal.loop-i-preserved
loop-i-preserved g c =
    let o = g.S.Sink.shown in
    let shown = g.P.Told.Print.shown in
    let told = told_in g.P.Members.shown c.args.words.now in
    let within : c.loop-i.i < length told = search rules in
    record {
      some = omega arith;
      within = omega (arith, within);
      printed = printed_more shown o _ _ _ told c.loop-i.i c.told_at-in-loop-i.result (omega (arith, c.loop-i.invariant.some)) within c.told_at-in-loop-i.ensures c.loop-i.invariant.printed (printed o _ _ _ _ c.in_ok-print_next.ensures.prints);
      fits = all_more shown.Fits told c.loop-i.i c.told_at-in-loop-i.result c.told_at-in-loop-i.ensures c.loop-i.invariant.fits c.in_ok-print_next.ensures.fits;
    }
