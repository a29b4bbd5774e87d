use Rattle.std.proofs.Common.{[], ◌∷◌, codes, decimal, subst}
use Rattle.rom_text.specs.Streams.{Prints}
use Rattle.rom_text.proofs.Prints.{printed, stopped, prints_stopped, stopped_first, both_printed}
use Rattle.rom_text.proofs.RunText.{for_some, placed}
use Rattle.rom_text.proofs.report.print_reply.Goals as goal

pub returns-in_err-print_words-clause-prints : goal.returns-in_err-print_words-clause-prints
returns-in_err-print_words-clause-prints g c =
    let o = g.S.Sink.shown in
    for_some _ _ (λ reply came. prints_stopped o _ _ _ c.from_residual.result _ c.from_residual.ensures.1
    (stopped_first o _ _ _ (10 ∷ []) (stopped_first o _ _ _ (decimal c.args.place) (stopped_first o _ _ _ (codes " @") (stopped o _ _ _ _ came)))))
    (g.O.Object.machine.words_reply c.args.words.now) c.in_err-print_words.ensures.prints

pub returns-clause-prints : goal.returns-clause-prints
returns-clause-prints g c =
    let o = g.S.Sink.shown in
    for_some _ _ (λ reply came. subst (λ t. Prints o c.args.out.now c.print_place.new.out c.print_place.result t) (placed (g.P.PrintReplies.shown.text reply) (codes " @") (decimal c.args.place))
    (both_printed o _ _ _ c.print_place.result _ _ (printed o _ _ _ _ came) c.print_place.ensures.prints))
    (g.O.Object.machine.words_reply c.args.words.now) c.in_ok-print_words.ensures.prints
