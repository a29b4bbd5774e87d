use Rattle.std.specs.Prelude.{◌≡◌, ◌-◌, ◌<◌, List, [], ◌∷◌, ◌++◌, length, take, drop, codes}
use Rattle.std.proofs.Common.{subst, sym, ap, ◌∙◌, arith, get_or}
use Rattle.std.specs.List.{flat_map}
use Rattle.std.proofs.Math.Seq.{take-length}
use Rattle.rom_model.specs.declared.call.SingleReply.{SingleReply}
use Rattle.rom_model.specs.declared.call.SingleReply.TheVariants.{Full}
use Rattle.rom_text.specs.Streams.{Prints}
use Rattle.rom_text.specs.Trio.{single_text, next_text, all_text}
use Rattle.rom_text.proofs.Prints.{Stopped, printed, stopped, prints_stopped, stopped_first, stopped_second, both_printed}
use Rattle.rom_text.proofs.trio.print_all.Goals as goal

-- the replies behind the first
abbrev more : List SingleReply → List SingleReply
more replies = take (length replies - 1) (drop 1 replies)

all_is : (replies : List SingleReply) (d : SingleReply) → 0 < length replies → all_text replies ≡ codes "all " ++ (single_text (get_or replies 0 d) ++ flat_map next_text (more replies))
all_is [] d some = absurd (omega (arith, some))
all_is (r ∷ replies) d some =
    let many : length (r ∷ replies) - 1 ≡ length replies = omega arith in
    let rest : more (r ∷ replies) ≡ replies = ap (λ m. take m replies) many ∙ take-length replies in
    ap (λ rs. codes "all " ++ (single_text r ++ flat_map next_text rs)) (sym rest)

pub returns-in_err-print_text-clause-prints : goal.returns-in_err-print_text-clause-prints
returns-in_err-print_text-clause-prints g c =
    let o = g.O.Sink.shown in
    prints_stopped o _ _ _ c.from_residual.result _ c.from_residual.ensures.1
    (subst (λ t. Stopped o c.args.out.now c.print_text-2.new.out t) (sym (all_is c.args.replies.now Full (omega (arith, c.in-len1-up.len_at_least))))
    (stopped_first o _ _ (codes "all ") _ (stopped o _ _ _ _ c.in_err-print_text.ensures.prints)))

pub returns-in_err-print-clause-prints : goal.returns-in_err-print-clause-prints
returns-in_err-print-clause-prints g c =
    let o = g.O.Sink.shown in
    prints_stopped o _ _ _ c.from_residual-in_err-print.result _ c.from_residual-in_err-print.ensures.1
    (subst (λ t. Stopped o c.args.out.now c.print.new.out t) (sym (all_is c.args.replies.now _ (omega (arith, c.in-len1-up.len_at_least))))
    (stopped_second o _ _ _ (codes "all ") _ (printed o _ _ _ _ c.in_ok-print_text.ensures.prints) (stopped_first o _ _ _ (flat_map next_text (more c.args.replies.now)) (stopped o _ _ _ _ c.in_err-print.ensures.prints))))

pub returns-clause-prints : goal.returns-clause-prints
returns-clause-prints g c =
    let o = g.O.Sink.shown in
    subst (λ t. Prints o c.args.out.now c.print_listed.new.out c.print_listed.result t) (sym (all_is c.args.replies.now _ (omega (arith, c.in-len1-up.len_at_least))))
    (both_printed o _ _ _ c.print_listed.result (codes "all ") _ (printed o _ _ _ _ c.in_ok-print_text.ensures.prints)
    (both_printed o _ _ _ c.print_listed.result _ _ (printed o _ _ _ _ c.in_ok-print.ensures.prints) c.print_listed.ensures.prints))
