use Rattle.std.proofs.Common.{◌++◌, [], ◌∷◌, subst, ap, ◌∙◌, codes}
use Rattle.rom_text.specs.Streams.{Prints}
use Rattle.rom_text.proofs.Prints.{Printed, Stopped, printed, stopped, prints_stopped, stopped_first, stopped_second, both_printed}
use Rattle.rom_blob_region.specs.Texts.{bytes_text}
use Rattle.rom_blob_carry.specs.Elements.{entry_of}
use Rattle.rom_blob_carry.proofs.Texts.{front, line_parts}
use Rattle.rom_blob_carry.proofs.line.print_line.Goals as goal

pub returns-in_err-print_pieces : goal.returns-in_err-print_pieces
returns-in_err-print_pieces g c =
    let o = g.K.Sink.shown in
    let e = entry_of c.args.kept.now in
    let key = (λ i. codes "set " ++ (c.format.ensures.text i ++ 32 ∷ [])) ∙ ap front c.key.ensures in
    record {
      prints = subst (λ t. Prints o c.args.out.now c.print_pieces.new.out c.from_residual.result t) (line_parts e)
          (prints_stopped o _ _ _ c.from_residual.result _ c.from_residual.ensures.1 (stopped_first o _ _ (front e.0) (bytes_text e.1 ++ 10 ∷ [])
          (subst (λ t. Stopped o c.args.out.now c.print_pieces.new.out t) key (stopped o _ _ _ _ c.in_err-print_pieces.ensures.prints))));
    }

pub returns-in_err-print_digits : goal.returns-in_err-print_digits
returns-in_err-print_digits g c =
    let o = g.K.Sink.shown in
    let e = entry_of c.args.kept.now in
    let key = (λ i. codes "set " ++ (c.format.ensures.text i ++ 32 ∷ [])) ∙ ap front c.key.ensures in
    let bytes = ap bytes_text c.bytes.ensures.bytes in
    record {
      prints = subst (λ t. Prints o c.args.out.now c.print_digits.new.out c.from_residual-in_err-print_digits.result t) (line_parts e)
          (prints_stopped o _ _ _ c.from_residual-in_err-print_digits.result _ c.from_residual-in_err-print_digits.ensures.1 (stopped_second o _ _ _ (front e.0) (bytes_text e.1 ++ 10 ∷ [])
          (subst (λ t. Printed o c.args.out.now c.print_pieces.new.out t) key (printed o _ _ _ _ c.in_ok-print_pieces.ensures.prints))
          (stopped_first o _ _ (bytes_text e.1) (10 ∷ []) (subst (λ t. Stopped o c.print_pieces.new.out c.print_digits.new.out t) bytes (stopped o _ _ _ _ c.in_err-print_digits.ensures.prints)))));
    }

pub returns : goal.returns
returns g c =
    let o = g.K.Sink.shown in
    let e = entry_of c.args.kept.now in
    let key = (λ i. codes "set " ++ (c.format.ensures.text i ++ 32 ∷ [])) ∙ ap front c.key.ensures in
    let bytes = ap bytes_text c.bytes.ensures.bytes in
    record {
      prints = subst (λ t. Prints o c.args.out.now c.print_text.new.out c.print_text.result t) (line_parts e)
          (both_printed o _ _ _ c.print_text.result (front e.0) (bytes_text e.1 ++ 10 ∷ [])
          (subst (λ t. Printed o c.args.out.now c.print_pieces.new.out t) key (printed o _ _ _ _ c.in_ok-print_pieces.ensures.prints))
          (both_printed o _ _ _ c.print_text.result (bytes_text e.1) (10 ∷ []) (subst (λ t. Printed o c.print_pieces.new.out c.print_digits.new.out t) bytes (printed o _ _ _ _ c.in_ok-print_digits.ensures.prints)) c.print_text.ensures.prints));
    }
