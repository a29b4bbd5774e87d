use Rattle.std.proofs.Common.{sym, subst, codes}
use Rattle.rom_text.specs.Streams.{Prints}
use Rattle.rom_text.proofs.Prints.{printed, stopped, prints_stopped, stopped_first, both_printed}
use Rattle.rom_blob_region.specs.Texts.{blob_answer_text, bytes_text}
use Rattle.rom_blob_region.specs.declared.call.BlobAnswer.{BlobAnswer}
use Rattle.rom_blob_region.proofs.told.BlobAnswerPrint.print.Goals as goal

pub returns-in_err-print_text-in-Bytes-clause-prints : goal.returns-in_err-print_text-in-Bytes-clause-prints
returns-in_err-print_text-in-Bytes-clause-prints g c =
    let o = g.O.Sink.shown in
    subst (λ (a : BlobAnswer). Prints o c.args.out.now c.print_text.new.out c.from_residual.result (blob_answer_text a)) (sym c.in-Bytes.is)
    (prints_stopped o _ _ _ c.from_residual.result _ c.from_residual.ensures.1 (stopped_first o _ _ (codes "bytes ") (bytes_text c.in-Bytes.bytes) (stopped o _ _ _ _ c.in_err-print_text-in-Bytes.ensures.prints)))

pub returns-in_ok-print_text-in-Bytes-clause-prints : goal.returns-in_ok-print_text-in-Bytes-clause-prints
returns-in_ok-print_text-in-Bytes-clause-prints g c =
    let o = g.O.Sink.shown in
    subst (λ (a : BlobAnswer). Prints o c.args.out.now c.print_bytes.new.out c.print_bytes.result (blob_answer_text a)) (sym c.in-Bytes.is)
    (both_printed o _ _ _ c.print_bytes.result (codes "bytes ") (bytes_text c.in-Bytes.bytes) (printed o _ _ _ _ c.in_ok-print_text-in-Bytes.ensures.prints) c.print_bytes.ensures.prints)
