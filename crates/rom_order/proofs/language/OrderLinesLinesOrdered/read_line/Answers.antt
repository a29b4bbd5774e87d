use Rattle.std.proofs.Common.{subst}
use Rattle.rom_order.specs.Asking.{AsksIndex}
use Rattle.rom_order.proofs.Asking.{asked_reads, no_phrase_reads}
use Rattle.rom_order.proofs.language.OrderLinesLinesOrdered.read_line.Goals as goal

pub returns-in-Some : goal.returns-in-Some
returns-in-Some c =
    let phrase = c.in-Some.phrase in
    record {
      reads = asked_reads c.args.line.now phrase.name.now phrase.numbers.items c.asked.result c.in-Some.ensures.words c.in-Some.ensures.fit
          (subst (λ ns. AsksIndex phrase.name.now ns c.asked.result) c.deref.ensures.0 c.asked.ensures);
    }

pub returns-in-None : goal.returns-in-None
returns-in-None c = record { reads = no_phrase_reads c.args.line.now c.in-None.ensures.none }
