use Rattle.std.proofs.Common.{subst}
use Rattle.counter.specs.Language.{AsksCounter}
use Rattle.counter.proofs.Reading.{asked_reads, none_reads}
use Rattle.counter.proofs.language.CounterLinesLinesCounter.read_line.Goals as goal

pub returns-in-Some : goal.returns-in-Some
returns-in-Some c = record {
  reads = asked_reads c.args.line.now c.in-Some.phrase.name.now c.in-Some.phrase.numbers.items c.asked.result c.in-Some.ensures.words c.in-Some.ensures.fit
      (subst (λ ns. AsksCounter c.in-Some.phrase.name.now ns c.asked.result) c.deref.ensures.0 c.asked.ensures);
}

pub returns-in-None : goal.returns-in-None
returns-in-None c = record { reads = none_reads c.args.line.now c.in-None.ensures.none }
