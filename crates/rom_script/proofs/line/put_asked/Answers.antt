use Rattle.rom_model.specs.Singles.{call_of}
use Rattle.rom_model.specs.declared.line.Step.TheVariants.{Update}
use Rattle.rom_script.proofs.Asking.{asks_single}
use Rattle.rom_script.proofs.line.put_asked.Goals as goal

pub returns-in-Some : goal.returns-in-Some
returns-in-Some c =
    let call = call_of c.in-Some.update in
    (Update call, (call, (λ i. Update call), c.put_single_words.ensures.back), asks_single c.args.name.now c.args.numbers.now c.in-Some.update c.in-Some.ensures.some)
