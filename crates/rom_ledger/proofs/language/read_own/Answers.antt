use Rattle.rom_model.specs.declared.line.Step.TheVariants.{Update}
use Rattle.rom_guard.specs.declared.call.GuardedCall.TheVariants.{Own}
use Rattle.rom_ledger.specs.declared.call.LedgerCall.TheVariants.{Conditional}
use Rattle.rom_ledger.proofs.WordsRead.{conditional_words_back}
use Rattle.rom_ledger.proofs.language.read_own.Goals as goal

pub returns-in-Some-read_conditional : goal.returns-in-Some-read_conditional
returns-in-Some-read_conditional c =
    let words = c.put_conditional_words.new.words in
    let call = Own (Conditional c.in-Some-read_conditional.call) in
    (Update call, (call, (λ i. Update call), conditional_words_back words c.in-Some-read_conditional.call c.put_conditional_words.ensures.words), c.in-Some-read_conditional.ensures.some)
