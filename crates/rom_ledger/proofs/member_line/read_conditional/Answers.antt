use Rattle.std.proofs.Common.{◌≢◌, sym, subst}
use Rattle.std.specs.Prelude.{IfNone}
use Rattle.rom_script.proofs.Asking.{command_of, no_command_of, no_phrase}
use Rattle.rom_ledger.specs.Lines.{ConditionalFits, conditional_line}
use Rattle.rom_ledger.specs.declared.call.Conditional.{Conditional}
use Rattle.rom_ledger.proofs.Asking.{phrased_conditionals}
use Rattle.rom_ledger.proofs.member_line.read_conditional.Goals as goal

pub returns-in_err-phrase-clause-none : goal.returns-in_err-phrase-clause-none
returns-in_err-phrase-clause-none c =
    subst (λ o. IfNone o ((c' : Conditional) → ConditionalFits c' → c.args.line.now ≢ conditional_line c')) (sym c.from_residual.ensures) (no_phrase phrased_conditionals c.args.line.now c.in_err-phrase.ensures.none)

pub returns-clause-some : goal.returns-clause-some
returns-clause-some c =
    command_of phrased_conditionals c.args.line.now c.in_ok-phrase.phrase.name.now c.in_ok-phrase.phrase.numbers.items c.deref.result.now c.asked_conditional.result c.in_ok-phrase.ensures.words c.in_ok-phrase.ensures.fit c.deref.ensures.0 c.asked_conditional.ensures.some

pub returns-clause-none : goal.returns-clause-none
returns-clause-none c =
    no_command_of phrased_conditionals c.args.line.now c.in_ok-phrase.phrase.name.now c.in_ok-phrase.phrase.numbers.items c.deref.result.now c.asked_conditional.result c.in_ok-phrase.ensures.words c.in_ok-phrase.ensures.fit c.deref.ensures.0 c.asked_conditional.ensures.none
