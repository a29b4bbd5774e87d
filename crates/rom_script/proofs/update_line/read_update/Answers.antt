use Rattle.std.proofs.Common.{◌≢◌, sym, subst}
use Rattle.std.specs.Prelude.{IfNone}
use Rattle.rom_model.specs.declared.call.Single.{Single}
use Rattle.rom_script.specs.Lines.{SingleCallFits, single_line}
use Rattle.rom_script.proofs.Asking.{command_of, no_command_of, no_phrase, phrased_updates}
use Rattle.rom_script.proofs.update_line.read_update.Goals as goal

pub returns-in_err-phrase-clause-none : goal.returns-in_err-phrase-clause-none
returns-in_err-phrase-clause-none c =
    subst (λ o. IfNone o ((c' : Single) → SingleCallFits c' → c.args.line.now ≢ single_line c')) (sym c.from_residual.ensures) (no_phrase phrased_updates c.args.line.now c.in_err-phrase.ensures.none)

pub returns-clause-some : goal.returns-clause-some
returns-clause-some c =
    command_of phrased_updates c.args.line.now c.in_ok-phrase.phrase.name.now c.in_ok-phrase.phrase.numbers.items c.deref.result.now c.asked_update.result c.in_ok-phrase.ensures.words c.in_ok-phrase.ensures.fit c.deref.ensures.0 c.asked_update.ensures.some

pub returns-clause-none : goal.returns-clause-none
returns-clause-none c =
    no_command_of phrased_updates c.args.line.now c.in_ok-phrase.phrase.name.now c.in_ok-phrase.phrase.numbers.items c.deref.result.now c.asked_update.result c.in_ok-phrase.ensures.words c.in_ok-phrase.ensures.fit c.deref.ensures.0 c.asked_update.ensures.none
