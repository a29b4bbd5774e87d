use Rattle.std.proofs.Common.{◌≡◌, codes}
use Rattle.std.proofs.lemmas.Result.{IfOk-from_err, IfOk-weaker}
use Rattle.clap.specs.Simple.{App, app_of, new_app, with_rule}
use Rattle.rom_words.specs.CommandLine.{option_rule, plain_rule}
use Rattle.rom_words.proofs.Building.{still_local, with_arg}
use Rattle.rom_words.proofs.command_line.drill_command.Goals as goal

abbrev with_start : App
with_start = with_rule (new_app (codes "drill")) (plain_rule (codes "START"))

abbrev with_callers : App
with_callers = with_rule with_start (option_rule (codes "callers"))

pub returns-clause-shape : goal.returns-clause-shape
returns-clause-shape c =
    let one : app_of c.in_ok-arg.field-0 ≡ with_start = with_arg _ _ _ c.new-start.ensures.optional.1 c.in_ok-arg.ensures _ _ c.new.ensures.app c.new-start.ensures.rule in
    let two : app_of c.in_ok-arg-2.field-0 ≡ with_callers = with_arg _ _ _ c.option.ensures.local c.in_ok-arg-2.ensures _ _ one c.option.ensures.rule in
    IfOk-weaker c.arg-3.result _ _ (λ x adds. with_arg _ x _ c.option-2.ensures.local adds _ _ two c.option-2.ensures.rule) c.arg-3.ensures

pub returns-clause-local : goal.returns-clause-local
returns-clause-local c =
    IfOk-weaker c.arg-3.result _ _
    (λ x adds. still_local _ x _ c.option-2.ensures.local adds
    (still_local _ _ _ c.option.ensures.local c.in_ok-arg-2.ensures (still_local _ _ _ c.new-start.ensures.optional.1 c.in_ok-arg.ensures c.new.ensures.local)))
    c.arg-3.ensures

pub returns-in_err-arg-clause-shape : goal.returns-in_err-arg-clause-shape
returns-in_err-arg-clause-shape c = IfOk-from_err c.from_residual.result _ c.from_residual.ensures.0

pub returns-in_err-arg-clause-local : goal.returns-in_err-arg-clause-local
returns-in_err-arg-clause-local c = IfOk-from_err c.from_residual.result _ c.from_residual.ensures.0

pub returns-in_err-arg-2-clause-shape : goal.returns-in_err-arg-2-clause-shape
returns-in_err-arg-2-clause-shape c = IfOk-from_err c.from_residual-in_err-arg-2.result _ c.from_residual-in_err-arg-2.ensures.0

pub returns-in_err-arg-2-clause-local : goal.returns-in_err-arg-2-clause-local
returns-in_err-arg-2-clause-local c = IfOk-from_err c.from_residual-in_err-arg-2.result _ c.from_residual-in_err-arg-2.ensures.0
