use Rattle.std.proofs.Common.{◌≢◌, ◌++◌, ℕ, List, Option, option_map, IfNone, sym, subst}
use Rattle.rom_model.specs.declared.call.Single.{Single}
use Rattle.rom_script.specs.Lines.{SingleCallFits, single_line}
use Rattle.rom_script.specs.Members.{behind_line}
use Rattle.rom_script.proofs.Members.{member_is, update_lines}
use Rattle.rom_script.proofs.group_line.read_first.Goals as goal

pub returns-in_err-read_update-clause-none : goal.returns-in_err-read_update-clause-none
returns-in_err-read_update-clause-none c =
    let text = c.args.text.now in
    let split = c.split_first in
    subst (λ o. IfNone o ((single : Single) (behind : Option (List ℕ)) → SingleCallFits single → text ≢ single_line single ++ behind_line behind)) (sym c.from_residual.ensures)
    (λ single behind fits is. c.in_err-read_update.ensures.none single fits (member_is update_lines text split.result.0.now (option_map (λ b. b.now) split.result.1) single behind fits split.ensures.parts split.ensures.first is))
