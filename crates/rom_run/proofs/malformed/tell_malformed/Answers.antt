use Rattle.std.specs.Prelude.{Bool, if◌then◌else◌}
use Rattle.std.proofs.Common.{◌∙◌, subst, sym}
use Rattle.rom_text.specs.Runs.{IsLineWrittenOrCutShort}
use Rattle.rom_run.specs.Refusing.{another_kind_line, broken_line}
use Rattle.rom_run.proofs.malformed.tell_malformed.Goals as goal

pub returns-then-is_of_another_kind-clause-told : goal.returns-then-is_of_another_kind-clause-told
returns-then-is_of_another_kind-clause-told g c =
    subst (λ (b : Bool). IsLineWrittenOrCutShort g.O.Sink.shown c.args.out.now c.tell_another_kind.new.out (if b then another_kind_line c.args.found else broken_line c.args.offset c.args.rule))
    (sym c.if-is_of_another_kind.true ∙ c.is_of_another_kind.ensures) c.tell_another_kind.ensures.told

pub returns-else-is_of_another_kind-clause-told : goal.returns-else-is_of_another_kind-clause-told
returns-else-is_of_another_kind-clause-told g c =
    subst (λ (b : Bool). IsLineWrittenOrCutShort g.O.Sink.shown c.args.out.now c.tell_broken.new.out (if b then another_kind_line c.args.found else broken_line c.args.offset c.args.rule))
    (sym c.if-is_of_another_kind.false ∙ c.is_of_another_kind.ensures) c.tell_broken.ensures.told
