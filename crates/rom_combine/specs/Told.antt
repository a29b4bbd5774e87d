-- How the record of a pass says how it ended.
use Rattle.rom_model.specs.declared.record.Fate.{Fate}
use Rattle.rom_model.specs.declared.record.Fate.TheVariants as fate
use Rattle.rom_combine.specs.declared.passed.Outcome.{Outcome}
use Rattle.rom_combine.specs.declared.passed.Outcome.TheVariants as outcome

-- How the record of a pass says it. A pass that found no call has no record, and nobody is told.
abbrev pub fate_of : Outcome → Fate
fate_of outcome.Nothing = fate.Published
fate_of outcome.Published = fate.Published
fate_of outcome.Failed = fate.Failed
fate_of outcome.Doubt = fate.Doubt
