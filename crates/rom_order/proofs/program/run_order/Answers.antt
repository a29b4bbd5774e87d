use Rattle.rom_order.proofs.Determined.{text_determines}
use Rattle.rom_order.proofs.program.run_order.Goals as goal

pub returns-clause-determined : goal.returns-clause-determined
returns-clause-determined g c = text_determines
