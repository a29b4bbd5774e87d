use Rattle.std.proofs.Common.{◌*◌}
use Rattle.rom_device.specs.Page.{page_word}
use Rattle.rom_device.proofs.Paged.{zero_word}
use Rattle.rom_device.proofs.page.Page.zeroed.Goals as goal

pub returns : goal.returns
unfolding page_word
returns c k = zero_word (8 * k) 4096
