use Rattle.std.proofs.Common.{arith}
use Rattle.rom_blob_region.specs.State.{no_blobs}
use Rattle.rom_plain_rows.proofs.costs.held.Goals as goal

pub returns : goal.returns
returns c =
    let done = c.apply_blob.ensures.done no_blobs 0 c.format_blobs.ensures.made in
    record { region = (_, 1, done.1, omega arith) }
