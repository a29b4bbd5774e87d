use Rattle.std.proofs.Common.{rules}
use Rattle.rom_twin.specs.Images.{Repairing}
use Rattle.rom_twin.specs.Seen.{committed, NeedsRepair}
use Rattle.rom_combine.specs.Images.{BeforeCommit}
use Rattle.rom_combine.proofs.Before.{repair_before}
use Rattle.rom_combine.proofs.Since.{becomes_by}
use Rattle.rom_combine.proofs.steps.make_clean.Goals as goal

pub returns-clause-before : goal.returns-clause-before
returns-clause-before g c told =
    let t = c.args.twin.now in
    let w = committed g.D.Device.shown t in
    let needs : NeedsRepair t.phase = search rules in
    becomes_by g.D.Device.shown (Repairing t.phase t.order w) (BeforeCommit t.phase t.order w) t.device c.repair.new.self.device (λ i. repair_before t.order w i t.phase needs) (c.repair.ensures.since told)
