use Rattle.std.proofs.Common.{ℕ, List}
use Rattle.rom_device.specs.Device.{WritesWord}
use Rattle.rom_device.proofs.Doubting.{synced_leaves, then_leaves, then_still}
use Rattle.rom_device.proofs.certain.write_certain.Goals as goal

pub returns-in_err-sync-clause-doubts : goal.returns-in_err-sync-clause-doubts
returns-in_err-sync-clause-doubts g c doubts free =
    let shown = g.D.Device.shown in
    synced_leaves shown doubts (g.met.D.Device.doubts_told doubts) (WritesWord c.args.at c.args.value (shown.words c.args.device.now)) _ _ c.sync.ensures.does

pub returns-in_err-write-clause-doubts : goal.returns-in_err-write-clause-doubts
returns-in_err-write-clause-doubts g c doubts free =
    let shown = g.D.Device.shown in
    then_leaves shown doubts (g.met.D.Device.doubts_told doubts) (WritesWord c.args.at c.args.value (shown.words c.args.device.now)) _ _ c.sync.ensures.does
    c.args.at c.args.value _ (c.in_ok-sync.ensures.settles doubts) free c.write.ensures.does (λ y by. by)

pub returns-clause-doubts : goal.returns-clause-doubts
returns-clause-doubts g c doubts free =
    let shown = g.D.Device.shown in
    let told = g.met.D.Device.doubts_told doubts in
    let P : List ℕ → Type 0 = WritesWord c.args.at c.args.value (shown.words c.args.device.now) in
    then_still shown doubts told P _ _ c.sync.ensures.does _ _
    (then_leaves shown doubts told P _ _ c.sync.ensures.does c.args.at c.args.value _ (c.in_ok-sync.ensures.settles doubts) free c.write.ensures.does (λ y by. by)) c.sync-2.ensures.does
