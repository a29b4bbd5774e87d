use Rattle.std.proofs.Common.{ℕ, List, Result, Ok, Err, OnOk, subst}
use Rattle.rom_recover.specs.Recovered.{IsDone}
use Rattle.rom_recover.proofs.Doubting.{recovered_from, renewed_leaves, renewed_sure, then_from}
use Rattle.rom_recover.proofs.Restoring.{quiet_images, images_from, left_from, way_of}
use Rattle.rom_recover.proofs.restore.redo.Goals as goal

pub returns-in_err-renew_state-clause-images : goal.returns-in_err-renew_state-clause-images
returns-in_err-renew_state-clause-images g c told =
    quiet_images g.D.Device.shown c.args.geometry _ _ (λ t i le left. g.met.D.Device.counts_now c.args.device.now t i told le left) g.met.D.Device.tells_both
    record { size = c.renew_state.ensures.size; words = c.renew_state.ensures.words; images = c.renew_state.ensures.images } told

pub returns-clause-left : goal.returns-clause-left
returns-clause-left g c =
    left_from g.D.Device.shown c.args.geometry _ _ record { size = c.renew_state.ensures.size; words = c.renew_state.ensures.words; images = c.renew_state.ensures.images } _ c.copy_over.ensures.left

pub returns-clause-images : goal.returns-clause-images
returns-clause-images g c told =
    images_from g.D.Device.shown c.args.geometry _ _ (λ t i le left. g.met.D.Device.counts_now c.args.device.now t i told le left) g.met.D.Device.tells_both
    record { size = c.renew_state.ensures.size; words = c.renew_state.ensures.words; images = c.renew_state.ensures.images } _ c.copy_over.ensures.images told

pub returns-clause-done : goal.returns-clause-done
returns-clause-done g c told =
    subst (λ (l : List ℕ). OnOk c.copy_over.result (IsDone c.args.geometry l (g.D.Device.shown.words c.copy_over.new.device))) (c.renew_state.ensures.words told) (c.copy_over.ensures.done told)

pub returns-in_err-renew_state-clause-doubts : goal.returns-in_err-renew_state-clause-doubts
returns-in_err-renew_state-clause-doubts g c doubts sure =
    let told = g.met.D.Device.doubts_told doubts in
    let way = way_of c.args.geometry c.args.state c.requires.busy in
    renewed_leaves g.D.Device.shown doubts told c.args.geometry c.args.state way.from way.to way.is _ _ (c.requires.heap told.words) (c.requires.state told.words) sure (c.renew_state.ensures.doubts doubts)

pub returns-clause-doubts : goal.returns-clause-doubts
returns-clause-doubts g c doubts sure =
    let told = g.met.D.Device.doubts_told doubts in
    let way = way_of c.args.geometry c.args.state c.requires.busy in
    let now = renewed_sure g.D.Device.shown doubts told c.args.geometry _ _ _ (c.renew_state.ensures.words told.words) sure c.renew_state.ensures.fewer (c.in_ok-renew_state.ensures.settles doubts) c.in_ok-renew_state.ensures.renews in
    then_from g.D.Device.shown _ _ _ (c.renew_state.ensures.words told.words)
    (renewed_leaves g.D.Device.shown doubts told c.args.geometry c.args.state way.from way.to way.is _ _ (c.requires.heap told.words) (c.requires.state told.words) sure (c.renew_state.ensures.doubts doubts))
    (c.copy_over.ensures.doubts doubts now)

pub returns-clause-recovers : goal.returns-clause-recovers
returns-clause-recovers g c doubts sure =
    let told = g.met.D.Device.doubts_told doubts in
    let now = renewed_sure g.D.Device.shown doubts told c.args.geometry _ _ _ (c.renew_state.ensures.words told.words) sure c.renew_state.ensures.fewer (c.in_ok-renew_state.ensures.settles doubts) c.in_ok-renew_state.ensures.renews in
    ends c.copy_over.result (recovered_from g.D.Device.shown _ _ _ (c.renew_state.ensures.words told.words)) (c.copy_over.ensures.recovers doubts now)
  where
    ends : {T E P Q : Type 0} (r : Result T E) → (P → Q) → OnOk r P → OnOk r Q
    ends (Ok done) by holds = by holds
    ends (Err failed) by holds = tt
