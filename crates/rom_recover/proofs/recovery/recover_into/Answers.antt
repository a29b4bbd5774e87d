use Rattle.std.proofs.Common.{◌≡◌, ◌∙◌, ℕ, rules, sym, subst, get_or}
use Rattle.rom_recover.specs.Image.{KeepsMain}
use Rattle.rom_recover.specs.Recovered.{IsDone}
use Rattle.rom_recover.proofs.Calling.{begun_within, compared_most, compared_within, redone_most, redone_within}
use Rattle.rom_recover.proofs.CopyBack.{equal_done}
use Rattle.rom_recover.proofs.Keeping.{main_kept}
use Rattle.rom_recover.proofs.Restoring.{quiet_images, images_from, left_from, done_from, quietly, still}
use Rattle.rom_device.specs.Device.{Stays}
use Rattle.rom_device.proofs.Going.{runs_on}
use Rattle.rom_recover.specs.Doubt.{IsCertainBut, MayBeInDoubt}
use Rattle.rom_recover.proofs.Doubting.{idle_recovered, left_sure, recovered_from, since_from, still_leaves}
use Rattle.rom_recover.proofs.recovery.recover_into.Goals as goal

pub returns-in_err-found-clause-images : goal.returns-in_err-found-clause-images
returns-in_err-found-clause-images g c told =
    quiet_images g.D.Device.shown c.args.geometry _ _ (λ t i le left. g.met.D.Device.counts_now c.args.device.now t i told le left) g.met.D.Device.tells_both
    (quietly g.D.Device.shown _ _ _ c.sync.ensures.does c.read_state.ensures.only) told

pub returns-in_ok-compare-in-Idle-clause-images : goal.returns-in_ok-compare-in-Idle-clause-images
returns-in_ok-compare-in-Idle-clause-images g c told =
    quiet_images g.D.Device.shown c.args.geometry _ _ (λ t i le left. g.met.D.Device.counts_now c.args.device.now t i told le left) g.met.D.Device.tells_both (quietly g.D.Device.shown _ _ _ (still g.D.Device.shown _ _ _ c.sync.ensures.does c.read_state.ensures.only) c.compare.ensures.compares.only) told

pub returns-in_ok-compare-in-Idle-clause-done : goal.returns-in_ok-compare-in-Idle-clause-done
returns-in_ok-compare-in-Idle-clause-done g c words =
    let x = g.D.Device.shown.words c.args.device.now in
    let before : g.D.Device.shown.words c.read_state.new.device ≡ x = (still g.D.Device.shown _ _ _ c.sync.ensures.does c.read_state.ensures.only).words words in
    let after : g.D.Device.shown.words c.compare.new.device ≡ x = (still g.D.Device.shown _ _ _ (still g.D.Device.shown _ _ _ c.sync.ensures.does c.read_state.ensures.only) c.compare.ensures.compares.only).words words in
    let idle : get_or x 3 0 ≡ 0 = search rules in
    subst (λ l. IsDone c.args.geometry x l) (sym after) (equal_done c.args.geometry x (c.requires.heap words) idle (rw before at (c.in_ok-compare-in-Idle.ensures.same words)))

pub returns-in_err-redo-in_default-clause-left : goal.returns-in_err-redo-in_default-clause-left
returns-in_err-redo-in_default-clause-left g c =
    left_from g.D.Device.shown c.args.geometry _ _ (quietly g.D.Device.shown _ _ _ c.sync.ensures.does c.read_state.ensures.only) _ c.redo.ensures.left

pub returns-in_err-redo-in_default-clause-images : goal.returns-in_err-redo-in_default-clause-images
returns-in_err-redo-in_default-clause-images g c told =
    images_from g.D.Device.shown c.args.geometry _ _ (λ t i le left. g.met.D.Device.counts_now c.args.device.now t i told le left) g.met.D.Device.tells_both
    (quietly g.D.Device.shown _ _ _ c.sync.ensures.does c.read_state.ensures.only) _ c.redo.ensures.images told

pub returns-in_ok-redo-in_default-clause-left : goal.returns-in_ok-redo-in_default-clause-left
returns-in_ok-redo-in_default-clause-left g c =
    left_from g.D.Device.shown c.args.geometry _ _ (quietly g.D.Device.shown _ _ _ c.sync.ensures.does c.read_state.ensures.only) _ c.redo.ensures.left

pub returns-in_ok-redo-in_default-clause-images : goal.returns-in_ok-redo-in_default-clause-images
returns-in_ok-redo-in_default-clause-images g c told =
    images_from g.D.Device.shown c.args.geometry _ _ (λ t i le left. g.met.D.Device.counts_now c.args.device.now t i told le left) g.met.D.Device.tells_both
    (quietly g.D.Device.shown _ _ _ c.sync.ensures.does c.read_state.ensures.only) _ c.redo.ensures.images told

pub returns-in_ok-redo-in_default-clause-done : goal.returns-in_ok-redo-in_default-clause-done
returns-in_ok-redo-in_default-clause-done g c =
    done_from g.D.Device.shown c.args.geometry _ _ (quietly g.D.Device.shown _ _ _ c.sync.ensures.does c.read_state.ensures.only) _ c.in_ok-redo-in_default.ensures.done

pub returns-in_ok-compare-in-Idle-clause-kept : goal.returns-in_ok-compare-in-Idle-clause-kept
returns-in_ok-compare-in-Idle-clause-kept g c words =
    let x = g.D.Device.shown.words c.args.device.now in
    let before : g.D.Device.shown.words c.read_state.new.device ≡ x = (still g.D.Device.shown _ _ _ c.sync.ensures.does c.read_state.ensures.only).words words in
    let after : g.D.Device.shown.words c.compare.new.device ≡ x = (still g.D.Device.shown _ _ _ (still g.D.Device.shown _ _ _ c.sync.ensures.does c.read_state.ensures.only) c.compare.ensures.compares.only).words words in
    subst (λ l. KeepsMain c.args.geometry l c.compare.new.image) (sym after) (main_kept c.args.geometry x c.compare.new.image (c.requires.heap words) (rw before at (c.in_ok-compare-in-Idle.ensures.kept words)))

pub returns-in_err-compare-in-Idle-clause-idle : goal.returns-in_err-compare-in-Idle-clause-idle
returns-in_err-compare-in-Idle-clause-idle g c told is =
    record {
      stays = still g.D.Device.shown _ _ _ (still g.D.Device.shown _ _ _ c.sync.ensures.does c.read_state.ensures.only) c.compare.ensures.compares.only;
      writes = search rules;
      syncs = search rules;
    }

pub returns-in_err-found-clause-within : goal.returns-in_err-found-clause-within
returns-in_err-found-clause-within g c = begun_within g.D.Device.shown c.args.geometry _ _ _ _ _ c.sync.ensures.counts c.read_state.ensures.makes

pub returns-in_err-compare-in-Idle-clause-within : goal.returns-in_err-compare-in-Idle-clause-within
returns-in_err-compare-in-Idle-clause-within g c = compared_within g.D.Device.shown c.args.geometry _ _ _ _ _ c.sync.ensures.counts c.read_state.ensures.makes _ _ c.compare.ensures.compares

pub returns-in_ok-compare-in-Idle-clause-within : goal.returns-in_ok-compare-in-Idle-clause-within
returns-in_ok-compare-in-Idle-clause-within g c = compared_within g.D.Device.shown c.args.geometry _ _ _ _ _ c.sync.ensures.counts c.read_state.ensures.makes _ _ c.compare.ensures.compares

pub returns-in_err-redo-in_default-clause-within : goal.returns-in_err-redo-in_default-clause-within
returns-in_err-redo-in_default-clause-within g c = redone_within g.D.Device.shown c.args.geometry _ _ _ _ _ c.sync.ensures.counts c.read_state.ensures.makes _ _ c.redo.ensures.makes

pub returns-in_ok-redo-in_default-clause-within : goal.returns-in_ok-redo-in_default-clause-within
returns-in_ok-redo-in_default-clause-within g c = redone_within g.D.Device.shown c.args.geometry _ _ _ _ _ c.sync.ensures.counts c.read_state.ensures.makes _ _ c.redo.ensures.makes

pub returns-in_err-compare-in-Idle-clause-most : goal.returns-in_err-compare-in-Idle-clause-most
returns-in_err-compare-in-Idle-clause-most g c told = compared_most g.D.Device.shown c.args.geometry _ _ _ _ _ c.sync.ensures.counts c.read_state.ensures.makes _ _ (search rules) _ c.compare.ensures.compares

pub returns-in_ok-compare-in-Idle-clause-most : goal.returns-in_ok-compare-in-Idle-clause-most
returns-in_ok-compare-in-Idle-clause-most g c told = compared_most g.D.Device.shown c.args.geometry _ _ _ _ _ c.sync.ensures.counts c.read_state.ensures.makes _ _ (search rules) _ c.compare.ensures.compares

pub returns-in_err-redo-in_default-clause-most : goal.returns-in_err-redo-in_default-clause-most
returns-in_err-redo-in_default-clause-most g c told = redone_most g.D.Device.shown c.args.geometry _ _ _ _ _ c.sync.ensures.counts c.read_state.ensures.makes _ _ _ c.redo.ensures.makes

pub returns-in_ok-redo-in_default-clause-most : goal.returns-in_ok-redo-in_default-clause-most
returns-in_ok-redo-in_default-clause-most g c told = redone_most g.D.Device.shown c.args.geometry _ _ _ _ _ c.sync.ensures.counts c.read_state.ensures.makes _ _ _ c.redo.ensures.makes

pub returns-in_err-sync-clause-doubts : goal.returns-in_err-sync-clause-doubts
returns-in_err-sync-clause-doubts g c doubts left =
    let told = g.met.D.Device.doubts_told doubts in
    still_leaves g.D.Device.shown doubts told c.args.geometry _ _ (c.sync.ensures.does.words told.words) (c.sync.ensures.does.doubts doubts)

pub returns-in_err-found-clause-doubts : goal.returns-in_err-found-clause-doubts
returns-in_err-found-clause-doubts g c doubts left =
    let told = g.met.D.Device.doubts_told doubts in
    let quiet = still g.D.Device.shown _ _ _ c.sync.ensures.does c.read_state.ensures.only in
    still_leaves g.D.Device.shown doubts told c.args.geometry _ _ (quiet.words told.words) (quiet.doubts doubts)

pub returns-in_err-compare-in-Idle-clause-doubts : goal.returns-in_err-compare-in-Idle-clause-doubts
returns-in_err-compare-in-Idle-clause-doubts g c doubts left =
    let told = g.met.D.Device.doubts_told doubts in
    let quiet = still g.D.Device.shown _ _ _ (still g.D.Device.shown _ _ _ c.sync.ensures.does c.read_state.ensures.only) c.compare.ensures.compares.only in
    still_leaves g.D.Device.shown doubts told c.args.geometry _ _ (quiet.words told.words) (quiet.doubts doubts)

pub returns-in_ok-compare-in-Idle-clause-doubts : goal.returns-in_ok-compare-in-Idle-clause-doubts
returns-in_ok-compare-in-Idle-clause-doubts g c doubts left =
    let told = g.met.D.Device.doubts_told doubts in
    let quiet = still g.D.Device.shown _ _ _ (still g.D.Device.shown _ _ _ c.sync.ensures.does c.read_state.ensures.only) c.compare.ensures.compares.only in
    still_leaves g.D.Device.shown doubts told c.args.geometry _ _ (quiet.words told.words) (quiet.doubts doubts)

pub returns-in_ok-compare-in-Idle-clause-recovers : goal.returns-in_ok-compare-in-Idle-clause-recovers
returns-in_ok-compare-in-Idle-clause-recovers g c doubts left =
    let shown = g.D.Device.shown in
    let told = g.met.D.Device.doubts_told doubts in
    let x = shown.words c.args.device.now in
    let quiet = still shown _ _ _ (still shown _ _ _ c.sync.ensures.does c.read_state.ensures.only) c.compare.ensures.compares.only in
    let before : shown.words c.read_state.new.device ≡ x = (still shown _ _ _ c.sync.ensures.does c.read_state.ensures.only).words told.words in
    let idle : get_or x 3 0 ≡ 0 = search rules in
    let reads = runs_on shown Stays (λ x y z first second. second ∙ first) _ _ _ (c.read_state.ensures.only.doubts doubts) (c.compare.ensures.compares.only.doubts doubts) in
    let sure = left_sure shown doubts told c.args.geometry c.args.device.now c.compare.new.device (quiet.words told.words) (quiet.doubts doubts) c.sync.new.self reads left (c.in_ok-sync.ensures.settles doubts) c.sync.ensures.does.fewer
    (λ at is. c.read_state.ensures.only.fewer at (c.compare.ensures.compares.only.fewer at is)) (c.sync.ensures.does.words told.words) in
    idle_recovered shown doubts told c.args.geometry c.args.device.now c.compare.new.device (quiet.words told.words) (quiet.doubts doubts) (c.requires.heap told.words) idle left
    (subst (λ (s : ℕ). IsCertainBut shown (MayBeInDoubt c.args.geometry s) c.compare.new.device) idle sure)
    (equal_done c.args.geometry x (c.requires.heap told.words) idle (rw before at (c.in_ok-compare-in-Idle.ensures.same told.words)))

pub returns-in_err-redo-in_default-clause-doubts : goal.returns-in_err-redo-in_default-clause-doubts
returns-in_err-redo-in_default-clause-doubts g c doubts left =
    let shown = g.D.Device.shown in
    let told = g.met.D.Device.doubts_told doubts in
    let quiet = still shown _ _ _ c.sync.ensures.does c.read_state.ensures.only in
    let sure = left_sure shown doubts told c.args.geometry c.args.device.now c.read_state.new.device (quiet.words told.words) (quiet.doubts doubts) c.sync.new.self (c.read_state.ensures.only.doubts doubts) left (c.in_ok-sync.ensures.settles doubts)
    c.sync.ensures.does.fewer c.read_state.ensures.only.fewer (c.sync.ensures.does.words told.words) in
    since_from shown doubts told c.args.geometry c.args.device.now c.read_state.new.device (quiet.words told.words) (quiet.doubts doubts) _
    (c.redo.ensures.doubts doubts (subst (λ (s : ℕ). IsCertainBut shown (MayBeInDoubt c.args.geometry s) c.read_state.new.device) (search rules) sure))

pub returns-in_ok-redo-in_default-clause-doubts : goal.returns-in_ok-redo-in_default-clause-doubts
returns-in_ok-redo-in_default-clause-doubts g c doubts left =
    let shown = g.D.Device.shown in
    let told = g.met.D.Device.doubts_told doubts in
    let quiet = still shown _ _ _ c.sync.ensures.does c.read_state.ensures.only in
    let sure = left_sure shown doubts told c.args.geometry c.args.device.now c.read_state.new.device (quiet.words told.words) (quiet.doubts doubts) c.sync.new.self (c.read_state.ensures.only.doubts doubts) left (c.in_ok-sync.ensures.settles doubts)
    c.sync.ensures.does.fewer c.read_state.ensures.only.fewer (c.sync.ensures.does.words told.words) in
    since_from shown doubts told c.args.geometry c.args.device.now c.read_state.new.device (quiet.words told.words) (quiet.doubts doubts) _
    (c.redo.ensures.doubts doubts (subst (λ (s : ℕ). IsCertainBut shown (MayBeInDoubt c.args.geometry s) c.read_state.new.device) (search rules) sure))

pub returns-in_ok-redo-in_default-clause-recovers : goal.returns-in_ok-redo-in_default-clause-recovers
returns-in_ok-redo-in_default-clause-recovers g c doubts left =
    let shown = g.D.Device.shown in
    let told = g.met.D.Device.doubts_told doubts in
    let quiet = still shown _ _ _ c.sync.ensures.does c.read_state.ensures.only in
    let sure = left_sure shown doubts told c.args.geometry c.args.device.now c.read_state.new.device (quiet.words told.words) (quiet.doubts doubts) c.sync.new.self (c.read_state.ensures.only.doubts doubts) left (c.in_ok-sync.ensures.settles doubts)
    c.sync.ensures.does.fewer c.read_state.ensures.only.fewer (c.sync.ensures.does.words told.words) in
    recovered_from shown c.args.device.now c.read_state.new.device _ (quiet.words told.words)
    (c.in_ok-redo-in_default.ensures.recovers doubts (subst (λ (s : ℕ). IsCertainBut shown (MayBeInDoubt c.args.geometry s) c.read_state.new.device) (search rules) sure))

pub returns-in_err-compare-in-Idle-clause-images : goal.returns-in_err-compare-in-Idle-clause-images
returns-in_err-compare-in-Idle-clause-images g c told =
    quiet_images g.D.Device.shown c.args.geometry _ _ (λ t i le left. g.met.D.Device.counts_now c.args.device.now t i told le left) g.met.D.Device.tells_both (quietly g.D.Device.shown _ _ _ (still g.D.Device.shown _ _ _ c.sync.ensures.does c.read_state.ensures.only) c.compare.ensures.compares.only) told

pub returns-in_ok-compare-in-Idle-clause-idle : goal.returns-in_ok-compare-in-Idle-clause-idle
returns-in_ok-compare-in-Idle-clause-idle g c told is =
    record {
      stays = still g.D.Device.shown _ _ _ (still g.D.Device.shown _ _ _ c.sync.ensures.does c.read_state.ensures.only) c.compare.ensures.compares.only;
      writes = search rules;
      syncs = search rules;
    }
