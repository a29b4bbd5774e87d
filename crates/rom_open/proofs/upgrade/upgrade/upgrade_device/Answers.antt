use Rattle.std.proofs.Common.{◌∙◌, ℕ, List, Err, inl, refl, subst, sym}
use Rattle.rom_device.proofs.Going.{leaves_by}
use Rattle.rom_model.specs.VecSpace.{words_of_space}
use Rattle.rom_header.specs.Held.{Holds}
use Rattle.rom_recover.specs.Recovered.{Mended}
use Rattle.rom_open.specs.Batch.{Renews}
use Rattle.rom_open.specs.Opens.{Opens}
use Rattle.rom_open.specs.Refusals.{named_order}
use Rattle.rom_open.specs.Upgrading.{HoldsEither, IsUnfitOld, IsWholeHeap, UpgradeImage}
use Rattle.rom_open.proofs.Holding.{holds_one}
use Rattle.rom_open.proofs.Late.{refused_any, refused_late, refused_region, unfit_old_late}
use Rattle.rom_open.proofs.Leaving.{alters_within, batch_within, holds_either, named, on_ok, twins_hold, upgrade_leaves, was_held}
use Rattle.rom_open.proofs.Room.{room_for_header}
use Rattle.rom_open.proofs.Upgraded.{refused_calls}
use Rattle.rom_open.proofs.upgrade.upgrade.upgrade_device.Goals as goal

pub replace_regions-device-requires-clause-heap : goal.replace_regions-device-requires-clause-heap
replace_regions-device-requires-clause-heap g c told = (c.in-Ok.ensures.rest (g.met.D.Device.tells_both told)).heap

pub replace_regions-device-requires-clause-twins : goal.replace_regions-device-requires-clause-twins
replace_regions-device-requires-clause-twins g c told = let rest = c.in-Ok.ensures.rest (g.met.D.Device.tells_both told) in rest.main_is ∙ sym rest.back_is

pub returns-in-Ok-written-clause-answer : goal.returns-in-Ok-written-clause-answer
returns-in-Ok-written-clause-answer g c told =
    let renews : Renews g.O.Object.Contents g.O.Object.earlier c.in-Ok.ready.geometry (g.D.Device.shown.words c.args.device) (words_of_space c.in-Ok-renew_region.region)
    = record { region = c.in-Ok.ready.image.items; current = c.in-Ok.ensures.current (told); state = c.in-Ok-renew_region.ensures.renewed.0; count = c.in-Ok-renew_region.ensures.renewed.1; was = c.in-Ok-renew_region.ensures.renewed.2; is = c.in-Ok-renew_region.ensures.renewed.3 } in
    let order = c.order.ensures.order in (
      order ∙ named g.O.Object.Contents g.O.Object.earlier _ _ _ renews,
      (
        renews.state,
        renews.count,
        subst (λ (n : ℕ). Holds g.O.Object.earlier.Contents n (g.D.Device.shown.words c.args.device) renews.state renews.count) (sym order) (was_held g.O.Object.Contents g.O.Object.earlier _ _ _ renews),
      ),
    )

pub returns-in-Ok-written-clause-upgraded : goal.returns-in-Ok-written-clause-upgraded
returns-in-Ok-written-clause-upgraded g c told =
    let now = c.replace_regions-device.result.0 in
    let renews : Renews g.O.Object.Contents g.O.Object.earlier c.in-Ok.ready.geometry (g.D.Device.shown.words c.args.device) (words_of_space c.in-Ok-renew_region.region)
    = record { region = c.in-Ok.ready.image.items; current = c.in-Ok.ensures.current (g.met.D.Device.tells_both told); state = c.in-Ok-renew_region.ensures.renewed.0; count = c.in-Ok-renew_region.ensures.renewed.1; was = c.in-Ok-renew_region.ensures.renewed.2; is = c.in-Ok-renew_region.ensures.renewed.3 } in
    let held = twins_hold g.O.Object.Contents g.O.Object.earlier _ _ _ renews (holds_one g.O.Object.earlier.Contents g.met.O.Renew.one_earlier) in
    let twins = on_ok _ _ c.in-Ok-written.is (c.replace_regions-device.ensures.now told) in
    record {
      holds = λ s k was. held s k was (g.D.Device.shown.words now) (twins (g.D.Device.shown.words now) (g.met.D.Device.reads_image now told));
      images = λ s k was i left. held s k was i (twins i left);
      whole = subst (λ (n : ℕ). IsWholeHeap n (g.D.Device.shown.words now)) (named g.O.Object.Contents g.O.Object.earlier _ _ _ renews) (on_ok _ _ c.in-Ok-written.is (c.replace_regions-device.ensures.whole told));
    }

pub returns-in-Ok-written-clause-one : goal.returns-in-Ok-written-clause-one
returns-in-Ok-written-clause-one g c = holds_one g.O.Object.Contents g.met.O.Object.one_contents

pub returns-in-Ok-written-clause-one_earlier : goal.returns-in-Ok-written-clause-one_earlier
returns-in-Ok-written-clause-one_earlier g c = holds_one g.O.Object.earlier.Contents g.met.O.Renew.one_earlier

pub returns-in-Ok-written-clause-images : goal.returns-in-Ok-written-clause-images
returns-in-Ok-written-clause-images g c told =
    let renews : Renews g.O.Object.Contents g.O.Object.earlier c.in-Ok.ready.geometry (g.D.Device.shown.words c.args.device) (words_of_space c.in-Ok-renew_region.region)
    = record { region = c.in-Ok.ready.image.items; current = c.in-Ok.ensures.current (g.met.D.Device.tells_both told); state = c.in-Ok-renew_region.ensures.renewed.0; count = c.in-Ok-renew_region.ensures.renewed.1; was = c.in-Ok-renew_region.ensures.renewed.2; is = c.in-Ok-renew_region.ensures.renewed.3 } in
    upgrade_leaves g.O.Object.Contents g.O.Object.earlier _ _ _ renews g.D.Device.shown c.args.device c.make_ready.new.device c.replace_regions-device.result.0
    (c.in-Ok.ensures.opens.recovered (g.met.D.Device.tells_both told) refl) (c.in-Ok.ensures.opens.certain refl told) (c.in-Ok.ensures.opens.images told) (c.replace_regions-device.ensures.since told)

pub returns-in-Ok-written-clause-held_images : goal.returns-in-Ok-written-clause-held_images
returns-in-Ok-written-clause-held_images g c told s k held =
    let x : List ℕ = g.D.Device.shown.words c.args.device in
    leaves_by g.D.Device.shown (UpgradeImage g.O.Object.Contents g.O.Object.earlier x) (λ i. HoldsEither g.O.Object.Contents g.O.Object.earlier (named_order x) i s k) c.args.device c.replace_regions-device.result.0
    (holds_either g.O.Object.Contents g.O.Object.earlier (holds_one g.O.Object.earlier.Contents g.met.O.Renew.one_earlier) x s k held) (returns-in-Ok-written-clause-images g c told)

pub returns-in-Ok-written-clause-within : goal.returns-in-Ok-written-clause-within
returns-in-Ok-written-clause-within g c =
    batch_within g.D.Device.shown _ c.args.device c.make_ready.new.device c.replace_regions-device.result.0 c.in-Ok.ensures.opens.left (λ told. sym (c.in-Ok.ensures.current told).heap.header.order_is) c.replace_regions-device.ensures.does

pub returns-in-Ok-renew_region-clause-one : goal.returns-in-Ok-renew_region-clause-one
returns-in-Ok-renew_region-clause-one g c = holds_one g.O.Object.Contents g.met.O.Object.one_contents

pub returns-in-Ok-renew_region-clause-one_earlier : goal.returns-in-Ok-renew_region-clause-one_earlier
returns-in-Ok-renew_region-clause-one_earlier g c = holds_one g.O.Object.earlier.Contents g.met.O.Renew.one_earlier

pub returns-in-Ok-renew_region-clause-images : goal.returns-in-Ok-renew_region-clause-images
returns-in-Ok-renew_region-clause-images g c told =
    let renews : Renews g.O.Object.Contents g.O.Object.earlier c.in-Ok.ready.geometry (g.D.Device.shown.words c.args.device) (words_of_space c.in-Ok-renew_region.region)
    = record { region = c.in-Ok.ready.image.items; current = c.in-Ok.ensures.current (g.met.D.Device.tells_both told); state = c.in-Ok-renew_region.ensures.renewed.0; count = c.in-Ok-renew_region.ensures.renewed.1; was = c.in-Ok-renew_region.ensures.renewed.2; is = c.in-Ok-renew_region.ensures.renewed.3 } in
    upgrade_leaves g.O.Object.Contents g.O.Object.earlier _ _ _ renews g.D.Device.shown c.args.device c.make_ready.new.device c.replace_regions-device.result.0
    (c.in-Ok.ensures.opens.recovered (g.met.D.Device.tells_both told) refl) (c.in-Ok.ensures.opens.certain refl told) (c.in-Ok.ensures.opens.images told) (c.replace_regions-device.ensures.since told)

pub returns-in-Ok-renew_region-clause-held_images : goal.returns-in-Ok-renew_region-clause-held_images
returns-in-Ok-renew_region-clause-held_images g c told s k held =
    let x : List ℕ = g.D.Device.shown.words c.args.device in
    leaves_by g.D.Device.shown (UpgradeImage g.O.Object.Contents g.O.Object.earlier x) (λ i. HoldsEither g.O.Object.Contents g.O.Object.earlier (named_order x) i s k) c.args.device c.replace_regions-device.result.0
    (holds_either g.O.Object.Contents g.O.Object.earlier (holds_one g.O.Object.earlier.Contents g.met.O.Renew.one_earlier) x s k held) (returns-in-Ok-renew_region-clause-images g c told)

pub returns-in-Ok-renew_region-clause-within : goal.returns-in-Ok-renew_region-clause-within
returns-in-Ok-renew_region-clause-within g c =
    batch_within g.D.Device.shown _ c.args.device c.make_ready.new.device c.replace_regions-device.result.0 c.in-Ok.ensures.opens.left (λ told. sym (c.in-Ok.ensures.current told).heap.header.order_is) c.replace_regions-device.ensures.does

pub returns-in-Ok-clause-one : goal.returns-in-Ok-clause-one
returns-in-Ok-clause-one g c = holds_one g.O.Object.Contents g.met.O.Object.one_contents

pub returns-in-Ok-clause-one_earlier : goal.returns-in-Ok-clause-one_earlier
returns-in-Ok-clause-one_earlier g c = holds_one g.O.Object.earlier.Contents g.met.O.Renew.one_earlier

pub returns-in-Ok-clause-answer : goal.returns-in-Ok-clause-answer
returns-in-Ok-clause-answer g c told = refused_region (IsUnfitOld g.O.Object.earlier) c.in-Ok.ready.geometry (g.D.Device.shown.words c.args.device) c.in-Ok.ready.image.items c.in-Err-renew_region.why (c.in-Ok.ensures.current told) c.in-Err-renew_region.ensures.refused

pub returns-in-Ok-clause-images : goal.returns-in-Ok-clause-images
returns-in-Ok-clause-images g c told =
    let x : List ℕ = g.D.Device.shown.words c.args.device in
    leaves_by g.D.Device.shown (Mended (named_order x) x) (UpgradeImage g.O.Object.Contents g.O.Object.earlier x) c.args.device c.make_ready.new.device (λ i mended. inl mended.same) (c.in-Ok.ensures.opens.images told)

pub returns-in-Ok-clause-held_images : goal.returns-in-Ok-clause-held_images
returns-in-Ok-clause-held_images g c told s k held =
    let x : List ℕ = g.D.Device.shown.words c.args.device in
    leaves_by g.D.Device.shown (Mended (named_order x) x) (λ i. HoldsEither g.O.Object.Contents g.O.Object.earlier (named_order x) i s k) c.args.device c.make_ready.new.device
    (λ i mended. holds_either g.O.Object.Contents g.O.Object.earlier (holds_one g.O.Object.earlier.Contents g.met.O.Renew.one_earlier) x s k held i (inl mended.same)) (c.in-Ok.ensures.opens.images told)

pub returns-in-Ok-clause-within : goal.returns-in-Ok-clause-within
returns-in-Ok-clause-within g c = alters_within g.D.Device.shown c.args.device c.make_ready.new.device c.in-Ok.ensures.opens.left

pub returns-in-Ok-clause-opens : goal.returns-in-Ok-clause-opens
returns-in-Ok-clause-opens g c = λ by_name.
    let opens : Opens g.D.Device.shown c.args.device c.make_ready.new.device (Err c.in-Err-renew_region.why)
    = refused_late g.D.Device.shown c.args.device c.make_ready.new.device (λ few. room_for_header _ _ c.in-Ok.ensures.fits few) c.in-Ok.ensures.opens c.in-Err-renew_region.why (unfit_old_late g.O.Object.earlier c.in-Ok.ready.geometry c.in-Ok.ready.image.items c.in-Err-renew_region.why c.in-Err-renew_region.ensures.refused) in
    opens

pub returns-in-Ok-clause-calls : goal.returns-in-Ok-clause-calls
returns-in-Ok-clause-calls g c told =
    let opens : Opens g.D.Device.shown c.args.device c.make_ready.new.device (Err c.in-Err-renew_region.why)
    = refused_late g.D.Device.shown c.args.device c.make_ready.new.device (λ few. room_for_header _ _ c.in-Ok.ensures.fits few) c.in-Ok.ensures.opens c.in-Err-renew_region.why (unfit_old_late g.O.Object.earlier c.in-Ok.ready.geometry c.in-Ok.ready.image.items c.in-Err-renew_region.why c.in-Err-renew_region.ensures.refused) in
    refused_calls g.D.Device.shown (g.D.Device.shown.words c.args.device) c.args.device c.make_ready.new.device c.in-Err-renew_region.why (opens.calls told)

pub returns-clause-answer : goal.returns-clause-answer
returns-clause-answer g c told = refused_any (IsUnfitOld g.O.Object.earlier) (λ order region. tt) (g.D.Device.shown.words c.args.device) c.in-Err.why (c.in-Err.ensures.refused told)

pub returns-clause-held_images : goal.returns-clause-held_images
returns-clause-held_images g c told s k held =
    let x : List ℕ = g.D.Device.shown.words c.args.device in
    leaves_by g.D.Device.shown (Mended (named_order x) x) (λ i. HoldsEither g.O.Object.Contents g.O.Object.earlier (named_order x) i s k) c.args.device c.make_ready.new.device
    (λ i mended. holds_either g.O.Object.Contents g.O.Object.earlier (holds_one g.O.Object.earlier.Contents g.met.O.Renew.one_earlier) x s k held i (inl mended.same)) (c.in-Err.ensures.opens.images told)
