use Rattle.std.proofs.Common.{rules}
use Rattle.rom_device.proofs.Going.{leaves_by}
use Rattle.rom_header.specs.Held.{Holds}
use Rattle.rom_recover.specs.Recovered.{Mended}
use Rattle.rom_open.specs.Refusals.{IsUnfit, named_order}
use Rattle.rom_open.proofs.Holding.{holds_one, same_current}
use Rattle.rom_open.proofs.Late.{refused_any, refused_late, refused_region, unfit_late}
use Rattle.rom_open.proofs.Room.{room_for_header}
use Rattle.rom_open.proofs.from_device.open_device.Goals as goal

pub returns-in-Ok-inspect_image-clause-one : goal.returns-in-Ok-inspect_image-clause-one
returns-in-Ok-inspect_image-clause-one g c = holds_one g.O.Object.Contents g.met.O.Object.one_contents

pub returns-in-Ok-inspect_image-clause-held : goal.returns-in-Ok-inspect_image-clause-held
returns-in-Ok-inspect_image-clause-held g c s k contents =
    let x = g.D.Device.shown.words c.args.device in
    let ready = c.in-Ok.ready in
    record {
      before = λ told. record { region = ready.image.items; current = c.in-Ok.ensures.current told; contents = contents };
      holds = λ told. search rules;
      images = λ told.
          let current = c.in-Ok.ensures.current (g.met.D.Device.tells_both told) in
          leaves_by g.D.Device.shown (Mended (named_order x) x) (λ i. Holds g.O.Object.Contents ready.geometry i s k) c.args.device c.make_ready.new.device (λ i mended. record { region = ready.image.items; current = same_current ready.geometry x i ready.image.items current mended.same; contents = contents })
          (c.in-Ok.ensures.opens.images told);
    }

pub returns-in-Err-inspect_image-clause-answer : goal.returns-in-Err-inspect_image-clause-answer
returns-in-Err-inspect_image-clause-answer g c told =
    let ready = c.in-Ok.ready in
    let unfit : IsUnfit g.O.Object.Contents g.O.Object.Rejects ready.geometry ready.image.items c.in-Err-inspect_image.why = search rules in
    refused_region (IsUnfit g.O.Object.Contents g.O.Object.Rejects) ready.geometry (g.D.Device.shown.words c.args.device) ready.image.items c.in-Err-inspect_image.why (c.in-Ok.ensures.current told) unfit

pub returns-in-Err-inspect_image-clause-opens : goal.returns-in-Err-inspect_image-clause-opens
returns-in-Err-inspect_image-clause-opens g c =
    let ready = c.in-Ok.ready in
    let unfit : IsUnfit g.O.Object.Contents g.O.Object.Rejects ready.geometry ready.image.items c.in-Err-inspect_image.why = search rules in
    refused_late g.D.Device.shown c.args.device c.make_ready.new.device (λ few. room_for_header _ _ c.in-Ok.ensures.fits few) c.in-Ok.ensures.opens c.in-Err-inspect_image.why (unfit_late g.O.Object.Contents g.O.Object.Rejects ready.geometry ready.image.items c.in-Err-inspect_image.why unfit)

pub returns-in-Err-inspect_image-clause-one : goal.returns-in-Err-inspect_image-clause-one
returns-in-Err-inspect_image-clause-one g c = holds_one g.O.Object.Contents g.met.O.Object.one_contents

pub returns-in-Err-clause-answer : goal.returns-in-Err-clause-answer
returns-in-Err-clause-answer g c told = refused_any (IsUnfit g.O.Object.Contents g.O.Object.Rejects) (λ order region. tt) (g.D.Device.shown.words c.args.device) c.in-Err.why (c.in-Err.ensures.refused told)
