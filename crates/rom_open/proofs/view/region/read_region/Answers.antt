use Rattle.std.proofs.Common.{◌∙◌, ap}
use Rattle.rom_header.specs.Headers.{state_word}
use Rattle.rom_open.proofs.Counted.{idle_counted, mutating_counted, copying_counted}
use Rattle.rom_open.proofs.view.region.read_region.Goals as goal

pub returns-in_ok-compare-in-Idle-clause-counted : goal.returns-in_ok-compare-in-Idle-clause-counted
returns-in_ok-compare-in-Idle-clause-counted g c told =
    idle_counted c.args.header.geometry (g.D.Device.shown.words c.args.device.now) c.compare.new.image (c.requires.heap told) (c.requires.state told ∙ ap state_word c.in-Idle.is) (c.in_ok-compare-in-Idle.ensures.same told) (c.in_ok-compare-in-Idle.ensures.kept told)

pub returns-in-Mutating-clause-counted : goal.returns-in-Mutating-clause-counted
returns-in-Mutating-clause-counted g c told =
    mutating_counted c.args.header.geometry c.back.result (g.D.Device.shown.words c.args.device.now) c.read_image.new.image c.read_image.result (c.requires.state told ∙ ap state_word c.in-Mutating.is) c.back.ensures (c.read_image.ensures.read told)

pub returns-in-Copying-clause-counted : goal.returns-in-Copying-clause-counted
returns-in-Copying-clause-counted g c told =
    copying_counted c.args.header.geometry c.main.result (g.D.Device.shown.words c.args.device.now) c.read_image-in-Copying.new.image c.read_image-in-Copying.result (c.requires.state told ∙ ap state_word c.in-Copying.is) c.main.ensures (c.read_image-in-Copying.ensures.read told)
