use Rattle.std.proofs.Common.{OnOk, rules, sym, subst}
use Rattle.rom_header.specs.Held.{Holds}
use Rattle.rom_open.proofs.Holding.{both_ok}
use Rattle.rom_open.proofs.Within.{within_making}
use Rattle.rom_open.proofs.new_heap.write_heap.Goals as goal

pub returns-clause-held_images : goal.returns-clause-held_images
returns-clause-held_images g c = λ images.
    let shown = g.D.Device.shown in
    let told = g.met.D.Device.tells_both images in
    let held : OnOk c.write_new.result (Holds {S = g.O.Object.State} g.O.Object.Contents c.args.order (shown.words c.write_new.new.device) g.O.Object.machine.empty 0) = search rules in
    both_ok c.write_new.result (λ synced held i left. subst (λ words. Holds g.O.Object.Contents c.args.order words g.O.Object.machine.empty 0) (sym (synced images i left)) held)
    c.write_new.ensures.certain held

pub returns-clause-within : goal.returns-clause-within
returns-clause-within g c = within_making g.D.Device.shown c.args.order c.args.device.now c.write_new.new.device c.write_new.result c.write_new.ensures.makes
