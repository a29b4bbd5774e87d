use Rattle.std.proofs.Common.{◌≡◌, ◌∙◌, ℕ, List, ap, arith, refl, subst, sym}
use Rattle.std.specs.Prelude.{IsTrue, Ok, Err, None, Some, slice_index}
use Rattle.rom_model.specs.Faults.{AtMost}
use Rattle.rom_caller.specs.Worked.{order_asked}
use Rattle.rom_caller.proofs.Readying.{altered, at_most_one, heap_stands, none_since, only_read, ready_since}
use Rattle.rom_caller.proofs.making.make_ready.Goals as goal

pub returns-in-Ok-eq0-2-clause-ready : goal.returns-in-Ok-eq0-2-clause-ready
returns-in-Ok-eq0-2-clause-ready g c =
    let shown = g.D.Device.shown in let O = g.O.Object in let order = c.in-OpenOrCreate.order in let was = c.args.device.now in let mid = c.read.new.self in let now = c.make_new.new.device in
    let counts_now = g.met.D.Device.counts_now in
    let asked : order_asked c.args.mode ≡ Some order = ap order_asked c.in-OpenOrCreate.is in
    let one : AtMost 1 (shown.reads was) (shown.reads mid) = at_most_one (shown.reads was) (shown.reads mid) c.in-Ok-eq0.ensures.counts.reads_made in
    let same : shown.faults mid ≡ shown.faults was = c.in-Ok-eq0.ensures.counts.faults in
    let m = c.make_new.ensures in
    ready_since shown O.Contents O.machine.empty order was mid now c.read.ensures.only same (order_asked c.args.mode) asked (λ told. sym (c.in-Ok-eq0.ensures.word told) ∙ c.in-Ok-eq0.field-0-test) (altered shown O.Contents O.machine.empty order counts_now was mid now c.read.ensures.only one same m.alters m.images m.within) c.make_new.result m.made m.faults

pub returns-in-Ok-eq0-2-clause-unmade : goal.returns-in-Ok-eq0-2-clause-unmade
returns-in-Ok-eq0-2-clause-unmade g c =
    let shown = g.D.Device.shown in let O = g.O.Object in let order = c.in-OpenOrCreate.order in let was = c.args.device.now in let mid = c.read.new.self in let now = c.make_new.new.device in
    let counts_now = g.met.D.Device.counts_now in
    let asked : order_asked c.args.mode ≡ Some order = ap order_asked c.in-OpenOrCreate.is in
    let one : AtMost 1 (shown.reads was) (shown.reads mid) = at_most_one (shown.reads was) (shown.reads mid) c.in-Ok-eq0.ensures.counts.reads_made in
    let same : shown.faults mid ≡ shown.faults was = c.in-Ok-eq0.ensures.counts.faults in
    let m = c.make_new.ensures in
    none_since shown O.Contents O.machine.empty order was mid now c.read.ensures.only same (order_asked c.args.mode) asked (λ told. sym (c.in-Ok-eq0.ensures.word told) ∙ c.in-Ok-eq0.field-0-test) (altered shown O.Contents O.machine.empty order counts_now was mid now c.read.ensures.only one same m.alters m.images m.within) c.make_new.result m.why m.memory m.failed

pub returns-in-Ok-eq5931044263018451761-clause-ready : goal.returns-in-Ok-eq5931044263018451761-clause-ready
returns-in-Ok-eq5931044263018451761-clause-ready g c =
    let shown = g.D.Device.shown in let O = g.O.Object in let order = c.in-OpenOrCreate.order in let was = c.args.device.now in let now = c.read.new.self in
    let asked : order_asked c.args.mode ≡ Some order = ap order_asked c.in-OpenOrCreate.is in
    let at = c.in-Ok-eq5931044263018451761 in
    let same : shown.faults now ≡ shown.faults was = at.ensures.counts.faults in
    heap_stands shown O.Contents O.machine.empty order was now (order_asked c.args.mode) asked c.read.ensures.only (λ told. sym (at.ensures.word told) ∙ at.field-0-test) same
    (only_read shown O.Contents O.machine.empty order g.met.D.Device.counts_now was now c.read.ensures.only (at_most_one (shown.reads was) (shown.reads now) at.ensures.counts.reads_made) same)
