use Rattle.std.proofs.Common.{ℕ, ◌+◌, ◌/◌, ◌∷◌, [], ◌∙◌, ap, subst, arith, Bool}
use Rattle.std.specs.Prelude.{slice_index}
use Rattle.rom_model.specs.Tests.{test, checked}
use Rattle.rom_model.specs.declared.unfit.Rule.TheVariants.{Pad}
use Rattle.rom_blob_region.specs.State.{order_for}
use Rattle.rom_blob_region.specs.Walks.{LeadsToBlob}
use Rattle.rom_blob_region.proofs.InspectedBodies.{last_inside, body_answer}
use Rattle.rom_blob_region.proofs.inspect.node.inspect_body.Goals as goal

pub ends_bare-requires-clause-within : goal.ends_bare-requires-clause-within
ends_bare-requires-clause-within c rest =
    let n = c.args.order in
    let w = c.args.region.now in
    let m = c.requires.marks in
    let r = c.requires.node in
    let len = slice_index w (c.args.node + 1) in
    let few = ap (λ (a : ℕ). slice_index w (a + 1)) r.1 in
    let x = c.in_ok-follow_block.field-0 in
    let leads : LeadsToBlob n w m.0 (c.args.node + 3) (order_for len) x = subst (λ (o : ℕ). LeadsToBlob n w m.0 (c.args.node + 3) o x) c.order_for.ensures.is (c.in_ok-follow_block.ensures m.0 m.1).0 in
    omega (arith, last_inside n w m.0 (c.args.node + 3) len x c.requires.order.least (omega (arith, few, r.3)) c.if-len-eq0.false leads rest, c.requires.sized)

pub returns : goal.returns
returns c held b are here =
    let n = c.args.order in
    let w = c.args.region.now in
    let node = c.args.node in
    let followed = c.in_ok-follow_block.ensures held are in
    let tests = c.check.ensures ∙ ap (λ (t : Bool). checked (test (slice_index w (node + 3) + slice_index w (node + 1) / 8) Pad t ∷ [])) c.ends_bare.ensures in
    body_answer n w held b c.follow_block.new.marks c.requires.order.least node c.in_ok-follow_block.field-0 c.order_for.result c.check.result here c.order_for.ensures.is c.if-len-eq0.false followed.0 followed.1 tests
