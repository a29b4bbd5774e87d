use Rattle.std.proofs.Common.{◌≡◌, ℕ, ◌+◌, ◌^◌, ◌∷◌, ◌++◌, ◌∙◌, sym, ap, subst, arith, length}
use Rattle.std.specs.Prelude.{Result, Ok, Err, MatchResult, slice_index}
use Rattle.std.proofs.lemmas.Grind.{common_steps}
use Rattle.rom_model.proofs.Nodes.{pow_small}
use Rattle.rom_model.specs.declared.unfit.Break.{Break}
use Rattle.rom_model.specs.Tests.{checked}
use Rattle.rom_blob_region.specs.declared.inspect.walk.Reached.{Reached}
use Rattle.rom_blob_region.specs.Tests.{key_tests}
use Rattle.rom_blob_region.specs.Walks.{LeadsToBlob, held, next_blob_link, Node, AreBlobMarks, IsOnBlobWalk}
use Rattle.rom_blob_region.proofs.Blocks.{few}
use Rattle.rom_blob_region.proofs.Holding.{key_held}
use Rattle.rom_blob_region.proofs.Stepping.{link_inside, arrived, key_broke, body_broke, stepped}
use Rattle.rom_blob_region.proofs.inspect.walk.step.Goals as goal

pub follow_block-requires-clause-link : goal.follow_block-requires-clause-link
follow_block-requires-clause-link c =
    let r = c.requires.so_far in
    omega (arith, r.2.link, link_inside c.args.order c.args.region.now c.args.number r.0 r.1 c.requires.order.least c.requires.number r.2.reaches, c.requires.sized)

pub returns-in_err-inspect_key : goal.returns-in_err-inspect_key
returns-in_err-inspect_key c seen before on =
    let n = c.args.order in
    let w = c.args.region.now in
    let xs = held n w (before ++ seen) in
    let at = arrived n w xs c.args.reached.link c.in_ok-follow_block.field-0 (c.in_ok-follow_block.ensures xs on.marked).0 in
    let leads : LeadsToBlob n w xs (next_blob_link n c.args.number before) 0 (2 ^ n + at.unit) = subst (λ (l : ℕ). LeadsToBlob n w xs l 0 (2 ^ n + at.unit)) on.link at.leads in
    let e = c.in_err-inspect_key.field-0.0 in
    let tests : checked (key_tests n w c.args.number before at.unit) ≡ Err e = sym (c.inspect_key.ensures seen before at.unit on.reaches on.count at.here) ∙ c.in_err-inspect_key.was in
    let broke : Node n w c.args.number seen before (Err e) = key_broke n w c.args.number seen before at.unit leads e tests in
    let is : c.from_residual-in_err-inspect_key.result ≡ Err e = grind (arith, common_steps) in
    subst (λ (r : Result Reached Break). MatchResult r (λ next. (b : ℕ) × IsOnBlobWalk n w c.args.number seen (b ∷ before) next c.follow_block.new.marks) (λ d. Node n w c.args.number seen before (Err d))) (sym is) broke

pub inspect_body-requires-clause-node : goal.inspect_body-requires-clause-node
inspect_body-requires-clause-node c =
    let n = c.args.order in
    let w = c.args.region.now in
    let r = c.requires.so_far in
    let xs = held n w (r.1 ++ r.0) in
    let at = arrived n w xs c.args.reached.link c.in_ok-follow_block.field-0 (c.in_ok-follow_block.ensures xs r.2.marked).0 in
    let tests : checked (key_tests n w c.args.number r.1 at.unit) ≡ Ok tt = sym (c.inspect_key.ensures r.0 r.1 at.unit r.2.reaches r.2.count at.here) ∙ c.in_ok-inspect_key.was in
    (at.unit, at.here, at.inside, (key_held n w c.args.number r.1 at.unit tests).few)

pub returns-in_err-inspect_body : goal.returns-in_err-inspect_body
returns-in_err-inspect_body c seen before on =
    let n = c.args.order in
    let w = c.args.region.now in
    let xs = held n w (before ++ seen) in
    let followed = c.in_ok-follow_block.ensures xs on.marked in
    let at = arrived n w xs c.args.reached.link c.in_ok-follow_block.field-0 followed.0 in
    let leads : LeadsToBlob n w xs (next_blob_link n c.args.number before) 0 (2 ^ n + at.unit) = subst (λ (l : ℕ). LeadsToBlob n w xs l 0 (2 ^ n + at.unit)) on.link at.leads in
    let marks : AreBlobMarks n ((2 ^ n + at.unit) ∷ xs) c.follow_block.new.marks = subst (λ (x : ℕ). AreBlobMarks n (x ∷ xs) c.follow_block.new.marks) at.node followed.1 in
    let tests : checked (key_tests n w c.args.number before at.unit) ≡ Ok tt = sym (c.inspect_key.ensures seen before at.unit on.reaches on.count at.here) ∙ c.in_ok-inspect_key.was in
    let e = c.in_err-inspect_body.field-0.0 in
    let broke : Node n w c.args.number seen before (Err e) = body_broke n w c.args.number seen before at.unit leads tests e (c.in_err-inspect_body.ensures ((2 ^ n + at.unit) ∷ xs) at.unit marks at.here) in
    let is : c.from_residual-in_err-inspect_body.result ≡ Err e = grind (arith, common_steps) in
    subst (λ (r : Result Reached Break). MatchResult r (λ next. (b : ℕ) × IsOnBlobWalk n w c.args.number seen (b ∷ before) next c.inspect_body.new.marks) (λ d. Node n w c.args.number seen before (Err d))) (sym is) broke

pub overflow_add-result-2 : goal.overflow_add-result-2
overflow_add-result-2 c =
    let r = c.requires.so_far in
    omega (arith, r.2.count, few c.args.order c.args.region.now r.1 r.0 r.2.marked.apart, pow_small c.args.order c.requires.order.most)

pub returns : goal.returns
returns c seen before on =
    let n = c.args.order in
    let w = c.args.region.now in
    let xs = held n w (before ++ seen) in
    let followed = c.in_ok-follow_block.ensures xs on.marked in
    let at = arrived n w xs c.args.reached.link c.in_ok-follow_block.field-0 followed.0 in
    let leads : LeadsToBlob n w xs (next_blob_link n c.args.number before) 0 (2 ^ n + at.unit) = subst (λ (l : ℕ). LeadsToBlob n w xs l 0 (2 ^ n + at.unit)) on.link at.leads in
    let marks : AreBlobMarks n ((2 ^ n + at.unit) ∷ xs) c.follow_block.new.marks = subst (λ (x : ℕ). AreBlobMarks n (x ∷ xs) c.follow_block.new.marks) at.node followed.1 in
    let tests : checked (key_tests n w c.args.number before at.unit) ≡ Ok tt = sym (c.inspect_key.ensures seen before at.unit on.reaches on.count at.here) ∙ c.in_ok-inspect_key.was in
    let body = c.in_ok-inspect_body.ensures ((2 ^ n + at.unit) ∷ xs) at.unit marks at.here in
    let next : Reached = record { link = slice_index w c.args.reached.link + 2; count = c.args.reached.count + 1 } in
    (at.unit, stepped n w c.args.number seen before at.unit leads tests next c.inspect_body.new.marks on.reaches body.0 body.1 (ap (λ (a : ℕ). a + 2) at.here) (let e : c.args.reached.count + 1 ≡ length (at.unit ∷ before) = omega (arith, on.count) in e))
