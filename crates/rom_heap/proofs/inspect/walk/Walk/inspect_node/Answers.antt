use Rattle.std.proofs.Common.{◌≡◌, ℕ, ◌+◌, ◌∷◌, [], ◌∙◌, sym, ap, subst, arith}
use Rattle.std.specs.Prelude.{Ok, slice_index, ◌==◌}
use Rattle.rom_model.specs.declared.unfit.Rule.TheVariants.{Pad, Bucket}
use Rattle.rom_model.specs.Region.{bucket_of}
use Rattle.rom_model.proofs.Nodes.{pow_small}
use Rattle.rom_heap.specs.declared.inspect.walk.Walk.{Walk}
use Rattle.rom_heap.specs.declared.inspect.walk.Walk.TheVariants as along
use Rattle.rom_model.specs.Tests.{test, checked, are_zero}
use Rattle.rom_heap.specs.Walks.{Reaches, node_tests}
use Rattle.rom_heap.proofs.OldNode.{last_decides}
use Rattle.rom_heap.proofs.inspect.walk.Walk.inspect_node.Goals as goal

pub check_zeros-requires-clause-small : goal.check_zeros-requires-clause-small
check_zeros-requires-clause-small c = omega (arith, pow_small c.args.order c.requires.order.most)

pub check_zeros-requires-in-Set-clause-small : goal.check_zeros-requires-in-Set-clause-small
check_zeros-requires-in-Set-clause-small c = omega (arith, pow_small c.args.order c.requires.order.most)

pub returns-in_ok-check-in-OldBucket : goal.returns-in_ok-check-in-OldBucket
returns-in_ok-check-in-OldBucket c seen before b reaches known here =
    let n = c.args.order in
    let w = c.args.region.now in
    let number = c.in-OldBucket.number in
    let is : c.args.self ≡ along.OldBucket number = c.in-OldBucket.is in
    let pad : checked (are_zero w (c.args.node + 3) 1 Pad) ≡ Ok tt = sym c.check_zeros-in-OldBucket.ensures ∙ c.in_ok-check_zeros-in-OldBucket.was in
    let own : checked (test c.args.node Bucket (bucket_of n (slice_index w c.args.node) == number) ∷ []) ≡ Ok tt =
    ap (λ (k : ℕ). checked (test c.args.node Bucket (k == number) ∷ [])) (sym c.bucket-in-OldBucket.ensures.is) ∙ (sym c.check-in-OldBucket.ensures ∙ c.in_ok-check-in-OldBucket.was) in
    let stands = c.has_key-stands.ensures seen before (subst (λ (v : Walk). Reaches n w v seen before) is reaches) known.count in
    c.check-in-OldBucket-2.ensures ∙ (last_decides n w before number b c.args.node c.has_key-stands.result here pad own stands ∙ ap (λ (v : Walk). checked (node_tests n w v before b)) (sym is))
