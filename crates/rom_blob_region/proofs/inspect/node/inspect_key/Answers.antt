use Rattle.std.proofs.Common.{◌≡◌, ℕ, ◌+◌, ◌∷◌, [], ◌∙◌, sym, ap, subst, arith, length}
use Rattle.std.specs.Prelude.{Ok, slice_index, ◌==◌, not, nat_le}
use Rattle.rom_model.specs.Chains.{times, each_word}
use Rattle.rom_model.specs.Region.{bucket_of}
use Rattle.rom_model.specs.Tests.{test, checked}
use Rattle.rom_model.specs.declared.unfit.Rule.TheVariants.{Count, Bucket}
use Rattle.rom_bucket.specs.Walk.{head_of}
use Rattle.rom_blob_region.specs.Walks.{IsBlobWay}
use Rattle.rom_blob_region.proofs.Onward.{onward, length_onward, keys_onward, way_onward}
use Rattle.rom_blob_region.proofs.Stepping.{link_inside}
use Rattle.rom_blob_region.proofs.Ways.{last_decides}
use Rattle.rom_blob_region.proofs.inspect.node.inspect_key.Goals as goal

pub has_key-stands-requires-clause-link : goal.has_key-stands-requires-clause-link
has_key-stands-requires-clause-link c = omega (arith, link_inside c.args.order c.args.region.now c.args.number [] [] c.requires.order.least c.requires.number tt, c.blocks_at.ensures.is, c.requires.sized)

pub has_key-stands-requires-clause-way : goal.has_key-stands-requires-clause-way
has_key-stands-requires-clause-way c =
    let n = c.args.order in
    let w = c.args.region.now in
    let r = c.requires.reached in
    let head : head_of n c.args.number ≡ c.blocks_at.result + c.args.number = omega (arith, c.blocks_at.ensures.is) in (
      onward r.1 [],
      subst (λ (a : ℕ). IsBlobWay n w a (onward r.1 [])) head (way_onward n w c.requires.order.least c.args.number r.0 r.1 [] r.2 tt),
      (let e : c.args.count ≡ length (onward r.1 []) = omega (arith, r.3, length_onward r.1 []) in e),
    )

pub returns : goal.returns
returns c seen before b reaches long here =
    let n = c.args.order in
    let w = c.args.region.now in
    let node = c.args.node in
    let head : head_of n c.args.number ≡ c.blocks_at.result + c.args.number = omega (arith, c.blocks_at.ensures.is) in
    let way : IsBlobWay n w (c.blocks_at.result + c.args.number) (onward before []) = subst (λ (a : ℕ). IsBlobWay n w a (onward before [])) head (way_onward n w c.requires.order.least c.args.number seen before [] reaches tt) in
    let few : checked (test (node + 1) Count (nat_le (slice_index w (node + 1)) 256) ∷ []) ≡ Ok tt = sym c.check.ensures ∙ c.in_ok-check.was in
    let own : checked (test node Bucket (bucket_of n (slice_index w node) == c.args.number) ∷ []) ≡ Ok tt =
    ap (λ (k : ℕ). checked (test node Bucket (k == c.args.number) ∷ [])) (sym c.bucket.ensures.is) ∙ (sym c.check-2.ensures ∙ c.in_ok-check-2.was) in
    let many : times (slice_index w node) (each_word n w 0 (onward before [])) ≡ times (slice_index w node) (each_word n w 0 before) = omega (arith, keys_onward n w (slice_index w node) before []) in
    let stands : c.has_key-stands.result ≡ not (times (slice_index w node) (each_word n w 0 before) == 0) =
    c.has_key-stands.ensures (onward before []) way (omega (arith, long, length_onward before [])) ∙ ap (λ (t : ℕ). not (t == 0)) many in
    c.check-3.ensures ∙ last_decides n w before c.args.number b node c.has_key-stands.result here few own stands
