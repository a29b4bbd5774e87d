use Rattle.std.proofs.Common.{◌≡◌, ℕ, ◌+◌, ◌-◌, ◌*◌, ◌/◌, ◌%◌, ◌^◌, ◌∙◌, sym, subst, arith}
use Rattle.rom_model.specs.Blocks.{IsNode, block_at}
use Rattle.rom_blob_region.proofs.Placing.{may_begin, node_there}
use Rattle.rom_blob_region.proofs.inspect.follow.node_at.Goals.{then-offset-first-via-then-offset-first, then-offset-first-via-else-offset-first+then-offset-first-2}
use Rattle.rom_blob_region.proofs.inspect.follow.node_at.Goals as goal

pub returns-then-offset-first : goal.returns-then-offset-first
returns-then-offset-first c x node at =
    let is = may_begin c.args.order c.args.want c.args.offset c.requires.order.least c.requires.want x node at in
    elim c.then-offset-first.branch [
      | then-offset-first-via-then-offset-first w ↦ omega (arith, is.0, w.if-offset-first.true, c.blocks_at-first.ensures.is)
      | then-offset-first-via-else-offset-first+then-offset-first-2 w ↦ omega (arith, is.1, w.if-offset-first-2.true, c.blocks_at-first.ensures.is, w.power_of_two.ensures.is)
    ]

pub returns-then-offset-first-ne0 : goal.returns-then-offset-first-ne0
returns-then-offset-first-ne0 c x node at =
    let is = may_begin c.args.order c.args.want c.args.offset c.requires.order.least c.requires.want x node at in
    let first : c.blocks_at-first.result ≡ 16 + 2 * 2 ^ c.args.order = omega (arith, c.blocks_at-first.ensures.is) in
    c.if-offset-first-ne0.true ((λ i. (c.args.offset - first i) % (4 * c.power_of_two-size.ensures.is i)) ∙ is.2)

pub returns : goal.returns
returns c =
    let n = c.args.order in
    let first : c.blocks_at-first.result ≡ 16 + 2 * 2 ^ n = omega (arith, c.blocks_at-first.ensures.is) in
    let size = c.power_of_two-size.ensures.is in
    let whole : (c.args.offset - (16 + 2 * 2 ^ n)) % (4 * 2 ^ c.args.want) ≡ 0 = sym (λ i. (c.args.offset - first i) % (4 * size i)) ∙ c.if-offset-first-ne0.false in
    let is = node_there n c.args.want c.args.offset c.requires.order.least c.requires.want (omega (arith, c.if-offset-first.false, first)) (omega (arith, c.if-offset-first-2.false, first, c.power_of_two.ensures.is)) whole in
    let same : 2 ^ (n - c.args.want) + (c.args.offset - (16 + 2 * 2 ^ n)) / (4 * 2 ^ c.args.want) ≡ c.power_of_two-2.result + (c.args.offset - c.blocks_at-first.result) / (4 * c.power_of_two-size.result) = sym (λ i. c.power_of_two-2.ensures.is i + (c.args.offset - first i) / (4 * size i)) in
    subst (λ (x : ℕ). IsNode (n - c.args.want) x × (c.args.offset ≡ block_at n c.args.want x)) same is
