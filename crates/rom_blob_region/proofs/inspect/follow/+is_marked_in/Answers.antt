use Rattle.std.proofs.Common.{◌≡◌, ℕ, suc, ◌-◌, subst, arith}
use Rattle.rom_block.specs.Walk.{IsNodeOf}
use Rattle.rom_block.proofs.NodeOf.{left_of, right_of}
use Rattle.rom_blob_region.proofs.inspect.follow.+is_marked_in.Goals as goal

pub is_marked_in-requires : goal.is_marked_in-requires
is_marked_in-requires t c =
    let e : c.args.want ≡ suc (c.args.want - 1) = omega (arith, c.if-want-gt0.true) in
    let node = left_of c.args.order (c.args.want - 1) c.args.node (subst (λ (k : ℕ). IsNodeOf c.args.order k c.args.node) e c.requires.node) in
    (omega (arith, c.decreases, c.if-want-gt0.true), (c.requires.most, (node, c.requires.sized)))

pub is_marked_in-requires-else-is_marked_in : goal.is_marked_in-requires-else-is_marked_in
is_marked_in-requires-else-is_marked_in t c =
    let e : c.args.want ≡ suc (c.args.want - 1) = omega (arith, c.if-want-gt0.true) in
    let node = right_of c.args.order (c.args.want - 1) c.args.node (subst (λ (k : ℕ). IsNodeOf c.args.order k c.args.node) e c.requires.node) in
    (omega (arith, c.decreases, c.if-want-gt0.true), (c.requires.most, (node, c.requires.sized)))
