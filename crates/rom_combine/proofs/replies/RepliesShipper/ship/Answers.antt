use Rattle.std.proofs.Common.{◌++◌, ◌∷◌, List, ℕ, [], sym, ◌∙◌, arith}
use Rattle.rom_combine.proofs.Wanting.{replies_more}
use Rattle.rom_combine.proofs.replies.RepliesShipper.ship.Goals as goal

pub loop-i-preserved : goal.loop-i-preserved
loop-i-preserved c =
    c.push.ensures.items ∙ ((λ j. c.loop-i.invariant j ++ (c.of.ensures ∙ c.reply.ensures.words) j ∷ [])
    ∙ sym (replies_more c.args.batch.now.updates c.loop-i.i (let lt = c.loop-i-test.true in let many = c.len-i-end.ensures.many in omega arith)))
