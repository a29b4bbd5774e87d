use Rattle.std.proofs.Common.{ℕ, List, length, ap, arith, subst, sym}
use Rattle.rom_follow.specs.Followed.{HasDoneUpdates}
use Rattle.rom_model.specs.Region.{Contents}
use Rattle.rom_replica.proofs.follow.follow_as.Goals as goal

pub returns-clause-left : goal.returns-clause-left
returns-clause-left g c =
    let close = c.close.ensures in
    let first = c.start-follower in
    record {
      opened = first.result.count;
      follower = c.take_frames-stop.new.follower;
      stream = c.take_frames-stop.ensures.followed;
      done = λ s k at.
          let there = subst (λ (z : ℕ × List ℕ). Contents z.0 z.1 s k) (λ i. (close.ended.order i, close.ended.image i)) at in
          let begun = first.ensures.done s k there in
          let none = ap length first.ensures.none.0 in
          (omega (arith, begun.count_is, none), subst (λ (n : ℕ). HasDoneUpdates n s k c.take_frames-stop.new.follower) (sym close.ended.order) (close.done s k there));
      history = close.history;
      passes = close.passes;
      kept = close.kept;
    }
