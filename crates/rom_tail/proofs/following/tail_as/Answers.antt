use Rattle.std.proofs.Common.{ℕ, List, length, ap, arith, subst, sym}
use Rattle.rom_model.specs.Leaving.{IsClosed}
use Rattle.rom_model.specs.Region.{Contents}
use Rattle.rom_model.specs.Trio.{trio}
use Rattle.rom_tail.specs.Chased.{HasDone}
use Rattle.rom_tail.proofs.Going.{not_long}
use Rattle.rom_tail.proofs.following.tail_as.Goals as goal

pub returns-clause-left : goal.returns-clause-left
returns-clause-left g c =
    let close = c.close.ensures in
    let first = c.start-chaser in
    record {
      opened = first.result.count;
      chaser = c.take_stream-stop.new.chaser;
      tailed = c.take_stream-stop.ensures.tailed;
      done = λ s k at.
          let there = subst (λ (z : ℕ × List ℕ). Contents z.0 z.1 s k) (λ i. (close.ended.order i, close.ended.image i)) at in
          let begun = first.ensures.done s k there in
          let none = ap length first.ensures.none.0 in
          (omega (arith, begun.count_is, none), subst (λ (n : ℕ). HasDone n s k c.take_stream-stop.new.chaser) (sym close.ended.order) (close.done s k there));
      history = close.history;
      records = close.records;
    }

pub returns-clause-short : goal.returns-clause-short
returns-clause-short g c = not_long g.S.Source.shown _ _ _ _ _ _ _ c.take_stream-stop.ensures.tailed

pub returns-clause-asked_once : goal.returns-clause-asked_once
returns-clause-asked_once g c = c.take_stream-stop.ensures.tailed.asked_once

pub returns-clause-closed : goal.returns-clause-closed
returns-clause-closed g c = λ story of. subst (IsClosed trio story) c.requires.many.1 (c.close.ensures.closed story of)
