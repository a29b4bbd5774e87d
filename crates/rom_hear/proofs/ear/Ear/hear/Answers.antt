use Rattle.std.proofs.Common.{◌^◌, ◌-◌, ◌≤◌, arith}
use Rattle.rom_hear.proofs.Hearing.{asks_first, asks_none, asks_on, hands_none, hands_out, heard_first, heard_on}
use Rattle.rom_hear.proofs.ear.Ear.hear.Goals as goal

pub loop-round-init : goal.loop-round-init
loop-round-init g c = record {
  heard = λ lines here. heard_first c.args.self.now (g.P.Peer.shown.log c.args.peer.now) lines here;
  asks = asks_first g.P.Peer.shown c.args.self.now c.args.peer.now;
}

pub loop-round-preserved : goal.loop-round-preserved
loop-round-preserved g c =
    let h = c.loop-round.invariant in
    record {
      heard = λ lines here. let so_far = h.heard lines here in heard_on _ c.step.new.self _ _ _ lines c.loop-round._round so_far (c.in-None.ensures.steps lines so_far.at);
      asks = asks_on g.P.Peer.shown c.args.self.now c.loop-round.self c.step.new.self c.args.peer.now c.loop-round.peer c.step.new.peer _ h.asks c.in-None.ensures.asks;
    }

pub returns-in-Some-clause-next : goal.returns-in-Some-clause-next
returns-in-Some-clause-next g c = λ lines here. let so_far = c.loop-round.invariant.heard lines here in hands_out _ c.step.new.self _ _ _ lines c.loop-round._round _ so_far (c.in-Some.ensures.steps lines so_far.at)

pub returns-in-Some-clause-asks : goal.returns-in-Some-clause-asks
returns-in-Some-clause-asks g c = asks_on g.P.Peer.shown c.args.self.now c.loop-round.self c.step.new.self c.args.peer.now c.loop-round.peer c.step.new.peer _ c.loop-round.invariant.asks c.in-Some.ensures.asks

pub returns-clause-next : goal.returns-clause-next
returns-clause-next g c =
    let all : 2 ^ 64 - 1 ≤ c.loop-round._round = omega arith in
    λ lines here. hands_none c.loop-round.self _ _ lines c.loop-round._round (c.loop-round.invariant.heard lines here) all

pub returns-clause-asks : goal.returns-clause-asks
returns-clause-asks g c = asks_none g.P.Peer.shown c.args.self.now c.loop-round.self c.args.peer.now c.loop-round.peer c.loop-round.invariant.asks
