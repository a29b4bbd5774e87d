use Rattle.std.proofs.Common.{arith, ◌++◌, ◌∙◌, ap, subst, sym, map, reverse}
use Rattle.rom_store.specs.Indexed.{Indexed}
use Rattle.rom_store.proofs.Places.{push_at}
use Rattle.rom_talk.specs.Seated.{IsUnnoted}
use Rattle.rom_talk.proofs.Seating.{seated_one}
use Rattle.rom_talk.proofs.seats.seat_all.Goals as goal

pub loop-preserved : goal.loop-preserved
loop-preserved g c =
    let b = c.loop.invariant in
    let ts = c.loop.talkers.items in
    let pushed = c.push_reserved.ensures.items in
    record {
      passes_many = omega (arith, c.take_last.ensures.len, b.passes_many, c.take_last.new.self.ok, c.loop.passes.ok);
      peers_many = omega (arith, c.take_last-in-loop.ensures.len, b.peers_many, c.take_last-in-loop.new.self.ok, c.loop.peers.ok);
      talkers_many = omega (arith, c.push_reserved.ensures.len, b.talkers_many, c.push_reserved.new.self.ok, c.loop.talkers.ok);
      callers = ap (λ zs. c.take_last.new.self.items ++ map (λ t. t.pass) (reverse zs)) pushed ∙ seated_one (λ t. t.pass) c.take_last.new.self.items c.loop.passes.items c.args.passes.now.items c.take_last.result ts c.new.result c.take_last.ensures.items c.new.ensures.pass b.callers;
      met = ap (λ zs. c.take_last-in-loop.new.self.items ++ map (λ t. t.peer) (reverse zs)) pushed ∙ seated_one (λ t. t.peer) c.take_last-in-loop.new.self.items c.loop.peers.items c.args.peers.now.items c.take_last-in-loop.result ts c.new.result c.take_last-in-loop.ensures.items c.new.ensures.peer b.met;
      unnoted = subst (Indexed (λ _ t. IsUnnoted t)) (sym pushed) (push_at (λ _ t. IsUnnoted t) ts c.new.result b.unnoted (c.new.ensures.unread, c.new.ensures.faulted));
      space = omega (arith, c.push_reserved.ensures.capacity, b.space);
      passes_space = c.take_last.ensures.capacity ∙ b.passes_space;
      peers_space = c.take_last-in-loop.ensures.capacity ∙ b.peers_space;
    }
