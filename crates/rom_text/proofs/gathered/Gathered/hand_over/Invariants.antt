use Rattle.std.proofs.Common.{◌≡◌, ◌-◌, drop, false}
use Rattle.std.specs.Io.KnownBytes.{Keeps, append_known}
use Rattle.arrayvec.specs.ArrayVec.{array_vec_len}
use Rattle.rom_text.proofs.gathered.Gathered.hand_over.Given as goal

-- what is handed over and what waits are together as before
abbrev pub invariant-loop-self : goal.invariant-loop-self
invariant-loop-self g l = record {
  kept : Keeps (append_known (g.O.Sink.shown.taken l.initial.self.out.now) (drop l.initial.self.handed l.initial.self.block.items))
      (append_known (g.O.Sink.shown.taken l.self.out.now) (drop l.self.handed l.self.block.items));
  faults : g.O.Sink.shown.faults l.self.out.now ≡ g.O.Sink.shown.faults l.initial.self.out.now;
  failing : l.self.failing ≡ false;
  same_sink : l.self.out.ghost_name ≡ l.initial.self.out.ghost_name;
  rest : g.O.Sink.shown.rest l.self.out.now ≡ g.O.Sink.shown.rest l.initial.self.out.now;
  opened : g.O.Sink.shown.taken l.self.opened.value ≡ g.O.Sink.shown.taken l.initial.self.opened.value;
}

abbrev pub decreases-loop-self : goal.decreases-loop-self
decreases-loop-self g l = array_vec_len l.self.block - l.self.handed
