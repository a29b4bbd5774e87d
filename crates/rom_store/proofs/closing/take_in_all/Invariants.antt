use Rattle.std.specs.Prelude.{◌≡◌, ◌++◌}
use Rattle.rom_lr.specs.Seats.{IsWriterOf}
use Rattle.rom_store.specs.Closing.{joined_of}
use Rattle.rom_store.proofs.closing.take_in_all.Given as goal

abbrev pub invariant-loop-pass : goal.invariant-loop-pass
invariant-loop-pass g l = record {
  of : IsWriterOf l.shared l.writer;
  id : l.writer.token.id ≡ l.fn.writer.token.id;
  joined : (let v = l.fn.writer.token.me.0 in l.writer.token.me.0 ≡ record v { joined = v.joined ++ joined_of l.yielded; steps = l.writer.token.me.0.steps });
}
