use Rattle.std.proofs.Common.{arith, inl, inr, refl}
use Rattle.rom_run.proofs.Uncalled.{kept_uncalled, none_uncalled}
use Rattle.rom_run.proofs.play.end_without_memory.Goals as goal

pub returns-clause-none : goal.returns-clause-none
returns-clause-none g c = λ heap.
    let o = g.O.Object in
    record {
      none = none_uncalled g.D.Device.shown c.args.device o.machine o.Contents g.K.Sink.shown o.KIND o.Rejects o.earlier c.args.out.now c.tell.new.out 6 (λ three. omega (arith, three)) (λ seven. omega (arith, seven)) (λ six. c.tell.ensures.told) heap;
      kept = kept_uncalled g.D.Device.shown c.args.device heap;
      statuses = inr (inl refl);
      ran = refl;
    }
