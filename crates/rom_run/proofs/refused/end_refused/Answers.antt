use Rattle.std.proofs.Common.{refl, subst}
use Rattle.rom_text.specs.Runs.{IsLineWrittenOrCutShort}
use Rattle.rom_run.specs.Refusing.{refusal_line}
use Rattle.rom_run.proofs.Showing.{none_opened, refusal_ends}
use Rattle.rom_run.proofs.refused.end_refused.Goals as goal

pub returns-clause-none : goal.returns-clause-none
returns-clause-none g c = λ was failed.
    let o = g.O.Object in
    let ended = c.end_unopened.ensures in
    let left = c.args.refused in
    rw ended.worked record {
      none = none_opened o.machine o.Contents g.D.Device.shown g.K.Sink.shown o.KIND o.Rejects o.earlier was left.device c.args.out.now c.end_unopened.new.out left.why
          failed.refused failed.sizes failed.faults failed.images failed.calls failed.within (subst (λ kind. IsLineWrittenOrCutShort g.K.Sink.shown c.args.out.now c.end_unopened.new.out (refusal_line kind left.why)) c.KIND.ensures ended.told);
      kept = record { size = failed.size; outside = failed.outside; spared = tt };
      statuses = refusal_ends left.why;
      ran = refl;
    }

pub returns-clause-statuses : goal.returns-clause-statuses
returns-clause-statuses g c = rw c.end_unopened.ensures.worked (refusal_ends c.args.refused.why)
