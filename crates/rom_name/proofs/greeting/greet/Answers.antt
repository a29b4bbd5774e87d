use Rattle.std.proofs.Common.{inr, subst}
use Rattle.rom_name.specs.Greetings.{IsCarriedOut, IsGreeted, IsMetSo}
use Rattle.rom_name.specs.Identities.{IsOwnAnswer}
use Rattle.rom_name.specs.Peeked.{IsFirst}
use Rattle.rom_name.specs.declared.greeting.Greeting.{Greeting}
use Rattle.rom_name.specs.declared.greeting.Greeting.TheVariants.{DeviceFailed, Followed, Refused, StreamFailed}
use Rattle.rom_name.proofs.Carrying.{carried, changed, failed_so, no_stream_failed}
use Rattle.rom_name.proofs.Counted.{holds_stays}
use Rattle.rom_name.proofs.greeting.greet.Goals as goal

pub returns-in_default-clause-keeps : goal.returns-in_default-clause-keeps
returns-in_default-clause-keeps g c order i j s k = holds_stays g.O.Object.Contents order i j s k

pub returns-in_default-found-clause-keeps : goal.returns-in_default-found-clause-keeps
returns-in_default-found-clause-keeps g c order i j s k = holds_stays g.O.Object.Contents order i j s k

pub returns-in-Failed-clause-keeps : goal.returns-in-Failed-clause-keeps
returns-in-Failed-clause-keeps g c order i j s k = holds_stays g.O.Object.Contents order i j s k

pub returns-in_default-take_first : goal.returns-in_default-take_first
returns-in_default-take_first g c =
    let shown = g.D.Device.shown in
    let meeting = c.meet_first.result in
    let was = c.args.device.now in
    let now = c.carry_out.new.device in
    let done : IsCarriedOut shown meeting was now c.carry_out.result =
    carried shown was c.read_own.new.device now meeting c.carry_out.result c.in-Ok.ensures.only c.in-Ok.ensures.cause.none c.carry_out.ensures in
    let met : IsMetSo shown (IsFirst g.S.Source.shown) c.args.anonymous was now c.args.stream.now c.take_first.new.self c.carry_out.result = record {
      own = c.in-Some.own;
      own_is = λ told. subst (IsOwnAnswer (shown.words was)) c.in-Some.is (c.in-Ok.ensures.answer told);
      first = c.take_first.result;
      first_is = c.take_first.ensures;
      met = meeting;
      met_is = c.meet_first.ensures;
      done = done;
    } in
    record {
      greeted = by_told c.carry_out.result met done;
      does = changed shown was now meeting c.carry_out.result done;
      keeps = λ order i j s k. holds_stays g.O.Object.Contents order i j s k;
    }
  where
    by_told : (told : Greeting) → IsMetSo g.D.Device.shown (IsFirst g.S.Source.shown) c.args.anonymous c.args.device.now c.carry_out.new.device c.args.stream.now c.take_first.new.self told
        → IsCarriedOut g.D.Device.shown c.meet_first.result c.args.device.now c.carry_out.new.device told
        → IsGreeted g.D.Device.shown (IsFirst g.S.Source.shown) c.args.anonymous c.args.device.now c.carry_out.new.device c.args.stream.now c.take_first.new.self told
    by_told Followed met done = inr met
    by_told (Refused why) met done = met
    by_told StreamFailed met done = absurd (no_stream_failed g.D.Device.shown c.args.device.now c.carry_out.new.device c.meet_first.result done)
    by_told DeviceFailed met done = (failed_so g.D.Device.shown c.args.device.now c.carry_out.new.device c.meet_first.result done, inr met)
