use Rattle.std.proofs.Common.{false, subst}
use Rattle.rom_name.specs.Greetings.{IsGreeted}
use Rattle.rom_name.specs.Peeked.{IsFirst}
use Rattle.rom_tail.proofs.Naming.{stays_ready}
use Rattle.rom_tail.proofs.named.meet_stream.Goals as goal

pub returns-in-StreamFailed : goal.returns-in-StreamFailed
returns-in-StreamFailed g c = record {
  behind = c.greet.new.stream;
  greeted = subst (λ told. IsGreeted g.D.Device.shown (IsFirst g.S.Source.shown) false c.args.device.now c.greet.new.device c.args.stream.now c.greet.new.stream told) c.in-StreamFailed.is c.greet.ensures.greeted;
  ready_is = (c.over.ensures.unread, c.over.ensures.source);
  does = c.greet.ensures.does;
  keeps = c.greet.ensures.keeps;
}

pub returns-in_default : goal.returns-in_default
returns-in_default g c = record {
  behind = c.greet.new.stream;
  greeted = c.greet.ensures.greeted;
  ready_is = stays_ready g.D.Device.shown g.S.Source.shown c.args.missing c.args.device.now c.greet.new.device c.greet.new.stream c.greet.result c.in_default.not-StreamFailed;
  does = c.greet.ensures.does;
  keeps = c.greet.ensures.keeps;
}
