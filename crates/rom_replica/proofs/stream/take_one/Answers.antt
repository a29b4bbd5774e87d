use Rattle.std.proofs.Common.{◌≡◌, ◌≤◌, length, take, rules, subst, sym}
use Rattle.std.proofs.lemmas.List.{length-take-le}
use Rattle.rom_frame.specs.Messages.{IsMessageHeard}
use Rattle.rom_model.specs.History.{LAST_COUNT}
use Rattle.rom_replica.specs.Tallied.{AddsToTally}
use Rattle.rom_replica.proofs.Answered.{whole_turn}
use Rattle.rom_replica.proofs.stream.take_one.Goals as goal

pub returns-in-Whole : goal.returns-in-Whole
returns-in-Whole g c =
    let answer = c.take-taken.ensures in
    let heard = c.next_message-heard in
    let part = take heard.result.len heard.new.block in
    let source = g.S.Source.shown in
    let whole = subst (λ k. IsMessageHeard source c.args.tally.now.bytes part c.args.stream.now heard.new.source k) c.in-Whole.is heard.ensures.heard in
    let there : heard.result.len ≤ length heard.new.block = search rules in
    let long : length part ≡ heard.result.len = length-take-le heard.result.len heard.new.block there in
    let s = c.requires.formed in
    let within : c.take-taken.new.self.count ≤ LAST_COUNT = (answer.done s.0 s.1 s.2).within in
    record {
      turn = whole_turn source c.args.stream.now heard.new.source part heard.ensures.bytes heard.ensures.asked_once c.args.follower.now c.take-taken.new.self c.args.tally.now c.add.new.self whole
          c.take-taken.result c.add.result (answer.either c.requires.agrees) (answer.no_frame c.requires.agrees) (answer.frame c.requires.agrees) c.requires.tried within
          (subst (λ n. AddsToTally c.take-taken.result n c.args.tally.now c.add.new.self c.add.result) (sym long) c.add.ensures.adds);
    }
