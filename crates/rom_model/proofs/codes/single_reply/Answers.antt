use Rattle.std.proofs.Common.{ap, length, arith}
use Rattle.std.specs.Prelude.{drop}
use Rattle.std.proofs.lemmas.List.{length-drop}
use Rattle.rom_model.proofs.Tags.{none_left}
use Rattle.rom_model.proofs.codes.single_reply.Goals as goal

pub returns-then-len-words-clause-none : goal.returns-then-len-words-clause-none
returns-then-len-words-clause-none c reply is =
    let rest = drop c.in_ok-reply.len c.args.words.now in
    let none = none_left c.args.words.now c.in_ok-reply.reply rest c.in_ok-reply.ensures.read reply is in
    omega (arith, ap length none, length-drop c.in_ok-reply.len c.args.words.now, c.if-len-words.true)
