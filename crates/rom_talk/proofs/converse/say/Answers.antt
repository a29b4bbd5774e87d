use Rattle.rom_text.specs.Text.{ResultFits, line_text, result_text, texts_of}
use Rattle.rom_hear.specs.Saying.{Tells}
use Rattle.rom_store.specs.Taking.{result_taken}
use Rattle.std.proofs.Common.{OnOk, subst}
use Rattle.rom_talk.proofs.converse.say.Goals as goal

pub returns : goal.returns
returns g c =
    let its = result_taken g.O.Object.machine.words_reply c.args.taken.now c.args.told.now in
    record {
      tells = subst (λ it. Tells g.P.Peer.shown c.args.peer.now c.tell.new.peer c.args.pass.now c.tell.result (line_text (result_text (texts_of g.T.PrintReplies.shown g.O.Answer.Print.shown) it)))
          (c.of-reply.ensures its c.told_of.ensures) c.tell.ensures.tells;
      of_type = subst (λ it. OnOk c.tell.result (ResultFits (texts_of g.T.PrintReplies.shown g.O.Answer.Print.shown) it))
          (c.of-reply.ensures its c.told_of.ensures) c.tell.ensures.of_type;
    }
