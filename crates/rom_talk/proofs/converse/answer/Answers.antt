use Rattle.std.proofs.Common.{ℕ, List, ◌∙◌, refl}
use Rattle.rom_run.specs.Statuses.{is_faulted, is_unread}
use Rattle.rom_text.specs.Text.{line_text, result_text, texts_of}
use Rattle.rom_text.specs.declared.streams.IoFailed.{IoFailed}
use Rattle.rom_store.specs.Taking.{result_taken}
use Rattle.rom_talk.proofs.Going.{noted_new, noted_true, told_err, told_ok}
use Rattle.rom_talk.proofs.converse.answer.Goals as goal
use Rattle.rom_talk.proofs.converse.answer.Goals.{else-talker, else-talker-2, then-talker, then-talker-2}

pub say-requires : goal.say-requires
say-requires g c = (c.take_one-taken.ensures.taken c.requires.line.0 c.requires.line.1).replied

pub returns-in-Ok-clause-answered : goal.returns-in-Ok-clause-answered
returns-in-Ok-clause-answered g c asks line =
    let told = c.take_one-taken.result in
    let words : List ℕ = c.take_one-taken.new.told in
    let its = result_taken g.O.Object.machine.words_reply told words in
    let log = g.P.Peer.shown.log in
    let tells = c.in-Ok.ensures.tells in
    record {
      told = told;
      words = words;
      took = c.take_one-taken.ensures.taken asks line;
      unread_is = elim c.if-talker.branch [
        | then-talker w ↦ noted_true c.args.talker.now.unread (is_unread its) c.if-talker.talker w.if-talker.true (w.talker-is ∙ w.if-talker.true)
        | else-talker w ↦ noted_new c.args.talker.now.unread (is_unread its) c.if-talker.talker w.if-talker.false (w.talker-is ∙ w.is_unread-talker.ensures words)
      ];
      faulted_is = elim c.if-talker-2.branch [
        | then-talker-2 w ↦ noted_true c.args.talker.now.faulted (is_faulted its) c.if-talker-2.talker w.if-talker-2.true (w.talker-is ∙ w.if-talker-2.true)
        | else-talker-2 w ↦ noted_new c.args.talker.now.faulted (is_faulted its) c.if-talker-2.talker w.if-talker-2.false (w.talker-is ∙ w.is_faulted-talker.ensures words)
      ];
      says = record {
        told = told_ok (Unit {0}) IoFailed (Unit {0}) (Unit {0}) (log c.args.talker.now.peer) (log c.say.new.peer) c.take_one-taken.new.pass c.in-Ok.field-0 tt (line_text (result_text (texts_of g.T.PrintReplies.shown g.O.Answer.Print.shown) its)) tells.told;
        cause = record { none = tells.cause.none; failed = tt };
        unasked = tells.unasked;
      };
      fits = c.in-Ok.ensures.of_type;
    }

pub returns-in-Err-clause-answered : goal.returns-in-Err-clause-answered
returns-in-Err-clause-answered g c asks line =
    let told = c.take_one-taken.result in
    let words : List ℕ = c.take_one-taken.new.told in
    let its = result_taken g.O.Object.machine.words_reply told words in
    let log = g.P.Peer.shown.log in
    let tells = c.in-Err.ensures.tells in
    record {
      told = told;
      words = words;
      took = c.take_one-taken.ensures.taken asks line;
      unread_is = elim c.if-talker.branch [
        | then-talker w ↦ noted_true c.args.talker.now.unread (is_unread its) c.if-talker.talker w.if-talker.true (w.talker-is ∙ w.if-talker.true)
        | else-talker w ↦ noted_new c.args.talker.now.unread (is_unread its) c.if-talker.talker w.if-talker.false (w.talker-is ∙ w.is_unread-talker.ensures words)
      ];
      faulted_is = elim c.if-talker-2.branch [
        | then-talker-2 w ↦ noted_true c.args.talker.now.faulted (is_faulted its) c.if-talker-2.talker w.if-talker-2.true (w.talker-is ∙ w.if-talker-2.true)
        | else-talker-2 w ↦ noted_new c.args.talker.now.faulted (is_faulted its) c.if-talker-2.talker w.if-talker-2.false (w.talker-is ∙ w.is_faulted-talker.ensures words)
      ];
      says = (
        refl,
        record {
          told = told_err (Unit {0}) IoFailed (Unit {0}) (Unit {0}) (log c.args.talker.now.peer) (log c.say.new.peer) c.take_one-taken.new.pass c.in-Err.field-0 tt (line_text (result_text (texts_of g.T.PrintReplies.shown g.O.Answer.Print.shown) its)) tells.told;
          cause = record { none = tt; failed = tells.cause.failed };
          unasked = tells.unasked;
        },
      );
      fits = tt;
    }
