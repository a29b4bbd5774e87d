use Rattle.std.proofs.Common.{◌+◌, ◌-◌, List, drop, length, [], ◌∷◌, length-append, sym, ap, ◌∙◌, arith, length-drop}
use Rattle.std.proofs.lemmas.Bool.{le-leb}
use Rattle.rom_model.specs.declared.call.SingleReply.{SingleReply}
use Rattle.rom_model.specs.declared.call.Reply.TheVariants.{All}
use Rattle.rom_model.specs.Codes.{read_single_reply, read_all, whole, as_replies}
use Rattle.rom_model.proofs.Reading.{prepend, when, read_part, none_part, length_part, read_next, read_none, read_to_end, whole_none, whole_some}
use Rattle.rom_model.proofs.codes.read_told.Goals as goal

pub loop-read-preserved : goal.loop-read-preserved
loop-read-preserved c =
    let l = c.loop-read in
    let x = c.in_ok-reply.reply in
    let read = read_part read_single_reply c.args.words.now l.at c.in_ok-reply.len x c.in_ok-reply.ensures.read in
    record {
      so_far = l.invariant.so_far ∙ (read_next read_single_reply c.args.many l._read l.replies c.args.words.now l.at c.in_ok-reply.len x c.loop-read-test.true read ∙ ap (λ (xs : List SingleReply).
          prepend xs (read_all read_single_reply (c.args.many - (l._read + 1)) (drop (l.at + c.in_ok-reply.len) c.args.words.now))) (sym c.push.ensures));
      within = omega (arith, c.in_ok-reply.ensures.within, length_part l.at c.args.words.now);
      replies = ap length c.push.ensures ∙ (length-append l.replies (x ∷ []) ∙ ap (λ n. n + 1) l.invariant.replies);
      most = l.invariant.most;
    }

pub returns-in_err-reply : goal.returns-in_err-reply
returns-in_err-reply c =
    let l = c.loop-read in
    let none = none_part read_single_reply c.args.words.now l.at c.in_err-reply.ensures.read in
    when _ _ (le-leb c.args.many 8 (omega arith)) ∙ (ap (whole All) (l.invariant.so_far ∙ read_none read_single_reply c.args.many l._read l.replies (drop l.at c.args.words.now) c.loop-read-test.true none) ∙ sym (ap as_replies c.from_residual.ensures))

pub returns-then-at-words : goal.returns-then-at-words
returns-then-at-words c =
    let all = read_to_end read_single_reply c.args.many c.loop-read._read c.loop-read.replies c.args.words.now (drop c.loop-read.at c.args.words.now) c.loop-read-test.false c.loop-read.invariant.so_far in
    when _ _ (le-leb c.args.many 8 (omega arith)) ∙ (ap (whole All) all ∙ whole_none All _ (drop c.loop-read.at c.args.words.now) (omega (arith, length-drop c.loop-read.at c.args.words.now)))

pub returns : goal.returns
returns c =
    let all = read_to_end read_single_reply c.args.many c.loop-read._read c.loop-read.replies c.args.words.now (drop c.loop-read.at c.args.words.now) c.loop-read-test.false c.loop-read.invariant.so_far in
    when _ _ (le-leb c.args.many 8 (omega arith)) ∙ (ap (whole All) all ∙ whole_some All _ (drop c.loop-read.at c.args.words.now) (omega (arith, length-drop c.loop-read.at c.args.words.now)))
