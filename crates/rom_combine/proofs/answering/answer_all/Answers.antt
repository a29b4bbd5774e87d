use Rattle.rom_model.specs.Machine.{on_words}
use Rattle.std.proofs.Common.{Some, arith, ◌≡◌, ℕ, ◌+◌, List, sym, ap, ◌∙◌, subst}
use mathlib.Core.Option.{some}
use lib.ListN.{get_elem?}
use Rattle.atomic_table.proofs.Lists.{at_index}
use Rattle.rom_model.specs.declared.record.Fate.{Fate}
use Rattle.rom_rule.specs.declared.views.Base.{Base}
use Rattle.rom_rule.specs.declared.views.Plan.{Plan}
use Rattle.rom_rule.specs.declared.views.View.{View}
use Rattle.rom_rule.specs.Calls.{packed}
use Rattle.rom_rule.specs.Views.{is_made, plan_of}
use Rattle.rom_rule.proofs.Told.{at_low}
use Rattle.rom_announce.specs.Answering.{CanAnswer, HasRecord}
use Rattle.rom_announce.proofs.Altered.{writes_chain}
use Rattle.rom_combine.specs.declared.answering.CallAnswer.{CallAnswer}
use Rattle.rom_combine.specs.Scanning.{but_requests}
use Rattle.rom_combine.specs.Answering.{HasGiven}
use Rattle.rom_combine.proofs.Gives.{next_request, one_given, recorded_on, calls_on, all_given}
use Rattle.rom_combine.proofs.answering.answer_all.Goals as goal

pub answer-requires-clause-within : goal.answer-requires-clause-within
answer-requires-clause-within g c = let inv = c.loop-i.invariant in let p : Plan = plan_of c.loop-i.seat.token.me.0 in let b : Base = c.args.seat.now.token.me.0.base in let items : List CallAnswer = c.args.answers.now in let i : ℕ = c.loop-i.i in let x : CallAnswer = c.index-answers-i.result in
    let at : get_elem? items i ≡ some x = at_index items i x c.loop-i-test.true c.index-answers-i.is in
    let f = next_request g.O.Object.Contents (on_words g.O.Object.machine) b inv.3.0 c.args.before c.args.after items p i x inv.3.1 at in let own = inv.3.1.left i f.0 x (omega arith) f.1 at in
    let n = ap (λ l. l.callers) c.args.shared.now.laid in let k = ap (λ (z : Base). z.callers) c.requires.of.1 in (omega (arith, f.2, f.3), omega (arith, n, k, f.2, f.4))

pub answer-requires-clause-found : goal.answer-requires-clause-found
answer-requires-clause-found g c = let inv = c.loop-i.invariant in let p : Plan = plan_of c.loop-i.seat.token.me.0 in let b : Base = c.args.seat.now.token.me.0.base in let items : List CallAnswer = c.args.answers.now in let i : ℕ = c.loop-i.i in let x : CallAnswer = c.index-answers-i.result in
    let at : get_elem? items i ≡ some x = at_index items i x c.loop-i-test.true c.index-answers-i.is in
    let f = next_request g.O.Object.Contents (on_words g.O.Object.machine) b inv.3.0 c.args.before c.args.after items p i x inv.3.1 at in let own = inv.3.1.left i f.0 x (omega arith) f.1 at in
    (f.0, (i, f.1, f.2, own.0), subst (λ (z : Base). CanAnswer g.O.Object.Contents (on_words g.O.Object.machine) z p f.0 x.place x.reply c.args.before c.args.after) (sym inv.1) own.2)

pub loop-i-preserved : goal.loop-i-preserved
loop-i-preserved g c = let inv = c.loop-i.invariant in let p : Plan = plan_of c.loop-i.seat.token.me.0 in let b : Base = c.args.seat.now.token.me.0.base in let items : List CallAnswer = c.args.answers.now in let i : ℕ = c.loop-i.i in let x : CallAnswer = c.index-answers-i.result in
    let at : get_elem? items i ≡ some x = at_index items i x c.loop-i-test.true c.index-answers-i.is in
    let f = next_request g.O.Object.Contents (on_words g.O.Object.machine) b inv.3.0 c.args.before c.args.after items p i x inv.3.1 at in let own = inv.3.1.left i f.0 x (omega arith) f.1 at in
    let did = c.answer.ensures.answered in
    let recorded : HasRecord g.O.Object.Contents (on_words g.O.Object.machine) b p did.0 inv.3.0 c.args.before c.args.after
    = subst (λ (z : Base × Fate). HasRecord g.O.Object.Contents (on_words g.O.Object.machine) z.0 p did.0 z.1 c.args.before c.args.after) (λ j. (inv.1 j, own.1 j)) did.1 in (
      (
        did.2.0 ∙ inv.0.0,
        did.2.1 ∙ inv.0.1,
        writes_chain c.args.seat.now.token.me.0 c.loop-i.seat.token.me.0 c.answer.new.seat.token.me.0 p (plan_of c.answer.new.seat.token.me.0) inv.0.2
            (subst (λ (z : Plan). c.answer.new.seat.token.me.0 ≡ record c.loop-i.seat.token.me.0 { plan = Some z; steps = c.answer.new.seat.token.me.0.steps }) (sym (ap plan_of did.2.2)) did.2.2),
      ),
      ap (λ (v : View). v.base) did.2.2 ∙ inv.1,
      (λ made. let before = inv.2 made in ap but_requests (ap plan_of did.2.2) ∙ (ap but_requests (did.1.0 (ap (λ (z : Plan). is_made z.mine) before ∙ made)) ∙ before)),
      (
        inv.3.0,
        subst (λ (z : Plan). HasGiven g.O.Object.Contents (on_words g.O.Object.machine) b inv.3.0 c.args.before c.args.after z (i + 1) items) (sym (ap plan_of did.2.2))
            (one_given g.O.Object.Contents (on_words g.O.Object.machine) b inv.3.0 c.args.before c.args.after items p did.0 i f.0 x (packed x.reply) inv.3.1 f.1 f.2 recorded),
      ),
      (λ zero. absurd (omega arith)),
      (λ _. recorded_on g.O.Object.Contents (on_words g.O.Object.machine) b inv.3.0 c.args.before c.args.after items (plan_of c.args.seat.now.token.me.0) p did.0 (plan_of c.answer.new.seat.token.me.0) i f.0 x (packed x.reply) inv.4 inv.5 at f.1 own.1 recorded (ap plan_of did.2.2)),
      calls_on g.O.Object.Contents (on_words g.O.Object.machine) b inv.3.0 c.args.before c.args.after items (plan_of c.args.seat.now.token.me.0) p did.0 (plan_of c.answer.new.seat.token.me.0) x (packed x.reply) inv.6 recorded (ap plan_of did.2.2),
    )

pub returns-clause-answered : goal.returns-clause-answered
returns-clause-answered g c = let inv = c.loop-i.invariant in all_given g.O.Object.Contents (on_words g.O.Object.machine) c.args.seat.now.token.me.0.base inv.3.0 c.args.before c.args.after c.args.answers.now (plan_of c.loop-i.seat.token.me.0) c.loop-i.i inv.3.1 (omega (arith, c.loop-i-test.false))

pub returns-clause-recorded : goal.returns-clause-recorded
returns-clause-recorded g c = λ x at. c.loop-i.invariant.5 (let low = at_low c.args.answers.now 0 x at in omega (arith, c.loop-i-test.false)) x at
