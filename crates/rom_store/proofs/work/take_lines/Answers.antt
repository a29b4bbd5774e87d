use Rattle.std.proofs.Common.{arith, refl, sym, ◌∙◌, ◌+◌, take, drop, subst, [], ℕ}
use Rattle.std.proofs.lemmas.List.{take_all, length-take}
use Rattle.rom_model.specs.Heard.{HasHeard}
use Rattle.rom_model.proofs.Hearing.{begun, told_few}
use Rattle.rom_lines.specs.Replies.{HasRoomFor}
use Rattle.rom_lines.proofs.Replies.{room_left}
use Rattle.rom_store.specs.Closing.{kept_in}
use Rattle.rom_store.specs.Working.{HasDoneLines}
use Rattle.rom_store.proofs.work.take_lines.Goals as goal

pub loop-i-init : goal.loop-i-init
loop-i-init g c = let v = kept_in c.args.pass.now in let first = c.requires.first in record {
  of = c.requires.of;
  number = refl;
  done = record { alone = c.requires.alone; heard = λ s k at. subst (λ rs. HasHeard g.O.Object.machine g.N.Label.base.order s k v [] rs) (sym c.requires.none) (begun g.O.Object.machine g.N.Label.base.order s k v first.fronts first.told) };
  room = c.requires.fits;
}

pub take_line-requires-clause-few : goal.take_line-requires-clause-few
take_line-requires-clause-few g c =
    let opened = c.requires.opened in let i : ℕ = c.loop-i.i in let lines = c.args.script.now.items in
    let h = c.loop-i.invariant.done.heard opened.0 opened.1 opened.2 in
    omega (arith, told_few g.O.Object.machine g.N.Label.base.order opened.0 opened.1 _ (take i lines) c.loop-i.results.items h, length-take i lines, c.loop-i-test.true, c.len-i-end.ensures, c.requires.few)

pub take_line-requires-clause-line : goal.take_line-requires-clause-line
take_line-requires-clause-line g c =
    let at = c.line.ensures in
    let room = subst (λ ls. HasRoomFor g.O.Object.machine.call_words ls c.loop-i.results) at.left c.loop-i.invariant.room in
    (at.asks, at.line, omega (arith, room.lines), omega (arith, room.words))

pub loop-i-preserved : goal.loop-i-preserved
loop-i-preserved g c =
    let before = c.loop-i.invariant in
    let told = c.take_line.ensures in
    let at = c.line.ensures in
    let items = c.args.script.now.items in
    let took = told.done at.asks at.line in
    record {
      of = told.of;
      number = told.number ∙ before.number;
      done = subst (λ ls. HasDoneLines g.O.Object.machine g.O.Object.Contents g.N.Label.base c.take_line.new.pass ls c.take_line.new.results.items) (sym at.before) (took.done (take c.loop-i.i items) before.done);
      room = room_left g.O.Object.machine.call_words at.asks (drop (c.loop-i.i + 1) items) c.loop-i.results c.take_line.new.results took.used (subst (λ ls. HasRoomFor g.O.Object.machine.call_words ls c.loop-i.results) at.left before.room) took.room took.few;
    }

pub returns : goal.returns
returns g c = record {
  of = c.loop-i.invariant.of;
  number = c.loop-i.invariant.number;
  done = subst (λ ls. HasDoneLines g.O.Object.machine g.O.Object.Contents g.N.Label.base c.loop-i.pass ls c.loop-i.results.items)
      (take_all c.loop-i.i c.args.script.now.items (omega (arith, c.loop-i-test.false, c.len-i-end.ensures))) c.loop-i.invariant.done;
}
