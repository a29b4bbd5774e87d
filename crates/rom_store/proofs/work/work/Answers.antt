use Rattle.std.proofs.Common.{rules, sym, subst, arith, length, ◌≡◌, ◌-◌, ◌<◌, ℕ}
use Rattle.std.proofs.lemmas.List.{length-map}
use Rattle.rom_lines.specs.Replies.{HasRoomFor}
use Rattle.rom_store.specs.Working.{HasDoneLines}
use Rattle.rom_store.proofs.Dealing.{script_is}
use Rattle.rom_store.proofs.work.work.Goals as goal

pub take_counted-requires-clause-ready : goal.take_counted-requires-clause-ready
take_counted-requires-clause-ready g c =
    let scripts = c.args.room.now.scripts.now in
    let number : ℕ = c.args.job.now.pass.view.number in
    let ready = c.requires.ready in
    let place : c.number.result - 1 ≡ number - 1 = omega (arith, c.number.ensures.number) in
    let lt : c.number.result - 1 < length scripts = omega (arith, place, ready.known, ready.from_one, length-map scripts (λ v. v.items)) in
    record {
      of = ready.of;
      opened = c.requires.opened;
      few = search rules;
      first = ready.first;
      alone = ready.alone;
      none = ready.none;
      fits = subst (λ ls. HasRoomFor g.O.Object.machine.call_words ls c.args.job.now.results) (script_is (λ v. v.items) scripts number (c.number.result - 1) c.index-room-number.result place lt) ready.fits;
    }

pub returns : goal.returns
returns g c =
    let scripts = c.args.room.now.scripts.now in
    let number : ℕ = c.args.job.now.pass.view.number in
    let ready = c.requires.ready in
    let place : c.number.result - 1 ≡ number - 1 = omega (arith, c.number.ensures.number) in
    let lt : c.number.result - 1 < length scripts = omega (arith, place, ready.known, ready.from_one, length-map scripts (λ v. v.items)) in
    record {
      of = c.take_counted.ensures.of;
      number = c.take_counted.ensures.number;
      done = subst (λ ls. HasDoneLines g.O.Object.machine g.O.Object.Contents g.N.Label.base c.take_counted.new.pass ls c.take_counted.new.results.items)
          (sym (script_is (λ v. v.items) scripts number (c.number.result - 1) c.index-room-number.result place lt)) c.take_counted.ensures.done;
    }
