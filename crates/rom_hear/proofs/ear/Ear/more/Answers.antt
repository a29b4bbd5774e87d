use Rattle.std.proofs.Common.{refl, sym, ap, ◌∙◌, ◌≤◌, ◌++◌, ◌==◌, List, ℕ, length, arith, take}
use Rattle.rom_hear.proofs.Hearing.{idles_by, none_by, waits_more, waits_still}
use Rattle.rom_hear.proofs.ear.Ear.more.Goals as goal

pub returns-in-Ok : goal.returns-in-Ok
returns-in-Ok g c =
    let ear = c.make_room.new.self in
    let h = c.in-Ok.ensures.hears in
    let within : ear.end ≤ length ear.bytes = omega arith in
    let from : ear.start ≤ ear.end = omega arith in
    record {
      came = (
        take c.in-Ok.count c.hear.new.buf,
        h.log,
        waits_more ear.bytes c.hear.new.buf _ ear.start ear.end c.in-Ok.count from within c.in-Ok.ensures.within ∙ ap (λ (bs : List ℕ). bs ++ take c.in-Ok.count c.hear.new.buf) c.make_room.ensures.waiting,
        sym (none_by c.in-Ok.count c.hear.new.buf c.in-Ok.ensures.within),
      );
      long = c.make_room.ensures.long;
      idle = (idles_by g.P.Peer.shown (c.in-Ok.count == 0) _ _ _ _ c.requires.going refl h.idle h.ended, h.unheard);
      untold = h.untold;
    }

pub returns-in-Err : goal.returns-in-Err
returns-in-Err g c =
    let ear = c.make_room.new.self in
    let h = c.in-Err.ensures.hears in
    let within : ear.end ≤ length ear.bytes = omega arith in
    let from : ear.start ≤ ear.end = omega arith in
    record {
      came = (h.log, waits_still ear.bytes c.hear.new.buf _ ear.start ear.end from within ∙ c.make_room.ensures.waiting, c.make_room.ensures.ended);
      long = c.make_room.ensures.long;
      idle = (record { once = h.idle; last = h.ended }, h.unheard, c.make_room.ensures.ended ∙ c.requires.going);
      untold = h.untold;
    }
