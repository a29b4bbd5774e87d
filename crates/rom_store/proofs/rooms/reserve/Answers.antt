use Rattle.std.proofs.Common.{arith, length, map, ◌≡◌, subst, sym}
use Rattle.rom_lines.specs.Replies.{HasRoomFor}
use Rattle.rom_store.proofs.Places.{none_at, push_at}
use Rattle.rom_store.proofs.Dealing.{script_here}
use Rattle.rom_store.proofs.rooms.reserve.Goals as goal

pub loop-script-init : goal.loop-script-init
loop-script-init g c = record {
  many = c.in_ok-rooms.ensures.len;
  rooms = none_at _ _ c.in_ok-rooms.ensures.items;
  space = c.in_ok-rooms.ensures.capacity;
}

pub loop-script-preserved : goal.loop-script-preserved
loop-script-preserved g c =
    let b = c.loop-script.invariant in
    let scripts = map (λ v. v.items) c.args.scripts.now in
    let n = length c.loop-script.rooms.items in
    let here : n ≡ c.loop-script.script-index = omega (arith, b.many, c.loop-script.rooms.ok) in
    record {
      many = omega (arith, c.push_reserved.ensures.len, b.many);
      rooms = rw c.push_reserved.ensures.items (push_at _ c.loop-script.rooms.items _ b.rooms (record {
        none = c.in_ok-room.ensures.none;
        fits = subst (λ ls. HasRoomFor g.O.Object.machine.call_words ls c.in_ok-room.room)
            (sym (script_here (λ v. v.items) c.args.scripts.now n c.loop-script.script-index c.script-item.result here c.loop-script-test.true c.script-item.is)) c.in_ok-room.ensures.room;
      }));
      space = omega (arith, c.push_reserved.ensures.capacity, b.space);
    }
