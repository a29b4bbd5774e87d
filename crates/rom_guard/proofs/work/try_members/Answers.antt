use Rattle.std.proofs.Common.{◌+◌, ◌-◌, ◌*◌, length, ap, sym, ◌∙◌, arith, length-append}
use Rattle.rom_guard.specs.Working.{members_in}
use Rattle.rom_guard.proofs.Reaching.{is_within, second_is, two_told, none_yet, one_more, one_stops}
use Rattle.rom_guard.proofs.Storing.{mul_next, mul_more, stores_none, stores_more, room_left}
use Rattle.rom_guard.proofs.work.try_members.Goals as goal

pub loop-i-init : goal.loop-i-init
loop-i-init g c =
    let told = two_told c.clear.ensures c.extend.ensures (second_is g.P.Members.shown c.requires.group) in
    record {
      long = ap length told;
      reached = λ s j held. none_yet g.O.Object.machine g.P.Members.shown c.args.order s j (members_in g.P.Members.shown c.args.words.now) told held;
      stores = stores_none ((g.O.Object.STORES - 1) * 0);
    }

pub update-reply-requires-clause-room : goal.update-reply-requires-clause-room
update-reply-requires-clause-room g c =
    let here = is_within g.P.Members.shown c.requires.group c.loop-i-test.true in
    room_left (g.O.Object.STORES - 1) g.met.M.Look.limit_counts (mul_next (g.O.Object.STORES - 1) c.loop-i.i (length (members_in g.P.Members.shown c.args.words.now)) here) c.requires.room c.loop-i.invariant.stores

pub returns-then-not-succeeds-clause-done : goal.returns-then-not-succeeds-clause-done
returns-then-not-succeeds-clause-done g c = λ s j held.
    let here = is_within g.P.Members.shown c.requires.group c.loop-i-test.true in
    let at = c.loop-i.invariant.reached s j held in
    let done = c.update-reply.ensures.done at.state j at.holds in
    one_stops g.O.Object.machine g.P.Members.shown _ c.member_at-member.result c.update-reply.result here c.member_at-member.ensures at done.0 (sym c.succeeds.ensures ∙ c.if-not-succeeds.true) c.put_undone.ensures

pub loop-i-preserved : goal.loop-i-preserved
loop-i-preserved g c =
    let i = c.loop-i.i in
    let k = g.O.Object.STORES - 1 in
    let here = is_within g.P.Members.shown c.requires.group c.loop-i-test.true in
    let long = ap length c.push_told.ensures ∙ length-append c.loop-i.told (g.P.Members.shown.told_words c.update-reply.result) in
    record {
      long = omega (arith, long, g.met.P.Members.told_two c.update-reply.result, c.loop-i.invariant.long);
      reached = λ s j held.
          let at = c.loop-i.invariant.reached s j held in
          let done = c.update-reply.ensures.done at.state j at.holds in
          one_more g.O.Object.machine g.P.Members.shown c.member_at-member.result c.update-reply.result here c.member_at-member.ensures at done.0 (sym c.succeeds.ensures ∙ c.if-not-succeeds.false) c.push_told.ensures done.1;
      stores = stores_more (k * (i + 1)) (omega (arith, mul_more k i)) c.loop-i.invariant.stores c.update-reply.ensures.stores;
    }
