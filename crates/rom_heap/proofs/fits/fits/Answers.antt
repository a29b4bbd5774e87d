use Rattle.std.proofs.Common.{◌≡◌, take, sym, ap, subst, ◌∙◌, arith}
use Rattle.std.specs.Prelude.{not}
use Rattle.rom_model.specs.State.{replies_to, any_full}
use Rattle.std.proofs.lemmas.List.{take_all}
use Rattle.rom_model.specs.Region.{Contents}
use Rattle.rom_model.proofs.Contents.{live_fits}
use Rattle.rom_heap.proofs.Fitting.{leaves_none, leaves_next, refuses_all, cap_small}
use Rattle.rom_heap.proofs.Looking.{looks_one, looks_both}
use Rattle.rom_heap.proofs.fits.fits.Goals as goal

pub loop-i-init : goal.loop-i-init
loop-i-init g c =
    let first = c.free_elements.ensures.looks in
    let second = c.queue_len.ensures.looks in
    record {
      looks = looks_both (looks_one first) (looks_one second);
      room = λ s j k held. leaves_none c.args.order j s _ (record {
        free = omega (arith, c.free_elements.ensures.free s k held, live_fits c.requires.order.least held.1);
        queue = c.queue_len.ensures.len s k (subst (λ w. Contents c.args.order w s k) (sym first.image) held);
      });
    }

pub next_room-requires-clause-free : goal.next_room-requires-clause-free
next_room-requires-clause-free g c =
    let r = c.requires.region in
    let l = c.loop-i.invariant.room r.state 0 r.count r.contents in
    omega (arith, l.left.free, cap_small c.args.order c.requires.order.most)

pub next_room-requires-clause-queue : goal.next_room-requires-clause-queue
next_room-requires-clause-queue g c =
    let r = c.requires.region in
    let l = c.loop-i.invariant.room r.state 0 r.count r.contents in
    omega (arith, l.left.free, l.left.queue, cap_small c.args.order c.requires.order.most)

pub returns-in_default-clause-is : goal.returns-in_default-clause-is
returns-in_default-clause-is g c s j k held =
    let l = c.loop-i in
    let now = subst (λ w. Contents c.args.order w s k) (sym l.invariant.looks.image) held in
    sym (ap not (refuses_all c.args.order j s c.args.calls.now l.i _ l.room c.is_there-there.result c.next_room.result c.loop-i-test.true (l.invariant.room s j k held) (c.is_there-there.ensures.is s j k now) c.next_room.ensures c.in_default.is))

pub loop-i-preserved : goal.loop-i-preserved
loop-i-preserved g c =
    let l = c.loop-i in
    record {
      looks = looks_both l.invariant.looks c.is_there-there.ensures.looks;
      room = λ s j k held.
          let now = subst (λ w. Contents c.args.order w s k) (sym l.invariant.looks.image) held in
          leaves_next c.args.order j s c.args.calls.now l.i _ l.room c.in-Some.next c.is_there-there.result c.next_room.result c.loop-i-test.true (l.invariant.room s j k held) (c.is_there-there.ensures.is s j k now) c.next_room.ensures c.in-Some.is;
    }

pub returns-clause-is : goal.returns-clause-is
returns-clause-is g c s j k held =
    let l = c.loop-i in
    let all : take l.i c.args.calls.now ≡ c.args.calls.now = take_all l.i c.args.calls.now c.loop-i-test.false in
    sym (ap (λ cs. not (any_full (replies_to c.args.order s j cs))) (sym all) ∙ ap not (l.invariant.room s j k held).done)
