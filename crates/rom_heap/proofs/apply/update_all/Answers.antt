use Rattle.std.proofs.Common.{◌+◌, List, take, length, [], ◌∷◌, ◌++◌, sym, ap, subst, ◌∙◌, arith, length-append, length-take-le}
use Rattle.std.proofs.lemmas.List.{take_more}
use Rattle.rom_model.specs.declared.call.Single.{Single}
use Rattle.rom_model.specs.declared.call.SingleReply.{SingleReply}
use Rattle.rom_heap.specs.Updates.{DoesUpdates}
use Rattle.rom_heap.proofs.Grouping.{does_none, does_more, few_of_all, room_after}
use Rattle.rom_heap.proofs.apply.update_all.Goals as goal

pub loop-call-init : goal.loop-call-init
loop-call-init g c = record {
  does = subst (λ (told : List SingleReply). DoesUpdates g.M.Look.shown c.args.order [] told c.args.space.now c.args.space.now) (sym c.new-replies.ensures) does_none;
  many = ap length c.new-replies.ensures;
}

pub update-requires-clause-region : goal.update-requires-clause-region
update-requires-clause-region g c =
    let r = c.requires.region in
    let d = c.loop-call.invariant.does.steps_are r.state r.place r.contents in
    record { state = _; place = r.place; contents = d.1; stamp_is = r.stamp_is }

pub update-requires-clause-room : goal.update-requires-clause-room
update-requires-clause-room g c =
    let l = c.loop-call in
    let few = few_of_all c.args.order c.requires.order.most (take l.call-index c.args.calls.now) l.replies in
    let long = length-take-le l.call-index c.args.calls.now (omega (arith, c.loop-call-test.true)) in
    room_after 31 g.met.M.Look.limit_counts (omega (arith, few, long, c.loop-call-test.true)) c.requires.room l.invariant.does.stores

pub loop-call-preserved : goal.loop-call-preserved
loop-call-preserved g c =
    let l = c.loop-call in
    let calls = c.args.calls.now in
    let long = l.invariant.many ∙ sym (length-take-le l.call-index calls (omega (arith, c.loop-call-test.true))) in
    let more = does_more c.args.order (take l.call-index calls) l.replies _ c.update.result long l.invariant.does c.update.ensures.does in
    record {
      does = subst (λ (told : List SingleReply). DoesUpdates g.M.Look.shown c.args.order (take (l.call-index + 1) calls) told c.args.space.now c.update.new.space) (sym c.push.ensures)
          (subst (λ (cs : List Single). DoesUpdates g.M.Look.shown c.args.order cs (l.replies ++ c.update.result ∷ []) c.args.space.now c.update.new.space) (sym (take_more calls l.call-index _ c.loop-call-test.true)) more);
      many = ap length c.push.ensures ∙ (length-append l.replies (c.update.result ∷ []) ∙ ap (λ m. m + 1) l.invariant.many);
    }
