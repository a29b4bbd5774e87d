use Rattle.std.proofs.Common.{◌+◌, ◌-◌, [], ◌∷◌, ◌++◌, length, take, get_or, sym, ◌∙◌, ap, subst, arith, append-nil, append_assoc}
use Rattle.std.proofs.lemmas.List.{take_all, take_more}
use Rattle.rom_model.specs.Region.{Contents}
use Rattle.rom_model.specs.VecSpace.{words_of_space}
use Rattle.rom_queue.specs.Queue.{with_queue}
use Rattle.rom_rebuild.proofs.Filled.{pushed, room_less, room_pushed}
use Rattle.rom_rebuild.proofs.grow.fill.push_values.Goals as goal

pub loop-value-init : goal.loop-value-init
loop-value-init c = record {
  room = room_less (length c.args.values.now - 0) (omega arith) c.requires.room;
  filled = λ s k held. subst (λ vs. Contents c.args.order (words_of_space c.args.space.now) (with_queue s vs) k) (sym (append-nil s.queue)) held;
}

pub queue_push-requires-clause-region : goal.queue_push-requires-clause-region
queue_push-requires-clause-region c = let room = c.loop-value.invariant.room in record { state = room.state; count = room.count; contents = room.contents }

pub loop-value-preserved : goal.loop-value-preserved
loop-value-preserved c =
    let n = c.args.order in
    let vs = c.args.values.now in
    let i = c.loop-value.value-index in
    let v = get_or vs i 0 in
    let h = c.loop-value.invariant in
    let step = pushed v c.queue_push.result (omega arith) h.room c.queue_push.ensures.had_room c.queue_push.ensures.contents in
    record {
      room = room_pushed v (length vs - (i + 1)) (omega arith) h.room step;
      filled = λ s k held. subst (λ qs. Contents n (words_of_space c.queue_push.new.space) (with_queue s qs) k) (append_assoc s.queue (take i vs) (v ∷ []) ∙ ap (λ xs. s.queue ++ xs) (sym (take_more vs i 0 c.loop-value-test.true)))
          (step (with_queue s (s.queue ++ take i vs)) k (h.filled s k held));
    }

pub returns : goal.returns
returns c = record {
  pushed = λ s k held. subst (λ vs. Contents c.args.order (words_of_space c.loop-value.space) (with_queue s (s.queue ++ vs)) k) (take_all c.loop-value.value-index c.args.values.now (omega arith)) (c.loop-value.invariant.filled s k held);
}
