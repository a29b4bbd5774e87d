use Rattle.std.proofs.Common.{◌≡◌, ℕ, ◌+◌, ◌-◌, ◌∷◌, length, drop, get_or, sym, ◌∙◌, ap, subst, arith}
use Rattle.std.specs.FinSet as set
use Rattle.std.proofs.lemmas.List.{drop_all, drop_more}
use Rattle.rom_model.specs.Region.{Contents}
use Rattle.rom_model.specs.State.{State}
use Rattle.rom_model.specs.VecSpace.{words_of_space}
use Rattle.rom_rebuild.proofs.Filled.{inserted, room_inserted, room_less, room_of}
use Rattle.rom_rebuild.proofs.grow.fill.insert_members.Goals as goal
use Rattle.rom_set.specs.Set.{with_members}

pub loop-done-init : goal.loop-done-init
loop-done-init c = record {
  room = room_less (length c.args.members.now - 0) (omega arith) c.requires.room;
  filled = λ s k held none. subst (λ ms. Contents c.args.order (words_of_space c.args.space.now) (with_members s ms) k) (none ∙ ap (λ xs. set.from_list xs) (sym (drop_all (length c.args.members.now - 0) c.args.members.now (omega arith)))) held;
}

pub set_insert-requires-clause-region : goal.set_insert-requires-clause-region
set_insert-requires-clause-region c = let room = c.loop-done.invariant.room in record { state = room.state; count = room.count; contents = room.contents }

pub loop-done-preserved : goal.loop-done-preserved
loop-done-preserved c =
    let n = c.args.order in
    let ms = c.args.members.now in
    let i = c.loop-done.done in
    let x = get_or ms (length ms - 1 - i) 0 in
    let h = c.loop-done.invariant in
    let step = λ (s : State) (k : ℕ) (held : Contents n (words_of_space c.loop-done.space) s k).
    inserted _ _ c.set_insert.result s k x (omega (arith, room_of h.room s k held)) held (c.set_insert.ensures.contents s k held) (c.set_insert.ensures.kept s k held) in
    let at : length ms - (i + 1) ≡ length ms - 1 - i = omega arith in
    let next : length ms - 1 - i + 1 ≡ length ms - i = omega arith in
    let more : drop (length ms - (i + 1)) ms ≡ x ∷ drop (length ms - i) ms = ap (λ j. drop j ms) at ∙ drop_more ms (length ms - 1 - i) 0 (omega arith) ∙ ap (λ j. x ∷ drop j ms) next in
    record {
      room = room_inserted x (length ms - (i + 1)) (omega arith) h.room step;
      filled = λ s k held none. subst (λ xs. Contents n (words_of_space c.set_insert.new.space) (with_members s (set.from_list xs)) k) (sym more) (step (with_members s (set.from_list (drop (length ms - i) ms))) k (h.filled s k held none));
    }

pub returns : goal.returns
returns c = record {
  inserted = λ s k held none.
      let e : length c.args.members.now - c.loop-done.done ≡ 0 = omega arith in
      subst (λ j. Contents c.args.order (words_of_space c.loop-done.space) (with_members s (set.from_list (drop j c.args.members.now))) k) e (c.loop-done.invariant.filled s k held none);
}
