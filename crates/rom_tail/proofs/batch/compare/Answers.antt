use Rattle.std.proofs.Common.{◌≡◌, ◌+◌, ◌<◌, length, map, take, drop, sym, slice_get, ap, ◌∙◌, arith, refl, inl, inr, length-append, ◌∷◌, [], ◌++◌}
use Rattle.std.proofs.lemmas.List.{length-take-le, map-append, take_more}
use Rattle.std.proofs.lemmas.Option.{slice_get-get_or}
use Rattle.std.specs.Prelude.{Some}
use Rattle.rom_replica.specs.Turns.{applied}
use Rattle.rom_tail.specs.Batches.{many_next, reply_in}
use Rattle.rom_tail.proofs.Counting.{applied_next, applied_other, one_more, split_at}
use Rattle.rom_tail.proofs.batch.compare.Goals as goal

pub loop-i-preserved-then-frame-count : goal.loop-i-preserved-then-frame-count
loop-i-preserved-then-frame-count c =
    let so = c.loop-i.invariant in
    let fs = take c.loop-i.i c.args.frames.now in
    let f = c.index-frames-i.result in
    let more = ap (applied c.args.count) (one_more c.args.frames.now c.loop-i.i f c.index-frames-i.is c.loop-i-test.true) ∙ applied_other c.args.count fs f (λ is. c.if-frame-count.true (is ∙ ap (λ m. c.args.count + m) (sym so.same))) in
    record { same = so.same ∙ sym (ap length more); reached = so.reached; few = omega (arith, so.few); told = ap (map reply_in) more ∙ so.told }

pub returns-then-same-done : goal.returns-then-same-done
returns-then-same-done c =
    let so = c.loop-i.invariant in
    let fs = take c.loop-i.i c.args.frames.now in
    let f = c.index-frames-i.result in
    record {
      before = fs;
      rest = f ∷ drop (c.loop-i.i + 1) c.args.frames.now;
      split = split_at c.args.frames.now c.loop-i.i f c.index-frames-i.is c.loop-i-test.true;
      many = sym (length-take-le c.loop-i.i c.args.frames.now (omega (arith, c.loop-i-test.true)));
      reached = omega (arith, so.same, so.reached);
      same = so.told ∙ ap (λ m. take m c.args.replies.now) so.same;
      ends = record {
        place = c.if-frame-count.false ∙ ap (λ m. c.args.count + m) so.same;
        why = inl (refl, omega (arith, so.same, so.reached, c.if-same-done.true));
      };
    }

pub returns-then-not-is_reply : goal.returns-then-not-is_reply
returns-then-not-is_reply c =
    let so = c.loop-i.invariant in
    let fs = take c.loop-i.i c.args.frames.now in
    let f = c.index-frames-i.result in
    let there : c.loop-i.same < length c.args.replies.now = omega (arith, c.if-same-done.false, c.requires.told) in
    record {
      before = fs;
      rest = f ∷ drop (c.loop-i.i + 1) c.args.frames.now;
      split = split_at c.args.frames.now c.loop-i.i f c.index-frames-i.is c.loop-i-test.true;
      many = sym (length-take-le c.loop-i.i c.args.frames.now (omega (arith, c.loop-i-test.true)));
      reached = omega (arith, so.same, so.reached);
      same = so.told ∙ ap (λ m. take m c.args.replies.now) so.same;
      ends = record {
        place = c.if-frame-count.false ∙ ap (λ m. c.args.count + m) so.same;
        why = inr (
          refl,
          omega (arith, so.same, c.if-same-done.false),
          (
            c.index-replies-same.result,
            ap (λ m. slice_get c.args.replies.now m) (sym so.same) ∙ slice_get-get_or c.args.replies.now c.loop-i.same c.index-replies-same.result there ∙ ap (λ x. Some x) (sym c.index-replies-same.is),
            c.if-not-is_reply.ensures.other,
          ),
        );
      };
    }

pub loop-i-preserved : goal.loop-i-preserved
loop-i-preserved c =
    let so = c.loop-i.invariant in
    let fs = take c.loop-i.i c.args.frames.now in
    let f = c.index-frames-i.result in
    let here : f.place ≡ c.args.count + many_next c.args.count fs = c.if-frame-count.false ∙ ap (λ m. c.args.count + m) so.same in
    let more : applied c.args.count (take (c.loop-i.i + 1) c.args.frames.now) ≡ applied c.args.count fs ++ f ∷ [] =
    ap (applied c.args.count) (one_more c.args.frames.now c.loop-i.i f c.index-frames-i.is c.loop-i-test.true) ∙ applied_next c.args.count fs f here in
    let long = ap length more ∙ length-append (applied c.args.count fs) (f ∷ []) in
    let there : c.loop-i.same < length c.args.replies.now = omega (arith, c.if-same-done.false, c.requires.told) in
    record {
      same = omega (arith, so.same, long);
      reached = omega (arith, c.if-same-done.false);
      few = omega (arith, so.few);
      told = ap (map reply_in) more ∙ map-append reply_in (applied c.args.count fs) (f ∷ []) ∙ (λ i. so.told i ++ sym c.if-not-is_reply.ensures.same i ∷ []) ∙ ap (λ x. take c.loop-i.same c.args.replies.now ++ x ∷ []) c.index-replies-same.is
          ∙ sym (take_more c.args.replies.now c.loop-i.same c.index-replies-same.result there);
    }
