use Rattle.std.proofs.Common.{rules, ◌≡◌, ℕ, ◌+◌, ◌<◌, ◌≤◌, ◌++◌, List, [], length, get_or, ap, sym, ◌∙◌, arith}
use Rattle.std.proofs.lemmas.Slice.{take-put_mid}
use Rattle.rom_frame.specs.Frames.{bytes_of, frame_words}
use Rattle.rom_ship.specs.Streams.{frame_text}
use Rattle.rom_ship.proofs.Batches.{text_more}
use Rattle.rom_ship.proofs.stream.fill_batch.Goals as goal

pub loop-i-preserved : goal.loop-i-preserved
loop-i-preserved c =
    let len : ℕ = c.loop-i.len in
    let i : ℕ = c.loop-i.i in
    let place : ℕ = c.args.batch.now.place in
    let us : List (List ℕ × List ℕ) = c.args.batch.now.updates in
    let u : List ℕ × List ℕ = get_or us i ([], []) in
    let piece : List ℕ = c.copy_from_slice.new.self in
    let lt : i < length us = omega (arith, c.loop-i-test.true, c.len-i-end.ensures.many) in
    let few : c.fill_frame-count.result ≤ 512 = c.fill_frame-count.ensures.within in
    let here : c.place.result + i ≡ place + i = ap (λ (p : ℕ). p + i) c.place.ensures in
    let is : piece ≡ frame_text (place + i) u.0 u.1 =
    c.copy_from_slice.ensures.after ∙ c.fill_frame-count.ensures.bytes
    ∙ (λ j. bytes_of (frame_words (here j) (c.args-in-loop-i.ensures.words j) (c.reply.ensures.words j))) in
    let long : length piece ≡ c.fill_frame-count.result = search rules in
    let there : len ≤ length c.loop-i.block = search rules in
    record {
      few = omega (arith, few, c.loop-i.invariant.few);
      frames = take-put_mid len _ c.loop-i.block piece _ (omega (arith, long)) there
          ∙ (λ j. c.loop-i.invariant.frames j ++ is j)
          ∙ sym (text_more frame_text place i us lt);
    }
