use Rattle.std.proofs.Common.{◌≡◌, ◌++◌, ◌∙◌, ℕ, IsTrue, ap, arith, codes, subst, sym}
use Rattle.rom_header.specs.Held.{Holds}
use Rattle.rom_text.specs.Runs.{IsLineWrittenOrCutShort}
use Rattle.rom_open.specs.Refusals.{named_order}
use Rattle.rom_open.specs.Upgrading.{IsWholeHeap}
use Rattle.rom_run.specs.Refusing.{refusal_line}
use Rattle.rom_run.proofs.Joined.{two_pieces}
use Rattle.rom_run.proofs.Showing.{none_upgraded}
use Rattle.rom_run.proofs.upgrade.upgrade_heap.Goals as goal

pub returns-in-Ok-clause-none : goal.returns-in-Ok-clause-none
returns-in-Ok-clause-none g c = record {
  images = c.in-Ok.ensures.images;
  calls = c.in-Ok.ensures.within_upgrade;
  heap_refused = λ three. absurd (omega (arith, three));
  device_failed = λ seven. absurd (omega (arith, seven));
  unfailed = λ six. absurd (omega (arith, six));
  uncalled = λ six. absurd (omega (arith, six));
  no_memory = λ six. absurd (omega (arith, six));
}

pub returns-in-Ok-clause-made : goal.returns-in-Ok-clause-made
returns-in-Ok-clause-made g c = λ done.
    let o = g.O.Object in
    let shown = g.D.Device.shown in
    let was = shown.words c.args.device in
    let order = c.in-Ok.order in
    let told = c.in-Ok.ensures in
    let named : IsTrue shown.tells_images → order ≡ named_order was = λ images. (told.answer (g.met.D.Device.tells_both images)).0 in
    let held : IsTrue shown.tells_images → (state : o.State) (count : ℕ) → Holds o.earlier.Contents order was state count → Holds o.earlier.Contents (named_order was) was state count
    = λ images state count is. subst (λ (n : ℕ). Holds o.earlier.Contents n was state count) (named images) is in
    record {
      order = order;
      fits = let size = told.within.size in omega (arith, size, told.fits);
      held = λ tells. (told.answer tells).1;
      holds = λ images state count is. subst (λ (n : ℕ). Holds o.Contents n (shown.words c.in-Ok.device) state count) (sym (named images)) ((told.upgraded images).holds state count (held images state count is));
      images = λ images state count is i left. subst (λ (n : ℕ). Holds o.Contents n i state count) (sym (named images)) ((told.upgraded images).images state count (held images state count is) i left);
      whole = λ images. subst (λ (n : ℕ). IsWholeHeap n (shown.words c.in-Ok.device)) (sym (named images)) (told.upgraded images).whole;
      told = subst (λ line. IsLineWrittenOrCutShort g.K.Sink.shown c.args.out.now c.tell.new.out line)
          (two_pieces (codes "upgraded order ") c.format.result.now ∙ ap (λ digits. codes "upgraded order " ++ digits) c.format.ensures.text) c.tell.ensures.told;
    }

pub returns-in-Err-clause-none : goal.returns-in-Err-clause-none
returns-in-Err-clause-none g c =
    let o = g.O.Object in
    let ended = c.end_unopened.ensures in
    let failed = c.in-Err.ensures in
    rw ended.worked
    (none_upgraded o.machine o.Contents g.D.Device.shown g.K.Sink.shown o.KIND o.Rejects o.earlier c.args.device c.in-Err.refused.device c.args.out.now c.end_unopened.new.out c.in-Err.refused.why
    failed.answer failed.sizes failed.faults failed.images failed.calls failed.within_upgrade (λ not. (failed.opens not).within) (λ told not. (failed.opens not).images told)
    (subst (λ kind. IsLineWrittenOrCutShort g.K.Sink.shown c.args.out.now c.end_unopened.new.out (refusal_line kind c.in-Err.refused.why)) c.KIND.ensures ended.told))
