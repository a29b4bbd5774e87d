-- A stream that was followed in batches, as the story of its session tells of it.
use Rattle.std.proofs.Common.{◌≡◌, ℕ, List, length, sym, ap, ◌∙◌, subst, arith}
use Rattle.rom_device.specs.Device.{ShownDevice}
use Rattle.rom_model.specs.History.{IsLegal}
use Rattle.rom_model.specs.Leaving.{IsClosed}
use Rattle.rom_model.specs.Machine.{on_words}
use Rattle.rom_model.specs.Region.{Contents}
use Rattle.rom_model.specs.State.{State}
use Rattle.rom_model.specs.Story.{Story}
use Rattle.rom_model.specs.Trio.{trio}
use Rattle.rom_model.specs.declared.entry.Entry.{Entry}
use Rattle.rom_model.specs.declared.record.PassRecord.{PassRecord}
use Rattle.rom_run.specs.Working.{IsSessionOn}
use Rattle.rom_run.specs.declared.heap.Heap.TheVariants.{Standing}
use Rattle.rom_store.specs.Sessions.{IsStoryOf, SessionSeen}
use Rattle.rom_text.specs.Streams.{ShownSource}
use Rattle.rom_replica.specs.declared.stop.Stop.{Stop}
use Rattle.rom_tail.specs.Promise.{HasClosed, IsStreamTailed}
use Rattle.rom_tail.specs.Tailed.{IsTailed}
use Rattle.rom_tail.specs.declared.few.TheConstants.{MOST}
use Rattle.rom_tail.specs.declared.tally.Tally.{Tally}
use Rattle.rom_tail.proofs.Follows.{follows_each}

pub tailed_by : {D X : Type 0} (shown : ShownDevice D) (device closed : D) (source : ShownSource X) (was now : X) (tally : Tally) (stop : Stop) (session : SessionSeen) (story : Story State) → HasClosed source was now tally stop session → IsStoryOf trio Contents session story
    → IsClosed trio story MOST → IsSessionOn trio Contents shown Standing device closed story → IsStreamTailed shown device closed source was now tally stop story
tailed_by shown device closed source was now tally stop session story left of ended on =
    let c = left.chaser in
    let d = left.done story.opening story.opening_count of.opening in
    let same : story.history ≡ c.history = of.history ∙ left.history in
    let records : story.records ≡ c.records = of.records ∙ left.records in
    let tailed : IsTailed source story.opening_count was now story.history story.records tally stop =
    subst (λ (z : ℕ × List Entry × List PassRecord). IsTailed source z.0 was now z.1 z.2 tally stop) (λ i. (d.0 i, sym same i, sym records i)) left.tailed in
    record {
      tailed = tailed;
      legal = subst (λ (z : ℕ × List Entry). IsLegal (on_words trio) z.0 story.opening story.opening_count z.1) (λ i. (sym of.order_is i, sym same i)) d.1.legal;
      within = let many : length story.history ≡ length c.history = ap length same in omega (arith, d.1.count_is, d.1.within, many);
      recorded = ended.recorded;
      follows = follows_each shown source device closed was now story tally stop on ended.recorded tailed;
    }
