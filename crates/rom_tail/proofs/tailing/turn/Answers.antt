use Rattle.std.proofs.Common.{ℕ, List, refl, subst, take}
use Rattle.std.specs.Prelude.{None}
use Rattle.rom_frame.specs.declared.frame.Frame.{Frame}
use Rattle.rom_tail.specs.Chased.{TakesFrames}
use Rattle.rom_tail.specs.Tallied.{CountsFrames}
use Rattle.rom_tail.specs.Waiting.{waits_in}
use Rattle.rom_tail.specs.declared.batch.Took.{Took}
use Rattle.rom_tail.proofs.Going.{stream_stops, turns_to}
use Rattle.rom_tail.proofs.tailing.turn.Goals as goal

pub returns-in-Some : goal.returns-in-Some
returns-in-Some g c n0 was so =
    let read = c.in-Some.ensures in
    let old = c.args.tailing.now in
    let took : Took = record { counted = 0; stop = None } in
    stream_stops g.S.Source.shown n0 was c.args.stream.now c.next_frames.new.stream (waits_in old.intake) (waits_in c.next_frames.new.self) c.args.chaser.now c.args.chaser.now old.tally old.tally c.next_frames.new.frames.items took so
    read.taken read.of_words read.none c.in-Some.stop read.stop read.asked_once

pub returns : goal.returns
returns g c n0 was so =
    let read = c.in_default.ensures in
    let old = c.args.tailing.now in
    let frames = c.next_frames.new.frames.items in
    let took = c.take_frames-took in
    let t : TakesFrames frames c.args.chaser.now took.new.self took.result = subst (λ (fs : List Frame). TakesFrames fs c.args.chaser.now took.new.self took.result) c.as_slice.ensures.value took.ensures.takes in
    let counts : CountsFrames c.args.chaser.now.count (take took.result.counted frames) old.tally c.add.new.self =
    subst (λ (fs : List Frame). CountsFrames c.args.chaser.now.count (take took.result.counted fs) old.tally c.add.new.self) c.as_slice-2.ensures.value
    (subst (λ (n : ℕ). CountsFrames n (take took.result.counted c.as_slice-2.result.now) old.tally c.add.new.self) c.count-count.ensures.count c.add.ensures) in
    turns_to g.S.Source.shown n0 was c.args.stream.now c.next_frames.new.stream (waits_in old.intake) (waits_in c.next_frames.new.self) c.args.chaser.now took.new.self old.tally c.add.new.self frames took.result so
    read.taken read.of_words read.gave t counts took.result.stop refl
