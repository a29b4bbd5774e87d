use Rattle.std.proofs.Common.{map, subst}
use Rattle.std.proofs.lemmas.Result.{on_ok_weaker}
use Rattle.std.specs.List.{AllByRecursion, flat_map}
use Rattle.rom_frame.specs.Frames.{IsOfWords, frame}
use Rattle.rom_text.specs.Streams.{Prints}
use Rattle.rom_replica.specs.Merging.{all_updates, merged_frames}
use Rattle.rom_replica.proofs.Told.{framed_in_turn, frames_in_turn}
use Rattle.rom_replica.proofs.ship.output.HistoryFramesOutputTrio.print.Goals as goal

pub returns-clause-prints : goal.returns-clause-prints
returns-clause-prints g c = λ story count_is lawful.
    let scripts = map (λ v. v.items) c.args.scripts.now in
    let results = map (λ v. v.items) c.args.results.now in
    let printed = c.print_updates in
    subst (λ bytes. Prints g.K.Sink.shown c.args.out.now printed.new.out printed.result bytes) (frames_in_turn story scripts results lawful)
    (subst (λ n. Prints g.K.Sink.shown c.args.out.now printed.new.out printed.result (flat_map frame (merged_frames n (all_updates scripts results)))) count_is printed.ensures.prints)

pub returns-clause-of_type : goal.returns-clause-of_type
returns-clause-of_type g c =
    let scripts = map (λ v. v.items) c.args.scripts.now in
    let results = map (λ v. v.items) c.args.results.now in
    on_ok_weaker c.print_updates.result
    (λ all story count_is lawful. framed_in_turn story scripts results lawful (subst (λ n. AllByRecursion IsOfWords (merged_frames n (all_updates scripts results))) count_is all))
    c.print_updates.ensures.of_words
