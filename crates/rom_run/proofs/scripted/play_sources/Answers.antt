use Rattle.std.proofs.Common.{◌≡◌, ◌∙◌, map, refl}
use Rattle.std.proofs.lemmas.List.{with_items_is}
use Rattle.rom_text.specs.Lines.{AreScripts}
use Rattle.rom_run.specs.Played.{IsOutput}
use Rattle.rom_run.specs.Statuses.{exit_number}
use Rattle.rom_run.specs.Use.{Plays, Read}
use Rattle.rom_run.proofs.Replies.{played_still, replies_of, unread_memory}
use Rattle.rom_run.proofs.Statuses.{never_two, played_not_failed, played_not_long, played_not_run, played_not_unread, played_status, unread_ends, unread_failed, unread_four, unread_not_five, unread_not_read, unread_not_run, unread_too_long}
use Rattle.rom_run.proofs.Uncalled.{kept_uncalled, none_uncalled, unread_otherwise}
use Rattle.rom_run.proofs.scripted.play_sources.Goals as goal

pub returns-in-Ok : goal.returns-in-Ok
returns-in-Ok g c =
    let o = g.O.Object in
    let worked = c.play_lines.result in
    let unprinted : c.read_scripts.new.out ≡ c.args.out.now = c.in-Ok.ensures.unprinted in
    rw c.after.ensures record {
      statuses = played_status c.args.heap _ c.play_lines.ensures.statuses;
      ran = c.play_lines.ensures.ran;
      not_run = played_not_run _ c.play_lines.ensures.statuses c.play_lines.ensures.not_run;
      story =
          let read = rw c.deref_mut.ensures.value at c.in-Ok.ensures.lines in
          let played = rw (c.deref.ensures.value, unprinted) at c.play_lines.ensures.session in
          (replies_of o.machine o.Contents g.D.Device.shown (IsOutput g.K.Sink.shown g.T.Output.shown) (AreScripts g.L.Lines.Reads g.S.Source.shown)
          c.args.heap c.args.device worked.device c.args.scripts.items (map (λ v. v.items) c.in-Ok.lines.items) c.args.out.now c.play_lines.new.out (exit_number worked.status) worked.session read played);
      still = played_still o.machine o.Contents g.D.Device.shown c.args.device worked.device c.args.heap Read worked.session;
      none = rw (← unprinted) c.play_lines.ensures.none;
      made = λ _. tt;
      kept = c.play_lines.ensures.kept;
      uncalled = played_not_unread _ c.play_lines.ensures.statuses;
      asked_once = rw (with_items_is c.args.scripts c.read_scripts.new.sources (c.in-Ok.ensures.many ∙ c.deref_mut.ensures.len), ← c.deref_mut.ensures.value) c.in-Ok.ensures.asked_once;
      unread = never_two (Plays c.args.heap Read) _ (played_status c.args.heap _ c.play_lines.ensures.statuses);
      fit = rw (← c.deref_mut.ensures.value) (λ ran. c.in-Ok.ensures.fits);
      read = rw (with_items_is c.args.scripts c.read_scripts.new.sources (c.in-Ok.ensures.many ∙ c.deref_mut.ensures.len)) (λ ran. c.in-Ok.ensures.to_their_ends);
      source_failed = played_not_failed _ c.play_lines.ensures.statuses;
      none_failed = rw (with_items_is c.args.scripts c.read_scripts.new.sources (c.in-Ok.ensures.many ∙ c.deref_mut.ensures.len), ← c.deref_mut.ensures.value) (λ other. c.in-Ok.ensures.unfailed (λ is. cc));
      too_long = played_not_long _ c.play_lines.ensures.statuses;
      not_a_command_told = never_two (Plays c.args.heap Read) _ (played_status c.args.heap _ c.play_lines.ensures.statuses);
      sink_failed = rw (← unprinted) c.play_lines.ensures.sink_failed;
      writing = rw (← unprinted) c.play_lines.ensures.writing;
      rest = rw (← unprinted) c.play_lines.ensures.rest;
    }

pub returns-in-Err : goal.returns-in-Err
returns-in-Err g c =
    let o = g.O.Object in
    rw c.of.ensures record {
      statuses = unread_ends c.in-Err.status c.in-Err.ensures.statuses c.args.heap;
      ran = unread_not_run c.in-Err.status c.in-Err.ensures.statuses;
      not_run = λ _. refl;
      story = tt;
      still = tt;
      none =
          let status = c.in-Err.status in
          let otherwise = unread_otherwise status c.in-Err.ensures.statuses in
          (λ none. none_uncalled g.D.Device.shown c.args.device o.machine o.Contents g.K.Sink.shown o.KIND o.Rejects o.earlier c.args.out.now c.read_scripts.new.out (exit_number status) otherwise.0 otherwise.1
          (λ six. unread_memory g.S.Source.shown g.K.Sink.shown c.deref_mut.result.now c.read_scripts.new.sources c.args.out.now c.read_scripts.new.out status c.in-Err.ensures.unread six) c.args.heap);
      made = λ _. tt;
      kept = kept_uncalled g.D.Device.shown c.args.device c.args.heap;
      uncalled = λ _. refl;
      asked_once = rw (with_items_is c.args.scripts c.read_scripts.new.sources (c.in-Err.ensures.many ∙ c.deref_mut.ensures.len), ← c.deref_mut.ensures.value) c.in-Err.ensures.asked_once;
      unread = never_two (Plays c.args.heap Read) _ (unread_ends c.in-Err.status c.in-Err.ensures.statuses c.args.heap);
      fit = unread_not_read c.in-Err.status c.in-Err.ensures.statuses;
      read = unread_not_read c.in-Err.status c.in-Err.ensures.statuses;
      source_failed =
          rw (with_items_is c.args.scripts c.read_scripts.new.sources (c.in-Err.ensures.many ∙ c.deref_mut.ensures.len), ← c.deref_mut.ensures.value)
          (unread_failed g.S.Source.shown g.K.Sink.shown c.deref_mut.result.now c.read_scripts.new.sources c.args.out.now c.read_scripts.new.out c.in-Err.status c.in-Err.ensures.unread);
      none_failed =
          rw (with_items_is c.args.scripts c.read_scripts.new.sources (c.in-Err.ensures.many ∙ c.deref_mut.ensures.len), ← c.deref_mut.ensures.value)
          (λ other. c.in-Err.ensures.unfailed (λ is. other (unread_four c.in-Err.status is)));
      too_long =
          rw (with_items_is c.args.scripts c.read_scripts.new.sources (c.in-Err.ensures.many ∙ c.deref_mut.ensures.len), ← c.deref_mut.ensures.value)
          (unread_too_long g.S.Source.shown g.K.Sink.shown c.deref_mut.result.now c.read_scripts.new.sources c.args.out.now c.read_scripts.new.out c.in-Err.status c.in-Err.ensures.unread);
      not_a_command_told = never_two (Plays c.args.heap Read) _ (unread_ends c.in-Err.status c.in-Err.ensures.statuses c.args.heap);
      sink_failed = unread_not_five c.in-Err.status c.in-Err.ensures.statuses;
      writing = c.in-Err.ensures.writing;
      rest = c.in-Err.ensures.rest;
    }
