use Rattle.std.proofs.Common.{◌≡◌, ◌∙◌, length, [], Some, ap, arith, subst, sym}
use Rattle.rom_run.specs.Statuses.{exit_number}
use Rattle.rom_run.specs.Use.{Drawn, Makes, Plays, Read, Shows, Upgrades}
use Rattle.rom_run.specs.declared.heap.Heap.TheVariants.{New, Standing}
use Rattle.rom_run.proofs.Statuses.{never_two}
use Rattle.rom_words.specs.Wanted.{named, texts}
use Rattle.rom_words.specs.Words.{Try, Run, Format, Stat, Upgrade, Drill, command, scripts_of}
use Rattle.rom_shell.proofs.Replies.{drilled_session, no_source, played_still, shown_session}
use Rattle.rom_shell.proofs.program.run_command.Goals as goal

pub returns-in-Try-clause-story : goal.returns-in-Try-clause-story
returns-in-Try-clause-story g c =
    let is : Some (Try (texts c.in-Try.field-0.items)) ≡ command c.args.words.now = subst (λ a. named (Some a) ≡ command c.args.words.now) c.in-Try.is c.in-Some.ensures.named in
    rw (sym is) c.play_sources.ensures.story

pub returns-in-Run-clause-story : goal.returns-in-Run-clause-story
returns-in-Run-clause-story g c =
    let is : Some (Run c.in-Run.file.now (texts c.in-Run.scripts.items)) ≡ command c.args.words.now = subst (λ a. named (Some a) ≡ command c.args.words.now) c.in-Run.is c.in-Some.ensures.named in
    rw (sym is) c.play_sources-in-Run.ensures.story

pub returns-in-Run-clause-none : goal.returns-in-Run-clause-none
returns-in-Run-clause-none g c =
    let is : Some (Run c.in-Run.file.now (texts c.in-Run.scripts.items)) ≡ command c.args.words.now = subst (λ a. named (Some a) ≡ command c.args.words.now) c.in-Run.is c.in-Some.ensures.named in
    rw (sym is) c.play_sources-in-Run.ensures.none

pub returns-in-Stat-clause-none : goal.returns-in-Stat-clause-none
returns-in-Stat-clause-none g c =
    let is : Some (Stat c.in-Stat.field-0.now) ≡ command c.args.words.now = subst (λ a. named (Some a) ≡ command c.args.words.now) c.in-Stat.is c.in-Some.ensures.named in
    rw (sym is, c.after.ensures) c.show_heap.ensures.none

pub returns-in-Format-clause-none : goal.returns-in-Format-clause-none
returns-in-Format-clause-none g c =
    let is : Some (Format c.in-Format.file.now c.in-Format.order) ≡ command c.args.words.now = subst (λ a. named (Some a) ≡ command c.args.words.now) c.in-Format.is c.in-Some.ensures.named in
    let made = c.make_heap-status.ensures in
    rw (sym is, c.of-in-Format.ensures)
    (λ none. record {
      images = made.images;
      calls = made.calls;
      heap_refused = made.heap_refused;
      device_failed = made.device_failed;
      unfailed = λ six. made.unfailed (λ seven. omega (arith, six, seven));
      uncalled = made.uncalled;
      no_memory = made.no_memory;
    })

pub returns-in-Run-clause-still : goal.returns-in-Run-clause-still
returns-in-Run-clause-still g c =
    let is : Some (Run c.in-Run.file.now (texts c.in-Run.scripts.items)) ≡ command c.args.words.now = subst (λ a. named (Some a) ≡ command c.args.words.now) c.in-Run.is c.in-Some.ensures.named in
    let ended = c.play_sources-in-Run.result in
    rw (sym is) (played_still g.D.Device.shown c.args.device ended.device Standing Read ended.session)

pub returns-in-Stat-clause-still : goal.returns-in-Stat-clause-still
returns-in-Stat-clause-still g c =
    let is : Some (Stat c.in-Stat.field-0.now) ≡ command c.args.words.now = subst (λ a. named (Some a) ≡ command c.args.words.now) c.in-Stat.is c.in-Some.ensures.named in
    rw (sym is, c.after.ensures) c.show_heap.ensures.still

pub returns-in-Stat-clause-story : goal.returns-in-Stat-clause-story
returns-in-Stat-clause-story g c =
    let is : Some (Stat c.in-Stat.field-0.now) ≡ command c.args.words.now = subst (λ a. named (Some a) ≡ command c.args.words.now) c.in-Stat.is c.in-Some.ensures.named in
    let none : c.args.scripts.items ≡ [] = no_source c.args.scripts.items (c.requires ∙ ap (λ want. length (scripts_of want)) (sym is)) in
    let worked = c.show_heap.result in
    rw (sym is, c.after.ensures)
    (shown_session g.D.Device.shown g.S.Source.shown g.O.Sink.shown c.args.device worked.device c.args.scripts.items c.args.out.now c.show_heap.new.out none c.in-Stat.field-0.now (exit_number worked.status) worked.session c.show_heap.ensures.not_run c.show_heap.ensures.session)

pub returns-in-Upgrade-clause-none : goal.returns-in-Upgrade-clause-none
returns-in-Upgrade-clause-none g c =
    let is : Some (Upgrade c.in-Upgrade.field-0.now) ≡ command c.args.words.now = subst (λ a. named (Some a) ≡ command c.args.words.now) c.in-Upgrade.is c.in-Some.ensures.named in
    rw (sym is, c.after-in-Upgrade.ensures) (λ none. c.upgrade_heap.ensures.none)

pub returns-in-Upgrade-clause-made : goal.returns-in-Upgrade-clause-made
returns-in-Upgrade-clause-made g c =
    let is : Some (Upgrade c.in-Upgrade.field-0.now) ≡ command c.args.words.now = subst (λ a. named (Some a) ≡ command c.args.words.now) c.in-Upgrade.is c.in-Some.ensures.named in
    rw (sym is, c.after-in-Upgrade.ensures) c.upgrade_heap.ensures.made

pub returns-in-Drill-clause-story : goal.returns-in-Drill-clause-story
returns-in-Drill-clause-story g c =
    let asked = c.in-Drill in
    let is : Some (Drill asked.start asked.callers asked.calls) ≡ command c.args.words.now = subst (λ a. named (Some a) ≡ command c.args.words.now) asked.is c.in-Some.ensures.named in
    let none : c.args.scripts.items ≡ [] = no_source c.args.scripts.items (c.requires ∙ ap (λ want. length (scripts_of want)) (sym is)) in
    let worked = c.drill_heap.result in
    rw (sym is, c.after-in-Drill.ensures)
    (drilled_session g.D.Device.shown g.S.Source.shown g.O.Sink.shown c.args.device worked.device c.args.scripts.items c.args.out.now c.drill_heap.new.out none asked.start asked.callers asked.calls (exit_number worked.status) worked.session c.drill_heap.ensures.session)

pub returns-in-Try-clause-statuses : goal.returns-in-Try-clause-statuses
returns-in-Try-clause-statuses g c = rw (← c.in-Some.ensures.named, c.in-Try.is) c.play_sources.ensures.statuses

pub returns-in-Try-clause-ran : goal.returns-in-Try-clause-ran
returns-in-Try-clause-ran g c = rw (← c.in-Some.ensures.named, c.in-Try.is) c.play_sources.ensures.ran

pub returns-in-Try-clause-not_run : goal.returns-in-Try-clause-not_run
returns-in-Try-clause-not_run g c = rw (← c.in-Some.ensures.named, c.in-Try.is) c.play_sources.ensures.not_run

pub returns-in-Try-clause-kept : goal.returns-in-Try-clause-kept
returns-in-Try-clause-kept g c = rw (← c.in-Some.ensures.named, c.in-Try.is) c.play_sources.ensures.kept

pub returns-in-Try-clause-none : goal.returns-in-Try-clause-none
returns-in-Try-clause-none g c = rw (← c.in-Some.ensures.named, c.in-Try.is) c.play_sources.ensures.none

pub returns-in-Try-clause-unread : goal.returns-in-Try-clause-unread
returns-in-Try-clause-unread g c = (never_two (Plays (New 4) Read) _ c.play_sources.ensures.statuses)

pub returns-in-Try-clause-not_a_command_told : goal.returns-in-Try-clause-not_a_command_told
returns-in-Try-clause-not_a_command_told g c = (never_two (Plays (New 4) Read) _ c.play_sources.ensures.statuses)

pub returns-in-Run-clause-statuses : goal.returns-in-Run-clause-statuses
returns-in-Run-clause-statuses g c = rw (← c.in-Some.ensures.named, c.in-Run.is) c.play_sources-in-Run.ensures.statuses

pub returns-in-Run-clause-ran : goal.returns-in-Run-clause-ran
returns-in-Run-clause-ran g c = rw (← c.in-Some.ensures.named, c.in-Run.is) c.play_sources-in-Run.ensures.ran

pub returns-in-Run-clause-not_run : goal.returns-in-Run-clause-not_run
returns-in-Run-clause-not_run g c = rw (← c.in-Some.ensures.named, c.in-Run.is) c.play_sources-in-Run.ensures.not_run

pub returns-in-Run-clause-kept : goal.returns-in-Run-clause-kept
returns-in-Run-clause-kept g c = rw (← c.in-Some.ensures.named, c.in-Run.is) c.play_sources-in-Run.ensures.kept

pub returns-in-Run-clause-unread : goal.returns-in-Run-clause-unread
returns-in-Run-clause-unread g c = (never_two (Plays Standing Read) _ c.play_sources-in-Run.ensures.statuses)

pub returns-in-Run-clause-not_a_command_told : goal.returns-in-Run-clause-not_a_command_told
returns-in-Run-clause-not_a_command_told g c = (never_two (Plays Standing Read) _ c.play_sources-in-Run.ensures.statuses)

pub returns-in-Format-clause-statuses : goal.returns-in-Format-clause-statuses
returns-in-Format-clause-statuses g c = rw (← c.in-Some.ensures.named, c.in-Format.is, c.of-in-Format.ensures) c.make_heap-status.ensures.statuses

pub returns-in-Format-clause-kept : goal.returns-in-Format-clause-kept
returns-in-Format-clause-kept g c = rw (← c.in-Some.ensures.named, c.in-Format.is, c.of-in-Format.ensures) c.make_heap-status.ensures.kept

pub returns-in-Format-clause-made : goal.returns-in-Format-clause-made
returns-in-Format-clause-made g c = rw (← c.in-Some.ensures.named, c.in-Format.is, c.of-in-Format.ensures) c.make_heap-status.ensures.made

pub returns-in-Format-clause-unread : goal.returns-in-Format-clause-unread
returns-in-Format-clause-unread g c = rw c.of-in-Format.ensures (never_two (Makes c.in-Format.order) _ c.make_heap-status.ensures.statuses)

pub returns-in-Format-clause-not_a_command_told : goal.returns-in-Format-clause-not_a_command_told
returns-in-Format-clause-not_a_command_told g c = rw c.of-in-Format.ensures (never_two (Makes c.in-Format.order) _ c.make_heap-status.ensures.statuses)

pub returns-in-Stat-clause-statuses : goal.returns-in-Stat-clause-statuses
returns-in-Stat-clause-statuses g c = rw (← c.in-Some.ensures.named, c.in-Stat.is, c.after.ensures) c.show_heap.ensures.statuses

pub returns-in-Stat-clause-kept : goal.returns-in-Stat-clause-kept
returns-in-Stat-clause-kept g c = rw (← c.in-Some.ensures.named, c.in-Stat.is, c.after.ensures) c.show_heap.ensures.kept

pub returns-in-Stat-clause-unread : goal.returns-in-Stat-clause-unread
returns-in-Stat-clause-unread g c = rw c.after.ensures (never_two Shows _ c.show_heap.ensures.statuses)

pub returns-in-Stat-clause-not_a_command_told : goal.returns-in-Stat-clause-not_a_command_told
returns-in-Stat-clause-not_a_command_told g c = rw c.after.ensures (never_two Shows _ c.show_heap.ensures.statuses)

pub returns-in-Upgrade-clause-statuses : goal.returns-in-Upgrade-clause-statuses
returns-in-Upgrade-clause-statuses g c = rw (← c.in-Some.ensures.named, c.in-Upgrade.is, c.after-in-Upgrade.ensures) c.upgrade_heap.ensures.statuses

pub returns-in-Upgrade-clause-kept : goal.returns-in-Upgrade-clause-kept
returns-in-Upgrade-clause-kept g c = rw (← c.in-Some.ensures.named, c.in-Upgrade.is, c.after-in-Upgrade.ensures) c.upgrade_heap.ensures.kept

pub returns-in-Upgrade-clause-unread : goal.returns-in-Upgrade-clause-unread
returns-in-Upgrade-clause-unread g c = rw c.after-in-Upgrade.ensures (never_two Upgrades _ c.upgrade_heap.ensures.statuses)

pub returns-in-Upgrade-clause-not_a_command_told : goal.returns-in-Upgrade-clause-not_a_command_told
returns-in-Upgrade-clause-not_a_command_told g c = rw c.after-in-Upgrade.ensures (never_two Upgrades _ c.upgrade_heap.ensures.statuses)

pub returns-in-Drill-clause-statuses : goal.returns-in-Drill-clause-statuses
returns-in-Drill-clause-statuses g c = rw (← c.in-Some.ensures.named, c.in-Drill.is, c.after-in-Drill.ensures) c.drill_heap.ensures.statuses

pub returns-in-Drill-clause-kept : goal.returns-in-Drill-clause-kept
returns-in-Drill-clause-kept g c = rw (← c.in-Some.ensures.named, c.in-Drill.is, c.after-in-Drill.ensures) c.drill_heap.ensures.kept

pub returns-in-Drill-clause-none : goal.returns-in-Drill-clause-none
returns-in-Drill-clause-none g c = rw (← c.in-Some.ensures.named, c.in-Drill.is, c.after-in-Drill.ensures) c.drill_heap.ensures.none

pub returns-in-Drill-clause-unread : goal.returns-in-Drill-clause-unread
returns-in-Drill-clause-unread g c = rw c.after-in-Drill.ensures (never_two (Plays (New 12) Drawn) _ c.drill_heap.ensures.statuses)

pub returns-in-Drill-clause-not_a_command_told : goal.returns-in-Drill-clause-not_a_command_told
returns-in-Drill-clause-not_a_command_told g c = rw c.after-in-Drill.ensures (never_two (Plays (New 12) Drawn) _ c.drill_heap.ensures.statuses)
