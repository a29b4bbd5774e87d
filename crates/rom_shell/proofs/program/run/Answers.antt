use Rattle.rom_heap.specs.Answers.{Rejects, earlier}
use Rattle.rom_model.specs.Region.{Contents}
use Rattle.rom_model.specs.Trio.{trio}
use Rattle.rom_script.proofs.Determined.{text_determines}
use Rattle.rom_run.proofs.Completing.{ends, few_faults}
use Rattle.rom_run.proofs.Lasting.{lasting, told_lasts}
use Rattle.rom_shell.specs.Run.{AreRun, IsPrinted, use_of}
use Rattle.rom_words.specs.Words.{command}
use Rattle.rom_shell.proofs.Apart.{apart_asked}
use Rattle.rom_shell.proofs.Printed.{printed_faulted, printed_unread}
use Rattle.rom_shell.proofs.program.run.Goals as goal

-- five of the promises follow from the others
pub returns-clause-promise : goal.returns-clause-promise
returns-clause-promise g c =
    let shown = g.D.Device.shown in
    let source = g.S.Source.shown in
    let sink = g.O.Sink.shown in
    let asked = command c.args.words.now in
    let is = c.run_command.ensures in
    let ended = c.run_command.result in
    let both = ends trio Contents 1 Rejects earlier shown source sink (AreRun source asked) (IsPrinted sink asked)
    c.args.device ended.device c.args.scripts.items ended.scripts.items c.args.out.now c.run_command.new.out (printed_faulted sink asked) (printed_unread sink asked)
    (use_of asked) ended.status ended.session
    (record {
      statuses = is.statuses;
      ran = is.ran;
      not_run = is.not_run;
      story = is.story;
      none = is.none;
      made = is.made;
      source_failed = is.source_failed;
      too_long = is.too_long;
      sink_failed = is.sink_failed;
    })
    (apart_asked asked) in
    let w = g.world in
    let only_now = (g.met.D.Device w.𝓛 w.𝓜 w.𝓡 ((λ s x. x), (λ x. x), (λ x. x), λ x. x)).only_now in
    record {
      ended = record {
        statuses = is.statuses;
        ran = is.ran;
        not_run = is.not_run;
        story = is.story;
        still = is.still;
        none = is.none;
        made = is.made;
        kept = is.kept;
        uncalled = is.uncalled;
        asked_once = is.asked_once;
        unread = is.unread;
        fit = is.fit;
        read = is.read;
        source_failed = is.source_failed;
        none_failed = is.none_failed;
        too_long = is.too_long;
        not_a_command_told = is.not_a_command_told;
        sink_failed = is.sink_failed;
        writing = is.writing;
        rest = is.rest;
      };
      lasting = lasting trio Contents shown ended.device only_now ended.session;
      told_lasts = told_lasts trio Contents shown ended.device only_now c.args.device _ (use_of asked) ended.status ended.session is.not_run is.story;
      corollaries = record {
        complete = both.0;
        refused = both.1;
        few_faults = few_faults trio Contents shown c.args.device ended.device _ (use_of asked) ended.status ended.session is.not_run is.story;
      };
    }

pub returns-clause-determined : goal.returns-clause-determined
returns-clause-determined g c = text_determines
