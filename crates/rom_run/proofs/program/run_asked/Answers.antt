use Rattle.std.specs.Prelude.{Option, Some, None, IfSome}
use Rattle.rom_model.specs.Earlier.{Earlier}
use Rattle.rom_text.specs.Lines.{AreScripts}
use Rattle.rom_run.specs.Asked.{IsAskedOf, asked_use}
use Rattle.rom_run.specs.Played.{IsOutput}
use Rattle.rom_run.specs.Use.{heap_of}
use Rattle.rom_run.specs.declared.program.Asked.{Asked}
use Rattle.rom_run.specs.declared.program.Asked.TheVariants.{Play, Make}
use Rattle.rom_run.proofs.Accepted.{AreApart, apart_played}
use Rattle.rom_run.proofs.Completing.{ends, few_faults, output_faulted, output_unread}
use Rattle.rom_run.proofs.Lasting.{lasting, told_lasts}
use Rattle.rom_run.proofs.program.run_asked.Goals as goal

-- no command of these upgrades a heap
apart_asked : {S : Type 0} (earlier : Earlier S) (asked : Option Asked) → IfSome asked IsAskedOf → IfSome (asked_use asked) (λ does. AreApart earlier (heap_of does))
apart_asked earlier (Some (Play heap)) order = apart_played earlier heap order
apart_asked earlier (Some (Make order)) is = tt
apart_asked earlier None order = tt

-- five of the promises follow from the others
pub returns : goal.returns
returns g c =
    let o = g.O.Object in
    let source = g.S.Source.shown in
    let sink = g.K.Sink.shown in
    let output = g.T.Output.shown in
    let is = c.run_command.ensures in
    let ended = c.run_command.result in
    let both = ends o.machine o.Contents o.KIND o.Rejects o.earlier g.D.Device.shown source sink (AreScripts g.L.Lines.Reads source) (IsOutput sink output)
    c.args.device ended.device c.args.scripts.items ended.scripts.items c.args.out.now c.run_command.new.out (output_faulted sink output) (output_unread sink output)
    (asked_use c.args.asked) ended.status ended.session
    (record {
      statuses = is.statuses;
      ran = is.ran;
      not_run = is.not_run;
      story = is.story;
      none = is.none;
      made = is.made;
      source_failed = is.source_failed;
      too_long = is.too_long;
      sink_failed = is.sink_failed;
    })
    (apart_asked o.earlier c.args.asked c.requires.order) in
    let w = g.world in
    let only_now = (g.met.D.Device w.𝓛 w.𝓜 w.𝓡 ((λ s x. x), (λ x. x), (λ x. x), λ x. x)).only_now in
    record {
      promise = record {
        ended = is;
        lasting = lasting o.machine o.Contents g.D.Device.shown ended.device only_now ended.session;
        told_lasts = told_lasts o.machine o.Contents g.D.Device.shown ended.device only_now c.args.device _ (asked_use c.args.asked) ended.status ended.session is.not_run is.story;
        corollaries = record {
          complete = both.0;
          refused = both.1;
          few_faults = few_faults o.machine o.Contents g.D.Device.shown c.args.device ended.device _ (asked_use c.args.asked) ended.status ended.session is.not_run is.story;
        };
      };
    }
