use Rattle.std.proofs.Common.{◌≡◌, arith, refl}
use Rattle.std.specs.Prelude.{None, Option, Some, codes}
use Rattle.rom_run.specs.Use.{Makes}
use Rattle.rom_run.specs.declared.program.Asked.{Asked}
use Rattle.rom_run.proofs.Sources.{all_unasked, none_left}
use Rattle.rom_run.proofs.Statuses.{never_two}
use Rattle.rom_run.proofs.Told.{writing_told}
use Rattle.rom_run.proofs.program.run_command.Goals as goal

-- what is no command's is none
none_asked : (asked : Option Asked) → ((a : Asked) → asked ≡ Some a → ⊥) → asked ≡ None
none_asked None not = refl
none_asked (Some a) not = absurd (not a refl)

pub returns-in_default : goal.returns-in_default
returns-in_default g c = rw (none_asked c.args.asked c.in_default.not-Some, c.of.ensures) record {
  statuses = refl;
  ran = λ never. absurd never;
  not_run = λ _. refl;
  story = tt;
  still = tt;
  none = tt;
  made = λ _. tt;
  kept = tt;
  uncalled = λ _. refl;
  asked_once = all_unasked g.S.Source.shown c.args.scripts.items;
  unread = λ _. refl;
  fit = λ read. absurd (omega (arith, read));
  read = λ read. absurd (omega (arith, read));
  source_failed = λ four. absurd (omega (arith, four));
  none_failed = λ _. refl;
  too_long = λ eight. absurd (omega (arith, eight));
  not_a_command_told = λ _. c.tell.ensures.told;
  sink_failed = λ five. absurd (omega (arith, five));
  writing = writing_told g.K.Sink.shown c.args.out.now c.tell.new.out (codes "not a command") c.tell.ensures.told;
  rest = c.tell.ensures.rest;
}

pub returns-in-Play : goal.returns-in-Play
returns-in-Play g c = rw (c.in-Some.is, c.in-Play.is) c.play_sources.ensures

pub returns-in-Make : goal.returns-in-Make
returns-in-Make g c =
    let made = c.make_heap-status.ensures in
    let statuses = made.statuses in
    let none = none_left g.S.Source.shown c.args.scripts.items (rw (c.in-Some.is, c.in-Make.is) at c.requires.sources) in
    rw (c.in-Some.is, c.in-Make.is, c.of-in-Make.ensures) record {
      statuses = made.statuses;
      ran = λ never. absurd never;
      not_run = λ _. refl;
      story = tt;
      still = tt;
      none = λ none. record {
        images = made.images;
        calls = made.calls;
        heap_refused = made.heap_refused;
        device_failed = made.device_failed;
        unfailed = λ six. made.unfailed (λ seven. omega (arith, six, seven));
        uncalled = made.uncalled;
        no_memory = made.no_memory;
      };
      made = made.made;
      kept = made.kept;
      uncalled = λ many. absurd (omega (arith, statuses, many));
      asked_once = all_unasked g.S.Source.shown c.args.scripts.items;
      unread = never_two (Makes c.in-Make.order) _ made.statuses;
      fit = λ _. none.0;
      read = λ _. none.1;
      source_failed = λ four. absurd (omega (arith, statuses, four));
      none_failed = λ _. refl;
      too_long = λ eight. absurd (omega (arith, statuses, eight));
      not_a_command_told = never_two (Makes c.in-Make.order) _ made.statuses;
      sink_failed = λ five. absurd (omega (arith, statuses, five));
      writing = made.writing;
      rest = made.rest;
    }
