use Rattle.std.proofs.Common.{◌≡◌, ℕ, Bor, Option, Some, refl}
use Rattle.std.specs.Global.{Vec}
use Rattle.rom_heap.specs.Answers.{Rejects, earlier}
use Rattle.rom_model.specs.Region.{Contents}
use Rattle.rom_model.specs.Trio.{trio}
use Rattle.rom_device.specs.Device.{ShownDevice}
use Rattle.rom_text.specs.Lines.{AreScripts}
use Rattle.rom_text.specs.Streams.{ShownSink, ShownSource}
use Rattle.rom_text.specs.declared.names.Name.{Name}
use Rattle.rom_store.specs.Sessions.{SessionSeen}
use Rattle.rom_script.specs.Lines.{ReadsTrio}
use Rattle.rom_run.specs.Named.{plain_command_read}
use Rattle.rom_run.specs.Plain.{plain_use}
use Rattle.rom_run.specs.Promise.{Promise}
use Rattle.rom_run.specs.declared.plain.Plain.{Plain}
use Rattle.rom_run.specs.declared.plain.Plain.TheVariants.{Try, Run, Follow, Format}
use Rattle.rom_replica.specs.Promise.{ReplicaPromise}
use Rattle.rom_replica.specs.Shipped.{AreShipped}
use Rattle.rom_replica.proofs.Shipped.{has_words}
use Rattle.rom_replica.proofs.program.run_replica.Goals as goal

-- a command that follows no stream keeps the promise of a program
kept : {D X K : Type 0} (shown : ShownDevice D) (source : ShownSource X) (sink : ShownSink K) (was now : D) (inputs left : Vec X) (old new : K) (status : ℕ) (session : Option SessionSeen) (plain : Plain) →
    ((file stream : Bor Name) → plain ≡ Follow file stream → ⊥) →
    Promise trio Contents 1 Rejects earlier shown source sink (AreScripts ReadsTrio source) (AreShipped sink) (plain_use (plain_command_read (Some plain))) was now inputs left old new status session →
    ReplicaPromise shown source sink (plain_command_read (Some plain)) was now inputs left old new status session
kept shown source sink was now inputs left old new status session (Try scripts) not is = is
kept shown source sink was now inputs left old new status session (Run file scripts) not is = is
kept shown source sink was now inputs left old new status session (Follow file stream) not is = absurd (not file stream refl)
kept shown source sink was now inputs left old new status session (Format file order) not is = is

pub returns-in_default-clause-promise : goal.returns-in_default-clause-promise
returns-in_default-clause-promise g c = rw (← c.read_command.ensures.named, c.in_default.is) c.run_primary.ensures.promise

pub returns-in_default-clause-followed : goal.returns-in_default-clause-followed
returns-in_default-clause-followed g c = has_words

pub returns-in-Follow-clause-promise : goal.returns-in-Follow-clause-promise
returns-in-Follow-clause-promise g c = rw (← c.read_command.ensures.named, c.in-Some.is, c.in-Follow.is) c.run_follower.ensures.promise

pub returns-in-Follow-clause-followed : goal.returns-in-Follow-clause-followed
returns-in-Follow-clause-followed g c = has_words

pub returns-in_default-plain : goal.returns-in_default-plain
returns-in_default-plain g c =
    let ended = c.run_primary-in_default-plain.result in
    record {
      promise = rw (← c.read_command.ensures.named, c.in-Some.is)
          (kept g.D.Device.shown g.S.Source.shown g.O.Sink.shown c.args.device ended.device c.args.inputs ended.scripts c.args.out.now c.run_primary-in_default-plain.new.out ended.status ended.session c.in-Some.plain c.in_default-plain.not-Follow
          (rw (← c.asked_by.ensures.uses) c.run_primary-in_default-plain.ensures.promise));
      followed = has_words;
    }
