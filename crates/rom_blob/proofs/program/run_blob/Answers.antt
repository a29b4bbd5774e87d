use Rattle.rom_run.specs.Plain.{plain_command, plain_use}
use Rattle.rom_blob.proofs.Crowds.{sessions_crowded}
use Rattle.rom_blob.proofs.Determined.{text_determines}
use Rattle.rom_blob.proofs.program.run_blob.Goals as goal

pub returns-clause-crowded : goal.returns-clause-crowded
returns-clause-crowded g c =
    let p = c.run_plain.ensures.promise.ended in
    sessions_crowded g.D.Device.shown c.args.device c.run_plain.result.device _ (λ callers story has. has.answered.lawful.legal) (plain_use (plain_command c.args.words.now)) c.run_plain.result.status c.run_plain.result.session p.story p.not_run

pub returns-clause-determined : goal.returns-clause-determined
returns-clause-determined g c = text_determines
