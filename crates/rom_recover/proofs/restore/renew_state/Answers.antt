use Rattle.std.proofs.Common.{ℕ, Result, Ok, Err, OnOk, ◌∙◌, sym, subst}
use Rattle.rom_device.specs.Device.{Runs, Stays, WritesWord}
use Rattle.rom_device.proofs.Going.{runs_on, runs_then}
use Rattle.rom_recover.proofs.Restoring.{again, runs_again}
use Rattle.rom_recover.proofs.restore.renew_state.Goals as goal

on_ok : {T E P : Type 0} (result : Result T E) → P → OnOk result P
on_ok (Ok done) holds = holds
on_ok (Err failed) holds = tt

pub returns-in_err-write-clause-words : goal.returns-in_err-write-clause-words
returns-in_err-write-clause-words g c told = again g.D.Device.shown 3 c.word.result c.args.device.now c.write.new.self _ _ (c.requires.state told ∙ sym c.word.ensures.word) (c.write.ensures.does.words told)

pub returns-clause-words : goal.returns-clause-words
returns-clause-words g c told = c.sync.ensures.does.words told ∙ again g.D.Device.shown 3 c.word.result c.args.device.now c.write.new.self _ _ (c.requires.state told ∙ sym c.word.ensures.word) (c.write.ensures.does.words told)

pub returns-in_err-write-clause-images : goal.returns-in_err-write-clause-images
returns-in_err-write-clause-images g c =
    runs_again g.D.Device.shown 3 c.word.result _ _ g.met.D.Device.tells_both (λ told. c.requires.state told ∙ sym c.word.ensures.word) c.requires.certain c.write.ensures.does

pub returns-clause-images : goal.returns-clause-images
returns-clause-images g c images =
    runs_on g.D.Device.shown Stays (λ x y z first second. second ∙ first) _ _ _
    (runs_again g.D.Device.shown 3 c.word.result _ _ g.met.D.Device.tells_both (λ told. c.requires.state told ∙ sym c.word.ensures.word) c.requires.certain c.write.ensures.does images) (c.sync.ensures.does.images images)

pub returns-in_err-write-clause-doubts : goal.returns-in_err-write-clause-doubts
returns-in_err-write-clause-doubts g c doubts =
    subst (λ (k : ℕ). Runs g.D.Device.shown (WritesWord 3 k) c.args.device.now c.write.new.self) c.word.ensures.word (c.write.ensures.does.doubts doubts)

pub returns-clause-doubts : goal.returns-clause-doubts
returns-clause-doubts g c doubts =
    subst (λ (k : ℕ). Runs g.D.Device.shown (WritesWord 3 k) c.args.device.now c.sync.new.self) c.word.ensures.word
    (runs_then g.D.Device.shown (WritesWord 3 c.word.result) _ _ _ (c.write.ensures.does.doubts doubts) (c.sync.ensures.does.doubts doubts))

pub returns-clause-renews : goal.returns-clause-renews
returns-clause-renews g c = on_ok c.sync.result (λ is. c.in_ok-write.ensures.renews (c.sync.ensures.does.fewer 3 is))

pub returns-clause-fewer : goal.returns-clause-fewer
returns-clause-fewer g c at is = c.write.ensures.does.fewer at (c.sync.ensures.does.fewer at is)
