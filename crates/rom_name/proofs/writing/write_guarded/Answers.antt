use Rattle.std.proofs.Common.{arith}
use Rattle.rom_device.proofs.Going.{does_by, does_then}
use Rattle.rom_name.proofs.Guarding.{guarded_run, only_written}
use Rattle.rom_name.proofs.writing.write_guarded.Goals as goal

pub returns-in_err-write_words-clause-does : goal.returns-in_err-write_words-clause-does
returns-in_err-write_words-clause-does g c =
    does_by g.D.Device.shown _ _ (λ x y many. only_written c.args.at c.args.values.now c.args.place c.args.guard c.requires.apart x y many) _ _ c.write_words.ensures.does

pub returns-in_err-sync-clause-does : goal.returns-in_err-sync-clause-does
returns-in_err-sync-clause-does g c =
    does_by g.D.Device.shown _ _ (λ x y many. only_written c.args.at c.args.values.now c.args.place c.args.guard c.requires.apart x y many) _ _
    (does_then g.D.Device.shown _ _ _ _ c.write_words.ensures.does c.sync.ensures.does)

pub returns-in_err-write-clause-does : goal.returns-in_err-write-clause-does
returns-in_err-write-clause-does g c =
    guarded_run g.D.Device.shown c.args.at c.args.values.now c.args.place c.args.guard c.requires.apart _ _ _ _
    g.met.D.Device.tells_both g.met.D.Device.doubts_told (g.met.D.Device.words_fit c.sync.new.self)
    (omega (arith, c.requires.inside, c.write_words.ensures.does.size, c.sync.ensures.does.size))
    c.write_words.ensures.does c.sync.ensures.does c.in_ok-write_words.ensures.written
    c.in_ok-sync.ensures.certain c.in_ok-sync.ensures.settles c.in_ok-write_words.ensures.renews c.write.ensures.does

pub returns-clause-does : goal.returns-clause-does
returns-clause-does g c =
    does_then g.D.Device.shown _ _ _ _
    (guarded_run g.D.Device.shown c.args.at c.args.values.now c.args.place c.args.guard c.requires.apart _ _ _ _
    g.met.D.Device.tells_both g.met.D.Device.doubts_told (g.met.D.Device.words_fit c.sync.new.self)
    (omega (arith, c.requires.inside, c.write_words.ensures.does.size, c.sync.ensures.does.size))
    c.write_words.ensures.does c.sync.ensures.does c.in_ok-write_words.ensures.written
    c.in_ok-sync.ensures.certain c.in_ok-sync.ensures.settles c.in_ok-write_words.ensures.renews c.write.ensures.does)
    c.sync-2.ensures.does
