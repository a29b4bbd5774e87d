use Rattle.std.proofs.Common.{ℕ, List, rules, refl, subst, sym}
use Rattle.rom_device.specs.Device.{WritesMany, WritesUpTo}
use Rattle.rom_device.specs.Run.{with_run}
use Rattle.rom_device.proofs.OnMedium.{device_does}
use Rattle.rom_device.proofs.cached_device.CachedDeviceDevice.write_words.Goals as goal

pub returns-then-kept-values-clause-failed : goal.returns-then-kept-values-clause-failed
returns-then-kept-values-clause-failed g c =
    let old : List ℕ = with_run c.args.self.now.words.pending (g.M.Medium.shown.words c.args.self.now.words.medium) in
    record {
      k = c.keep_words-kept.result;
      within = c.if-kept-values.true;
      writes_made = search rules;
      words = λ told. subst (λ w. WritesUpTo c.args.at c.keep_words-kept.result c.args.values.now old (with_run w.pending (g.M.Medium.shown.words w.medium))) (sym c.fault.ensures.words) (c.keep_words-kept.ensures.failed_at told c.if-kept-values.true);
    }

pub returns-then-kept-values-clause-does : goal.returns-then-kept-values-clause-does
returns-then-kept-values-clause-does g c =
    device_does g.M.Medium.lasting g.M.Medium.shown (WritesMany c.args.at c.args.values.now) c.args.self.now c.fault.new.self c.keep_words-kept.new.self c.fault.ensures.words c.keep_words-kept.ensures.does

pub returns-clause-does : goal.returns-clause-does
returns-clause-does g c = device_does g.M.Medium.lasting g.M.Medium.shown (WritesMany c.args.at c.args.values.now) c.args.self.now _ c.keep_words-kept.new.self refl c.keep_words-kept.ensures.does
