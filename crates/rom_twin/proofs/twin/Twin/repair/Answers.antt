use Rattle.std.proofs.Common.{rules, ◌∙◌, ap, sym, subst, arith}
use Rattle.rom_model.specs.Blocks.{region_len}
use Rattle.rom_device.specs.Device.{Becomes, Does, Runs}
use Rattle.rom_header.specs.Writing.{StateOrWithin}
use Rattle.rom_twin.specs.Calls.{rewritten_at}
use Rattle.rom_twin.specs.Images.{Repairing}
use Rattle.rom_twin.specs.Seen.{NeedsRepair, committed}
use Rattle.rom_twin.proofs.Repairs.{does_both, does_state, repair_done, repair_failed, repair_kept, repair_midst, repair_since, repair_still, rewritten_late}
use Rattle.rom_twin.proofs.twin.Twin.repair.Goals as goal

pub invariant_of-self : goal.invariant_of-self
invariant_of-self g c = record {
  fits = omega (arith, c.self.invariant.fits, c.restore.ensures.restores.does.size);
  images = λ told. repair_failed g.D.Device.shown g.met.D.Device.reads_image told _ (c.self.invariant.images told) (subst (λ s. NeedsRepair s.phase) (sym c.self.view_is) c.requires.phase) (g.M.Look.shown.image c.args.image.now) (ap (committed g.D.Device.shown) c.self.view_is ∙ c.requires.committed told) c.restore.new.device (c.restore.ensures.restores.since told);
}

pub returns-in_err-restore-clause-kept : goal.returns-in_err-restore-clause-kept
returns-in_err-restore-clause-kept g c = record {
  order = search rules;
  size = search rules;
  committed_is = λ told. repair_still g.D.Device.shown g.met.D.Device.reads_image told _ (c.self.invariant.images told) (subst (λ s. NeedsRepair s.phase) (sym c.self.view_is) c.requires.phase) (g.M.Look.shown.image c.args.image.now) (ap (committed g.D.Device.shown) c.self.view_is ∙ c.requires.committed told) c.restore.new.device (c.restore.ensures.restores.since told) ∙ ap (committed g.D.Device.shown) c.self.view_is;
  images = λ told. repair_failed g.D.Device.shown g.met.D.Device.reads_image told _ (c.self.invariant.images told) (subst (λ s. NeedsRepair s.phase) (sym c.self.view_is) c.requires.phase) (g.M.Look.shown.image c.args.image.now) (ap (committed g.D.Device.shown) c.self.view_is ∙ c.requires.committed told) c.restore.new.device (c.restore.ensures.restores.since told);
}

pub returns-in_err-restore-clause-since : goal.returns-in_err-restore-clause-since
returns-in_err-restore-clause-since g c told =
    subst (λ s. Runs g.D.Device.shown (Becomes (Repairing s.phase s.order (committed g.D.Device.shown s))) s.device c.restore.new.device) c.self.view_is
    (repair_midst g.D.Device.shown g.met.D.Device.reads_image told _ (c.self.invariant.images told) (subst (λ s. NeedsRepair s.phase) (sym c.self.view_is) c.requires.phase) (g.M.Look.shown.image c.args.image.now) (ap (committed g.D.Device.shown) c.self.view_is ∙ c.requires.committed told) c.restore.new.device (c.restore.ensures.restores.since told))

pub returns-in_err-restore-clause-does : goal.returns-in_err-restore-clause-does
returns-in_err-restore-clause-does g c =
    subst (λ s. Does g.D.Device.shown (StateOrWithin (rewritten_at s.phase s.order) (region_len s.order)) s.device c.restore.new.device) c.self.view_is c.restore.ensures.restores.does

pub invariant_of-self-2 : goal.invariant_of-self-2
invariant_of-self-2 g c = record {
  fits = omega (arith, c.self.invariant.fits, c.restore.ensures.restores.does.size, c.write_state.ensures.does.size);
  images = λ told. repair_done g.D.Device.shown g.met.D.Device.reads_image told _ (c.self.invariant.images told) (subst (λ s. NeedsRepair s.phase) (sym c.self.view_is) c.requires.phase) (g.M.Look.shown.image c.args.image.now) (ap (committed g.D.Device.shown) c.self.view_is ∙ c.requires.committed told) c.restore.new.device (c.restore.ensures.restores.since told) (c.in_ok-restore.ensures.restores.now told) c.write_state.new.device c.write_state.ensures.does;
}

pub returns-clause-kept : goal.returns-clause-kept
returns-clause-kept g c = record {
  order = search rules;
  size = search rules;
  committed_is = λ told. repair_kept g.D.Device.shown g.met.D.Device.reads_image told _ (c.self.invariant.images told) (subst (λ s. NeedsRepair s.phase) (sym c.self.view_is) c.requires.phase) (g.M.Look.shown.image c.args.image.now) (ap (committed g.D.Device.shown) c.self.view_is ∙ c.requires.committed told) c.restore.new.device (c.restore.ensures.restores.since told) (c.in_ok-restore.ensures.restores.now told) c.write_state.new.device c.write_state.ensures.does ∙ ap (committed g.D.Device.shown) c.self.view_is;
  images = λ told. repair_done g.D.Device.shown g.met.D.Device.reads_image told _ (c.self.invariant.images told) (subst (λ s. NeedsRepair s.phase) (sym c.self.view_is) c.requires.phase) (g.M.Look.shown.image c.args.image.now) (ap (committed g.D.Device.shown) c.self.view_is ∙ c.requires.committed told) c.restore.new.device (c.restore.ensures.restores.since told) (c.in_ok-restore.ensures.restores.now told) c.write_state.new.device c.write_state.ensures.does;
}

pub returns-clause-since : goal.returns-clause-since
returns-clause-since g c told =
    subst (λ s. Runs g.D.Device.shown (Becomes (Repairing s.phase s.order (committed g.D.Device.shown s))) s.device c.write_state.new.device) c.self.view_is
    (repair_since g.D.Device.shown g.met.D.Device.reads_image told _ (c.self.invariant.images told) (subst (λ s. NeedsRepair s.phase) (sym c.self.view_is) c.requires.phase) (g.M.Look.shown.image c.args.image.now) (ap (committed g.D.Device.shown) c.self.view_is ∙ c.requires.committed told) c.restore.new.device (c.restore.ensures.restores.since told) (c.in_ok-restore.ensures.restores.now told) c.write_state.new.device c.write_state.ensures.does)

pub returns-clause-does : goal.returns-clause-does
returns-clause-does g c =
    let at = rewritten_at c.self.inside.phase c.self.inside.geometry in
    let len = region_len c.self.inside.geometry in
    subst (λ s. Does g.D.Device.shown (StateOrWithin (rewritten_at s.phase s.order) (region_len s.order)) s.device c.write_state.new.device) c.self.view_is
    (does_both g.D.Device.shown at len _ _ _ c.restore.ensures.restores.does (does_state g.D.Device.shown at len _ (rewritten_late c.self.inside.phase c.self.inside.geometry) _ _ c.write_state.ensures.does))
