use Rattle.std.proofs.Common.{rules, ◌∙◌, ap, sym, subst, arith}
use Rattle.rom_model.specs.Blocks.{region_len}
use Rattle.rom_device.specs.Device.{Becomes, Does, Runs}
use Rattle.rom_header.specs.Layout.{back_at}
use Rattle.rom_twin.specs.Images.{HasMain}
use Rattle.rom_ranges.specs.Changes.{SameBut}
use Rattle.rom_twin.specs.Ranges.{WritesRanges}
use Rattle.rom_twin.specs.Seen.{committed, main_now}
use Rattle.rom_twin.proofs.Calls.{copy_since, copy_kept, copy_failed, copy_done}
use Rattle.rom_twin.proofs.twin.Twin.copy.Goals as goal

pub invariant_of-self : goal.invariant_of-self
invariant_of-self g c = record {
  fits = omega (arith, c.self.invariant.fits, c.put_ranges.ensures.puts.does.size);
  images = λ told. copy_failed g.D.Device.shown g.met.D.Device.reads_image g.met.D.Device.tells_both told _ (c.self.invariant.images told) c.put_ranges.new.device (ap (λ s. s.phase) c.self.view_is ∙ c.requires.phase) c.args.ranges.now (g.M.Look.shown.image c.args.image.now) c.back.result c.back.ensures (c.requires.image ∙ ap (λ s. region_len s.order) (sym c.self.view_is)) (ap (main_now g.D.Device.shown) c.self.view_is ∙ c.requires.main told) c.put_ranges.ensures.puts.does;
}

pub invariant_of-self-2 : goal.invariant_of-self-2
invariant_of-self-2 g c = record {
  fits = omega (arith, c.self.invariant.fits, c.put_ranges.ensures.puts.does.size);
  images = λ told. copy_done g.D.Device.shown g.met.D.Device.reads_image g.met.D.Device.tells_both told _ (c.self.invariant.images told) c.put_ranges.new.device (ap (λ s. s.phase) c.self.view_is ∙ c.requires.phase) c.args.ranges.now (g.M.Look.shown.image c.args.image.now) c.back.result c.back.ensures (c.requires.image ∙ ap (λ s. region_len s.order) (sym c.self.view_is)) (ap (main_now g.D.Device.shown) c.self.view_is ∙ c.requires.main told) c.put_ranges.ensures.puts.does
      (subst (λ s. SameBut c.args.ranges.now (committed g.D.Device.shown s) (g.M.Look.shown.image c.args.image.now)) (sym c.self.view_is) (c.requires.but told)) (c.in_ok-put_ranges.ensures.written (g.met.D.Device.tells_both told)) c.in_ok-put_ranges.ensures.certain;
}

pub returns-in_err-put_ranges-clause-since : goal.returns-in_err-put_ranges-clause-since
returns-in_err-put_ranges-clause-since g c told =
    subst (λ s. Runs g.D.Device.shown (Becomes (HasMain s.order (g.M.Look.shown.image c.args.image.now))) s.device c.put_ranges.new.device) c.self.view_is
    (copy_since g.D.Device.shown g.met.D.Device.reads_image g.met.D.Device.tells_both told _ (c.self.invariant.images told) c.put_ranges.new.device (ap (λ s. s.phase) c.self.view_is ∙ c.requires.phase) c.args.ranges.now (g.M.Look.shown.image c.args.image.now) c.back.result c.back.ensures (c.requires.image ∙ ap (λ s. region_len s.order) (sym c.self.view_is)) (ap (main_now g.D.Device.shown) c.self.view_is ∙ c.requires.main told) c.put_ranges.ensures.puts.does)

pub returns-in_err-put_ranges-clause-kept : goal.returns-in_err-put_ranges-clause-kept
returns-in_err-put_ranges-clause-kept g c = record {
  order = search rules;
  size = search rules;
  committed_is = λ told. copy_kept g.D.Device.shown g.met.D.Device.reads_image g.met.D.Device.tells_both told _ (c.self.invariant.images told) c.put_ranges.new.device (ap (λ s. s.phase) c.self.view_is ∙ c.requires.phase) c.args.ranges.now (g.M.Look.shown.image c.args.image.now) c.back.result c.back.ensures (c.requires.image ∙ ap (λ s. region_len s.order) (sym c.self.view_is)) (ap (main_now g.D.Device.shown) c.self.view_is ∙ c.requires.main told) c.put_ranges.ensures.puts.does;
  images = λ told. copy_failed g.D.Device.shown g.met.D.Device.reads_image g.met.D.Device.tells_both told _ (c.self.invariant.images told) c.put_ranges.new.device (ap (λ s. s.phase) c.self.view_is ∙ c.requires.phase) c.args.ranges.now (g.M.Look.shown.image c.args.image.now) c.back.result c.back.ensures (c.requires.image ∙ ap (λ s. region_len s.order) (sym c.self.view_is)) (ap (main_now g.D.Device.shown) c.self.view_is ∙ c.requires.main told) c.put_ranges.ensures.puts.does;
}

pub returns-in_err-put_ranges-clause-puts : goal.returns-in_err-put_ranges-clause-puts
returns-in_err-put_ranges-clause-puts g c = record {
  looks = search rules;
  does = subst (λ s. Does g.D.Device.shown (WritesRanges c.args.ranges.now (back_at s.order) (g.M.Look.shown.image c.args.image.now)) s.device c.put_ranges.new.device) c.self.view_is
      (subst (λ k. Does g.D.Device.shown (WritesRanges c.args.ranges.now k (g.M.Look.shown.image c.args.image.now)) c.self.inside.device c.put_ranges.new.device) c.back.ensures c.put_ranges.ensures.puts.does);
  makes = search rules;
}

pub returns-clause-since : goal.returns-clause-since
returns-clause-since g c told =
    subst (λ s. Runs g.D.Device.shown (Becomes (HasMain s.order (g.M.Look.shown.image c.args.image.now))) s.device c.put_ranges.new.device) c.self.view_is
    (copy_since g.D.Device.shown g.met.D.Device.reads_image g.met.D.Device.tells_both told _ (c.self.invariant.images told) c.put_ranges.new.device (ap (λ s. s.phase) c.self.view_is ∙ c.requires.phase) c.args.ranges.now (g.M.Look.shown.image c.args.image.now) c.back.result c.back.ensures (c.requires.image ∙ ap (λ s. region_len s.order) (sym c.self.view_is)) (ap (main_now g.D.Device.shown) c.self.view_is ∙ c.requires.main told) c.put_ranges.ensures.puts.does)

pub returns-clause-kept : goal.returns-clause-kept
returns-clause-kept g c = record {
  order = search rules;
  size = search rules;
  committed_is = λ told. copy_kept g.D.Device.shown g.met.D.Device.reads_image g.met.D.Device.tells_both told _ (c.self.invariant.images told) c.put_ranges.new.device (ap (λ s. s.phase) c.self.view_is ∙ c.requires.phase) c.args.ranges.now (g.M.Look.shown.image c.args.image.now) c.back.result c.back.ensures (c.requires.image ∙ ap (λ s. region_len s.order) (sym c.self.view_is)) (ap (main_now g.D.Device.shown) c.self.view_is ∙ c.requires.main told) c.put_ranges.ensures.puts.does;
  images = λ told. copy_done g.D.Device.shown g.met.D.Device.reads_image g.met.D.Device.tells_both told _ (c.self.invariant.images told) c.put_ranges.new.device (ap (λ s. s.phase) c.self.view_is ∙ c.requires.phase) c.args.ranges.now (g.M.Look.shown.image c.args.image.now) c.back.result c.back.ensures (c.requires.image ∙ ap (λ s. region_len s.order) (sym c.self.view_is)) (ap (main_now g.D.Device.shown) c.self.view_is ∙ c.requires.main told) c.put_ranges.ensures.puts.does
      (subst (λ s. SameBut c.args.ranges.now (committed g.D.Device.shown s) (g.M.Look.shown.image c.args.image.now)) (sym c.self.view_is) (c.requires.but told)) (c.in_ok-put_ranges.ensures.written (g.met.D.Device.tells_both told)) c.in_ok-put_ranges.ensures.certain;
}

pub returns-clause-puts : goal.returns-clause-puts
returns-clause-puts g c = record {
  looks = search rules;
  does = subst (λ s. Does g.D.Device.shown (WritesRanges c.args.ranges.now (back_at s.order) (g.M.Look.shown.image c.args.image.now)) s.device c.put_ranges.new.device) c.self.view_is
      (subst (λ k. Does g.D.Device.shown (WritesRanges c.args.ranges.now k (g.M.Look.shown.image c.args.image.now)) c.self.inside.device c.put_ranges.new.device) c.back.ensures c.put_ranges.ensures.puts.does);
  makes = search rules;
}
