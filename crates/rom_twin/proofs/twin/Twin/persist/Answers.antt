use Rattle.std.proofs.Common.{rules, ◌∙◌, ap, sym, subst, arith}
use Rattle.rom_model.specs.Blocks.{region_len}
use Rattle.rom_device.specs.Device.{Becomes, Does, Runs}
use Rattle.rom_header.specs.Layout.{MAIN}
use Rattle.rom_twin.specs.Images.{HasBack}
use Rattle.rom_ranges.specs.Changes.{SameBut}
use Rattle.rom_twin.specs.Ranges.{WritesRanges}
use Rattle.rom_twin.specs.Seen.{committed, main_now}
use Rattle.rom_twin.proofs.Calls.{persist_since, persist_kept, persist_failed, persist_done, persist_main}
use Rattle.rom_twin.proofs.twin.Twin.persist.Goals as goal

pub invariant_of-self : goal.invariant_of-self
invariant_of-self g c = record {
  fits = omega (arith, c.self.invariant.fits, c.put_ranges.ensures.puts.does.size);
  images = λ told. persist_failed g.D.Device.shown g.met.D.Device.reads_image g.met.D.Device.tells_both told _ (c.self.invariant.images told) c.put_ranges.new.device (ap (λ s. s.phase) c.self.view_is ∙ c.requires.phase) c.args.ranges.now (g.M.Look.shown.image c.args.image.now) c.main.result c.main.ensures (c.requires.image ∙ ap (λ s. region_len s.order) (sym c.self.view_is)) c.put_ranges.ensures.puts.does;
}

pub invariant_of-self-2 : goal.invariant_of-self-2
invariant_of-self-2 g c = record {
  fits = omega (arith, c.self.invariant.fits, c.put_ranges.ensures.puts.does.size);
  images = λ told. persist_done g.D.Device.shown g.met.D.Device.reads_image g.met.D.Device.tells_both told _ (c.self.invariant.images told) c.put_ranges.new.device (ap (λ s. s.phase) c.self.view_is ∙ c.requires.phase) c.args.ranges.now (g.M.Look.shown.image c.args.image.now) c.main.result c.main.ensures (c.requires.image ∙ ap (λ s. region_len s.order) (sym c.self.view_is)) c.put_ranges.ensures.puts.does
      (subst (λ s. SameBut c.args.ranges.now (main_now g.D.Device.shown s) (g.M.Look.shown.image c.args.image.now)) (sym c.self.view_is) (c.requires.but told)) (c.in_ok-put_ranges.ensures.written (g.met.D.Device.tells_both told)) c.in_ok-put_ranges.ensures.certain;
}

pub returns-in_err-put_ranges-clause-since : goal.returns-in_err-put_ranges-clause-since
returns-in_err-put_ranges-clause-since g c told =
    subst (λ s. Runs g.D.Device.shown (Becomes (HasBack s.order (committed g.D.Device.shown s))) s.device c.put_ranges.new.device) c.self.view_is
    (persist_since g.D.Device.shown g.met.D.Device.reads_image g.met.D.Device.tells_both told _ (c.self.invariant.images told) c.put_ranges.new.device (ap (λ s. s.phase) c.self.view_is ∙ c.requires.phase) c.args.ranges.now (g.M.Look.shown.image c.args.image.now) c.main.result c.main.ensures (c.requires.image ∙ ap (λ s. region_len s.order) (sym c.self.view_is)) c.put_ranges.ensures.puts.does)

pub returns-in_err-put_ranges-clause-kept : goal.returns-in_err-put_ranges-clause-kept
returns-in_err-put_ranges-clause-kept g c = record {
  order = search rules;
  size = search rules;
  committed_is = λ told. persist_kept g.D.Device.shown g.met.D.Device.reads_image g.met.D.Device.tells_both told _ (c.self.invariant.images told) c.put_ranges.new.device (ap (λ s. s.phase) c.self.view_is ∙ c.requires.phase) c.args.ranges.now (g.M.Look.shown.image c.args.image.now) c.main.result c.main.ensures (c.requires.image ∙ ap (λ s. region_len s.order) (sym c.self.view_is)) c.put_ranges.ensures.puts.does ∙ ap (committed g.D.Device.shown) c.self.view_is;
  images = λ told. persist_failed g.D.Device.shown g.met.D.Device.reads_image g.met.D.Device.tells_both told _ (c.self.invariant.images told) c.put_ranges.new.device (ap (λ s. s.phase) c.self.view_is ∙ c.requires.phase) c.args.ranges.now (g.M.Look.shown.image c.args.image.now) c.main.result c.main.ensures (c.requires.image ∙ ap (λ s. region_len s.order) (sym c.self.view_is)) c.put_ranges.ensures.puts.does;
}

pub returns-in_err-put_ranges-clause-puts : goal.returns-in_err-put_ranges-clause-puts
returns-in_err-put_ranges-clause-puts g c = record {
  looks = search rules;
  does = subst (λ s. Does g.D.Device.shown (WritesRanges c.args.ranges.now MAIN (g.M.Look.shown.image c.args.image.now)) s.device c.put_ranges.new.device) c.self.view_is
      (subst (λ k. Does g.D.Device.shown (WritesRanges c.args.ranges.now k (g.M.Look.shown.image c.args.image.now)) c.self.inside.device c.put_ranges.new.device) c.main.ensures c.put_ranges.ensures.puts.does);
  makes = search rules;
}

pub returns-clause-since : goal.returns-clause-since
returns-clause-since g c told =
    subst (λ s. Runs g.D.Device.shown (Becomes (HasBack s.order (committed g.D.Device.shown s))) s.device c.put_ranges.new.device) c.self.view_is
    (persist_since g.D.Device.shown g.met.D.Device.reads_image g.met.D.Device.tells_both told _ (c.self.invariant.images told) c.put_ranges.new.device (ap (λ s. s.phase) c.self.view_is ∙ c.requires.phase) c.args.ranges.now (g.M.Look.shown.image c.args.image.now) c.main.result c.main.ensures (c.requires.image ∙ ap (λ s. region_len s.order) (sym c.self.view_is)) c.put_ranges.ensures.puts.does)

pub returns-clause-kept : goal.returns-clause-kept
returns-clause-kept g c = record {
  order = search rules;
  size = search rules;
  committed_is = λ told. persist_kept g.D.Device.shown g.met.D.Device.reads_image g.met.D.Device.tells_both told _ (c.self.invariant.images told) c.put_ranges.new.device (ap (λ s. s.phase) c.self.view_is ∙ c.requires.phase) c.args.ranges.now (g.M.Look.shown.image c.args.image.now) c.main.result c.main.ensures (c.requires.image ∙ ap (λ s. region_len s.order) (sym c.self.view_is)) c.put_ranges.ensures.puts.does ∙ ap (committed g.D.Device.shown) c.self.view_is;
  images = λ told. persist_done g.D.Device.shown g.met.D.Device.reads_image g.met.D.Device.tells_both told _ (c.self.invariant.images told) c.put_ranges.new.device (ap (λ s. s.phase) c.self.view_is ∙ c.requires.phase) c.args.ranges.now (g.M.Look.shown.image c.args.image.now) c.main.result c.main.ensures (c.requires.image ∙ ap (λ s. region_len s.order) (sym c.self.view_is)) c.put_ranges.ensures.puts.does
      (subst (λ s. SameBut c.args.ranges.now (main_now g.D.Device.shown s) (g.M.Look.shown.image c.args.image.now)) (sym c.self.view_is) (c.requires.but told)) (c.in_ok-put_ranges.ensures.written (g.met.D.Device.tells_both told)) c.in_ok-put_ranges.ensures.certain;
}

pub returns-clause-puts : goal.returns-clause-puts
returns-clause-puts g c = record {
  looks = search rules;
  does = subst (λ s. Does g.D.Device.shown (WritesRanges c.args.ranges.now MAIN (g.M.Look.shown.image c.args.image.now)) s.device c.put_ranges.new.device) c.self.view_is
      (subst (λ k. Does g.D.Device.shown (WritesRanges c.args.ranges.now k (g.M.Look.shown.image c.args.image.now)) c.self.inside.device c.put_ranges.new.device) c.main.ensures c.put_ranges.ensures.puts.does);
  makes = search rules;
}

pub returns-clause-main : goal.returns-clause-main
returns-clause-main g c told =
    persist_main g.D.Device.shown g.met.D.Device.reads_image g.met.D.Device.tells_both told _ (c.self.invariant.images told) c.put_ranges.new.device (ap (λ s. s.phase) c.self.view_is ∙ c.requires.phase) c.args.ranges.now (g.M.Look.shown.image c.args.image.now) c.main.result c.main.ensures (c.requires.image ∙ ap (λ s. region_len s.order) (sym c.self.view_is)) c.put_ranges.ensures.puts.does
    (subst (λ s. SameBut c.args.ranges.now (main_now g.D.Device.shown s) (g.M.Look.shown.image c.args.image.now)) (sym c.self.view_is) (c.requires.but told)) (c.in_ok-put_ranges.ensures.written (g.met.D.Device.tells_both told))
