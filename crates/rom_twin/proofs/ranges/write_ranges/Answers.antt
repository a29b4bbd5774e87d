use Rattle.std.proofs.Common.{rules, ◌≡◌, ℕ, ◌+◌, List, ◌∷◌, length, get_or, drop, arith, subst}
use Rattle.std.proofs.lemmas.List.{drop_more}
use Rattle.rom_model.proofs.Looks.{looks_then}
use Rattle.rom_ranges.specs.Ranges.{AreWithin, held_count}
use Rattle.rom_ranges.specs.declared.range.Range.{Range}
use Rattle.rom_twin.specs.Ranges.{IsBut}
use Rattle.rom_twin.proofs.Written.{but_step, held_more, ranges_on}
use Rattle.rom_twin.proofs.ranges.write_ranges.Goals as goal

pub returns-in_err-write_range-clause-looks : goal.returns-in_err-write_range-clause-looks
returns-in_err-write_range-clause-looks g c =
    let more = held_more c.loop-range.range-index c.args.ranges.now (omega arith) in
    looks_then (held_count c.args.ranges.now) (omega (arith, more.0, more.1)) c.loop-range.invariant.looks c.write_range.ensures.looks

pub returns-in_err-write_range-clause-makes : goal.returns-in_err-write_range-clause-makes
returns-in_err-write_range-clause-makes g c =
    let more = held_more c.loop-range.range-index c.args.ranges.now (omega arith) in
    record {
      reads_made = search rules;
      writes_made = search rules;
      syncs_made = search rules;
      most_reads = search rules;
      most_writes = record {
        later = omega (arith, c.write_range.ensures.makes.most_writes.later, c.loop-range.invariant.writes_made);
        most = omega (arith, c.write_range.ensures.makes.most_writes.most, c.loop-range.invariant.writes_made, more.0, more.1);
      };
      most_syncs = search rules;
      cause = search rules;
    }

pub returns-in_err-write_range-clause-does : goal.returns-in_err-write_range-clause-does
returns-in_err-write_range-clause-does g c =
    let i = c.loop-range.range-index in
    let rs = c.args.ranges.now in
    let r : Range = get_or rs i record { start = 0; end = 0 } in
    let base : ℕ = c.args.base in
    let m : List ℕ = g.M.Look.shown.image c.args.image.now in
    let len : ℕ = length m in
    let split : drop i rs ≡ r ∷ drop (i + 1) rs = drop_more rs i record { start = 0; end = 0 } (omega arith) in
    let fits : AreWithin len (r ∷ drop (i + 1) rs) = subst (λ (l : List Range). AreWithin len l) split c.loop-range.invariant.within in
    ranges_on g.D.Device.shown base m _ c.loop-range.invariant.looks.image c.args.device.now c.loop-range.device c.write_range.new.device rs i (omega arith) fits.0 c.loop-range.invariant.does c.write_range.ensures.does

pub loop-range-preserved : goal.loop-range-preserved
loop-range-preserved g c =
    let i = c.loop-range.range-index in
    let rs = c.args.ranges.now in
    let r : Range = get_or rs i record { start = 0; end = 0 } in
    let base : ℕ = c.args.base in
    let m : List ℕ = g.M.Look.shown.image c.args.image.now in
    let len : ℕ = length m in
    let mid : List ℕ = g.D.Device.shown.words c.loop-range.device in
    let new : List ℕ = g.D.Device.shown.words c.write_range.new.device in
    let split : drop i rs ≡ r ∷ drop (i + 1) rs = drop_more rs i record { start = 0; end = 0 } (omega arith) in
    let fits : AreWithin len (r ∷ drop (i + 1) rs) = subst (λ (l : List Range). AreWithin len l) split c.loop-range.invariant.within in
    let more = held_more i rs (omega arith) in
    let image_is = c.loop-range.invariant.looks.image in
    record {
      within = fits.1;
      looks = looks_then _ (omega (arith, more.0)) c.loop-range.invariant.looks c.write_range.ensures.looks;
      written = λ tells but. let so_far = subst (λ (l : List Range). IsBut l base m mid) split (c.loop-range.invariant.written tells but) in
          but_step r (drop (i + 1) rs) base m mid new so_far (c.write_range.ensures.does.words tells).only (rw image_is at (c.in_ok-write_range.ensures.written tells));
      does = ranges_on g.D.Device.shown base m _ c.loop-range.invariant.looks.image c.args.device.now c.loop-range.device c.write_range.new.device rs i (omega arith) fits.0 c.loop-range.invariant.does c.write_range.ensures.does;
      reads = search rules;
      writes_made = omega (arith, c.in_ok-write_range.ensures.makes.writes_made, c.loop-range.invariant.writes_made, more.0);
      syncs = search rules;
      faults = search rules;
    }
