use Rattle.std.proofs.Common.{rules, ℕ, ◌+◌, ◌-◌, ◌≤◌, List, arith}
use Rattle.rom_model.proofs.Looks.{looks_then}
use Rattle.rom_twin.proofs.Written.{part_on, written_on}
use Rattle.rom_twin.proofs.ranges.write_range.Goals as goal

pub returns-in_err-write_piece-clause-does : goal.returns-in_err-write_piece-clause-does
returns-in_err-write_piece-clause-does g c =
    let base : ℕ = c.args.base in
    let start : ℕ = c.args.range.start in
    let len : ℕ = c.args.range.end - start in
    let at : ℕ = c.loop-at.at in
    let count : ℕ = c.min-count.result in
    let most : at + count ≤ c.args.range.end = search rules in
    let m : List ℕ = g.M.Look.shown.image c.args.image.now in
    let high : at + count ≤ start + len = omega (arith, most, c.loop-at.invariant.least) in
    let image_is = c.loop-at.invariant.looks.image in
    part_on g.D.Device.shown base m _ image_is c.args.device.now c.loop-at.device c.write_piece.new.device start len at count c.loop-at.invariant.least high c.loop-at.invariant.does c.write_piece.ensures.does

pub loop-at-preserved : goal.loop-at-preserved
loop-at-preserved g c =
    let base : ℕ = c.args.base in
    let start : ℕ = c.args.range.start in
    let len : ℕ = c.args.range.end - start in
    let at : ℕ = c.loop-at.at in
    let count : ℕ = c.min-count.result in
    let most : at + count ≤ c.args.range.end = search rules in
    let m : List ℕ = g.M.Look.shown.image c.args.image.now in
    let high : at + count ≤ start + len = omega (arith, most, c.loop-at.invariant.least) in
    let image_is = c.loop-at.invariant.looks.image in
    record {
      least = search rules;
      most = omega (arith, most, c.loop-at.invariant.least);
      looks = looks_then (at + count - start) (omega (arith, c.loop-at.invariant.least)) c.loop-at.invariant.looks c.write_piece.ensures.looks;
      written = λ tells. written_on base start at count m _ _ (c.write_piece.ensures.does.words tells).only (c.loop-at.invariant.written tells) (rw image_is at (c.in_ok-write_piece.ensures.written tells));
      does = part_on g.D.Device.shown base m _ image_is c.args.device.now c.loop-at.device c.write_piece.new.device start len at count c.loop-at.invariant.least high c.loop-at.invariant.does c.write_piece.ensures.does;
      reads = search rules;
      writes_made = search rules;
      syncs = search rules;
      faults = search rules;
    }
