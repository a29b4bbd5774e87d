use Rattle.std.proofs.Common.{◌≡◌, ◌*◌, ◌+◌, ℕ, List, rules, arith, subst, sym}
use Rattle.std.specs.Prelude.{Result, Err}
use Rattle.rom_model.specs.Blocks.{region_len}
use Rattle.rom_model.specs.Faults.{AtMost}
use Rattle.rom_header.specs.Layout.{MAIN}
use Rattle.rom_recover.specs.Calls.{reads_until}
use Rattle.rom_recover.specs.Image.{IsReadFrom}
use Rattle.rom_recover.specs.declared.recovery.RecoverRefused.{RecoverRefused}
use Rattle.rom_recover.proofs.Keeping.{keeps_on}
use Rattle.rom_recover.proofs.Pieces.{reads_on}
use Rattle.rom_recover.proofs.comparison.compare.Goals as goal

pub returns-in_err-compare_piece-clause-compares : goal.returns-in_err-compare_piece-clause-compares
returns-in_err-compare_piece-clause-compares g c =
    let len = region_len c.args.geometry in
    let refused : c.from_residual.result ≡ Err c.in_err-compare_piece.field-0.0 = search rules in
    record {
      only = search rules;
      reads_made = search rules;
      most_reads = subst (λ (r : Result (Unit {0}) RecoverRefused). AtMost (reads_until {T = Unit {0}} (2 * len) r) (g.D.Device.shown.reads c.args.device.now) (g.D.Device.shown.reads c.compare_piece.new.device)) (sym refused)
          (reads_on c.loop-from.from c.min-count.result len _ _ _ _ (omega arith) (omega arith) c.in_err-compare_piece.ensures.stands c.loop-from.invariant.reads_made c.in_err-compare_piece.ensures.compares.most_reads);
      faults = search rules;
    }

pub loop-from-preserved : goal.loop-from-preserved
loop-from-preserved g c =
    record {
      within = search rules;
      as_long = search rules;
      kept = λ told. keeps_on MAIN c.loop-from.from c.min-count.result _ _ _ _ c.in_ok-compare_piece.ensures.filled
          (subst (λ (words : List ℕ). IsReadFrom (MAIN + c.loop-from.from) c.min-count.result words c.compare_piece.new.pieces.main) (c.loop-from.invariant.only.words told) (c.in_ok-compare_piece.ensures.main told))
          (c.loop-from.invariant.kept told) c.keep.ensures;
      same = search rules;
      only = search rules;
      reads_made = search rules;
      faults = search rules;
    }
