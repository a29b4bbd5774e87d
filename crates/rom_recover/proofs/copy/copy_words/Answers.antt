use Rattle.std.proofs.Common.{rules, ◌+◌, ◌≤◌}
use Rattle.rom_recover.proofs.Copying.{copied_on, does_piece, renewed_piece, source_stays}
use Rattle.rom_recover.proofs.Keeping.{keeps_from, keeps_on}
use Rattle.rom_recover.proofs.copy.copy_words.Goals as goal

pub returns-in_err-copy_piece-clause-does : goal.returns-in_err-copy_piece-clause-does
returns-in_err-copy_piece-clause-does g c =
    let fits : c.loop-done.done + c.min-count.result ≤ c.args.len = search rules in
    does_piece g.D.Device.shown g.met.D.Device.tells_both (λ doubts. (g.met.D.Device.doubts_told doubts).words) c.args.from c.args.to c.args.len c.loop-done.done c.min-count.result c.requires.apart fits _ _ _ c.loop-done.invariant.does c.copy_piece.ensures.does

pub loop-done-preserved : goal.loop-done-preserved
loop-done-preserved g c =
    let fits : c.loop-done.done + c.min-count.result ≤ c.args.len = search rules in
    record {
      within = fits;
      as_long = search rules;
      kept = λ told. keeps_on c.args.from c.loop-done.done c.min-count.result _ _ _ _ (search rules)
          (keeps_from c.args.from c.loop-done.done c.min-count.result c.args.len _ _ _ fits
          (source_stays c.args.from c.args.to c.args.len _ _ c.requires.apart (c.loop-done.invariant.does.words told).only) (c.in_ok-copy_piece.ensures.read told))
          (c.loop-done.invariant.kept told) c.keep.ensures;
      copied = λ told. copied_on c.args.from c.args.to c.args.len c.loop-done.done c.min-count.result _ _ _ c.requires.apart fits (c.loop-done.invariant.does.words told).only (c.loop-done.invariant.copied told)
          (c.copy_piece.ensures.does.words told).only (c.in_ok-copy_piece.ensures.copied told);
      does = does_piece g.D.Device.shown g.met.D.Device.tells_both (λ doubts. (g.met.D.Device.doubts_told doubts).words) c.args.from c.args.to c.args.len c.loop-done.done c.min-count.result c.requires.apart fits _ _ _ c.loop-done.invariant.does c.copy_piece.ensures.does;
      renews = renewed_piece g.D.Device.shown c.args.to c.loop-done.done c.min-count.result _ _ c.copy_piece.ensures.does.fewer c.loop-done.invariant.renews c.in_ok-copy_piece.ensures.renews;
      reads_made = search rules;
      writes_made = search rules;
      syncs = search rules;
      faults = search rules;
    }
