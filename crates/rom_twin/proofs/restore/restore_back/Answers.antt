use Rattle.std.proofs.Common.{arith, rules, ℕ, List, sym, subst}
use Rattle.rom_model.specs.Blocks.{region_len}
use Rattle.rom_model.proofs.Looks.{looks_most}
use Rattle.rom_header.specs.Layout.{back_at}
use Rattle.rom_header.specs.declared.header.State.TheVariants.{Copying}
use Rattle.rom_twin.specs.Images.{HasMain, Twins}
use Rattle.rom_twin.proofs.Since.{both_ok, since_by}
use Rattle.rom_twin.proofs.Written.{whole_but}
use Rattle.rom_twin.proofs.Phases.{copying, copied, stands_twins}
use Rattle.rom_twin.proofs.Repairs.{does_region}
use Rattle.rom_twin.proofs.restore.restore_back.Goals as goal

pub returns : goal.returns
returns g c =
    let shown = g.D.Device.shown in
    let n = c.args.geometry in
    let x = shown.words c.args.device.now in
    let y = shown.words c.put_ranges.new.device in
    let m : List ℕ = g.M.Look.shown.image c.args.image.now in
    record {
      restores = record {
        looks = looks_most g.M.Look.shown _ (region_len n) (omega (arith, c.whole.ensures.start, c.whole.ensures.end)) c.put_ranges.ensures.puts.looks;
        now = λ told all. both_ok c.put_ranges.result
            (λ certain whole i left. subst (λ (l : List ℕ). Twins n m l) (sym (certain told i left)) (stands_twins n Copying m y (copied n c.back.result m m x y c.back.ensures c.requires.image (all x (g.met.D.Device.reads_image c.args.device.now told)) (c.put_ranges.ensures.puts.does.words (g.met.D.Device.tells_both told)).only whole)))
            c.put_ranges.ensures.certain (c.put_ranges.ensures.written (g.met.D.Device.tells_both told) (whole_but c.back.result (region_len n) _ m x c.requires.image c.whole.ensures.start c.whole.ensures.end));
        since = λ told all. since_by shown _ (HasMain n m) c.args.device.now c.put_ranges.new.device (HasMain n m) (c.put_ranges.ensures.puts.does.images told) all
            (λ x y was by. copying n c.back.result _ _ x y c.back.ensures c.requires.image was by.only);
        does = does_region shown (back_at n) (region_len n) _ _ _ c.back.ensures c.requires.image _ _ c.put_ranges.ensures.puts.does;
        makes = search rules;
      };
    }
