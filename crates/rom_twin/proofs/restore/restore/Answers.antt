use Rattle.std.proofs.Common.{ℕ, ◌+◌, subst, sym, rules}
use Rattle.rom_device.specs.Device.{Does, Makes}
use Rattle.rom_device.proofs.Going.{becomes_by}
use Rattle.rom_header.specs.Writing.{StateOrWithin}
use Rattle.rom_model.specs.Blocks.{region_len}
use Rattle.rom_twin.specs.Calls.{repair_syncs}
use Rattle.rom_twin.specs.Images.{HasBack, Rewriting}
use Rattle.rom_twin.proofs.Repairs.{not_redo}
use Rattle.rom_twin.proofs.restore.restore.Goals as goal

pub returns-in_default : goal.returns-in_default
returns-in_default g c =
    let shown = g.D.Device.shown in
    let phase = c.args.phase in
    let n = c.args.geometry in
    let m = g.M.Look.shown.image c.args.image.now in
    let main = not_redo phase n c.in_default.not-Redo in
    record {
      restores = record {
        looks = search rules;
        now = λ told all. c.restore_main.ensures.restores.now told (λ i left. main.asks m i (all i left));
        since = λ told all. becomes_by shown (HasBack n m) (Rewriting phase n m) (main.gives m) c.args.device.now c.restore_main.new.device (c.restore_main.ensures.restores.since told (λ i left. main.asks m i (all i left)));
        does = subst (λ (k : ℕ). Does shown (StateOrWithin k (region_len n)) c.args.device.now c.restore_main.new.device) (sym main.at) c.restore_main.ensures.restores.does;
        makes = subst (λ (k : ℕ). Makes shown 0 k (repair_syncs phase) c.args.device.now c.restore_main.new.device c.restore_main.result) (sym main.writes)
            (subst (λ (k : ℕ). Makes shown 0 (region_len n + 1) k c.args.device.now c.restore_main.new.device c.restore_main.result) (sym main.syncs) c.restore_main.ensures.restores.makes);
      };
    }
