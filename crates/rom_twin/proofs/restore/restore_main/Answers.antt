use Rattle.std.proofs.Common.{rules, inl, inr, ⊎_elim, ℕ, List, sym, subst, arith}
use Rattle.rom_device.specs.Device.{WritesWord}
use Rattle.rom_model.specs.Blocks.{region_len}
use Rattle.rom_model.proofs.Looks.{looks_most}
use Rattle.rom_header.specs.Headers.{state_word}
use Rattle.rom_header.specs.Layout.{MAIN, STATE}
use Rattle.rom_header.specs.declared.header.State.TheVariants.{Mutating}
use Rattle.rom_twin.specs.Images.{HasBack, Twins}
use Rattle.rom_twin.proofs.Since.{both_ok, since_but, since_by, becomes_then}
use Rattle.rom_twin.proofs.Written.{whole_but}
use Rattle.rom_twin.proofs.Phases.{undoing, back_set, persisting, persisted, stands_twins}
use Rattle.rom_twin.proofs.Repairs.{does_state, does_region, does_both}
use Rattle.rom_twin.proofs.restore.restore_main.Goals as goal

pub returns-in_err-set_state : goal.returns-in_err-set_state
returns-in_err-set_state g c =
    let shown = g.D.Device.shown in
    let n = c.args.geometry in
    let m : List ℕ = g.M.Look.shown.image c.args.image.now in
    record {
      restores = record {
        looks = search rules;
        now = search rules;
        since = λ told all. since_but shown (WritesWord STATE (state_word Mutating)) (HasBack n m) c.args.device.now c.set_state.new.device (c.set_state.ensures.does.images told)
            (λ x y was by. ⊎_elim (λ same. inl (subst (λ l. shown.leaves c.args.device.now l) (sym same) was)) (λ set. inr set) (undoing n m x y (all x was) by));
        does = does_state shown MAIN (region_len n) _ (omega arith) _ _ c.set_state.ensures.does;
        makes = search rules;
      };
    }

pub returns : goal.returns
returns g c =
    let shown = g.D.Device.shown in
    let n = c.args.geometry in
    let m : List ℕ = g.M.Look.shown.image c.args.image.now in
    let x = shown.words c.args.device.now in
    let y = shown.words c.set_state.new.device in
    let z = shown.words c.put_ranges.new.device in
    record {
      restores = record {
        looks = looks_most g.M.Look.shown _ (region_len n) (omega (arith, c.whole.ensures.start, c.whole.ensures.end)) c.put_ranges.ensures.puts.looks;
        now = λ told all.
            let words = g.met.D.Device.tells_both told in
            let marked : HasBack n m y = subst (λ (l : List ℕ). HasBack n m l) (sym (c.in_ok-set_state.ensures.written words)) (back_set n m x (all x (g.met.D.Device.reads_image c.args.device.now told))) in
            both_ok c.put_ranges.result
            (λ certain whole i left. subst (λ (l : List ℕ). Twins n m l) (sym (certain told i left)) (stands_twins n Mutating m z (persisted n c.main.result m m y z c.main.ensures c.requires.image marked (c.put_ranges.ensures.puts.does.words words).only whole)))
            c.put_ranges.ensures.certain (c.put_ranges.ensures.written words (whole_but c.main.result (region_len n) _ m _ c.requires.image c.whole.ensures.start c.whole.ensures.end));
        since = λ told all.
            let words = g.met.D.Device.tells_both told in
            let first = since_but shown (WritesWord STATE (state_word Mutating)) (HasBack n m) c.args.device.now c.set_state.new.device (c.set_state.ensures.does.images told)
            (λ x y was by. ⊎_elim (λ same. inl (subst (λ l. shown.leaves c.args.device.now l) (sym same) was)) (λ set. inr set) (undoing n m x y (all x was) by)) in
            let marked : HasBack n m y = subst (λ (l : List ℕ). HasBack n m l) (sym (c.in_ok-set_state.ensures.written words)) (back_set n m x (all x (g.met.D.Device.reads_image c.args.device.now told))) in
            becomes_then shown (HasBack n m) c.args.device.now c.set_state.new.device c.put_ranges.new.device first
            (since_by shown _ (HasBack n m) c.set_state.new.device c.put_ranges.new.device (HasBack n m) (c.put_ranges.ensures.puts.does.images told)
            (λ y was. subst (λ (l : List ℕ). HasBack n m l) (sym (c.in_ok-set_state.ensures.certain told y was)) marked)
            (λ y z was by. persisting n c.main.result _ m y z c.main.ensures c.requires.image was by.only));
        does = does_both shown MAIN (region_len n) _ _ _ (does_state shown MAIN (region_len n) _ (omega arith) _ _ c.set_state.ensures.does)
            (does_region shown MAIN (region_len n) _ _ _ c.main.ensures c.requires.image _ _ c.put_ranges.ensures.puts.does);
        makes = search rules;
      };
    }
