use Rattle.std.proofs.Common.{◌≡◌, ⊎_elim, ℕ, List, subst, sym, arith}
use Rattle.rom_model.specs.Space.{ChangesOnly}
use Rattle.rom_bucket.proofs.Sparing.{sparing_range}
use Rattle.rom_map.specs.Map.{with_entry}
use Rattle.rom_map.proofs.Replaced.{entry_long, entry_stays}
use Rattle.rom_map.proofs.shift.replace_both.Goals as goal

becomes : (w w' : List ℕ) (node value stamp : ℕ) → w' ≡ with_entry w node value stamp → ChangesOnly node 4 w w'
becomes w w' node value stamp is = subst (λ (v : List ℕ). ChangesOnly node 4 w v) (sym is) record {
  as_long = entry_long w node value stamp;
  before = λ j less. entry_stays w node value stamp j (λ e. absurd (omega (arith, e, less))) (λ e. absurd (omega (arith, e, less)));
  behind = λ j ge. entry_stays w node value stamp j (λ e. absurd (omega (arith, e, ge))) (λ e. absurd (omega (arith, e, ge)));
}

pub replace_entry-requires-2-clause-within : goal.replace_entry-requires-2-clause-within
replace_entry-requires-2-clause-within g c = omega (arith, c.requires.target, (becomes _ _ c.args.source.node c.args.source.value c.args.stamp c.replace_entry.ensures.image).as_long)

-- the two nodes stand apart
pub returns-clause-sparing : goal.returns-clause-sparing
returns-clause-sparing g c apart =
    let one = c.replace_entry.ensures in
    let two = c.replace_entry-2.ensures in
    let first = becomes _ _ c.args.source.node c.args.source.value c.args.stamp one.image in
    let second = becomes _ _ c.args.target.node c.args.target.value c.args.stamp two.image in
    sparing_range g.M.Look.shown c.args.source.node 4 _ _ _ first second.as_long
    (λ j ge less. ⊎_elim (λ before. second.before j (omega (arith, before, less))) (λ behind. second.behind j (omega (arith, behind, ge))) apart) one.sparing two.sparing
