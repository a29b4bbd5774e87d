use Rattle.std.proofs.Common.{◌≡◌, ◌≢◌, ◌+◌, ℕ, List, length, ◌∙◌, ap, subst, sym, arith, length-set, get_or-set_other}
use Rattle.std.specs.Prelude.{slice_index, slice_set}
use Rattle.rom_model.specs.Space.{ChangesOnly}
use Rattle.rom_model.proofs.Changes.{changes_set}
use Rattle.rom_bucket.proofs.Sparing.{sparing_range}
use Rattle.rom_map.proofs.entry.replace_entry.Goals as goal

becomes : (w w' : List ℕ) (at value : ℕ) → w' ≡ slice_set w at value → ChangesOnly at 1 w w'
becomes w w' at value is = subst (λ (v : List ℕ). ChangesOnly at 1 w v) (sym is) (changes_set at 1 w at value (omega arith) (omega arith))

stays : (w w' : List ℕ) (at value j : ℕ) → w' ≡ slice_set w at value → j ≢ at → slice_index w' j ≡ slice_index w j
stays w w' at value j is ne = ap (λ v. slice_index v j) is ∙ get_or-set_other w at j value 0 ne

-- the two words are different ones
pub returns-clause-sparing : goal.returns-clause-sparing
returns-clause-sparing g c =
    let one = c.replace_word-was.ensures in
    let two = c.replace_word.ensures in
    sparing_range g.M.Look.shown (c.args.node + 1) 1 _ _ _ (becomes _ _ _ c.args.value one.image) (ap length two.image ∙ length-set _ (c.args.node + 3) c.args.stamp)
    (λ j ge less. stays _ _ (c.args.node + 3) c.args.stamp j two.image (λ e. absurd (omega (arith, e, ge, less)))) one.sparing two.sparing
