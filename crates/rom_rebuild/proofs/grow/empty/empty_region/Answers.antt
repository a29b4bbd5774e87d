use Rattle.std.proofs.Common.{ap, arith, ◌∙◌, subst, sym}
use Rattle.std.specs.Prelude.{slice_index}
use Rattle.rom_model.specs.Space.{ChangesOnly}
use Rattle.rom_model.specs.VecSpace.{words_of_space}
use Rattle.rom_model.proofs.Changes.{changes_set}
use Rattle.rom_model.proofs.Recounted.{recounted_contents}
use Rattle.std.proofs.lemmas.List.{get_or-set_same}
use Rattle.rom_rebuild.proofs.grow.empty.empty_region.Goals as goal

pub returns : goal.returns
returns c =
    let old = words_of_space c.in_ok-space.space in
    let image = c.store.ensures.image in
    let only : ChangesOnly 2 1 old (words_of_space c.store.new.self) = subst (λ v. ChangesOnly 2 1 old v) (sym image) (changes_set 2 1 old 2 c.args.count (omega arith) (omega arith)) in
    let long = c.in_ok-space.ensures.made.1.shape.as_long in
    record { made = recounted_contents c.args.count (omega arith) c.requires.count only (ap (λ v. slice_index v 2) image ∙ get_or-set_same old 2 c.args.count 0 (omega (arith, long))) c.in_ok-space.ensures.made }
