use Rattle.std.proofs.Common.{arith, sym, subst}
use Rattle.std.specs.Prelude.{IfSome}
use Rattle.std.specs.FinMap as finite
use Rattle.rom_map.specs.Map.{with_pairs}
use Rattle.rom_model.specs.Region.{Contents}
use Rattle.rom_model.specs.State.{written}
use Rattle.rom_model.specs.VecSpace.{words_of_space}
use Rattle.rom_rebuild.proofs.Filled.{live_put, put, room_of}
use Rattle.rom_rebuild.proofs.grow.keys.put_key.Goals as goal

-- the key has nothing there
pub returns-in_default-clause-put : goal.returns-in_default-clause-put
returns-in_default-clause-put c s t j k other held =
    subst (λ found. IfSome found (λ kept. Contents c.args.greater (words_of_space c.args.space.now) (with_pairs t (finite.insert t.pairs c.args.key kept)) k)) (sym (c.in_default.ensures.is s j other)) tt

pub returns-in_default-clause-more : goal.returns-in_default-clause-more
returns-in_default-clause-more c t k held = (t, held, omega arith)

-- it has this
pub returns-clause-put : goal.returns-clause-put
returns-clause-put c s t j k other held =
    subst (λ found. IfSome found (λ kept. Contents c.args.greater (words_of_space c.map_put.new.space) (with_pairs t (finite.insert t.pairs c.args.key kept)) k)) (sym (c.in-Some.ensures.is s j other))
    (put c.map_put.result t k c.args.key c.in-Some.kept.value c.in-Some.kept.stamp (omega (arith, room_of c.requires.room t k held)) (c.map_put.ensures.contents t k held))

pub returns-clause-more : goal.returns-clause-more
returns-clause-more c t k held = (
  with_pairs t (written t.pairs c.in-Some.kept.stamp c.args.key c.in-Some.kept.value),
  put c.map_put.result t k c.args.key c.in-Some.kept.value c.in-Some.kept.stamp (omega (arith, room_of c.requires.room t k held)) (c.map_put.ensures.contents t k held),
  live_put t c.args.key c.in-Some.kept.value c.in-Some.kept.stamp,
)
