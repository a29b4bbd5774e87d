use Rattle.std.proofs.Common.{◌≡◌, ℕ, ◌+◌, List, length, arith, sym, ◌∙◌, ap}
use Rattle.std.specs.Prelude.{Some, slice_index}
use Rattle.std.specs.FinMap as finite
use Rattle.std.proofs.lemmas.Bool.{not-true, not-false}
use Rattle.rom_model.specs.Blocks.{block_of}
use Rattle.rom_model.specs.Chains.{stamped_at}
use Rattle.rom_model.specs.Region.{bucket_of}
use Rattle.rom_model.specs.VecSpace.{words_of_space}
use Rattle.rom_bucket.proofs.Found as found
use Rattle.rom_bucket.proofs.Keys.{holds_bucket}
use Rattle.rom_bucket.proofs.Finding.{own_within}
use Rattle.rom_map.proofs.Keyed.{map_keys, map_pairs}
use Rattle.rom_map.proofs.Finding.{image_same, inside, no_pair, node, small}
use Rattle.rom_rebuild.proofs.grow.keys.find_kept.Goals as goal

pub find_rising-sought-requires-clause-bucket : goal.find_rising-sought-requires-clause-bucket
find_rising-sought-requires-clause-bucket c = holds_bucket (map_keys c.requires.region.contents.1) (bucket_of c.args.order c.args.key) (own_within c.args.key c.requires.order)

-- the key is not there
pub returns-then-not-sought-clause-is : goal.returns-then-not-sought-clause-is
returns-then-not-sought-clause-is c s k held = no_pair c.requires.order held.1 c.find_rising-sought.ensures (not-true c.find_rising-sought.result.found c.if-not-sought.true)

pub returns-then-not-sought-clause-words : goal.returns-then-not-sought-clause-words
returns-then-not-sought-clause-words c = image_same c.requires.order c.requires.region.contents.1 c.find_rising-sought.ensures

-- the key is there
pub overflow_add-node : goal.overflow_add-node
overflow_add-node c = omega (arith, small c.requires.order c.requires.region.contents.1 c.find_rising-sought.ensures (not-false c.find_rising-sought.result.found c.if-not-sought.false))

pub load-value-requires : goal.load-value-requires
load-value-requires c = record { within = omega (arith, inside c.requires.order c.requires.region.contents.1 c.find_rising-sought.ensures (not-false c.find_rising-sought.result.found c.if-not-sought.false)) }

pub overflow_add-node-2 : goal.overflow_add-node-2
overflow_add-node-2 c = omega (arith, small c.requires.order c.requires.region.contents.1 c.find_rising-sought.ensures (not-false c.find_rising-sought.result.found c.if-not-sought.false))

pub load-stamp-requires : goal.load-stamp-requires
load-stamp-requires c = record {
  within = omega (arith, inside c.requires.order c.requires.region.contents.1 c.find_rising-sought.ensures (not-false c.find_rising-sought.result.found c.if-not-sought.false), ap (λ (v : List ℕ). length v) c.load-value.ensures.image);
}

pub returns-clause-is : goal.returns-clause-is
returns-clause-is c s k held =
    let o = c.requires.order in
    let n = c.args.order in
    let w = words_of_space c.args.space.now in
    let has = not-false c.find_rising-sought.result.found c.if-not-sought.false in
    let region = held.1 in
    let t = node o region c.find_rising-sought.ensures has in
    let first = image_same o region c.find_rising-sought.ensures in
    let second = c.load-value.ensures.image ∙ first in
    let value : slice_index w (block_of n t.block + 1) ≡ c.load-value.result = sym (c.load-value.ensures.word ∙ ap (λ (v : List ℕ). slice_index v (c.find_rising-sought.result.place.node + 1)) first ∙ ap (λ a. slice_index w (a + 1)) t.node_is) in
    let stamp : slice_index w (block_of n t.block + 3) ≡ c.load-stamp.result = sym (c.load-stamp.ensures.word ∙ ap (λ (v : List ℕ). slice_index v (c.find_rising-sought.result.place.node + 3)) second ∙ ap (λ a. slice_index w (a + 3)) t.node_is) in
    let kept : stamped_at n w t.block ≡ record { value = c.load-value.result; stamp = c.load-stamp.result } = λ i. record { value = value i; stamp = stamp i } in
    ap (λ pairs. finite.get pairs c.args.key) (sym (map_pairs region)) ∙ found.value_there o (map_keys region) region.version.rising c.find_rising-sought.ensures (stamped_at n w) t ∙ ap Some kept

pub returns-clause-stamp : goal.returns-clause-stamp
returns-clause-stamp c =
    let o = c.requires.order in
    let n = c.args.order in
    let w = words_of_space c.args.space.now in
    let has = not-false c.find_rising-sought.result.found c.if-not-sought.false in
    let region = c.requires.region.contents.1 in
    let t = node o region c.find_rising-sought.ensures has in
    let second = c.load-value.ensures.image ∙ image_same o region c.find_rising-sought.ensures in
    let stamp : c.load-stamp.result ≡ slice_index w (block_of n t.block + 3) = c.load-stamp.ensures.word ∙ ap (λ (v : List ℕ). slice_index v (c.find_rising-sought.result.place.node + 3)) second ∙ ap (λ a. slice_index w (a + 3)) t.node_is in
    omega (arith, stamp, region.version.stamps t.block t.among, region.shape.root.count_is)

pub returns-clause-words : goal.returns-clause-words
returns-clause-words c = c.load-stamp.ensures.image ∙ c.load-value.ensures.image ∙ image_same c.requires.order c.requires.region.contents.1 c.find_rising-sought.ensures
