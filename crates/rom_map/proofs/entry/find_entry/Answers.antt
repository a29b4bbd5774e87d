use Rattle.std.proofs.Common.{List, ℕ, ◌+◌, arith, sym, ◌∙◌, ap}
use Rattle.std.specs.Prelude.{Some, slice_index}
use Rattle.std.proofs.lemmas.Bool.{not-true, not-false}
use Rattle.rom_model.specs.Region.{bucket_of}
use Rattle.rom_model.proofs.Looks.{looks_more}
use Rattle.rom_bucket.proofs.Keys.{holds_bucket}
use Rattle.rom_bucket.proofs.Finding.{own_within}
use Rattle.rom_map.proofs.Keyed.{map_keys}
use Rattle.rom_map.proofs.Finding.{looked, image_same, no_value, sooner, node, value, inside, small}
use Rattle.rom_map.proofs.entry.find_entry.Goals as goal

pub find_rising-sought-requires-clause-sized : goal.find_rising-sought-requires-clause-sized
find_rising-sought-requires-clause-sized g c = c.requires.region.contents.1.shape.as_long

pub find_rising-sought-requires-clause-bucket : goal.find_rising-sought-requires-clause-bucket
find_rising-sought-requires-clause-bucket g c = holds_bucket (map_keys c.requires.region.contents.1) (bucket_of c.args.order c.args.key) (own_within c.args.key c.requires.order)

-- the key is not there
pub returns-then-not-sought-clause-is : goal.returns-then-not-sought-clause-is
returns-then-not-sought-clause-is g c p s k is = no_value c.requires.order is c.find_rising-sought.ensures (not-true c.find_rising-sought.result.found c.if-not-sought.true)

pub returns-then-not-sought-clause-looks : goal.returns-then-not-sought-clause-looks
returns-then-not-sought-clause-looks g c s k held = looked c.requires.order held.1 c.find_rising-sought.ensures

-- the key is there
pub overflow_add-node : goal.overflow_add-node
overflow_add-node g c = omega (arith, small c.requires.order c.requires.region.contents.1 c.find_rising-sought.ensures (not-false c.find_rising-sought.result.found c.if-not-sought.false))

pub load-value-requires : goal.load-value-requires
load-value-requires g c = record { within = omega (arith, inside c.requires.order c.requires.region.contents.1 c.find_rising-sought.ensures (not-false c.find_rising-sought.result.found c.if-not-sought.false)) }

pub returns-clause-is : goal.returns-clause-is
returns-clause-is g c p s k is =
    let o = c.requires.order in
    let has = not-false c.find_rising-sought.result.found c.if-not-sought.false in
    let t = node o is c.find_rising-sought.ensures has in
    let word = c.load-value.ensures.word ∙ ap (λ (v : List ℕ). slice_index v (c.find_rising-sought.result.place.node + 1)) (image_same o is c.find_rising-sought.ensures) in (
      value o is c.find_rising-sought.ensures has ∙ sym (ap Some word),
      record { at = record { front = t.front; block = t.block; back = t.back; blocks = t.blocks; holds = t.holds }; begins = t.node_is },
    )

pub returns-clause-looks : goal.returns-clause-looks
returns-clause-looks g c s k held =
    let has = not-false c.find_rising-sought.result.found c.if-not-sought.false in
    looks_more g.M.Look.shown _ _ (omega arith) (sooner c.requires.order held.1 c.find_rising-sought.ensures has) c.load-value.ensures.image c.load-value.ensures.counts
