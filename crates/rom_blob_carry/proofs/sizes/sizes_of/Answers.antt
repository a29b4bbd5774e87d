use Rattle.std.proofs.Common.{◌-◌, sym, ◌∙◌, ap, arith}
use Rattle.std.specs.FinMap as finite
use Rattle.rom_model.proofs.Members.{quarter_pow}
use Rattle.rom_model.proofs.Nodes.{pow_small}
use Rattle.rom_bucket.proofs.Keys.{many}
use Rattle.rom_blob_region.specs.Region.{blob_at}
use Rattle.rom_blob_region.specs.State.{BlobState}
use Rattle.rom_blob_carry.proofs.Room.{units_fit}
use Rattle.rom_blob_carry.proofs.Sums.{units_total}
use Rattle.rom_blob_carry.proofs.sizes.sizes_of.Goals as goal

pub overflow_cast-result : goal.overflow_cast-result
overflow_cast-result c =
    let r = c.requires.region in
    omega (arith, c.total-2.ensures.sum r.0 r.1 r.2, units_total r.0, units_fit r.2.1, pow_small c.args.order c.requires.order.most)

pub overflow_sub-result : goal.overflow_sub-result
overflow_sub-result c =
    let r = c.requires.region in
    omega (arith, c.total-2.ensures.sum r.0 r.1 r.2, units_total r.0, units_fit r.2.1, c.room.ensures.is, quarter_pow c.args.order c.requires.order.least)

pub returns-clause-are : goal.returns-clause-are
returns-clause-are c s k held =
    let is = held.1 in
    let room = c.room.ensures.is in
    let units = c.total-2.ensures.sum s k held ∙ sym (units_total s) in
    record {
      count_is = is.root.count_is;
      keys = is.keys.len ∙ sym (many is.keys (blob_at c.args.order c.args.words.now)) ∙ ap (λ (m : BlobState). finite.len m) is.state_is;
      bytes = c.total.ensures.sum s k held;
      free = λ i. room i - units i;
    }
