use Rattle.std.proofs.Common.{◌≡◌, ℕ, List, ◌*◌, ◌/◌, sym, ◌∙◌, subst, arith}
use Rattle.rom_model.specs.Region.{Contents}
use Rattle.rom_model.specs.VecSpace.{words_of_space}
use Rattle.rom_rebuild.proofs.Caps.{cap_most}
use Rattle.rom_rebuild.proofs.measures.Measures.of.Goals as goal

pub percent_of-percent-requires-clause-small : goal.percent_of-percent-requires-clause-small
percent_of-percent-requires-clause-small c =
    let n = c.args.order in
    let q = c.requires.region in
    let same = c.map_len-keys.ensures.looks.image ∙ c.set_len-members.ensures.looks.image ∙ c.queue_len-queue.ensures.looks.image in
    omega (arith, c.free_elements-free.ensures.free q.state q.count (subst (λ w. Contents n w q.state q.count) (sym same) q.contents), cap_most n c.requires.order.most)

pub returns : goal.returns
returns c = record {
  measures = λ s k held.
      let n = c.args.order in
      let first = c.queue_len-queue.ensures.looks.image in
      let second = c.set_len-members.ensures.looks.image ∙ first in
      let third = c.map_len-keys.ensures.looks.image ∙ second in
      let fourth = c.free_elements-free.ensures.looks.image ∙ third in
      let still = λ (w : List ℕ) (same : w ≡ words_of_space c.args.space.now). subst (λ w. Contents n w s k) (sym same) held in
      let queue = c.from.ensures ∙ c.queue_len-queue.ensures.len s k held in
      let members = c.from-2.ensures ∙ c.set_len-members.ensures.len s k (still (words_of_space c.queue_len-queue.new.space) first) in
      let keys = c.from-3.ensures ∙ c.map_len-keys.ensures.len s k (still (words_of_space c.set_len-members.new.space) second) in
      let free = c.free_elements-free.ensures.free s k (still (words_of_space c.map_len-keys.new.space) third) in
      let total = c.map_total-total.ensures.total s k (still (words_of_space c.free_elements-free.new.space) fourth) in
      let percent = c.from-5.ensures ∙ c.percent_of-percent.ensures ∙ (λ i. free i * 100 / (15 * c.power_of_two.ensures.is i)) in
      λ i. record { queue = queue i; members = members i; keys = keys i; free = (c.from-4.ensures ∙ free) i; percent = percent i; total = total i };
}
