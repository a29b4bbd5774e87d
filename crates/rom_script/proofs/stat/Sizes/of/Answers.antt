use Rattle.std.proofs.Common.{◌≡◌, ℕ, sym, ◌∙◌, subst}
use Rattle.rom_heap.specs.Laws.{contents_within}
use Rattle.rom_model.specs.Region.{Contents}
use Rattle.rom_model.specs.State.{State}
use Rattle.rom_model.specs.VecSpace.{words_of_space}
use Rattle.rom_script.proofs.stat.Sizes.of.Goals as goal

pub answer-requires-clause-region : goal.answer-requires-clause-region
answer-requires-clause-region c = subst (λ w. (s : State) × (k : ℕ) × Contents c.args.order w s k) (sym c.load.ensures.image) c.requires.region

pub free_elements-requires-clause-region : goal.free_elements-requires-clause-region
free_elements-requires-clause-region c =
    let n = c.args.order in
    let (s, k, held) = c.requires.region in
    let first = c.load.ensures.image in
    let second = (c.answer.ensures.looks s k (subst (λ w. Contents n w s k) (sym first) held)).image ∙ first in
    record { state = s; count = k; contents = subst (λ w. Contents n w s k) (sym second) held }

pub answer-requires-2-clause-region : goal.answer-requires-2-clause-region
answer-requires-2-clause-region c =
    let n = c.args.order in
    let (s, k, held) = c.requires.region in
    let first = c.load.ensures.image in
    let second = (c.answer.ensures.looks s k (subst (λ w. Contents n w s k) (sym first) held)).image ∙ first in
    let third = c.free_elements.ensures.looks.image ∙ second in
    (s, k, subst (λ w. Contents n w s k) (sym third) held)

pub returns : goal.returns
returns c = record {
  sizes = λ s k held.
      let n = c.args.order in
      let first = c.load.ensures.image in
      let held1 = subst (λ w. Contents n w s k) (sym first) held in
      let second = (c.answer.ensures.looks s k held1).image ∙ first in
      let held2 = subst (λ w. Contents n w s k) (sym second) held in
      let third = c.free_elements.ensures.looks.image ∙ second in
      let held3 = subst (λ w. Contents n w s k) (sym third) held in
      let count : c.load.result ≡ k = c.load.ensures.word ∙ (contents_within n (words_of_space c.args.space.now) s k held).1 in
      let sizes = c.answer.ensures.told s k held1 in
      let free = c.free_elements.ensures.free s k held2 in
      let total = c.answer-2.ensures.told s k held3 in
      λ i. record { order = n; count = count i; sizes = sizes i; free = free i; total = total i };
}
