use Rattle.std.proofs.Common.{◌≡◌, List, ℕ, refl, sym, ◌∙◌, ap, subst, arith}
use Rattle.std.specs.Prelude.{slice_index}
use Rattle.std.specs.FinSet as set
use Rattle.rom_model.specs.Region.{Contents}
use Rattle.rom_model.specs.Rising.{IsRising}
use Rattle.rom_model.specs.State.{empty}
use Rattle.rom_model.specs.VecSpace.{words_of_space}
use Rattle.rom_model.proofs.Contents.{live_fits}
use Rattle.rom_rebuild.specs.Filling.{AreLists}
use Rattle.rom_rebuild.proofs.Caps.{cap_more}
use Rattle.rom_rebuild.proofs.Filled.{all_lists, room_keys, room_numbers, room_values, with_first, with_second}
use Rattle.rom_rebuild.proofs.grow.grow_region.Goals as goal

pub push_values-requires-clause-room : goal.push_values-requires-clause-room
push_values-requires-clause-room c =
    let q = c.requires.region in
    let s = q.state in
    let fits = cap_more c.args.order c.args.greater s (omega (arith, c.requires.greater.0)) (live_fits c.requires.order.least q.contents.1) in
    let taken = c.in_ok-elements.ensures.lists s q.count q.contents in
    let are : AreLists s c.queue.result.now c.in_ok-elements.elements.members.items c.in_ok-elements.elements.keys.items = record { queue = c.queue.ensures ∙ taken.queue; rising = taken.rising; members = taken.members; keys_are = taken.keys_are } in
    room_values are fits c.in_ok-region.ensures.made

pub insert_members-requires-clause-room : goal.insert_members-requires-clause-room
insert_members-requires-clause-room c =
    let q = c.requires.region in
    let s = q.state in
    let fits = cap_more c.args.order c.args.greater s (omega (arith, c.requires.greater.0)) (live_fits c.requires.order.least q.contents.1) in
    let taken = c.in_ok-elements.ensures.lists s q.count q.contents in
    let one = c.push_values.ensures.pushed empty c.load-count.result c.in_ok-region.ensures.made in
    let are : AreLists s c.queue.result.now c.members.result.now c.in_ok-elements.elements.keys.items = record { queue = c.queue.ensures ∙ taken.queue; rising = subst IsRising (sym c.members.ensures) taken.rising; members = ap (λ xs. set.from_list xs) c.members.ensures ∙ taken.members; keys_are = taken.keys_are } in
    room_numbers are fits one

pub put_keys-requires-clause-room : goal.put_keys-requires-clause-room
put_keys-requires-clause-room c =
    let q = c.requires.region in
    let s = q.state in
    let fits = cap_more c.args.order c.args.greater s (omega (arith, c.requires.greater.0)) (live_fits c.requires.order.least q.contents.1) in
    let taken = c.in_ok-elements.ensures.lists s q.count q.contents in
    let one = c.push_values.ensures.pushed empty c.load-count.result c.in_ok-region.ensures.made in
    let two = c.insert_members.ensures.inserted (with_first c.queue.result.now) c.load-count.result one refl in
    let are : AreLists s c.queue.result.now c.members.result.now c.keys.result.now = record { queue = c.queue.ensures ∙ taken.queue; rising = subst IsRising (sym c.members.ensures) taken.rising; members = ap (λ xs. set.from_list xs) c.members.ensures ∙ taken.members; keys_are = c.keys.ensures ∙ taken.keys_are } in
    room_keys are fits two

pub put_keys-requires-clause-counts : goal.put_keys-requires-clause-counts
put_keys-requires-clause-counts c =
    let one = c.push_values.ensures.pushed empty c.load-count.result c.in_ok-region.ensures.made in
    let two = c.insert_members.ensures.inserted (with_first c.queue.result.now) c.load-count.result one refl in
    two.1.shape.root.count_is ∙ c.load-count.ensures.word ∙ ap (λ (w : List ℕ). slice_index w 2) (sym c.load-count.ensures.image)

pub returns : goal.returns
returns c = record {
  grown = λ s k held.
      let n = c.args.order in
      let m = c.args.greater in
      let taken = c.in_ok-elements.ensures.lists s k held in
      let words = c.load-count.ensures.image ∙ c.in_ok-elements.ensures.words in
      let count : c.load-count.result ≡ k = c.load-count.ensures.word ∙ ap (λ (w : List ℕ). slice_index w 2) c.in_ok-elements.ensures.words ∙ held.1.shape.root.count_is in
      let none = subst (λ j. Contents m (words_of_space c.in_ok-region.region) empty j) count c.in_ok-region.ensures.made in
      let one = c.push_values.ensures.pushed empty k none in
      let two = c.insert_members.ensures.inserted (with_first c.queue.result.now) k one refl in
      let are : AreLists s c.queue.result.now c.members.result.now c.keys.result.now = record { queue = c.queue.ensures ∙ taken.queue; rising = subst IsRising (sym c.members.ensures) taken.rising; members = ap (λ xs. set.from_list xs) c.members.ensures ∙ taken.members; keys_are = c.keys.ensures ∙ taken.keys_are } in
      let three = c.put_keys.ensures.put s (with_second c.queue.result.now c.members.result.now) k (subst (λ w. Contents n w s k) (sym words) held) two are.keys_are refl in
      (s, refl, subst (λ t. Contents m (words_of_space c.put_keys.new.space) t k) (all_lists are) three);
}
