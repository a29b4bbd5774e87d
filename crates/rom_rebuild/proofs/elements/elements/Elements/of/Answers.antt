use Rattle.std.proofs.Common.{◌≡◌, ◌++◌, map, reverse, sym, ◌∙◌, ap, subst}
use Rattle.std.specs.FinMap as finite
use Rattle.std.specs.FinSet as set
use Rattle.rom_model.specs.VecSpace.{words_of_space}
use Rattle.std.specs.Option.{unwrap_or}
use Rattle.rom_model.specs.State.{value_of}
use Rattle.rom_model.specs.Chains.{Chain, each_word}
use Rattle.rom_model.specs.Region.{Contents}
use Rattle.rom_model.specs.Rising.{IsRising}
use Rattle.rom_rebuild.specs.Chains.{HoldsChain}
use Rattle.rom_rebuild.specs.declared.elements.element.Element.TheVariants.{Value, Member}
use Rattle.rom_rebuild.specs.Elements.{paired}
use Rattle.rom_rebuild.proofs.Entries.{values_entries, paired_entries}
use Rattle.rom_rebuild.proofs.Fits.{elements_fit}
use Rattle.rom_rebuild.proofs.Regions.{holds_queue, holds_set}
use Rattle.rom_rebuild.proofs.elements.elements.Elements.of.Goals as goal

pub collect_chain-requires-clause-chain : goal.collect_chain-requires-clause-chain
collect_chain-requires-clause-chain c = subst (λ w. HoldsChain c.args.order w 3 1) (sym c.words-words.ensures) (holds_queue c.requires.region.contents.1)

pub collect_chain-requires-2-clause-chain : goal.collect_chain-requires-2-clause-chain
collect_chain-requires-2-clause-chain c = subst (λ w. HoldsChain c.args.order w 6 1) (sym c.words-words.ensures) (holds_set c.requires.region.contents.1)

pub returns-clause-lists : goal.returns-clause-lists
returns-clause-lists c s k held =
    let n = c.args.order in
    let shape = held.1.shape in
    let is : c.words-words.result.now ≡ words_of_space c.args.space.now = c.words-words.ensures in
    let members : c.collect_chain-2.new.into.items ≡ each_word n (words_of_space c.args.space.now) 0 held.0.set =
    c.in_ok-collect_chain-2.ensures.collected held.0.set (subst (λ v. Chain n v 6 1 held.0.set) (sym is) shape.set.chain) ∙ ap (λ xs. xs ++ each_word n c.words-words.result.now 0 held.0.set) c.in_ok-members.ensures.items
    ∙ ap (λ v. each_word n v 0 held.0.set) is in
    record {
      queue = c.in_ok-collect_chain.ensures.collected held.0.queue (subst (λ v. Chain n v 3 1 held.0.queue) (sym is) shape.queue.chain)
          ∙ ap (λ xs. xs ++ each_word n c.words-words.result.now 0 held.0.queue) c.in_ok-queue.ensures.items ∙ ap (λ v. each_word n v 0 held.0.queue) is ∙ shape.queue.values_are;
      rising = subst IsRising (sym members) shape.set.rising;
      members = ap (λ xs. set.from_list xs) members ∙ shape.set.keys_are;
      keys_are = c.in_ok-collect_keys.ensures.keys s k (subst (λ v. Contents n v s k) (sym is) held);
    }

pub returns-clause-are : goal.returns-clause-are
returns-clause-are c s k held =
    let lists = returns-clause-lists c s k held in
    let values = c.in_ok-values.ensures.values s k held ∙ ap (map (λ key. unwrap_or (value_of s key) 0)) (c.deref.ensures.value ∙ lists.keys_are) ∙ values_entries s in
    let numbers = c.collect_chain-2.new.into.items in
    record {
      numbers = numbers;
      rising = lists.rising;
      members = lists.members;
      are = (λ i. map Value (lists.queue i) ++ (map Member (reverse numbers) ++ paired (lists.keys_are i) (values i))) ∙ ap (λ ps. map Value s.queue ++ (map Member (reverse numbers) ++ ps)) (paired_entries (finite.entries s.pairs));
    }

pub returns-clause-fit : goal.returns-clause-fit
returns-clause-fit c = elements_fit _ _ _ _ (c.collect_chain.ensures.fit (rw c.in_ok-queue.ensures.items tt)) (c.collect_chain-2.ensures.fit (rw c.in_ok-members.ensures.items tt)) c.collect_keys.ensures.fit c.in_ok-values.ensures.fit
