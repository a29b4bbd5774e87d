use Rattle.std.proofs.Common.{◌≡◌, suc, ◌+◌, ◌-◌, ◌<◌, [], ◌∷◌, ◌++◌, length, slice_index, refl, sym, ◌∙◌, ap, subst, arith, append-nil, append_assoc}
use Rattle.rom_model.proofs.Contents.{one_chain}
use Rattle.rom_rebuild.proofs.Fits.{fit_more}
use Rattle.rom_rebuild.proofs.Walks.{AreInside, walked, walked_none, walked_end, walked_more, walked_chain, inside_chain}
use Rattle.rom_rebuild.proofs.elements.chain.collect_chain.Goals as goal

pub loop-init : goal.loop-init
loop-init c =
    let q = c.requires.chain in
    let w = c.args.words.now in
    let e : c.power_of_two-end.result - 0 ≡ c.power_of_two-end.result = omega arith in
    record {
      inside = inside_chain c.args.order c.args.link c.args.next w q.blocks (c.power_of_two-end.result - 0) (slice_index w c.args.link) q.are refl q.within c.requires.sized;
      rest = ap (λ m. c.args.into.now.items ++ walked w c.args.next m (slice_index w c.args.link)) e;
      fit = λ fits. fits;
    }

pub returns-then-node-eq0-clause-collected : goal.returns-then-node-eq0-clause-collected
returns-then-node-eq0-clause-collected c blocks is =
    let q = c.requires.chain in
    let w = c.args.words.now in
    let j = c.args.next in
    let fuel = c.power_of_two-end.result - c.loop.counter in
    let none : c.loop.node ≡ 0 = omega arith in
    let same = ap length (one_chain c.args.order c.args.link j w q.blocks blocks q.are is) in
    sym (append-nil c.loop.into.items) ∙ ap (λ xs. c.loop.into.items ++ xs) (sym (walked_none w j fuel c.loop.node none)) ∙ c.loop.invariant.rest
    ∙ ap (λ xs. c.args.into.now.items ++ xs) (walked_chain c.args.order c.args.link j w blocks c.power_of_two-end.result (slice_index w c.args.link) is refl (omega (arith, same, q.few, c.power_of_two-end.ensures.is)))

pub loop-preserved : goal.loop-preserved
loop-preserved c =
    let w = c.args.words.now in
    let j = c.args.next in
    let h = c.loop.invariant in
    let node = c.loop.node in
    let left = c.power_of_two-end.result - (c.loop.counter + 1) in
    let e : c.power_of_two-end.result - c.loop.counter ≡ suc left = omega arith in
    let some : 0 < node = omega arith in
    let items = c.in_ok-push.ensures.items in
    record {
      inside = (subst (λ m. AreInside w j m node) e h.inside some).1;
      rest = ap (λ xs. xs ++ walked w j left (slice_index w (node + j))) items ∙ append_assoc c.loop.into.items (slice_index w node ∷ []) (walked w j left (slice_index w (node + j)))
          ∙ ap (λ xs. c.loop.into.items ++ xs) (sym (walked_more w j left node some) ∙ ap (λ m. walked w j m node) (sym e)) ∙ h.rest;
      fit = λ fits. fit_more c.loop.into.items c.push.new.self.items (slice_index w node) items (omega arith) (h.fit fits);
    }

pub returns-clause-collected : goal.returns-clause-collected
returns-clause-collected c blocks is =
    let q = c.requires.chain in
    let w = c.args.words.now in
    let j = c.args.next in
    let e : c.power_of_two-end.result - c.loop.counter ≡ 0 = omega arith in
    let same = ap length (one_chain c.args.order c.args.link j w q.blocks blocks q.are is) in
    sym (append-nil c.loop.into.items) ∙ ap (λ xs. c.loop.into.items ++ xs) (sym (walked_end w j c.loop.node) ∙ ap (λ m. walked w j m c.loop.node) (sym e)) ∙ c.loop.invariant.rest
    ∙ ap (λ xs. c.args.into.now.items ++ xs) (walked_chain c.args.order c.args.link j w blocks c.power_of_two-end.result (slice_index w c.args.link) is refl (omega (arith, same, q.few, c.power_of_two-end.ensures.is)))
