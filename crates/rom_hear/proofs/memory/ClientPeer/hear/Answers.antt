use Rattle.std.proofs.Common.{refl, inl, inr, ◌∙◌, rules}
use Rattle.rom_hear.proofs.Marks.{heard_more, slice_left}
use Rattle.rom_hear.proofs.memory.ClientPeer.hear.Goals as goal
use Rattle.rom_hear.proofs.memory.ClientPeer.hear.Goals.{then-contains-via-then-contains, then-contains-via-else-contains+then-len-self}

pub returns-then-contains-clause-fails : goal.returns-then-contains-clause-fails
returns-then-contains-clause-fails g c = (λ _. elim c.then-contains.branch [ then-contains-via-then-contains w ↦ inl (search rules) | then-contains-via-else-contains+then-len-self w ↦ inr (search rules) ], λ _. refl)

pub invariant_of-self-then-most-eq0-clause-heard : goal.invariant_of-self-then-most-eq0-clause-heard
invariant_of-self-then-most-eq0-clause-heard g c = heard_more c.args.self.now.text.items c.args.self.now.at c.min-most.result c.args.self.now.passed c.add.new.self _ c.args.self.now.heard c.add.ensures.log (c.copy_front.ensures ∙ slice_left c.args.self.now.text.items c.deref-2.result.now c.args.self.now.at c.min-most.result c.deref-2.ensures.value)

pub invariant_of-self-else-most-eq0-clause-heard : goal.invariant_of-self-else-most-eq0-clause-heard
invariant_of-self-else-most-eq0-clause-heard g c = heard_more c.args.self.now.text.items c.args.self.now.at c.min-most.result c.args.self.now.passed c.add.new.self _ c.args.self.now.heard c.add.ensures.log (c.copy_front.ensures ∙ slice_left c.args.self.now.text.items c.deref-2.result.now c.args.self.now.at c.min-most.result c.deref-2.ensures.value)
