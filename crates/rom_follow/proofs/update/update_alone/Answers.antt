use Rattle.std.proofs.Common.{ℕ, length, subst, ◌∙◌, rules}
use Rattle.rom_heap.specs.contracts.trio.TrioObject.TheImpl.Laws as laws
use Rattle.rom_model.specs.Codes.{call_words}
use Rattle.rom_model.specs.Lawful.{as_words}
use Rattle.rom_model.specs.Machine.{on_words}
use Rattle.rom_model.specs.Region.{Contents}
use Rattle.rom_model.specs.Trio.{trio}
use Rattle.rom_rule.specs.CallKinds.{IsToldByPass}
use Rattle.rom_follow.proofs.Alone.{outcome_is}
use Rattle.rom_follow.proofs.update.update_alone.Goals as goal

pub returns-clause-alone : goal.returns-clause-alone
returns-clause-alone g c = record {
  one = c.requires.alone.one;
  formed = c.requires.alone.formed;
  numbered = record { of = c.update.ensures.of; number = c.update.ensures.same.2 ∙ c.requires.alone.numbered.number };
  nobody = c.update.ensures.joined ∙ c.requires.alone.nobody;
}

pub returns-clause-told : goal.returns-clause-told
returns-clause-told g c few =
    let v = c.args.pass.now.view in
    subst (λ (n : ℕ). IsToldByPass Contents (on_words trio) g.N.Label.base (record { caller = n; seq = length v.outcomes; args = call_words c.args.call.now }, as_words trio c.update.result) (length v.seen) v.seen c.update.new.pass.view.seen)
    c.requires.alone.numbered.number (c.update.ensures.taken few)

pub returns-clause-outcome : goal.returns-clause-outcome
returns-clause-outcome g c few s k held =
    outcome_is laws.one_contents-law g.N.Label.table g.N.Label.base c.args.pass.now c.update.new.pass c.args.call.now c.update.result s k c.requires.alone (returns-clause-alone g c) held (search rules) (returns-clause-told g c few) (λ reply place is. (c.update.ensures.done s k held reply place is).legal)
