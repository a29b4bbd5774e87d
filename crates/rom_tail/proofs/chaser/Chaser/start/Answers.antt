use Rattle.std.proofs.Common.{◌∙◌, ap, arith, length, subst, sym}
use Rattle.rom_model.specs.History.{IsLegal}
use Rattle.rom_model.specs.Machine.{on_words}
use Rattle.rom_model.specs.Trio.{trio}
use Rattle.rom_tail.proofs.chaser.Chaser.start.Goals as goal

pub invariant_of-result : goal.invariant_of-result
invariant_of-result g c =
    let counted = c.count-count.ensures in
    let none = counted.history ∙ c.start_lone-lone.ensures.none in
    record {
      own_is = counted.base ∙ c.start_lone-lone.ensures.base;
      many_is = counted.many ∙ c.start_lone-lone.ensures.many ∙ c.requires.many.1;
      turns_are = counted.turns ∙ c.start_lone-lone.ensures.turns ∙ sym (ap length (counted.records ∙ c.start_lone-lone.ensures.unrecorded));
      formed = c.requires.formed;
      done = λ s k held. record {
        legal = subst (IsLegal (on_words trio) g.N.Label.base.order s k) (sym none) tt;
        count_is = omega (arith, counted.count s k held, ap length c.start_lone-lone.ensures.none, ap length none);
        within = counted.within;
      };
    }

pub returns-clause-done : goal.returns-clause-done
returns-clause-done g c = (invariant_of-result g c).done
