use Rattle.std.proofs.Common.{◌-◌, sym, subst, ◌∙◌, ap}
use Rattle.rom_model.specs.Blocks.{IsNode, block_at}
use Rattle.rom_blob_region.proofs.body.give_body.Goals as goal

pub returns-then-len-ne0-clause-given : goal.returns-then-len-ne0-clause-given
returns-then-len-ne0-clause-given g c = record {
  none = λ e. absurd (c.if-len-ne0.true e);
  given = λ some blocks x held.
      let same = sym c.order_for.ensures.is in
      c.give.ensures.given blocks x held.disjoint held.words_are (subst (λ j. IsNode (c.args.order - j) x) same held.node) (held.here ∙ ap (λ j. block_at c.args.order j x) same) held.among;
}
