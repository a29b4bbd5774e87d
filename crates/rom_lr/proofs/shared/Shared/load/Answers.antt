use Rattle.std.proofs.Common.{ℕ, ◌+◌, ◌<◌, sym, ap, ◌∙◌, subst}
use Rattle.rom_model.specs.Blocks.{region_len}
use Rattle.rom_rule.specs.Views.{base_of, side_read}
use Rattle.rom_rule.specs.declared.views.Base.{Base}
use Rattle.rom_rule.specs.declared.views.View.{View}
use Rattle.rom_lr.proofs.Sides.{word_from}
use Rattle.rom_model.specs.Machine.{on_words}
use Rattle.std.proofs.Common.{rules}
use Rattle.rom_rule.proofs.Readers.{loads_image}
use Rattle.rom_lr.proofs.shared.Shared.load.Goals as goal

pub load-requires : goal.load-requires
load-requires g c = (search rules, search rules, loads_image g.O.Object.Contents (on_words g.O.Object.machine) (base_of c.args.self.now.table.shared.key) _ _ _ _ (c.requires.entered, c.args.seat.now.numbered))

pub returns-clause-word : goal.returns-clause-word
returns-clause-word g c = let v : View = c.args.seat.now.token.me.0 in let known = c.args.seat.now.known c.requires.entered in
    let inside : c.args.at < region_len v.base.order = subst (λ (n : ℕ). c.args.at < region_len n) (ap (λ l. l.order) c.args.self.now.laid ∙ sym (ap (λ (b : Base). b.order) c.requires.of.1)) c.requires.inside in
    c.load.ensures.2.1 c.args.at inside (ap (λ (n : ℕ). n + c.args.at) known.3 ∙ word_from v.base.order v.base.callers (side_read v.position) c.args.at)
