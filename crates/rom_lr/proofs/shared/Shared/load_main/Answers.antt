use Rattle.rom_model.specs.Machine.{on_words}
use Rattle.std.proofs.Common.{rules, arith, sym, ap, ℕ, ◌<◌, ◌∙◌, subst}
use Rattle.rom_model.specs.Blocks.{region_len}
use Rattle.rom_rule.specs.Places.{main_word_at}
use Rattle.rom_rule.specs.Views.{base_of}
use Rattle.rom_rule.specs.declared.views.Base.{Base}
use Rattle.rom_rule.proofs.Writes.{loads_region}
use Rattle.rom_lr.proofs.Sides.{main_from}
use Rattle.rom_lr.proofs.shared.Shared.load_main.Goals as goal

pub load-requires : goal.load-requires
load-requires g c = (search rules, search rules, loads_region g.O.Object.Contents (on_words g.O.Object.machine) (base_of c.args.self.now.table.shared.key) _ _ _ _ c.args.seat.now.writes)

pub returns-clause-word : goal.returns-clause-word
returns-clause-word g c = let laid = c.args.self.now.laid in let of = c.requires.of.1 in
    c.load.ensures.2.1 0 c.args.at (omega arith) (subst (λ (z : Base). c.args.at < region_len z.order) (sym of) (subst (λ (k : ℕ). c.args.at < region_len k) (ap (λ l. l.order) laid) c.requires.inside))
    ((main_from c.args.self.now.layout.order c.args.self.now.layout.callers c.args.self.now.main c.args.at c.args.self.now.placed.0) ∙ (ap (λ l. main_word_at l.order l.callers c.args.at) laid ∙ ap (λ (z : Base). main_word_at z.order z.callers c.args.at) (sym of)))
