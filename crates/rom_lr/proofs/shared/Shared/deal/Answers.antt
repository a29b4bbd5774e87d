use Rattle.rom_model.specs.Machine.{on_words}
use Rattle.std.proofs.Common.{rules, ap, arith}
use Rattle.rom_rule.specs.Views.{base_of}
use Rattle.rom_rule.specs.declared.views.Base.{Base}
use Rattle.rom_rule.proofs.Seats.{deals_number}
use Rattle.rom_lr.proofs.shared.Shared.deal.Goals as goal

pub split_seat-token-requires : goal.split_seat-token-requires
split_seat-token-requires g c = let v = c.args.writer.now.token.me.0 in (
  search rules,
  search rules,
  deals_number g.O.Object.Contents (on_words g.O.Object.machine) (base_of c.args.self.now.table.shared.key) _ _ (
    c.args.writer.now.writes,
    c.args.writer.now.out,
    (let low = c.requires.left in let next = c.requires.next in let laid = ap (λ l. l.callers) c.args.self.now.laid in let based = ap (λ (z : Base). z.callers) c.requires.of.1 in omega arith),
  ),
)
