use Rattle.rom_model.specs.Machine.{on_words}
use Rattle.std.proofs.Common.{rules, sym, ℕ, subst}
use Rattle.rom_rule.specs.Kinds.{CanSwitchToBack}
use Rattle.rom_rule.specs.Views.{base_of, plan_of}
use Rattle.rom_rule.proofs.Switching.{switches_to_back}
use Rattle.rom_lr.proofs.shared.Shared.switch_to_back.Goals as goal

pub store-requires : goal.store-requires
store-requires g c = let v = c.args.seat.now.token.me.0 in let picked = c.requires.picked in (
  search rules,
  search rules,
  rw (c.side-word.ensures.is, c.number.ensures.is) (switches_to_back g.O.Object.Contents (on_words g.O.Object.machine) (base_of c.args.self.now.table.shared.key) g.met.O.Object.one_contents _ _ _ _ _ c.args.seat.now.writes
      (subst (λ (z : ℕ × ℕ). CanSwitchToBack g.O.Object.Contents (on_words g.O.Object.machine) v.base (plan_of v) z.0 z.1) (λ i. (sym picked.0 i, sym picked.1 i)) c.requires.can)),
)
