use Rattle.std.proofs.Common.{◌≡◌, ℕ, ◌+◌, ◌∷◌, [], length, length-append, ap, sym, ◌∙◌, subst}
use Rattle.rom_lr.specs.Opening.{AreNewSeats}
use Rattle.rom_lr.specs.Seats.{opened_with}
use Rattle.rom_lr.proofs.Dealing.{new_pushed}
use Rattle.rom_rule.specs.Kinds.{dealing, newcomer}
use Rattle.rom_rule.specs.Views.{fresh_view}
use Rattle.rom_rule.specs.declared.views.View.{View}
use Rattle.rom_lr.proofs.shared.Shared.deal_all.Goals as goal

pub loop-i-preserved : goal.loop-i-preserved
loop-i-preserved g c = let kept = c.loop-i.invariant in let d = c.deal-seat.ensures in let shared = c.args.self.now in
    let items = c.in_ok-push.ensures.items in let many : length c.loop-i.seats.items ≡ c.loop-i.i = kept.2 in (
      (d.same.0 ∙ kept.0.0, ap (λ v. v.base) d.writer ∙ kept.0.1),
      d.writer ∙ ap dealing kept.1,
      (ap length items ∙ length-append c.loop-i.seats.items (c.deal-seat.result ∷ [])) ∙ ap (λ (n : ℕ). n + 1) many,
      subst (AreNewSeats shared) (sym items) (new_pushed shared c.loop-i.seats.items c.deal-seat.result kept.3
          (d.of, d.number ∙ ap (λ (n : ℕ). n + 1) (sym many), d.seat ∙ (ap newcomer kept.1 ∙ ap (λ (n : ℕ). let v : View = record (fresh_view (opened_with shared)) { number = n + 1 } in v) (sym many)))),
    )
