use Rattle.rom_model.specs.Machine.{on_words}
use Rattle.std.proofs.Common.{rules, ◌≡◌, ℕ, ◌≤◌, List, drop, length, sym, ap, ◌∙◌, subst}
use Rattle.rom_rule.specs.Calls.{packed}
use Rattle.rom_rule.specs.Places.{slot_at}
use Rattle.rom_rule.specs.Records.{IsCall}
use Rattle.rom_rule.specs.Views.{base_of}
use Rattle.rom_rule.specs.declared.views.View.{View}
use Rattle.rom_rule.proofs.Callers.{posts_call}
use Rattle.rom_announce.proofs.posting.store_turn.Goals as goal

pub store-requires : goal.store-requires
store-requires g c = let s = c.args.seat.now in let v : View = s.token.me.0 in let call = c.requires.call in let args : List ℕ = call.0 in let same : drop 1 v.laid ≡ args = ap (drop 1) call.1 in (
  search rules,
  search rules,
  rw (c.slot-at.ensures.is, ap (λ l. slot_at l.callers s.number 0) c.args.shared.now.laid, s.own, s.counted) (posts_call g.O.Object.Contents (on_words g.O.Object.machine) (base_of c.args.shared.now.table.shared.key) _ _ _ record {
    none_posted = (s.numbered, c.requires.none_posted);
    whole = call.1 ∙ ap packed (sym same);
    few = subst (λ (l : List ℕ). length l ≤ 40) (sym same) call.2;
    call = subst (IsCall (on_words g.O.Object.machine) v.base) (sym same) call.3;
    room = c.requires.few;
  }),
)
