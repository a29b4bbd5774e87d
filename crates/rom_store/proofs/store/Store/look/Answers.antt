use Rattle.std.proofs.Common.{◌≡◌, ◌+◌, length, refl, sym, ◌∙◌, subst}
use Rattle.rom_rule.specs.declared.views.View.{View}
use Rattle.rom_store.proofs.store.Store.look.Goals as goal

pub loop-looked-init : goal.loop-looked-init
loop-looked-init g c = ((refl, refl, refl), refl)

pub look_once-requires-clause-of : goal.look_once-requires-clause-of
look_once-requires-clause-of g c = let same = c.loop-looked.invariant.0 in let of = c.requires.of in (same.0 ∙ of.0, same.2 ∙ of.1)

pub look_once-requires-clause-posted : goal.look_once-requires-clause-posted
look_once-requires-clause-posted g c = subst (λ (v : View). length v.calls ≡ length v.outcomes + 1) (sym c.loop-looked.invariant.1) c.requires.posted
