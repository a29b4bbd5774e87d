use Rattle.std.proofs.Common.{arith, ap, ◌∙◌}
use Rattle.rom_rule.specs.CallKinds.{IsLast}
use Rattle.rom_rule.specs.Views.{Told}
use Rattle.rom_rule.specs.declared.views.View.{View}
use Rattle.rom_announce.proofs.Lists.{answer_parts}
use Rattle.rom_announce.proofs.taking.take_into.Goals as goal

pub load_reply-requires-clause-few : goal.load_reply-requires-clause-few
load_reply-requires-clause-few g c = let last = c.requires.last in let x : Told = last.0 in let now = c.load_word-place.ensures.still in let still : IsLast c.load_word-place.new.seat.token.me.0 x = (last.1.0, ap (λ (z : View). z.outcomes) now ∙ last.1.1) in
    let h = c.load_word-count.ensures.word x still in let parts = answer_parts x.1 in let h₀ = h.0 in let p₀ = parts.0 in let count = h.1 (omega arith) in omega (arith, count, parts.1)
