use Rattle.rom_model.specs.Machine.{on_words}
use Rattle.std.proofs.Common.{ap, ◌∙◌, ◌≡◌, ◌+◌, ◌*◌, ℕ}
use Rattle.rom_model.specs.Blocks.{region_len}
use Rattle.rom_rule.specs.Places.{opening_words, part, slots_at}
use Rattle.rom_rule.proofs.Opens.{opens_with, image_told}
use Rattle.rom_lr.proofs.shared.Shared.open.Goals as goal

pub of_words-requires : goal.of_words-requires
of_words-requires g c = let o = c.new-layout.ensures.is.0 in let k = c.new-layout.ensures.is.1 in let laid = c.in_ok-words.ensures.is ∙ ap (λ (n : ℕ). opening_words n c.args.image.now) k in
    let words : c.of.result.value.items ≡ opening_words c.args.callers c.args.image.now = ap (λ v. v.items) c.of.ensures ∙ laid in
    opens_with g.O.Object.Contents (on_words g.O.Object.machine) _ c.args.order c.args.callers c.args.faults c.args.image.now _ _ _
    (λ i. record { order = o i; callers = k i; image = ((λ j. part (slots_at (k j) + 64 * k j) (region_len (o j)) (words j)) ∙ image_told c.args.order c.args.callers c.args.faults c.args.image.now c.requires.sized) i; faults = c.args.faults })
    (c.as_slice.ensures.value ∙ laid) c.requires.sized c.requires.callers.1 c.requires.formed.2
