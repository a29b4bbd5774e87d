use Rattle.std.proofs.Common.{rules, ◌≡◌, ℕ, sym, subst, ap, ◌∙◌, refl, replicate}
use Rattle.rom_device.specs.Memory.{words_of_memory}
use Rattle.rom_header.specs.Layout.{main_of, back_of}
use Rattle.rom_twin.specs.Seen.{committed_in}
use Rattle.rom_twin.specs.declared.phase.Phase.{Phase}
use Rattle.rom_units.proofs.twin.fresh_twin.Goals as goal

pub new-requires-clause-twins : goal.new-requires-clause-twins
new-requires-clause-twins c told =
    let made = c.in-Ok.ensures.made refl in
    let words = words_of_memory c.write_new.new.device in
    subst (λ (n : ℕ). main_of n words ≡ back_of n words) (sym c.in-Some.ensures.some.0) (made.main_is ∙ sym made.back_is)

pub returns-clause-sevens : goal.returns-clause-sevens
returns-clause-sevens c =
    let made = c.in-Ok.ensures.made refl in
    let twin = c.new.result in
    let sevens : c.as_slice.result.now ≡ replicate 112 7 = search rules in
    ap (λ (p : Phase). committed_in p twin.order (words_of_memory twin.device)) c.new.ensures.phase ∙ ap (λ (n : ℕ). back_of n (words_of_memory twin.device)) (c.new.ensures.order ∙ c.in-Some.ensures.some.0)
    ∙ ap (λ d. back_of 4 (words_of_memory d)) c.new.ensures.device ∙ made.back_is ∙ sevens
