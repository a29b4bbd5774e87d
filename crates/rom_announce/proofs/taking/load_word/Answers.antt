use Rattle.rom_model.specs.Machine.{on_words}
use Rattle.std.proofs.Common.{rules, ◌≡◌, ℕ, ◌+◌, sym, ap, ◌∙◌}
use Rattle.rom_rule.specs.Places.{slot_at}
use Rattle.rom_rule.specs.Views.{base_of}
use Rattle.rom_rule.specs.declared.views.Base.{Base}
use Rattle.rom_rule.specs.declared.views.View.{View}
use Rattle.rom_rule.proofs.Callers.{loads_answer}
use Rattle.rom_announce.proofs.taking.load_word.Goals as goal

pub load-requires : goal.load-requires
load-requires g c = let s = c.args.seat.now in (search rules, search rules, loads_answer g.O.Object.Contents (on_words g.O.Object.machine) (base_of c.args.shared.now.table.shared.key) _ _ _ _ (s.numbered, c.requires.answered))

pub returns-clause-word : goal.returns-clause-word
returns-clause-word g c = let s = c.args.seat.now in let v : View = s.token.me.0 in let j : ℕ = c.args.j in
    let at : c.slot-at.result ≡ slot_at v.base.callers v.number (42 + j) = c.slot-at.ensures.is ∙ (ap (λ l. slot_at l.callers s.number (42 + j)) c.args.shared.now.laid ∙ (ap (λ (z : Base). slot_at z.callers s.number (42 + j)) (sym c.requires.of.1) ∙ ap (λ (n : ℕ). slot_at v.base.callers n (42 + j)) s.own)) in
    λ x last. let told = c.load.ensures.2.1 x last in (told.0, λ inside. told.1 j inside at)
