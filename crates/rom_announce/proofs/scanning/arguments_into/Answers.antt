use Rattle.rom_model.specs.Machine.{on_words}
use Rattle.std.proofs.Common.{◌≡◌, ℕ, [], ◌∷◌, sym, refl, ap, ◌∙◌, subst, Some}
use Rattle.rom_announce.specs.Scanning.{with_words}
use Rattle.rom_rule.specs.CallKinds.{altered}
use Rattle.rom_rule.specs.Calls.{packed}
use Rattle.rom_rule.specs.Records.{IsCall}
use Rattle.rom_rule.specs.Views.{plan_of}
use Rattle.rom_rule.specs.declared.views.Base.{Base}
use Rattle.rom_rule.specs.declared.views.Plan.{Plan}
use Rattle.rom_rule.specs.declared.views.View.{View}
use Rattle.rom_announce.proofs.Altered.{altered_twice, writes_chain}
use Rattle.rom_announce.proofs.scanning.arguments_into.Goals as goal

pub load_arguments-requires-clause-found : goal.load_arguments-requires-clause-found
load_arguments-requires-clause-found g c = (plan_of c.args.seat.now.token.me.0, c.requires.found.0, c.requires.found.1, ap plan_of c.load_argument-count.ensures.loaded.2)

pub load_arguments-requires-clause-none : goal.load_arguments-requires-clause-none
load_arguments-requires-clause-none g c = λ none. subst (λ (b : Base). IsCall (on_words g.O.Object.machine) b []) (sym (ap (λ (v : View). v.base) c.load_argument-count.ensures.loaded.2))
    (c.load_argument-count.ensures.call c.requires.found.0 [] c.requires.found.1 (ap (λ (n : ℕ). n ∷ []) none))

pub returns-clause-loaded : goal.returns-clause-loaded
returns-clause-loaded g c = let first = c.load_argument-count.ensures.loaded in let then = c.load_arguments.ensures.loaded in let u : View = c.args.seat.now.token.me.0 in let v : View = c.load_argument-count.new.seat.token.me.0 in let w : View = c.load_arguments.new.seat.token.me.0 in
    let p : Plan = altered c.args.caller (with_words (c.load_argument-count.result ∷ [])) (plan_of u) in let q : Plan = altered c.args.caller (with_words (packed c.load_arguments.new.args)) (plan_of u) in
    let same : altered c.args.caller (with_words (packed c.load_arguments.new.args)) (plan_of v) ≡ q = ap (altered c.args.caller (with_words (packed c.load_arguments.new.args))) (ap plan_of first.2) ∙ altered_twice c.args.caller (with_words (packed c.load_arguments.new.args)) (with_words (c.load_argument-count.result ∷ [])) (plan_of u) (λ _. refl) in
    (then.0 ∙ first.0, then.1 ∙ first.1, writes_chain u v w p q first.2 (subst (λ (z : Plan). w ≡ record v { plan = Some z; steps = w.steps }) same then.2))
