use Rattle.std.proofs.Common.{Some, ◌≡◌, ℕ, get_or, set, sym, ap, ◌∙◌, subst}
use Rattle.rom_lr.specs.Side.{other_side, side_number}
use Rattle.rom_lr.specs.Writing.{SetsPlan}
use Rattle.rom_lr.specs.declared.side.Side.{Side}
use Rattle.rom_lr.specs.declared.side.Side.TheVariants.{Back, Main}
use Rattle.rom_rule.specs.Readers.{Settled}
use Rattle.rom_rule.specs.Views.{plan_of}
use Rattle.rom_rule.specs.declared.views.Plan.{Plan}
use Rattle.rom_rule.specs.declared.views.View.{View}
use Rattle.rom_announce.proofs.Altered.{writes_chain}
use Rattle.rom_combine.specs.Copying.{with_side, words_at}
use Rattle.rom_combine.proofs.sides.copy_word.Goals as goal

pub store_main-requires-clause-unread : goal.store_main-requires-clause-unread
store_main-requires-clause-unread g c = let u : View = c.args.seat.now.token.me.0 in
    subst (λ (z : View). ((plan_of z).side ≡ 1) × Settled z.base (plan_of z)) (sym c.load_back-word.ensures.still.2)
    (subst (λ (side : Side). ((plan_of u).side ≡ side_number (other_side side)) × Settled u.base (plan_of u)) c.in-Main.is c.requires.unread)

pub returns-in-Main : goal.returns-in-Main
returns-in-Main g c =
    let u : View = c.args.seat.now.token.me.0 in let v : View = c.load_back-word.new.seat.token.me.0 in let w : View = c.store_main.new.seat.token.me.0 in let p : Plan = plan_of u in let at : ℕ = c.args.at in
    let load = c.load_back-word.ensures.still in let store = c.store_main.ensures.stored in let one : plan_of v ≡ p = ap plan_of load.2 in
    let word : c.load_back-word.result ≡ get_or p.back at 0 = c.load_back-word.ensures.word in
    let was : Plan = record (plan_of v) { main = set (plan_of v).main at c.load_back-word.result } in
    let now : was ≡ record p { main = set p.main at (get_or p.back at 0) } = (λ i. record (one i) { main = set (one i).main at (word i) }) in
    let written : SetsPlan c.args.seat.now c.store_main.new.seat (with_side Main (set p.main at (get_or p.back at 0)) p)
    = (store.0 ∙ load.0, store.1 ∙ load.1, subst (λ (z : Plan). w ≡ record u { plan = Some z; steps = w.steps }) now (writes_chain u v w p was load.2 store.2)) in
    subst (λ (side : Side). SetsPlan c.args.seat.now c.store_main.new.seat (with_side side (set (words_at side p) at (get_or (words_at (other_side side) p) at 0)) p)) (sym c.in-Main.is) written

pub store_back-requires-clause-unread : goal.store_back-requires-clause-unread
store_back-requires-clause-unread g c = let u : View = c.args.seat.now.token.me.0 in
    subst (λ (z : View). ((plan_of z).side ≡ 0) × Settled z.base (plan_of z)) (sym c.load_main-word.ensures.still.2)
    (subst (λ (side : Side). ((plan_of u).side ≡ side_number (other_side side)) × Settled u.base (plan_of u)) c.in-Back.is c.requires.unread)

pub returns-in-Back : goal.returns-in-Back
returns-in-Back g c =
    let u : View = c.args.seat.now.token.me.0 in let v : View = c.load_main-word.new.seat.token.me.0 in let w : View = c.store_back.new.seat.token.me.0 in let p : Plan = plan_of u in let at : ℕ = c.args.at in
    let load = c.load_main-word.ensures.still in let store = c.store_back.ensures.stored in let one : plan_of v ≡ p = ap plan_of load.2 in
    let word : c.load_main-word.result ≡ get_or p.main at 0 = c.load_main-word.ensures.word in
    let was : Plan = record (plan_of v) { back = set (plan_of v).back at c.load_main-word.result } in
    let now : was ≡ record p { back = set p.back at (get_or p.main at 0) } = (λ i. record (one i) { back = set (one i).back at (word i) }) in
    let written : SetsPlan c.args.seat.now c.store_back.new.seat (with_side Back (set p.back at (get_or p.main at 0)) p)
    = (store.0 ∙ load.0, store.1 ∙ load.1, subst (λ (z : Plan). w ≡ record u { plan = Some z; steps = w.steps }) now (writes_chain u v w p was load.2 store.2)) in
    subst (λ (side : Side). SetsPlan c.args.seat.now c.store_back.new.seat (with_side side (set (words_at side p) at (get_or (words_at (other_side side) p) at 0)) p)) (sym c.in-Back.is) written
