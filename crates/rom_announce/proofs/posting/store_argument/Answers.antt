use Rattle.rom_model.specs.Machine.{on_words}
use Rattle.std.proofs.Common.{rules, refl, ◌≡◌, ℕ, ◌+◌, ◌<◌, ◌≤◌, [], ◌∷◌, ◌++◌, take, length, sym, ap, ◌∙◌, subst, IsTrue}
use Rattle.rom_lr.specs.Side.{side_number}
use Rattle.rom_rule.specs.Places.{indicator_of, side_word_at, slot_at}
use Rattle.rom_rule.specs.Views.{base_of, indicator_in, is_reading, side_read}
use Rattle.rom_rule.specs.declared.views.Base.{Base}
use Rattle.rom_rule.specs.declared.views.View.{View}
use Rattle.rom_rule.proofs.Callers.{stores_argument}
use Rattle.rom_announce.proofs.posting.store_argument.Goals as goal

pub store-requires : goal.store-requires
store-requires g c = let s = c.args.seat.now in (
  search rules,
  search rules,
  rw (c.slot-at.ensures.is, ap (λ l. slot_at l.callers s.number (1 + c.args.j)) c.args.shared.now.laid, s.own)
      (stores_argument g.O.Object.Contents (on_words g.O.Object.machine) (base_of c.args.shared.now.table.shared.key) _ _ _ c.args.j _ ((s.numbered, c.requires.none_posted), c.requires.next.0, c.requires.next.1)),
)

pub invariant_of-seat : goal.invariant_of-seat
invariant_of-seat g c = let s = c.args.seat.now in let v : View = s.token.me.0 in let j : ℕ = c.args.j in
    let at : c.slot-at.result ≡ slot_at v.base.callers v.number (1 + j) = c.slot-at.ensures.is ∙ (ap (λ l. slot_at l.callers s.number (1 + j)) c.args.shared.now.laid ∙ (ap (λ (z : Base). slot_at z.callers s.number (1 + j)) (sym c.requires.of.1) ∙ ap (λ (n : ℕ). slot_at v.base.callers n (1 + j)) s.own)) in
    let did = c.store.ensures.2 j at in let w : View = record v { laid = take j v.laid ++ c.args.word ∷ []; steps = v.steps + 1 } in let now : c.store.new.seat.me.0 ≡ w = ap (λ m. m.0) did in record {
      own = s.own ∙ ap (λ (z : View). z.number) (sym now);
      counted = s.counted ∙ ap (λ (z : View). length z.calls) (sym now);
      bare = ap (λ m. m.1) did ∙ s.bare;
      plain = ap (λ (z : View). z.plan) now ∙ s.plain;
      numbered = subst (λ (z : View). 0 < z.number) (sym now) s.numbered;
      within = subst (λ (z : View). z.number ≤ z.base.callers) (sym now) s.within;
      known = subst (λ (z : View). IsTrue (is_reading z.position) → (indicator_of s.number s.version ≡ indicator_in z.position) × (s.version < 2) × (side_number s.side ≡ side_read z.position) × (s.first ≡ side_word_at z.base.order z.base.callers (side_read z.position) 0)) (sym now) s.known;
      near = s.near;
      placed = s.placed;
    }

pub returns : goal.returns
returns g c = let s = c.args.seat.now in let v : View = s.token.me.0 in let j : ℕ = c.args.j in
    let at : c.slot-at.result ≡ slot_at v.base.callers v.number (1 + j) = c.slot-at.ensures.is ∙ (ap (λ l. slot_at l.callers s.number (1 + j)) c.args.shared.now.laid ∙ (ap (λ (z : Base). slot_at z.callers s.number (1 + j)) (sym c.requires.of.1) ∙ ap (λ (n : ℕ). slot_at v.base.callers n (1 + j)) s.own)) in
    let now = ap (λ m. m.0) (c.store.ensures.2 j at) in record {
      same = (c.store.ensures.0, refl, ap (λ (z : View). z.base) now);
      stored = now;
    }
