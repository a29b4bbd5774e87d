use Rattle.std.proofs.Common.{◌≡◌, ℕ, ◌+◌, ◌-◌, ◌<◌, ◌≤◌, List, [], ◌∷◌, ◌++◌, length, slice_set, take, refl, sym, ap, subst, ◌∙◌, arith, length-set}
use Rattle.std.proofs.lemmas.List.{take_more_set}
use Rattle.rom_undo.specs.RolledBack.{AreWithin, rolled_back}
use Rattle.rom_undo.specs.declared.before_image.BeforeImage.{BeforeImage}
use Rattle.rom_undo.proofs.Noting.{rolled_last, within_last, stored_back, told_where}
use Rattle.rom_undo.proofs.undo_space.UndoSpaceSpace.store.Goals as goal

pub invariant_of-self-2 : goal.invariant_of-self-2
invariant_of-self-2 g c =
    let s = c.args.self.now in
    let b : BeforeImage = record { at = c.args.at; word = c.load-word.result } in
    let left : s.len + 1 ≤ length s.cells.now = c.requires.room refl in
    let long = length-set s.cells.now s.len b in
    let image = g.M.Look.shown.image in
    let as_long = ap length c.store.ensures.image ∙ (length-set (image c.load-word.new.self) c.args.at c.args.value ∙ ap length c.load-word.ensures.image) in
    record {
      few = omega (arith, left, long);
      roomy = λ told.
          let counts = g.met.M.Look.limit_counts told in
          omega (arith, s.roomy told, left, long, c.load-word.ensures.counts.stores_made counts, c.store.ensures.counts.stores_made counts, c.load-word.ensures.counts.limit, c.store.ensures.counts.limit);
      within = subst (λ (n : ℕ). AreWithin n (take (s.len + 1) (slice_set s.cells.now s.len b))) (sym as_long) (subst (λ (ws : List BeforeImage). AreWithin (length (image s.space.now)) ws) (sym (take_more_set s.cells.now s.len b (omega (arith, left)))) (within_last (length (image s.space.now)) (take s.len s.cells.now) b s.within c.requires.within));
    }

pub returns-clause-counts : goal.returns-clause-counts
returns-clause-counts g c =
    let s = c.args.self.now in
    let b : BeforeImage = record { at = c.args.at; word = c.load-word.result } in
    let left : s.len + 1 ≤ length s.cells.now = c.requires.room refl in
    let long = length-set s.cells.now s.len b in
    let image = g.M.Look.shown.image in
    let shown = g.M.Look.shown in
    let loaded = c.load-word.ensures.counts in
    let stored = c.store.ensures.counts in
    let noted = take_more_set s.cells.now s.len b (omega (arith, left)) in
    let back = ap (λ (ws : List BeforeImage). rolled_back ws (image c.store.new.self)) noted
    ∙ (rolled_last (take s.len s.cells.now) b (image c.store.new.self)
    ∙ ap (λ (i : List ℕ). rolled_back (take s.len s.cells.now) i) (stored_back (image s.space.now) (image c.load-word.new.self) (image c.store.new.self) c.args.at c.args.value c.load-word.result c.load-word.ensures.image c.store.ensures.image c.load-word.ensures.word)) in
    let counted = told_where shown.tells_stores (shown.stores c.store.new.self - (s.len + 1)) (shown.stores s.space.now - s.len) (λ told. omega (arith, loaded.stores_made told, stored.stores_made told)) in
    record {
      loads_made = λ told. omega (arith, left, long, loaded.loads_made told, stored.loads_made told);
      stores_made = λ told. refl;
      limit = long;
      rest = λ i. (s.space.ghost_name, s.cells.ghost_name, back i, counted i, (stored.limit ∙ loaded.limit) i, (stored.rest ∙ loaded.rest) i);
    }
