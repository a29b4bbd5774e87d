use Rattle.std.proofs.Common.{◌≡◌, ℕ, ◌+◌, ◌-◌, ◌∷◌, List, length, drop, get_or, refl, sym, ◌∙◌, ap, subst, arith}
use Rattle.std.specs.Prelude.{IfSome, Some, slice_index}
use Rattle.std.specs.FinMap as finite
use Rattle.std.proofs.lemmas.List.{drop_all, drop_more, get_or-map, length-map}
use Rattle.rom_map.specs.Map.{with_pairs}
use Rattle.rom_model.specs.Region.{Contents}
use Rattle.rom_model.specs.State.{Stamped}
use Rattle.rom_model.specs.VecSpace.{words_of_space}
use Rattle.rom_rebuild.proofs.Filled.{entries_make, get_at, room_less}
use Rattle.rom_rebuild.proofs.grow.keys.put_keys.Goals as goal

pub loop-done-init : goal.loop-done-init
loop-done-init c = record {
  same = refl;
  counts = refl;
  room = room_less (length c.args.keys.now - 0) (omega arith) c.requires.room;
  filled = λ s t k other held keys none.
      let long = ap length keys ∙ length-map (finite.entries s.pairs) (λ e. e.0) in
      subst (λ es. Contents c.args.greater (words_of_space c.args.space.now) (with_pairs t es) k) (none ∙ ap (λ es. finite.from_entries es) (sym (drop_all (length c.args.keys.now - 0) (finite.entries s.pairs) (omega (arith, long))))) held;
}

pub put_key-requires-clause-from : goal.put_key-requires-clause-from
put_key-requires-clause-from c =
    let q = c.requires.from in
    record { state = q.state; count = q.count; contents = subst (λ w. Contents c.args.order w q.state q.count) (sym c.loop-done.invariant.same) q.contents }

pub put_key-requires-clause-room : goal.put_key-requires-clause-room
put_key-requires-clause-room c = room_less 1 (omega arith) c.loop-done.invariant.room

pub put_key-requires-clause-counts : goal.put_key-requires-clause-counts
put_key-requires-clause-counts c = c.loop-done.invariant.counts ∙ c.requires.counts ∙ ap (λ (w : List ℕ). slice_index w 2) (sym c.loop-done.invariant.same)

pub loop-done-preserved : goal.loop-done-preserved
loop-done-preserved c =
    let n = c.args.order in
    let m = c.args.greater in
    let ks = c.args.keys.now in
    let i = c.loop-done.done in
    let h = c.loop-done.invariant in
    let j = length ks - 1 - i in
    let after = c.put_key.ensures.more h.room.state h.room.count h.room.contents in
    record {
      same = c.put_key.ensures.words ∙ h.same;
      counts = after.1.1.shape.root.count_is ∙ sym h.room.contents.1.shape.root.count_is ∙ h.counts;
      room = record { state = after.0; count = h.room.count; contents = after.1; fits = omega (arith, after.2, h.room.fits) };
      filled = λ s t k other held keys none.
          let es = finite.entries s.pairs in
          let d : ℕ × Stamped = (0, record { value = 0; stamp = 0 }) in
          let e = get_or es j d in
          let long : length ks ≡ length es = ap length keys ∙ length-map es (λ (x : ℕ × Stamped). x.0) in
          let key : get_or ks j 0 ≡ e.0 = ap (λ (xs : List ℕ). get_or xs j 0) keys ∙ get_or-map (λ (x : ℕ × Stamped). x.0) es j d 0 (omega (arith, long)) in
          let there : finite.get s.pairs (get_or ks j 0) ≡ Some e.1 = ap (finite.get s.pairs) key ∙ get_at s.pairs j d (omega (arith, long)) in
          let at : length ks - (i + 1) ≡ j = omega arith in
          let next : j + 1 ≡ length ks - i = omega arith in
          let more : drop (length ks - (i + 1)) es ≡ e ∷ drop (length ks - i) es = ap (λ a. drop a es) at ∙ drop_more es j d (omega (arith, long)) ∙ ap (λ a. e ∷ drop a es) next in
          let before = with_pairs t (finite.from_entries (drop (length ks - i) es)) in
          let done = c.put_key.ensures.put s before k k (subst (λ w. Contents n w s k) (sym h.same) other) (h.filled s t k other held keys none) in
          let put = subst (λ found. IfSome found (λ kept. Contents m (words_of_space c.put_key.new.space) (with_pairs t (finite.insert before.pairs (get_or ks j 0) kept)) k)) there done in
          let keyed = subst (λ x. Contents m (words_of_space c.put_key.new.space) (with_pairs t (finite.insert before.pairs x e.1)) k) key put in
          subst (λ xs. Contents m (words_of_space c.put_key.new.space) (with_pairs t (finite.from_entries xs)) k) (sym more) keyed;
    }

pub returns-clause-put : goal.returns-clause-put
returns-clause-put c s t k other held keys none =
    let e : length c.args.keys.now - c.loop-done.done ≡ 0 = omega arith in
    let whole = subst (λ j. Contents c.args.greater (words_of_space c.loop-done.space) (with_pairs t (finite.from_entries (drop j (finite.entries s.pairs)))) k) e (c.loop-done.invariant.filled s t k other held keys none) in
    subst (λ pairs. Contents c.args.greater (words_of_space c.loop-done.space) (with_pairs t pairs) k) (entries_make s.pairs) whole

pub returns-clause-words : goal.returns-clause-words
returns-clause-words c = c.loop-done.invariant.same
