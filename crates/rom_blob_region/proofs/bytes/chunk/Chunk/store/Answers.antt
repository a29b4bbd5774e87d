use Rattle.std.proofs.Common.{◌≡◌, ◌≢◌, ◌+◌, ◌<◌, List, length, slice_index, slice_set, inl, inr, arith, sym, ap, subst, ◌∙◌, get_or-set_other}
use Rattle.std.specs.Prelude.{ℕ}
use Rattle.std.proofs.lemmas.Bool.{cases_lt}
use Rattle.std.proofs.lemmas.Grind.{get_or-set_at}
use Rattle.rom_model.specs.Space.{ChangesOnly}
use Rattle.rom_model.proofs.Changes.{changes_set, changes_joins, changes_wider}
use Rattle.rom_model.proofs.Looks.{costs_then}
use Rattle.rom_blob_region.specs.Bytes.{bytes_at, words_for}
use Rattle.rom_blob_region.specs.Packed.{long_at}
use Rattle.rom_blob_region.proofs.Carried.{from_zero, bytes_same, ends_same}
use Rattle.rom_blob_region.proofs.bytes.chunk.Chunk.store.Goals as goal

-- how many bytes there are
pub store_changed-requires-clause-within : goal.store_changed-requires-clause-within
store_changed-requires-clause-within g c =
    let many : c.self.inside.len ≡ length c.args.self.now = sym (long_at c.self.inside.words 0 c.self.inside.len) ∙ ap length c.self.view_is in
    omega (arith, many, c.requires.within, c.loop-i.invariant.others.as_long)

pub loop-i-preserved : goal.loop-i-preserved
loop-i-preserved g c =
    let h = c.loop-i.invariant in
    let i = c.loop-i.i in
    let at = c.args.at in
    let many : c.self.inside.len ≡ length c.args.self.now = sym (long_at c.self.inside.words 0 c.self.inside.len) ∙ ap length c.self.view_is in
    let old = g.M.Look.shown.image c.args.space.now in
    let mid = g.M.Look.shown.image c.loop-i.space in
    let new = g.M.Look.shown.image c.store_changed.new.space in
    let word = slice_index c.self.inside.words i in
    let set : new ≡ slice_set mid (at + i) word = c.store_changed.ensures.image in
    let inside : at + i < length mid = omega (arith, many, c.requires.within, h.others.as_long) in
    record {
      stored = λ j lt. elim (cases_lt j i) [
        | inl less ↦
            let ne : at + j ≢ at + i = omega (arith, less) in
            ap (λ (v : List ℕ). slice_index v (at + j)) set ∙ get_or-set_other mid (at + i) (at + j) word 0 ne ∙ h.stored j less
        | inr ge ↦
            let same : j ≡ i = omega (arith, lt, ge) in
            ap (λ (v : List ℕ). slice_index v (at + j)) set ∙ get_or-set_at mid (at + i) (at + j) word 0 (omega (arith, same)) inside ∙ ap (λ x. slice_index c.self.inside.words x) (sym same)
      ];
      others = changes_joins at (i + 1) old mid new
          (changes_wider at (i + 1) at i (omega arith) (omega arith) old mid h.others)
          (subst (λ (v : List ℕ). ChangesOnly at (i + 1) mid v) (sym set) (changes_set at (i + 1) mid (at + i) word (omega arith) (omega arith)));
      costs = costs_then _ _ (omega arith) (omega arith) h.costs c.store_changed.ensures.costs;
    }

pub returns-clause-bytes : goal.returns-clause-bytes
returns-clause-bytes g c =
    let many : c.self.inside.len ≡ length c.args.self.now = sym (long_at c.self.inside.words 0 c.self.inside.len) ∙ ap length c.self.view_is in
    let new = g.M.Look.shown.image c.loop-i.space in
    ap (λ m. bytes_at new c.args.at m) (sym many) ∙ bytes_same new c.self.inside.words c.args.at 0 c.self.inside.len (λ j lt. c.loop-i.invariant.stored j (omega (arith, lt)) ∙ sym (from_zero c.self.inside.words j)) ∙ c.self.view_is

pub returns-clause-ends : goal.returns-clause-ends
returns-clause-ends g c k ge lt =
    let many : c.self.inside.len ≡ length c.args.self.now = sym (long_at c.self.inside.words 0 c.self.inside.len) ∙ ap length c.self.view_is in
    ends_same (g.M.Look.shown.image c.loop-i.space) c.self.inside.words c.args.at 0 c.self.inside.len (λ j less. c.loop-i.invariant.stored j (omega (arith, less)) ∙ sym (from_zero c.self.inside.words j)) (λ j far near. c.self.invariant.zero_past j far) k (omega (arith, many, ge)) (omega (arith, many, lt))

pub returns-clause-others : goal.returns-clause-others
returns-clause-others g c =
    let many : c.self.inside.len ≡ length c.args.self.now = sym (long_at c.self.inside.words 0 c.self.inside.len) ∙ ap length c.self.view_is in
    changes_wider c.args.at (words_for (length c.args.self.now)) c.args.at c.loop-i.i (omega arith) (omega (arith, many)) _ _ c.loop-i.invariant.others
