use Rattle.std.proofs.Common.{◌≡◌, inl, inr, ◌+◌, ◌-◌, ◌*◌, ◌<◌, ◌≤◌, ◌^◌, ◌∙◌, ℕ, List, length, drop, slice_index, arith, rules, refl, sym, ap, subst}
use Rattle.std.proofs.lemmas.Bool.{cases_eq}
use borrow.Rule.Slice.PartMut.{put_mid}
use Rattle.byteorder.specs.Endian.{little_number}
use Rattle.rom_device.specs.Laid.{word_among}
use Rattle.rom_device.specs.Memory.{shown_by_memory}
use Rattle.rom_device.proofs.Paged.{word_here, word_other}
use Rattle.rom_device.proofs.memory_medium.MemoryMedium.read_at.Goals as goal

pub loop-index-preserved : goal.loop-index-preserved
unfolding word_among
loop-index-preserved c =
    let index : ℕ = c.loop-index.index in
    let at : ℕ = 8 * index in
    let bytes : List ℕ = c.loop-index.into in
    let whole : at + (length bytes - at) ≡ length bytes = omega (arith, c.loop-index-test.true, c.requires.whole, c.loop-index.invariant.len) in
    let room : 8 ≤ length bytes - at = omega (arith, c.loop-index-test.true, c.requires.whole, c.loop-index.invariant.len) in
    let word : ℕ = c.in-Ok.word in
    let small : c.in-Ok.word < 2 ^ 64 = search rules in
    record {
      len = search rules;
      words = λ k lt. elim (cases_eq k index) [
        | inl same ↦
            let here : little_number 8 (drop at (put_mid at (length bytes - at) bytes c.write_u64.new.buf)) ≡ word =
            ap (λ (part : List ℕ). little_number 8 (drop at (put_mid at (length bytes - at) bytes part))) c.write_u64.ensures ∙ word_here bytes at (length bytes - at) word whole room small in
            subst (λ (n : ℕ). little_number 8 (drop (8 * n) (put_mid at (length bytes - at) bytes c.write_u64.new.buf)) ≡ slice_index (shown_by_memory.words c.args.self.now) (c.args.at + n)) (sym same)
            (here ∙ c.in-Ok.ensures.word ∙ ap (λ (x : List ℕ). slice_index x (c.args.at + index)) (c.loop-index.invariant.only.words refl))
        | inr other ↦
            let stays : little_number 8 (drop (8 * k) (put_mid at (length bytes - at) bytes c.write_u64.new.buf)) ≡ little_number 8 (drop (8 * k) bytes) =
            ap (λ (part : List ℕ). little_number 8 (drop (8 * k) (put_mid at (length bytes - at) bytes part))) c.write_u64.ensures ∙ word_other bytes at (length bytes - at) word whole room index k refl other in
            stays ∙ c.loop-index.invariant.words k (omega (arith, lt, other))
      ];
      only = search rules;
      faults = search rules;
    }
