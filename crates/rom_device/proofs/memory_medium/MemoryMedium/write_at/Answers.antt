use Rattle.std.proofs.Common.{◌≡◌, true, false, is_err, ◌-◌, drop, ◌+◌, ◌*◌, ◌∙◌, ℕ, List, length, arith, rules, refl, sym, ap, subst, set}
use Rattle.std.proofs.lemmas.List.{length-drop, take_all}
use Rattle.byteorder.specs.Endian.{little_number}
use Rattle.rom_device.specs.Laid.{word_among, words_among}
use Rattle.rom_device.specs.Memory.{shown_by_memory, Lists}
use Rattle.rom_device.specs.declared.call.LoggedCall.TheVariants.{Write}
use Rattle.rom_device.proofs.Laid.{laid_none, laid_next}
use Rattle.rom_device.proofs.Logged.{does_none, does_next, images_long, leaves_first, leaves_next, write_keeps}
use Rattle.rom_device.proofs.memory_medium.MemoryMedium.write_at.Goals as goal

pub loop-index-init : goal.loop-index-init
loop-index-init c = record {
  does = does_none c.args.at _ c.args.self.now;
  faults = refl;
  written = sym (laid_none c.args.at (word_among c.args.bytes.now) (shown_by_memory.words c.args.self.now));
  keeps = λ i left. left;
  each = leaves_first c.args.at (word_among c.args.bytes.now) c.args.self.now;
}

pub returns-then-is_err-clause-hands : goal.returns-then-is_err-clause-hands
unfolding word_among
returns-then-is_err-clause-hands c =
    let index : ℕ = c.loop-index.index in
    let bytes : List ℕ = c.args.bytes.now in
    let value : c.read_u64-value.result ≡ word_among bytes index =
    c.read_u64-value.ensures ∙ ap (little_number 8) (take_all (length bytes - 8 * index) (drop (8 * index) bytes) (omega (arith, length-drop (8 * index) bytes))) in
    record {
      does = does_next c.args.at (word_among bytes) index (words_among bytes) c.read_u64-value.result c.loop-index-test.true value c.args.self.now c.loop-index.self c.write.new.self c.loop-index.invariant.does c.write.ensures.does;
      written = λ told. search rules;
      renewed = tt;
      keeps = λ told i left. write_keeps (c.args.at + index) c.read_u64-value.result c.loop-index.self c.write.new.self c.write.result c.write.ensures.lists i (c.loop-index.invariant.keeps i left);
      each = λ told. search rules;
    }

pub loop-index-preserved : goal.loop-index-preserved
unfolding word_among
loop-index-preserved c =
    let index : ℕ = c.loop-index.index in
    let bytes : List ℕ = c.args.bytes.now in
    let value : c.read_u64-value.result ≡ word_among bytes index =
    c.read_u64-value.ensures ∙ ap (little_number 8) (take_all (length bytes - 8 * index) (drop (8 * index) bytes) (omega (arith, length-drop (8 * index) bytes))) in
    let well : is_err c.write.result ≡ false = search rules in
    let lists : Lists (Write (c.args.at + index) (word_among bytes index) true) c.loop-index.self c.write.new.self c.write.result = subst (λ (v : ℕ). Lists (Write (c.args.at + index) v true) c.loop-index.self c.write.new.self c.write.result) value c.write.ensures.lists in
    let put : shown_by_memory.words c.write.new.self ≡ set (shown_by_memory.words c.loop-index.self) (c.args.at + index) c.read_u64-value.result = search rules in
    record {
      does = does_next c.args.at (word_among bytes) index (words_among bytes) c.read_u64-value.result c.loop-index-test.true value c.args.self.now c.loop-index.self c.write.new.self c.loop-index.invariant.does c.write.ensures.does;
      faults = search rules;
      written = put ∙ ap (λ (v : ℕ). set (shown_by_memory.words c.loop-index.self) (c.args.at + index) v) value ∙ ap (λ (x : List ℕ). set x (c.args.at + index) (word_among bytes index)) c.loop-index.invariant.written ∙ sym (laid_next c.args.at (word_among bytes) index (shown_by_memory.words c.args.self.now));
      keeps = λ i left. write_keeps (c.args.at + index) c.read_u64-value.result c.loop-index.self c.write.new.self c.write.result c.write.ensures.lists i (c.loop-index.invariant.keeps i left);
      each = leaves_next c.args.at (word_among bytes) index c.args.self.now c.loop-index.self c.write.new.self c.write.result well (λ i left. omega (arith, images_long c.args.self.now i left, c.requires.inside refl, c.loop-index-test.true)) lists c.loop-index.invariant.each;
    }
