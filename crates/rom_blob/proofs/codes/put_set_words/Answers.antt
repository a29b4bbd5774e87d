use Rattle.std.proofs.Common.{◌∷◌, ◌++◌, [], List, ℕ, length, sym, ap, ◌∙◌, arith, add-one}
use Rattle.rom_blob_region.specs.Bytes.{words_from_bytes}
use Rattle.rom_blob_region.specs.Packed.{words_long}
use Rattle.rom_blob.proofs.codes.put_set_words.Goals as goal

pub extend-requires-in-loop-i : goal.extend-requires-in-loop-i
extend-requires-in-loop-i c = omega (arith, ap length c.loop-i.invariant.so_far, words_long c.args.bytes.now c.loop-i.i)

pub loop-i-preserved : goal.loop-i-preserved
loop-i-preserved c =
    let bytes = c.args.bytes.now in
    let front : List ℕ → List ℕ = λ ws. 1 ∷ c.args.key ∷ length bytes ∷ ws in
    record {
      so_far = c.extend-in-loop-i.ensures ∙ ap (λ ws. ws ++ c.word.result ∷ []) c.loop-i.invariant.so_far ∙ ap (λ x. front (words_from_bytes bytes c.loop-i.i ++ x ∷ [])) c.word.ensures.word ∙ ap (λ k. front (words_from_bytes bytes k)) (sym (add-one c.loop-i.i));
      within = omega arith;
      small = λ _ k. c.word.ensures.bytes k;
    }
