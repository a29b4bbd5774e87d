-- How a write to a word goes on with what is known of it.
use Rattle.std.proofs.Common.{◌≡◌, ◌≢◌, ℕ, ◌+◌, ◌<◌, Bool, true, false, ◌==◌, if◌then◌else◌, List, [], ◌∷◌, ◌++◌, length, slice_index, arith, sym, ap, ◌∙◌, inl, inr, set, length-append, refl, get_or-set_same}
use Rattle.std.proofs.Math.ListN.{get_or-append}
use Rattle.std.proofs.Math.Seq.{get_or-append_seam}
use Rattle.std.proofs.lemmas.Bool.{cases_eq}
use Rattle.std.proofs.lemmas.Bool.Decides.{nat_tests}
use Rattle.rom_device.specs.Log.{words_after}
use Rattle.rom_device.specs.Images.{length-words_after}
use Rattle.rom_device.specs.Choice.{possible}
use Rattle.rom_device.specs.Followed.{IsFollowed}
use Rattle.rom_device.specs.declared.call.LoggedCall.{LoggedCall}
use Rattle.rom_device.specs.declared.call.LoggedCall.TheVariants.{Write}
use Rattle.rom_device.specs.declared.followed.Followed.{Followed}

module _ (base : List ℕ) (log : List LoggedCall) (w : Followed) (is : IsFollowed base log w) (value : ℕ) (lands : Bool) (inside : w.at < length base) where
  reads_written : (reads : ℕ) → reads ≡ (if lands then value else w.reads) → reads ≡ slice_index (words_after base (Write w.at value lands ∷ log)) w.at
  reads_written reads e = e ∙ go lands
    where
      go : (b : Bool) → (if b then value else w.reads) ≡ slice_index (if b then set (words_after base log) w.at value else words_after base log) w.at
      go true = let long : w.at < length (words_after base log) = omega (arith, inside, length-words_after base log) in sym (rw get_or-set_same refl)
      go false = is.reads

  possible_written : possible base (Write w.at value lands ∷ log) w.at ≡ possible base log w.at ++ value ∷ []
  possible_written =
      let test : (w.at == w.at) ≡ true = grind (arith, nat_tests) in
      ap (λ (t : Bool). if t then possible base log w.at ++ value ∷ [] else possible base log w.at) test

  value_written : (v : ℕ) → (w.count ≡ w.number → v ≡ value) → (w.count ≢ w.number → v ≡ w.value) → w.number < w.count + 1
      → v ≡ slice_index (possible base log w.at ++ value ∷ []) w.number
  value_written v new old lt = elim (cases_eq w.count w.number) [
    | inl same ↦
        let last : w.number ≡ length (possible base log w.at) = sym same ∙ is.count in
        new same ∙ sym (get_or-append_seam (possible base log w.at) value [] 0) ∙ ap (λ n. slice_index (possible base log w.at ++ value ∷ []) n) (sym last)
    | inr other ↦
        let before : w.number < w.count = omega (arith, lt, other) in
        let within : w.number < length (possible base log w.at) = omega (arith, before, is.count) in
        old other ∙ is.value before ∙ sym (get_or-append (possible base log w.at) (value ∷ []) 0 w.number within)
  ]

  pub word_written : (reads v : ℕ) → reads ≡ (if lands then value else w.reads) → (w.count ≡ w.number → v ≡ value) → (w.count ≢ w.number → v ≡ w.value)
      → IsFollowed base (Write w.at value lands ∷ log) record { at = w.at; number = w.number; reads = reads; count = w.count + 1; value = v }
  word_written reads v e new old = record {
    reads = reads_written reads e;
    count = omega (arith, is.count, ap length possible_written, length-append (possible base log w.at) (value ∷ []));
    some = omega arith;
    most = omega (arith, is.most);
    value = λ lt. value_written v new old lt ∙ ap (λ ys. slice_index ys w.number) (sym possible_written);
  }
