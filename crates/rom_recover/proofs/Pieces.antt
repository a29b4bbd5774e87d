-- Words of both regions that were read by pieces.
use Rattle.std.proofs.Common.{◌≡◌, ◌≢◌, inl, inr, ℕ, ◌+◌, ◌-◌, ◌*◌, ◌<◌, ◌≤◌, List, ◌++◌, length, slice_index, arith, sym, ap, ◌∙◌}
use Rattle.std.specs.Prelude.{Err}
use Rattle.std.proofs.lemmas.Bool.{cases_lt}
use Rattle.std.proofs.lemmas.List.{get_or_append_left}
use Rattle.rom_header.specs.Headers.{IsIdle}
use Rattle.rom_model.specs.Blocks.{region_len}
use Rattle.rom_header.specs.Layout.{MAIN, back_at}
use Rattle.rom_model.specs.Faults.{Adds, AtMost}
use Rattle.rom_recover.specs.Calls.{reads_until}
use Rattle.rom_recover.specs.declared.recovery.RecoverRefused.{RecoverRefused}
use Rattle.rom_recover.specs.declared.recovery.RecoverRefused.TheVariants.{Twins, Device}
use Rattle.rom_recover.specs.Recovered.{StandsFrom, AreTwins, DifferAt}

-- the words of a piece that was read from there on
abbrev pub IsPiece : ℕ → ℕ → List ℕ → List ℕ → Type 0
IsPiece at count words piece = (k : ℕ) → k < count → slice_index piece k ≡ slice_index words (at + k)

-- Both regions were read from there on, each to the front of an array, and back for as many words as
-- main at most. Between the two reads the words stayed.
module _ (order from at_main at_back first second : ℕ) (words later main back main_rest back_rest : List ℕ) (main_at : at_main ≡ MAIN + from) (back_at_is : at_back ≡ back_at order + from)
    (stays : later ≡ words) (most : second ≤ first) (main_fits : first ≤ length main) (back_fits : second ≤ length back)
    (main_read : IsPiece at_main first words main) (back_read : IsPiece at_back second later back) where
  pub main_word : (k : ℕ) → k < second → slice_index words (MAIN + (from + k)) ≡ slice_index (main ++ main_rest) k
  main_word k lt =
      let place : MAIN + (from + k) ≡ at_main + k = omega (arith, main_at) in
      ap (slice_index words) place ∙ sym (main_read k (omega (arith, lt, most))) ∙ sym (get_or_append_left main main_rest 0 k (omega (arith, lt, most, main_fits)))

  pub back_word : (k : ℕ) → k < second → slice_index words (back_at order + (from + k)) ≡ slice_index (back ++ back_rest) k
  back_word k lt =
      let place : back_at order + (from + k) ≡ at_back + k = omega (arith, back_at_is) in
      ap (slice_index words) place ∙ ap (λ (ws : List ℕ). slice_index ws (at_back + k)) (sym stays) ∙ sym (back_read k lt) ∙ sym (get_or_append_left back back_rest 0 k (omega (arith, lt, back_fits)))

  -- regions that are the same so far, and then in what was read
  pub twins_on : (count : ℕ) → count ≤ second → AreTwins order from words → ((k : ℕ) → k < count → slice_index (main ++ main_rest) k ≡ slice_index (back ++ back_rest) k) → AreTwins order (from + count) words
  twins_on count fits so_far same k lt = elim (cases_lt k from) [
    | inl before ↦ so_far k before
    | inr behind ↦
        let there : from + (k - from) ≡ k = omega (arith, behind) in
        let within : k - from < count = omega (arith, lt, behind) in
        let read : k - from < second = omega (arith, within, fits) in
        ap (λ (j : ℕ). slice_index words (MAIN + j)) (sym there) ∙ main_word (k - from) read ∙ same (k - from) within
        ∙ sym (back_word (k - from) read) ∙ ap (λ (j : ℕ). slice_index words (back_at order + j)) there
  ]

  -- the first difference of what was read is that of the regions
  pub differ_at : (index : ℕ) → IsIdle words → from + first ≤ region_len order → AreTwins order from words → index < second
      → slice_index (main ++ main_rest) index ≢ slice_index (back ++ back_rest) index → ((k : ℕ) → k < index → slice_index (main ++ main_rest) k ≡ slice_index (back ++ back_rest) k)
      → DifferAt order words (from + index) (slice_index (main ++ main_rest) index) (slice_index (back ++ back_rest) index)
  differ_at index idle fits so_far within differ same = record {
    idle = idle;
    within = omega (arith, fits, most, within);
    main_is = main_word index within;
    back_is = back_word index within;
    differ = differ;
    first = twins_on index (omega (arith, within)) so_far same;
  }

-- the reads of a comparison that ends in this piece, after those of the pieces before it
pub reads_on : (from count len before mid now : ℕ) (r : RecoverRefused) → count ≤ 64 → from + count ≤ len → StandsFrom from r → Adds (2 * from) before mid
    → AtMost (reads_until {T = Unit {0}} (2 * count) (Err r)) mid now → AtMost (reads_until {T = Unit {0}} (2 * len) (Err r)) before now
reads_on from count len before mid now (Twins offset main back) small within stands so_far more = record { later = omega (arith, so_far, more.later); most = omega (arith, so_far, more.most, stands, small, within) }
reads_on from count len before mid now Device small within stands so_far more = record { later = omega (arith, so_far, more.later); most = omega (arith, so_far, more.most, within) }
