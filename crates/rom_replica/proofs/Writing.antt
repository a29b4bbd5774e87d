-- The frames of updates that are written one after another.
use Rattle.std.specs.Prelude.{◌≡◌, ℕ, ◌+◌, ◌-◌, ◌<◌, List, [], ◌∷◌, ◌++◌, Option, Some, None, Result, Ok}
use Rattle.std.proofs.Common.{zero, suc, refl, sym, ap, ◌∙◌, subst, arith, append_assoc, append-nil}
use Rattle.std.proofs.lemmas.Grind.{flat_map-append}
use Rattle.std.proofs.lemmas.List.Concat.{flat_map-cons}
use Rattle.std.specs.Io.KnownBytes.{Appends}
use Rattle.std.specs.List.{AllByRecursion, flat_map}
use Rattle.std.specs.Option.{option_map_or}
use Rattle.rom_frame.specs.Frames.{IsOfWords, frame}
use Rattle.rom_frame.specs.declared.frame.Frame.{Frame}
use Rattle.rom_lines.proofs.Runs.{all_and_one}
use Rattle.rom_text.specs.Streams.{Prints, ShownSink}
use Rattle.rom_text.proofs.Prints.{Printed, Stopped, printed_both, stopped_first, stopped_second}
use Rattle.rom_replica.specs.Merging.{merged_frames, next_update}

no_more : (bytes : Option (List ℕ)) → Appends bytes bytes []
no_more None = tt
no_more (Some bs) = sym (append-nil bs)

-- one turn more
turn_more : (n : ℕ) (queues left : List (List Frame)) (f : Frame) → Some (f, left) ≡ next_update queues → merged_frames (suc n) queues ≡ f ∷ merged_frames n left
turn_more n queues left f is = ap (λ (o : Option (Frame × List (List Frame))). option_map_or (λ r. r.0 ∷ merged_frames n r.1) o []) (sym is)

pub no_turn : (n : ℕ) (queues : List (List Frame)) → None ≡ next_update queues → merged_frames n queues ≡ []
no_turn zero queues is = refl
no_turn (suc n) queues is = ap (λ (o : Option (Frame × List (List Frame))). option_map_or (λ r. r.0 ∷ merged_frames n r.1) o []) (sym is)

module _ {K : Type 0} (sink : ShownSink K) (old : K) (count : ℕ) (queues : List (List Frame)) where
  -- These updates are written, and the others come in so many turns of what is left.
  pub record IsUnderWay (now : K) (turns : ℕ) (left : List (List Frame)) : Type 0 where
    pub so : List Frame
    pub written : Printed sink old now (flat_map frame so)
    pub of_words : AllByRecursion IsOfWords so
    pub others : merged_frames count queues ≡ so ++ merged_frames turns left

  -- at first none is
  pub under_way : IsUnderWay old count queues
  under_way = record { so = []; written = record { bytes = no_more (sink.taken old); faults = refl; rest = refl }; of_words = tt; others = refl }

  module _ (now : K) (left : List (List Frame)) where
    -- one more is written
    pub goes_on : (turn : ℕ) (later : K) (f : Frame) (rest : List (List Frame)) → turn < count → IsUnderWay now (count - turn) left → Some (f, rest) ≡ next_update left → Printed sink now later (frame f) → IsOfWords f → IsUnderWay later (count - (turn + 1)) rest
    goes_on turn later f rest lt way is more one =
        let n : ℕ = count - (turn + 1) in
        let turns : count - turn ≡ suc n = omega (arith, lt) in
        let behind : merged_frames (count - turn) left ≡ f ∷ merged_frames n rest = ap (λ (z : ℕ). merged_frames z left) turns ∙ turn_more n left rest f is in
        record {
          so = way.so ++ f ∷ [];
          written = subst (λ bs. Printed sink old later bs) (ap (λ bs. flat_map frame way.so ++ bs) (sym (append-nil (frame f))) ∙ ap (λ bs. flat_map frame way.so ++ bs) (sym (flat_map-cons frame f [])) ∙ sym (flat_map-append frame way.so (f ∷ [])))
              (printed_both sink old now later (flat_map frame way.so) (frame f) way.written more);
          of_words = all_and_one IsOfWords way.so f way.of_words one;
          others = way.others ∙ ap (λ fs. way.so ++ fs) behind ∙ sym (append_assoc way.so (f ∷ []) (merged_frames n rest));
        }

    -- the next one is cut short
    pub cut : (turn : ℕ) (later : K) (f : Frame) (rest : List (List Frame)) → turn < count → IsUnderWay now (count - turn) left → Some (f, rest) ≡ next_update left → Stopped sink now later (frame f) → Stopped sink old later (flat_map frame (merged_frames count queues))
    cut turn later f rest lt way is some =
        let n : ℕ = count - (turn + 1) in
        let turns : count - turn ≡ suc n = omega (arith, lt) in
        let behind : merged_frames (count - turn) left ≡ f ∷ merged_frames n rest = ap (λ (z : ℕ). merged_frames z left) turns ∙ turn_more n left rest f is in
        subst (λ bs. Stopped sink old later bs)
        (sym (ap (flat_map frame) (way.others ∙ ap (λ fs. way.so ++ fs) behind) ∙ flat_map-append frame way.so (f ∷ merged_frames n rest) ∙ ap (λ bs. flat_map frame way.so ++ bs) (flat_map-cons frame f (merged_frames n rest))))
        (stopped_second sink old now later (flat_map frame way.so) (frame f ++ flat_map frame (merged_frames n rest)) way.written (stopped_first sink now later (frame f) (flat_map frame (merged_frames n rest)) some))

    -- none is left
    module _ (turns : ℕ) (way : IsUnderWay now turns left) (none : merged_frames turns left ≡ []) where
      all_so : merged_frames count queues ≡ way.so
      all_so = way.others ∙ ap (λ fs. way.so ++ fs) none ∙ append-nil way.so

      pub whole : {E : Type 0} → (let r : Result (Unit {0}) E = Ok tt in Prints sink old now r (flat_map frame (merged_frames count queues)))
      whole {E} = record {
        bytes = subst (λ fs. Appends (sink.taken old) (sink.taken now) (flat_map frame fs)) (sym all_so) way.written.bytes;
        cause = record { none = way.written.faults; failed = tt };
        rest = way.written.rest;
      }

      pub whole_of_words : AllByRecursion IsOfWords (merged_frames count queues)
      whole_of_words = subst (AllByRecursion IsOfWords) (sym all_so) way.of_words
