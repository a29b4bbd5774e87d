-- Sources that are read in order.
use Rattle.std.specs.Prelude.{◌≡◌, ℕ, ◌+◌, ◌<◌, ◌≤◌, List, [], ◌∷◌, ◌++◌, length, take, drop, map, slice_set, ◌≢◌, Option, Some, IfSome, Result, Ok, Err}
use Rattle.std.proofs.Common.{suc, refl, sym, ap, subst, ◌∙◌, arith, inl, get_or, take-append-drop}
use Rattle.std.proofs.lemmas.List.{drop-set, drop-set-lt, drop_more, length-set, map-append, take_all, take-set, take_more, take_more_set}
use Rattle.std.proofs.lemmas.Option.{slice_get-get_or}
use Rattle.std.specs.List.{AllByRecursion}
use Rattle.std.specs.Io.KnownBytes.{IsAtEnd}
use Rattle.rom_model.specs.declared.line.Step.{Step}
use Rattle.rom_lines.proofs.Runs.{all_and_one}
use Rattle.rom_text.specs.Limits.{EndsReading, FitsScript}
use Rattle.rom_text.specs.Runs.{AreAskedOnce, AreAtEnd, AreNotTooLong}
use Rattle.rom_text.specs.Lines.{AreScripts, AreStepsOf}
use Rattle.rom_text.specs.Streams.{ShownSource, IsAskedOnce}
use Rattle.rom_text.specs.declared.read.ReadRefused.{ReadRefused}
use Rattle.rom_text.specs.declared.read.ReadRefused.TheVariants as refused
use Rattle.rom_run.specs.Reading.{IsCause, IsUnreadAt, unread_status}
use Rattle.rom_run.specs.declared.script.Unread.TheVariants.{Script}
use Rattle.rom_run.specs.declared.status.Status.TheVariants.{ScriptFailed}

module _ {S : Type 0} (source : ShownSource S) where
  unasked : (s : S) → IsAskedOnce source s s
  unasked s = record { idle = inl refl; faults = inl refl }

  -- sources that no read was made of
  pub all_unasked : (xs : List S) → AreAskedOnce source xs xs
  all_unasked [] = tt
  all_unasked (x ∷ xs) = (unasked x, all_unasked xs)

  -- where there are none, none is too long, and no byte is left
  pub none_left : (xs : List S) → length xs ≡ 0 → AreNotTooLong source xs × AreAtEnd source xs
  none_left [] none = (tt, tt)
  none_left (x ∷ xs) none = absurd (omega arith)

  -- some sources were asked, and then others
  both_asked : (xs ys vs ws : List S) → AreAskedOnce source xs ys → AreAskedOnce source vs ws → AreAskedOnce source (xs ++ vs) (ys ++ ws)
  both_asked [] [] vs ws first others = others
  both_asked [] (y ∷ ys) vs ws first others = absurd first
  both_asked (x ∷ xs) [] vs ws first others = absurd first
  both_asked (x ∷ xs) (y ∷ ys) vs ws first others = (first.0, both_asked xs ys vs ws first.1 others)

module _ {S C Q : Type 0} (Reads : List ℕ → Step C Q → Type 0) (source : ShownSource S) where
  one_script_more : (xs : List S) (scripts : List (List (Step C Q))) (x : S) (steps : List (Step C Q)) → AreScripts Reads source xs scripts → AreStepsOf Reads (source.left x) steps →
      AreScripts Reads source (xs ++ x ∷ []) (scripts ++ steps ∷ [])
  one_script_more [] [] x steps read is = (is, tt)
  one_script_more [] (ss ∷ scripts) x steps read is = absurd read
  one_script_more (y ∷ xs) [] x steps read is = absurd read
  one_script_more (y ∷ xs) (ss ∷ scripts) x steps read is = (read.0, one_script_more xs scripts x steps read.1 is)

  -- there are as many scripts as sources
  pub as_many_scripts : (xs : List S) (scripts : List (List (Step C Q))) → AreScripts Reads source xs scripts → length scripts ≡ length xs
  as_many_scripts [] [] read = refl
  as_many_scripts [] (ss ∷ scripts) read = absurd read
  as_many_scripts (x ∷ xs) [] read = absurd read
  as_many_scripts (x ∷ xs) (ss ∷ scripts) read = ap suc (as_many_scripts xs scripts read.1)

  -- The first sources, so many, are read to their ends, and the others are as they were.
  pub record AreReadUpTo (i : ℕ) (before after : List S) (scripts : List (List (Step C Q))) : Type 0 where
    pub read : AreScripts Reads source (take i before) scripts
    pub within : AreNotTooLong source (take i before)
    pub at_end : AreAtEnd source (take i after)
    pub asked : AreAskedOnce source (take i before) (take i after)
    pub faults : map source.faults (take i after) ≡ map source.faults (take i before)
    pub others : drop i after ≡ drop i before
    pub as_many : length after ≡ length before

  pub none_read : (xs : List S) → AreReadUpTo 0 xs xs []
  none_read xs = record { read = tt; within = tt; at_end = tt; asked = tt; faults = refl; others = refl; as_many = refl }

  -- all are read
  pub all_read : (i : ℕ) (before after : List S) (scripts : List (List (Step C Q))) → AreReadUpTo i before after scripts → length before ≤ i → (take i before ≡ before) × (take i after ≡ after)
  all_read i before after scripts r over = (take_all i before over, take_all i after (omega (arith, r.as_many, over)))

  -- Of the source at the next place, before and after its reading:
  module _ (i : ℕ) (before after : List S) (scripts : List (List (Step C Q))) (x now : S) (lt : i < length after) (is : x ≡ get_or after i x) (r : AreReadUpTo i before after scripts) where
    lt_before : i < length before
    lt_before = omega (arith, lt, r.as_many)

    -- what is left begins with it
    left_is : x ∷ drop (i + 1) after ≡ get_or before i x ∷ drop (i + 1) before
    left_is = ap (λ y. y ∷ drop (i + 1) after) is ∙ sym (drop_more after i x lt) ∙ r.others ∙ drop_more before i x lt_before

    -- it was not read yet
    pub stood_here : get_or before i x ≡ x
    stood_here = sym (ap (λ ys. get_or ys 0 x) left_is)

    behind : drop (i + 1) after ≡ drop (i + 1) before
    behind = ap (λ ys. drop 1 ys) left_is

    first_before : take (i + 1) before ≡ take i before ++ x ∷ []
    first_before = take_more before i x lt_before ∙ ap (λ y. take i before ++ y ∷ []) stood_here

    first_after : take (i + 1) (slice_set after i now) ≡ take i after ++ now ∷ []
    first_after = take_more_set after i now lt

    behind_after : drop (i + 1) (slice_set after i now) ≡ drop (i + 1) before
    behind_after = drop-set-lt (i + 1) after i now (omega arith) ∙ behind

    asked_here : IsAskedOnce source x now → AreAskedOnce source (take (i + 1) before) (take (i + 1) (slice_set after i now))
    asked_here once = subst (λ (z : List S × List S). AreAskedOnce source z.0 z.1) (λ j. (sym first_before j, sym first_after j)) (both_asked source _ _ (x ∷ []) (now ∷ []) r.asked (once, tt))

    -- of none of the sources a read was made after one that gave no byte
    pub asked_so_far : IsAskedOnce source x now → AreAskedOnce source before (slice_set after i now)
    asked_so_far once =
        let whole : take (i + 1) (slice_set after i now) ++ drop (i + 1) before ≡ slice_set after i now
        = ap (λ ys. take (i + 1) (slice_set after i now) ++ ys) (sym behind_after) ∙ take-append-drop (i + 1) (slice_set after i now) in
        subst (λ (z : List S × List S). AreAskedOnce source z.0 z.1) (λ j. (take-append-drop (i + 1) before j, whole j))
        (both_asked source _ _ (drop (i + 1) before) (drop (i + 1) before) (asked_here once) (all_unasked source (drop (i + 1) before)))

    faults_here : source.faults now ≡ source.faults x → map source.faults (take (i + 1) (slice_set after i now)) ≡ map source.faults (take (i + 1) before)
    faults_here same =
        ap (map source.faults) first_after ∙ map-append source.faults (take i after) (now ∷ []) ∙ ap (λ ys. ys ++ source.faults now ∷ []) r.faults ∙ ap (λ n. map source.faults (take i before) ++ n ∷ []) same
        ∙ sym (ap (map source.faults) first_before ∙ map-append source.faults (take i before) (x ∷ []))

    -- no source failed
    pub unfailed_so_far : source.faults now ≡ source.faults x → map source.faults (slice_set after i now) ≡ map source.faults before
    unfailed_so_far same =
        sym (ap (map source.faults) (take-append-drop (i + 1) (slice_set after i now))) ∙ map-append source.faults (take (i + 1) (slice_set after i now)) (drop (i + 1) (slice_set after i now))
        ∙ ap (λ ys. ys ++ map source.faults (drop (i + 1) (slice_set after i now))) (faults_here same)
        ∙ ap (λ ys. map source.faults (take (i + 1) before) ++ map source.faults ys) behind_after
        ∙ sym (map-append source.faults (take (i + 1) before) (drop (i + 1) before)) ∙ ap (map source.faults) (take-append-drop (i + 1) before)

    -- it is read too
    pub one_read_more : (steps : List (Step C Q)) → AreStepsOf Reads (source.left x) steps → IfSome (source.left x) FitsScript → IsAtEnd (source.left now) → IsAskedOnce source x now → source.faults now ≡ source.faults x →
        AreReadUpTo (i + 1) before (slice_set after i now) (scripts ++ steps ∷ [])
    one_read_more steps read fits ends once same = record {
      read = subst (λ ys. AreScripts Reads source ys (scripts ++ steps ∷ [])) (sym first_before) (one_script_more (take i before) scripts x steps r.read read);
      within = subst (λ ys. AreNotTooLong source ys) (sym first_before) (all_and_one _ (take i before) x r.within fits);
      at_end = subst (λ ys. AreAtEnd source ys) (sym first_after) (all_and_one _ (take i after) now r.at_end ends);
      asked = asked_here once;
      faults = faults_here same;
      others = behind_after;
      as_many = length-set after i now ∙ r.as_many;
    }

    -- it is the first that can't be read
    pub first_unread : (why : ReadRefused) → IsCause source why x now → IsUnreadAt source (i + 1) why before (slice_set after i now)
    first_unread why cause = record {
      script = i;
      was = x;
      now = now;
      number_is = refl;
      first = record {
        stood = slice_get-get_or before i x lt_before ∙ ap (λ y. let some : Option S = Some y in some) stood_here;
        stands = slice_get-get_or (slice_set after i now) i now (omega (arith, lt, length-set after i now)) ∙ ap (λ y. let some : Option S = Some y in some) set_here;
        others_fit = r.within;
        others_read = subst (λ ys. AreAtEnd source ys) (sym (take-set after i now)) r.at_end;
        others_left = behind_after;
      };
      cause = cause;
    }
      where
        set_here : get_or (slice_set after i now) i now ≡ now
        set_here = ap (λ ys. get_or ys 0 now) (sym (drop_more (slice_set after i now) i now (omega (arith, lt, length-set after i now))) ∙ drop-set after i now lt)

module _ {S : Type 0} (source : ShownSource S) where
  -- why it can't be read, by how its reading ended
  pub cause_of : {T : Type 0} (why : ReadRefused) (was now : S) → (let r : Result T ReadRefused = Err why in EndsReading source was now r) → IsCause source why was now
  cause_of refused.Failed was now ends = ends.failed refl
  cause_of refused.TooLong was now ends = ends.too_long refl
  cause_of refused.OutOfMemory was now ends = tt

  -- no read failed, if that is not why
  pub unfailed_by : {T : Type 0} (why : ReadRefused) (number : ℕ) (was now : S) → (let r : Result T ReadRefused = Err why in EndsReading source was now r) → unread_status (Script number why) ≢ ScriptFailed →
      source.faults now ≡ source.faults was
  unfailed_by refused.Failed number was now ends not = absurd (not refl)
  unfailed_by refused.TooLong number was now ends not = ends.unfailed (λ is. cc)
  unfailed_by refused.OutOfMemory number was now ends not = ends.unfailed (λ is. cc)

  pub unfailed_read : {T : Type 0} (value : T) (was now : S) → (let r : Result T ReadRefused = Ok value in EndsReading source was now r) → source.faults now ≡ source.faults was
  unfailed_read value was now ends = ends.unfailed (λ is. cc)
