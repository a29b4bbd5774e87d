-- How a talk goes on: more is heard once all that is known is answered, and the next line is answered once it is known.
use Rattle.std.specs.Prelude.{◌≡◌, ℕ, ◌+◌, ◌≤◌, Bool, true, cond, List, [], ◌∷◌, ◌++◌, length, take}
use Rattle.std.specs.List.{concat}
use Rattle.std.proofs.Common.{⊎_elim, refl, sym, ap, subst, ◌∙◌, append_assoc, append-nil, arith, length-append}
use Rattle.std.proofs.lemmas.Bool.{cases_lt}
use Rattle.std.proofs.lemmas.Grind.{flat_map-append}
use Rattle.std.proofs.lemmas.List.{take-append-le, take-take, take_all, take_at}
use Rattle.std.proofs.lemmas.List.Folds.{concat-append}
use Rattle.rom_model.specs.declared.line.Step.{Step}
use Rattle.rom_model.specs.declared.line.LineResult.{LineResult}
use Rattle.rom_text.specs.Lines.{AreRead, lines_of}
use Rattle.rom_text.specs.Text.{Texts, line_text, result_text, results_text}
use Rattle.rom_hear.specs.Events.{Event, Heard, Said, has_ended, heard_in, heards, known_in, known_lines, said_in, saids, whole_lines}
use Rattle.rom_hear.specs.Hearing.{HasAsked, HasHanded}
use Rattle.rom_hear.specs.Talking.{IsFounded, IsFrontOf, IsOn, IsPrompt, IsTalk}
use Rattle.rom_hear.specs.declared.ear.Ear.{Ear}
use Rattle.rom_hear.proofs.Fronts.{each_of_both, front_behind, front_more, front_of_both, front_of_front, front_same, mapped_at, mapped_front}
use Rattle.rom_hear.proofs.Hearing.{known_is, test_same}
use Rattle.rom_hear.proofs.Logs.{has_ended-append, has_ended-saids, heard_in-append, heard_in-saids, said_in-append, said_in-heards, said_in-saids}

-- each line that was read, and one more
pub read_more : {C Q : Type 0} (Reads : List ℕ → Step C Q → Type 0) (lines : List (List ℕ)) (steps : List (Step C Q)) (line : List ℕ) (step : Step C Q) → AreRead Reads lines steps → Reads line step → AreRead Reads (lines ++ line ∷ []) (steps ++ step ∷ [])
read_more Reads [] [] line step all one = (one, tt)
read_more Reads [] (s ∷ steps) line step all one = absurd all
read_more Reads (l ∷ lines) [] line step all one = absurd all
read_more Reads (l ∷ lines) (s ∷ steps) line step all one = (all.0, read_more Reads lines steps line step all.1 one)

pub read_length : {C Q : Type 0} (Reads : List ℕ → Step C Q → Type 0) (lines : List (List ℕ)) (steps : List (Step C Q)) → AreRead Reads lines steps → length lines ≡ length steps
read_length Reads [] [] all = refl
read_length Reads [] (s ∷ steps) all = absurd all
read_length Reads (l ∷ lines) [] all = absurd all
read_length Reads (l ∷ lines) (s ∷ steps) all = omega (arith, read_length Reads lines steps all.1)

-- lines that were handed out are known
pub handed_known : (ear : Ear) (ended : Bool) (heard : List ℕ) (lines : List (List ℕ)) → HasHanded ear ended heard lines → length lines ≤ whole_lines ended heard
handed_known ear ended heard lines here = omega (arith, known_is ended heard _ lines here.cut)

-- and they are the first ones
pub handed_first : {K : Type 0} (ear : Ear) (log : List (Event K)) (lines : List (List ℕ)) → HasHanded ear (has_ended log) (heard_in log) lines → take (length lines) (known_lines log) ≡ lines
handed_first ear log lines here =
    let all : lines_of (heard_in log) ≡ lines ++ lines_of ((here.passed ++ _) ++ []) = ap lines_of (sym (append-nil (heard_in log))) ∙ here.cut.split [] (λ e. refl) in
    take-take (length lines) (known_in log) (lines_of (heard_in log)) (handed_known ear (has_ended log) (heard_in log) lines here)
    ∙ ap (take (length lines)) all ∙ take_at lines _ (length lines) refl

module _ {R A : Type 0} (texts : Texts R A) where
  text-append : (results more : List (LineResult R A)) → results_text texts (results ++ more) ≡ results_text texts results ++ results_text texts more
  text-append results more = flat_map-append (λ r. line_text (result_text texts r)) results more

  text_one : (results : List (LineResult R A)) (r : LineResult R A) → results_text texts (results ++ r ∷ []) ≡ results_text texts results ++ line_text (result_text texts r)
  text_one results r = text-append results (r ∷ []) ∙ ap (λ (bs : List ℕ). results_text texts results ++ bs) (append-nil (line_text (result_text texts r)))

module _ {R A K : Type 0} (texts : Texts R A) where
  -- nothing has passed yet
  pub on_first : (Knows : K → List (LineResult R A) → Type 0) → IsOn texts Knows [] []
  on_first Knows = record {
    prompt = record {
      answered = λ before after bytes is. absurd (omega (arith, ap length is, length-append before (Heard bytes ∷ after)));
      caused = λ before after is. none before after is;
    };
    founded = λ before after bytes knowing is. absurd (omega (arith, ap length is, length-append before (Said bytes knowing ∷ after)));
    said = refl;
  }
    where
      none : (before after : List (Event K)) → [] ≡ before ++ after → IsFrontOf (said_in before) (results_text texts (take (known_in before) []))
      none [] after is = (0, refl)
      none (e ∷ before) after is = cc

  module _ (Knows : K → List (LineResult R A) → Type 0) (results : List (LineResult R A)) (log : List (Event K)) (on : IsOn texts Knows results log) where
    abbrev Answered : List (LineResult R A) → List (Event K) → Type 0
    Answered rs before = (known_in before ≤ length rs) × (said_in before ≡ results_text texts (take (known_in before) rs))

    abbrev Caused : List (LineResult R A) → List (Event K) → Type 0
    Caused rs before = IsFrontOf (said_in before) (results_text texts (take (known_in before) rs))

    abbrev FoundedIn : List (LineResult R A) → List (Event K) → List ℕ → K → Type 0
    FoundedIn rs before bytes by = (n : ℕ) × (n ≤ known_in before) × (n ≤ length rs) × IsFrontOf (said_in before ++ bytes) (results_text texts (take n rs)) × Knows by (take n rs)

    said_still : (pieces : List (List ℕ)) → said_in (log ++ heards pieces) ≡ results_text texts results
    said_still pieces = said_in-append log (heards pieces) ∙ ap (λ (bs : List ℕ). said_in log ++ bs) (said_in-heards K pieces) ∙ append-nil (said_in log) ∙ on.said

    -- More is heard, as no more lines are known than were answered.
    pub on_heard : (longer : List (Event K)) → HasAsked (length results) log longer → length results ≤ known_in longer → IsOn texts Knows results longer
    on_heard longer asked known = subst (IsOn texts Knows results) (sym asked.grown) (record {
      prompt = record {
        answered = λ before after bytes is. each_of_both (λ before e. (bytes : List ℕ) → e ≡ Heard bytes → Answered results before) log (heards asked.pieces)
            (λ front later e same bytes is. on.prompt.answered front later bytes (same ∙ ap (λ x. front ++ x ∷ later) is))
            (λ front later e same bytes is. let m = mapped_at (λ bs. Heard bs) asked.pieces front later e same in
            subst (λ (l : List (Event K)). Answered results (log ++ l)) (sym m.before_is) (answered_at m.front (asked.asked m.front m.rest m.y m.split)))
            before after (Heard bytes) is bytes refl;
        caused = front_of_both (Caused results) log (heards asked.pieces) on.prompt.caused
            (λ front later same. let m = mapped_front (λ bs. Heard bs) asked.pieces front later same in
            subst (λ (l : List (Event K)). Caused results (log ++ l)) (sym m.before_is) (caused_at m.front (known_at m.front m.rest m.split)));
      };
      founded = λ before after bytes knowing is. each_of_both (λ before e. (bytes : List ℕ) (knowing : K) → e ≡ Said bytes knowing → FoundedIn results before bytes knowing) log (heards asked.pieces)
          (λ front later e same bytes knowing is. on.founded front later bytes knowing (same ∙ ap (λ x. front ++ x ∷ later) is))
          (λ front later e same bytes knowing is. let m = mapped_at (λ bs. Heard bs) asked.pieces front later e same in absurd (let clash : Heard m.y ≡ Said bytes knowing = sym m.x_is ∙ is in cc))
          before after (Said bytes knowing) is bytes knowing refl;
      said = said_still asked.pieces;
    })
      where
        answered_at : (pieces : List (List ℕ)) → known_in (log ++ heards pieces) ≡ length results → Answered results (log ++ heards pieces)
        answered_at pieces is = (omega (arith, is), said_still pieces ∙ ap (results_text texts) (sym (take_all (known_in (log ++ heards pieces)) results (omega (arith, is)))))

        caused_at : (pieces : List (List ℕ)) → length results ≤ known_in (log ++ heards pieces) → Caused results (log ++ heards pieces)
        caused_at pieces few = front_same _ _ (said_still pieces ∙ ap (results_text texts) (sym (take_all (known_in (log ++ heards pieces)) results few)))

        known_at : (front rest : List (List ℕ)) → asked.pieces ≡ front ++ rest → length results ≤ known_in (log ++ heards front)
        known_at front [] split = subst (λ (ps : List (List ℕ)). length results ≤ known_in (log ++ heards ps)) (split ∙ append-nil front) (subst (λ (l : List (Event K)). length results ≤ known_in l) asked.grown known)
        known_at front (bytes ∷ rest) split = omega (arith, asked.asked front rest bytes split)

    -- what is known stays so while something is said
    known_said : (knowing : K) (pieces : List (List ℕ)) → known_in (log ++ saids knowing pieces) ≡ known_in log
    known_said knowing pieces =
        let heard : heard_in (log ++ saids knowing pieces) ≡ heard_in log =
        heard_in-append log (saids knowing pieces) ∙ ap (λ (bs : List ℕ). heard_in log ++ bs) (heard_in-saids knowing pieces) ∙ append-nil (heard_in log) in
        let ended : has_ended (log ++ saids knowing pieces) ≡ has_ended log =
        has_ended-append log (saids knowing pieces) ∙ ap (λ (b : Bool). cond (has_ended log) true b) (has_ended-saids knowing pieces) ∙ test_same (has_ended log) in
        ap (λ (b : Bool). whole_lines b (heard_in (log ++ saids knowing pieces))) ended ∙ ap (whole_lines (has_ended log)) heard

    -- The line behind those that were answered is known, and this is said of it.
    module _ (r : LineResult R A) (knowing : K) (known : length results + 1 ≤ known_in log) (knows : Knows knowing (results ++ r ∷ [])) (pieces : List (List ℕ)) (of_text : IsFrontOf (concat pieces) (line_text (result_text texts r))) where
      abbrev more : List (LineResult R A)
      more = results ++ r ∷ []

      many : length more ≡ length results + 1
      many = length-append results (r ∷ [])

      said_more : (front : List (List ℕ)) → said_in (log ++ saids knowing front) ≡ results_text texts results ++ concat front
      said_more front = said_in-append log (saids knowing front) ∙ ap (λ (bs : List ℕ). said_in log ++ bs) (said_in-saids knowing front) ∙ ap (λ (bs : List ℕ). bs ++ concat front) on.said

      -- some pieces are of the text
      some_said : (front rest : List (List ℕ)) → pieces ≡ front ++ rest → IsFrontOf (results_text texts results ++ concat front) (results_text texts more)
      some_said front rest split =
          let all : concat pieces ≡ concat front ++ concat rest = ap concat split ∙ concat-append front rest in
          let some : IsFrontOf (concat front) (line_text (result_text texts r)) = front_of_front (concat front) (concat rest) _ (subst (λ (bs : List ℕ). IsFrontOf bs (line_text (result_text texts r))) all of_text) in
          subst (IsFrontOf (results_text texts results ++ concat front)) (sym (text_one texts results r)) (front_behind (results_text texts results) (concat front) (line_text (result_text texts r)) some)

      all_taken : (n : ℕ) → length results + 1 ≤ n → take n more ≡ more
      all_taken n few = take_all n more (omega (arith, many, few))

      -- what was said before is still of the results
      still_caused : (before : List (Event K)) → Caused results before → Caused more before
      still_caused before front = ⊎_elim
          (λ fewer. let few : known_in before ≤ length results = omega (arith, fewer) in
          subst (λ (rs : List (LineResult R A)). IsFrontOf (said_in before) (results_text texts rs)) (sym (take-append-le (known_in before) results (r ∷ []) few)) front)
          (λ enough. let all : take (known_in before) results ≡ results = take_all (known_in before) results (omega (arith, enough)) in
          let so_far : IsFrontOf (said_in before) (results_text texts results) = subst (λ (rs : List (LineResult R A)). IsFrontOf (said_in before) (results_text texts rs)) all front in
          let further : IsFrontOf (said_in before) (results_text texts more) = subst (IsFrontOf (said_in before)) (sym (text_one texts results r)) (front_more (said_in before) (results_text texts results) (line_text (result_text texts r)) so_far) in
          subst (λ (rs : List (LineResult R A)). IsFrontOf (said_in before) (results_text texts rs)) (sym (all_taken (known_in before) enough)) further)
          (cases_lt (known_in before) (length results + 1))

      still_answered : (before : List (Event K)) → Answered results before → Answered more before
      still_answered before was = (
        omega (arith, was.0, many),
        was.1 ∙ ap (results_text texts) (sym (take-append-le (known_in before) results (r ∷ []) was.0)),
      )

      still_founded : (before : List (Event K)) (bytes : List ℕ) (by : K) → FoundedIn results before bytes by → FoundedIn more before bytes by
      still_founded before bytes by was =
          let same : take was.0 more ≡ take was.0 results = take-append-le was.0 results (r ∷ []) was.2 in (
            was.0,
            was.1,
            omega (arith, was.2, many),
            subst (λ (rs : List (LineResult R A)). IsFrontOf (said_in before ++ bytes) (results_text texts rs)) (sym same) was.3,
            subst (Knows by) (sym same) was.4,
          )

      founded_at : (front rest : List (List ℕ)) (bytes : List ℕ) → pieces ≡ front ++ bytes ∷ rest → FoundedIn more (log ++ saids knowing front) bytes knowing
      founded_at front rest bytes split =
          let here : pieces ≡ (front ++ bytes ∷ []) ++ rest = split ∙ sym (append_assoc front (bytes ∷ []) rest) in
          let joined : said_in (log ++ saids knowing front) ++ bytes ≡ results_text texts results ++ concat (front ++ bytes ∷ []) =
          ap (λ (bs : List ℕ). bs ++ bytes) (said_more front) ∙ append_assoc (results_text texts results) (concat front) bytes
          ∙ ap (λ (bs : List ℕ). results_text texts results ++ bs) (sym (concat-append front (bytes ∷ []) ∙ ap (λ (bs : List ℕ). concat front ++ bs) (append-nil bytes))) in
          let all : take (length results + 1) more ≡ more = all_taken (length results + 1) (omega arith) in (
            length results + 1,
            omega (arith, known, known_said knowing front),
            omega (arith, many),
            subst (λ (rs : List (LineResult R A)). IsFrontOf (said_in (log ++ saids knowing front) ++ bytes) (results_text texts rs)) (sym all)
                (subst (λ (bs : List ℕ). IsFrontOf bs (results_text texts more)) (sym joined) (some_said (front ++ bytes ∷ []) rest here)),
            subst (Knows knowing) (sym all) knows,
          )

      -- each was told in its turn
      pub prompt_told : IsPrompt texts more (log ++ saids knowing pieces)
      prompt_told = record {
        answered = λ before after bytes is. each_of_both (λ before e. (bytes : List ℕ) → e ≡ Heard bytes → Answered more before) log (saids knowing pieces)
            (λ front later e same bytes is. still_answered front (on.prompt.answered front later bytes (same ∙ ap (λ x. front ++ x ∷ later) is)))
            (λ front later e same bytes is. let m = mapped_at (λ bs. Said bs knowing) pieces front later e same in absurd (let clash : Said m.y knowing ≡ Heard bytes = sym m.x_is ∙ is in cc))
            before after (Heard bytes) is bytes refl;
        caused = front_of_both (Caused more) log (saids knowing pieces) (λ front later same. still_caused front (on.prompt.caused front later same))
            (λ front later same. let m = mapped_front (λ bs. Said bs knowing) pieces front later same in
            subst (λ (l : List (Event K)). Caused more (log ++ l)) (sym m.before_is) (caused_by m.front m.rest m.split));
      }
        where
          caused_by : (front rest : List (List ℕ)) → pieces ≡ front ++ rest → Caused more (log ++ saids knowing front)
          caused_by front rest split =
              subst (λ (rs : List (LineResult R A)). IsFrontOf (said_in (log ++ saids knowing front)) (results_text texts rs)) (sym (all_taken (known_in (log ++ saids knowing front)) (omega (arith, known, known_said knowing front))))
              (subst (λ (bs : List ℕ). IsFrontOf bs (results_text texts more)) (sym (said_more front)) (some_said front rest split))

      -- by one who knew enough
      pub founded_told : IsFounded texts Knows more (log ++ saids knowing pieces)
      founded_told = λ before after bytes by is. each_of_both (λ before e. (bytes : List ℕ) (by : K) → e ≡ Said bytes by → FoundedIn more before bytes by) log (saids knowing pieces)
          (λ front later e same bytes by is. still_founded front bytes by (on.founded front later bytes by (same ∙ ap (λ x. front ++ x ∷ later) is)))
          (λ front later e same bytes by is. let m = mapped_at (λ bs. Said bs knowing) pieces front later e same in
          let one : Said m.y knowing ≡ Said bytes by = sym m.x_is ∙ is in
          let its : m.y ≡ bytes = cc in
          let who : knowing ≡ by = cc in
          subst (λ (l : List (Event K)). FoundedIn more (log ++ l) bytes by) (sym m.before_is) (subst (FoundedIn more (log ++ saids knowing m.front) bytes) who (subst (λ (bs : List ℕ). FoundedIn more (log ++ saids knowing m.front) bs knowing) its (founded_at m.front m.rest m.y m.split))))
          before after (Said bytes by) is bytes by refl

      -- and all of it was said
      pub on_told : concat pieces ≡ line_text (result_text texts r) → IsOn texts Knows more (log ++ saids knowing pieces)
      on_told whole = record {
        prompt = prompt_told;
        founded = founded_told;
        said = said_more pieces ∙ ap (λ (bs : List ℕ). results_text texts results ++ bs) whole ∙ sym (text_one texts results r);
      }

  -- what an ear handed out, and was done and said so, is a talk
  pub is_talk : {C Q : Type 0} (Reads : List ℕ → Step C Q → Type 0) (ear : Ear) (lines : List (List ℕ)) (steps : List (Step C Q)) (results : List (LineResult R A)) (log : List (Event K)) →
      HasHanded ear (has_ended log) (heard_in log) lines → AreRead Reads lines steps → length results ≡ length steps → IsPrompt texts results log → IsTalk texts Reads steps results log
  is_talk Reads ear lines steps results log here read many prompt =
      let first : take (length steps) (known_lines log) ≡ lines = ap (λ n. take n (known_lines log)) (sym (read_length Reads lines steps read)) ∙ handed_first ear log lines here in
      record { read = subst (λ (ls : List (List ℕ)). AreRead Reads ls steps) (sym first) read; many = many; prompt = prompt }
