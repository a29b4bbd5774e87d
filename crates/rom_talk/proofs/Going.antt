-- How a talk goes on and comes to its end.
use Rattle.std.specs.Prelude.{◌≡◌, ◌⊎◌, ℕ, ◌+◌, ◌-◌, ◌^◌, ◌<◌, ◌≤◌, IsTrue, Bool, true, false, ◌||◌, cond, List, [], ◌∷◌, ◌++◌, length, take, Option, None, Some, IfSome, Result, Ok, Err}
use Rattle.std.specs.List.{AllByRecursion, concat, list_any}
use Rattle.std.proofs.Common.{⊎_elim, inl, inr, refl, sym, ap, subst, ◌∙◌, append_assoc, append-nil, arith, length-append}
use Rattle.std.proofs.Math.ListN.{replicate}
use Rattle.std.proofs.lemmas.Grind.{flat_map-append}
use Rattle.std.proofs.lemmas.List.{length-replicate, take-append-le, take_all, take_at}
use Rattle.std.proofs.lemmas.List.Folds.{concat-append, list_any-append}
use Rattle.atomic_table.specs.Seated.{TableId}
use Rattle.rom_model.specs.Faults.{FailedLast, StopsAtFault, counted}
use Rattle.rom_model.specs.History.{LAST_COUNT}
use Rattle.rom_model.specs.Machine.{Machine}
use Rattle.rom_model.specs.Seen.{StartsWith}
use Rattle.rom_model.specs.declared.call.Updated.TheVariants.{Done, Spent, Failed, Doubt}
use Rattle.rom_model.specs.declared.kept.Kept.{Kept}
use Rattle.rom_model.specs.declared.line.Step.{Step}
use Rattle.rom_model.specs.declared.line.Step.TheVariants as step
use Rattle.rom_model.specs.declared.line.LineResult.{LineResult}
use Rattle.rom_model.specs.declared.line.LineResult.TheVariants as outcome
use Rattle.rom_model.proofs.Hearing.{begun, told_few}
use Rattle.rom_text.specs.Lines.{AreRead}
use Rattle.rom_text.specs.declared.short.TheConstants.{LONGEST}
use Rattle.rom_text.specs.Text.{ResultFits, Texts, line_text, result_text, results_text}
use Rattle.rom_hear.specs.Events.{Event, Heard, Said, has_ended, heard_in, heards, known_in, said_in, saids}
use Rattle.rom_hear.specs.Hearing.{Asks, AsksOnce, HandsNext, HasAsked, HasHanded, HasHeardNothing, IdlesBy, IsAt, IsLonger, IsNext, IsOver, line_in}
use Rattle.rom_hear.specs.Peers.{IsStill, IsUnasked, ShownPeer}
use Rattle.rom_hear.specs.Saying.{AreOfText, HasTold, Tells}
use Rattle.rom_hear.specs.Talking.{IsFounded, IsFrontOf, IsOn, IsPrompt, IsTalk, IsWholeTalk}
use Rattle.rom_hear.specs.declared.ear.TheConstants.{ROOM}
use Rattle.rom_hear.specs.declared.ear.Ear.{Ear}
use Rattle.rom_hear.specs.declared.ear.Next.{Next}
use Rattle.rom_hear.specs.declared.ear.Next.TheVariants as nexts
use Rattle.rom_hear.proofs.Fronts.{each_of_both, front_behind, front_of_front, front_same, mapped_at}
use Rattle.rom_hear.proofs.Hearing.{none_handed, test_same}
use Rattle.rom_hear.proofs.Logs.{has_ended-append, has_ended-saids, heard_in-append, heard_in-saids, said_in-append, said_in-saids}
use Rattle.rom_hear.proofs.Talking.{founded_told, handed_known, is_talk, on_first, on_heard, on_told, prompt_told, read_length, read_more}
use Rattle.rom_run.specs.Statuses.{is_faulted, is_unread}
use Rattle.rom_rule.specs.declared.views.Base.{Base}
use Rattle.rom_rule.proofs.Told.{all_append}
use Rattle.rom_store.proofs.Earlier.{starts_further}
use Rattle.rom_store.specs.Callers.{Caller, IsCallerOf}
use Rattle.rom_store.specs.Closing.{kept_in}
use Rattle.rom_store.specs.Taking.{HasTakenOne, IsSeen, result_taken}
use Rattle.rom_store.specs.Working.{HasDoneLines}
use Rattle.rom_store.specs.declared.work.Taken.{Taken}
use Rattle.rom_talk.specs.Serving.{GoesOn, HasAnswered, HasComeToEnd, HasGoneOn, IsReady, IsServed, IsTalking, IsUnaskedIf, Knew, Notes}
use Rattle.rom_talk.specs.Talks.{HasComeSoFar, HasEndedAs, IsSaidInTurn, SaysInTurn}
use Rattle.rom_talk.specs.declared.ending.Ending.{Ending}
use Rattle.rom_talk.specs.declared.ending.Ending.TheVariants as ending

-- ---- what begins with what

starts_same : {X : Type 0} (xs : List X) → StartsWith xs xs
starts_same xs = ([], sym (append-nil xs))

starts_longer : {X : Type 0} (xs ys : List X) → StartsWith xs ys → length ys ≤ length xs
starts_longer xs ys first = omega (arith, ap length first.1, length-append ys first.0)

-- ---- what a caller has seen

seen_more : {R A : Type 0} (k : ℕ) (v w : Kept) (r : LineResult R A) → length v.seen ≤ length w.seen → IsSeen k v r → IsSeen k w r
seen_more k v w outcome.Unread longer h = tt
seen_more k v w (outcome.Update (Done reply place)) longer h = omega (arith, h, longer)
seen_more k v w (outcome.Update Spent) longer h = tt
seen_more k v w (outcome.Update Failed) longer h = tt
seen_more k v w (outcome.Update Doubt) longer h = tt
seen_more k v w (outcome.Read answer front) longer h = omega (arith, h, longer)

all_seen_more : {R A : Type 0} (k : ℕ) (v w : Kept) (rs : List (LineResult R A)) → length v.seen ≤ length w.seen → AllByRecursion (IsSeen k v) rs → AllByRecursion (IsSeen k w) rs
all_seen_more k v w [] longer all = tt
all_seen_more k v w (r ∷ rs) longer all = (seen_more k v w r longer all.0, all_seen_more k v w rs longer all.1)

-- ---- tests

or_false : (b : Bool) → (b || false) ≡ b
or_false true = refl
or_false false = refl

any_more : {X : Type 0} (test : X → Bool) (xs : List X) (x : X) (was now : Bool) → was ≡ list_any test xs → now ≡ (was || test x) → now ≡ list_any test (xs ++ x ∷ [])
any_more test xs x was now before is =
    is ∙ ap (λ b. b || test x) before ∙ ap (λ b. list_any test xs || b) (sym (or_false (test x))) ∙ sym (list_any-append test xs (x ∷ []))

-- ---- counts of faults

failed_from : (a b n : ℕ) (failing : Bool) → a ≡ b → FailedLast a n failing → FailedLast b n failing
failed_from a b n failing is h = subst (λ x. FailedLast x n failing) is h

stops_from : (a b n : ℕ) (failing : Bool) → a ≡ b → StopsAtFault a n failing → StopsAtFault b n failing
stops_from a b n failing is h = subst (λ x. StopsAtFault x n failing) is h

-- so it is while nothing more is counted
failed_still : (a n m : ℕ) (failing still : Bool) → m ≡ n → still ≡ failing → FailedLast a n failing → FailedLast a m still
failed_still a n m failing still is same h = record { once = is ∙ h.once; last = subst IsTrue (sym same) h.last }

-- ---- lines that were handed out, while something is said

handed_said : {K : Type 0} (ear : Ear) (log : List (Event K)) (knowing : K) (pieces : List (List ℕ)) (lines : List (List ℕ)) → HasHanded ear (has_ended log) (heard_in log) lines →
    HasHanded ear (has_ended (log ++ saids knowing pieces)) (heard_in (log ++ saids knowing pieces)) lines
handed_said ear log knowing pieces lines here =
    let heard : heard_in (log ++ saids knowing pieces) ≡ heard_in log =
    heard_in-append log (saids knowing pieces) ∙ ap (λ (bs : List ℕ). heard_in log ++ bs) (heard_in-saids knowing pieces) ∙ append-nil (heard_in log) in
    let ended : has_ended (log ++ saids knowing pieces) ≡ has_ended log = has_ended-append log (saids knowing pieces) ∙ ap (λ (b : Bool). cond (has_ended log) true b) (has_ended-saids knowing pieces) ∙ test_same (has_ended log) in
    subst (λ (b : Bool). HasHanded ear b (heard_in (log ++ saids knowing pieces)) lines) (sym ended) (subst (λ (bs : List ℕ). HasHanded ear (has_ended log) bs lines) (sym heard) here)

at_said : {K T E : Type 0} (ear : Ear) (mid now : Option (List (Event K))) (knowing : K) (result : Result T E) (text : List ℕ) (lines : List (List ℕ)) → HasTold mid now knowing result text → IsAt ear mid lines → IsAt ear now lines
at_said ear None now knowing result text lines told at = subst (λ l. IsAt ear l lines) (sym told) tt
at_said ear (Some log) None knowing result text lines told at = absurd told
at_said ear (Some log) (Some longer) knowing result text lines told at =
    subst (λ l. HasHanded ear (has_ended l) (heard_in l) lines) (sym told.1) (handed_said ear log knowing told.0 lines at)

-- so many lines are known, where the log is told
known_at : {K : Type 0} (ear : Ear) (log : Option (List (Event K))) (lines : List (List ℕ)) → IsAt ear log lines → IfSome log (λ l. length lines ≤ known_in l)
known_at ear None lines at = tt
known_at ear (Some log) lines at = handed_known ear (has_ended log) (heard_in log) lines at

next_at_end : {K : Type 0} (ear : Ear) (log : Option (List (Event K))) (lines : List (List ℕ)) → IsNext ear log lines nexts.End → IsAt ear log lines
next_at_end ear None lines next = tt
next_at_end ear (Some log) lines next = next

next_failed_at : {K : Type 0} (ear : Ear) (log : Option (List (Event K))) (lines : List (List ℕ)) → IsNext ear log lines nexts.Failed → IsAt ear log lines
next_failed_at ear None lines next = tt
next_failed_at ear (Some log) lines next = next.0

-- the line that was handed out
pub next_line_at : {K : Type 0} (ear : Ear) (log : Option (List (Event K))) (lines : List (List ℕ)) → IsNext ear log lines nexts.Line → IsAt ear log (lines ++ line_in ear ∷ [])
next_line_at ear None lines next = tt
next_line_at ear (Some log) lines next = next

long_line : (n : ℕ) → ROOM ≤ n + 1 → ROOM ≤ length {A = ℕ} (replicate n 0) + 1
long_line n long = omega (arith, long, length-replicate {A = ℕ} n 0)

-- or one that is so long; where the log is not told any such line is
pub next_long_at : {K : Type 0} (ear : Ear) (log : Option (List (Event K))) (lines : List (List ℕ)) → IsNext ear log lines nexts.Long → (line : List ℕ) × (ROOM ≤ length line + 1) × IsAt ear log (lines ++ line ∷ [])
next_long_at ear None lines next = (replicate ROOM 0, long_line ROOM (omega arith), tt)
next_long_at ear (Some log) lines next = next

-- ---- a log that goes on

module _ {R A K : Type 0} (texts : Texts R A) (Knows : K → List (LineResult R A) → Type 0) (results : List (LineResult R A)) where
  on_weaker : (More : K → List (LineResult R A) → Type 0) → ((k : K) (rs : List (LineResult R A)) → Knows k rs → More k rs) → (log : Option (List (Event K))) → IfSome log (IsOn texts Knows results) → IfSome log (IsOn texts More results)
  on_weaker More weaker None on = tt
  on_weaker More weaker (Some log) on = record {
    prompt = on.prompt;
    founded = λ before after bytes knowing is. let f = on.founded before after bytes knowing is in (f.0, f.1, f.2, f.3, weaker knowing (take f.0 results) f.4);
    said = on.said;
  }

  heard_on : (known : ℕ) (log mid : Option (List (Event K))) → known ≡ length results → Asks known log mid → IfSome log (IsOn texts Knows results) → IfSome mid (λ l. known ≤ known_in l) → IfSome mid (IsOn texts Knows results)
  heard_on known None mid many asked on enough = subst (λ l. IfSome l (IsOn texts Knows results)) (sym asked) tt
  heard_on known (Some log) None many asked on enough = tt
  heard_on known (Some log) (Some longer) many asked on enough = on_heard texts Knows results log on longer (subst (λ n. HasAsked n log longer) many asked) (omega (arith, enough, many))

  module _ (r : LineResult R A) (knowing : K) (knows : Knows knowing (results ++ r ∷ [])) where
    said_on : (T E : Type 0) (mid now : Option (List (Event K))) (v : T) → IfSome mid (IsOn texts Knows results) → IfSome mid (λ l. length results + 1 ≤ known_in l) →
        HasTold {T = T} {E = E} mid now knowing (Ok v) (line_text (result_text texts r)) → IfSome now (IsOn texts Knows (results ++ r ∷ []))
    said_on T E None now v on known told = subst (λ l. IfSome l (IsOn texts Knows (results ++ r ∷ []))) (sym told) tt
    said_on T E (Some log) None v on known told = absurd told
    said_on T E (Some log) (Some longer) v on known told =
        subst (IsOn texts Knows (results ++ r ∷ [])) (sym told.1)
        (on_told texts Knows results log on r knowing known knows told.0 (front_same _ _ told.2) told.2)

    -- some of it was said
    said_some : (T E : Type 0) (mid now : Option (List (Event K))) (e : E) → IfSome mid (IsOn texts Knows results) → IfSome mid (λ l. length results + 1 ≤ known_in l) →
        HasTold {T = T} {E = E} mid now knowing (Err e) (line_text (result_text texts r)) → IfSome now (λ l. IsPrompt texts (results ++ r ∷ []) l × IsFounded texts Knows (results ++ r ∷ []) l)
    said_some T E None now e on known told = subst (λ l. IfSome l (λ l. IsPrompt texts (results ++ r ∷ []) l × IsFounded texts Knows (results ++ r ∷ []) l)) (sym told) tt
    said_some T E (Some log) None e on known told = absurd told
    said_some T E (Some log) (Some longer) e on known told =
        subst (λ l. IsPrompt texts (results ++ r ∷ []) l × IsFounded texts Knows (results ++ r ∷ []) l) (sym told.1)
        (prompt_told texts Knows results log on r knowing known knows told.0 told.2, founded_told texts Knows results log on r knowing known knows told.0 told.2)

-- ---- how far a talk came

module _ {R A K C Q : Type 0} (texts : Texts R A) (Knows : K → List (LineResult R A) → Type 0) (steps : List (Step C Q)) (results : List (LineResult R A)) where
  abbrev AllFit : Type 0
  AllFit = AllByRecursion (ResultFits texts) results

  far_over : (log : Option (List (Event K))) → AllFit → IfSome log (HasComeSoFar texts ending.Over steps results)
  far_over None fit = tt
  far_over (Some log) fit = fit

  -- where hearing failed, all that was known had been done and said
  far_unheard : (ear : Ear) (lines : List (List ℕ)) (log : Option (List (Event K))) → length steps ≡ length lines → IsNext ear log lines nexts.Failed → IfSome log (IsOn texts Knows results) → AllFit → IfSome log (HasComeSoFar texts ending.Unheard steps results)
  far_unheard ear lines None many next on fit = tt
  far_unheard ear lines (Some log) many next on fit = (many ∙ sym next.1, on.said, fit)

  -- what had been said before is in front, whatever was taken of one result more
  far_said : (log : List (Event K)) (knowing : K) (pieces : List (List ℕ)) → said_in log ≡ results_text texts results → IsFrontOf (results_text texts results) (said_in (log ++ saids knowing pieces))
  far_said log knowing pieces said =
      let more : List ℕ = said_in (saids knowing pieces) in
      let all : said_in (log ++ saids knowing pieces) ≡ results_text texts results ++ more = said_in-append log (saids knowing pieces) ∙ ap (λ (bs : List ℕ). bs ++ more) said in
      let n : ℕ = length (results_text texts results) in
      (n, sym (ap (take n) all ∙ take_at (results_text texts results) more n refl))

  far_unsaid : (T E : Type 0) (asked : List (Step C Q)) (r : LineResult R A) (knowing : K) (mid now : Option (List (Event K))) (e : E) → IfSome mid (IsOn texts Knows results) →
      HasTold {T = T} {E = E} mid now knowing (Err e) (line_text (result_text texts r)) → AllFit → IfSome now (HasComeSoFar texts ending.Unsaid asked (results ++ r ∷ []))
  far_unsaid T E asked r knowing None now e on told fit = subst (λ l. IfSome l (HasComeSoFar texts ending.Unsaid asked (results ++ r ∷ []))) (sym told) tt
  far_unsaid T E asked r knowing (Some log) None e on told fit = absurd told
  far_unsaid T E asked r knowing (Some log) (Some longer) e on told fit = (results, r, refl, subst (λ l. IsFrontOf (results_text texts results) (said_in l)) (sym told.1) (far_said log knowing told.0 on.said), fit)

-- ---- no line before all was said that the line before it was told

module _ {R A K C Q : Type 0} (texts : Texts R A) (Did : K → List (Step C Q) → List (LineResult R A) → Type 0) (steps : List (Step C Q)) (results : List (LineResult R A)) where
  abbrev InTurn : List (Event K) → Type 0
  InTurn = IsSaidInTurn texts Did steps results

  turn_first : (log : Option (List (Event K))) → IfSome log (λ l. l ≡ []) → IfSome log InTurn
  turn_first None fresh = tt
  turn_first (Some log) fresh = λ before after bytes knowing is. absurd (omega (arith, ap length (sym fresh ∙ is), length-append before (Said bytes knowing ∷ after)))

  -- while more is heard nothing is said
  turn_heard : (known : ℕ) (log mid : Option (List (Event K))) → Asks known log mid → IfSome log InTurn → IfSome mid InTurn
  turn_heard known None mid asked turn = subst (λ l. IfSome l InTurn) (sym asked) tt
  turn_heard known (Some log) None asked turn = tt
  turn_heard known (Some log) (Some longer) asked turn = subst InTurn (sym asked.grown) (λ before after bytes knowing is. each_of_both
      (λ before e. (bytes : List ℕ) (knowing : K) → e ≡ Said bytes knowing → SaysInTurn texts Did steps results before bytes knowing) log (heards asked.pieces)
      (λ front later e same bytes knowing is. turn front later bytes knowing (same ∙ ap (λ x. front ++ x ∷ later) is))
      (λ front later e same bytes knowing is. let m = mapped_at (λ bs. Heard bs) asked.pieces front later e same in absurd (let clash : Heard m.y ≡ Said bytes knowing = sym m.x_is ∙ is in cc))
      before after (Said bytes knowing) is bytes knowing refl)

  module _ (many : length results ≡ length steps) (asks : Step C Q) (r : LineResult R A) where
    abbrev steps_more : List (Step C Q)
    steps_more = steps ++ asks ∷ []

    abbrev results_more : List (LineResult R A)
    results_more = results ++ r ∷ []

    turn_still : (before : List (Event K)) (bytes : List ℕ) (by : K) → SaysInTurn texts Did steps results before bytes by → SaysInTurn texts Did steps_more results_more before bytes by
    turn_still before bytes by h =
        let few = h.few in
        let fewer : take h.many results_more ≡ take h.many results = take-append-le h.many results (r ∷ []) (omega (arith, few)) in
        let same : take (h.many + 1) results_more ≡ take (h.many + 1) results = take-append-le (h.many + 1) results (r ∷ []) (omega (arith, few)) in
        let those : take (h.many + 1) steps_more ≡ take (h.many + 1) steps = take-append-le (h.many + 1) steps (asks ∷ []) (omega (arith, few, many)) in
        record {
          many = h.many;
          few = omega (arith, few, length-append results (r ∷ []));
          whole = subst (λ (rs : List (LineResult R A)). IsFrontOf (results_text texts rs) (said_in before)) (sym fewer) h.whole;
          some = subst (λ (rs : List (LineResult R A)). IsFrontOf (said_in before ++ bytes) (results_text texts rs)) (sym same) h.some;
          did = subst (λ (ss : List (Step C Q)). Did by ss (take (h.many + 1) results_more)) (sym those) (subst (Did by (take (h.many + 1) steps)) (sym same) h.did);
        }

    module _ (knowing : K) (did : Did knowing steps_more results_more) (log : List (Event K)) (said : said_in log ≡ results_text texts results) (pieces : List (List ℕ)) (of_text : IsFrontOf (concat pieces) (line_text (result_text texts r))) where
      said_so : (front : List (List ℕ)) → said_in (log ++ saids knowing front) ≡ results_text texts results ++ concat front
      said_so front = said_in-append log (saids knowing front) ∙ ap (λ (bs : List ℕ). said_in log ++ bs) (said_in-saids knowing front) ∙ ap (λ (bs : List ℕ). bs ++ concat front) said

      some_of : (front rest : List (List ℕ)) (bytes : List ℕ) → pieces ≡ front ++ bytes ∷ rest → IsFrontOf (said_in (log ++ saids knowing front) ++ bytes) (results_text texts results_more)
      some_of front rest bytes split =
          let some : List ℕ = concat front ++ bytes in
          let all : concat pieces ≡ some ++ concat rest = ap concat split ∙ concat-append front (bytes ∷ rest) ∙ sym (append_assoc (concat front) bytes (concat rest)) in
          let of_it : IsFrontOf some (line_text (result_text texts r)) = front_of_front some (concat rest) _ (subst (λ (bs : List ℕ). IsFrontOf bs (line_text (result_text texts r))) all of_text) in
          let joined : said_in (log ++ saids knowing front) ++ bytes ≡ results_text texts results ++ some = ap (λ (bs : List ℕ). bs ++ bytes) (said_so front) ∙ append_assoc (results_text texts results) (concat front) bytes in
          let text : results_text texts results_more ≡ results_text texts results ++ line_text (result_text texts r) = flat_map-append (λ r. line_text (result_text texts r)) results (r ∷ []) ∙ ap (λ (bs : List ℕ). results_text texts results ++ bs) (append-nil (line_text (result_text texts r))) in
          subst (λ (bs : List ℕ). IsFrontOf bs (results_text texts results_more)) (sym joined) (subst (IsFrontOf (results_text texts results ++ some)) (sym text) (front_behind (results_text texts results) some (line_text (result_text texts r)) of_it))

      turn_at : (front rest : List (List ℕ)) (bytes : List ℕ) → pieces ≡ front ++ bytes ∷ rest → SaysInTurn texts Did steps_more results_more (log ++ saids knowing front) bytes knowing
      turn_at front rest bytes split =
          let n : ℕ = length results in
          let longer : length results_more ≡ n + 1 = length-append results (r ∷ []) in
          let all : take (n + 1) results_more ≡ results_more = take_all (n + 1) results_more (omega (arith, longer)) in
          let those : take (n + 1) steps_more ≡ steps_more = take_all (n + 1) steps_more (omega (arith, length-append steps (asks ∷ []), many)) in
          record {
            many = n;
            few = omega (arith, longer);
            whole = subst (λ (rs : List (LineResult R A)). IsFrontOf (results_text texts rs) (said_in (log ++ saids knowing front))) (sym (take_at results (r ∷ []) n refl)) (far_said texts (λ k. Did k steps) steps results log knowing front said);
            some = subst (λ (rs : List (LineResult R A)). IsFrontOf (said_in (log ++ saids knowing front) ++ bytes) (results_text texts rs)) (sym all) (some_of front rest bytes split);
            did = subst (λ (ss : List (Step C Q)). Did knowing ss (take (n + 1) results_more)) (sym those) (subst (Did knowing steps_more) (sym all) did);
          }

      turn_more : InTurn log → IsSaidInTurn texts Did steps_more results_more (log ++ saids knowing pieces)
      turn_more turn = λ before after bytes by is. each_of_both (λ before e. (bytes : List ℕ) (by : K) → e ≡ Said bytes by → SaysInTurn texts Did steps_more results_more before bytes by) log (saids knowing pieces)
          (λ front later e same bytes by is. turn_still front bytes by (turn front later bytes by (same ∙ ap (λ x. front ++ x ∷ later) is)))
          (λ front later e same bytes by is. let m = mapped_at (λ bs. Said bs knowing) pieces front later e same in
          let one : Said m.y knowing ≡ Said bytes by = sym m.x_is ∙ is in
          let its : m.y ≡ bytes = cc in
          let who : knowing ≡ by = cc in
          let Turn = SaysInTurn texts Did steps_more results_more in
          subst (λ (l : List (Event K)). Turn (log ++ l) bytes by) (sym m.before_is) (subst (Turn (log ++ saids knowing m.front) bytes) who (subst (λ (bs : List ℕ). Turn (log ++ saids knowing m.front) bs knowing) its (turn_at m.front m.rest m.y m.split))))
          before after (Said bytes by) is bytes by refl

    some_text : {T E : Type 0} (result : Result T E) (pieces : List (List ℕ)) (text : List ℕ) → AreOfText pieces result text → IsFrontOf (concat pieces) text
    some_text (Ok v) pieces text h = front_same (concat pieces) text h
    some_text (Err e) pieces text h = h

    -- one line more was done, and what it was told was said then, or some of it
    turn_said : (T E : Type 0) (Knows : K → List (LineResult R A) → Type 0) (knowing : K) → Did knowing steps_more results_more → (mid now : Option (List (Event K))) (result : Result T E) → IfSome mid (IsOn texts Knows results) → IfSome mid InTurn →
        HasTold mid now knowing result (line_text (result_text texts r)) → IfSome now (IsSaidInTurn texts Did steps_more results_more)
    turn_said T E Knows knowing did None now result on turn told = subst (λ l. IfSome l (IsSaidInTurn texts Did steps_more results_more)) (sym told) tt
    turn_said T E Knows knowing did (Some log) None result on turn told = absurd told
    turn_said T E Knows knowing did (Some log) (Some longer) result on turn told = subst (IsSaidInTurn texts Did steps_more results_more) (sym told.1)
        (turn_more knowing did log on.said told.0 (some_text result told.0 (line_text (result_text texts r)) told.2) turn)

-- what has passed is a talk, where the log is told
talk_at : {R A K C Q : Type 0} (texts : Texts R A) (Reads : List ℕ → Step C Q → Type 0) (ear : Ear) (lines : List (List ℕ)) (steps : List (Step C Q)) (results : List (LineResult R A)) (log : Option (List (Event K))) →
    IsAt ear log lines → AreRead Reads lines steps → length results ≡ length steps → IfSome log (IsPrompt texts results) → IfSome log (IsTalk texts Reads steps results)
talk_at texts Reads ear lines steps results None at read many prompt = tt
talk_at texts Reads ear lines steps results (Some log) at read many prompt = is_talk texts Reads ear lines steps results log at read many prompt

-- of a log that is told, or of none
if_both : {X : Type 0} (o : Option X) (P Q : X → Type 0) → ((x : X) → P x → Q x) → IfSome o P → IfSome o Q
if_both None P Q f h = tt
if_both (Some x) P Q f h = f x h

-- it came to its end, and all was said
whole_at : {R A K C Q : Type 0} (texts : Texts R A) (Reads : List ℕ → Step C Q → Type 0) (Knows : K → List (LineResult R A) → Type 0) (known : ℕ) (lines : List (List ℕ)) (steps : List (Step C Q)) (results : List (LineResult R A)) (log mid : Option (List (Event K))) →
    Asks known log mid → length steps ≡ length lines → IsOver mid lines ⊎ IsLonger (2 ^ 64 - 1) log mid → IfSome mid (IsOn texts Knows results) → IfSome mid (IsTalk texts Reads steps results) →
    IfSome mid (λ l. length l < 2 ^ 64 - 1 → IsWholeTalk texts Reads steps results l)
whole_at texts Reads Knows known lines steps results None mid asked many over on talk = subst (λ o. IfSome o (λ l. length l < 2 ^ 64 - 1 → IsWholeTalk texts Reads steps results l)) (sym asked) tt
whole_at texts Reads Knows known lines steps results (Some log) None asked many over on talk = tt
whole_at texts Reads Knows known lines steps results (Some log) (Some longer) asked many over on talk = λ short. ⊎_elim
    (λ end. record { talk = talk; ended = end.0; all = many ∙ sym end.1; said = on.said })
    (λ long. absurd (omega (arith, short, long)))
    over

module _ {P : Type 0} (peer : ShownPeer Caller P) where
  -- ---- a peer that was asked, and told

  idles_said : (was now : Bool) (before mid new : P) → IsUnasked peer mid new → IdlesBy peer was now before mid → IdlesBy peer was now before new
  idles_said false true before mid new still h = failed_still (peer.idle before) (peer.idle mid) (peer.idle new) (peer.ended mid) (peer.ended new) still.idle still.ended h
  idles_said false false before mid new still h = still.idle ∙ h
  idles_said true false before mid new still h = still.idle ∙ h
  idles_said true true before mid new still h = still.idle ∙ h

  stops_by : (was now : Bool) (before new : P) → IdlesBy peer was now before new → StopsAtFault (peer.idle before) (peer.idle new) (peer.ended new)
  stops_by false true before new h = inr h
  stops_by false false before new h = inl h
  stops_by true false before new h = inl h
  stops_by true true before new h = inl h

  unasked_once : (was now : Ear) (before mid : P) (handed : Next) → AsksOnce peer was now before mid handed → IsUnaskedIf peer was.ended before mid
  unasked_once was now before mid handed once = record {
    idle = λ ended. ap peer.idle (once.at_end ended).0;
    ended_is = λ ended. ap peer.ended (once.at_end ended).0;
  }

  unasked_said : (ended : Bool) (before mid new : P) → IsUnasked peer mid new → IsUnaskedIf peer ended before mid → IsUnaskedIf peer ended before new
  unasked_said ended before mid new still h = record {
    idle = λ yes. still.idle ∙ h.idle yes;
    ended_is = λ yes. still.ended ∙ h.ended_is yes;
  }

  -- what failed since the first, by what failed since
  idles_join : (mid now : Bool) (first middle new : P) → IdlesBy peer false mid first middle → (mid ≡ true → now ≡ true) → IsUnaskedIf peer mid middle new → IdlesBy peer mid now middle new → IdlesBy peer false now first new
  idles_join false false first middle new so_far still unasked h = h ∙ so_far
  idles_join false true first middle new so_far still unasked h = failed_from (peer.idle middle) (peer.idle first) (peer.idle new) (peer.ended new) so_far h
  idles_join true false first middle new so_far still unasked h = absurd (let clash : false ≡ true = still refl in cc)
  idles_join true true first middle new so_far still unasked h = failed_still (peer.idle first) (peer.idle middle) (peer.idle new) (peer.ended middle) (peer.ended new) (unasked.idle refl) (unasked.ended_is refl) so_far

  -- nothing failed of a peer since it was met, but that the end was heard
  pub record HasKeptOn (ended : Bool) (first now : P) : Type 0 where
    pub idles : IdlesBy peer false ended first now
    pub unheard : peer.unheard now ≡ peer.unheard first
    pub unsaid : peer.unsaid now ≡ peer.unsaid first
    pub rest : peer.rest now ≡ peer.rest first

  stops_since : (ended : Bool) (first middle new : P) → IdlesBy peer false ended first middle → IsUnaskedIf peer ended middle new → StopsAtFault (peer.idle middle) (peer.idle new) (peer.ended new) → StopsAtFault (peer.idle first) (peer.idle new) (peer.ended new)
  stops_since false first middle new so_far unasked h = stops_from (peer.idle middle) (peer.idle first) (peer.idle new) (peer.ended new) so_far h
  stops_since true first middle new so_far unasked h = inr (failed_still (peer.idle first) (peer.idle middle) (peer.idle new) (peer.ended middle) (peer.ended new) (unasked.idle refl) (unasked.ended_is refl) so_far)

  fails_since : (ended : Bool) (first middle new : P) → IdlesBy peer false ended first middle → IsUnaskedIf peer ended middle new → FailedLast (peer.idle middle) (peer.idle new) (peer.ended new) → FailedLast (peer.idle first) (peer.idle new) (peer.ended new)
  fails_since false first middle new so_far unasked h = failed_from (peer.idle middle) (peer.idle first) (peer.idle new) (peer.ended new) so_far h
  fails_since true first middle new so_far unasked h = record { once = unasked.idle refl ∙ so_far.once; last = h.last }

  ended_since : (end : Ending) (ended : Bool) (first middle new : P) → HasKeptOn ended first middle → IsUnaskedIf peer ended middle new → HasEndedAs peer end middle new → HasEndedAs peer end first new
  ended_since ending.Over ended first middle new so_far unasked h = (h.0 ∙ so_far.unheard, h.1 ∙ so_far.unsaid)
  ended_since ending.Unheard ended first middle new so_far unasked h = (h.0 ∙ ap counted so_far.unheard, fails_since ended first middle new so_far.idles unasked h.1, h.2 ∙ so_far.unsaid)
  ended_since ending.Unsaid ended first middle new so_far unasked h = (h.0 ∙ so_far.unheard, failed_from (peer.unsaid middle) (peer.unsaid first) (peer.unsaid new) (peer.failing new) so_far.unsaid h.1)

  -- a peer that is met before and parted from after
  ended_still : (end : Ending) (first was now last : P) → IsStill peer first was → IsStill peer now last → HasEndedAs peer end was now → HasEndedAs peer end first last
  ended_still ending.Over first was now last met parted h = (parted.unasked.unheard ∙ h.0 ∙ met.unasked.unheard, parted.untold.unsaid ∙ h.1 ∙ met.untold.unsaid)
  ended_still ending.Unheard first was now last met parted h = (
    parted.unasked.unheard ∙ h.0 ∙ ap counted met.unasked.unheard,
    failed_still (peer.idle first) (peer.idle now) (peer.idle last) (peer.ended now) (peer.ended last) parted.unasked.idle parted.unasked.ended (failed_from (peer.idle was) (peer.idle first) (peer.idle now) (peer.ended now) met.unasked.idle h.1),
    parted.untold.unsaid ∙ h.2 ∙ met.untold.unsaid,
  )
  ended_still ending.Unsaid first was now last met parted h = (
    parted.unasked.unheard ∙ h.0 ∙ met.unasked.unheard,
    failed_still (peer.unsaid first) (peer.unsaid now) (peer.unsaid last) (peer.failing now) (peer.failing last) parted.untold.unsaid parted.untold.failing (failed_from (peer.unsaid was) (peer.unsaid first) (peer.unsaid now) (peer.failing now) met.untold.unsaid h.1),
  )

  pub stops_still : (a b n m : ℕ) (failing still : Bool) → a ≡ b → m ≡ n → still ≡ failing → StopsAtFault a n failing → StopsAtFault b m still
  stops_still a b n m failing still from to same h = ⊎_elim
      (λ none. inl (to ∙ none ∙ from))
      (λ one. inr (failed_still b n m failing still to same (failed_from a b n failing from one)))
      h

-- ---- what is noted

pub noted_true : (was new now : Bool) → was ≡ true → now ≡ true → now ≡ (was || new)
noted_true was new now is h = h ∙ sym (ap (λ b. b || new) is)

pub noted_new : (was new now : Bool) → was ≡ false → now ≡ new → now ≡ (was || new)
noted_new was new now is h = h ∙ sym (ap (λ b. b || new) is)

-- ---- a telling, whatever stands in its result

pub told_ok : {K : Type 0} (T E X Y : Type 0) (old new : Option (List (Event K))) (knowing : K) (v : T) (w : X) (text : List ℕ) → HasTold {T = T} {E = E} old new knowing (Ok v) text → HasTold {T = X} {E = Y} old new knowing (Ok w) text
told_ok T E X Y None new knowing v w text h = h
told_ok T E X Y (Some log) None knowing v w text h = h
told_ok T E X Y (Some log) (Some longer) knowing v w text h = h

pub told_err : {K : Type 0} (T E X Y : Type 0) (old new : Option (List (Event K))) (knowing : K) (e : E) (f : Y) (text : List ℕ) → HasTold {T = T} {E = E} old new knowing (Err e) text → HasTold {T = X} {E = Y} old new knowing (Err f) text
told_err T E X Y None new knowing e f text h = h
told_err T E X Y (Some log) None knowing e f text h = h
told_err T E X Y (Some log) (Some longer) knowing e f text h = h

-- of an object, of what a heap was opened with, and of peers, and how results are written
module _ {S C Q R A P : Type 0} (m : Machine S C Q R A) (Contents : ℕ → List ℕ → S → ℕ → Type 0) (table : TableId) (base : Base) (peer : ShownPeer Caller P) (texts : Texts R A) (Reads : List ℕ → Step C Q → Type 0) where
  -- ---- what callers knew

  abbrev Knows : Caller → Caller → List (LineResult R A) → Type 0
  Knows pass = Knew m Contents table base peer texts Reads pass

  module _ (asks : Step C Q) (told : Taken A) (words : List ℕ) (was pass : Caller) (took : HasTakenOne m Contents base table asks told words was pass) where
    abbrev one : LineResult R A
    one = result_taken m.words_reply told words

    moments_later : StartsWith (kept_in pass).moments (kept_in was).moments
    moments_later = ⊎_elim (λ dated. dated.0) (λ same. subst (λ p. StartsWith (kept_in p).moments (kept_in was).moments) (sym same) (starts_same (kept_in was).moments)) took.dated

    dated_later : length (kept_in was).moments ≡ length (kept_in was).seen → length (kept_in pass).moments ≡ length (kept_in pass).seen
    dated_later before = ⊎_elim (λ dated. dated.1.one_each) (λ same. subst (λ p. length (kept_in p).moments ≡ length (kept_in p).seen) (sym same) before) took.dated

    knew_later : (knowing : Caller) (rs : List (LineResult R A)) → Knows was knowing rs → Knows pass knowing rs
    knew_later knowing rs h = record {
      told = h.told;
      seen = starts_further (kept_in pass).seen (kept_in was).seen (kept_in knowing).seen took.later h.seen;
      moments = starts_further (kept_in pass).moments (kept_in was).moments (kept_in knowing).moments moments_later h.moments;
      dated = h.dated;
    }

    knows_one_more : (rs : List (LineResult R A)) → Knows was was rs → Knows pass pass (rs ++ one ∷ [])
    knows_one_more rs h = record {
      told = λ s k at. all_append (IsSeen k (kept_in pass)) rs (one ∷ []) (all_seen_more k (kept_in was) (kept_in pass) rs (starts_longer (kept_in pass).seen (kept_in was).seen took.later) (h.told s k at)) (took.seen s k at, tt);
      seen = starts_same (kept_in pass).seen;
      moments = starts_same (kept_in pass).moments;
      dated = dated_later h.dated;
    }

  -- ---- one line more

  abbrev Talking : Caller → Ear → P → Bool → Bool → List (List ℕ) → List (Step C Q) → List (LineResult R A) → Type 0
  Talking = IsTalking m Contents table base peer texts Reads

  -- a line was heard, which asks for this
  pub record HasHeardLine (earlier ear : Ear) (before mid : P) (lines : List (List ℕ)) (line : List ℕ) (asks : Step C Q) : Type 0 where
    pub asked : Asks (length lines) (peer.log before) (peer.log mid)
    pub at : IsAt ear (peer.log mid) (lines ++ line ∷ [])
    pub reads : Reads line asks
    pub once : AsksOnce peer earlier ear before mid nexts.Line

  module _ (was pass : Caller) (earlier ear : Ear) (before mid now : P) (was_unread was_faulted unread faulted : Bool) (lines : List (List ℕ)) (steps : List (Step C Q)) (results : List (LineResult R A)) (line : List ℕ) (asks : Step C Q) (end : Option Ending)
      (so_far : Talking was earlier before was_unread was_faulted lines steps results) (heard : HasHeardLine earlier ear before mid lines line asks) (a : HasAnswered m Contents table base peer texts asks was pass mid now was_unread was_faulted unread faulted end) where
    abbrev its : LineResult R A
    its = result_taken m.words_reply a.told a.words

    as_many : length lines ≡ length results
    as_many = omega (arith, read_length Reads lines steps so_far.read, so_far.many)

    knows_it : Knows pass pass (results ++ its ∷ [])
    knows_it = knows_one_more asks a.told a.words was pass a.took results so_far.knows

    known_by : IfSome (peer.log mid) (λ l. length lines + 1 ≤ known_in l)
    known_by = if_both (peer.log mid) (λ l. length (lines ++ line ∷ []) ≤ known_in l) (λ l. length lines + 1 ≤ known_in l) (λ l h. omega (arith, h, length-append lines (line ∷ []))) (known_at ear (peer.log mid) (lines ++ line ∷ []) heard.at)

    on_mid : IfSome (peer.log mid) (IsOn texts (Knows pass) results)
    on_mid = on_weaker texts (Knows was) results (Knows pass) (knew_later asks a.told a.words was pass a.took) (peer.log mid)
        (heard_on texts (Knows was) results (length lines) (peer.log before) (peer.log mid) as_many heard.asked so_far.on
        (if_both (peer.log mid) (λ l. length lines + 1 ≤ known_in l) (λ l. length lines ≤ known_in l) (λ l h. omega (arith, h)) known_by))

    in_turn_more : (result : Result (Unit {0}) (Unit {0})) → HasTold (peer.log mid) (peer.log now) pass result (line_text (result_text texts its)) → IfSome (peer.log now) (IsSaidInTurn texts (HasDoneLines m Contents base) (steps ++ asks ∷ []) (results ++ its ∷ []))
    in_turn_more result told = turn_said texts (HasDoneLines m Contents base) steps results so_far.many asks its (Unit {0}) (Unit {0}) (Knows pass) pass (a.took.done steps results so_far.done) (peer.log mid) (peer.log now) result on_mid
        (turn_heard texts (HasDoneLines m Contents base) steps results (length lines) (peer.log before) (peer.log mid) heard.asked so_far.in_turn) told

    known_more : IfSome (peer.log mid) (λ l. length results + 1 ≤ known_in l)
    known_more = if_both (peer.log mid) (λ l. length lines + 1 ≤ known_in l) (λ l. length results + 1 ≤ known_in l) (λ l h. omega (arith, h, as_many)) known_by

    notes_more : Notes m Contents table base peer texts Reads unread faulted (results ++ its ∷ [])
    notes_more = record {
      unread_is = any_more is_unread results its was_unread unread so_far.notes.unread_is a.unread_is;
      faulted_is = any_more is_faulted results its was_faulted faulted so_far.notes.faulted_is a.faulted_is;
    }

    read_it : AreRead Reads (lines ++ line ∷ []) (steps ++ asks ∷ [])
    read_it = read_more Reads lines steps line asks so_far.read heard.reads

    many_more : length (results ++ its ∷ []) ≡ length (steps ++ asks ∷ [])
    many_more = omega (arith, length-append results (its ∷ []), length-append steps (asks ∷ []), so_far.many)

    abbrev its_text : List ℕ
    its_text = line_text (result_text texts its)

    -- all that it was told was taken
    told_all : Tells peer {T = Unit {0}} {E = Unit {0}} mid now pass (Ok tt) its_text → ResultFits texts its → HasGoneOn m Contents table base peer texts Reads pass earlier ear before now unread faulted lines steps results
    told_all tells fits = record {
      line = line;
      asks = asks;
      told = its;
      on = record {
        read = read_it;
        many = many_more;
        at = at_said ear (peer.log mid) (peer.log now) pass (Ok tt) its_text (lines ++ line ∷ []) tells.told heard.at;
        done = a.took.done steps results so_far.done;
        knows = knows_it;
        on = said_on texts (Knows pass) results its pass knows_it (Unit {0}) (Unit {0}) (peer.log mid) (peer.log now) tt on_mid known_more tells.told;
        in_turn = in_turn_more (Ok tt) tells.told;
        fits = all_append (ResultFits texts) results (its ∷ []) so_far.fits (fits, tt);
        notes = notes_more;
      };
      idles = idles_said peer earlier.ended ear.ended before mid now tells.unasked heard.once.idle.0;
      still_ended = λ ended. (heard.once.at_end ended).1;
      unasked = unasked_said peer earlier.ended before mid now tells.unasked (unasked_once peer earlier ear before mid nexts.Line heard.once);
      unheard = tells.unasked.unheard ∙ heard.once.idle.1;
      unsaid = tells.cause.none ∙ heard.once.untold.unsaid;
      rest = tells.unasked.rest ∙ heard.once.untold.rest;
    }

    -- it took no more
    told_some : Tells peer {T = Unit {0}} {E = Unit {0}} mid now pass (Err tt) its_text → HasComeToEnd m Contents table base peer texts Reads pass earlier before now ending.Unsaid unread faulted steps
    told_some tells =
        let said : IfSome (peer.log now) (λ l. IsPrompt texts (results ++ its ∷ []) l × IsFounded texts (Knows pass) (results ++ its ∷ []) l) =
        said_some texts (Knows pass) results its pass knows_it (Unit {0}) (Unit {0}) (peer.log mid) (peer.log now) tt on_mid known_more tells.told in
        let failed : FailedLast (peer.unsaid before) (peer.unsaid now) (peer.failing now) = failed_from (peer.unsaid mid) (peer.unsaid before) (peer.unsaid now) (peer.failing now) heard.once.untold.unsaid tells.cause.failed in
        let idles : IdlesBy peer earlier.ended ear.ended before now = idles_said peer earlier.ended ear.ended before mid now tells.unasked heard.once.idle.0 in
        record {
          all = steps ++ asks ∷ [];
          results = results ++ its ∷ [];
          few = omega (arith, length-append steps (asks ∷ []));
          served = record {
            done = a.took.done steps results so_far.done;
            dated = knows_it.dated;
            talk = talk_at texts Reads ear (lines ++ line ∷ []) (steps ++ asks ∷ []) (results ++ its ∷ []) (peer.log now)
                (at_said ear (peer.log mid) (peer.log now) pass (Err tt) its_text (lines ++ line ∷ []) tells.told heard.at) read_it many_more
                (if_both (peer.log now) (λ l. IsPrompt texts (results ++ its ∷ []) l × IsFounded texts (Knows pass) (results ++ its ∷ []) l) (IsPrompt texts (results ++ its ∷ [])) (λ l h. h.0) said);
            founded = if_both (peer.log now) (λ l. IsPrompt texts (results ++ its ∷ []) l × IsFounded texts (Knows pass) (results ++ its ∷ []) l) (IsFounded texts (Knows pass) (results ++ its ∷ [])) (λ l h. h.1) said;
            in_turn = in_turn_more (Err tt) tells.told;
            ended = (tells.unasked.unheard ∙ heard.once.idle.1, failed);
            keeps = record { asked_once = stops_by peer earlier.ended ear.ended before now idles; stops_saying = inr failed; rest = tells.unasked.rest ∙ heard.once.untold.rest };
            whole = λ over. absurd (let clash : ending.Unsaid ≡ ending.Over = over in cc);
            notes = notes_more;
            so_far = far_unsaid texts (Knows pass) steps results (Unit {0}) (Unit {0}) (steps ++ asks ∷ []) its pass (peer.log mid) (peer.log now) tt on_mid tells.told so_far.fits;
          };
          unasked = unasked_said peer earlier.ended before mid now tells.unasked (unasked_once peer earlier ear before mid nexts.Line heard.once);
        }

  -- a line was heard, done and told, or some of what it was told was
  pub goes_on : (was pass : Caller) (earlier ear : Ear) (before mid now : P) (was_unread was_faulted unread faulted : Bool) (lines : List (List ℕ)) (steps : List (Step C Q)) (results : List (LineResult R A)) (line : List ℕ) (asks : Step C Q) (end : Option Ending) →
      Talking was earlier before was_unread was_faulted lines steps results → HasHeardLine earlier ear before mid lines line asks → HasAnswered m Contents table base peer texts asks was pass mid now was_unread was_faulted unread faulted end →
      GoesOn m Contents table base peer texts Reads pass earlier ear before now end unread faulted lines steps results
  goes_on was pass earlier ear before mid now wu wf unread faulted lines steps results line asks None so_far heard a =
      told_all was pass earlier ear before mid now wu wf unread faulted lines steps results line asks None so_far heard a a.says a.fits
  goes_on was pass earlier ear before mid now wu wf unread faulted lines steps results line asks (Some end) so_far heard a =
      subst (λ e. HasComeToEnd m Contents table base peer texts Reads pass earlier before now e unread faulted steps) (sym a.says.0)
      (told_some was pass earlier ear before mid now wu wf unread faulted lines steps results line asks (Some end) so_far heard a a.says.1)

  -- so of a line that was handed out
  pub heard_line : (earlier ear : Ear) (before mid : P) (lines : List (List ℕ)) (asks : Step C Q) → HandsNext ear (peer.log before) (peer.log mid) lines nexts.Line → AsksOnce peer earlier ear before mid nexts.Line →
      Reads (line_in ear) asks → HasHeardLine earlier ear before mid lines (line_in ear) asks
  heard_line earlier ear before mid lines asks hands once reads = record { asked = hands.asks; at = next_line_at ear (peer.log mid) lines hands.next; reads = reads; once = once }

  -- and of one that is too long
  pub heard_long : (earlier ear : Ear) (before mid : P) (lines : List (List ℕ)) → ((line : List ℕ) → LONGEST < length line → Reads line step.Unread) →
      HandsNext ear (peer.log before) (peer.log mid) lines nexts.Long → AsksOnce peer earlier ear before mid nexts.Long → (line : List ℕ) × HasHeardLine earlier ear before mid lines line step.Unread
  heard_long earlier ear before mid lines long_unread hands once =
      let long : (line : List ℕ) × (ROOM ≤ length line + 1) × IsAt ear (peer.log mid) (lines ++ line ∷ []) = next_long_at ear (peer.log mid) lines hands.next in (
        long.0,
        record {
          asked = hands.asks;
          at = long.2;
          reads = long_unread long.0 (omega (arith, long.1));
          once = record { idle = once.idle; at_end = once.at_end; untold = once.untold };
        },
      )

  -- ---- no line more

  module _ (pass : Caller) (earlier ear : Ear) (before mid : P) (unread faulted : Bool) (lines : List (List ℕ)) (steps : List (Step C Q)) (results : List (LineResult R A))
      (so_far : Talking pass earlier before unread faulted lines steps results) where
    lines_many : length lines ≡ length results
    lines_many = omega (arith, read_length Reads lines steps so_far.read, so_far.many)

    on_still : Asks (length lines) (peer.log before) (peer.log mid) → IsAt ear (peer.log mid) lines → IfSome (peer.log mid) (IsOn texts (Knows pass) results)
    on_still asked at = heard_on texts (Knows pass) results (length lines) (peer.log before) (peer.log mid) lines_many asked so_far.on (known_at ear (peer.log mid) lines at)

    talk_still : Asks (length lines) (peer.log before) (peer.log mid) → IsAt ear (peer.log mid) lines → IfSome (peer.log mid) (IsTalk texts Reads steps results)
    talk_still asked at = talk_at texts Reads ear lines steps results (peer.log mid) at so_far.read so_far.many
        (if_both (peer.log mid) (IsOn texts (Knows pass) results) (IsPrompt texts results) (λ l h. h.prompt) (on_still asked at))

    founded_still : Asks (length lines) (peer.log before) (peer.log mid) → IsAt ear (peer.log mid) lines → IfSome (peer.log mid) (IsFounded texts (Knows pass) results)
    founded_still asked at = if_both (peer.log mid) (IsOn texts (Knows pass) results) (IsFounded texts (Knows pass) results) (λ l h. h.founded) (on_still asked at)

    in_turn_still : Asks (length lines) (peer.log before) (peer.log mid) → IfSome (peer.log mid) (IsSaidInTurn texts (HasDoneLines m Contents base) steps results)
    in_turn_still asked = turn_heard texts (HasDoneLines m Contents base) steps results (length lines) (peer.log before) (peer.log mid) asked so_far.in_turn

    pub ends_over : HandsNext ear (peer.log before) (peer.log mid) lines nexts.End → AsksOnce peer earlier ear before mid nexts.End →
        HasComeToEnd m Contents table base peer texts Reads pass earlier before mid ending.Over unread faulted steps
    ends_over hands once =
        let at : IsAt ear (peer.log mid) lines = next_at_end ear (peer.log mid) lines hands.next in
        record {
          all = steps;
          results = results;
          few = omega arith;
          served = record {
            done = so_far.done;
            dated = so_far.knows.dated;
            talk = talk_still hands.asks at;
            founded = founded_still hands.asks at;
            in_turn = in_turn_still hands.asks;
            ended = (once.idle.1, once.untold.unsaid);
            keeps = record { asked_once = stops_by peer earlier.ended ear.ended before mid once.idle.0; stops_saying = inl once.untold.unsaid; rest = once.untold.rest };
            whole = λ over few. whole_at texts Reads (Knows pass) (length lines) lines steps results (peer.log before) (peer.log mid) hands.asks
                (omega (arith, lines_many, so_far.many)) (hands.at_end refl) (on_still hands.asks at) (talk_still hands.asks at);
            notes = so_far.notes;
            so_far = far_over texts (Knows pass) steps results (peer.log mid) so_far.fits;
          };
          unasked = unasked_once peer earlier ear before mid nexts.End once;
        }

    pub ends_unheard : HandsNext ear (peer.log before) (peer.log mid) lines nexts.Failed → AsksOnce peer earlier ear before mid nexts.Failed →
        HasComeToEnd m Contents table base peer texts Reads pass earlier before mid ending.Unheard unread faulted steps
    ends_unheard hands once =
        let at : IsAt ear (peer.log mid) lines = next_failed_at ear (peer.log mid) lines hands.next in
        record {
          all = steps;
          results = results;
          few = omega arith;
          served = record {
            done = so_far.done;
            dated = so_far.knows.dated;
            talk = talk_still hands.asks at;
            founded = founded_still hands.asks at;
            in_turn = in_turn_still hands.asks;
            ended = (once.idle.1, once.idle.0, once.untold.unsaid);
            keeps = record { asked_once = inr once.idle.0; stops_saying = inl once.untold.unsaid; rest = once.untold.rest };
            whole = λ over. absurd (let clash : ending.Unheard ≡ ending.Over = over in cc);
            notes = so_far.notes;
            so_far = far_unheard texts (Knows pass) steps results ear lines (peer.log mid) (sym (read_length Reads lines steps so_far.read)) hands.next (on_still hands.asks at) so_far.fits;
          };
          unasked = unasked_once peer earlier ear before mid nexts.Failed once;
        }

  -- ---- a whole talk

  -- So many lines were done since a caller met a peer, and all of them were told.
  pub record HasBeenTalking (first_pass pass : Caller) (ear : Ear) (first now : P) (unread faulted : Bool) (many : ℕ) : Type 0 where
    pub of : IsCallerOf Contents table base pass
    pub number : pass.view.number ≡ first_pass.view.number
    pub lines : List (List ℕ)
    pub steps : List (Step C Q)
    pub results : List (LineResult R A)
    pub many_are : length steps ≡ many
    pub on : Talking pass ear now unread faulted lines steps results
    pub kept : HasKeptOn peer ear.ended first now

  -- nothing has passed where the log is told
  at_first : {K : Type 0} (ear : Ear) (log : Option (List (Event K))) → HasHeardNothing ear → IfSome log (λ l. l ≡ []) → IsAt ear log []
  at_first ear None nothing fresh = tt
  at_first ear (Some log) nothing fresh = subst (λ l. HasHanded ear (has_ended l) (heard_in l) []) (sym fresh) (none_handed ear nothing)

  on_at_first : (pass : Caller) (log : Option (List (Event Caller))) → IfSome log (λ l. l ≡ []) → IfSome log (IsOn texts (Knows pass) [])
  on_at_first pass None fresh = tt
  on_at_first pass (Some log) fresh = subst (IsOn texts (Knows pass) []) (sym fresh) (on_first texts (Knows pass))

  pub begins : (pass : Caller) (ear : Ear) (p : P) (unread faulted : Bool) → IsReady m Contents table base peer texts Reads pass p → HasHeardNothing ear → unread ≡ false → faulted ≡ false →
      HasBeenTalking pass pass ear p p unread faulted 0
  begins pass ear p unread faulted ready nothing readable unfaulted =
      record {
        of = ready.of;
        number = refl;
        lines = [];
        steps = [];
        results = [];
        many_are = refl;
        on = record {
          read = tt;
          many = refl;
          at = at_first ear (peer.log p) nothing ready.fresh;
          done = record { alone = ready.alone; heard = λ s k at. begun m base.order s k (kept_in pass) ready.first.fronts ready.first.told };
          knows = record {
            told = λ s k at. tt;
            seen = starts_same (kept_in pass).seen;
            moments = starts_same (kept_in pass).moments;
            dated = ap length ready.undated ∙ sym (ap length ready.first.seen);
          };
          on = on_at_first pass (peer.log p) ready.fresh;
          in_turn = turn_first texts (HasDoneLines m Contents base) [] [] (peer.log p) ready.fresh;
          fits = tt;
          notes = record { unread_is = readable; faulted_is = unfaulted };
        };
        kept = record { idles = subst (λ (b : Bool). IdlesBy peer false b p p) (sym nothing.ended) refl; unheard = refl; unsaid = refl; rest = refl };
      }

  -- no more lines than these were told of
  pub told_of_few : (first_pass pass : Caller) (ear : Ear) (first now : P) (unread faulted : Bool) (many : ℕ) (s : S) (k : ℕ) → Contents base.order base.image s k → HasBeenTalking first_pass pass ear first now unread faulted many →
      length (kept_in pass).told ≤ many
  told_of_few first_pass pass ear first now unread faulted many s k at h = omega (arith, told_few m base.order s k (kept_in pass) h.steps h.results (h.on.done.heard s k at), h.many_are)

  module _ (first_pass was pass : Caller) (earlier ear : Ear) (first before now : P) (was_unread was_faulted unread faulted : Bool) (many : ℕ) (h : HasBeenTalking first_pass was earlier first before was_unread was_faulted many)
      (of : IsCallerOf Contents table base pass) (number : pass.view.number ≡ was.view.number) where
    pub talks_on : HasGoneOn m Contents table base peer texts Reads pass earlier ear before now unread faulted h.lines h.steps h.results → HasBeenTalking first_pass pass ear first now unread faulted (many + 1)
    talks_on next = record {
      of = of;
      number = number ∙ h.number;
      lines = h.lines ++ next.line ∷ [];
      steps = h.steps ++ next.asks ∷ [];
      results = h.results ++ next.told ∷ [];
      many_are = omega (arith, length-append h.steps (next.asks ∷ []), h.many_are);
      on = next.on;
      kept = record {
        idles = idles_join peer earlier.ended ear.ended first before now h.kept.idles next.still_ended next.unasked next.idles;
        unheard = next.unheard ∙ h.kept.unheard;
        unsaid = next.unsaid ∙ h.kept.unsaid;
        rest = next.rest ∙ h.kept.rest;
      };
    }

    -- the talk is over
    pub has_served : (end : Ending) → many < LAST_COUNT → HasComeToEnd m Contents table base peer texts Reads pass earlier before now end unread faulted h.steps →
        IsServed m Contents table base peer texts Reads first_pass pass first now end unread faulted
    has_served end few over =
        let served = over.served in
        record {
          of = of;
          number = number ∙ h.number;
          steps = over.all;
          results = over.results;
          few = omega (arith, over.few, h.many_are, few);
          served = record {
            done = served.done;
            dated = served.dated;
            talk = served.talk;
            founded = served.founded;
            in_turn = served.in_turn;
            ended = ended_since peer end earlier.ended first before now h.kept over.unasked served.ended;
            keeps = record {
              asked_once = stops_since peer earlier.ended first before now h.kept.idles over.unasked served.keeps.asked_once;
              stops_saying = stops_from (peer.unsaid before) (peer.unsaid first) (peer.unsaid now) (peer.failing now) h.kept.unsaid served.keeps.stops_saying;
              rest = served.keeps.rest ∙ h.kept.rest;
            };
            whole = served.whole;
            notes = served.notes;
            so_far = served.so_far;
          };
        }

  -- so many lines were done that no more are
  pub served_all : (first_pass pass : Caller) (ear : Ear) (first now : P) (unread faulted : Bool) (many : ℕ) → many ≡ LAST_COUNT → HasBeenTalking first_pass pass ear first now unread faulted many →
      IsServed m Contents table base peer texts Reads first_pass pass first now ending.Over unread faulted
  served_all first_pass pass ear first now unread faulted many all h = record {
    of = h.of;
    number = h.number;
    steps = h.steps;
    results = h.results;
    few = omega (arith, h.many_are, all);
    served = record {
      done = h.on.done;
      dated = h.on.knows.dated;
      talk = talk_at texts Reads ear h.lines h.steps h.results (peer.log now) h.on.at h.on.read h.on.many
          (if_both (peer.log now) (IsOn texts (Knows pass) h.results) (IsPrompt texts h.results) (λ l on. on.prompt) h.on.on);
      founded = if_both (peer.log now) (IsOn texts (Knows pass) h.results) (IsFounded texts (Knows pass) h.results) (λ l on. on.founded) h.on.on;
      in_turn = h.on.in_turn;
      ended = (h.kept.unheard, h.kept.unsaid);
      keeps = record { asked_once = stops_by peer false ear.ended first now h.kept.idles; stops_saying = inl h.kept.unsaid; rest = h.kept.rest };
      whole = λ over fewer. absurd (omega (arith, fewer, h.many_are, all));
      notes = h.on.notes;
      so_far = far_over texts (Knows pass) h.steps h.results (peer.log now) h.on.fits;
    };
  }

  -- a peer that was met is ready as it was
  pub ready_still : (pass : Caller) (first met : P) → IsStill peer first met → IsReady m Contents table base peer texts Reads pass first → IsReady m Contents table base peer texts Reads pass met
  ready_still pass first met still ready = record {
    of = ready.of;
    first = ready.first;
    undated = ready.undated;
    alone = ready.alone;
    fresh = subst (λ l. IfSome l (λ log. log ≡ [])) (sym still.log) ready.fresh;
  }

  -- a peer that was met before was served, and then parted from
  pub served_still : (first_pass pass : Caller) (first was now last : P) (end : Ending) (unread faulted : Bool) → IsStill peer first was → IsStill peer now last →
      IsServed m Contents table base peer texts Reads first_pass pass was now end unread faulted → IsServed m Contents table base peer texts Reads first_pass pass first last end unread faulted
  served_still first_pass pass first was now last end unread faulted met parted h =
      let served = h.served in
      record {
        of = h.of;
        number = h.number;
        steps = h.steps;
        results = h.results;
        few = h.few;
        served = record {
          done = served.done;
          dated = served.dated;
          talk = subst (λ l. IfSome l (IsTalk texts Reads h.steps h.results)) (sym parted.log) served.talk;
          founded = subst (λ l. IfSome l (IsFounded texts (Knows pass) h.results)) (sym parted.log) served.founded;
          in_turn = subst (λ l. IfSome l (IsSaidInTurn texts (HasDoneLines m Contents base) h.steps h.results)) (sym parted.log) served.in_turn;
          ended = ended_still peer end first was now last met parted served.ended;
          keeps = record {
            asked_once = stops_still peer (peer.idle was) (peer.idle first) (peer.idle now) (peer.idle last) (peer.ended now) (peer.ended last) met.unasked.idle parted.unasked.idle parted.unasked.ended served.keeps.asked_once;
            stops_saying = stops_still peer (peer.unsaid was) (peer.unsaid first) (peer.unsaid now) (peer.unsaid last) (peer.failing now) (peer.failing last) met.untold.unsaid parted.untold.unsaid parted.untold.failing served.keeps.stops_saying;
            rest = parted.unasked.rest ∙ served.keeps.rest ∙ met.unasked.rest;
          };
          whole = λ over few. subst (λ l. IfSome l (λ log. length log < 2 ^ 64 - 1 → IsWholeTalk texts Reads h.steps h.results log)) (sym parted.log) (served.whole over few);
          notes = served.notes;
          so_far = subst (λ l. IfSome l (HasComeSoFar texts end h.steps h.results)) (sym parted.log) served.so_far;
        };
      }
