-- A caller's updates that were told that the device failed are at most as many as the device's count of faults rose.
use Rattle.std.specs.Prelude.{◌≡◌, ℕ, ◌+◌, ◌<◌, ◌≤◌, ◌==◌, Bool, true, false, cond, List, [], ◌∷◌, ◌++◌, length, map, Option}
use Rattle.std.proofs.Common.{refl, ap, ◌∙◌, arith, subst, eqb-true}
use Rattle.std.specs.List.{AllByRecursion, filter}
use Rattle.std.proofs.lemmas.List.Elements.{filter-append}
use Rattle.rom_model.specs.declared.call.Updated.{Updated}
use Rattle.rom_model.specs.declared.call.Updated.TheVariants as told
use Rattle.rom_model.specs.declared.entry.Entry.{Entry}
use Rattle.rom_model.specs.declared.line.Step.{Step}
use Rattle.rom_model.specs.declared.line.Step.TheVariants as line
use Rattle.rom_model.specs.declared.line.LineResult.{LineResult}
use Rattle.rom_model.specs.declared.line.LineResult.TheVariants as outcome
use Rattle.rom_model.specs.declared.record.Fate.{Fate}
use Rattle.rom_model.specs.declared.record.Fate.TheVariants.{Published, Failed, Doubt}
use Rattle.rom_model.specs.declared.record.Found.{Found}
use Rattle.rom_model.specs.declared.record.PassRecord.{PassRecord}
use Rattle.rom_model.specs.Faulted.{RoseBy, update_faults, faulted_lines}
use Rattle.rom_model.specs.History.{after, batch}
use Rattle.rom_model.specs.Lawful.{Answers, IsLawful, IsServed, AreServed, asked, as_words}
use Rattle.rom_model.specs.Machine.{Machine, on_words}
use Rattle.rom_model.specs.Passes.{added, all_told, batch_told, fate_told, faults_after, AreInOrder, AreRising, HasFault}
use Rattle.rom_model.specs.Story.{Story}

-- how many of the found updates were told so
abbrev told_faults : List (Found × Updated (List ℕ)) → ℕ
told_faults [] = 0
told_faults (x ∷ xs) = update_faults x.1 + told_faults xs

-- how many of a caller's were
abbrev told_to_one : ℕ → List (Found × Updated (List ℕ)) → ℕ
told_to_one caller xs = told_faults (filter (λ x. x.0.caller == caller) xs)

told_append : (xs ys : List (Found × Updated (List ℕ))) → told_faults (xs ++ ys) ≡ told_faults xs + told_faults ys
told_append [] ys = omega arith
told_append (x ∷ xs) ys = let more = told_append xs ys in omega (arith, more)

one_append : (caller : ℕ) (xs ys : List (Found × Updated (List ℕ))) → told_to_one caller (xs ++ ys) ≡ told_to_one caller xs + told_to_one caller ys
one_append caller xs ys = ap told_faults (filter-append (λ x. x.0.caller == caller) xs ys) ∙ told_append (filter (λ x. x.0.caller == caller) xs) (filter (λ x. x.0.caller == caller) ys)

-- an update that wasn't told so counts for nobody
skipped : (b : Bool) (x : Found × Updated (List ℕ)) (xs : List (Found × Updated (List ℕ))) → update_faults x.1 ≡ 0 → told_faults (cond b (x ∷ xs) xs) ≡ told_faults xs
skipped true x xs none = omega (arith, none)
skipped false x xs none = refl

-- a pass that was published told nobody so
none_published : (caller k : ℕ) (fs : List Found) (es : List Entry) → told_to_one caller (batch_told k fs es) ≡ 0
none_published caller k [] es = refl
none_published caller k (f ∷ fs) [] = skipped (f.caller == caller) (f, told.Spent) _ refl ∙ none_published caller k fs []
none_published caller k (f ∷ fs) (e ∷ es) = skipped (f.caller == caller) (f, told.Done e.reply k) _ refl ∙ none_published caller (k + 1) fs es

-- Of callers that rise, a caller that isn't above the last one seen isn't among the rest, and each is there once at most.
module _ (u : Updated (List ℕ)) where
  abbrev all_so : List Found → List (Found × Updated (List ℕ))
  all_so fs = map (λ f. (f, u)) fs

  is_past : (caller low : ℕ) (fs : List Found) → AreRising low fs → caller ≤ low → told_to_one caller (all_so fs) ≡ 0
  is_past caller low [] rising le = refl
  is_past caller low (f ∷ fs) rising le = go (f.caller == caller) refl (is_past caller f.caller fs rising.1)
    where
      go : (b : Bool) → (f.caller == caller) ≡ b → (caller ≤ f.caller → told_to_one caller (all_so fs) ≡ 0) → told_faults (cond b ((f, u) ∷ filter (λ x. x.0.caller == caller) (all_so fs)) (filter (λ x. x.0.caller == caller) (all_so fs))) ≡ 0
      go true is rest = let same : f.caller ≡ caller = eqb-true f.caller caller is in absurd (let above : low < f.caller = rising.0 in omega (arith, same, above, le))
      go false is rest = rest (let above : low < f.caller = rising.0 in omega (arith, above, le))

  once_each : (caller low : ℕ) (fs : List Found) → AreRising low fs → update_faults u ≤ 1 → told_to_one caller (all_so fs) ≤ 1
  once_each caller low [] rising le = omega arith
  once_each caller low (f ∷ fs) rising le = go (f.caller == caller) refl (once_each caller f.caller fs rising.1 le)
    where
      go : (b : Bool) → (f.caller == caller) ≡ b → told_to_one caller (all_so fs) ≤ 1 → told_faults (cond b ((f, u) ∷ filter (λ x. x.0.caller == caller) (all_so fs)) (filter (λ x. x.0.caller == caller) (all_so fs))) ≤ 1
      go true is rest =
          let same : f.caller ≡ caller = eqb-true f.caller caller is in
          let none = is_past caller f.caller fs rising.1 (let at : caller ≤ f.caller = omega (arith, same) in at) in omega (arith, none, le)
      go false is rest = rest

-- So a pass told each caller so once at most, and then its count of faults rose.
rose_once : (caller : ℕ) (fate : Fate) (k : ℕ) (fs : List Found) (es : List Entry) (before now : ℕ) → AreRising 0 fs → before ≤ now → HasFault fate before now → RoseBy (told_to_one caller (fate_told fate k fs es)) before now
rose_once caller Published k fs es before now rising le fault = let none = none_published caller k fs es in omega (arith, none, le)
rose_once caller Failed k fs es before now rising le fault = let one = once_each told.Failed caller 0 fs rising (omega arith) in omega (arith, one, le, fault)
rose_once caller Doubt k fs es before now rising le fault = let one = once_each told.Doubt caller 0 fs rising (omega arith) in omega (arith, one, le, fault)

module _ {S : Type 0} (step : ℕ → S → ℕ → List ℕ → Option (S × List ℕ)) (n : ℕ) where
  -- counts of faults never fall along records, and rise for each update of a caller that was told so
  pub rose_along : (caller : ℕ) (s : S) (k len faults : ℕ) (rs : List PassRecord) → AreInOrder step n s k len faults rs → RoseBy (told_to_one caller (all_told step n s k rs)) faults (faults_after faults rs)
  rose_along caller s k len faults [] all = omega arith
  rose_along caller s k len faults (r ∷ rs) all =
      let more : List Entry = added step n s k r in let s' : S = after step n s k more in let k' : ℕ = k + length more in
      let first : List (Found × Updated (List ℕ)) = fate_told r.fate k r.found (batch step n s k r.found) in
      let rest : List (Found × Updated (List ℕ)) = all_told step n s' k' rs in
      let later : faults ≤ r.faults_before = all.3 in
      let one : RoseBy (told_to_one caller first) r.faults_before r.faults_after = rose_once caller r.fate k r.found (batch step n s k r.found) r.faults_before r.faults_after all.2 all.4 all.5 in
      let others : RoseBy (told_to_one caller rest) r.faults_after (faults_after r.faults_after rs) = rose_along caller s' k' r.len r.faults_after rs all.6 in
      let both : told_to_one caller (first ++ rest) ≡ told_to_one caller first + told_to_one caller rest = one_append caller first rest in
      omega (arith, later, one, others, both)

module _ {S C Q R A : Type 0} (m : Machine S C Q R A) where
  same_words : (u : Updated R) → update_faults (as_words m u) ≡ update_faults u
  same_words (told.Done reply place) = refl
  same_words told.Spent = refl
  same_words told.Failed = refl
  same_words told.Doubt = refl

  -- the lines of a caller that were told so are its updates that were
  lines_asked : (story : Story S) (caller seq : ℕ) (lines : List (Step C Q)) (results : List (LineResult R A)) → Answers m story lines results → told_faults (asked m caller seq lines results) ≡ faulted_lines results
  lines_asked story caller seq [] [] all = refl
  lines_asked story caller seq (line.Update call ∷ lines) (outcome.Update u ∷ results) all =
      let rest = lines_asked story caller (seq + 1) lines results all.1 in let same = same_words u in omega (arith, rest, same)
  lines_asked story caller seq (line.Ask query ∷ lines) (outcome.Read answer front ∷ results) all = let rest = lines_asked story caller seq lines results all.1 in omega (arith, rest)
  lines_asked story caller seq (line.Unread ∷ lines) (outcome.Unread ∷ results) all = let rest = lines_asked story caller seq lines results all.1 in omega (arith, rest)
  lines_asked story caller seq [] (r ∷ results) all = absurd all
  lines_asked story caller seq (l ∷ lines) [] all = absurd all
  lines_asked story caller seq (line.Update call ∷ lines) (outcome.Unread ∷ results) all = absurd all.0
  lines_asked story caller seq (line.Update call ∷ lines) (outcome.Read answer front ∷ results) all = absurd all.0
  lines_asked story caller seq (line.Ask query ∷ lines) (outcome.Unread ∷ results) all = absurd all.0
  lines_asked story caller seq (line.Ask query ∷ lines) (outcome.Update u ∷ results) all = absurd all.0
  lines_asked story caller seq (line.Unread ∷ lines) (outcome.Update u ∷ results) all = absurd all.0
  lines_asked story caller seq (line.Unread ∷ lines) (outcome.Read answer front ∷ results) all = absurd all.0

  module _ (story : Story S) (ordered : AreInOrder (on_words m) story.order story.opening story.opening_count 0 story.opening_faults story.records) where
    one_bounded : (caller : ℕ) (lines : List (Step C Q)) (results : List (LineResult R A)) → IsServed m story caller lines results → RoseBy (faulted_lines results) story.opening_faults (faults_after story.opening_faults story.records)
    one_bounded caller lines results served =
        subst (λ k. RoseBy k story.opening_faults (faults_after story.opening_faults story.records)) (ap told_faults served.found ∙ lines_asked story caller 0 lines results served.answered)
        (rose_along (on_words m) story.order caller story.opening story.opening_count 0 story.opening_faults story.records ordered)

    all_bounded : (caller : ℕ) (scripts : List (List (Step C Q))) (results : List (List (LineResult R A))) → AreServed m story caller scripts results → AllByRecursion (λ rs. RoseBy (faulted_lines rs) story.opening_faults (faults_after story.opening_faults story.records)) results
    all_bounded caller [] [] all = tt
    all_bounded caller (lines ∷ scripts) (results ∷ more) all = (one_bounded caller lines results all.0, all_bounded (caller + 1) scripts more all.1)
    all_bounded caller [] (results ∷ more) all = absurd all
    all_bounded caller (lines ∷ scripts) [] all = absurd all

  -- Of lawful results, each caller's lines that were told that the device failed are at most as many as its count rose.
  pub faults_bounded : (story : Story S) (scripts : List (List (Step C Q))) (results : List (List (LineResult R A))) → IsLawful m story scripts results → AllByRecursion (λ rs. RoseBy (faulted_lines rs) story.opening_faults (faults_after story.opening_faults story.records)) results
  faults_bounded story scripts results lawful = all_bounded story lawful.recorded.in_order 1 scripts results lawful.served
