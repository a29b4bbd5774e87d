-- How a command ends where nothing fails, and when its heap is refused: it follows from the other promises.
use Rattle.std.specs.Prelude.{◌≡◌, ◌⊎◌, ◌||◌, ℕ, ◌+◌, ◌≤◌, Bool, true, false, IsTrue, if◌then◌else◌, List, [], ◌∷◌, Option, Some, None, IfSome, IsSome, IsNone}
use Rattle.std.proofs.Common.{refl, sym, ◌∙◌, arith, subst, inl, inr}
use Rattle.std.specs.List.{AllByRecursion, list_any}
use Rattle.rom_model.specs.Earlier.{Earlier}
use Rattle.rom_model.specs.Faulted.{RoseBy, faulted_lines}
use Rattle.rom_model.specs.Faults.{Rose, counted}
use Rattle.rom_model.specs.Lawful.{AreServed, Answers, IsLawful, Tells}
use Rattle.rom_model.specs.Machine.{Machine}
use Rattle.rom_model.specs.Story.{Story}
use Rattle.rom_model.specs.declared.call.Updated.TheVariants as told
use Rattle.rom_model.specs.declared.kept.Kept.{Kept}
use Rattle.rom_model.specs.declared.line.Step.{Step}
use Rattle.rom_model.specs.declared.line.Step.TheVariants as line
use Rattle.rom_model.specs.declared.line.LineResult.{LineResult}
use Rattle.rom_model.specs.declared.line.LineResult.TheVariants as outcome
use Rattle.rom_model.specs.declared.unfit.Unfit.{Unfit}
use Rattle.rom_model.proofs.Faulted.{faults_bounded}
use Rattle.rom_device.specs.Device.{ShownDevice}
use Rattle.rom_text.specs.Runs.{SourceFailed, SourceTooLong}
use Rattle.rom_text.specs.Streams.{ShownSink, ShownSource, WriteFailed}
use Rattle.rom_store.specs.Sessions.{EachStory, SessionSeen}
use Rattle.rom_combine.specs.Costs.{IsUnfailed}
use Rattle.rom_run.proofs.Accepted.{AreApart, at_hand, begins, by_name}
use Rattle.rom_run.specs.Complete.{EndsWell, HasFewFaults, HasUnreadLine, IsAtHand, IsComplete, IsRefusedByName, IsRefusedExactly, NoneFailed, is_unread_line}
use Rattle.rom_run.specs.Keeping.{CountsFaults}
use Rattle.rom_run.specs.Played.{HasReplies, IsOutput, ShownOutput}
use Rattle.rom_run.specs.Statuses.{is_faulted, is_unread}
use Rattle.rom_run.specs.declared.heap.Heap.{Heap}
use Rattle.rom_run.specs.Use.{Drawn, HasNotRun, HasRun, IsStatus, Makes, Plays, Read, Shows, Upgrades, Use, heap_of}
use Rattle.rom_run.specs.Working.{HasMade, HasNone, HasSession}

-- ---- results and their status

-- where a line tells of a fault, they are some
some_faulted : {R A : Type 0} (rs : List (LineResult R A)) → list_any is_faulted rs ≡ true → 1 ≤ faulted_lines rs
some_faulted [] is = absurd (let no : ⊥ = cc in no)
some_faulted (outcome.Update told.Failed ∷ rs) is = omega arith
some_faulted (outcome.Update told.Doubt ∷ rs) is = omega arith
some_faulted (outcome.Update told.Spent ∷ rs) is = let rest = some_faulted rs is in omega (arith, rest)
some_faulted (outcome.Update (told.Done reply place) ∷ rs) is = let rest = some_faulted rs is in omega (arith, rest)
some_faulted (outcome.Unread ∷ rs) is = let rest = some_faulted rs is in omega (arith, rest)
some_faulted (outcome.Read answer front ∷ rs) is = let rest = some_faulted rs is in omega (arith, rest)

-- so the count rose
some_rose : {R A : Type 0} (before now : ℕ) (results : List (List (LineResult R A))) → AllByRecursion (λ rs. RoseBy (faulted_lines rs) before now) results → list_any (λ rs. list_any is_faulted rs) results ≡ true → Rose before now
some_rose before now [] all is = absurd (let no : ⊥ = cc in no)
some_rose before now (rs ∷ more) all is = go (list_any is_faulted rs) refl is (some_rose before now more all.1)
  where
    go : (b : Bool) → list_any is_faulted rs ≡ b → (b || list_any (λ x. list_any is_faulted x) more) ≡ true → (list_any (λ x. list_any is_faulted x) more ≡ true → Rose before now) → Rose before now
    go true here is rest = let one = some_faulted rs here in let by = all.0 in omega (arith, one, by)
    go false here is rest = rest is

seven_of : (a b : Bool) → ◌≡◌ {A = ℕ} 7 (if a then 7 else if b then 1 else 0) → a ≡ true
seven_of true b is = refl
seven_of false true is = absurd (omega (arith, is))
seven_of false false is = absurd (omega (arith, is))

one_of : (a b : Bool) → ◌≡◌ {A = ℕ} 1 (if a then 7 else if b then 1 else 0) → b ≡ true
one_of true b is = absurd (omega (arith, is))
one_of false true is = refl
one_of false false is = absurd (omega (arith, is))

-- what is printed has the status 7 where an update is told of a fault, and 1 where a line is unread
module _ {S K R A : Type 0} (sink : ShownSink K) (output : ShownOutput R A) (story : Story S) (results : List (List (LineResult R A))) (old new : K) where
  pub output_faulted : IsOutput sink output story results old new 7 → list_any (λ rs. list_any is_faulted rs) results ≡ true
  output_faulted (inl is) = seven_of _ _ is.0
  output_faulted (inr is) = let no = is.0 in absurd (omega (arith, no))

  pub output_unread : IsOutput sink output story results old new 1 → list_any (λ rs. list_any is_unread rs) results ≡ true
  output_unread (inl is) = one_of _ _ is.0
  output_unread (inr is) = let no = is.0 in absurd (omega (arith, no))

module _ {S C Q R A : Type 0} (machine : Machine S C Q R A) (story : Story S) where
  -- a result is unread where its line is none
  as_line : (l : Step C Q) (r : LineResult R A) → Tells machine story l r → is_unread r ≡ is_unread_line l
  as_line line.Unread outcome.Unread is = refl
  as_line (line.Update call) (outcome.Update updated) is = refl
  as_line (line.Ask query) (outcome.Read answer front) is = refl
  as_line line.Unread (outcome.Update updated) is = absurd is
  as_line line.Unread (outcome.Read answer front) is = absurd is
  as_line (line.Update call) outcome.Unread is = absurd is
  as_line (line.Update call) (outcome.Read answer front) is = absurd is
  as_line (line.Ask query) outcome.Unread is = absurd is
  as_line (line.Ask query) (outcome.Update updated) is = absurd is

  as_lines : (lines : List (Step C Q)) (results : List (LineResult R A)) → Answers machine story lines results → list_any is_unread results ≡ list_any is_unread_line lines
  as_lines [] [] all = refl
  as_lines (l ∷ lines) (r ∷ results) all = let one = as_line l r all.0 in let more = as_lines lines results all.1 in λ i. one i || more i
  as_lines [] (r ∷ results) all = absurd all
  as_lines (l ∷ lines) [] all = absurd all

  as_scripts : (caller : ℕ) (scripts : List (List (Step C Q))) (results : List (List (LineResult R A))) → AreServed machine story caller scripts results →
      list_any (λ rs. list_any is_unread rs) results ≡ list_any (λ lines. list_any is_unread_line lines) scripts
  as_scripts caller [] [] all = refl
  as_scripts caller (lines ∷ scripts) (results ∷ more) all =
      let one = as_lines lines results all.0.answered in let rest = as_scripts (caller + 1) scripts more all.1 in λ i. one i || rest i
  as_scripts caller [] (results ∷ more) all = absurd all
  as_scripts caller (lines ∷ scripts) [] all = absurd all

-- ---- the device's count

module _ {S C Q R A D : Type 0} (machine : Machine S C Q R A) (Contents : ℕ → List ℕ → S → ℕ → Type 0) (shown : ShownDevice D) (was now : D) where
  weaker : (a b : ℕ) (results : List (List (LineResult R A))) → shown.faults was ≤ a → b ≤ shown.faults now → AllByRecursion (λ rs. RoseBy (faulted_lines rs) a b) results →
      AllByRecursion (λ rs. RoseBy (faulted_lines rs) (shown.faults was) (shown.faults now)) results
  weaker a b [] from to all = tt
  weaker a b (rs ∷ more) from to all = (let by = all.0 in omega (arith, from, to, by), weaker a b more from to all.1)

  -- each caller's lines that tell of a fault are at most as many as it rose
  pub few : (heap : Heap) (story : Story S) → CountsFaults machine Contents shown heap was now story → HasFewFaults machine shown was now story
  few heap story counts = λ scripts results lawful. weaker _ _ results (let same = counts.before in omega (arith, same)) counts.after (faults_bounded machine story scripts results lawful)

  -- so where a result tells of a fault, it rose
  pub faulted_rose : (heap : Heap) (story : Story S) → CountsFaults machine Contents shown heap was now story → (scripts : List (List (Step C Q))) (results : List (List (LineResult R A))) → IsLawful machine story scripts results →
      list_any (λ rs. list_any is_faulted rs) results ≡ true → Rose (shown.faults was) (shown.faults now)
  faulted_rose heap story counts scripts results lawful is = some_rose _ _ results (few heap story counts scripts results lawful) is

  -- so of each session that a command leaves
  pub few_faults : (P : List Kept → Story S → Type 0) (asked : Option Use) (status : ℕ) (session : Option SessionSeen) → (HasNotRun asked status → IsNone session) → IfSome asked (λ does. IfSome session (HasSession machine Contents shown (heap_of does) was now P)) →
      IfSome session (λ z. EachStory machine Contents z (HasFewFaults machine shown was now))
  few_faults P asked status None left told = tt
  few_faults P (Some does) status (Some z) left told = λ story of. few (heap_of does) story (told.each story of).faults
  few_faults P None status (Some z) left told = let none : IsNone (Some z) = left tt in absurd (let no : ⊥ = cc in no)

-- ---- each status

pub once_rose : (before now : ℕ) → now ≡ counted before → Rose before now
once_rose before now is = omega (arith, is)

module _ {S C Q R A D X K : Type 0} (machine : Machine S C Q R A) (Contents : ℕ → List ℕ → S → ℕ → Type 0) (kind : ℕ) (Rejects : ℕ → List ℕ → Unfit → Type 0) (earlier : Earlier S) (shown : ShownDevice D) (source : ShownSource X) (sink : ShownSink K)
    (AreRun : List X → List (List (Step C Q)) → Type 0) (Prints : Story S → List (List (LineResult R A)) → K → K → ℕ → Type 0) (was now : D) (before after : List X) (old new : K) where
  -- What is promised of a command besides.
  pub record Promised (asked : Option Use) (status : ℕ) (session : Option SessionSeen) : Type 0 where
    pub statuses : IsStatus asked status
    pub ran : HasRun asked status → IsSome session
    pub not_run : HasNotRun asked status → IsNone session
    pub story : IfSome asked (λ does. IfSome session (HasSession machine Contents shown (heap_of does) was now (HasReplies machine AreRun Prints before old new status)))
    pub none : IfSome asked (λ does. IsNone session → HasNone machine Contents shown sink kind Rejects earlier (heap_of does) was now old new status)
    pub made : status ≡ 0 → HasMade machine Contents earlier shown sink asked was now old new
    pub source_failed : status ≡ 4 → SourceFailed source sink before after old new
    pub too_long : status ≡ 8 → SourceTooLong source sink before after old new
    pub sink_failed : status ≡ 5 → WriteFailed sink old new

  -- of a program whose text has the status 7 where an update is told of a fault, and 1 where a line is unread
  module _ (faulted : (story : Story S) (results : List (List (LineResult R A))) (a b : K) → Prints story results a b 7 → list_any (λ rs. list_any is_faulted rs) results ≡ true)
      (unread : (story : Story S) (results : List (List (LineResult R A))) (a b : K) → Prints story results a b 1 → list_any (λ rs. list_any is_unread rs) results ≡ true) where
    module _ (does : Use) (status : ℕ) where
      -- with 7 the device's count rose
      seven : (session : Option SessionSeen) → IfSome session (HasSession machine Contents shown (heap_of does) was now (HasReplies machine AreRun Prints before old new status)) →
          (IsNone session → HasNone machine Contents shown sink kind Rejects earlier (heap_of does) was now old new status) → status ≡ 7 → Rose (shown.faults was) (shown.faults now)
      seven None told none is = once_rose _ _ ((none refl).device_failed is).failed.once
      seven (Some z) told none is =
          let story = told.story.0 in let of = told.story.1 in let r = told.told story of in
          faulted_rose machine Contents shown was now (heap_of does) story (told.each story of).faults r.scripts r.results r.answered.lawful
          (faulted story r.results old new (subst (λ n. Prints story r.results old new n) is r.printed))

      -- with 1 a line is unread
      one : (session : Option SessionSeen) → IfSome session (HasSession machine Contents shown (heap_of does) was now (HasReplies machine AreRun Prints before old new status)) → IsSome session → status ≡ 1 → HasUnreadLine AreRun before
      one None told some is = absurd (let no : ⊥ = cc in no)
      one (Some z) told some is =
          let story = told.story.0 in let of = told.story.1 in let r = told.told story of in
          (r.scripts, r.read, sym (as_scripts machine story 1 r.scripts r.results r.answered.lawful.served) ∙ unread story r.results old new (subst (λ n. Prints story r.results old new n) is r.printed))

      module _ (session : Option SessionSeen) (p : Promised (Some does) status session) (tells : IsTrue shown.tells_words) (apart : AreApart earlier (heap_of does)) (can : IsAtHand Contents earlier (heap_of does) (shown.words was)) (none : NoneFailed shown source sink was now before after old new) where
        not_three : (status ≡ 3 → IsNone session) → status ≡ 3 → ⊥
        not_three left is = begins Contents Rejects earlier (heap_of does) (shown.words was) apart can (by_name Contents Rejects earlier shown was tells kind sink now old new (heap_of does) ((p.none (left is)).heap_refused is))

        not_four : status ≡ 4 → ⊥
        not_four is = let f = p.source_failed is in none.of_sources f.script f.was f.now f.first.stood f.first.stands (once_rose _ _ f.failed.cause.once)

        not_five : status ≡ 5 → ⊥
        not_five is = none.of_sink (once_rose _ _ (p.sink_failed is).once)

        not_seven : status ≡ 7 → ⊥
        not_seven is = none.of_device (seven session p.story p.none is)

        of_read : (status ≡ 3 → IsNone session) → (status ≡ 1 → IsSome session) → (status ≡ 0) ⊎ (status ≡ 1) ⊎ (status ≡ 3) ⊎ (status ≡ 4) ⊎ (status ≡ 5) ⊎ (status ≡ 6) ⊎ (status ≡ 7) ⊎ (status ≡ 8) →
            EndsWell shown source sink was now before after old new AreRun status
        of_read left some (inl is) = inl is
        of_read left some (inr (inl is)) = inr (inl (is, one session p.story (some is) is))
        of_read left some (inr (inr (inl is))) = absurd (not_three left is)
        of_read left some (inr (inr (inr (inl is)))) = absurd (not_four is)
        of_read left some (inr (inr (inr (inr (inl is))))) = absurd (not_five is)
        of_read left some (inr (inr (inr (inr (inr (inl is)))))) = inr (inr (inr is))
        of_read left some (inr (inr (inr (inr (inr (inr (inl is))))))) = absurd (not_seven is)
        of_read left some (inr (inr (inr (inr (inr (inr (inr is))))))) = inr (inr (inl (is, p.too_long is)))

        of_drawn : (status ≡ 3 → IsNone session) → (status ≡ 0) ⊎ (status ≡ 3) ⊎ (status ≡ 5) ⊎ (status ≡ 6) ⊎ (status ≡ 7) → EndsWell shown source sink was now before after old new AreRun status
        of_drawn left (inl is) = inl is
        of_drawn left (inr (inl is)) = absurd (not_three left is)
        of_drawn left (inr (inr (inl is))) = absurd (not_five is)
        of_drawn left (inr (inr (inr (inl is)))) = inr (inr (inr is))
        of_drawn left (inr (inr (inr (inr is)))) = absurd (not_seven is)

        of_heap : (status ≡ 3 → IsNone session) → (status ≡ 0) ⊎ (status ≡ 3) ⊎ (status ≡ 6) ⊎ (status ≡ 7) → EndsWell shown source sink was now before after old new AreRun status
        of_heap left (inl is) = inl is
        of_heap left (inr (inl is)) = absurd (not_three left is)
        of_heap left (inr (inr (inl is))) = inr (inr (inr is))
        of_heap left (inr (inr (inr is))) = absurd (not_seven is)

    -- So where it can begin, and no count of faults rises, it ends well.
    complete : (asked : Option Use) (status : ℕ) (session : Option SessionSeen) → Promised asked status session → IfSome asked (λ does. AreApart earlier (heap_of does)) → IsComplete shown source sink was now before after old new AreRun Contents earlier asked status
    complete (Some (Plays heap Read)) status session p apart tells can none =
        of_read (Plays heap Read) status session p tells apart can none (λ is. p.not_run (inl is)) (λ is. p.ran (inr (inl is))) p.statuses
    complete (Some (Plays heap Drawn)) status session p apart tells can none = of_drawn (Plays heap Drawn) status session p tells apart can none (λ is. p.not_run (inl is)) p.statuses
    complete (Some (Makes order)) status session p apart tells can none = of_heap (Makes order) status session p tells apart can none (λ is. p.not_run tt) p.statuses
    complete (Some Shows) status session p apart tells can none = of_heap Shows status session p tells apart can none (λ is. p.not_run (inl is)) p.statuses
    complete (Some Upgrades) status session p apart tells can none = of_heap Upgrades status session p tells apart can none (λ is. p.not_run tt) p.statuses
    complete None status session p apart tells can none = absurd can

    -- Likewise when its heap is refused.
    module _ (does : Use) (status : ℕ) (session : Option SessionSeen) (p : Promised (Some does) status session) (tells : IsTrue shown.tells_words) where
      -- with 3 it is refused by name
      named : (status ≡ 3 → IsNone session) → status ≡ 3 → IsRefusedByName Contents Rejects earlier (heap_of does) (shown.words was)
      named left is = by_name Contents Rejects earlier shown was tells kind sink now old new (heap_of does) ((p.none (left is)).heap_refused is)

      -- with a session it was at hand
      began : (z : Option SessionSeen) → IfSome z (HasSession machine Contents shown (heap_of does) was now (HasReplies machine AreRun Prints before old new status)) → IsSome z → IsAtHand Contents earlier (heap_of does) (shown.words was)
      began None told some = absurd (let no : ⊥ = cc in no)
      began (Some z) told some = let story = told.story.0 in at_hand Contents Rejects earlier shown was tells machine (heap_of does) story (told.each story told.story.1).opening

      module _ (apart : AreApart earlier (heap_of does)) (refused : IsRefusedByName Contents Rejects earlier (heap_of does) (shown.words was)) (unfailed : IsUnfailed shown was now) where
        not_at_hand : IsAtHand Contents earlier (heap_of does) (shown.words was) → ⊥
        not_at_hand can = begins Contents Rejects earlier (heap_of does) (shown.words was) apart can refused

        no_session : IsSome session → ⊥
        no_session some = not_at_hand (began session p.story some)

        no_fault : status ≡ 7 → ⊥
        no_fault is = unfailed (seven does status session p.story p.none is)

        of_scripts : ((status ≡ 0) ⊎ (status ≡ 1) ⊎ (status ≡ 5) → IsSome session) → (status ≡ 0) ⊎ (status ≡ 1) ⊎ (status ≡ 3) ⊎ (status ≡ 4) ⊎ (status ≡ 5) ⊎ (status ≡ 6) ⊎ (status ≡ 7) ⊎ (status ≡ 8) →
            (status ≡ 3) ⊎ (status ≡ 4) ⊎ (status ≡ 6) ⊎ (status ≡ 8)
        of_scripts ran (inl is) = absurd (no_session (ran (inl is)))
        of_scripts ran (inr (inl is)) = absurd (no_session (ran (inr (inl is))))
        of_scripts ran (inr (inr (inl is))) = inl is
        of_scripts ran (inr (inr (inr (inl is)))) = inr (inl is)
        of_scripts ran (inr (inr (inr (inr (inl is))))) = absurd (no_session (ran (inr (inr is))))
        of_scripts ran (inr (inr (inr (inr (inr (inl is)))))) = inr (inr (inl is))
        of_scripts ran (inr (inr (inr (inr (inr (inr (inl is))))))) = absurd (no_fault is)
        of_scripts ran (inr (inr (inr (inr (inr (inr (inr is))))))) = inr (inr (inr is))

        of_drill : ((status ≡ 0) ⊎ (status ≡ 1) ⊎ (status ≡ 5) → IsSome session) → (status ≡ 0) ⊎ (status ≡ 3) ⊎ (status ≡ 5) ⊎ (status ≡ 6) ⊎ (status ≡ 7) → (status ≡ 3) ⊎ (status ≡ 4) ⊎ (status ≡ 6) ⊎ (status ≡ 8)
        of_drill ran (inl is) = absurd (no_session (ran (inl is)))
        of_drill ran (inr (inl is)) = inl is
        of_drill ran (inr (inr (inl is))) = absurd (no_session (ran (inr (inr is))))
        of_drill ran (inr (inr (inr (inl is)))) = inr (inr (inl is))
        of_drill ran (inr (inr (inr (inr is)))) = absurd (no_fault is)

        of_one : (status ≡ 0 → ⊥) → (status ≡ 0) ⊎ (status ≡ 3) ⊎ (status ≡ 6) ⊎ (status ≡ 7) → (status ≡ 3) ⊎ (status ≡ 4) ⊎ (status ≡ 6) ⊎ (status ≡ 8)
        of_one undone (inl is) = absurd (undone is)
        of_one undone (inr (inl is)) = inl is
        of_one undone (inr (inr (inl is))) = inr (inr (inl is))
        of_one undone (inr (inr (inr is))) = absurd (no_fault is)

    -- So the status is 3 exactly where it is refused by name.
    refuses : (asked : Option Use) (status : ℕ) (session : Option SessionSeen) → Promised asked status session → IfSome asked (λ does. AreApart earlier (heap_of does)) → IsRefusedExactly Contents Rejects earlier shown was now asked status
    refuses (Some (Plays heap Read)) status session p apart tells = record {
      only = named (Plays heap Read) status session p tells (λ is. p.not_run (inl is));
      always = λ refused unfailed. of_scripts (Plays heap Read) status session p tells apart refused unfailed p.ran p.statuses;
    }
    refuses (Some (Plays heap Drawn)) status session p apart tells = record {
      only = named (Plays heap Drawn) status session p tells (λ is. p.not_run (inl is));
      always = λ refused unfailed. of_drill (Plays heap Drawn) status session p tells apart refused unfailed p.ran p.statuses;
    }
    refuses (Some (Makes order)) status session p apart tells = record {
      only = named (Makes order) status session p tells (λ is. p.not_run tt);
      always = λ refused unfailed. of_one (Makes order) status session p tells apart refused unfailed
          (λ is. not_at_hand (Makes order) status session p tells apart refused unfailed ((p.made is).accepted tells)) p.statuses;
    }
    refuses (Some Shows) status session p apart tells = record {
      only = named Shows status session p tells (λ is. p.not_run (inl is));
      always = λ refused unfailed. of_one Shows status session p tells apart refused unfailed (λ is. no_session Shows status session p tells apart refused unfailed (p.ran is)) p.statuses;
    }
    refuses (Some Upgrades) status session p apart tells = record {
      only = named Upgrades status session p tells (λ is. p.not_run tt);
      always = λ refused unfailed. of_one Upgrades status session p tells apart refused unfailed
          (λ is. let made = p.made is in let held = made.held tells in not_at_hand Upgrades status session p tells apart refused unfailed (made.order, held.0, held.1, held.2)) p.statuses;
    }
    refuses None status session p apart tells = tt

    -- both
    pub ends : (asked : Option Use) (status : ℕ) (session : Option SessionSeen) → Promised asked status session → IfSome asked (λ does. AreApart earlier (heap_of does)) →
        IsComplete shown source sink was now before after old new AreRun Contents earlier asked status × IsRefusedExactly Contents Rejects earlier shown was now asked status
    ends asked status session p apart = (complete asked status session p apart, refuses asked status session p apart)
