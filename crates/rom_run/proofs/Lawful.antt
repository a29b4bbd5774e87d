-- A lawful history never passes the limit of updates, and none is lawful.
use Rattle.std.specs.Prelude.{◌≡◌, ◌+◌, ◌≤◌, List, [], length, None}
use Rattle.std.proofs.Common.{refl, sym, subst, arith}
use Rattle.rom_model.specs.History.{LAST_COUNT}
use Rattle.rom_model.specs.Lawful.{IsLawful}
use Rattle.rom_model.specs.Leaving.{HaveLeft}
use Rattle.rom_model.specs.Machine.{Machine, on_words}
use Rattle.rom_model.specs.Story.{Story}
use Rattle.rom_model.specs.declared.kept.Kept.{Kept}
use Rattle.rom_model.specs.declared.line.Step.{Step}
use Rattle.rom_model.specs.declared.line.LineResult.{LineResult}
use Rattle.rom_model.proofs.Counted.{history_few}
use Rattle.rom_run.specs.Played.{AreAnswered}

-- the results of one history are answers, of a story that begins within the limit
pub lawful_answers : {S C Q R A : Type 0} (machine : Machine S C Q R A) (story : Story S) (scripts : List (List (Step C Q))) (results : List (List (LineResult R A))) (callers : List Kept) → story.opening_count ≤ LAST_COUNT →
    IsLawful machine story scripts results → HaveLeft machine story 1 callers scripts results → AreAnswered machine scripts results callers story
lawful_answers machine story scripts results callers few lawful kept = record {
  lawful = lawful;
  kept = kept;
  within = subst (λ h. story.opening_count + length h ≤ LAST_COUNT) (sym lawful.recorded.made) (history_few (on_words machine) story.order story.opening story.opening_count story.records few);
}

-- of a heap on which nothing was done
pub nothing_done : {S C Q R A : Type 0} (machine : Machine S C Q R A) (story : Story S) → story.history ≡ [] → story.records ≡ [] → story.in_doubt ≡ None → story.opening_count ≤ LAST_COUNT → AreAnswered machine [] [] [] story
nothing_done {S} machine story none unrecorded certain few =
    let bare : Story S = record story { history = []; records = []; in_doubt = None } in
    let is : story ≡ bare = λ i. record { order = story.order; opening = story.opening; opening_count = story.opening_count; opening_faults = story.opening_faults; history = none i; records = unrecorded i; in_doubt = certain i } in
    subst (λ s. AreAnswered machine [] [] [] s) (sym is) (record {
      lawful = record {
        served = tt;
        legal = tt;
        recorded = record { calls = tt; made = refl; in_order = tt; in_doubt = tt };
        known = tt;
      };
      kept = tt;
      within = omega (arith, few);
    })
