-- What a command's passes published lasts, and so does what its callers were told, as its device went through those passes.
use Rattle.std.proofs.Common.{◌≡◌, ℕ, List, [], ◌∷◌, Bool, true, false, length, Option, Some, None, IfSome, IsNone, IsTrue}
use Rattle.std.specs.List.{AllByRecursion}
use Rattle.rom_model.specs.Machine.{Machine, on_words}
use Rattle.rom_model.specs.Story.{Story}
use Rattle.rom_model.specs.declared.kept.Kept.{Kept}
use Rattle.rom_device.specs.Device.{ShownDevice}
use Rattle.rom_store.proofs.Lasting.{has_lasted}
use Rattle.rom_store.proofs.Moments.{lasts_since}
use Rattle.rom_store.specs.Lasting.{HasLasted}
use Rattle.rom_store.specs.Moments.{IsCommittedAt, LastsFor}
use Rattle.rom_store.specs.Sessions.{EachStory, SessionSeen}
use Rattle.rom_store.specs.Traced.{WentThrough}
use Rattle.rom_run.specs.Use.{HasNotRun, Use, heap_of}
use Rattle.rom_run.specs.Working.{HasSession}
use Rattle.rom_run.specs.declared.heap.Heap.{Heap}

-- what lasts for callers was certain
pub lasts_certain : {D S : Type 0} (shown : ShownDevice D) (Contents : ℕ → List ℕ → S → ℕ → Type 0) (step : ℕ → S → ℕ → List ℕ → Option (S × List ℕ)) (story : Story S) (now : D) (vs : List Kept) → AllByRecursion (LastsFor shown Contents step story now) vs
    → AllByRecursion (λ v. IsCommittedAt story v.moments (length v.seen)) vs
lasts_certain shown Contents step story now [] all = tt
lasts_certain shown Contents step story now (v ∷ vs) all = (all.0.certain, lasts_certain shown Contents step story now vs all.1)

module _ {S C Q R A D : Type 0} (machine : Machine S C Q R A) (Contents : ℕ → List ℕ → S → ℕ → Type 0) (shown : ShownDevice D) (now : D) (only_now : (d : D) (i : List ℕ) → IsTrue shown.tells_images → shown.left_since d (shown.clock d) i → shown.leaves d i) where
  -- what was certain for callers lasts
  certain_lasts : (story : Story S) (First : D → Type 0) → WentThrough shown Contents (on_words machine) story First now → (vs : List Kept) → AllByRecursion (λ v. IsCommittedAt story v.moments (length v.seen)) vs → AllByRecursion (LastsFor shown Contents (on_words machine) story now) vs
  certain_lasts story First w [] all = tt
  certain_lasts story First w (v ∷ vs) all = (
    record {
      certain = all.0;
      lasts = λ told. lasts_since shown Contents (on_words machine) story w.first now (has_lasted shown Contents (on_words machine) story only_now now) w.passes told v.moments (length v.seen) all.0;
    },
    certain_lasts story First w vs all.1,
  )

  -- so of each session that a command leaves, where no image since this moment is of another
  pub lasting : (session : Option SessionSeen) → IfSome session (λ s. EachStory machine Contents s (λ story. HasLasted shown Contents (on_words machine) story now))
  lasting None = tt
  lasting (Some s) = λ story of. has_lasted shown Contents (on_words machine) story only_now now

  module _ (was : D) (P : List Kept → Story S → Type 0) where
    pub session_lasts : (heap : Heap) (s : SessionSeen) → HasSession machine Contents shown heap was now P s → EachStory machine Contents s (λ story. AllByRecursion (LastsFor shown Contents (on_words machine) story now) s.callers)
    session_lasts heap s told story of = certain_lasts story _ (told.each story of).faults.went s.callers (told.certain story of)

    -- and of what its callers were told
    pub told_lasts : (asked : Option Use) (status : ℕ) (session : Option SessionSeen) → (HasNotRun asked status → IsNone session) → IfSome asked (λ does. IfSome session (HasSession machine Contents shown (heap_of does) was now P)) →
        IfSome session (λ s. EachStory machine Contents s (λ story. AllByRecursion (LastsFor shown Contents (on_words machine) story now) s.callers))
    told_lasts asked status None left told = tt
    told_lasts (Some does) status (Some s) left told = session_lasts (heap_of does) s told
    told_lasts None status (Some s) left told = let none : IsNone (Some s) = left tt in absurd (let no : ⊥ = cc in no)
