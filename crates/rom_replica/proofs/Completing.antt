-- How following ends where nothing fails, and when the heap is refused: it follows from the other promises.
use Rattle.std.proofs.Common.{◌≡◌, ◌⊎◌, ℕ, ◌≤◌, List, [], ◌∷◌, ◌++◌, Option, Some, None, IfSome, IsSome, IsNone, IsTrue, inl, inr, refl, sym, ap, ◌∙◌, subst, arith}
use Rattle.std.specs.Prelude.{slice_get}
use Rattle.rom_model.specs.Faults.{Rose}
use Rattle.rom_model.specs.Machine.{on_words}
use Rattle.rom_model.specs.Passes.{AreInOrder, HasFault, faults_after}
use Rattle.rom_model.specs.Region.{Contents}
use Rattle.rom_model.specs.State.{State}
use Rattle.rom_model.specs.Story.{Story}
use Rattle.rom_model.specs.Trio.{trio}
use Rattle.rom_model.specs.declared.call.Updated.{Updated}
use Rattle.rom_model.specs.declared.call.Updated.TheVariants as updated
use Rattle.rom_model.specs.declared.entry.Entry.{Entry}
use Rattle.rom_model.specs.declared.record.Fate.{Fate}
use Rattle.rom_model.specs.declared.record.Found.{Found}
use Rattle.rom_model.specs.declared.record.Fate.TheVariants.{Published, Failed, Doubt}
use Rattle.rom_model.specs.declared.kept.Kept.{Kept}
use Rattle.rom_model.specs.declared.record.PassRecord.{PassRecord}
use Rattle.rom_heap.specs.Answers.{Rejects, earlier}
use Rattle.rom_device.specs.Device.{ShownDevice}
use Rattle.rom_combine.specs.Costs.{IsUnfailed}
use Rattle.rom_rule.specs.Views.{Told}
use Rattle.rom_store.specs.Sessions.{SessionSeen}
use Rattle.rom_text.specs.Streams.{ReadFailed, ShownSink, ShownSource, WriteFailed}
use Rattle.rom_run.specs.Complete.{IsAtHand, IsRefusedByName, NoneFailed}
use Rattle.rom_run.specs.Working.{HasNone, HasSession}
use Rattle.rom_run.specs.declared.heap.Heap.TheVariants.{Standing}
use Rattle.rom_run.proofs.Accepted.{at_hand, begins, by_name}
use Rattle.rom_follow.specs.Closing.{ArePassesOf, TellsUpdate}
use Rattle.rom_replica.specs.Following.{IsToldOfStream}
use Rattle.rom_replica.specs.Promise.{EndsUnfailed, IsFollowedStatus, IsUnfollowedStatus, OfOne}
use Rattle.rom_replica.specs.Stops.{HasFailed, HasStopped, stop_number}
use Rattle.rom_replica.specs.Turns.{applied, tries_from}
use Rattle.rom_replica.specs.declared.stop.Stop.{Stop}
use Rattle.rom_replica.specs.declared.stop.Stop.TheVariants as stop

-- an update that was told so was told by a pass that has a fault
faulty : (fate : Fate) (told : Updated (List ℕ)) (before after : ℕ) → (told ≡ updated.Failed) ⊎ (told ≡ updated.Doubt) → TellsUpdate fate told → HasFault fate before after → Rose before after
faulty Published told before after (inl is) tells fault = absurd (subst (TellsUpdate Published) is tells)
faulty Published told before after (inr is) tells fault = absurd (subst (TellsUpdate Published) is tells)
faulty Failed told before after is tells fault = fault
faulty Doubt told before after is tells fault = fault

-- the counts of passes rise
rising : (order : ℕ) (rs : List PassRecord) (s : State) (k len faults : ℕ) → AreInOrder (on_words trio) order s k len faults rs → faults ≤ faults_after faults rs
rising order [] s k len faults in_order = omega arith
rising order (r ∷ rs) s k len faults in_order =
    let rest = rising order rs _ _ r.len r.faults_after in_order.6 in
    omega (arith, in_order.3, in_order.4, rest)

-- so where an update was told of a fault, they rose
rose : (order : ℕ) (x : Told) → (x.1 ≡ updated.Failed) ⊎ (x.1 ≡ updated.Doubt) → (rs : List PassRecord) (xs : List Told) (s : State) (k len faults : ℕ) → ArePassesOf rs (xs ++ x ∷ []) → AreInOrder (on_words trio) order s k len faults rs → Rose faults (faults_after faults rs)
rose order x told [] [] s k len faults passes in_order = absurd passes
rose order x told [] (y ∷ ys) s k len faults passes in_order = absurd passes
rose order x told (r ∷ rs) [] s k len faults passes in_order =
    let here = faulty r.fate x.1 r.faults_before r.faults_after told passes.1 in_order.5 in
    let rest = rising order rs _ _ r.len r.faults_after in_order.6 in
    omega (arith, here, in_order.3, rest)
rose order x told (r ∷ rs) (y ∷ ys) s k len faults passes in_order =
    let rest = rose order x told rs ys _ _ r.len r.faults_after passes.2 in_order.6 in
    omega (arith, in_order.3, in_order.4, rest)

-- the stop of this number
module _ {X : Type 0} (source : ShownSource X) (taken : ℕ) (part : List ℕ) (x y : X) (count many : ℕ) (entries : List Entry) (tries : List Told) where
  stop_four : (s : Stop) → stop_number s ≡ 4 → HasStopped source taken part x y count many s entries tries → ReadFailed source x y
  stop_four stop.StreamFailed is stopped = stopped.0.2
  stop_four stop.End is stopped = let no : 0 ≡ 4 = is in absurd (omega (arith, no))
  stop_four stop.Broken is stopped = let no : 1 ≡ 4 = is in absurd (omega (arith, no))
  stop_four stop.DeviceFailed is stopped = let no : 7 ≡ 4 = is in absurd (omega (arith, no))
  stop_four stop.TooLong is stopped = let no : 8 ≡ 4 = is in absurd (omega (arith, no))
  stop_four stop.Diverged is stopped = let no : 9 ≡ 4 = is in absurd (omega (arith, no))
  stop_four stop.Spent is stopped = let no : 10 ≡ 4 = is in absurd (omega (arith, no))

  stop_seven : (s : Stop) → stop_number s ≡ 7 → HasStopped source taken part x y count many s entries tries → HasFailed source taken part x y count many entries tries
  stop_seven stop.DeviceFailed is stopped = stopped
  stop_seven stop.End is stopped = let no : 0 ≡ 7 = is in absurd (omega (arith, no))
  stop_seven stop.Broken is stopped = let no : 1 ≡ 7 = is in absurd (omega (arith, no))
  stop_seven stop.StreamFailed is stopped = let no : 4 ≡ 7 = is in absurd (omega (arith, no))
  stop_seven stop.TooLong is stopped = let no : 8 ≡ 7 = is in absurd (omega (arith, no))
  stop_seven stop.Diverged is stopped = let no : 9 ≡ 7 = is in absurd (omega (arith, no))
  stop_seven stop.Spent is stopped = let no : 10 ≡ 7 = is in absurd (omega (arith, no))

module _ {X K : Type 0} (source : ShownSource X) (sink : ShownSink K) (old new : K) (status : ℕ) (callers : List Kept) (story : Story State) where
  abbrev pub IsFollowedBy : X → X → Type 0
  IsFollowedBy x y = IsToldOfStream source sink x y old new status callers story

  -- the stop has the status as its number, where that isn't 5
  numbered : (x y : X) (f : IsFollowedBy x y) (n : ℕ) → status ≡ n → (n ≡ 5 → ⊥) → stop_number f.stop ≡ n
  numbered x y f n is other = by f.printed
    where
      by : {A B : Type 0} → ((status ≡ stop_number f.stop) × A) ⊎ ((status ≡ 5) × B) → stop_number f.stop ≡ n
      by (inl p) = sym p.0 ∙ is
      by (inr p) = absurd (other (sym is ∙ p.0))

  -- with 4 a read of the stream failed
  read_failed : (x y : X) → IsFollowedBy x y → status ≡ 4 → ReadFailed source x y
  read_failed x y f is = stop_four source _ f.followed.part x y _ _ f.followed.entries f.followed.tries f.stop (numbered x y f 4 is (λ no. omega (arith, no))) f.followed.stopped

  four : (inputs left : List X) → OfOne inputs left IsFollowedBy → status ≡ 4 → (x y : X) × (inputs ≡ x ∷ []) × (left ≡ y ∷ []) × ReadFailed source x y
  four (x ∷ []) (y ∷ []) f is = (x, y, refl, refl, read_failed x y f is)
  four [] left f is = absurd f
  four (x ∷ z ∷ zs) left f is = absurd f
  four (x ∷ []) [] f is = absurd f
  four (x ∷ []) (y ∷ z ∷ zs) f is = absurd f

  -- with 7 the counts of the passes rose
  failed_rose : (x y : X) → IsFollowedBy x y → status ≡ 7 → Rose story.opening_faults (faults_after story.opening_faults story.records)
  failed_rose x y f is =
      let failed = stop_seven source _ f.followed.part x y _ _ f.followed.entries f.followed.tries f.stop (numbered x y f 7 is (λ no. omega (arith, no))) f.followed.stopped in
      by failed.told
    where
      told : (u : Updated (List ℕ)) (found : Found) → (u ≡ updated.Failed) ⊎ (u ≡ updated.Doubt) → f.followed.tries ≡ (found, u) ∷ [] → Rose story.opening_faults (faults_after story.opening_faults story.records)
      told u found why tried =
          rose story.order (found, u) why story.records (tries_from 0 (applied story.opening_count f.followed.frames)) story.opening story.opening_count 0 story.opening_faults
          (subst (λ (ts : List Told). ArePassesOf story.records (tries_from 0 (applied story.opening_count f.followed.frames) ++ ts)) tried f.followed.passes) f.followed.recorded.in_order

      by : {a b : Found} → (f.followed.tries ≡ (a, updated.Failed) ∷ []) ⊎ (f.followed.tries ≡ (b, updated.Doubt) ∷ []) → Rose story.opening_faults (faults_after story.opening_faults story.records)
      by {a} (inl tried) = told updated.Failed a (inl refl) tried
      by {b = b} (inr tried) = told updated.Doubt b (inr refl) tried

  seven : (inputs left : List X) → OfOne inputs left IsFollowedBy → status ≡ 7 → Rose story.opening_faults (faults_after story.opening_faults story.records)
  seven (x ∷ []) (y ∷ []) f is = failed_rose x y f is
  seven [] left f is = absurd f
  seven (x ∷ z ∷ zs) left f is = absurd f
  seven (x ∷ []) [] f is = absurd f
  seven (x ∷ []) (y ∷ z ∷ zs) f is = absurd f

module _ {D X K : Type 0} (shown : ShownDevice D) (source : ShownSource X) (sink : ShownSink K) (was now : D) (inputs left : List X) (old new : K) (status : ℕ) where
  abbrev pub IsStoryTold : SessionSeen → Type 0
  IsStoryTold session = HasSession trio Contents shown Standing was now (λ callers story. OfOne inputs left (IsFollowedBy source sink old new status callers story)) session

  abbrev pub HasNoSession : Type 0
  HasNoSession = HasNone trio Contents shown sink 1 Rejects earlier Standing was now old new status

  -- with 7 the device's count rose
  device_rose : (session : Option SessionSeen) → IfSome session IsStoryTold → (IsNone session → HasNoSession) → status ≡ 7 → Rose (shown.faults was) (shown.faults now)
  device_rose None told none is = let f = ((none refl).device_failed is).failed in omega (arith, f.once)
  device_rose (Some z) told none is =
      let story = told.story.0 in
      let of = told.story.1 in
      let counts = (told.each story of).faults in
      let first : story.opening_faults ≡ shown.faults was = counts.before in
      let passes = seven source sink old new status z.callers story inputs left (told.told story of) is in
      subst (λ (n : ℕ). Rose n (shown.faults now)) first (let last = counts.after in omega (arith, passes, last))

  module _ (session : Option SessionSeen) (story : IfSome session IsStoryTold) (none : IsNone session → HasNoSession) (tells : IsTrue shown.tells_words) where
    pub named : IsNone session → status ≡ 3 → IsRefusedByName Contents Rejects earlier Standing (shown.words was)
    named left is = by_name Contents Rejects earlier shown was tells 1 sink now old new Standing ((none left).heap_refused is)

    -- where there is a session the heap was at hand
    stood : IsSome session → IsAtHand Contents earlier Standing (shown.words was)
    stood = by session story
      where
        by : (z : Option SessionSeen) → IfSome z IsStoryTold → IsSome z → IsAtHand Contents earlier Standing (shown.words was)
        by None told some = absurd (let no : ⊥ = cc in no)
        by (Some z) told some = let s = told.story.0 in at_hand Contents Rejects earlier shown was tells trio Standing s (told.each s told.story.1).opening

    pub completes : IsFollowedStatus status ⊎ IsUnfollowedStatus status ⊎ (status ≡ 7) → (IsFollowedStatus status → IsSome session) → (IsUnfollowedStatus status → IsNone session) → (status ≡ 5 → WriteFailed sink old new) →
        IsAtHand Contents earlier Standing (shown.words was) → NoneFailed shown source sink was now inputs left old new → EndsUnfailed status
    completes statuses taken not_taken sink_failed can unfailed = by statuses
      where
        no_four : status ≡ 4 → ⊥
        no_four is = of_session session story (taken (inr (inr (inl is))))
          where
            of_session : (z : Option SessionSeen) → IfSome z IsStoryTold → IsSome z → ⊥
            of_session None told some = let no : ⊥ = cc in no
            of_session (Some z) told some =
                let s = told.story.0 in
                let f = four source sink old new status z.callers s inputs left (told.told s told.story.1) is in
                unfailed.of_sources 0 f.0 f.1 (ap (λ (xs : List X). slice_get xs 0) f.2) (ap (λ (xs : List X). slice_get xs 0) f.3) (let once = f.4.once in omega (arith, once))

        by : IsFollowedStatus status ⊎ IsUnfollowedStatus status ⊎ (status ≡ 7) → EndsUnfailed status
        by (inl (inl is)) = inl is
        by (inl (inr (inl is))) = inr (inl is)
        by (inl (inr (inr (inl is)))) = absurd (no_four is)
        by (inl (inr (inr (inr (inl is))))) = absurd (unfailed.of_sink (let once = (sink_failed is).once in omega (arith, once)))
        by (inl (inr (inr (inr (inr (inl is)))))) = inr (inr (inr (inl is)))
        by (inl (inr (inr (inr (inr (inr (inl is))))))) = inr (inr (inr (inr (inl is))))
        by (inl (inr (inr (inr (inr (inr (inr is))))))) = inr (inr (inr (inr (inr is))))
        by (inr (inl (inl is))) = absurd (begins Contents Rejects earlier Standing (shown.words was) tt can (named (not_taken (inl is)) is))
        by (inr (inl (inr is))) = inr (inr (inl is))
        by (inr (inr is)) = absurd (unfailed.of_device (device_rose session story none is))

    pub refuses : IsFollowedStatus status ⊎ IsUnfollowedStatus status ⊎ (status ≡ 7) → (IsFollowedStatus status → IsSome session) → IsRefusedByName Contents Rejects earlier Standing (shown.words was) → IsUnfailed shown was now → (status ≡ 3) ⊎ (status ≡ 6)
    refuses (inl is) taken refused unfailed = absurd (begins Contents Rejects earlier Standing (shown.words was) tt (stood (taken is)) refused)
    refuses (inr (inl is)) taken refused unfailed = is
    refuses (inr (inr is)) taken refused unfailed = absurd (unfailed (device_rose session story none is))
