-- What is carried out on a device behind calls that only read it.
use Rattle.std.proofs.Common.{◌≡◌, inl, inr, ⊎_elim, ℕ, List, refl, subst, sym, ap, ◌∙◌, arith}
use Rattle.rom_model.specs.Faults.{counted}
use Rattle.rom_model.specs.Space.{ChangesOnly}
use Rattle.rom_model.proofs.Changes.{changes_wider}
use Rattle.rom_device.specs.Device.{After, Does, OnlyReads, Runs, ShownDevice, Stays}
use Rattle.rom_device.proofs.Going.{does_by, runs_on, was_left}
use Rattle.rom_name.specs.Greetings.{CallFailed, IsCarriedOut, NoneFailed}
use Rattle.rom_name.specs.Identities.{WritesEpoch, WritesIdentity, WritesName}
use Rattle.rom_name.specs.declared.greeting.Greeting.{Greeting}
use Rattle.rom_name.specs.declared.greeting.Greeting.TheVariants as greeting
use Rattle.rom_name.specs.declared.identity.Identity.{Identity}
use Rattle.rom_name.specs.declared.meeting.Meeting.{Meeting}
use Rattle.rom_name.specs.declared.meeting.Meeting.TheVariants.{Follow, Take, Raise, Refused}
use Rattle.rom_frame.specs.declared.head.HeapName.{HeapName}

pub none_changes : (at len : ℕ) (x : List ℕ) → ChangesOnly at len x x
none_changes at len x = record { as_long = refl; before = λ k low. refl; behind = λ k high. refl }

pub same_identity : (identity : Identity) (x : List ℕ) → WritesIdentity identity x x
same_identity identity x = record { only = none_changes 4 4 x; whole = inl refl }

pub same_epoch : (epoch since : ℕ) (x : List ℕ) → WritesEpoch epoch since x x
same_epoch epoch since x = record { only = none_changes 6 2 x; whole = inl refl }

pub same_name : (name : HeapName) (x : List ℕ) → WritesName name x x
same_name name x = record { only = none_changes 4 2 x; whole = inl refl }

module _ {D : Type 0} (shown : ShownDevice D) where
  -- calls that only read change nothing
  pub does_of : (step : List ℕ → List ℕ → Type 0) → ((x : List ℕ) → step x x) → (a b : D) → OnlyReads shown a b → Does shown step a b
  does_of step same a b reads = does_by shown Stays step (λ x y is. subst (λ (l : List ℕ). step x l) (sym is) (same x)) a b
      (record { size = reads.size; words = reads.words; images = reads.images; doubts = reads.doubts; fewer = reads.fewer })

  pub reads_on : (a b c : D) → OnlyReads shown a b → OnlyReads shown b c → OnlyReads shown a c
  reads_on a b c first second = record {
    size = second.size ∙ first.size;
    words = λ told. second.words told ∙ first.words told;
    images = λ told. runs_on shown Stays (λ x y z before behind. behind ∙ before) a b c (first.images told) (second.images told);
    doubts = λ told. runs_on shown Stays (λ x y z before behind. behind ∙ before) a b c (first.doubts told) (second.doubts told);
    fewer = λ at is. first.fewer at (second.fewer at is);
    still = λ told i left. second.still told i (first.still told i left);
    writes = second.writes ∙ first.writes;
    syncs = second.syncs ∙ first.syncs;
  }

  runs_behind : (step : List ℕ → List ℕ → Type 0) → ((x : List ℕ) → step x x) → (a b c : D) → Runs shown Stays a b → Runs shown step b c → Runs shown step a c
  runs_behind step same a b c first second = record {
    later = omega (arith, first.later, second.later);
    now = λ i left. behind i (second.now i left);
    nothing_else = λ t i left. ⊎_elim
        (λ past. ⊎_elim (λ old. inl old) (λ here. inr (record { from = here.from; was = here.was; by = subst (λ (l : List ℕ). step here.from l) (sym here.by) (same here.from) })) (first.nothing_else t i past))
        (λ here. inr (behind i here))
        (second.nothing_else t i left);
    keeps = λ t i le left. second.keeps t i (omega (arith, le, first.later)) (first.keeps t i le left);
  }
    where
      behind : (i : List ℕ) → After step (shown.leaves b) i → After step (shown.leaves a) i
      behind i here = record { from = here.from; was = was_left shown a b first here.from here.was; by = here.by }

  pub does_behind : (step : List ℕ → List ℕ → Type 0) → ((x : List ℕ) → step x x) → (a b c : D) → OnlyReads shown a b → Does shown step b c → Does shown step a c
  does_behind step same a b c reads does = record {
    size = does.size ∙ reads.size;
    words = λ told. subst (λ (l : List ℕ). step l (shown.words c)) (reads.words told) (does.words told);
    images = λ told. runs_behind step same a b c (reads.images told) (does.images told);
    doubts = λ told. runs_behind step same a b c (reads.doubts told) (does.doubts told);
    fewer = λ at is. reads.fewer at (does.fewer at is);
  }

  pub failed_behind : (a b c : D) → NoneFailed shown a b → CallFailed shown b c → CallFailed shown a c
  failed_behind a b c none failed = record { once = failed.once ∙ ap counted none; last = failed.last }

  pub carried : (a b c : D) (m : Meeting) (told : Greeting) → OnlyReads shown a b → NoneFailed shown a b → IsCarriedOut shown m b c told → IsCarriedOut shown m a c told
  carried a b c Follow told reads none (is, behind, unfailed) = (is, reads_on a b c reads behind, unfailed ∙ none)
  carried a b c (Refused why) told reads none (is, behind, unfailed) = (is, reads_on a b c reads behind, unfailed ∙ none)
  carried a b c (Take identity) told reads none (does, inl (is, words, unfailed)) = (does_behind (WritesIdentity identity) (same_identity identity) a b c reads does, inl (is, words, unfailed ∙ none))
  carried a b c (Take identity) told reads none (does, inr (is, failed)) = (does_behind (WritesIdentity identity) (same_identity identity) a b c reads does, inr (is, failed_behind a b c none failed))
  carried a b c (Raise epoch since) told reads none (does, inl (is, words, unfailed)) = (does_behind (WritesEpoch epoch since) (same_epoch epoch since) a b c reads does, inl (is, words, unfailed ∙ none))
  carried a b c (Raise epoch since) told reads none (does, inr (is, failed)) = (does_behind (WritesEpoch epoch since) (same_epoch epoch since) a b c reads does, inr (is, failed_behind a b c none failed))

  -- the identity alone differs
  pub changed : (a c : D) (m : Meeting) (told : Greeting) → IsCarriedOut shown m a c told → Does shown (ChangesOnly 4 4) a c
  changed a c Follow told (is, reads, unfailed) = does_of (ChangesOnly 4 4) (none_changes 4 4) a c reads
  changed a c (Refused why) told (is, reads, unfailed) = does_of (ChangesOnly 4 4) (none_changes 4 4) a c reads
  changed a c (Take identity) told (does, how) = does_by shown (WritesIdentity identity) (ChangesOnly 4 4) (λ x y w. w.only) a c does
  changed a c (Raise epoch since) told (does, how) = does_by shown (WritesEpoch epoch since) (ChangesOnly 4 4) (λ x y w. changes_wider 4 4 6 2 (omega arith) (omega arith) x y w.only) a c does

  -- a device that failed did so by its last call
  pub failed_so : (a c : D) (m : Meeting) → IsCarriedOut shown m a c greeting.DeviceFailed → CallFailed shown a c
  failed_so a c Follow (is, reads, unfailed) = absurd (let never : greeting.DeviceFailed ≡ greeting.Followed = is in cc)
  failed_so a c (Refused why) (is, reads, unfailed) = absurd (let never : greeting.DeviceFailed ≡ greeting.Refused why = is in cc)
  failed_so a c (Take identity) (does, inl (is, words, unfailed)) = absurd (let never : greeting.DeviceFailed ≡ greeting.Followed = is in cc)
  failed_so a c (Take identity) (does, inr (is, failed)) = failed
  failed_so a c (Raise epoch since) (does, inl (is, words, unfailed)) = absurd (let never : greeting.DeviceFailed ≡ greeting.Followed = is in cc)
  failed_so a c (Raise epoch since) (does, inr (is, failed)) = failed

  -- no stream fails while a meeting is carried out
  pub no_stream_failed : (a c : D) (m : Meeting) → IsCarriedOut shown m a c greeting.StreamFailed → ⊥
  no_stream_failed a c Follow (is, reads, unfailed) = absurd (let never : greeting.StreamFailed ≡ greeting.Followed = is in cc)
  no_stream_failed a c (Refused why) (is, reads, unfailed) = absurd (let never : greeting.StreamFailed ≡ greeting.Refused why = is in cc)
  no_stream_failed a c (Take identity) (does, inl (is, words, unfailed)) = absurd (let never : greeting.StreamFailed ≡ greeting.Followed = is in cc)
  no_stream_failed a c (Take identity) (does, inr (is, failed)) = absurd (let never : greeting.StreamFailed ≡ greeting.DeviceFailed = is in cc)
  no_stream_failed a c (Raise epoch since) (does, inl (is, words, unfailed)) = absurd (let never : greeting.StreamFailed ≡ greeting.Followed = is in cc)
  no_stream_failed a c (Raise epoch since) (does, inr (is, failed)) = absurd (let never : greeting.StreamFailed ≡ greeting.DeviceFailed = is in cc)
