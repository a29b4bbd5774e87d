-- A heap that took frames of another heap's history in batches ends at a prefix of it, and each image since holds one.
use Rattle.std.proofs.Common.{◌≡◌, ◌≢◌, ◌⊎◌, ℕ, ◌+◌, List, [], ◌∷◌, ◌++◌, length, map, take, drop, sym, ap, ◌∙◌, subst, arith, inl, inr}
use Rattle.std.specs.Prelude.{IfSome, Option}
use Rattle.std.specs.List.{AllByRecursion}
use Rattle.rom_model.specs.History.{IsLegal}
use Rattle.rom_model.specs.Lawful.{IsRecorded}
use Rattle.rom_model.specs.Machine.{on_words}
use Rattle.rom_model.specs.Region.{Contents}
use Rattle.rom_model.specs.State.{State}
use Rattle.rom_model.specs.Story.{IsInDoubt, Story, doubted_batch}
use Rattle.rom_model.specs.Trio.{trio}
use Rattle.rom_model.specs.declared.entry.Entry.{Entry}
use Rattle.rom_model.specs.declared.record.Fate.TheVariants.{Published, Doubt}
use Rattle.rom_model.specs.declared.record.PassRecord.{PassRecord}
use Rattle.rom_model.proofs.Recorded.{history_legal}
use Rattle.rom_device.specs.Device.{ShownDevice}
use Rattle.rom_combine.specs.Session.{HoldsAfter, ImageNow, SessionImage}
use Rattle.rom_store.specs.Lone.{args_in, args_of}
use Rattle.rom_text.specs.Streams.{ShownSource}
use Rattle.rom_frame.specs.declared.frame.Frame.{Frame}
use Rattle.rom_follow.specs.Following.{HoldsPrefix}
use Rattle.rom_run.specs.Working.{IsSessionOn}
use Rattle.rom_run.specs.declared.heap.Heap.TheVariants.{Standing}
use Rattle.rom_run.proofs.Leaving.{leaves_by}
use Rattle.rom_replica.specs.Turns.{applied}
use Rattle.rom_replica.specs.declared.stop.Stop.{Stop}
use Rattle.rom_replica.specs.declared.stop.Stop.TheVariants as stops
use Rattle.rom_tail.specs.Batches.{call_in, many_next}
use Rattle.rom_tail.specs.Chased.{HasFailed, IsPublished}
use Rattle.rom_tail.specs.Prefixes.{BeginsIn, EndsIn, FollowsEach, IsFrameIn}
use Rattle.rom_tail.specs.Tailed.{HasStopped, IsTailed}
use Rattle.rom_tail.specs.declared.tally.Tally.{Tally}
use Rattle.rom_tail.proofs.NextFrames.{next_frames}
use Rattle.rom_tail.proofs.Prefixed.{boundary_prefix, doubt_prefix, ends, reaches, same_reply}

-- what holds of all holds of those behind
all_behind : {A : Type 0} (P : A → Type 0) (xs ys : List A) → AllByRecursion P (xs ++ ys) → AllByRecursion P ys
all_behind P [] ys all = all
all_behind P (x ∷ xs) ys all = all_behind P xs ys all.1

-- a pass in doubt is none that was published
none_doubted : (records before since : List PassRecord) (pass : PassRecord) → AllByRecursion IsPublished records → records ≡ before ++ pass ∷ since → pass.fate ≡ Doubt → ⊥
none_doubted [] [] since pass published stands fate = cc
none_doubted [] (b ∷ before) since pass published stands fate = cc
none_doubted (r ∷ records) [] since pass published stands fate =
    let one : r ≡ pass = cc in
    let never : Published ≡ Doubt = sym published.0 ∙ ap (λ (x : PassRecord). x.fate) one ∙ fate in cc
none_doubted (r ∷ records) (b ∷ before) since pass published stands fate = none_doubted records before since pass published.1 (let rest : records ≡ before ++ pass ∷ since = cc in rest) fate

-- so it is the last one, where those before that are published
last_doubted : (earlier before since : List PassRecord) (pass last : PassRecord) → AllByRecursion IsPublished earlier → earlier ++ last ∷ [] ≡ before ++ pass ∷ since → pass.fate ≡ Doubt → pass ≡ last
last_doubted [] [] since pass last published stands fate = cc
last_doubted [] (b ∷ before) since pass last published stands fate = absurd (no_more before (let rest : [] ≡ before ++ pass ∷ since = cc in rest))
  where
    no_more : (xs : List PassRecord) → [] ≡ xs ++ pass ∷ since → ⊥
    no_more [] is = cc
    no_more (x ∷ xs) is = cc
last_doubted (r ∷ earlier) [] since pass last published stands fate =
    let one : r ≡ pass = cc in
    let never : Published ≡ Doubt = sym published.0 ∙ ap (λ (x : PassRecord). x.fate) one ∙ fate in cc
last_doubted (r ∷ earlier) (b ∷ before) since pass last published stands fate = last_doubted earlier before since pass last published.1 (let rest : earlier ++ last ∷ [] ≡ before ++ pass ∷ since = cc in rest) fate

module _ {X : Type 0} (source : ShownSource X) (was now : X) (story : Story State) (recorded : IsRecorded trio story) where
  legal : IsLegal (on_words trio) story.order story.opening story.opening_count story.history
  legal = subst (IsLegal (on_words trio) story.order story.opening story.opening_count) (sym recorded.made) (history_legal (on_words trio) story.order story.opening story.opening_count story.records)

  -- All passes were published; or the last one failed, which found the calls of the frames from the stop on.
  how_published : (frames rest left : List Frame) (bytes : List ℕ) (stop : Stop) → HasStopped source story.opening_count was now story.history story.records frames rest bytes left stop
      → AllByRecursion IsPublished story.records
      ⊎ ((length story.history ≡ many_next story.opening_count frames) × HasFailed (map call_in (applied (story.opening_count + many_next story.opening_count frames) rest)) (length story.history) story.records)
  how_published frames rest [] bytes stop stopped = inl stopped.1.published
  how_published frames rest (f ∷ left) bytes stops.DeviceFailed stopped = inr stopped.2
  how_published frames rest (f ∷ left) bytes stops.Diverged stopped = inl stopped.2.0
  how_published frames rest (f ∷ left) bytes stops.Spent stopped = inl stopped.2.0.published
  how_published frames rest (f ∷ left) bytes stops.End stopped = absurd stopped.2
  how_published frames rest (f ∷ left) bytes stops.Broken stopped = absurd stopped.2
  how_published frames rest (f ∷ left) bytes stops.StreamFailed stopped = absurd stopped.2
  how_published frames rest (f ∷ left) bytes stops.TooLong stopped = absurd stopped.2

  module _ (tally : Tally) (stop : Stop) (t : IsTailed source story.opening_count was now story.history story.records tally stop) (s0 : State) (n0 : ℕ) (history : List Entry) (first : ℕ) (begins : BeginsIn story s0 n0 history first)
      (known : AllByRecursion (IsFrameIn n0 history) (t.frames ++ t.rest)) where
    -- no reply is another than the frame's
    agrees_at : (left : List Frame) → AllByRecursion (IsFrameIn n0 history) left → HasStopped source story.opening_count was now story.history story.records t.frames t.rest t.bytes left stops.Diverged → ⊥
    agrees_at [] of stopped = absurd stopped.0
    agrees_at (f ∷ left) of stopped =
        let there = stopped.2.1 in
        there.3 (same_reply story legal s0 n0 history first begins (t.frames ++ t.rest) known t.calls (many_next story.opening_count t.frames) there.0 f there.1 of.0 stopped.1)

    agrees : stop ≢ stops.Diverged
    agrees is = agrees_at t.rest (all_behind (IsFrameIn n0 history) t.frames t.rest known) (subst (HasStopped source story.opening_count was now story.history story.records t.frames t.rest t.bytes t.rest) is t.stopped)

    -- what a record in doubt may have left
    doubted : (before since : List PassRecord) (pass : PassRecord) (i : List ℕ) → story.records ≡ before ++ pass ∷ since → pass.fate ≡ Doubt → HoldsAfter Contents (on_words trio) story pass.len (doubted_batch (on_words trio) story pass) i
        → HoldsPrefix story.order s0 n0 history first i
    doubted before since pass i stands fate holds = elim (how_published t.frames t.rest t.rest t.bytes stop t.stopped) [
      | inl published ↦ absurd (none_doubted story.records before since pass published stands fate)
      | inr failed ↦
          let last : pass ≡ failed.1.pass = last_doubted failed.1.earlier before since pass failed.1.pass failed.1.published (sym failed.1.last ∙ stands) fate in
          let at : story.opening_count + many_next story.opening_count t.frames ≡ n0 + (first + length story.history) = omega (arith, failed.0, begins.opening_count) in
          let calls : map call_in (applied (n0 + (first + length story.history)) t.rest) ≡ map args_in (take (many_next (n0 + (first + length story.history)) t.rest) (drop (first + length story.history) history)) =
          next_frames n0 history (first + length story.history) t.rest (all_behind (IsFrameIn n0 history) t.frames t.rest known) in
          doubt_prefix story legal s0 n0 history first begins (t.frames ++ t.rest) known t.calls pass (many_next (n0 + (first + length story.history)) t.rest) i
          (ap (λ (r : PassRecord). r.len) last ∙ failed.1.len_is)
          (ap (λ (r : PassRecord). map args_of r.found) last ∙ failed.1.found ∙ ap (λ (k : ℕ). map call_in (applied k t.rest)) at ∙ calls)
          holds
    ]

    session_prefix : (i : List ℕ) → SessionImage Contents (on_words trio) story i → HoldsPrefix story.order s0 n0 history first i
    session_prefix i (inl b) = boundary_prefix story legal s0 n0 history first begins (t.frames ++ t.rest) known t.calls b.len i b.reached b.holds
    session_prefix i (inr x) = doubted x.before x.since x.pass i x.stands x.fate_is x.holds

    now_prefix : (i : List ℕ) → ImageNow Contents (on_words trio) story i → HoldsPrefix story.order s0 n0 history first i
    now_prefix i (inl whole) = boundary_prefix story legal s0 n0 history first begins (t.frames ++ t.rest) known t.calls (length story.history) i (omega arith) whole
    now_prefix i (inr x) =
        let doubt : IsInDoubt (on_words trio) story x.0 = subst (λ (o : Option (List Entry)). IfSome o (IsInDoubt (on_words trio) story)) x.1 recorded.in_doubt in
        doubted doubt.before doubt.since doubt.pass i doubt.stands doubt.fate
        (subst (λ (n : ℕ). HoldsAfter Contents (on_words trio) story n (doubted_batch (on_words trio) story doubt.pass) i) (sym doubt.at_end) (subst (λ (more : List Entry). HoldsAfter Contents (on_words trio) story (length story.history) more i) doubt.batch_is x.2))

    ends_in : {D : Type 0} (shown : ShownDevice D) (device closed : D) → IsSessionOn trio Contents shown Standing device closed story → EndsIn shown device closed story stop s0 n0 history first
    ends_in shown device closed session = record {
      len = first + length story.history;
      least = omega arith;
      within = reaches story legal s0 n0 history first begins (t.frames ++ t.rest) known t.calls;
      state = ends story legal s0 n0 history first begins (t.frames ++ t.rest) known t.calls;
      count_is = omega (arith, begins.opening_count);
      agrees = agrees;
      at_end = λ tells i left. now_prefix i (session.at_end tells i left);
      since = λ tells. leaves_by shown (SessionImage Contents (on_words trio) story) (HoldsPrefix story.order s0 n0 history first) device closed session_prefix (session.since tells);
    }

-- So of each session on a heap that stands, whose history and records are those of frames that were taken up to the first stop.
pub follows_each : {D X : Type 0} (shown : ShownDevice D) (source : ShownSource X) (device closed : D) (was now : X) (story : Story State) (tally : Tally) (stop : Stop)
    → IsSessionOn trio Contents shown Standing device closed story → IsRecorded trio story → (t : IsTailed source story.opening_count was now story.history story.records tally stop)
    → FollowsEach shown device closed story stop (t.frames ++ t.rest)
follows_each shown source device closed was now story tally stop session recorded t = λ s0 n0 history first begins known.
    ends_in source was now story recorded tally stop t s0 n0 history first begins known shown device closed session
