-- What each call of a batch leaves, by the phase that it began in.
use Rattle.std.proofs.Common.{◌≡◌, inl, inr, IsTrue, ℕ, List, [], length, set, sym, ◌∙◌, ap, subst}
use Rattle.rom_model.specs.Blocks.{region_len}
use Rattle.rom_device.specs.Device.{ShownDevice, Becomes, Does, IsSynced, Runs, WritesWord}
use Rattle.rom_header.specs.Headers.{state_word}
use Rattle.rom_header.specs.Layout.{MAIN, STATE, back_at, main_of, back_of}
use Rattle.rom_header.specs.declared.header.State.TheVariants.{Idle, Mutating, Copying}
use Rattle.rom_ranges.specs.declared.range.Range.{Range}
use Rattle.rom_twin.specs.Images.{Twins, IsHeapInState, HasBack, HasMain, Committing}
use Rattle.rom_ranges.specs.Changes.{SameBut}
use Rattle.rom_twin.specs.Ranges.{IsBut, WritesRanges}
use Rattle.rom_twin.specs.Seen.{Seen, InPhase, committed, committed_in, main_now}
use Rattle.rom_twin.specs.declared.phase.Phase.{Phase}
use Rattle.rom_twin.specs.declared.phase.Phase.TheVariants.{Clean, Begun, Persisted, Committed, Copied, Undo, Doubt, Redo}
use Rattle.rom_twin.proofs.Since.{now_by, since_by}
use Rattle.rom_twin.proofs.Phases.{each_of, in_phase, stands_back, stands_main, stands_twins, stands_set, twins_set, twins_writes, persisting, persisted, committing, in_doubt, both_whole, copying, copied, but_part}

-- The twin before the call, of which each image is of its phase, and the device after it.
module _ {D : Type 0} (shown : ShownDevice D) (reads : (d : D) → IsTrue shown.tells_images → shown.leaves d (shown.words d)) (both : IsTrue shown.tells_images → IsTrue shown.tells_words)
    (told : IsTrue shown.tells_images) (t : Seen D) (known : InPhase shown t) (b : D) where
  abbrev pub old : List ℕ
  old = committed shown t

  abbrev pub after : Phase → Seen D
  after phase = record { device = b; order = t.order; phase = phase }

  module _ (is : t.phase ≡ Clean) (does : Does shown (WritesWord STATE (state_word Mutating)) t.device b) where
    begin_start : (i : List ℕ) → shown.leaves t.device i → Twins t.order old i
    begin_start = each_of shown t Clean is known

    begin_now : (i : List ℕ) → shown.leaves b i → Twins t.order old i
    begin_now = now_by shown (WritesWord STATE (state_word Mutating)) (Twins t.order old) t.device b (Twins t.order old) (does.images told) begin_start (twins_writes t.order Mutating old)

    pub begin_since : Runs shown (Becomes (Twins t.order old)) t.device b
    begin_since = since_by shown (WritesWord STATE (state_word Mutating)) (Twins t.order old) t.device b (Twins t.order old) (does.images told) begin_start (twins_writes t.order Mutating old)

    pub begin_failed : InPhase shown (after Undo)
    begin_failed = in_phase shown (after Undo) old [] (reads b told) (λ i left. inr (begin_now i left))

    pub begin_kept : back_of t.order (shown.words b) ≡ old
    begin_kept = (begin_now (shown.words b) (reads b told)).back_is

    pub begin_done : IsSynced shown b → (IsTrue shown.tells_words → shown.words b ≡ set (shown.words t.device) STATE (state_word Mutating)) → InPhase shown (after Begun)
    begin_done certain put = in_phase shown (after Begun) old [] (reads b told)
        (λ i left. subst (λ (l : List ℕ). IsHeapInState t.order Mutating old old l) (sym (certain told i left ∙ put (both told))) (twins_set t.order Mutating old (shown.words t.device) (begin_start (shown.words t.device) (reads t.device told))))

  module _ (is : t.phase ≡ Begun) (ranges : List Range) (m : List ℕ) (base : ℕ) (at : base ≡ MAIN) (long : length m ≡ region_len t.order) (does : Does shown (WritesRanges ranges base m) t.device b) where
    persist_start : (i : List ℕ) → shown.leaves t.device i → HasBack t.order old i
    persist_start i left = stands_back t.order old old i (each_of shown t Begun is known i left)

    persist_by : (v w : List ℕ) → HasBack t.order old v → WritesRanges ranges base m v w → HasBack t.order old w
    persist_by v w was by = persisting t.order base (length m) old v w at long was by.only

    persist_now : (i : List ℕ) → shown.leaves b i → HasBack t.order old i
    persist_now = now_by shown (WritesRanges ranges base m) (HasBack t.order old) t.device b (HasBack t.order old) (does.images told) persist_start persist_by

    pub persist_since : Runs shown (Becomes (HasBack t.order old)) t.device b
    persist_since = since_by shown (WritesRanges ranges base m) (HasBack t.order old) t.device b (HasBack t.order old) (does.images told) persist_start persist_by

    pub persist_failed : InPhase shown (after Undo)
    persist_failed = in_phase shown (after Undo) old [] (reads b told) (λ i left. inl (persist_now i left))

    pub persist_kept : back_of t.order (shown.words b) ≡ old
    persist_kept = (persist_now (shown.words b) (reads b told)).back_is

    module _ (but : SameBut ranges (main_now shown t) m) (written : IsBut ranges base m (shown.words t.device) → IsBut [] base m (shown.words b)) where
      persist_there : IsHeapInState t.order Mutating m old (shown.words b)
      persist_there = persisted t.order base old m (shown.words t.device) (shown.words b) at long (persist_start (shown.words t.device) (reads t.device told)) (does.words (both told)).only
          (written (but_part MAIN base t.order ranges m (shown.words t.device) at long but))

      pub persist_main : main_of t.order (shown.words b) ≡ m
      persist_main = persist_there.main_is

      pub persist_done : IsSynced shown b → InPhase shown (after Persisted)
      persist_done certain = in_phase shown (after Persisted) old m (reads b told) (λ i left. subst (λ (l : List ℕ). IsHeapInState t.order Mutating m old l) (sym (certain told i left)) persist_there)

  module _ (is : t.phase ≡ Persisted) (does : Does shown (WritesWord STATE (state_word Copying)) t.device b) where
    abbrev pub new : List ℕ
    new = main_now shown t

    commit_start : (i : List ℕ) → shown.leaves t.device i → IsHeapInState t.order Mutating new old i
    commit_start i left =
        let all = each_of shown t Persisted is known in
        subst (λ (l : List ℕ). IsHeapInState t.order Mutating l old i) (sym (all (shown.words t.device) (reads t.device told)).main_is) (all i left)

    commit_now : (i : List ℕ) → shown.leaves b i → Committing t.order old new i
    commit_now = now_by shown (WritesWord STATE (state_word Copying)) (Committing t.order old new) t.device b (IsHeapInState t.order Mutating new old) (does.images told) commit_start (committing t.order new old)

    pub commit_since : Runs shown (Becomes (Committing t.order old new)) t.device b
    commit_since = since_by shown (WritesWord STATE (state_word Copying)) (Committing t.order old new) t.device b (IsHeapInState t.order Mutating new old) (does.images told) commit_start (committing t.order new old)

    pub commit_failed : InPhase shown (after Doubt)
    commit_failed = in_phase shown (after Doubt) old new (reads b told) (λ i left. in_doubt t.order new old i (commit_now i left))

    pub commit_kept : back_of t.order (shown.words b) ≡ old
    commit_kept = (both_whole t.order new old (shown.words b) (commit_now (shown.words b) (reads b told))).0.1

    pub commit_main : main_of t.order (shown.words b) ≡ new
    commit_main = (both_whole t.order new old (shown.words b) (commit_now (shown.words b) (reads b told))).1

    pub commit_done : IsSynced shown b → (IsTrue shown.tells_words → shown.words b ≡ set (shown.words t.device) STATE (state_word Copying)) → InPhase shown (after Committed)
    commit_done certain put = in_phase shown (after Committed) old new (reads b told)
        (λ i left. subst (λ (l : List ℕ). IsHeapInState t.order Copying new old l) (sym (certain told i left ∙ put (both told))) (stands_set t.order Mutating Copying new old (shown.words t.device) (commit_start (shown.words t.device) (reads t.device told))))

  module _ (is : t.phase ≡ Committed) (ranges : List Range) (m : List ℕ) (base : ℕ) (at : base ≡ back_at t.order) (long : length m ≡ region_len t.order) (main : main_now shown t ≡ m)
      (does : Does shown (WritesRanges ranges base m) t.device b) where
    copy_start : (i : List ℕ) → shown.leaves t.device i → HasMain t.order m i
    copy_start i left =
        let all = each_of shown t Committed is known in
        stands_main t.order m old i (subst (λ (l : List ℕ). IsHeapInState t.order Copying l old i) (sym (all (shown.words t.device) (reads t.device told)).main_is ∙ main) (all i left))

    copy_by : (v w : List ℕ) → HasMain t.order m v → WritesRanges ranges base m v w → HasMain t.order m w
    copy_by v w was by = copying t.order base (length m) m v w at long was by.only

    copy_now : (i : List ℕ) → shown.leaves b i → HasMain t.order m i
    copy_now = now_by shown (WritesRanges ranges base m) (HasMain t.order m) t.device b (HasMain t.order m) (does.images told) copy_start copy_by

    pub copy_since : Runs shown (Becomes (HasMain t.order m)) t.device b
    copy_since = since_by shown (WritesRanges ranges base m) (HasMain t.order m) t.device b (HasMain t.order m) (does.images told) copy_start copy_by

    pub copy_failed : InPhase shown (after Redo)
    copy_failed = in_phase shown (after Redo) m m (reads b told) copy_now

    pub copy_kept : main_of t.order (shown.words b) ≡ m
    copy_kept = (copy_now (shown.words b) (reads b told)).main_is

    pub copy_done : SameBut ranges old m → (IsBut ranges base m (shown.words t.device) → IsBut [] base m (shown.words b)) → IsSynced shown b → InPhase shown (after Copied)
    copy_done but written certain =
        let in_back : SameBut ranges (back_of t.order (shown.words t.device)) m = subst (λ (p : Phase). SameBut ranges (committed_in p t.order (shown.words t.device)) m) is but in
        let there : IsHeapInState t.order Copying m m (shown.words b) = copied t.order base m m (shown.words t.device) (shown.words b) at long (copy_start (shown.words t.device) (reads t.device told)) (does.words (both told)).only
        (written (but_part (back_at t.order) base t.order ranges m (shown.words t.device) at long in_back)) in
        in_phase shown (after Copied) m m (reads b told) (λ i left. subst (λ (l : List ℕ). IsHeapInState t.order Copying m m l) (sym (certain told i left)) there)

  module _ (is : t.phase ≡ Copied) (does : Does shown (WritesWord STATE (state_word Idle)) t.device b) where
    finish_start : (i : List ℕ) → shown.leaves t.device i → Twins t.order old i
    finish_start i left =
        let all = each_of shown t Copied is known in
        let new_is : old ≡ known.new = ap (λ (p : Phase). committed_in p t.order (shown.words t.device)) is ∙ (all (shown.words t.device) (reads t.device told)).main_is in
        subst (λ (l : List ℕ). Twins t.order l i) (sym new_is) (stands_twins t.order Copying known.new i (all i left))

    finish_now : (i : List ℕ) → shown.leaves b i → Twins t.order old i
    finish_now = now_by shown (WritesWord STATE (state_word Idle)) (Twins t.order old) t.device b (Twins t.order old) (does.images told) finish_start (twins_writes t.order Idle old)

    pub finish_since : Runs shown (Becomes (Twins t.order old)) t.device b
    finish_since = since_by shown (WritesWord STATE (state_word Idle)) (Twins t.order old) t.device b (Twins t.order old) (does.images told) finish_start (twins_writes t.order Idle old)

    pub finish_done : InPhase shown (after Clean)
    finish_done = in_phase shown (after Clean) old [] (reads b told) finish_now

    pub finish_kept : back_of t.order (shown.words b) ≡ old
    finish_kept = (finish_now (shown.words b) (reads b told)).back_is
