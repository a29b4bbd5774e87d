-- The copy of the region that counts over the other one, on a device.
use Rattle.std.proofs.Common.{◌≡◌, ◌≢◌, inl, inr, ⊎_elim, refl, ℕ, ◌≤◌, IsTrue, List, Result, Ok, Err, OnOk, get_or, set, sym, subst, ◌∙◌}
use Rattle.std.proofs.lemmas.List.{set-get_or}
use Rattle.rom_model.specs.Blocks.{region_len}
use Rattle.rom_device.specs.Device.{ShownDevice, After, Does, IsSynced, Leaves, OnlyReads, Runs, Stays, WritesWord}
use Rattle.rom_device.proofs.Going.{does_on, leaves_none, leaves_on, leaves_still, leaves_then}
use Rattle.rom_header.proofs.Since.{leaves_from}
use Rattle.rom_header.specs.Headers.{state_word}
use Rattle.rom_header.specs.Layout.{MAIN, back_at}
use Rattle.rom_header.specs.Regions.{IsHeap}
use Rattle.rom_header.specs.Writing.{Alters}
use Rattle.rom_header.specs.declared.header.State.{State}
use Rattle.rom_header.specs.declared.header.State.TheVariants.{Idle, Mutating, Copying}
use Rattle.rom_recover.specs.Copied.{Copied, CopiesSome}
use Rattle.rom_recover.specs.Recovered.{IsDone, IsWay, Mended, Mends}
use Rattle.rom_recover.proofs.CopyBack.{mended, mended_on, finished}

module _ {D : Type 0} (shown : ShownDevice D) (n : ℕ) (s : State) (from to len : ℕ) (a b : D) (heap : IsTrue shown.tells_words → IsHeap n (shown.words a))
    (state : IsTrue shown.tells_words → get_or (shown.words a) 3 0 ≡ state_word s) (way : IsWay n s from to) (size : len ≡ region_len n) (does : Does shown (CopiesSome (shown.words a) from to len) a b) where
  copies : Does shown (CopiesSome (shown.words a) from to (region_len n)) a b
  copies = subst (λ (k : ℕ). Does shown (CopiesSome (shown.words a) from to k) a b) size does

  -- in the midst of the copy
  pub midst_left : Alters shown (Mends n) a b
  midst_left = record { size = copies.size; words = λ told. inr (mended n (shown.words a) (heap told) s from to way (state told) (shown.words b) (copies.words told)) }

  module _ (both : IsTrue shown.tells_images → IsTrue shown.tells_words) (certain : IsSynced shown a) where
    pub midst_images : IsTrue shown.tells_images → Leaves shown (Mended n (shown.words a)) a b
    midst_images told = leaves_on shown (CopiesSome (shown.words a) from to (region_len n)) (Mended n (shown.words a)) a a b (leaves_none shown (Mended n (shown.words a)) a) (copies.images told)
        (λ u v was by. mended n (shown.words a) (heap (both told)) s from to way (state (both told)) v (subst (λ (l : List ℕ). CopiesSome (shown.words a) from to (region_len n) l v) (certain told u was) by))

  -- once it is whole, and the state may be written
  module _ (copied : IsTrue shown.tells_words → Copied from to len (shown.words a) (shown.words b)) (v : ℕ) (zero : v ≡ 0) (c : D) where
    whole : IsTrue shown.tells_words → Copied from to (region_len n) (shown.words a) (shown.words b)
    whole told = subst (λ (k : ℕ). Copied from to k (shown.words a) (shown.words b)) size (copied told)

    written : IsTrue shown.tells_words → (i : List ℕ) → WritesWord 3 v (shown.words b) i → Mended n (shown.words a) i
    written told i by = mended_on n (shown.words a) (heap told) s from to way (state told) (shown.words b) (copies.words told) (whole told) i (subst (λ (k : ℕ). WritesWord 3 k (shown.words b) i) zero by)

    pub end_left : shown.size c ≡ shown.size b → (IsTrue shown.tells_words → WritesWord 3 v (shown.words b) (shown.words c)) → Alters shown (Mends n) a c
    end_left stays left = record { size = stays ∙ copies.size; words = λ told. inr (written told (shown.words c) (left told)) }

    pub end_images : (both : IsTrue shown.tells_images → IsTrue shown.tells_words) → IsSynced shown a → (IsTrue shown.tells_images → Leaves shown (WritesWord 3 v (shown.words b)) b c)
        → IsTrue shown.tells_images → Leaves shown (Mended n (shown.words a)) a c
    end_images both certain images told = leaves_then shown (Mended n (shown.words a)) (WritesWord 3 v (shown.words b)) a b c (written (both told)) (midst_images both certain told) (images told)

    pub end_done : {T E : Type 0} (r : Result T E) → (IsTrue shown.tells_words → OnOk r (shown.words c ≡ set (shown.words b) 3 v)) → IsTrue shown.tells_words → OnOk r (IsDone n (shown.words a) (shown.words c))
    end_done (Ok done) put told = subst (λ (l : List ℕ). IsDone n (shown.words a) l) (sym (put told))
        (subst (λ (k : ℕ). IsDone n (shown.words a) (set (shown.words b) 3 k)) (sym zero) (finished n (shown.words a) (heap told) s from to way (state told) (shown.words b) (copies.words told) (whole told)))
    end_done (Err failed) put told = tt

-- the way of a copy in a state that is not IDLE
pub record Way (n : ℕ) (s : State) : Type 0 where
  pub from : ℕ
  pub to : ℕ
  pub is : IsWay n s from to

pub way_of : (n : ℕ) (s : State) → s ≢ Idle → Way n s
way_of n Idle busy = absurd (busy refl)
way_of n Mutating busy = record { from = back_at n; to = MAIN; is = (refl, refl) }
way_of n Copying busy = record { from = MAIN; to = back_at n; is = (refl, refl) }

-- a word that is written again, as it reads, where all words are certain
module _ {D : Type 0} (shown : ShownDevice D) (at v : ℕ) (a b : D) where
  pub again : (x y : List ℕ) → get_or x at 0 ≡ v → WritesWord at v x y → y ≡ x
  again x y reads (inl same) = same
  again x y reads (inr put) = put ∙ subst (λ (k : ℕ). set x at k ≡ x) reads (set-get_or x at 0)

  pub runs_again : (IsTrue shown.tells_images → IsTrue shown.tells_words) → (IsTrue shown.tells_words → get_or (shown.words a) at 0 ≡ v) → IsSynced shown a → Does shown (WritesWord at v) a b → IsTrue shown.tells_images → Runs shown Stays a b
  runs_again both reads certain does images = record {
    later = (does.images images).later;
    now = λ i left. after images i ((does.images images).now i left);
    nothing_else = λ t i left. ⊎_elim (λ past. inl past) (λ here. inr (after images i here)) ((does.images images).nothing_else t i left);
    keeps = (does.images images).keeps;
  }
    where
      after : IsTrue shown.tells_images → (i : List ℕ) → After (WritesWord at v) (shown.leaves a) i → After Stays (shown.leaves a) i
      after told i here = record { from = here.from; was = here.was; by = again here.from i (subst (λ (l : List ℕ). get_or l at 0 ≡ v) (sym (certain told here.from here.was)) (reads (both told))) here.by }

-- calls that write nothing, and reads behind them
pub still : {D : Type 0} (shown : ShownDevice D) (a b c : D) → Does shown Stays a b → OnlyReads shown b c → Does shown Stays a c
still shown a b c quiet only = does_on shown Stays (λ x y z first second. second ∙ first) a b c quiet (record { size = only.size; words = only.words; images = only.images; doubts = only.doubts; fewer = only.fewer })

-- calls after which words and images are as before, where none is in doubt
pub record Quiet {D : Type 0} (shown : ShownDevice D) (a b : D) : Type 0 where
  pub size : shown.size b ≡ shown.size a
  pub words : IsTrue shown.tells_words → shown.words b ≡ shown.words a
  pub images : IsTrue shown.tells_images → Runs shown Stays a b

pub quietly : {D : Type 0} (shown : ShownDevice D) (a b c : D) → Does shown Stays a b → OnlyReads shown b c → Quiet shown a c
quietly shown a b c quiet only = let does = still shown a b c quiet only in record { size = does.size; words = does.words; images = does.images }

-- what follows calls that write nothing
module _ {D : Type 0} (shown : ShownDevice D) (n : ℕ) (a b : D) where
  module _ (counts : (t : ℕ) (i : List ℕ) → t ≤ shown.clock a → shown.leaves a i → shown.left_since a t i) (both : IsTrue shown.tells_images → IsTrue shown.tells_words) (quiet : Quiet shown a b) where
    pub quiet_images : IsTrue shown.tells_images → Leaves shown (Mended n (shown.words a)) a b
    quiet_images told = leaves_still shown (Mended n (shown.words a)) a a b counts (leaves_none shown (Mended n (shown.words a)) a) (quiet.images told)

    pub images_from : (c : D) → (IsTrue shown.tells_images → Leaves shown (Mended n (shown.words b)) b c) → IsTrue shown.tells_images → Leaves shown (Mended n (shown.words a)) a c
    images_from c images told = leaves_from shown (Mended n (shown.words a)) (Mended n (shown.words b)) a b c counts (quiet.images told)
        (λ i. subst (λ (l : List ℕ). Mended n l i) (quiet.words (both told))) (images told)

  module _ (quiet : Quiet shown a b) (c : D) where
    pub left_from : Alters shown (Mends n) b c → Alters shown (Mends n) a c
    left_from left = record { size = left.size ∙ quiet.size; words = λ told. subst (λ (l : List ℕ). Mends n l (shown.words c)) (quiet.words told) (left.words told) }

    pub done_from : (IsTrue shown.tells_words → IsDone n (shown.words b) (shown.words c)) → IsTrue shown.tells_words → IsDone n (shown.words a) (shown.words c)
    done_from done told = subst (λ (l : List ℕ). IsDone n l (shown.words c)) (quiet.words told) (done told)
