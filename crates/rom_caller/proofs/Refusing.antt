-- What follows from words that hold a heap: why it may be refused all the same, and what a session on it begins with.
use Rattle.std.proofs.Common.{◌≡◌, ◌⊎◌, inl, inr, ℕ, ◌+◌, ◌≤◌, List, refl, sym, ap, subst, ◌∙◌, arith}
use Rattle.std.specs.Prelude.{slice_index, IsTrue, IfErr, IfOk, IsErrAnd, Result, Ok, Err}
use Rattle.rom_model.specs.Blocks.{region_len}
use Rattle.rom_model.specs.declared.unfit.Unfit.{Unfit}
use Rattle.rom_device.specs.Device.{ShownDevice}
use Rattle.rom_header.specs.Held.{Holds}
use Rattle.rom_header.specs.Layout.{MAIN, back_at, back_of, main_of, words_needed}
use Rattle.rom_header.specs.Regions.{IsCounted, IsCurrentRegion}
use Rattle.rom_header.proofs.Parts.{get_or-part}
use Rattle.rom_open.proofs.Holding.{holds_one}
use Rattle.rom_open.specs.Refusals.{IsRefusal, IsUnfit, IsUnready, named_order}
use Rattle.rom_open.specs.declared.reasons.Why.{Why}
use Rattle.rom_open.specs.declared.reasons.Why.TheVariants.{NotAHeap, BadVersion, BadOrder, BadState, TooSmall, Twins, OldRegion, NewRegion, Malformed, Device, OutOfMemory}
use Rattle.rom_store.specs.Openings.{HasBeenRefused}
use Rattle.rom_store.specs.Sessions.{EachStory, SessionSeen}
use Rattle.rom_model.specs.Machine.{Machine}
use Rattle.rom_caller.specs.Worked.{HasBegunWith}

-- one region of the words counts
one_region : (words : List ℕ) (m n : ℕ) (p q : List ℕ) → IsCurrentRegion m words p → IsCurrentRegion n words q → (m ≡ n) × (p ≡ q)
one_region words m n p q first second =
    let both = holds_one {S = List ℕ} (λ order region s k. (region ≡ s) × (k ≡ 0)) (λ order region s t j k a b. (sym a.0 ∙ b.0, a.1 ∙ sym b.1)) words m n p q 0 0
    record { region = p; current = first; contents = (refl, refl) } record { region = q; current = second; contents = (refl, refl) } in
    (both.0, both.1)

module _ {S : Type 0} (Contents' : ℕ → List ℕ → S → ℕ → Type 0) (order : ℕ) (words : List ℕ) (state : S) (count : ℕ) (held : Holds Contents' order words state count) where
  -- where both regions count, they don't differ
  no_difference : (offset main back : ℕ) → IsCounted order words held.region → IsUnready words (Twins offset main back) → ⊥
  no_difference offset main back counts is = by counts
    where
      at : named_order words ≡ order
      at = held.current.heap.header.order_is

      by : IsCounted order words held.region → ⊥
      by (inl idle) =
          let same : main_of order words ≡ back_of order words = idle.1 ∙ sym idle.2 in let differ = is.1 in
          let within = subst (λ (n : ℕ). offset + 1 ≤ region_len n) at (omega (arith, differ.within)) in
          let in_main : slice_index (main_of order words) offset ≡ slice_index words (MAIN + offset) = get_or-part MAIN (region_len order) words offset (omega (arith, within)) in
          let in_back : slice_index (back_of order words) offset ≡ slice_index words (back_at order + offset) = get_or-part (back_at order) (region_len order) words offset (omega (arith, within)) in
          let back_is = ap (λ (n : ℕ). slice_index words (back_at n + offset)) (sym at) ∙ differ.back_is in
          differ.differ (sym differ.main_is ∙ sym in_main ∙ ap (λ (l : List ℕ). slice_index l offset) same ∙ in_back ∙ back_is)
      by (inr (inl busy)) = let idle = is.1.idle in absurd (omega (arith, busy.0, idle))
      by (inr (inr busy)) = let idle = is.1.idle in absurd (omega (arith, busy.0, idle))

  abbrev IsFree : Why → Type 0
  IsFree why = (why ≡ Device) ⊎ (why ≡ OutOfMemory)

  -- neither header nor regions are refused
  unready : (why : Why) → IsUnready words why → IsFree why
  unready NotAHeap is = absurd (is.1 held.current.heap.header.magic)
  unready (BadVersion version) is = absurd (is.3 (is.2 ∙ held.current.heap.header.version))
  unready (BadOrder n) (long, magic, version, order_is, inl low) =
      let header = held.current.heap.header in let at = header.order_is in let least = header.fits.least in absurd (omega (arith, order_is, low, at, least))
  unready (BadOrder n) (long, magic, version, order_is, inr high) =
      let header = held.current.heap.header in let at = header.order_is in let most = header.fits.most in absurd (omega (arith, order_is, high, at, most))
  unready (BadState word) is = let low = held.current.heap.state in let at = is.2 in let high = is.3 in absurd (omega (arith, low, at, high))
  unready (TooSmall need have) (size, inl short) =
      let long = held.current.heap.long in absurd (omega (arith, size, short.0, short.1, long))
  unready (TooSmall need have) (size, inr short) =
      let long = held.current.heap.long in
      let same : words_needed (slice_index words 2) ≡ words_needed order = ap words_needed held.current.heap.header.order_is in
      let need_is = short.2 in let few = short.3 in absurd (omega (arith, size, need_is, few, same, long))
  unready (Twins offset main back) is = absurd (no_difference offset main back held.current.counts is)
  unready OldRegion is = absurd is
  unready NewRegion is = absurd is
  unready (Malformed offset rule found) is = absurd is
  unready Device is = inl refl
  unready OutOfMemory is = absurd is

  -- the region that counts is not one that stands for nothing
  stands : (region : List ℕ) → IsCurrentRegion (named_order words) words region → ((s : S) (k : ℕ) → Contents' (named_order words) region s k → ⊥) → ⊥
  stands region current none =
      let both = one_region words order (named_order words) held.region region held.current current in
      none state count (subst (λ (l : List ℕ). Contents' (named_order words) l state count) both.1 (subst (λ (n : ℕ). Contents' n held.region state count) both.0 held.contents))

  module _ (Rejects : ℕ → List ℕ → Unfit → Type 0) where
    unfit : (why : Why) (region : List ℕ) → IsCurrentRegion (named_order words) words region → IsUnfit Contents' Rejects (named_order words) region why → IsFree why
    unfit (Malformed offset rule found) region current is = absurd (stands region current is.0.none)
    unfit OldRegion region current is = absurd (stands region current is.none)
    unfit OutOfMemory region current is = inr refl
    unfit NewRegion region current is = absurd is
    unfit NotAHeap region current is = absurd is
    unfit (BadVersion version) region current is = absurd is
    unfit (BadOrder n) region current is = absurd is
    unfit (BadState word) region current is = absurd is
    unfit (TooSmall need have) region current is = absurd is
    unfit (Twins offset main back) region current is = absurd is
    unfit Device region current is = absurd is

    allowed : (why : Why) → IsRefusal Contents' Rejects words why → IsFree why
    allowed why (inl is) = unready why is
    allowed why (inr is) = unfit why is.0 is.1 is.2

  -- the words of the device that was opened: they are refused for want of memory alone, or where the device fails
  pub refused_held : {D : Type 0} {shown : ShownDevice D} {Rejects : ℕ → List ℕ → Unfit → Type 0} {was now : D} {why : Why} → HasBeenRefused shown Contents' Rejects was now why → IsTrue shown.tells_words → shown.words was ≡ words → (why ≡ Device) ⊎ (why ≡ OutOfMemory)
  refused_held {D} {shown} {Rejects} {was} {now} {why} refused tells same = allowed Rejects why (subst (λ (w : List ℕ). IsRefusal Contents' Rejects w why) same (refused.refused tells))

-- what holds of each error that there may be holds of the one that there is
pub as_told : {A E : Type 0} {Q : E → Type 0} (P : E → Type 0) (r : Result A E) → IsErrAnd r Q → ((e : E) → Q e → P e) → IfErr r P
as_told P (Ok a) is then = tt
as_told P (Err e) is then = then e is

-- where there is an error, nothing is asked of a value
pub no_value : {A E : Type 0} (Q : E → Type 0) (P : A → Type 0) (r : Result A E) → IsErrAnd r Q → IfOk r P
no_value Q P (Ok a) is = absurd is
no_value Q P (Err e) is = tt

-- a session whose opening stands for what these words hold
pub goes_on : {S C Q R A : Type 0} (machine : Machine S C Q R A) (Contents : ℕ → List ℕ → S → ℕ → Type 0) → ((n : ℕ) (region : List ℕ) (s t : S) (j k : ℕ) → Contents n region s j → Contents n region t k → (s ≡ t) × (j ≡ k)) → (session : SessionSeen) (words : List ℕ) (n : ℕ) (s : S) (k : ℕ) →
    EachStory machine Contents session (λ story. Holds Contents story.order words story.opening story.opening_count) → Holds Contents n words s k → EachStory machine Contents session (HasBegunWith n s k)
goes_on machine Contents one session words n s k held stood = λ story is. holds_one Contents one words story.order n story.opening s story.opening_count k (held story is) stood
