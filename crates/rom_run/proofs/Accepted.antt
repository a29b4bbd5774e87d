-- Words that hold a heap are not refused, nor are words in which one can be made; so with a session, or a heap that is made, none is refused.
use Rattle.std.specs.Prelude.{◌≡◌, ◌≢◌, ℕ, ◌+◌, Bool, if◌then◌else◌, List, Some, None, IfSome, IsTrue, Ok, Err, slice_index}
use Rattle.std.proofs.Common.{refl, sym, ap, ◌∙◌, arith, subst, inl, inr}
use Rattle.rom_model.specs.Blocks.{region_len}
use Rattle.rom_model.specs.Earlier.{Earlier}
use Rattle.rom_model.specs.declared.unfit.Unfit.{Unfit}
use Rattle.rom_model.specs.Machine.{Machine}
use Rattle.rom_model.specs.Story.{Story}
use Rattle.rom_device.specs.Device.{ShownDevice, told_words}
use Rattle.rom_header.specs.Fresh.{IsFormatAnswer}
use Rattle.rom_header.specs.Held.{Holds}
use Rattle.rom_header.specs.Layout.{MAIN, back_at, back_of, main_of, words_needed}
use Rattle.rom_header.specs.Regions.{IsCounted, IsCurrentRegion}
use Rattle.rom_header.specs.declared.fresh.FormatRefused.{FormatRefused}
use Rattle.rom_header.specs.declared.fresh.FormatRefused.TheVariants as format
use Rattle.rom_header.proofs.Parts.{get_or-part}
use Rattle.rom_recover.specs.Recovered.{DifferAt}
use Rattle.rom_text.specs.Streams.{ShownSink}
use Rattle.rom_open.proofs.Holding.{holds_one}
use Rattle.rom_open.specs.Refusals.{IsRefusal, IsUnfit, IsUnready, named_order}
use Rattle.rom_open.specs.declared.reasons.Why.{Why}
use Rattle.rom_open.specs.Upgrading.{IsUnfitOld, IsUpgradeRefusal}
use Rattle.rom_open.specs.declared.reasons.Why.TheVariants.{NotAHeap, BadVersion, BadOrder, BadState, TooSmall, Twins, OldRegion, NewRegion, Malformed, Device, OutOfMemory}
use Rattle.rom_run.specs.Complete.{IsAtHand, IsRefusedByName}
use Rattle.rom_run.specs.Keeping.{IsHeapRefused, IsStoryOpening}
use Rattle.rom_run.specs.Refusing.{HasName}
use Rattle.rom_run.specs.Use.{IsPlayable}
use Rattle.rom_run.specs.declared.heap.Heap.{Heap}
use Rattle.rom_run.specs.declared.heap.Heap.TheVariants.{New, Standing, Upgraded}

-- one region of the words counts
one_region : (words : List ℕ) (m n : ℕ) (p q : List ℕ) → IsCurrentRegion m words p → IsCurrentRegion n words q → (m ≡ n) × (p ≡ q)
one_region words m n p q first second =
    let both = holds_one {S = List ℕ} (λ order region s k. (region ≡ s) × (k ≡ 0)) (λ order region s t j k a b. (sym a.0 ∙ b.0, a.1 ∙ sym b.1)) words m n p q 0 0
    record { region = p; current = first; contents = (refl, refl) } record { region = q; current = second; contents = (refl, refl) } in
    (both.0, both.1)

-- where both regions count, they don't differ
no_difference : (order : ℕ) (words region : List ℕ) (offset main back : ℕ) → IsCounted order words region → DifferAt order words offset main back → ⊥
no_difference order words region offset main back (inl idle) differ =
    let same : main_of order words ≡ back_of order words = idle.1 ∙ sym idle.2 in
    let in_main : slice_index (main_of order words) offset ≡ slice_index words (MAIN + offset) = get_or-part MAIN (region_len order) words offset differ.within in
    let in_back : slice_index (back_of order words) offset ≡ slice_index words (back_at order + offset) = get_or-part (back_at order) (region_len order) words offset differ.within in
    differ.differ (sym differ.main_is ∙ sym in_main ∙ ap (λ (l : List ℕ). slice_index l offset) same ∙ in_back ∙ differ.back_is)
no_difference order words region offset main back (inr (inl busy)) differ = let idle = differ.idle in absurd (omega (arith, busy.0, idle))
no_difference order words region offset main back (inr (inr busy)) differ = let idle = differ.idle in absurd (omega (arith, busy.0, idle))

module _ {S : Type 0} (Contents : ℕ → List ℕ → S → ℕ → Type 0) (order : ℕ) (words : List ℕ) (state : S) (count : ℕ) (held : Holds Contents order words state count) where
  -- neither header nor regions are refused
  ready : (why : Why) → HasName why → IsUnready words why → ⊥
  ready NotAHeap name is = is.1 held.current.heap.header.magic
  ready (BadVersion version) name is = is.3 (is.2 ∙ held.current.heap.header.version)
  ready (BadOrder n) name (long, magic, version, order_is, inl low) =
      let header = held.current.heap.header in let at = header.order_is in let least = header.fits.least in absurd (omega (arith, order_is, low, at, least))
  ready (BadOrder n) name (long, magic, version, order_is, inr high) =
      let header = held.current.heap.header in let at = header.order_is in let most = header.fits.most in absurd (omega (arith, order_is, high, at, most))
  ready (BadState word) name is = let low = held.current.heap.state in let at = is.2 in let high = is.3 in absurd (omega (arith, low, at, high))
  ready (TooSmall need have) name (size, inl short) =
      let long = held.current.heap.long in absurd (omega (arith, size, short.0, short.1, long))
  ready (TooSmall need have) name (size, inr short) =
      let long = held.current.heap.long in
      let same : words_needed (slice_index words 2) ≡ words_needed order = ap words_needed held.current.heap.header.order_is in
      let need_is = short.2 in let few = short.3 in absurd (omega (arith, size, need_is, few, same, long))
  ready (Twins offset main back) name is =
      no_difference order words held.region offset main back held.current.counts (subst (λ (n : ℕ). DifferAt n words offset main back) held.current.heap.header.order_is is.1)
  ready OldRegion name is = is
  ready NewRegion name is = is
  ready (Malformed offset rule found) name is = is
  ready Device name is = absurd (name.0 refl)
  ready OutOfMemory name is = is

  -- the region that counts is not one that stands for nothing
  stands : (region : List ℕ) → IsCurrentRegion (named_order words) words region → ((s : S) (k : ℕ) → Contents (named_order words) region s k → ⊥) → ⊥
  stands region current none =
      let both = one_region words order (named_order words) held.region region held.current current in
      none state count (subst (λ (l : List ℕ). Contents (named_order words) l state count) both.1 (subst (λ (n : ℕ). Contents n held.region state count) both.0 held.contents))

-- so it is not refused, in this version
module _ {S : Type 0} (Contents : ℕ → List ℕ → S → ℕ → Type 0) (Rejects : ℕ → List ℕ → Unfit → Type 0) (order : ℕ) (words : List ℕ) (state : S) (count : ℕ) (held : Holds Contents order words state count) where
  fit : (why : Why) (region : List ℕ) → HasName why → IsCurrentRegion (named_order words) words region → IsUnfit Contents Rejects (named_order words) region why → ⊥
  fit (Malformed offset rule found) region name current is = stands Contents order words state count held region current is.0.none
  fit OldRegion region name current is = stands Contents order words state count held region current is.none
  fit OutOfMemory region name current is = absurd (name.1 refl)
  fit NewRegion region name current is = is
  fit NotAHeap region name current is = is
  fit (BadVersion version) region name current is = is
  fit (BadOrder n) region name current is = is
  fit (BadState word) region name current is = is
  fit (TooSmall need have) region name current is = is
  fit (Twins offset main back) region name current is = is
  fit Device region name current is = is

  unrefused : (why : Why) → HasName why → IsRefusal Contents Rejects words why → ⊥
  unrefused why name (inl is) = ready Contents order words state count held why name is
  unrefused why name (inr is) = fit why is.0 name is.1 is.2

-- no words of the version before say that they are of the next one
abbrev pub IsToldApart : {S : Type 0} → Earlier S → Type 0
IsToldApart {S} earlier = (order : ℕ) (words : List ℕ) (state : S) (count : ℕ) → earlier.Contents order words state count → IsTrue (earlier.is_next words) → ⊥

-- which is asked of a heap that is upgraded
abbrev pub AreApart : {S : Type 0} → Earlier S → Heap → Type 0
AreApart earlier (New order) = Unit {0}
AreApart earlier Standing = Unit {0}
AreApart earlier Upgraded = IsToldApart earlier

-- a heap on which scripts are played is none such
pub apart_played : {S : Type 0} (earlier : Earlier S) (heap : Heap) → IsPlayable heap → AreApart earlier heap
apart_played earlier (New order) is = tt
apart_played earlier Standing is = tt
apart_played earlier Upgraded is = absurd is

-- an upgrade does not refuse words that hold something in the version before
module _ {S : Type 0} (earlier : Earlier S) (apart : IsToldApart earlier) (order : ℕ) (words : List ℕ) (state : S) (count : ℕ) (held : Holds earlier.Contents order words state count) where
  fit_before : (why : Why) (region : List ℕ) → HasName why → IsCurrentRegion (named_order words) words region → IsUnfitOld earlier (named_order words) region why → ⊥
  fit_before (Malformed offset rule found) region name current is = stands earlier.Contents order words state count held region current is.1.none
  fit_before NewRegion region name current is = stands earlier.Contents order words state count held region current (λ s k stood. apart (named_order words) region s k stood is)
  fit_before OutOfMemory region name current is = absurd (name.1 refl)
  fit_before OldRegion region name current is = is
  fit_before NotAHeap region name current is = is
  fit_before (BadVersion version) region name current is = is
  fit_before (BadOrder n) region name current is = is
  fit_before (BadState word) region name current is = is
  fit_before (TooSmall need have) region name current is = is
  fit_before (Twins offset main back) region name current is = is
  fit_before Device region name current is = is

  unrefused_before : (why : Why) → HasName why → IsUpgradeRefusal earlier words why → ⊥
  unrefused_before why name (inl is) = ready earlier.Contents order words state count held why name is
  unrefused_before why name (inr is) = fit_before why is.0 name is.1 is.2

-- where a heap can be made it is not refused
unspared : (order : ℕ) (words : List ℕ) → IsFormatAnswer order words (Ok tt) → (why : FormatRefused) → why ≢ format.Device → IsFormatAnswer order words (Err why) → ⊥
unspared order words can format.AlreadyAHeap name is = can.0 is
unspared order words can (format.TooSmall need have) name is = let long = can.1 in let a = is.1 in let b = is.2 in let c = is.3 in absurd (omega (arith, long, a, b, c))
unspared order words can format.Device name is = absurd (name refl)

module _ {S : Type 0} (Contents : ℕ → List ℕ → S → ℕ → Type 0) (Rejects : ℕ → List ℕ → Unfit → Type 0) (earlier : Earlier S) where
  -- a heap that is at hand is not refused by name
  pub begins : (heap : Heap) (words : List ℕ) → AreApart earlier heap → IsAtHand Contents earlier heap words → IsRefusedByName Contents Rejects earlier heap words → ⊥
  begins (New order) words apart can (why, name, is) = unspared order words can why name is
  begins Standing words apart (order, state, count, held) (why, name, is) = unrefused Contents Rejects order words state count held why name is
  begins Upgraded words apart (order, state, count, held) (why, name, is) = unrefused_before earlier apart order words state count held why name is

  module _ {D : Type 0} (shown : ShownDevice D) (was : D) (tells : IsTrue shown.tells_words) where
    -- what is told is refused so
    pub by_name : (kind : ℕ) {K : Type 0} (sink : ShownSink K) (now : D) (old new : K) (heap : Heap) → IsHeapRefused shown sink Contents kind Rejects earlier heap was now old new → IsRefusedByName Contents Rejects earlier heap (shown.words was)
    by_name kind sink now old new (New order) is = (is.why, is.by_name, is.refused tells)
    by_name kind sink now old new Standing is = (is.why, is.by_name, is.refused tells)
    by_name kind sink now old new Upgraded is = (is.why, is.by_name, is.refused tells)

    told : (P : List ℕ → Type 0) → IfSome (told_words shown was) P → P (shown.words was)
    told P is = subst (λ (b : Bool). IfSome (if b then Some (shown.words was) else None) P) tells is

    -- where a story began, its heap was at hand
    pub at_hand : {C Q R A : Type 0} (machine : Machine S C Q R A) (heap : Heap) (story : Story S) → IsStoryOpening machine Contents heap (told_words shown was) story → IsAtHand Contents earlier heap (shown.words was)
    at_hand machine (New order) story is = told (λ words. IsFormatAnswer order words (Ok tt)) is.0
    at_hand machine Standing story is = (story.order, story.opening, story.opening_count, told (λ words. Holds Contents story.order words story.opening story.opening_count) is)
    at_hand machine Upgraded story is = absurd is
