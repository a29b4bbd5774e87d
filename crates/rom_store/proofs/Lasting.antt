-- What a pass published lasts, by what each later pass leaves.
use Rattle.std.proofs.Common.{◌≡◌, inl, inr, ⊎_elim, ℕ, ◌≤◌, List, [], ◌∷◌, ◌++◌, length, Option, refl, sym, ◌∙◌, subst, arith, append_assoc, IsTrue}
use Rattle.rom_model.specs.Story.{Story, len_after}
use Rattle.rom_model.specs.declared.record.Fate.{Fate}
use Rattle.rom_model.specs.declared.record.Fate.TheVariants as fate
use Rattle.rom_model.specs.declared.record.PassRecord.{PassRecord}
use Rattle.rom_device.specs.Device.{ShownDevice, After, Becomes, Runs}
use Rattle.rom_combine.proofs.Sessions.{len_more}
use Rattle.rom_combine.proofs.Since.{now_since}
use Rattle.rom_combine.specs.Session.{HoldsAfter}
use Rattle.rom_store.specs.Traced.{ArePassesOn, IsPassOn, MayMake, PassImage}
use Rattle.rom_store.specs.Lasting.{AreLasting, HasLasted, HoldsAtLeast}

module _ {D S : Type 0} (shown : ShownDevice D) (Contents : ℕ → List ℕ → S → ℕ → Type 0) (step : ℕ → S → ℕ → List ℕ → Option (S × List ℕ)) (story : Story S) where
  abbrev Has : ℕ → List ℕ → Type 0
  Has low i = HoldsAtLeast shown Contents step story low i

  -- a run that makes only such images keeps it so that there is no other
  module _ (P : List ℕ → Type 0) (a b : D) (low : ℕ) (runs : Runs shown (Becomes P) a b) (made : (i : List ℕ) → P i → Has low i) (here : (i : List ℕ) → shown.leaves a i → Has low i) where
    after_run : (i : List ℕ) → After (Becomes P) (shown.leaves a) i → Has low i
    after_run i x = ⊎_elim (λ same. subst (Has low) (sym same) (here x.from x.was)) (λ is. made i is) x.by

    now_run : (i : List ℕ) → shown.leaves b i → Has low i
    now_run i left = ⊎_elim (here i) (made i) (now_since shown P a b runs i left)

    since_run : (t : ℕ) → ((i : List ℕ) → shown.left_since a t i → Has low i) → (i : List ℕ) → shown.left_since b t i → Has low i
    since_run t past i left = ⊎_elim (λ before. past i before) (λ x. after_run i x) (runs.nothing_else t i left)

  -- the history up to where some of the records end
  at_boundary : (low len : ℕ) (before rest : List PassRecord) → story.records ≡ before ++ rest → len ≡ len_after 0 before → low ≤ len → len ≤ length story.history → (i : List ℕ) → HoldsAfter Contents step story len [] i → Has low i
  at_boundary low len before rest stands at under reached i holds = inl (record { len = len; boundary = (before, rest, stands, at); reached = reached; holds = holds }, under)

  -- Of a pass behind some of the records:
  module _ (len : ℕ) (before : List PassRecord) (r : PassRecord) (rs : List PassRecord) (stands : story.records ≡ before ++ r ∷ rs) where
    abbrev with_it : story.records ≡ (before ++ r ∷ []) ++ rs
    with_it = stands ∙ sym (append_assoc before (r ∷ []) rs)

    abbrev ends : r.len ≡ len_after 0 (before ++ r ∷ [])
    ends = sym (len_more 0 before r)

    made_by : (f : Fate) → r.fate ≡ f → (low : ℕ) → low ≤ r.len → r.len ≤ length story.history → (i : List ℕ) → MayMake shown Contents step story f r i → Has low i
    made_by fate.Published is low under reached i holds = at_boundary low r.len (before ++ r ∷ []) rs with_it ends under reached i holds
    made_by fate.Failed is low under reached i none = absurd none
    made_by fate.Doubt is low under reached i holds = inr (record { before = before; pass = r; since = rs; stands = stands; fate_is = is; reached = reached; holds = holds }, under)

    module _ (was now : D) (of : IsPassOn shown Contents step story len r was now) (at : len ≡ len_after 0 before) where
      made : (low : ℕ) → low ≤ len → (i : List ℕ) → PassImage shown Contents step story len r i → Has low i
      made low under i image = ⊎_elim
          (λ holds. at_boundary low len before (r ∷ rs) stands at under of.reached.0 i holds)
          (λ by. made_by r.fate refl low (omega (arith, under, of.risen)) of.reached.1 i by) image

      published : (low : ℕ) → low ≤ r.len → (i : List ℕ) → HoldsAfter Contents step story r.len [] i → Has low i
      published low under i holds = at_boundary low r.len (before ++ r ∷ []) rs with_it ends under of.reached.1 i holds

  later : IsTrue shown.tells_images → (len : ℕ) (rs : List PassRecord) (was now : D) → ArePassesOn shown Contents step story len rs was now → shown.clock was ≤ shown.clock now
  later told len [] was now same = subst (λ (d : D). shown.clock was ≤ shown.clock d) (sym same) (omega arith)
  later told len (r ∷ rs) was now (next, of, on) = let to = (of.images told).later in let from = (of.since told).later in omega (arith, to, from, later told r.len rs next now on)

  -- what held before some passes holds behind them
  all_kept : IsTrue shown.tells_images → (low t len : ℕ) (before rs : List PassRecord) (was now : D) → story.records ≡ before ++ rs → len ≡ len_after 0 before → ArePassesOn shown Contents step story len rs was now → low ≤ len
      → ((i : List ℕ) → shown.leaves was i → Has low i) → ((i : List ℕ) → shown.left_since was t i → Has low i) → (i : List ℕ) → shown.left_since now t i → Has low i
  all_kept told low t len before [] was now stands at same under here past i left = past i (subst (λ (d : D). shown.left_since d t i) same left)
  all_kept told low t len before (r ∷ rs) was now stands at (next, of, on) under here past i left =
      let first = made len before r rs stands was next of at low under in
      let second = published len before r rs stands was next of at low (omega (arith, under, of.risen)) in
      let at_mid = now_run (PassImage shown Contents step story len r) was of.mid low (of.images told) first here in
      let past_mid = since_run (PassImage shown Contents step story len r) was of.mid low (of.images told) first here t past in
      all_kept told low t r.len (before ++ r ∷ []) rs next now (with_it len before r rs stands) (ends len before r rs stands) on (omega (arith, under, of.risen))
      (now_run (HoldsAfter Contents step story r.len []) of.mid next low (of.since told) second at_mid)
      (since_run (HoldsAfter Contents step story r.len []) of.mid next low (of.since told) second at_mid t past_mid) i left

  module _ (told : IsTrue shown.tells_images) (only_now : (d : D) (i : List ℕ) → shown.left_since d (shown.clock d) i → shown.leaves d i) where
    lasting : (len : ℕ) (before rs : List PassRecord) (was now : D) → story.records ≡ before ++ rs → len ≡ len_after 0 before → (on : ArePassesOn shown Contents step story len rs was now) → AreLasting shown Contents step story now len rs was now on
    lasting len before [] was now stands at same = tt
    lasting len before (r ∷ rs) was now stands at (next, of, on) = (
      λ grew.
          let second = published len before r rs stands was next of at r.len (omega arith) in
          let at_mid : (i : List ℕ) → shown.leaves of.mid i → Has r.len i = λ i left. second i (of.certain told grew i left) in
          let from = (of.since told).later in
          record {
            passed = omega (arith, from, later told r.len rs next now on);
            since = all_kept told r.len (shown.clock of.mid) r.len (before ++ r ∷ []) rs next now (with_it len before r rs stands) (ends len before r rs stands) on (omega arith)
                (now_run (HoldsAfter Contents step story r.len []) of.mid next r.len (of.since told) second at_mid)
                (since_run (HoldsAfter Contents step story r.len []) of.mid next r.len (of.since told) second at_mid (shown.clock of.mid) (λ i left. at_mid i (only_now of.mid i left)));
          },
      lasting r.len (before ++ r ∷ []) rs next now (with_it len before r rs stands) (ends len before r rs stands) on,
    )

  -- What each pass of the story published lasts, from wherever and by whichever way the device went through them.
  pub has_lasted : ((d : D) (i : List ℕ) → IsTrue shown.tells_images → shown.left_since d (shown.clock d) i → shown.leaves d i) → (now : D) → HasLasted shown Contents step story now
  has_lasted only_now now first passes told = lasting told (λ d i left. only_now d i told left) 0 [] story.records first now refl refl passes
