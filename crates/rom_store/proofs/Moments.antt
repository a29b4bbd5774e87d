-- What was committed at a moment lasts since then.
use Rattle.std.proofs.Common.{◌≡◌, inl, inr, ℕ, zero, suc, ◌+◌, ◌-◌, ◌<◌, ◌≤◌, List, [], ◌∷◌, ◌++◌, Option, Some, slice_get, ◌∙◌, ap, subst, sym, arith, IsTrue}
use Rattle.std.proofs.lemmas.Bool.{cases_lt}
use Rattle.rom_model.specs.Moments.{moments_of}
use Rattle.rom_model.specs.Story.{Story}
use Rattle.rom_model.specs.declared.record.PassRecord.{PassRecord}
use Rattle.rom_model.proofs.Moments.{moment_behind, moment_here}
use Rattle.rom_device.specs.Device.{ShownDevice}
use Rattle.rom_store.specs.Indexed.{Indexed}
use Rattle.rom_store.specs.Lasting.{AreLasting, HasLasted, HoldsAtLeast, Lasts}
use Rattle.rom_store.specs.Moments.{IsCommittedAt}
use Rattle.rom_store.specs.Traced.{ArePassesOn}

none_there : (i moment : ℕ) → slice_get [] i ≡ Some moment → ⊥
none_there zero moment at = cc at
none_there (suc i) moment at = cc at

module _ {D S : Type 0} (shown : ShownDevice D) (Contents : ℕ → List ℕ → S → ℕ → Type 0) (step : ℕ → S → ℕ → List ℕ → Option (S × List ℕ)) (story : Story S) where
  holds_less : (low len : ℕ) → low ≤ len → (i : List ℕ) → HoldsAtLeast shown Contents step story len i → HoldsAtLeast shown Contents step story low i
  holds_less low len under i (inl (at, le)) = inl (at, omega (arith, under, le))
  holds_less low len under i (inr (at, le)) = inr (at, omega (arith, under, le))

  -- Of the first of some passes each entry lasts since its moment.
  entry_lasts : (last : D) (len : ℕ) (first rest : List PassRecord) (was now : D) (on : ArePassesOn shown Contents step story len (first ++ rest) was now)
      → AreLasting shown Contents step story last len (first ++ rest) was now on → (i moment : ℕ) → slice_get (moments_of len first) i ≡ Some moment → Lasts shown Contents step story (len + i + 1) moment last
  entry_lasts last len [] rest was now on lasts i moment at = absurd (none_there i moment at)
  entry_lasts last len (r ∷ first) rest was now (next, of, on) lasts i moment at = elim (cases_lt (len + i) r.len) [
    | inl here ↦
        (let grew : len < r.len = omega (arith, here) in
        let same : r.committed ≡ moment = cc (moment_here len i r first here, at) in
        let long = lasts.0 grew in
        subst (λ (n : ℕ). Lasts shown Contents step story (len + i + 1) n last) (sym (of.dated grew) ∙ same)
        record { passed = long.passed; since = λ image left. holds_less (len + i + 1) r.len (omega (arith, here)) image (long.since image left) })
    | inr behind ↦
        (let up = of.risen in
        let j : ℕ = i - (r.len - len) in
        let split : r.len - len + j ≡ i = omega (arith, behind, up) in
        let there : slice_get (moments_of r.len first) j ≡ Some moment = sym (moment_behind len j r first) ∙ (ap (slice_get (moments_of len (r ∷ first))) split ∙ at) in
        let len_is : r.len + j + 1 ≡ len + i + 1 = omega (arith, behind, up) in
        subst (λ (n : ℕ). Lasts shown Contents step story n moment last) len_is (entry_lasts last r.len first rest next now on lasts.1 j moment there))
  ]

  -- Where the device went through the passes of the story, each entry that was committed at a moment is held by each image that a stop has left since.
  pub lasts_since : (first now : D) → HasLasted shown Contents step story now → (passes : ArePassesOn shown Contents step story 0 story.records first now) → IsTrue shown.tells_images
      → (moments : List ℕ) (len : ℕ) → IsCommittedAt story moments len → Indexed (λ i moment. Lasts shown Contents step story (i + 1) moment now) moments
  lasts_since first now h passes told moments len c =
      let (on, lasts_on) = moved in
      record {
        at = λ i moment at. let whole : 0 + i + 1 ≡ i + 1 = omega arith in
            subst (λ (n : ℕ). Lasts shown Contents step story n moment now) whole (entry_lasts now 0 c.first c.rest first now on lasts_on i moment (ap (λ (ms : List ℕ). slice_get ms i) (sym c.moments_are) ∙ at));
      }
    where
      Known : List PassRecord → Type 0
      Known rs = (on : ArePassesOn shown Contents step story 0 rs first now) × AreLasting shown Contents step story now 0 rs first now on

      moved : Known (c.first ++ c.rest)
      moved = subst Known c.stands (passes, h first passes told)
