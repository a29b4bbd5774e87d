-- Frames of another heap's history: those whose places run on are its next entries.
use Rattle.std.proofs.Common.{◌≡◌, ℕ, ◌+◌, ◌==◌, Bool, true, false, if◌then◌else◌, List, [], ◌∷◌, ◌++◌, length, map, take, drop, refl, sym, subst, arith}
use Rattle.std.specs.Prelude.{Some, slice_get}
use Rattle.std.specs.List.{AllByRecursion}
use Rattle.std.proofs.lemmas.Bool.{eqb-true}
use Rattle.rom_model.specs.declared.entry.Entry.{Entry}
use Rattle.rom_store.specs.Lone.{args_in}
use Rattle.rom_frame.specs.declared.frame.Frame.{Frame}
use Rattle.rom_follow.proofs.Histories.{from_element}
use Rattle.rom_replica.specs.Turns.{applied}
use Rattle.rom_tail.specs.Batches.{call_in}
use Rattle.rom_tail.specs.Prefixes.{IsFrameIn}

-- the calls of these frames are those of the first entries, as many as there are frames
abbrev pub AreNext : List Frame → List Entry → Type 0
AreNext frames entries = map call_in frames ≡ map args_in (take (length frames) entries)

module _ (n0 : ℕ) (history : List Entry) where
  -- one frame more at the front, whose place is the next one or not
  turn : (f : Frame) (at : ℕ) (next : Bool) (behind : ℕ → List Frame) → IsFrameIn n0 history f → (next ≡ true → f.place ≡ n0 + at) → ((j : ℕ) → AreNext (behind (n0 + j)) (drop j history))
      → AreNext ((if next then f ∷ [] else []) ++ behind (if next then n0 + at + 1 else n0 + at)) (drop at history)
  turn f at true behind known here more =
      let same : known.at ≡ at = omega (arith, here refl, known.place_is) in
      let there : drop at history ≡ known.entry ∷ drop (at + 1) history = from_element history at known.entry (subst (λ (j : ℕ). slice_get history j ≡ Some known.entry) same known.stands) in
      let rest : AreNext (behind (n0 + at + 1)) (drop (at + 1) history) = subst (λ (k : ℕ). AreNext (behind k) (drop (at + 1) history)) (let sums : n0 + (at + 1) ≡ n0 + at + 1 = omega arith in sums) (more (at + 1)) in
      subst (AreNext (f ∷ behind (n0 + at + 1))) (sym there) (λ i. known.args i ∷ rest i)
  turn f at false behind known here more = more at

  -- from an entry on
  pub next_frames : (at : ℕ) (frames : List Frame) → AllByRecursion (IsFrameIn n0 history) frames → AreNext (applied (n0 + at) frames) (drop at history)
  next_frames at [] known = refl
  next_frames at (f ∷ frames) known = turn f at (f.place == n0 + at) (λ k. applied k frames) known.0 (eqb-true f.place (n0 + at)) (λ j. next_frames j frames known.1)
