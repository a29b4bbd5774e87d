-- One frame more of those that are looked at in turn.
use Rattle.std.proofs.Common.{◌≡◌, ℕ, ◌+◌, ◌<◌, ◌≤◌, Bool, if◌then◌else◌, List, [], ◌∷◌, ◌++◌, length, take, drop, get_or, append_assoc, sym, ap, ◌∙◌, arith, append-nil, eq-eqb, ne_eqb}
use Rattle.std.proofs.lemmas.Bool.{le-ltb, lt-ltb}
use Rattle.std.proofs.lemmas.List.{take-append-drop, take_more}
use Rattle.rom_frame.specs.declared.frame.Frame.{Frame}
use Rattle.rom_replica.specs.Turns.{applied, early, known}
use Rattle.rom_replica.proofs.Turning.{applied_behind, early_behind, known_behind}
use Rattle.rom_tail.specs.Batches.{many_next}

-- the frame at an index stands behind those before it
pub one_more : (frames : List Frame) (i : ℕ) (f : Frame) → f ≡ get_or frames i f → i < length frames → take (i + 1) frames ≡ take i frames ++ f ∷ []
one_more frames i f is within = take_more frames i f within ∙ ap (λ (g : Frame). take i frames ++ g ∷ []) (sym is)

-- and parts them from those behind it
pub split_at : (frames : List Frame) (i : ℕ) (f : Frame) → f ≡ get_or frames i f → i < length frames → frames ≡ take i frames ++ f ∷ drop (i + 1) frames
split_at frames i f is within =
    sym (take-append-drop (i + 1) frames) ∙ ap (λ (fs : List Frame). fs ++ drop (i + 1) frames) (one_more frames i f is within) ∙ append_assoc (take i frames) (f ∷ []) (drop (i + 1) frames)

module _ (n : ℕ) (fs : List Frame) (f : Frame) where
  abbrev k : ℕ
  k = n + many_next n fs

  -- one whose place is next is one more of these
  pub applied_next : f.place ≡ n + many_next n fs → applied n (fs ++ f ∷ []) ≡ applied n fs ++ f ∷ []
  applied_next is = applied_behind n fs (f ∷ []) ∙ ap (λ (b : Bool). applied n fs ++ ((if b then f ∷ [] else []) ++ [])) (eq-eqb f.place k is)

  -- and any other is none
  pub applied_other : (f.place ≡ n + many_next n fs → ⊥) → applied n (fs ++ f ∷ []) ≡ applied n fs
  applied_other not = applied_behind n fs (f ∷ []) ∙ ap (λ (b : Bool). applied n fs ++ ((if b then f ∷ [] else []) ++ [])) (ne_eqb f.place k not) ∙ append-nil (applied n fs)

  pub known_below : f.place < n + many_next n fs → known n (fs ++ f ∷ []) ≡ known n fs + 1
  known_below lt = known_behind n fs (f ∷ []) ∙ ap (λ (b : Bool). known n fs + ((if b then 1 else 0) + 0)) (lt-ltb f.place k lt)

  pub known_not : n + many_next n fs ≤ f.place → known n (fs ++ f ∷ []) ≡ known n fs
  known_not le = known_behind n fs (f ∷ []) ∙ ap (λ (b : Bool). known n fs + ((if b then 1 else 0) + 0)) (le-ltb f.place k le) ∙ (let none : known n fs + 0 ≡ known n fs = omega arith in none)

  pub early_above : n + many_next n fs < f.place → early n (fs ++ f ∷ []) ≡ early n fs + 1
  early_above lt = early_behind n fs (f ∷ []) ∙ ap (λ (b : Bool). early n fs + ((if b then 1 else 0) + 0)) (lt-ltb k f.place lt)

  pub early_not : f.place ≤ n + many_next n fs → early n (fs ++ f ∷ []) ≡ early n fs
  early_not le = early_behind n fs (f ∷ []) ∙ ap (λ (b : Bool). early n fs + ((if b then 1 else 0) + 0)) (le-ltb k f.place le) ∙ (let none : early n fs + 0 ≡ early n fs = omega arith in none)
