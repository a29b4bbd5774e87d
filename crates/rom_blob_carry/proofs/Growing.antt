-- A new region with a count of its own, and keys that get their bytes one after another.
use Rattle.std.proofs.Common.{◌≡◌, ◌≢◌, inl, inr, ℕ, zero, suc, ◌+◌, ◌<◌, ◌≤◌, Bool, true, false, List, [], ◌∷◌, ◌++◌, length, refl, sym, ◌∙◌, ap, subst, arith, length-set, get_or-set_other}
use Rattle.std.specs.Prelude.{slice_index, slice_set, Some, None, if◌then◌else◌}
use Rattle.std.specs.FinMap as finite
use Rattle.std.proofs.lemmas.Bool.{cases_eq}
use Rattle.std.proofs.lemmas.Grind.{get_or-set_at, same_number_lists}
use Rattle.rom_model.specs.History.{LAST_COUNT}
use Rattle.rom_model.specs.Space.{ChangesOnly}
use Rattle.rom_blob_region.specs.State.{BlobState, set_blob}
use Rattle.rom_blob_region.specs.Region.{BlobContents}
use Rattle.rom_blob_region.proofs.Recounting.{raised}
use Rattle.rom_blob_carry.specs.Elements.{Entry}
use Rattle.rom_blob_carry.specs.Grown.{after_sets}

-- two words at one offset
set_other : (w : List ℕ) (at u v : ℕ) → ChangesOnly at 1 (slice_set w at u) (slice_set w at v)
set_other w at u v = record {
  as_long = length-set w at v ∙ sym (length-set w at u);
  before = λ k lt. (let ne : k ≢ at = λ e. omega (arith, e, lt) in get_or-set_other w at k v 0 ne ∙ sym (get_or-set_other w at k u 0 ne));
  behind = λ k ge. (let ne : k ≢ at = λ e. omega (arith, e, ge) in get_or-set_other w at k v 0 ne ∙ sym (get_or-set_other w at k u 0 ne));
}

-- a word that is set to what it is
set_same : (w : List ℕ) (at v : ℕ) → at < length w → slice_index w at ≡ v → slice_set w at v ≡ w
set_same w at v lt is = same_number_lists (slice_set w at v) w (length-set w at v) (λ k within. elim (cases_eq k at) [
  | inl same ↦ ap (slice_index (slice_set w at v)) same ∙ get_or-set_at w at at v 0 refl lt ∙ sym is ∙ ap (slice_index w) (sym same)
  | inr other ↦ get_or-set_other w at k v 0 other
])

-- a new region counts what it is told
pub counts : (n : ℕ) (w : List ℕ) (s : BlobState) (c : ℕ) → 4 ≤ n → 2 < length w → c ≤ LAST_COUNT → BlobContents n w s 0 → BlobContents n (slice_set w 2 c) s c
counts n w s zero le long few held = subst (λ v. BlobContents n v s 0) (sym (set_same w 2 0 long held.1.root.count_is)) held
counts n w s (suc c) le long few held =
    let e : c + 1 ≡ suc c = omega arith in
    let before = counts n w s c le long (omega (arith, few)) held in
    let now : slice_index (slice_set w 2 (c + 1)) 2 ≡ slice_index (slice_set w 2 c) 2 + 1 = get_or-set_at w 2 2 (c + 1) 0 refl long ∙ ap (λ m. m + 1) (sym (get_or-set_at w 2 2 c 0 refl long)) in
    subst (λ m. BlobContents n (slice_set w 2 m) s m) e (raised le (omega (arith, few)) now (set_other w 2 c (c + 1)) before)

-- bytes that are no more than a key may have
pub bytes_of : (t : Bool) (xs ys : List ℕ) → Some ys ≡ (if t then Some xs else None) → ys ≡ xs
bytes_of true xs ys is = cc
bytes_of false xs ys is = absurd (let never : Some ys ≡ None = is in cc)

-- keys that get their bytes after others
pub sets_append : (n : ℕ) (s : BlobState) (xs ys : List Entry) → after_sets n s (xs ++ ys) ≡ after_sets n (after_sets n s xs) ys
sets_append n s [] ys = refl
sets_append n s (x ∷ xs) ys = sets_append n (set_blob n s x.0 x.1 (finite.get s x.0)).0 xs ys
