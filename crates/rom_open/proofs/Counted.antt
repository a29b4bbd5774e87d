-- The region that counts, in each state.
use Rattle.std.proofs.Common.{◌≡◌, inl, inr, ℕ, List, Result, Ok, Err, OnOk, length, refl, sym, ◌∙◌, subst}
use Rattle.std.specs.Prelude.{slice_index}
use Rattle.rom_model.specs.Blocks.{region_len}
use Rattle.rom_header.specs.Layout.{MAIN, STATE, back_at, main_of, back_of, part}
use Rattle.rom_header.specs.Regions.{IsCounted, IsHeap}
use Rattle.rom_recover.specs.Image.{IsReadFrom}
use Rattle.rom_recover.specs.Recovered.{AreTwins}
use Rattle.rom_recover.proofs.CopyBack.{equal_done}
use Rattle.rom_recover.proofs.Keeping.{main_kept}
use Rattle.rom_open.specs.View.{HasCounted}

pub idle_counted : (n : ℕ) (x image : List ℕ) → IsHeap n x → slice_index x STATE ≡ 0 → AreTwins n (region_len n) x → IsReadFrom MAIN (region_len n) x image → HasCounted n x image
idle_counted n x image heap idle same read =
    let done = equal_done n x heap idle same in
    record {
      some = (done.region, done.counted);
      kept = λ size. subst (λ (l : List ℕ). IsCounted n x l) (sym done.main_is ∙ sym (main_kept n x image heap read size)) done.counted;
    }

-- the part that was read is the whole region
whole : (at place len : ℕ) (x image : List ℕ) → at ≡ place → image ≡ part at (length image) x → length image ≡ len → part place len x ≡ image
whole at place len x image here read size = (λ i. part (sym here i) (sym size i) x) ∙ sym read

pub mutating_counted : {T E : Type 0} (n at : ℕ) (x image : List ℕ) (r : Result T E) → slice_index x STATE ≡ 1 → at ≡ back_at n → OnOk r (image ≡ part at (length image) x) → OnOk r (HasCounted n x image)
mutating_counted n at x image (Ok v) state here read = record {
  some = (back_of n x, inr (inl (state, refl)));
  kept = λ size. inr (inl (state, whole at (back_at n) (region_len n) x image here read size));
}
mutating_counted n at x image (Err e) state here read = tt

pub copying_counted : {T E : Type 0} (n at : ℕ) (x image : List ℕ) (r : Result T E) → slice_index x STATE ≡ 2 → at ≡ MAIN → OnOk r (image ≡ part at (length image) x) → OnOk r (HasCounted n x image)
copying_counted n at x image (Ok v) state here read = record {
  some = (main_of n x, inr (inr (state, refl)));
  kept = λ size. inr (inr (state, whole at MAIN (region_len n) x image here read size));
}
copying_counted n at x image (Err e) state here read = tt
