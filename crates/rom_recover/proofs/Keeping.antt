-- What an image keeps of words that are read by pieces.
use Rattle.std.proofs.Common.{◌≡◌, inl, inr, ℕ, ◌+◌, ◌-◌, ◌<◌, ◌≤◌, List, Result, Ok, Err, OnOk, length, slice_index, get_or, take, length-take, get_or-take, arith, sym, ap, ◌∙◌, subst}
use Rattle.std.proofs.lemmas.Bool.{cases_lt}
use Rattle.rom_model.specs.Blocks.{region_len}
use Rattle.rom_header.specs.Headers.{state_word}
use Rattle.rom_header.specs.Layout.{MAIN, back_at, main_of, back_of, part}
use Rattle.rom_header.specs.Regions.{IsHeap}
use Rattle.rom_header.proofs.Parts.{part_is}
use Rattle.rom_header.specs.declared.header.State.{State}
use Rattle.rom_header.specs.declared.header.State.TheVariants.{Idle, Mutating, Copying}
use Rattle.rom_recover.specs.Image.{IsReadFrom, KeepsMain, PieceKept}
use Rattle.rom_recover.specs.Recovered.{IsDone, IsWay}

-- a piece of a source that stayed
pub keeps_from : (from done count len : ℕ) (source mid read : List ℕ) → done + count ≤ len → ((k : ℕ) → k < len → slice_index mid (from + k) ≡ slice_index source (from + k))
    → IsReadFrom (from + done) count mid read → IsReadFrom (from + done) count source read
keeps_from from done count len source mid read fits stays keeps k lt has =
    let place : from + done + k ≡ from + (done + k) = omega arith in
    keeps k lt has ∙ ap (slice_index mid) place ∙ stays (done + k) (omega (arith, lt, fits)) ∙ ap (slice_index source) (sym place)

-- one piece more, which is the front of what was read
pub keeps_on : (at done count : ℕ) (words read old new : List ℕ) → count ≤ length read → IsReadFrom (at + done) count words read → IsReadFrom at done words old
    → PieceKept done (take count read) old new → IsReadFrom at (done + count) words new
keeps_on at done count words read old new size piece so_far kept k lt has = elim (cases_lt k done) [
  | inl earlier ↦ kept.before k earlier ∙ so_far k earlier (omega (arith, has, kept.as_long))
  | inr now ↦
      let there : done + (k - done) ≡ k = omega (arith, now) in
      let place : at + done + (k - done) ≡ at + k = omega (arith, now) in
      let within : k - done < count = omega (arith, lt, now) in
      ap (slice_index new) (sym there) ∙ kept.there (k - done) (omega (arith, within, size, length-take count read)) (omega (arith, there, has)) ∙ get_or-take count read (k - done) 0 within
      ∙ piece (k - done) within (omega (arith, within, size)) ∙ ap (slice_index words) place
]

-- an image of that length is then the part that was read
part_kept : (at len : ℕ) (words image : List ℕ) → at + len ≤ length words → length image ≡ len → IsReadFrom at len words image → part at len words ≡ image
part_kept at len words image fits size keeps = part_is at len image words size fits (λ k lt. sym (keeps k lt (omega (arith, lt, size))))

-- main was read, and stands
pub main_kept : (n : ℕ) (words image : List ℕ) → IsHeap n words → IsReadFrom MAIN (region_len n) words image → KeepsMain n words image
main_kept n words image heap keeps size = sym (part_kept MAIN (region_len n) words image (omega (arith, heap.long)) size keeps)

-- the region that is copied was read, and then main is that one
copy_kept : (n : ℕ) (s : State) (from to : ℕ) (old new image : List ℕ) → IsHeap n old → IsWay n s from to → get_or old 3 0 ≡ state_word s → IsDone n old new
    → IsReadFrom from (region_len n) old image → KeepsMain n new image
copy_kept n Idle from to old new image heap way state done keeps size = elim way [ ]
copy_kept n Mutating from to old new image heap way state done keeps size =
    let read : back_of n old ≡ image = part_kept (back_at n) (region_len n) old image (omega (arith, heap.long)) size (subst (λ (at : ℕ). IsReadFrom at (region_len n) old image) way.0 keeps) in
    elim done.counted [
      | inl idle ↦ absurd (omega (arith, state, idle.0))
      | inr busy ↦ elim busy [
        | inl back ↦ sym read ∙ back.1 ∙ sym done.main_is
        | inr main ↦ absurd (omega (arith, state, main.0))
      ]
    ]
copy_kept n Copying from to old new image heap way state done keeps size =
    let read : main_of n old ≡ image = part_kept MAIN (region_len n) old image (omega (arith, heap.long)) size (subst (λ (at : ℕ). IsReadFrom at (region_len n) old image) way.0 keeps) in
    elim done.counted [
      | inl idle ↦ absurd (omega (arith, state, idle.0))
      | inr busy ↦ elim busy [
        | inl back ↦ absurd (omega (arith, state, back.0))
        | inr main ↦ sym read ∙ main.1 ∙ sym done.main_is
      ]
    ]

pub copy_kept_on : {T E : Type 0} (n : ℕ) (s : State) (from to len : ℕ) (old new image : List ℕ) (r : Result T E) → IsHeap n old → IsWay n s from to → get_or old 3 0 ≡ state_word s → len ≡ region_len n
    → OnOk r (IsDone n old new) → IsReadFrom from len old image → OnOk r (KeepsMain n new image)
copy_kept_on n s from to len old new image (Ok done) heap way state size is keeps = copy_kept n s from to old new image heap way state is (subst (λ (k : ℕ). IsReadFrom from k old image) size keeps)
copy_kept_on n s from to len old new image (Err failed) heap way state size is keeps = tt
