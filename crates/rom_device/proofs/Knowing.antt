-- What windows have is what the words are, as words are put and read ahead.
use Rattle.std.proofs.Common.{◌≡◌, inl, inr, ℕ, ◌+◌, ◌<◌, ◌≤◌, List, length, slice_index, Option, Some, None, IfSome, set, refl, sym, ap, ◌∙◌, subst, get_or-set_other, get_or-set_same}
use Rattle.std.proofs.lemmas.Bool.{cases_eq, cases_lt}
use Rattle.rom_device.specs.declared.run.Run.{Run}
use Rattle.rom_device.specs.declared.windows.Windows.{Windows}
use Rattle.rom_device.specs.Run.{word_of_run, with_run}
use Rattle.rom_device.specs.Windows.{Knows, Puts, ReadsOf, ReadsWindow}
use Rattle.rom_device.proofs.Agreeing.{none_some}
use Rattle.rom_device.proofs.Waiting.{run_lacks}

put_known : (old new : Run) (x : List ℕ) (at value : ℕ) → at < length x → Puts at value old new → ((b seen : ℕ) → word_of_run old b ≡ Some seen → seen ≡ slice_index x b) → (b seen : ℕ) → word_of_run new b ≡ Some seen → seen ≡ slice_index (set x at value) b
put_known old new x at value inside puts knows b seen sees = elim (cases_eq b at) [
  | inl is ↦
      let sees_value : seen ≡ value = subst (λ (o : Option ℕ). IfSome o (λ w. w ≡ value)) (ap (λ (k : ℕ). word_of_run new k) (sym is) ∙ sees) puts.0 in
      let here : slice_index (set x at value) at ≡ value = rw get_or-set_same refl in
      subst (λ (k : ℕ). seen ≡ slice_index (set x at value) k) (sym is) (sees_value ∙ sym here)
  | inr other ↦
      let stays : slice_index (set x at value) b ≡ slice_index x b = rw get_or-set_other refl in
      knows b seen (sym (puts.1 b other) ∙ sees) ∙ sym stays
]

pub knows_put : (old new : Windows) (x : List ℕ) (at value : ℕ) → at < length x → Puts at value old.left new.left → Puts at value old.right new.right → Knows old x → Knows new (set x at value)
knows_put old new x at value inside left right knows = (put_known old.left new.left x at value inside left knows.0, put_known old.right new.right x at value inside right knows.1)

miss_known : (run : Run) (x : List ℕ) (at value : ℕ) → word_of_run run at ≡ None → ((b seen : ℕ) → word_of_run run b ≡ Some seen → seen ≡ slice_index x b) → (b seen : ℕ) → word_of_run run b ≡ Some seen → seen ≡ slice_index (set x at value) b
miss_known run x at value missed knows b seen sees = elim (cases_eq b at) [
  | inl is ↦ absurd (none_some (word_of_run run at) seen missed (ap (λ (k : ℕ). word_of_run run k) (sym is) ∙ sees))
  | inr other ↦
      let stays : slice_index (set x at value) b ≡ slice_index x b = rw get_or-set_other refl in
      knows b seen sees ∙ sym stays
]

pub knows_missed : (windows : Windows) (x : List ℕ) (at value : ℕ) → word_of_run windows.left at ≡ None → word_of_run windows.right at ≡ None → Knows windows x → Knows windows (set x at value)
knows_missed windows x at value left right knows = (miss_known windows.left x at value left knows.0, miss_known windows.right x at value right knows.1)

-- a window that was read ahead has the words themselves, where none waits
read_known : (waiting old new : Run) (x : List ℕ) (first : ℕ) → ((b : ℕ) → first ≤ b → b < first + 512 → word_of_run waiting b ≡ None) → ReadsWindow first old new → ReadsOf x old new
    → ((b seen : ℕ) → word_of_run old b ≡ Some seen → seen ≡ slice_index (with_run waiting x) b) → (b seen : ℕ) → word_of_run new b ≡ Some seen → seen ≡ slice_index (with_run waiting x) b
read_known waiting old new x first clear (inl stays) of knows b seen sees = knows b seen (sym (ap (λ (run : Run). word_of_run run b) stays) ∙ sees)
read_known waiting old new x first clear (inr reads) (inl stays) knows b seen sees = knows b seen (sym (ap (λ (run : Run). word_of_run run b) stays) ∙ sees)
read_known waiting old new x first clear (inr reads) (inr of) knows b seen sees = elim (cases_lt b first) [
  | inl before ↦ absurd (none_some (word_of_run new b) seen (reads.0 b before) sees)
  | inr from ↦ elim (cases_lt b (first + 512)) [
    | inl within ↦ of b seen sees ∙ sym (run_lacks waiting x b (clear b from within))
    | inr behind ↦ absurd (none_some (word_of_run new b) seen (reads.1 b behind) sees)
  ]
]

pub knows_read : (waiting : Run) (old new : Windows) (x : List ℕ) (first : ℕ) → ((b : ℕ) → first ≤ b → b < first + 512 → word_of_run waiting b ≡ None) → ReadsWindow first old.left new.left → ReadsWindow first old.right new.right
    → ReadsOf x old.left new.left → ReadsOf x old.right new.right → Knows old (with_run waiting x) → Knows new (with_run waiting x)
knows_read waiting old new x first clear left right left_of right_of knows =
    (read_known waiting old.left new.left x first clear left left_of knows.0, read_known waiting old.right new.right x first clear right right_of knows.1)
