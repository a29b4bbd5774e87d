-- What the windows have and what waits agree, as words are put, read ahead and handed over.
use Rattle.std.proofs.Common.{◌≡◌, ◌≢◌, inl, inr, ℕ, ◌+◌, ◌<◌, ◌≤◌, Bool, true, false, refl, Option, Some, None, IfSome, sym, ap, ◌∙◌, subst}
use Rattle.std.proofs.lemmas.Bool.{cases_eq, cases_lt}
use Rattle.rom_device.specs.declared.run.Run.{Run}
use Rattle.rom_device.specs.declared.windows.Windows.{Windows}
use Rattle.rom_device.specs.Run.{word_of_run}
use Rattle.rom_device.specs.Cached.{Gives, HandedOver}
use Rattle.rom_device.specs.Windows.{HasSame, Agrees, Puts, ReadsWindow}

abbrev or_none : Option ℕ → ℕ
or_none None = 0
or_none (Some word) = word

same_some : (o : Option ℕ) (v w : ℕ) → o ≡ Some v → o ≡ Some w → v ≡ w
same_some o v w is_v is_w = ap or_none (sym is_v ∙ is_w)

pub none_some : (o : Option ℕ) (w : ℕ) → o ≡ None → o ≡ Some w → ⊥
none_some o w none some = subst (λ (p : Option ℕ). IfSome p (λ word. ⊥)) (sym none ∙ some) tt

put_same : (old new window after : Run) (at value : ℕ) → word_of_run new at ≡ Some value → ((b : ℕ) → b ≢ at → word_of_run new b ≡ word_of_run old b) → Puts at value window after → HasSame old window → HasSame new after
put_same old new window after at value here others puts same b word seen waits sees = elim (cases_eq b at) [
  | inl is ↦
      let sees_value : seen ≡ value = subst (λ (o : Option ℕ). IfSome o (λ w. w ≡ value)) (ap (λ (k : ℕ). word_of_run after k) (sym is) ∙ sees) puts.0 in
      sees_value ∙ same_some (word_of_run new at) value word here (ap (λ (k : ℕ). word_of_run new k) (sym is) ∙ waits)
  | inr other ↦ same b word seen (sym (others b other) ∙ waits) (sym (puts.1 b other) ∙ sees)
]

pub put_agrees : (old new : Run) (windows after : Windows) (at value : ℕ) → word_of_run new at ≡ Some value → ((b : ℕ) → b ≢ at → word_of_run new b ≡ word_of_run old b) → Puts at value windows.left after.left → Puts at value windows.right after.right → Agrees old windows → Agrees new after
put_agrees old new windows after at value here others left right agree =
    (put_same old new windows.left after.left at value here others left agree.0, put_same old new windows.right after.right at value here others right agree.1)

read_same : (waiting window after : Run) (first : ℕ) → ((b : ℕ) → first ≤ b → b < first + 512 → word_of_run waiting b ≡ None) → ReadsWindow first window after → HasSame waiting window → HasSame waiting after
read_same waiting window after first clear (inl stays) same = subst (λ (run : Run). HasSame waiting run) (sym stays) same
read_same waiting window after first clear (inr reads) same = λ b word seen waits sees. absurd (elim (cases_lt b first) [
  | inl before ↦ none_some (word_of_run after b) seen (reads.0 b before) sees
  | inr from ↦ elim (cases_lt b (first + 512)) [
    | inl within ↦ none_some (word_of_run waiting b) word (clear b from within) waits
    | inr behind ↦ none_some (word_of_run after b) seen (reads.1 b behind) sees
  ]
])

pub read_agrees : (waiting : Run) (windows after : Windows) (first : ℕ) → ((b : ℕ) → first ≤ b → b < first + 512 → word_of_run waiting b ≡ None) → ReadsWindow first windows.left after.left → ReadsWindow first windows.right after.right → Agrees waiting windows → Agrees waiting after
read_agrees waiting windows after first clear left right agree =
    (read_same waiting windows.left after.left first clear left agree.0, read_same waiting windows.right after.right first clear right agree.1)

-- what is as it waits goes on so
pub waits_on : (old new : Run) (b seen : ℕ) → HandedOver old new → IfSome (word_of_run old b) (λ word. seen ≡ word) → IfSome (word_of_run new b) (λ word. seen ≡ word)
waits_on old new b seen (inl same) holds = subst (λ (run : Run). IfSome (word_of_run run b) (λ word. seen ≡ word)) (sym same) holds
waits_on old new b seen (inr none) holds = subst (λ (o : Option ℕ). IfSome o (λ word. seen ≡ word)) (sym (none b)) tt

pub gives_word : (there found : Option ℕ) (seen : ℕ) → found ≡ Some seen → Gives there found → IfSome there (λ word. seen ≡ word)
gives_word None found seen is gives = tt
gives_word (Some word) found seen is gives = same_some found seen word is gives

pub not_true : (test : Bool) → (test ≡ true → ⊥) → test ≡ false
not_true true never = absurd (never refl)
not_true false never = refl
