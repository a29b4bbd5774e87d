-- Many writes, one after another.
use Rattle.std.proofs.Common.{◌≡◌, ◌≢◌, inl, inr, ℕ, ◌+◌, ◌<◌, List, length, slice_index, set, refl, sym, ◌∙◌, subst, arith, length-set, get_or-set_other, get_or-set_same}
use Rattle.std.proofs.lemmas.Bool.{cases_eq, cases_lt}
use Rattle.std.proofs.lemmas.List.{set_past}
use Rattle.rom_model.specs.Space.{ChangesOnly}
use Rattle.rom_device.specs.Device.{ShownDevice, AreRenewed, DoubtsNoMore, IsRenewed, Runs, Does, WritesWord, WritesMany}
use Rattle.rom_model.proofs.Changes.{changes_joins, changes_set, changes_wider}
use Rattle.rom_device.proofs.Going.{runs_by, does_on, does_by}

pub many_none : (at : ℕ) (values x : List ℕ) → WritesMany at values x x
many_none at values x = record { only = record { as_long = refl; before = λ k h. refl; behind = λ k h. refl }; either = λ k h. inl refl }

pub many_joins : (at : ℕ) (values x y z : List ℕ) → WritesMany at values x y → WritesMany at values y z → WritesMany at values x z
many_joins at values x y z first second = record {
  only = record {
    as_long = second.only.as_long ∙ first.only.as_long;
    before = λ k h. second.only.before k h ∙ first.only.before k h;
    behind = λ k h. second.only.behind k h ∙ first.only.behind k h;
  };
  either = λ k h. elim (second.either k h) [
    | inl stays ↦ elim (first.either k h) [
      | inl stayed ↦ inl (stays ∙ stayed)
      | inr put ↦ inr (stays ∙ put)
    ]
    | inr put ↦ inr put
  ];
}

-- one of them; behind the last word it changes nothing
many_set : (at : ℕ) (values x : List ℕ) (index : ℕ) → index < length values → at + index < length x → WritesMany at values x (set x (at + index) (slice_index values index))
many_set at values x index lt inside = record {
  only = record {
    as_long = length-set x (at + index) (slice_index values index);
    before = λ j h. let ne : j ≢ at + index = omega arith in rw get_or-set_other refl;
    behind = λ j h. let ne : j ≢ at + index = omega (arith, lt) in rw get_or-set_other refl;
  };
  either = λ k h. elim (cases_eq k index) [
    | inl same ↦ inr (subst (λ (n : ℕ). slice_index (set x (at + index) (slice_index values index)) (at + n) ≡ slice_index values n) (sym same) (rw get_or-set_same refl))
    | inr other ↦ inl (let ne : at + k ≢ at + index = omega (arith, other) in rw get_or-set_other refl)
  ];
}

pub many_writes : (at : ℕ) (values : List ℕ) (index : ℕ) → index < length values → (x y : List ℕ) → WritesWord (at + index) (slice_index values index) x y → WritesMany at values x y
many_writes at values index lt x y (inl same) = subst (λ (l : List ℕ). WritesMany at values x l) (sym same) (many_none at values x)
many_writes at values index lt x y (inr put) = subst (λ (l : List ℕ). WritesMany at values x l) (sym put) (elim (cases_lt (at + index) (length x)) [
  | inl inside ↦ many_set at values x index lt inside
  | inr past ↦ subst (λ (l : List ℕ). WritesMany at values x l) (sym (set_past x (at + index) (slice_index values index) past)) (many_none at values x)
])

-- a run of calls that writes many changes only these
pub runs_changes : {D : Type 0} (shown : ShownDevice D) (at : ℕ) (values : List ℕ) (a b : D)
    → Runs shown (WritesMany at values) a b → Runs shown (ChangesOnly at (length values)) a b
runs_changes shown at values = runs_by shown (WritesMany at values) (ChangesOnly at (length values)) (λ x y many. many.only)

-- one write more, of the next of these words
pub many_on : {D : Type 0} (shown : ShownDevice D) (at : ℕ) (values : List ℕ) (index : ℕ) → index < length values → (a b c : D)
    → Does shown (WritesMany at values) a b → Does shown (WritesWord (at + index) (slice_index values index)) b c → Does shown (WritesMany at values) a c
many_on shown at values index lt a b c so_far write =
    does_on shown (WritesMany at values) (many_joins at values) a b c so_far
    (does_by shown (WritesWord (at + index) (slice_index values index)) (WritesMany at values) (many_writes at values index lt) b c write)

-- places that are not in doubt, and one more
pub renewed_still : {D : Type 0} (shown : ShownDevice D) (at k : ℕ) (b c : D) → DoubtsNoMore shown b c → AreRenewed shown at k b → AreRenewed shown at k c
renewed_still shown at k b c fewer so_far j lt is = so_far j lt (fewer (at + j) is)

pub renewed_on : {D : Type 0} (shown : ShownDevice D) (at k : ℕ) (b c : D) → DoubtsNoMore shown b c → AreRenewed shown at k b → IsRenewed shown (at + k) c → AreRenewed shown at (k + 1) c
renewed_on shown at k b c fewer so_far here j lt is = elim (cases_lt j k) [
  | inl before ↦ so_far j before (fewer (at + j) is)
  | inr past ↦ let last : j ≡ k = omega (arith, lt, past) in here (subst (λ (n : ℕ). shown.doubted c (at + n)) last is)
]

-- the words that were written so far, and one more
only_one_more : (at k v : ℕ) (x y z : List ℕ) → ChangesOnly at k x y → z ≡ set y (at + k) v → ChangesOnly at (k + 1) x z
only_one_more at k v x y z so_far put = subst (λ (l : List ℕ). ChangesOnly at (k + 1) x l) (sym put)
    (changes_joins at (k + 1) x y (set y (at + k) v) (changes_wider at (k + 1) at k (omega arith) (omega arith) x y so_far) (changes_set at (k + 1) y (at + k) v (omega arith) (omega arith)))

pub many_only : (at : ℕ) (k v : ℕ) (x y z : List ℕ) → ChangesOnly at k x y → WritesWord (at + k) v y z → ChangesOnly at (k + 1) x z
many_only at k v x y z so_far (inl same) = subst (λ (l : List ℕ). ChangesOnly at (k + 1) x l) (sym same) (changes_wider at (k + 1) at k (omega arith) (omega arith) x y so_far)
many_only at k v x y z so_far (inr put) = only_one_more at k v x y z so_far put
