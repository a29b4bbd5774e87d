-- What is committed changes only into what is older, and back is read whole where it stands still.
use Rattle.std.proofs.Common.{◌≡◌, ◌≢◌, ◌⊎◌, inl, inr, ⊎_elim, ℕ, zero, suc, ◌+◌, ◌-◌, ◌<◌, ◌≤◌, List, get_or, refl, sym, ◌∙◌, ap, subst, arith}
use Rattle.rom_header.specs.Layout.{STATE, back_of, main_of}
use Rattle.rom_steady.specs.Rule.{Stage, Resting, Changing, Deciding, Copying, IsKept, IsOlder, Moves, age, committed, committed_at, state_at}

-- not in the midst of copying
abbrev pub IsUncopied : Stage → Type 0
IsUncopied Copying = ⊥
IsUncopied other = Unit {0}

-- what holds at a moment, and at each next one, holds from then on
pub onwards : (P : ℕ → Type 0) (t : ℕ) → P t → ((u : ℕ) → t ≤ u → P u → P (u + 1)) → (d : ℕ) → P (t + d)
onwards P t base step zero = subst P (omega arith) base
onwards P t base step (suc d) = let e : (t + d) + 1 ≡ t + suc d = omega arith in subst P e (step (t + d) (omega arith) (onwards P t base step d))

pub from_then : (P : ℕ → Type 0) (t u : ℕ) → t ≤ u → P t → ((u : ℕ) → t ≤ u → P u → P (u + 1)) → P u
from_then P t u le base step = let e : t + (u - t) ≡ u = omega arith in subst P e (onwards P t base step (u - t))

-- one step: what is committed stays, or becomes older
pub step_stays : (s t : Stage) (m b n c : List ℕ) → IsOlder s m b → Moves s t m b n c → (committed t n c ≡ committed s m b) ⊎ (age (committed s m b) < age (committed t n c))
step_stays Resting Resting m b n c old go = inl go
step_stays Resting Changing m b n c old go = inl go
step_stays Resting Deciding m b n c old go = absurd go
step_stays Resting Copying m b n c old go = absurd go
step_stays Changing Resting m b n c old go = inl go
step_stays Changing Changing m b n c old go = inl go
step_stays Changing Deciding m b n c old go = inl go
step_stays Changing Copying m b n c old go = absurd go
step_stays Deciding Resting m b n c old go = absurd go
step_stays Deciding Changing m b n c old go = inl go
step_stays Deciding Deciding m b n c old go = inl go.1
step_stays Deciding Copying m b n c old go = inr (subst (λ (l : List ℕ). age b < age l) (sym go.0) old)
step_stays Copying Resting m b n c old go = inl go.1
step_stays Copying Changing m b n c old go = absurd go
step_stays Copying Deciding m b n c old go = absurd go
step_stays Copying Copying m b n c old go = inl go

-- one step: copying is begun only as something older is committed
pub step_uncopied : (s t : Stage) (m b n c : List ℕ) → IsOlder s m b → Moves s t m b n c → IsUncopied s → IsUncopied t ⊎ (age (committed s m b) < age (committed t n c))
step_uncopied s Resting m b n c old go is = inl tt
step_uncopied s Changing m b n c old go is = inl tt
step_uncopied s Deciding m b n c old go is = inl tt
step_uncopied Resting Copying m b n c old go is = absurd go
step_uncopied Changing Copying m b n c old go is = absurd go
step_uncopied Deciding Copying m b n c old go is = inr (subst (λ (l : List ℕ). age b < age l) (sym go.0) old)
step_uncopied Copying Copying m b n c old go is = absurd is

-- back is no older than what is committed
pub back_younger : (s : Stage) (m b : List ℕ) → IsOlder s m b → age b ≤ age (committed s m b)
back_younger Resting m b old = omega arith
back_younger Changing m b old = omega arith
back_younger Deciding m b old = omega arith
back_younger Copying m b old = old

-- but where it is copied, back is what is committed
pub uncopied_back : (s : Stage) (m b : List ℕ) → IsUncopied s → b ≡ committed s m b
uncopied_back Resting m b is = refl
uncopied_back Changing m b is = refl
uncopied_back Deciding m b is = refl
uncopied_back Copying m b is = absurd is

-- another state than COPYING says that nothing is copied
pub other_state : (s : Stage) → state_at s ≢ 2 → IsUncopied s
other_state Resting other = tt
other_state Changing other = tt
other_state Deciding other = tt
other_state Copying other = other refl

-- each stage is one or the other
pub copied_or_not : (s : Stage) → IsUncopied s ⊎ (s ≡ Copying)
copied_or_not Resting = inl tt
copied_or_not Changing = inl tt
copied_or_not Deciding = inl tt
copied_or_not Copying = inr refl

-- copying goes on, or ends with both alike
out_of_copying : (t : Stage) (m b n c : List ℕ) → Moves Copying t m b n c → ((t ≡ Copying) × (n ≡ m)) ⊎ (c ≡ m)
out_of_copying Resting m b n c go = inr go.1
out_of_copying Changing m b n c go = absurd go
out_of_copying Deciding m b n c go = absurd go
out_of_copying Copying m b n c go = inl (refl, go)

module _ (order : ℕ) (stages : ℕ → Stage) (words : ℕ → List ℕ) (kept : IsKept order stages words) where
  abbrev main : ℕ → List ℕ
  main t = main_of order (words t)

  abbrev back : ℕ → List ℕ
  back t = back_of order (words t)

  abbrev front : ℕ → List ℕ
  front t = committed_at order stages words t

  -- what is committed stays until something older is
  pub stays_or_ages : (t u : ℕ) → t ≤ u → (front u ≡ front t) ⊎ (age (front t) < age (front u))
  stays_or_ages t u le = from_then (λ v. (front v ≡ front t) ⊎ (age (front t) < age (front v))) t u le (inl refl)
      (λ v _ so_far. ⊎_elim
      (λ same. ⊎_elim (λ e. inl (e ∙ same)) (λ more. inr (subst (λ (l : List ℕ). age l < age (front (v + 1))) same more)) (step_stays (stages v) (stages (v + 1)) (main v) (back v) (main (v + 1)) (back (v + 1)) (kept.moment v).older (kept.step v).moves))
      (λ more. ⊎_elim (λ e. inr (subst (λ (l : List ℕ). age (front t) < age l) (sym e) more)) (λ again. let x : age (front t) < age (front (v + 1)) = omega arith in inr x) (step_stays (stages v) (stages (v + 1)) (main v) (back v) (main (v + 1)) (back (v + 1)) (kept.moment v).older (kept.step v).moves))
      so_far)

  pub ages : (t u : ℕ) → t ≤ u → age (front t) ≤ age (front u)
  ages t u le = ⊎_elim (λ same. let e : age (front u) ≡ age (front t) = ap age same in omega arith) (λ more. omega arith) (stays_or_ages t u le)

  -- where its age has not grown, it is the same
  pub same_age : (t u : ℕ) → t ≤ u → age (front u) ≤ age (front t) → front u ≡ front t
  same_age t u le young = ⊎_elim (λ same. same) (λ more. absurd (omega arith)) (stays_or_ages t u le)

  -- version, count and names never fall
  pub version_grows : (t u : ℕ) → t ≤ u → get_or (back t) 1 0 ≤ get_or (back u) 1 0
  version_grows t u le = from_then (λ v. get_or (back t) 1 0 ≤ get_or (back v) 1 0) t u le (omega arith) (λ v _ so_far. omega (arith, (kept.step v).version))

  pub count_grows : (t u : ℕ) → t ≤ u → get_or (back t) 2 0 ≤ get_or (back u) 2 0
  count_grows t u le = from_then (λ v. get_or (back t) 2 0 ≤ get_or (back v) 2 0) t u le (omega arith) (λ v _ so_far. omega (arith, (kept.step v).count))

  pub name_grows : (k : ℕ) → 4 ≤ k → k < 8 → (t u : ℕ) → t ≤ u → get_or (words t) k 0 ≤ get_or (words u) k 0
  name_grows k low high t u le = from_then (λ v. get_or (words t) k 0 ≤ get_or (words v) k 0) t u le (omega arith) (λ v _ so_far. omega (arith, (kept.step v).name k low high))

  -- nothing is copied from a moment on at which nothing is, unless something older is committed
  pub stays_uncopied : (t u : ℕ) → t ≤ u → IsUncopied (stages t) → front u ≡ front t → IsUncopied (stages u)
  stays_uncopied t u le is same = ⊎_elim (λ still. still) (λ more. absurd (let e : age (front u) ≡ age (front t) = ap age same in omega arith))
      (from_then (λ v. IsUncopied (stages v) ⊎ (age (front t) < age (front v))) t u le (inl is)
      (λ v late so_far. ⊎_elim
      (λ still. ⊎_elim (λ next. inl next) (λ more. let grown : age (front t) ≤ age (front v) = ages t v late in let x : age (front t) < age (front (v + 1)) = omega arith in inr x) (step_uncopied (stages v) (stages (v + 1)) (main v) (back v) (main (v + 1)) (back (v + 1)) (kept.moment v).older (kept.step v).moves still))
      (λ more. let grown : age (front v) ≤ age (front (v + 1)) = ages v (v + 1) (omega arith) in let x : age (front t) < age (front (v + 1)) = omega arith in inr x)
      so_far))

  -- a word of back that was read behind another state than COPYING, while what is committed stood still, is the one that is committed
  pub read_behind : (a t k value : ℕ) (region : List ℕ) → a ≤ t → get_or (words a) STATE 0 ≢ 2 → front a ≡ region → front t ≡ region → value ≡ get_or (back t) k 0 → value ≡ get_or region k 0
  read_behind a t k value region le other before now is =
      let uncopied : IsUncopied (stages a) = other_state (stages a) (λ e. other ((kept.moment a).state ∙ e)) in
      let still : IsUncopied (stages t) = stays_uncopied a t le uncopied (now ∙ sym before) in
      is ∙ ap (λ (l : List ℕ). get_or l k 0) (uncopied_back (stages t) (main t) (back t) still ∙ now)

  main_copied : (s : Stage) (m b : List ℕ) → s ≡ Copying → m ≡ committed s m b
  main_copied s m b e = subst (λ (x : Stage). m ≡ committed x m b) (sym e) refl

  -- a word that was read in main and then, the same, in back, while what is committed stood still, is the one that is committed
  pub read_in_both : (a t k value : ℕ) (region : List ℕ) → a ≤ t → front a ≡ region → front t ≡ region → value ≡ get_or (main a) k 0 → value ≡ get_or (back t) k 0 → value ≡ get_or region k 0
  read_in_both a t k value region le before now in_main in_back = ⊎_elim
      (λ uncopied. in_back ∙ ap (λ (l : List ℕ). get_or l k 0) (uncopied_back (stages t) (main t) (back t) (stays_uncopied a t le uncopied (now ∙ sym before)) ∙ now))
      (λ copies. in_main ∙ ap (λ (l : List ℕ). get_or l k 0) (main_copied (stages a) (main a) (back a) copies ∙ before))
      (copied_or_not (stages a))

  -- main stands still while back is made what it is, and then back is no younger
  main_or_later : (t u : ℕ) → t ≤ u → stages t ≡ Copying → (main u ≡ main t) ⊎ (age (main t) ≤ age (back u))
  main_or_later t u le copies = ⊎_elim (λ still. inl still.1) (λ later. inr later)
      (from_then (λ v. ((stages v ≡ Copying) × (main v ≡ main t)) ⊎ (age (main t) ≤ age (back v))) t u le (inl (copies, refl))
      (λ v _ so_far. ⊎_elim
      (λ still. ⊎_elim (λ on. inl (on.0, on.1 ∙ still.1)) (λ done. inr (let e : age (back (v + 1)) ≡ age (main t) = ap age (done ∙ still.1) in omega arith))
      (out_of_copying (stages (v + 1)) (main v) (back v) (main (v + 1)) (back (v + 1)) (subst (λ (x : Stage). Moves x (stages (v + 1)) (main v) (back v) (main (v + 1)) (back (v + 1))) still.0 (kept.step v).moves)))
      (λ later. inr (omega (arith, (kept.step v).version, (kept.step v).count)))
      so_far))

  -- a moment whose state is not COPYING, or at which main is as old as back is found then, has committed nothing older than back is found then
  pub found_then : (t main_version main_count back_version back_count version count : ℕ) → t ≤ main_version → t ≤ main_count →
      main_version ≤ back_version → main_version ≤ back_count → main_count ≤ back_version → main_count ≤ back_count →
      version ≡ get_or (back back_version) 1 0 → count ≡ get_or (back back_count) 2 0 →
      (get_or (words t) STATE 0 ≢ 2) ⊎ ((version ≡ get_or (main main_version) 1 0) × (count ≡ get_or (main main_count) 2 0)) →
      age (front t) ≤ version + count
  found_then t mv mc bv bc version count a b c d e f is_version is_count told =
      let uncopied_case : IsUncopied (stages t) → age (front t) ≤ version + count = λ is.
      let same : age (back t) ≡ age (front t) = ap age (uncopied_back (stages t) (main t) (back t) is) in
      omega (arith, same, version_grows t bv (omega arith), count_grows t bc (omega arith)) in
      ⊎_elim uncopied_case
      (λ copies. ⊎_elim
      (λ other. uncopied_case (other_state (stages t) (λ x. other ((kept.moment t).state ∙ x))))
      (λ alike.
      let is_main : age (main t) ≡ age (front t) = ap age (main_copied (stages t) (main t) (back t) copies) in
      ⊎_elim
      (λ one. ⊎_elim
      (λ two.
      let x : get_or (main mv) 1 0 ≡ get_or (main t) 1 0 = ap (λ (l : List ℕ). get_or l 1 0) one in
      let y : get_or (main mc) 2 0 ≡ get_or (main t) 2 0 = ap (λ (l : List ℕ). get_or l 2 0) two in
      omega (arith, x, y, is_main, alike.0, alike.1))
      (λ later. omega (arith, is_main, later, version_grows mc bv (omega arith), count_grows mc bc (omega arith)))
      (main_or_later t mc (omega arith) copies))
      (λ later. omega (arith, is_main, later, version_grows mv bv (omega arith), count_grows mv bc (omega arith)))
      (main_or_later t mv (omega arith) copies))
      told)
      (copied_or_not (stages t))

  -- as old as back is found, something is committed at each later moment
  pub found_before : (first second t version count : ℕ) → first ≤ t → second ≤ t → version ≡ get_or (back first) 1 0 → count ≡ get_or (back second) 2 0 → version + count ≤ age (front t)
  found_before first second t version count a b is_version is_count =
      omega (arith, version_grows first t a, count_grows second t b, back_younger (stages t) (main t) (back t) (kept.moment t).older)

  -- what is committed stands still between a moment at which it is no younger than an age, and one at which it is no older
  pub stands_still : (t u last old : ℕ) → t ≤ u → u ≤ last → old ≤ age (front t) → age (front last) ≤ old → front u ≡ front t
  stands_still t u last old a b low high = same_age t u a (omega (arith, ages u last b))

  -- a word of the name that is found the same twice was so in between
  pub name_between : (k : ℕ) → 4 ≤ k → k < 8 → (first t last value : ℕ) → first ≤ t → t ≤ last → value ≡ get_or (words first) k 0 → value ≡ get_or (words last) k 0 → value ≡ get_or (words t) k 0
  name_between k low high first t last value a b before after = omega (arith, name_grows k low high first t a, name_grows k low high t last b)
