-- Lists of calls, and of what was told of them
use Rattle.std.proofs.Common.{◌≡◌, ◌≢◌, ℕ, zero, suc, ◌+◌, ◌<◌, ◌≤◌, ◌⊎◌, List, [], ◌∷◌, ◌++◌, map, length, get_or, sym, refl, ap, ◌∙◌, subst, inl, inr, ⊎_elim, arith, Bool, true, false, cond, eqb, eq-eqb, ne_eqb, append_assoc, length-append}
use Rattle.std.specs.Prelude.{filter, take, drop, ◌==◌, ◌&&◌, not}
use Rattle.std.proofs.lemmas.List.{take-append-drop, take-append-le, take_at}
use Rattle.std.specs.List.{AllByRecursion}
use mathlib.Core.Logic.{dite}
use mathlib.Core.Option.{some, some-injective, some-ne-none}
use native.Mathlib.Decide.{ℕ_discrete}
use lib.ListN.{get_elem?}
use Rattle.atomic_table.proofs.Lists.{at_longer, at_map}
use Rattle.rom_model.specs.Seen.{StartsWith}
use Rattle.rom_model.specs.declared.entry.Entry.{Entry}
use Rattle.rom_model.specs.declared.record.Fate.{Fate}
use Rattle.rom_model.specs.declared.record.Fate.TheVariants.{Published, Failed, Doubt}
use Rattle.rom_model.specs.declared.record.Found.{Found}
use Rattle.rom_model.specs.declared.call.Updated.{Updated}
use Rattle.rom_model.specs.declared.call.Updated.TheVariants as told
use Rattle.rom_model.specs.Passes.{batch_told, fate_told}
use Rattle.rom_rule.specs.Calls.{AreScanned, caller_in, found_in, found_of, is_owed, numbered, owed, told_to_caller}
use Rattle.rom_rule.specs.Views.{Each, Told}
use Rattle.rom_rule.specs.declared.views.Request.{Request}

-- beginnings of lists
module _ {A : Type 0} where
  pub starts_longer : (ys xs zs : List A) → StartsWith ys xs → StartsWith (ys ++ zs) xs
  starts_longer ys xs zs h = (h.0 ++ zs, ap (λ (l : List A). l ++ zs) h.1 ∙ append_assoc xs h.0 zs)

  pub starts_le : (ys xs : List A) → StartsWith ys xs → length xs ≤ length ys
  starts_le ys xs h = omega (arith, ap length h.1, length-append xs h.0)

  -- of two beginnings of a list the longer one begins with the other
  pub starts_shorter : (whole us vs : List A) → StartsWith whole us → StartsWith whole vs → length us ≤ length vs → StartsWith vs us
  starts_shorter whole us vs h g le = (
    drop (length us) vs,
    sym (take-append-drop (length us) vs) ∙ ap (λ (l : List A). l ++ drop (length us) vs) (sym (take-append-le (length us) vs g.0 le) ∙ (ap (take (length us)) (sym g.1 ∙ h.1) ∙ take_at us h.0 (length us) refl)),
  )

  pub starts_at : (ys xs : List A) (i : ℕ) (a : A) → StartsWith ys xs → get_elem? xs i ≡ some a → get_elem? ys i ≡ some a
  starts_at ys xs i a h at = subst (λ (l : List A). get_elem? l i ≡ some a) (sym h.1) (at_longer xs h.0 i a at)

  pub starts_take : (ys xs : List A) (n : ℕ) → StartsWith ys xs → StartsWith ys (take n xs)
  starts_take ys xs n h = (drop n xs ++ h.0, h.1 ∙ (ap (λ (l : List A). l ++ h.0) (sym (take-append-drop n xs)) ∙ append_assoc (take n xs) (drop n xs) h.0))

  at_seam : (xs rest : List A) (y : A) → get_elem? (xs ++ rest) (length xs) ≡ some y → (more : List A) × (rest ≡ y ∷ more)
  at_seam [] [] y e = absurd (some-ne-none y (sym e))
  at_seam [] (z ∷ rest) y e = (rest, ap (λ (a : A). a ∷ rest) (some-injective z y e))
  at_seam (x ∷ xs) rest y e = at_seam xs rest y e

  -- with the next member
  pub starts_more : (ys xs : List A) (y : A) → StartsWith ys xs → get_elem? ys (length xs) ≡ some y → StartsWith ys (xs ++ y ∷ [])
  starts_more ys xs y h at = let s = at_seam xs h.0 y (subst (λ (l : List A). get_elem? l (length xs) ≡ some y) h.1 at) in
      (s.0, h.1 ∙ (ap (λ (l : List A). xs ++ l) s.1 ∙ sym (append_assoc xs (y ∷ []) s.0)))

  pub at_front : (xs ys : List A) (i : ℕ) (a : A) → i < length xs → get_elem? (xs ++ ys) i ≡ some a → get_elem? xs i ≡ some a
  at_front [] ys i a lt e = absurd (omega arith)
  at_front (x ∷ xs) ys zero a lt e = e
  at_front (x ∷ xs) ys (suc i) a lt e = at_front xs ys i a (omega arith) e

  pub at_longer_of : (xs ys : List A) (i : ℕ) (a : A) → get_elem? ys i ≡ some a → get_elem? (xs ++ ys) (length xs + i) ≡ some a
  at_longer_of [] ys i a e = subst (λ (n : ℕ). get_elem? ys n ≡ some a) (let z : i ≡ 0 + i = omega arith in z) e
  at_longer_of (x ∷ xs) ys i a e = subst (λ (n : ℕ). get_elem? (x ∷ (xs ++ ys)) n ≡ some a) (let z : suc (length xs + i) ≡ length (x ∷ xs) + i = omega arith in z) (at_longer_of xs ys i a e)

  pub at_low : (xs : List A) (i : ℕ) (a : A) → get_elem? xs i ≡ some a → i < length xs
  at_low [] i a e = absurd (some-ne-none a (sym e))
  at_low (x ∷ xs) zero a e = omega arith
  at_low (x ∷ xs) (suc i) a e = let h = at_low xs i a e in omega arith

  pub at_some : (xs : List A) (i : ℕ) → i < length xs → (a : A) × (get_elem? xs i ≡ some a)
  at_some [] i lt = absurd (omega arith)
  at_some (x ∷ xs) zero lt = (x, refl)
  at_some (x ∷ xs) (suc i) lt = at_some xs i (omega arith)

  pub all_at : (P : A → Type 0) (xs : List A) (i : ℕ) (a : A) → AllByRecursion P xs → get_elem? xs i ≡ some a → P a
  all_at P [] i a all e = absurd (some-ne-none a (sym e))
  all_at P (x ∷ xs) zero a all e = subst P (some-injective x a e) all.0
  all_at P (x ∷ xs) (suc i) a all e = all_at P xs i a all.1 e

  pub all_append : (P : A → Type 0) (xs ys : List A) → AllByRecursion P xs → AllByRecursion P ys → AllByRecursion P (xs ++ ys)
  all_append P [] ys h g = g
  all_append P (x ∷ xs) ys h g = (h.0, all_append P xs ys h.1 g)

  pub all_map : (P Q : A → Type 0) (xs : List A) → ((a : A) → P a → Q a) → AllByRecursion P xs → AllByRecursion Q xs
  all_map P Q [] f h = tt
  all_map P Q (x ∷ xs) f h = (f x h.0, all_map P Q xs f h.1)

  kept_if : (P : A → Type 0) (x : A) (xs : List A) (t : Bool) → P x → AllByRecursion P xs → AllByRecursion P (cond t (x ∷ xs) xs)
  kept_if P x xs true h all = (h, all)
  kept_if P x xs false h all = all

  pub all_filter : (P : A → Type 0) (p : A → Bool) (xs : List A) → AllByRecursion P xs → AllByRecursion P (filter p xs)
  all_filter P p [] h = tt
  all_filter P p (x ∷ xs) h = kept_if P x (filter p xs) (p x) h.0 (all_filter P p xs h.1)

-- calls by their numbers
pub at_numbered : (c i k : ℕ) (calls : List (List ℕ)) → k < length calls → get_elem? (numbered c i calls) k ≡ some record { caller = c; seq = i + k; args = get_or calls k [] }
at_numbered c i k [] lt = absurd (omega arith)
at_numbered c i zero (a ∷ calls) lt = ap (λ (n : ℕ). let z : Found = record { caller = c; seq = n; args = a } in some z) (let e : i ≡ i + 0 = omega arith in e)
at_numbered c i (suc k) (a ∷ calls) lt = at_numbered c (i + 1) k calls (omega arith) ∙ ap (λ (n : ℕ). let z : Found = record { caller = c; seq = n; args = get_or calls k [] } in some z) (let e : i + 1 + k ≡ i + suc k = omega arith in e)

pub length_numbered : (c i : ℕ) (calls : List (List ℕ)) → length (numbered c i calls) ≡ length calls
length_numbered c i [] = refl
length_numbered c i (a ∷ calls) = ap suc (length_numbered c (i + 1) calls)

pub numbered_more : (c i : ℕ) (calls : List (List ℕ)) (a : List ℕ) → numbered c i (calls ++ a ∷ []) ≡ numbered c i calls ++ record { caller = c; seq = i + length calls; args = a } ∷ []
numbered_more c i [] a = ap (λ (n : ℕ). let z : List Found = record { caller = c; seq = n; args = a } ∷ [] in z) (let e : i ≡ i + 0 = omega arith in e)
numbered_more c i (b ∷ calls) a = ap (λ (l : List Found). record { caller = c; seq = i; args = b } ∷ l) (numbered_more c (i + 1) calls a
    ∙ ap (λ (n : ℕ). numbered c (i + 1) calls ++ record { caller = c; seq = n; args = a } ∷ []) (let e : i + 1 + length calls ≡ i + length (b ∷ calls) = omega arith in e))

-- what a pass told, by the calls
pub batch_found : (k : ℕ) (found : List Found) (batch : List Entry) → map found_in (batch_told k found batch) ≡ found
batch_found k [] batch = refl
batch_found k (f ∷ fs) [] = ap (λ (l : List Found). f ∷ l) (batch_found k fs [])
batch_found k (f ∷ fs) (e ∷ es) = ap (λ (l : List Found). f ∷ l) (batch_found (k + 1) fs es)

map_again : (u : Updated (List ℕ)) (fs : List Found) → map found_in (map (λ f. let x : Told = (f, u) in x) fs) ≡ fs
map_again u [] = refl
map_again u (f ∷ fs) = ap (λ (l : List Found). f ∷ l) (map_again u fs)

pub fate_found : (fate : Fate) (k : ℕ) (found : List Found) (batch : List Entry) → map found_in (fate_told fate k found batch) ≡ found
fate_found Published k found batch = batch_found k found batch
fate_found Failed k found batch = map_again told.Failed found
fate_found Doubt k found batch = map_again told.Doubt found

-- the places are from k on
abbrev pub IsLate : ℕ → Told → Type 0
IsLate k x = (reply : List ℕ) (place : ℕ) → x.1 ≡ told.Done reply place → k ≤ place

later : (j k : ℕ) (x : Told) → j ≤ k → IsLate k x → IsLate j x
later j k x le h reply place e = let g = h reply place e in omega arith

batch_late : (k : ℕ) (found : List Found) (batch : List Entry) → AllByRecursion (IsLate k) (batch_told k found batch)
batch_late k [] batch = tt
batch_late k (f ∷ fs) [] = ((λ reply place e. absurd (let z : told.Spent ≡ told.Done reply place = e in cc)), batch_late k fs [])
batch_late k (f ∷ fs) (e ∷ es) = (
  (λ reply place same. let z : told.Done e.reply k ≡ told.Done reply place = same in let y : k ≡ place = cc in omega arith),
  all_map (IsLate (k + 1)) (IsLate k) (batch_told (k + 1) fs es) (λ x h. later k (k + 1) x (omega arith) h) (batch_late (k + 1) fs es),
)

map_late : (k : ℕ) (u : Updated (List ℕ)) (fs : List Found) → ((reply : List ℕ) (place : ℕ) → u ≢ told.Done reply place) → AllByRecursion (IsLate k) (map (λ f. let x : Told = (f, u) in x) fs)
map_late k u [] never = tt
map_late k u (f ∷ fs) never = ((λ reply place e. absurd (never reply place e)), map_late k u fs never)

pub fate_late : (fate : Fate) (k : ℕ) (found : List Found) (batch : List Entry) → AllByRecursion (IsLate k) (fate_told fate k found batch)
fate_late Published k found batch = batch_late k found batch
fate_late Failed k found batch = map_late k told.Failed found (λ reply place e. cc)
fate_late Doubt k found batch = map_late k told.Doubt found (λ reply place e. cc)

-- the calls of one caller
map_if : (x : Told) (xs : List Told) (fs : List Found) (t : Bool) → map found_in xs ≡ fs → map found_in (cond t (x ∷ xs) xs) ≡ cond t (x.0 ∷ fs) fs
map_if x xs fs true e = ap (λ (l : List Found). x.0 ∷ l) e
map_if x xs fs false e = e

pub told_found : (xs : List Told) (c : ℕ) → map found_in (told_to_caller xs c) ≡ filter (λ f. f.caller == c) (map found_in xs)
told_found [] c = refl
told_found (x ∷ xs) c = map_if x (told_to_caller xs c) (filter (λ f. f.caller == c) (map found_in xs)) (eqb x.0.caller c) (told_found xs c)

pub map_append : {A B : Type 0} (f : A → B) (xs ys : List A) → map f (xs ++ ys) ≡ map f xs ++ map f ys
map_append f [] ys = refl
map_append f (x ∷ xs) ys = ap (λ zs. f x ∷ zs) (map_append f xs ys)

pub length_map : {A B : Type 0} (f : A → B) (xs : List A) → length (map f xs) ≡ length xs
length_map f [] = refl
length_map f (x ∷ xs) = ap suc (length_map f xs)

pub map_map : {A B C : Type 0} (f : B → C) (g : A → B) (xs : List A) → map f (map g xs) ≡ map (λ x. f (g x)) xs
map_map f g [] = refl
map_map f g (x ∷ xs) = ap (λ zs. f (g x) ∷ zs) (map_map f g xs)

pub map_alike : {A B : Type 0} (f g : A → B) (xs : List A) → ((a : A) → f a ≡ g a) → map f xs ≡ map g xs
map_alike f g [] same = refl
map_alike f g (x ∷ xs) same = let rest = map_alike f g xs same in λ i. same x i ∷ rest i

-- a member of a list under a function
pub at_mapped : {A B : Type 0} (f : A → B) (xs : List A) (i : ℕ) (b : B) → get_elem? (map f xs) i ≡ some b → (a : A) × (get_elem? xs i ≡ some a) × (f a ≡ b)
at_mapped f [] i b e = absurd (some-ne-none b (sym e))
at_mapped f (x ∷ xs) zero b e = (x, refl, some-injective (f x) b e)
at_mapped f (x ∷ xs) (suc i) b e = at_mapped f xs i b e

-- callers that rise
pub scanned_le : (low last : ℕ) (cs : List ℕ) → AreScanned low last cs → low ≤ last
scanned_le low last [] h = h
scanned_le low last (c ∷ cs) h = let g = scanned_le c last cs h.1 in let g₀ = h.0 in omega arith

pub scanned_more : (low last c : ℕ) (cs : List ℕ) → AreScanned low last cs → last < c → AreScanned low c (cs ++ c ∷ [])
scanned_more low last c [] h lt = (omega arith, omega arith)
scanned_more low last c (d ∷ cs) h lt = (h.0, scanned_more d last c cs h.1 lt)

pub scanned_up : (low last last' : ℕ) (cs : List ℕ) → AreScanned low last cs → last ≤ last' → AreScanned low last' cs
scanned_up low last last' [] h le = omega arith
scanned_up low last last' (d ∷ cs) h le = (h.0, scanned_up d last last' cs h.1 le)

pub scanned_at : (low last : ℕ) (cs : List ℕ) (i c : ℕ) → AreScanned low last cs → get_elem? cs i ≡ some c → (low < c) × (c ≤ last)
scanned_at low last [] i c h e = absurd (some-ne-none c (sym e))
scanned_at low last (d ∷ cs) zero c h e = let same = some-injective d c e in let g = scanned_le d last cs h.1 in let g₀ = h.0 in (omega arith, omega arith)
scanned_at low last (d ∷ cs) (suc i) c h e = let g = scanned_at d last cs i c h.1 e in let g₀ = g.0 in let g₁ = g.1 in let g₂ = h.0 in (omega arith, omega arith)

pub scanned_one : (low last : ℕ) (cs : List ℕ) (i j c : ℕ) → AreScanned low last cs → get_elem? cs i ≡ some c → get_elem? cs j ≡ some c → i ≡ j
scanned_one low last [] i j c h e f = absurd (some-ne-none c (sym e))
scanned_one low last (d ∷ cs) zero zero c h e f = refl
scanned_one low last (d ∷ cs) zero (suc j) c h e f = let same = some-injective d c e in let g = (scanned_at d last cs j c h.1 f).0 in absurd (omega arith)
scanned_one low last (d ∷ cs) (suc i) zero c h e f = let same = some-injective d c f in let g = (scanned_at d last cs i c h.1 e).0 in absurd (omega arith)
scanned_one low last (d ∷ cs) (suc i) (suc j) c h e f = ap suc (scanned_one d last cs i j c h.1 e f)

-- those of caller c among found calls: none, or one
none_above : (c low last : ℕ) (fs : List Request) → c ≤ low → AreScanned low last (map caller_in fs) → filter (λ f. f.caller == c) (map found_of fs) ≡ []
none_above c low last [] le h = refl
none_above c low last (f ∷ fs) le h = let g = h.0 in
    ap (λ (t : Bool). cond t (found_of f ∷ filter (λ x. x.caller == c) (map found_of fs)) (filter (λ x. x.caller == c) (map found_of fs))) (ne_eqb f.caller c (λ e. omega arith)) ∙ none_above c f.caller last fs (omega arith) h.1

abbrev pub OneOf : ℕ → List Request → Type 0
OneOf c fs = (q : ℕ) × (f : Request) × (get_elem? fs q ≡ some f) × (f.caller ≡ c) × (filter (λ x. x.caller == c) (map found_of fs) ≡ found_of f ∷ [])

pub one_of : (c low last : ℕ) (fs : List Request) → AreScanned low last (map caller_in fs) → (filter (λ x. x.caller == c) (map found_of fs) ≡ []) ⊎ OneOf c fs
one_of c low last [] h = inl refl
one_of c low last (f ∷ fs) h = dite (ℕ_discrete f.caller c)
    (λ e. inr (
      0,
      f,
      refl,
      e,
      ap (λ (t : Bool). cond t (found_of f ∷ filter (λ x. x.caller == c) (map found_of fs)) (filter (λ x. x.caller == c) (map found_of fs))) (eq-eqb f.caller c e)
          ∙ ap (λ (l : List Found). found_of f ∷ l) (none_above c f.caller last fs (omega arith) h.1),
    ))
    (λ ne. let drop_it : filter (λ x. x.caller == c) (map found_of (f ∷ fs)) ≡ filter (λ x. x.caller == c) (map found_of fs)
    = ap (λ (t : Bool). cond t (found_of f ∷ filter (λ x. x.caller == c) (map found_of fs)) (filter (λ x. x.caller == c) (map found_of fs))) (ne_eqb f.caller c ne) in
    ⊎_elim (λ (e : filter (λ x. x.caller == c) (map found_of fs) ≡ []). inl (drop_it ∙ e)) (λ (o : OneOf c fs). inr (suc o.0, o.1, o.2, o.3, drop_it ∙ o.4)) (one_of c f.caller last fs h.1))

abbrev pub caller_of : Told → ℕ
caller_of x = x.0.caller

none_told : (c low last : ℕ) (xs : List Told) → c ≤ low → AreScanned low last (map caller_of xs) → told_to_caller xs c ≡ []
none_told c low last [] le h = refl
none_told c low last (x ∷ xs) le h = let g = h.0 in ap (λ (t : Bool). cond t (x ∷ told_to_caller xs c) (told_to_caller xs c)) (ne_eqb x.0.caller c (λ e. omega arith)) ∙ none_told c x.0.caller last xs (omega arith) h.1

-- what a pass told one caller
pub one_told : (low last q : ℕ) (xs : List Told) (x : Told) → AreScanned low last (map caller_of xs) → get_elem? xs q ≡ some x → told_to_caller xs x.0.caller ≡ x ∷ []
one_told low last q [] x h e = absurd (some-ne-none x (sym e))
one_told low last zero (y ∷ xs) x h e = let same : y ≡ x = some-injective y x e in
    subst (λ (z : Told). told_to_caller (y ∷ xs) z.0.caller ≡ z ∷ []) same (ap (λ (t : Bool). cond t (y ∷ told_to_caller xs y.0.caller) (told_to_caller xs y.0.caller)) (eq-eqb y.0.caller y.0.caller refl) ∙ ap (λ (l : List Told). y ∷ l) (none_told y.0.caller y.0.caller last xs (omega arith) h.1))
one_told low last (suc q) (y ∷ xs) x h e = let g = scanned_at y.0.caller last (map caller_of xs) q x.0.caller h.1 (at_map caller_of xs q x e) in let g₀ = g.0 in
    ap (λ (t : Bool). cond t (y ∷ told_to_caller xs x.0.caller) (told_to_caller xs x.0.caller)) (ne_eqb y.0.caller x.0.caller (λ e'. omega arith)) ∙ one_told y.0.caller last q xs x h.1 e

-- how many are owed
owed_if : (c : ℕ) (f : Request) (fs : List Request) (t : Bool) → is_owed c f ≡ t → owed c (f ∷ fs) ≡ cond t 1 0 + owed c fs
owed_if c f fs true e = ap (λ (t : Bool). length (cond t (f ∷ filter (is_owed c) fs) (filter (is_owed c) fs))) e ∙ (let z : length (f ∷ filter (is_owed c) fs) ≡ 1 + owed c fs = omega arith in z)
owed_if c f fs false e = ap (λ (t : Bool). length (cond t (f ∷ filter (is_owed c) fs) (filter (is_owed c) fs))) e ∙ (let z : length (filter (is_owed c) fs) ≡ 0 + owed c fs = omega arith in z)

pub owed_none : (c : ℕ) (fs : List Request) → Each (λ _ f. f.caller ≡ c → f.answered ≡ true) fs → owed c fs ≡ 0
owed_none c [] h = refl
owed_none c (f ∷ fs) h = let rest = owed_none c fs (λ j g e. h (suc j) g e) in let one = owed_if c f fs false (dite (ℕ_discrete f.caller c) (λ e. ap (λ (t : Bool). (f.caller == c) && not t) (h 0 f refl e) ∙ zero_and (f.caller == c)) (λ ne. ap (λ (t : Bool). t && not f.answered) (ne_eqb f.caller c ne))) in omega arith
  where
    zero_and : (t : Bool) → (t && false) ≡ false
    zero_and true = refl
    zero_and false = refl

pub owed_some : (c : ℕ) (fs : List Request) (q : ℕ) (f : Request) → get_elem? fs q ≡ some f → f.caller ≡ c → f.answered ≡ false → 0 < owed c fs
owed_some c [] q f at e n = absurd (some-ne-none f (sym at))
owed_some c (g ∷ fs) zero f at e n = let same = some-injective g f at in
    let one = owed_if c g fs true (ap (is_owed c) same ∙ (ap (λ (t : Bool). t && not f.answered) (eq-eqb f.caller c e) ∙ ap (λ (t : Bool). true && not t) n)) in omega arith
owed_some c (g ∷ fs) (suc q) f at e n = let rest = owed_some c fs q f at e n in let one = owed_if c g fs (is_owed c g) refl in omega arith

pub owed_alike : (c : ℕ) (g : Request → Request) (fs : List Request) → ((f : Request) → is_owed c (g f) ≡ is_owed c f) → owed c (map g fs) ≡ owed c fs
owed_alike c g [] same = refl
owed_alike c g (f ∷ fs) same = owed_if c (g f) (map g fs) (is_owed c f) (same f) ∙ (ap (λ (n : ℕ). cond (is_owed c f) 1 0 + n) (owed_alike c g fs same) ∙ sym (owed_if c f fs (is_owed c f) refl))

pub owed_all : (c : ℕ) (fs : List Request) → Each (λ _ f. f.answered ≡ false) fs → owed c fs ≡ length (filter (λ x. x.caller == c) (map found_of fs))
owed_all c [] h = refl
owed_all c (f ∷ fs) h = owed_if c f fs (f.caller == c) (ap (λ (t : Bool). (f.caller == c) && not t) (h 0 f refl) ∙ true_and (f.caller == c)) ∙ (ap (λ (n : ℕ). cond (f.caller == c) 1 0 + n) (owed_all c fs (λ j g e. h (suc j) g e))
    ∙ both (f.caller == c) (filter (λ x. x.caller == c) (map found_of fs)))
  where
    true_and : (t : Bool) → (t && true) ≡ t
    true_and true = refl
    true_and false = refl

    both : (t : Bool) (l : List Found) → cond t 1 0 + length l ≡ length (cond t (found_of f ∷ l) l)
    both true l = omega arith
    both false l = omega arith
