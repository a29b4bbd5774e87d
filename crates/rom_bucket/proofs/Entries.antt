-- Finite maps over a list of entries in which no key stands twice.
use Rattle.std.proofs.Common.{◌≡◌, ◌≢◌, ◌⊎◌, inl, inr, ℕ, ◌+◌, ◌<◌, ◌≤◌, Bool, true, false, cond, List, [], ◌∷◌, ◌++◌, map, length, refl, sym, ◌∙◌, ap, arith}
use Rattle.std.specs.Prelude.{◌==◌, Option, None, Some, filter}
use Rattle.std.specs.List.{sum_by}
use Rattle.std.specs.declared.cmp.Ordering.{Ordering}
use Rattle.std.specs.declared.cmp.Ordering.TheVariants.{Less, Equal, Greater}
use Rattle.std.specs.Ordering.{nat_cmp, eq_by_cmp, is_eq}
use Rattle.std.specs.Cmp.{unsigned_tied, nat_cmp_total}
use Rattle.std.specs.FinMap as finite
use Rattle.std.specs.FinMap.Entries.{by_order}
use Rattle.std.proofs.lemmas.Bool.{cases_eq}
use Rattle.std.proofs.lemmas.Bool.Decides.{nat_tests}
use Rattle.std.proofs.lemmas.List.Sums.{sum_by-cons}
use Rattle.rom_model.specs.Chains.{times}
use Rattle.rom_model.proofs.Times.{times_here, times_away, times_more}

apart : (q k : ℕ) → q ≢ k → eq_by_cmp nat_cmp q k ≡ false
apart q k ne = let test : (q == k) ≡ false = grind (arith, nat_tests) in unsigned_tied q k ∙ test

alike : (q k : ℕ) → q ≡ k → eq_by_cmp nat_cmp q k ≡ true
alike q k e = let test : (q == k) ≡ true = grind (arith, nat_tests) in unsigned_tied q k ∙ test

module _ {V : Type 0} where
  -- the keys of a list of entries
  abbrev pub firsts : List (ℕ × V) → List ℕ
  firsts es = map (λ e. e.0) es

  -- the value of the first entry that has the key
  abbrev pub find : ℕ → List (ℕ × V) → Option V
  find q es = finite.find nat_cmp q es

  abbrev pub entries_map : List (ℕ × V) → finite.FinMap nat_cmp V
  entries_map es = finite.from_entries es

  -- a key that stands nowhere is not found
  pub find_absent : (q : ℕ) (es : List (ℕ × V)) → times q (firsts es) ≡ 0 → find q es ≡ None
  find_absent q [] none = refl
  find_absent q (e ∷ es) none = elim (cases_eq e.0 q) [
    | inl same ↦ absurd (omega (arith, none, times_here q (firsts es), ap (λ x. times q (x ∷ firsts es)) same))
    | inr other ↦ ap (λ b. cond b (Some e.1) (find q es)) (apart q e.0 (λ e. other (sym e))) ∙ find_absent q es (omega (arith, none, times_away q e.0 (firsts es) other))
  ]

  -- and one that stands somewhere is
  pub find_there : (q : ℕ) (es : List (ℕ × V)) → 0 < times q (firsts es) → find q es ≡ None → ⊥
  find_there q [] some none = absurd (omega (arith, some))
  find_there q (e ∷ es) some none = elim (cases_eq e.0 q) [
    | inl same ↦ absurd (let is : Some e.1 ≡ None = sym (ap (λ b. cond b (Some e.1) (find q es)) (alike q e.0 (sym same))) ∙ none in cc)
    | inr other ↦ find_there q es (omega (arith, some, times_away q e.0 (firsts es) other)) (sym (ap (λ b. cond b (Some e.1) (find q es)) (apart q e.0 (λ e. other (sym e)))) ∙ none)
  ]

  -- an entry before others, of which none has its key
  pub find_between : (xs ys : List (ℕ × V)) (k : ℕ) (v : V) (q : ℕ) → times k (firsts xs) ≡ 0 → find q (xs ++ (k, v) ∷ ys) ≡ cond (eq_by_cmp nat_cmp q k) (Some v) (find q (xs ++ ys))
  find_between [] ys k v q none = refl
  find_between (e ∷ xs) ys k v q none =
      let rest = find_between xs ys k v q (omega (arith, none, times_more k e.0 (firsts xs))) in
      let other : e.0 ≢ k = λ same. absurd (omega (arith, none, times_here k (firsts xs), ap (λ x. times k (x ∷ firsts xs)) same)) in
      ap (λ o. cond (eq_by_cmp nat_cmp q e.0) (Some e.1) o) rest ∙ elim (cases_eq q k) [
        | inl same ↦
            let here : eq_by_cmp nat_cmp q k ≡ true = alike q k same in
            let away : eq_by_cmp nat_cmp q e.0 ≡ false = apart q e.0 (λ is. other (sym is ∙ same)) in
            swapped (eq_by_cmp nat_cmp q e.0) (eq_by_cmp nat_cmp q k) (Some e.1) (Some v) (find q (xs ++ ys)) (inl away)
        | inr ne ↦ swapped (eq_by_cmp nat_cmp q e.0) (eq_by_cmp nat_cmp q k) (Some e.1) (Some v) (find q (xs ++ ys)) (inr (apart q k ne))
      ]
    where
      swapped : (a b : Bool) (x y z : Option V) → (a ≡ false) ⊎ (b ≡ false) → cond a x (cond b y z) ≡ cond b y (cond a x z)
      swapped true true x y z one = elim one [ inl e ↦ absurd (let f : false ≡ true = sym e in cc) | inr e ↦ absurd (let f : false ≡ true = sym e in cc) ]
      swapped true false x y z one = refl
      swapped false b x y z one = refl

  module _ (xs ys : List (ℕ × V)) (k : ℕ) (none : times k (firsts xs) ≡ 0) where
    at_key : (v : V) (q : ℕ) → finite.get (entries_map (xs ++ (k, v) ∷ ys)) q ≡ cond (eq_by_cmp nat_cmp q k) (Some v) (find q (xs ++ ys))
    at_key v q = finite.get-from_entries nat_cmp_total (xs ++ (k, v) ∷ ys) q ∙ find_between xs ys k v q none

    -- the key has the entry's value
    pub get_at : (v : V) → finite.get (entries_map (xs ++ (k, v) ∷ ys)) k ≡ Some v
    get_at v = at_key v k ∙ ap (λ b. cond b (Some v) (find k (xs ++ ys))) (alike k k refl)

    -- to put the entry between is to insert it
    pub insert_between : (v : V) → entries_map (xs ++ (k, v) ∷ ys) ≡ finite.insert (entries_map (xs ++ ys)) k v
    insert_between v = finite.same_map nat_cmp_total finite.nat_cmp-IsAntisymmetric _ _
        (λ q. at_key v q ∙ sym (finite.get-insert nat_cmp_total (entries_map (xs ++ ys)) k v q ∙ ap (λ o. cond (eq_by_cmp nat_cmp q k) (Some v) o) (finite.get-from_entries nat_cmp_total (xs ++ ys) q)))

    -- to give it another value is to insert that
    pub insert_again : (u v : V) → entries_map (xs ++ (k, v) ∷ ys) ≡ finite.insert (entries_map (xs ++ (k, u) ∷ ys)) k v
    insert_again u v = finite.same_map nat_cmp_total finite.nat_cmp-IsAntisymmetric _ _
        (λ q. at_key v q ∙ shadowed (eq_by_cmp nat_cmp q k) (Some v) (Some u) (find q (xs ++ ys)) ∙ sym (finite.get-insert nat_cmp_total (entries_map (xs ++ (k, u) ∷ ys)) k v q ∙ ap (λ o. cond (eq_by_cmp nat_cmp q k) (Some v) o) (at_key u q)))
      where
        shadowed : (b : Bool) (x y z : Option V) → cond b x z ≡ cond b x (cond b y z)
        shadowed true x y z = refl
        shadowed false x y z = refl

    -- to take it out is to remove it
    pub remove_between : (v : V) → times k (firsts (xs ++ ys)) ≡ 0 → entries_map (xs ++ ys) ≡ finite.remove (entries_map (xs ++ (k, v) ∷ ys)) k
    remove_between v rest = finite.same_map nat_cmp_total finite.nat_cmp-IsAntisymmetric _ _
        (λ q. finite.get-from_entries nat_cmp_total (xs ++ ys) q ∙ elim (cases_eq q k) [
          | inl same ↦ ap (λ x. find x (xs ++ ys)) same ∙ find_absent k (xs ++ ys) rest ∙ ap (λ b. cond b None (cond b (Some v) (find q (xs ++ ys)))) (sym (alike q k same))
          | inr other ↦ ap (λ b. cond b None (cond b (Some v) (find q (xs ++ ys)))) (sym (apart q k other))
        ] ∙ sym (finite.get-remove nat_cmp_total (entries_map (xs ++ (k, v) ∷ ys)) k q ∙ ap (λ o. cond (eq_by_cmp nat_cmp q k) None o) (at_key v q)))

  -- a key that stands nowhere has no value, and to remove it changes nothing
  pub get_absent : (es : List (ℕ × V)) (k : ℕ) → times k (firsts es) ≡ 0 → finite.get (entries_map es) k ≡ None
  get_absent es k none = finite.get-from_entries nat_cmp_total es k ∙ find_absent k es none

  pub remove_absent : (m : finite.FinMap nat_cmp V) (k : ℕ) → finite.get m k ≡ None → m ≡ finite.remove m k
  remove_absent m k none = finite.same_map nat_cmp_total finite.nat_cmp-IsAntisymmetric _ _
      (λ q. elim (cases_eq q k) [
        | inl same ↦ ap (λ x. finite.get m x) same ∙ none ∙ ap (λ b. cond b None (finite.get m q)) (sym (alike q k same))
        | inr other ↦ ap (λ b. cond b None (finite.get m q)) (sym (apart q k other))
      ] ∙ sym (finite.get-remove nat_cmp_total m k q))

  -- the sum of a number of each entry
  module _ (f : ℕ × V → ℕ) where
    sum_put : (k : ℕ) (v : V) (es : List (ℕ × V)) → find k es ≡ None → sum_by f (finite.put nat_cmp k v es) ≡ f (k, v) + sum_by f es
    sum_put k v [] none = sum_by-cons f (k, v) []
    sum_put k v (e ∷ es) none =
        elim (nat_cmp k e.0) as (λ (r : Ordering). cond (is_eq r) (Some e.1) (find k es) ≡ None → sum_by f (by_order r ((k, v) ∷ e ∷ es) ((e.0, v) ∷ es) (e ∷ finite.put nat_cmp k v es)) ≡ f (k, v) + sum_by f (e ∷ es)) [
          | Less ↦ λ gone. sum_by-cons f (k, v) (e ∷ es)
          | Equal ↦ λ gone. absurd (never e.1 gone)
          | Greater ↦ λ gone. let rest = sum_put k v es gone in let one = sum_by-cons f e (finite.put nat_cmp k v es) in let two = sum_by-cons f e es in omega (arith, rest, one, two)
        ] none
      where
        never : (x : V) → Some x ≡ None → ⊥
        never x e = cc

    no_entries : (es : List (ℕ × V)) → length es ≡ 0 → sum_by f es ≡ 0
    no_entries [] none = refl
    no_entries (e ∷ es) none = absurd (omega arith)

    pub sum_entries : (es : List (ℕ × V)) → ((k : ℕ) → times k (firsts es) ≤ 1) → sum_by f (finite.entries (entries_map es)) ≡ sum_by f es
    sum_entries [] once = no_entries (finite.entries (entries_map [])) (sym (finite.len-entries (entries_map [])) ∙ finite.len-empty nat_cmp V)
    sum_entries (e ∷ es) once =
        let m = entries_map es in
        let gone : find e.0 es ≡ None = find_absent e.0 es (omega (arith, once e.0, times_here e.0 (firsts es))) in
        let missing : find e.0 (finite.entries m) ≡ None = sym (finite.get-entries m e.0) ∙ finite.get-from_entries nat_cmp_total es e.0 ∙ gone in
        let rest = sum_entries es (λ k. omega (arith, once k, times_more k e.0 (firsts es))) in
        ap (sum_by f) (finite.entries-insert nat_cmp_total m e.0 e.1) ∙ sum_put e.0 e.1 (finite.entries m) missing ∙ ap (λ x. f e + x) rest ∙ sym (sum_by-cons f e es)

  -- how many keys pass a test
  pub count_keys : (p : ℕ → Bool) (es : List (ℕ × V)) → ((k : ℕ) → times k (firsts es) ≤ 1) → length (filter p (finite.keys (entries_map es))) ≡ sum_by (λ e. cond (p e.0) 1 0) es
  count_keys p es once = counted (finite.entries (entries_map es)) ∙ sum_entries (λ e. cond (p e.0) 1 0) es once
    where
      counted : (ds : List (ℕ × V)) → length (filter p (firsts ds)) ≡ sum_by (λ e. cond (p e.0) 1 0) ds
      counted [] = refl
      counted (d ∷ ds) = one (p d.0) ∙ ap (λ x. cond (p d.0) 1 0 + x) (counted ds) ∙ sym (sum_by-cons (λ e. cond (p e.0) 1 0) d ds)
        where
          one : (b : Bool) → length (cond b (d.0 ∷ filter p (firsts ds)) (filter p (firsts ds))) ≡ cond b 1 0 + length (filter p (firsts ds))
          one true = omega arith
          one false = omega arith
