-- The elements of a region fit, in their order, into a heap of the same order, and of each greater one.
use Rattle.std.proofs.Common.{◌≡◌, ℕ, ◌+◌, ◌-◌, ◌^◌, ◌≤◌, Bool, true, false, List, [], ◌∷◌, ◌++◌, map, length, refl, sym, ◌∙◌, ap, subst, arith}
use Rattle.std.specs.Prelude.{Some, sum, ◌==◌, if◌then◌else◌}
use Rattle.std.specs.List.{AllByRecursion, sum_by}
use Rattle.std.specs.FinMap as finite
use Rattle.std.proofs.lemmas.Bool.{eqb-true}
use Rattle.std.proofs.lemmas.List.Sums.{sum_by-cons, sum-map}
use Rattle.rom_model.specs.Blocks.{IsOrder}
use Rattle.rom_model.specs.Chains.{times}
use Rattle.rom_model.proofs.Members.{quarter_pow}
use Rattle.rom_model.proofs.Nodes.{pow_up}
use Rattle.rom_carry.proofs.Carrying.{all_append}
use Rattle.rom_bucket.specs.Buckets.{blocks_of_buckets, entries_of}
use Rattle.rom_bucket.proofs.Entries.{firsts, sum_entries}
use Rattle.rom_bucket.proofs.Keys.{once}
use Rattle.rom_blob_region.specs.State.{Blob, BlobState, body_units, units_in, units_of}
use Rattle.rom_blob_region.specs.Region.{blob_at, IsBlobs}
use Rattle.rom_blob_carry.specs.Elements.{Entry, elements_of, one_sized}
use Rattle.rom_blob_carry.specs.Packed.{ArePacked, NeverRise, bytes_units}
use Rattle.rom_blob_carry.proofs.Ordered.{elements_ordered, elements_sum, sized_of}
use Rattle.rom_blob_carry.proofs.Room.{units_fit}

-- the blocks of these have so many units, or no more than so many
abbrev AllOf : ℕ → List Entry → Type 0
AllOf u es = AllByRecursion (λ e. bytes_units e ≡ u) es

abbrev AllUpTo : ℕ → List Entry → Type 0
AllUpTo u es = AllByRecursion (λ e. bytes_units e ≤ u) es

up_to : (u v : ℕ) (es : List Entry) → u ≤ v → AllOf u es → AllUpTo v es
up_to u v [] le all = tt
up_to u v (e ∷ es) le all = (omega (arith, le, all.0), up_to u v es le all.1)

further : (u v : ℕ) (es : List Entry) → u ≤ v → AllUpTo u es → AllUpTo v es
further u v [] le all = tt
further u v (e ∷ es) le all = (omega (arith, le, all.0), further u v es le all.1)

-- those of one size, before others that have no larger blocks
falls : (u : ℕ) (xs ys : List Entry) → AllOf u xs → AllUpTo u ys → NeverRise ys → NeverRise (xs ++ ys)
falls u [] ys one two rest = rest
falls u (x ∷ xs) ys one two rest =
    let le : u ≤ bytes_units x = omega (arith, one.0) in
    (all_append (λ later. bytes_units later ≤ bytes_units x) xs ys (up_to u (bytes_units x) xs le one.1) (further u (bytes_units x) ys le two), falls u xs ys one.1 two rest)

sized_all : (u : ℕ) (es : List (ℕ × Blob)) → AllOf u (sized_of u es)
sized_all u [] = tt
sized_all u (e ∷ es) = all_append (λ x. bytes_units x ≡ u) (one_sized u e.0 (Some e.1)) (sized_of u es) (go (body_units (length e.1.bytes) == u) refl) (sized_all u es)
  where
    go : (t : Bool) → (body_units (length e.1.bytes) == u) ≡ t → AllOf u (if t then (e.0, e.1.bytes) ∷ [] else [])
    go true is = (eqb-true (body_units (length e.1.bytes)) u is, tt)
    go false is = tt

pub never_rise : (s : BlobState) → NeverRise (elements_of s)
never_rise s =
    let es = finite.entries s in
    let all : (u : ℕ) → AllOf u (sized_of u es) = λ u. sized_all u es in
    let none : List Entry = [] in
    let zero_on = falls 0 (sized_of 0 es) none (all 0) tt tt in
    let zero_all = all_append (λ e. bytes_units e ≤ 1) (sized_of 0 es) none (up_to 0 1 (sized_of 0 es) (omega arith) (all 0)) tt in
    let one_on = falls 1 (sized_of 1 es) (sized_of 0 es ++ []) (all 1) zero_all zero_on in
    let one_all = all_append (λ e. bytes_units e ≤ 2) (sized_of 1 es) (sized_of 0 es ++ []) (up_to 1 2 (sized_of 1 es) (omega arith) (all 1)) (further 1 2 (sized_of 0 es ++ []) (omega arith) zero_all) in
    let two_on = falls 2 (sized_of 2 es) (sized_of 1 es ++ (sized_of 0 es ++ [])) (all 2) one_all one_on in
    let two_all = all_append (λ e. bytes_units e ≤ 4) (sized_of 2 es) (sized_of 1 es ++ (sized_of 0 es ++ [])) (up_to 2 4 (sized_of 2 es) (omega arith) (all 2)) (further 2 4 (sized_of 1 es ++ (sized_of 0 es ++ [])) (omega arith) one_all) in
    let four_on = falls 4 (sized_of 4 es) (sized_of 2 es ++ (sized_of 1 es ++ (sized_of 0 es ++ []))) (all 4) two_all two_on in
    let four_all = all_append (λ e. bytes_units e ≤ 8) (sized_of 4 es) (sized_of 2 es ++ (sized_of 1 es ++ (sized_of 0 es ++ []))) (up_to 4 8 (sized_of 4 es) (omega arith) (all 4)) (further 4 8 (sized_of 2 es ++ (sized_of 1 es ++ (sized_of 0 es ++ []))) (omega arith) two_all) in
    subst (λ xs. NeverRise xs) (sym (elements_ordered s)) (falls 8 (sized_of 8 es) (sized_of 4 es ++ (sized_of 2 es ++ (sized_of 1 es ++ (sized_of 0 es ++ [])))) (all 8) four_all four_on)

-- how often a key stands in entries
times_sum : {V : Type 0} (q : ℕ) (es : List (ℕ × V)) → times q (map (λ e. e.0) es) ≡ sum_by (λ e. if e.0 == q then 1 else 0) es
times_sum q [] = refl
times_sum q (e ∷ es) = ap (λ m. (if e.0 == q then 1 else 0) + m) (times_sum q es) ∙ sym (sum_by-cons (λ e. if e.0 == q then 1 else 0) e es)

-- as many entries as their sum at least, where each counts
at_least : (g : Entry → ℕ) → ((e : Entry) → 1 ≤ g e) → (es : List Entry) → length es ≤ sum_by g es
at_least g some [] = omega arith
at_least g some (e ∷ es) = omega (arith, some e, at_least g some es, sum_by-cons g e es)

pub elements_units : (s : BlobState) → sum (map (λ e. 1 + bytes_units e) (elements_of s)) ≡ units_in s
elements_units s = sum-map (λ e. 1 + bytes_units e) (elements_of s) ∙ elements_sum (λ e. 1 + bytes_units e) s ∙ sym (sum-map (λ e. units_of e.1) (finite.entries s))

module _ {n : ℕ} {w : List ℕ} {f : ℕ → List ℕ} {s : BlobState} {k : ℕ} (is : IsBlobs n w f s k) where
  -- no key stands twice
  pub entries_once : (q : ℕ) → times q (firsts (finite.entries s)) ≤ 1
  entries_once q =
      let each : ℕ × Blob → ℕ = λ e. if e.0 == q then 1 else 0 in
      let es = entries_of n w (blob_at n w) (blocks_of_buckets n f) in
      let same = times_sum q (finite.entries s) ∙ ap (λ (m : BlobState). sum_by each (finite.entries m)) (sym is.state_is) ∙ sum_entries each es (once is.keys (blob_at n w)) ∙ sym (times_sum q es) in
      omega (arith, same, once is.keys (blob_at n w) q)

  elements_once : (q : ℕ) → times q (map (λ e. e.0) (elements_of s)) ≤ 1
  elements_once q = omega (arith, times_sum q (elements_of s) ∙ elements_sum (λ e. if e.0 == q then 1 else 0) s ∙ sym (times_sum q (finite.entries s)), entries_once q)

  room : (greater : ℕ) → n ≤ greater → 2 ^ (greater - 4) + units_in s ≤ 2 ^ greater
  room greater le =
      let e : n - 4 + (greater - n) ≡ greater - 4 = omega (arith, le, is.order.least) in
      let more : 2 ^ (n - 4) ≤ 2 ^ (greater - 4) = subst (λ d. 2 ^ (n - 4) ≤ 2 ^ d) e (pow_up (n - 4) (greater - n)) in
      omega (arith, units_fit is, more, quarter_pow n is.order.least, quarter_pow greater (omega (arith, le, is.order.least)))

  pub elements_packed : (greater : ℕ) → n ≤ greater → IsOrder greater → ArePacked greater (elements_of s)
  elements_packed greater le order = record {
    order = order;
    once = elements_once;
    falling = never_rise s;
    room = omega (arith, room greater le, elements_units s);
  }

  -- there are no more than 61,440
  pub elements_few : length (elements_of s) ≤ 61440
  elements_few =
      let many = at_least (λ e. 1 + bytes_units e) (λ e. omega arith) (elements_of s) in
      let total : sum_by (λ e. 1 + bytes_units e) (elements_of s) ≡ units_in s = sym (sum-map (λ e. 1 + bytes_units e) (elements_of s)) ∙ elements_units s in
      let sixteen : 16 - 4 ≡ 12 = omega arith in
      omega (arith, many, total, room 16 is.order.most)
