-- The blocks of a state stand where blocks of their orders stand, and each update leaves them so.
use Rattle.std.proofs.Common.{◌≡◌, ◌≢◌, inl, inr, ℕ, zero, suc, ◌+◌, ◌-◌, ◌^◌, ◌<◌, ◌≤◌, Bool, true, false, cond, List, [], ◌∷◌, length, refl, sym, ◌∙◌, ap, subst, arith}
use Rattle.std.specs.Prelude.{Option, Some, None, not, option_map, is_some, if◌then◌else◌, ◌==◌, ◌&&◌}
use Rattle.std.specs.List.{AllByRecursion}
use Rattle.std.specs.declared.cmp.Ordering.{Ordering}
use Rattle.std.specs.declared.cmp.Ordering.TheVariants.{Less, Equal, Greater}
use Rattle.std.specs.Ordering.{nat_cmp, eq_by_cmp}
use Rattle.std.specs.Cmp.{unsigned_tied, nat_cmp_total}
use Rattle.std.specs.FinMap as finite
use Rattle.std.specs.FinMap.Entries.{by_order, find-where_key, where_key}
use Rattle.std.proofs.lemmas.Bool.{cases_eq, eqb-true}
use Rattle.std.proofs.lemmas.Bool.Decides.{nat_tests}
use Rattle.rom_model.specs.Blocks.{IsNode}
use Rattle.rom_model.specs.Chains.{times}
use Rattle.rom_model.proofs.Times.{times_here, times_more}
use Rattle.rom_bucket.specs.Buckets.{blocks_of_buckets, entries_of}
use Rattle.rom_blob_region.specs.Packed.{long_at}
use Rattle.rom_blob_region.specs.State.{Blob, BlobState, order_for, blocks_taken, taking_some, first_number_where, lowest, is_free, new_body, next_body, set_node, set_new, set_again, set_blob, cut_blob, blob_step}
use Rattle.rom_blob_region.specs.declared.call.BlobCall.{BlobCall}
use Rattle.rom_blob_region.specs.declared.call.BlobCall.TheVariants.{Set, Cut}
use Rattle.rom_blob_region.specs.Region.{len_at, data_at, blob_at, IsBlob, BlobContents}
use Rattle.rom_blob_region.proofs.Places.{no_body, some_body}

-- The blocks of a key: a unit, and where there are bytes a block of the order that they want.
pub record IsInRange (n : ℕ) (blob : Blob) : Type 0 where
  pub node : IsNode n blob.node
  pub some : (x : ℕ) → blob.body ≡ Some x → length blob.bytes ≢ 0
  pub body : (x : ℕ) → blob.body ≡ Some x → IsNode (n - order_for (length blob.bytes)) x

-- those of these keys
abbrev pub AllInRange : ℕ → List (ℕ × Blob) → Type 0
AllInRange n es = AllByRecursion (λ e. IsInRange n e.1) es

-- and those of a state
abbrev pub IsRanged : ℕ → BlobState → Type 0
IsRanged n s = AllInRange n (finite.entries s)

some_same : {A : Type 0} (a b : A) → Some a ≡ Some b → a ≡ b
some_same a b is = cc

-- what is found stands in the range
pub in_range : (test : ℕ → Bool) (many at x : ℕ) → first_number_where test at many ≡ Some x → (at ≤ x) × (x < at + many)
in_range test zero at x is = absurd (let never : None ≡ Some x = is in cc)
in_range test (suc many) at x is = go (test at) (λ rest. in_range test many (at + 1) x rest) is
  where
    go : (b : Bool) → (first_number_where test (at + 1) many ≡ Some x → (at + 1 ≤ x) × (x < at + 1 + many)) → (if b then Some at else first_number_where test (at + 1) many) ≡ Some x → (at ≤ x) × (x < at + suc many)
    go true rest here = let same : at ≡ x = some_same at x here in (omega (arith, same), omega (arith, same))
    go false rest there = let both = rest there in (omega (arith, both), omega (arith, both))

-- so the lowest block is one of its order
pub lowest_node : (n order x : ℕ) (blocks : ℕ → Bool) → lowest n blocks order ≡ Some x → IsNode (n - order) x
lowest_node n order x blocks found =
    let range = in_range (is_free n blocks order) (2 ^ (n - order)) (2 ^ (n - order)) x found in
    record { least = range.0; most = omega (arith, range.1) }

module _ (n : ℕ) where
  -- with one entry more, or another value of its key
  put_ranged : (key : ℕ) (blob : Blob) (es : List (ℕ × Blob)) → IsInRange n blob → AllInRange n es → AllInRange n (finite.put nat_cmp key blob es)
  put_ranged key blob [] is all = (is, tt)
  put_ranged key blob (e ∷ es) is all =
      elim (nat_cmp key e.0) as (λ (r : Ordering). AllInRange n (by_order r ((key, blob) ∷ e ∷ es) ((e.0, blob) ∷ es) (e ∷ finite.put nat_cmp key blob es))) [
        | Less ↦ (is, all)
        | Equal ↦ (is, all.1)
        | Greater ↦ (all.0, put_ranged key blob es is all.1)
      ]

  insert_ranged : (s : BlobState) (key : ℕ) (blob : Blob) → IsInRange n blob → IsRanged n s → IsRanged n (finite.insert s key blob)
  insert_ranged s key blob is all = subst (λ es. AllInRange n es) (sym (finite.entries-insert nat_cmp_total s key blob)) (put_ranged key blob (finite.entries s) is all)

  none_ranged : (es : List (ℕ × Blob)) → length es ≡ 0 → AllInRange n es
  none_ranged [] none = tt
  none_ranged (e ∷ es) none = absurd (omega arith)

  -- the state of a list of entries
  pub map_ranged : (es : List (ℕ × Blob)) → AllInRange n es → IsRanged n (finite.from_entries es)
  map_ranged [] all = none_ranged (finite.entries (finite.from_entries [])) (sym (finite.len-entries (finite.from_entries [])) ∙ finite.len-empty nat_cmp Blob)
  map_ranged (e ∷ es) all = insert_ranged (finite.from_entries es) e.0 e.1 all.0 (map_ranged es all.1)

  where_ranged : (p : ℕ → Bool) (es : List (ℕ × Blob)) → AllInRange n es → AllInRange n (where_key nat_cmp p es)
  where_ranged p [] all = tt
  where_ranged p (e ∷ es) all = go (p e.0) (where_ranged p es all.1)
    where
      go : (b : Bool) → AllInRange n (where_key nat_cmp p es) → AllInRange n (cond b (e ∷ where_key nat_cmp p es) (where_key nat_cmp p es))
      go true rest = (all.0, rest)
      go false rest = rest

  -- without a key
  remove_ranged : (s : BlobState) (key : ℕ) → IsRanged n s → IsRanged n (finite.remove s key)
  remove_ranged s key all = subst (λ (m : BlobState). IsRanged n m) (sym same) (map_ranged (where_key nat_cmp other (finite.entries s)) (where_ranged other (finite.entries s) all))
    where
      other : ℕ → Bool
      other k = not (eq_by_cmp nat_cmp key k)

      turned : (q : ℕ) → eq_by_cmp nat_cmp q key ≡ eq_by_cmp nat_cmp key q
      turned q = let e : (q == key) ≡ (key == q) = grind (arith, nat_tests) in unsigned_tied q key ∙ e ∙ sym (unsigned_tied key q)

      picked : (b : Bool) (x : Option Blob) → cond b None x ≡ cond (not b) x None
      picked true x = refl
      picked false x = refl

      same : finite.remove s key ≡ finite.from_entries (where_key nat_cmp other (finite.entries s))
      same = finite.same_map nat_cmp_total finite.nat_cmp-IsAntisymmetric _ _ (λ q.
          finite.get-remove nat_cmp_total s key q
          ∙ ap (λ b. cond b None (finite.get s q)) (turned q)
          ∙ picked (eq_by_cmp nat_cmp key q) (finite.get s q)
          ∙ ap (λ (x : Option Blob). cond (other q) x None) (finite.get-entries s q)
          ∙ sym (find-where_key nat_cmp other q (λ x tied. ap other (sym (finite.nat_cmp-IsAntisymmetric q x tied))) (finite.entries s))
          ∙ sym (finite.get-from_entries nat_cmp_total (where_key nat_cmp other (finite.entries s)) q))

  -- what a key has
  get_ranged : (s : BlobState) (key : ℕ) (blob : Blob) → IsRanged n s → finite.get s key ≡ Some blob → IsInRange n blob
  get_ranged s key blob all there = go (finite.entries s) all (sym (finite.get-entries s key) ∙ there)
    where
      go : (es : List (ℕ × Blob)) → AllInRange n es → finite.find nat_cmp key es ≡ Some blob → IsInRange n blob
      go [] none found = absurd (let never : None ≡ Some blob = found in cc)
      go (e ∷ es) some found = pick (eq_by_cmp nat_cmp key e.0) (go es some.1) found
        where
          pick : (b : Bool) → (finite.find nat_cmp key es ≡ Some blob → IsInRange n blob) → cond b (Some e.1) (finite.find nat_cmp key es) ≡ Some blob → IsInRange n blob
          pick true rest here = subst (λ (x : Blob). IsInRange n x) (some_same e.1 blob here) some.0
          pick false rest there = rest there

  -- where new bytes go
  new_ranged : (node : ℕ) (blocks : ℕ → Bool) (bytes : List ℕ) (body : Option ℕ) → IsNode n node → new_body n blocks bytes ≡ Some body → IsInRange n record { bytes = bytes; node = node; body = body }
  new_ranged node blocks [] body is chosen =
      let none : None ≡ body = some_same None body chosen in
      record {
        node = is;
        some = λ x at. absurd (let never : None ≡ Some x = none ∙ at in cc);
        body = λ x at. absurd (let never : None ≡ Some x = none ∙ at in cc);
      }
  new_ranged node blocks (b ∷ bytes) body is chosen = go (lowest n blocks (order_for (length (b ∷ bytes)))) refl chosen
    where
      go : (found : Option ℕ) → lowest n blocks (order_for (length (b ∷ bytes))) ≡ found → option_map Some found ≡ Some body → IsInRange n record { bytes = b ∷ bytes; node = node; body = body }
      go None gone told = absurd (let never : None ≡ Some body = told in cc)
      go (Some y) found told = record {
        node = is;
        some = λ x at none. omega (arith, none);
        body = λ x at.
            let same : Some y ≡ Some x = some_same (Some y) body told ∙ at in
            subst (λ z. IsNode (n - order_for (length (b ∷ bytes))) z) (some_same y x same) (lowest_node n (order_for (length (b ∷ bytes))) y blocks found);
      }

  -- and where the bytes go of a key that had some
  next_ranged : (blocks : ℕ → Bool) (was : Blob) (bytes : List ℕ) (body : Option ℕ) → IsInRange n was → next_body n blocks was bytes ≡ Some body → IsInRange n record { bytes = bytes; node = was.node; body = body }
  next_ranged blocks was [] body is chosen = new_ranged was.node blocks [] body is.node chosen
  next_ranged blocks was (b ∷ bytes) body is chosen = go (is_some was.body) (order_for (length was.bytes) == order_for (length (b ∷ bytes))) refl chosen
    where
      stays : order_for (length was.bytes) ≡ order_for (length (b ∷ bytes)) → Some was.body ≡ Some body → IsInRange n record { bytes = b ∷ bytes; node = was.node; body = body }
      stays order told = record {
        node = is.node;
        some = λ x at none. omega (arith, none);
        body = λ x at. subst (λ j. IsNode (n - j) x) order (is.body x (some_same was.body body told ∙ at));
      }

      go : (t u : Bool) → (order_for (length was.bytes) == order_for (length (b ∷ bytes))) ≡ u → (if t && u then Some was.body else option_map Some (lowest n blocks (order_for (length (b ∷ bytes))))) ≡ Some body → IsInRange n record { bytes = b ∷ bytes; node = was.node; body = body }
      go true true order told = stays (eqb-true (order_for (length was.bytes)) (order_for (length (b ∷ bytes))) order) told
      go true false order told = new_ranged was.node blocks (b ∷ bytes) body is.node told
      go false u order told = new_ranged was.node blocks (b ∷ bytes) body is.node told

  set_new_ranged : (s : BlobState) (key : ℕ) (bytes : List ℕ) → IsRanged n s → IsRanged n (set_new n s key bytes (new_body n (blocks_taken s) bytes)).0
  set_new_ranged s key bytes all = by_body (new_body n (blocks_taken s) bytes) refl
    where
      by_node : (body : Option ℕ) → new_body n (blocks_taken s) bytes ≡ Some body → (unit : Option ℕ) → lowest n (taking_some body (blocks_taken s)) 0 ≡ unit → IsRanged n (set_node s key bytes body unit).0
      by_node body chosen None none = all
      by_node body chosen (Some x) found =
          let e : n - 0 ≡ n = omega arith in
          let node : IsNode n x = subst (λ d. IsNode d x) e (lowest_node n 0 x (taking_some body (blocks_taken s)) found) in
          insert_ranged s key record { bytes = bytes; node = x; body = body } (new_ranged x (blocks_taken s) bytes body node chosen) all

      by_body : (body : Option (Option ℕ)) → new_body n (blocks_taken s) bytes ≡ body → IsRanged n (set_new n s key bytes body).0
      by_body None none = all
      by_body (Some body) chosen = by_node body chosen (lowest n (taking_some body (blocks_taken s)) 0) refl

  set_again_ranged : (s : BlobState) (key : ℕ) (bytes : List ℕ) (was : Blob) → IsInRange n was → IsRanged n s → IsRanged n (set_again s key bytes was (next_body n (blocks_taken s) was bytes)).0
  set_again_ranged s key bytes was is all = by_body (next_body n (blocks_taken s) was bytes) refl
    where
      by_body : (body : Option (Option ℕ)) → next_body n (blocks_taken s) was bytes ≡ body → IsRanged n (set_again s key bytes was body).0
      by_body None none = all
      by_body (Some body) chosen = insert_ranged s key record { bytes = bytes; node = was.node; body = body } (next_ranged (blocks_taken s) was bytes body is chosen) all

  cut_ranged : (s : BlobState) (key : ℕ) (was : Option Blob) → IsRanged n s → IsRanged n (cut_blob s key was).0
  cut_ranged s key None all = all
  cut_ranged s key (Some was) all = remove_ranged s key all

  set_ranged : (s : BlobState) (key : ℕ) (bytes : List ℕ) (was : Option Blob) → finite.get s key ≡ was → IsRanged n s → IsRanged n (set_blob n s key bytes was).0
  set_ranged s key bytes None gone all = set_new_ranged s key bytes all
  set_ranged s key bytes (Some was) there all = set_again_ranged s key bytes was (get_ranged s key was all there) all

  -- each call leaves them so
  pub step_ranged : (s : BlobState) (count : ℕ) (call : BlobCall) → IsRanged n s → IsRanged n (blob_step n s count call).0
  step_ranged s count (Set key bytes) all = set_ranged s key bytes (finite.get s key) refl all
  step_ranged s count (Cut key) all = cut_ranged s key (finite.get s key) all

-- and so are those of each state that a region stands for
module _ {n : ℕ} {w : List ℕ} where
  blob_ranged : 4 ≤ n → (b : ℕ) → b < 2 ^ n → IsBlob n w b → IsInRange n (blob_at n w b)
  blob_ranged le b lt is = elim (cases_eq (len_at n w b) 0) [
    | inl none ↦ record {
      node = record { least = omega arith; most = omega (arith, lt) };
      some = λ x at. absurd (let never : None ≡ Some x = sym (no_body n w b none) ∙ at in cc);
      body = λ x at. absurd (let never : None ≡ Some x = sym (no_body n w b none) ∙ at in cc);
    }
    | inr some ↦
        let long : length (blob_at n w b).bytes ≡ len_at n w b = long_at w (data_at n w b) (len_at n w b) in
        let y = is.block some in
        let its : (blob_at n w b).body ≡ Some y.0 = some_body n w b le y.0 some y.1 y.2 in
        record {
          node = record { least = omega arith; most = omega (arith, lt) };
          some = λ x at none. some (sym long ∙ none);
          body = λ x at.
              let same : y.0 ≡ x = some_same y.0 x (sym its ∙ at) in
              subst (λ m. IsNode (n - order_for m) x) (sym long) (subst (λ z. IsNode (n - order_for (len_at n w b)) z) same y.1);
        }
  ]

  entries_ranged : 4 ≤ n → (us : List ℕ) → ((b : ℕ) → 0 < times b us → IsBlob n w b × (b < 2 ^ n)) → AllInRange n (entries_of n w (blob_at n w) us)
  entries_ranged le [] all = tt
  entries_ranged le (u ∷ us) all =
      let here = all u (omega (arith, times_here u us)) in
      (blob_ranged le u here.1 here.0, entries_ranged le us (λ b some. all b (omega (arith, some, times_more b u us))))

  pub contents_ranged : {s : BlobState} {k : ℕ} → BlobContents n w s k → IsRanged n s
  contents_ranged {s} {k} held =
      let is = held.1 in
      subst (λ (m : BlobState). IsRanged n m) is.state_is
      (map_ranged n (entries_of n w (blob_at n w) (blocks_of_buckets n held.0)) (entries_ranged is.order.least (blocks_of_buckets n held.0) (λ b some. (is.blobs b some, (is.keys.within b some).1))))
