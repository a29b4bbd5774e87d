-- What is known of a node that was reached with its bytes, and what makes it come to itself.
use Rattle.std.proofs.Common.{◌≡◌, ◌≢◌, inl, inr, ⊎_elim, ℕ, ◌+◌, ◌-◌, ◌/◌, ◌^◌, ◌<◌, ◌≤◌, List, [], ◌∷◌, ◌++◌, sym, subst, arith}
use Rattle.std.specs.Prelude.{Ok, Option, slice_index}
use Rattle.std.proofs.lemmas.Bool.{cases_eq, eqb-true}
use Rattle.rom_model.specs.Blocks.{IsNode, block_of, block_at}
use Rattle.rom_model.specs.Chains.{times}
use Rattle.rom_model.specs.declared.unfit.Rule.TheVariants.{Link}
use Rattle.rom_model.specs.Tests.{is_word}
use Rattle.rom_model.proofs.Times.{times-append}
use Rattle.rom_model.proofs.InTurn.{passed, passing}
use Rattle.rom_model.proofs.Holding.{all_hold, word_holds}
use Rattle.rom_blob_region.specs.Bytes.{EndsInZeros}
use Rattle.rom_blob_region.specs.State.{order_for, some_block}
use Rattle.rom_blob_region.specs.Region.{len_at, data_at, blob_at, IsBlob, AreBlobsApart}
use Rattle.rom_blob_region.proofs.Places.{order_small, no_body, some_body}
use Rattle.rom_blob_region.specs.Tests.{end_tests}
use Rattle.rom_blob_region.specs.Walks.{LeadsToBlob, Body, held, next_blob_link, Node}
use Rattle.rom_blob_region.proofs.Holding.{HoldsKey, key_held, key_holds, end_held, end_holds}
use Rattle.rom_blob_region.proofs.Blocks.{apart_less, apart_next, clear_first, unit_node}

-- the bytes of a node, which came to `found`
pub record HoldsBody (n : ℕ) (w blocks : List ℕ) (b found : ℕ) : Type 0 where
  pub same : found ≡ b
  pub bare : len_at n w b ≡ 0 → data_at n w b ≡ 0
  pub block : len_at n w b ≢ 0 → (x : ℕ) × IsNode (n - order_for (len_at n w b)) x × (data_at n w b ≡ block_at n (order_for (len_at n w b)) x)
  pub ends : len_at n w b ≢ 0 → EndsInZeros w (data_at n w b) (len_at n w b)
  pub apart : AreBlobsApart n blocks → AreBlobsApart n (some_block (blob_at n w b).body ++ blocks)

module _ (n : ℕ) (w : List ℕ) (le : 4 ≤ n) (blocks : List ℕ) (b : ℕ) where
  abbrev len : ℕ
  len = len_at n w b

  abbrev order : ℕ
  order = order_for (len_at n w b)

  within : order ≤ n
  within = omega (arith, le, order_small len)

  pub body_held : (found : ℕ) → Body n w blocks b (Ok found) → HoldsBody n w blocks b found
  body_held found is = ⊎_elim
      (λ none.
      let t = is_word w (block_of n b + 3) Link 0 in
      let p = passed (t ∷ []) b found (sym none.1) in
      record {
        same = p.same;
        bare = λ e. eqb-true (slice_index w (block_of n b + 3)) 0 (all_hold t [] tt tt p.all).here;
        block = λ some. absurd (some none.0);
        ends = λ some. absurd (some none.0);
        apart = λ are. subst (λ (o : Option ℕ). AreBlobsApart n (some_block o ++ blocks)) (sym (no_body n w b none.0)) are;
      })
      (λ some.
      let x = some.1.0 in
      let leads : LeadsToBlob n w blocks (block_of n b + 3) order x = some.1.1 in
      let p = passed (end_tests n w b) b found (sym some.1.2) in
      record {
        same = p.same;
        bare = λ none. absurd (some.0 none);
        block = λ e. (x, leads.node, leads.here);
        ends = λ e. end_held n w b p.all;
        apart = λ are. subst (λ (o : Option ℕ). AreBlobsApart n (some_block o ++ blocks)) (sym (some_body n w b le x some.0 leads.node leads.here)) (apart_next n order x blocks within leads.node leads.clear are);
      })
      is

  pub body_holds : IsBlob n w b → slice_index w (data_at n w b + len_at n w b / 8) < 2 ^ 64 → AreBlobsApart n (some_block (blob_at n w b).body ++ blocks) → Body n w blocks b (Ok b)
  body_holds is small apart = elim (cases_eq (len_at n w b) 0) [
    | inl none ↦ inl (none, sym (word_holds w (block_of n b + 3) Link 0 [] b (is.bare none)))
    | inr some ↦
        let x = is.block some in
        let one : AreBlobsApart n (x.0 ∷ blocks) = subst (λ (o : Option ℕ). AreBlobsApart n (some_block o ++ blocks)) (some_body n w b le x.0 some x.1 x.2) apart in
        let leads : LeadsToBlob n w blocks (block_of n b + 3) order x.0 = record { here = x.2; node = x.1; clear = clear_first n order x.0 blocks one } in
        inr (some, (x.0, leads, sym (passing (end_tests n w b) b (end_holds n w b small (is.ends some)))))
  ]

-- a node that was reached behind others
pub record Fits (n : ℕ) (w : List ℕ) (i : ℕ) (seen before : List ℕ) (b : ℕ) : Type 0 where
  pub leads : LeadsToBlob n w (held n w (before ++ seen)) (next_blob_link n i before) 0 (2 ^ n + b)
  pub key : HoldsKey n w i before b
  pub blob : IsBlob n w b
  pub apart : AreBlobsApart n (held n w (before ++ seen)) → AreBlobsApart n (held n w (b ∷ before ++ seen))

module _ (n : ℕ) (w : List ℕ) (le : 4 ≤ n) (i : ℕ) (seen before : List ℕ) where
  pub node_fits : (b : ℕ) → Node n w i seen before (Ok b) → Fits n w i seen before b
  node_fits b on =
      let c = on.0 in
      let xs = held n w (before ++ seen) in
      let leads : LeadsToBlob n w xs (next_blob_link n i before) 0 (2 ^ n + c) = on.1 in
      let key = key_held n w i before c (sym on.2.1) in
      let body = body_held n w le ((2 ^ n + c) ∷ xs) c b on.2.2 in
      subst (λ (d : ℕ). Fits n w i seen before d) (sym body.same) record {
        leads = leads;
        key = key;
        blob = record { few = key.few; bare = body.bare; block = body.block; ends = body.ends };
        apart = λ are.
            let more = body.apart (apart_next n 0 (2 ^ n + c) xs (omega arith) leads.node leads.clear are) in
            apart_less n (some_block (blob_at n w c).body ++ (2 ^ n + c) ∷ xs) (held n w (c ∷ before ++ seen))
            (λ x. omega (arith, times-append x (some_block (blob_at n w c).body) ((2 ^ n + c) ∷ xs), times-append x (some_block (blob_at n w c).body) xs)) more;
      }

  pub fits_node : (b : ℕ) → slice_index w (next_blob_link n i before) ≡ block_of n b → b < 2 ^ n → HoldsKey n w i before b → IsBlob n w b → slice_index w (data_at n w b + len_at n w b / 8) < 2 ^ 64 → AreBlobsApart n (held n w (b ∷ before ++ seen)) → Node n w i seen before (Ok b)
  fits_node b here most key is small apart =
      let xs = held n w (before ++ seen) in
      let body = some_block (blob_at n w b).body in
      let counts : (x : ℕ) → times x (body ++ (2 ^ n + b) ∷ xs) ≡ times x (held n w (b ∷ before ++ seen)) = (λ x. omega (arith, times-append x body ((2 ^ n + b) ∷ xs), times-append x body xs)) in
      let one : AreBlobsApart n ((2 ^ n + b) ∷ xs) = apart_less n (held n w (b ∷ before ++ seen)) ((2 ^ n + b) ∷ xs) (λ x. omega (arith, counts x, times-append x body ((2 ^ n + b) ∷ xs))) apart in
      let both : AreBlobsApart n (body ++ (2 ^ n + b) ∷ xs) = apart_less n (held n w (b ∷ before ++ seen)) (body ++ (2 ^ n + b) ∷ xs) (λ x. omega (arith, counts x)) apart in
      let leads : LeadsToBlob n w xs (next_blob_link n i before) 0 (2 ^ n + b) = record {
        here = (let e : slice_index w (next_blob_link n i before) ≡ block_at n 0 (2 ^ n + b) = omega (arith, here) in e);
        node = unit_node n b most;
        clear = clear_first n 0 (2 ^ n + b) xs one;
      } in
      (b, leads, (tt, sym (key_holds n w i before b key), body_holds n w le ((2 ^ n + b) ∷ xs) b is small both))
