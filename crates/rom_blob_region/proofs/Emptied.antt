-- The region of a new heap.
use Rattle.std.proofs.Common.{◌≡◌, ◌≢◌, inl, inr, ℕ, zero, suc, ◌+◌, ◌-◌, ◌*◌, ◌^◌, ◌<◌, ◌≤◌, true, false, List, [], ◌++◌, length, refl, sym, ◌∙◌, ap, subst, arith}
use Rattle.std.specs.Prelude.{slice_index, Option, None, Some, MatchOption}
use Rattle.std.specs.FinMap as finite
use Rattle.std.proofs.lemmas.Bool.{cases_eq, cases_lt}
use Rattle.rom_model.specs.Space.{ChangesOnly}
use Rattle.rom_model.specs.Blocks.{IsOrder, IsNode, IsDisjoint, IsLowest, NoneFree, AreWords, nothing, taking, up, block_of, region_len}
use Rattle.rom_model.specs.Chains.{times}
use Rattle.rom_model.specs.Region.{buckets, all_of}
use Rattle.rom_model.proofs.Nodes.{pow_positive, up_least}
use Rattle.rom_model.proofs.Members.{words_same}
use Rattle.rom_model.proofs.Room.{tree_stays}
use Rattle.rom_block.specs.Taken.{Takes}
use Rattle.rom_bucket.specs.Buckets.{entries_of}
use Rattle.rom_blob_region.specs.State.{no_blobs, taken_with}
use Rattle.rom_blob_region.specs.Region.{blob_at, held_by, AreBlobsApart, BlobContents}
use Rattle.rom_blob_region.proofs.Held.{taken_none}
use Rattle.rom_blob_region.specs.Fresh.{IsFreshBlobRoot}

pub nothing_disjoint : (n : ℕ) → IsDisjoint n nothing
nothing_disjoint n = record { nodes = λ i is. absurd (let same : false ≡ true = is in cc); apart = λ i k is. refl }

table_is_node : IsNode 4 16
table_is_node = record { least = omega arith; most = omega arith }

-- where nothing is taken, the first free block of the bucket table's order is node 16
pub table_node : (n x : ℕ) → 4 ≤ n → IsLowest n nothing (n - 4) x → x ≡ 16
table_node n x le lowest =
    let deep : 4 + (n - 4) ≡ n = omega arith in
    let least = (lowest.node 4 deep).least in
    let most = lowest.first 4 16 deep table_is_node (λ u k unit over. refl) in
    omega (arith, least, most)

pub table_free : (n : ℕ) → 4 ≤ n → NoneFree n nothing (n - 4) → ⊥
table_free n le none = none 4 16 (omega arith) table_is_node (λ u k unit over. refl)

-- what a take of that order does to such a tree
pub table_taken : (n : ℕ) (w : List ℕ) (result : Option ℕ) → 4 ≤ n → MatchOption result (NoneFree n nothing (n - 4)) (Takes n (n - 4) nothing w) → AreWords n (taking 16 nothing) w
table_taken n w None le none = absurd (table_free n le none)
table_taken n w (Some at) le takes = subst (λ x. AreWords n (taking x nothing) w) (table_node n takes.node le takes.lowest) takes.words_are

-- without elements there is no block
all_empty : (m : ℕ) → all_of (λ i. []) m ≡ []
all_empty zero = refl
all_empty (suc m) = ap (λ bs. bs ++ []) (all_empty m)

no_members : (n : ℕ) → all_of (λ i. []) (buckets n) ≡ []
no_members n = all_empty (buckets n)

-- what the stores of a format leave
pub record Formatted (n : ℕ) (w : List ℕ) : Type 0 where
  pub order : IsOrder n
  pub sized : length w ≡ region_len n
  pub kind : slice_index w 0 ≡ 2
  pub version : slice_index w 1 ≡ 1
  pub table : slice_index w 8 ≡ block_of n 0
  pub zeros : (k : ℕ) → k ≤ 16 → k ≢ 0 → k ≢ 1 → k ≢ 8 → slice_index w k ≡ 0
  pub heads : (i : ℕ) → i < buckets n → slice_index w (block_of n 0 + i) ≡ 0
  pub tree : AreWords n (taking 16 nothing) w

pub emptied : (n : ℕ) (w : List ℕ) → Formatted n w → BlobContents n w no_blobs 0
emptied n w is = (
  λ i. [],
  record {
    order = is.order;
    as_long = is.sized;
    root = record {
      kind = is.kind;
      version = is.version;
      count_is = is.zeros 2 (omega arith) (omega arith) (omega arith) (omega arith);
      count_fits = omega arith;
      table = is.table;
      low_zeros = λ k lo hi. is.zeros k (omega (arith, hi)) (λ e. absurd (omega (arith, e, lo))) (λ e. absurd (omega (arith, e, lo))) (λ e. absurd (omega (arith, e, hi)));
      high_zeros = λ k lo hi. is.zeros k hi (λ e. absurd (omega (arith, e, lo))) (λ e. absurd (omega (arith, e, lo))) (λ e. absurd (omega (arith, e, lo)));
    };
    keys = record {
      chains = is.heads;
      len = is.zeros 3 (omega arith) (omega arith) (omega arith) (omega arith) ∙ sym (ap length (no_members n));
      own_bucket = λ i b lt some. absurd (omega (arith, some));
      keys_differ = λ i key lt. omega arith;
      different = λ b. omega (arith, ap (times b) (no_members n));
      within = λ b some. absurd (none b some);
    };
    blobs = λ b some. absurd (none b some);
    state_is = ap (λ bs. finite.from_entries (entries_of n w (blob_at n w) bs)) (no_members n);
    apart = subst (λ bs. AreBlobsApart n (held_by (blob_at n w) bs)) (sym (no_members n)) record {
      different = λ x. omega arith;
      beside = refl;
      disjoint = record {
        nodes = λ i there. (4, n - 4, omega (arith, is.order.least), subst (λ z. IsNode 4 z) (sym (only_table i there)) table_is_node);
        apart = λ i k there. beside i k (only_table i there);
      };
    };
    tree = subst (λ bs. AreWords n (taken_with (held_by (blob_at n w) bs)) w) (sym (no_members n)) (words_same n (taking 16 nothing) (taken_with []) w (λ i. refl) is.tree);
  },
)
  where
    none : (b : ℕ) → 0 < times b (all_of (λ i. []) (buckets n)) → ⊥
    none b some = omega (arith, some, ap (times b) (no_members n))

    only_table : (i : ℕ) → taken_with [] i ≡ true → i ≡ 16
    only_table i there = elim (cases_eq i 16) [
      | inl same ↦ same
      | inr other ↦ absurd (let gone : taken_with [] i ≡ false = taken_none [] i other refl in let never : true ≡ false = sym there ∙ gone in cc)
    ]

    beside : (i k : ℕ) → i ≡ 16 → taken_with [] (up (suc k) i) ≡ false
    beside i k at = taken_none [] (up (suc k) i) (λ e. absurd (omega (arith, e, up_least k i, at))) refl

-- after the root words, the tree, the bucket table's block and its words
module _ (n : ℕ) (w w1 w2 w3 w4 : List ℕ) (order : IsOrder n) (sized : length w ≡ region_len n) (one : ChangesOnly 0 16 w w1) (two : ChangesOnly 16 (2 * 2 ^ n) w1 w2) (three : ChangesOnly 17 (2 * 2 ^ n - 1) w2 w3) (four : ChangesOnly (block_of n 0) (buckets n) w3 w4) where
  root_stays : (k : ℕ) → k < 16 → slice_index w4 k ≡ slice_index w1 k
  root_stays k lt = four.before k (omega (arith, lt)) ∙ three.before k (omega (arith, lt)) ∙ two.before k lt

  pub formatted : IsFreshBlobRoot n w1 → slice_index w2 16 ≡ 0 → AreWords n (taking 16 nothing) w3 → ((i : ℕ) → i < buckets n → slice_index w4 (block_of n 0 + i) ≡ 0) → Formatted n w4
  formatted root last tree heads = record {
    order = order;
    sized = four.as_long ∙ three.as_long ∙ two.as_long ∙ one.as_long ∙ sized;
    kind = root_stays 0 (omega arith) ∙ root.kind;
    version = root_stays 1 (omega arith) ∙ root.version;
    table = root_stays 8 (omega arith) ∙ root.table;
    zeros = λ k most a b c. elim (cases_lt k 16) [
      | inl lt ↦ root_stays k lt ∙ root.zeros k lt a b c
      | inr ge ↦ let at : k ≡ 16 = omega (arith, most, ge) in four.before k (omega (arith, most, pow_positive n)) ∙ three.before k (omega (arith, most)) ∙ ap (λ j. slice_index w2 j) at ∙ last
    ];
    heads = heads;
    tree = tree_stays n (taking 16 nothing) w3 w4 (λ k least lt. four.before k lt) tree;
  }
