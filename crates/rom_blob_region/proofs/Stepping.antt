-- One node more of a walk.
use Rattle.std.proofs.Common.{◌≡◌, inl, inr, ℕ, ◌+◌, ◌-◌, ◌*◌, ◌^◌, ◌<◌, ◌≤◌, Bool, List, [], ◌∷◌, ◌++◌, length, sym, ◌∙◌, ap, subst, arith}
use Rattle.std.specs.Prelude.{Ok, Err, slice_index}
use Rattle.std.proofs.lemmas.Nat.{pow-add}
use Rattle.rom_model.specs.Blocks.{block_of}
use Rattle.rom_model.specs.Region.{buckets}
use Rattle.rom_model.specs.declared.unfit.Break.{Break}
use Rattle.rom_model.specs.Tests.{checked}
use Rattle.rom_model.proofs.Times.{times-append}
use Rattle.rom_blob_region.specs.State.{some_block}
use Rattle.rom_blob_region.specs.Region.{blob_at}
use Rattle.rom_blob_region.specs.declared.inspect.walk.Reached.{Reached}
use Rattle.rom_blob_region.specs.Tests.{key_tests}
use Rattle.rom_blob_region.specs.Walks.{LeadsToBlob, Body, held, next_blob_link, Node, ReachesBlobs, AreBlobMarks, IsOnBlobWalk}
use Rattle.rom_blob_region.proofs.Blocks.{unit_deep}
use Rattle.rom_blob_region.proofs.Marking.{marks_same}
use Rattle.rom_blob_region.proofs.Onward.{fits_last}

quarters : (n : ℕ) → 4 ≤ n → 2 ^ n ≡ 4 * 2 ^ (n - 2)
quarters n le = let e : 2 + (n - 2) ≡ n = omega arith in ap (λ a. 2 ^ a) (sym e) ∙ pow-add 2 2 (n - 2)

-- where the next link stands
pub link_inside : (n : ℕ) (w : List ℕ) (i : ℕ) (seen bs : List ℕ) → 4 ≤ n → i < buckets n → ReachesBlobs n w i seen bs → next_blob_link n i bs < 16 + 6 * 2 ^ n
link_inside n w i seen [] le lt f = omega (arith, lt, quarters n le)
link_inside n w i seen (b ∷ bs) le lt f = let node = unit_deep n (2 ^ n + b) (fits_last n w le i seen b bs f).leads.node in omega (arith, node.most)

-- the unit to which a link leads
pub record Arrived (n : ℕ) (w blocks : List ℕ) (link x : ℕ) : Type 0 where
  pub unit : ℕ
  pub node : x ≡ 2 ^ n + unit
  pub leads : LeadsToBlob n w blocks link 0 (2 ^ n + unit)
  pub here : slice_index w link ≡ block_of n unit
  pub inside : unit < 2 ^ n

pub arrived : (n : ℕ) (w blocks : List ℕ) (link x : ℕ) → LeadsToBlob n w blocks link 0 x → Arrived n w blocks link x
arrived n w blocks link x leads =
    let at = unit_deep n x leads.node in
    let b = x - 2 ^ n in
    let same : x ≡ 2 ^ n + b = omega (arith, at.least) in
    record { unit = b; node = same; leads = subst (λ (y : ℕ). LeadsToBlob n w blocks link 0 y) same leads; here = omega (arith, leads.here); inside = omega (arith, at.least, at.most) }

module _ (n : ℕ) (w : List ℕ) (i : ℕ) (seen before : List ℕ) (b : ℕ) (leads : LeadsToBlob n w (held n w (before ++ seen)) (next_blob_link n i before) 0 (2 ^ n + b)) where
  pub key_broke : (e : Break) → checked (key_tests n w i before b) ≡ Err e → Node n w i seen before (Err e)
  key_broke e broke = inr (b, leads, inl (sym broke))

  module _ (holds : checked (key_tests n w i before b) ≡ Ok tt) where
    pub body_broke : (e : Break) → Body n w ((2 ^ n + b) ∷ held n w (before ++ seen)) b (Err e) → Node n w i seen before (Err e)
    body_broke e broke = inr (b, leads, inr (tt, sym holds, broke))

    pub stepped : (reached : Reached) (marks : List Bool) → ReachesBlobs n w i seen before → Body n w ((2 ^ n + b) ∷ held n w (before ++ seen)) b (Ok b) → AreBlobMarks n (some_block (blob_at n w b).body ++ (2 ^ n + b) ∷ held n w (before ++ seen)) marks
        → reached.link ≡ block_of n b + 2 → reached.count ≡ length (b ∷ before) → IsOnBlobWalk n w i seen (b ∷ before) reached marks
    stepped reached marks reaches body are link count =
        let xs = held n w (before ++ seen) in
        let ys = some_block (blob_at n w b).body in record {
          reaches = (reaches, (b, leads, (tt, sym holds, body)));
          link = link;
          count = count;
          marked = marks_same n (ys ++ (2 ^ n + b) ∷ xs) (held n w (b ∷ before ++ seen)) marks (λ c. omega (arith, times-append c ys ((2 ^ n + b) ∷ xs), times-append c ys xs)) are;
        }
