-- The bytes of a node that was reached, and what code answers of them.
use Rattle.std.proofs.Common.{◌≡◌, ◌≢◌, inr, ℕ, ◌+◌, ◌*◌, ◌/◌, ◌%◌, ◌^◌, ◌<◌, ◌≤◌, Bool, List, [], ◌∷◌, ◌++◌, sym, ◌∙◌, ap, subst, arith}
use Rattle.std.specs.Prelude.{Result, Ok, Err, Option, slice_index}
use Rattle.rom_model.specs.Blocks.{block_of}
use Rattle.rom_model.specs.declared.unfit.Break.{Break}
use Rattle.rom_model.specs.declared.unfit.Rule.TheVariants.{Pad}
use Rattle.rom_model.specs.Tests.{test, checked}
use Rattle.rom_model.proofs.InTurn.{passing, breaking}
use Rattle.rom_blob_region.specs.State.{order_for, some_block}
use Rattle.rom_blob_region.specs.Region.{len_at}
use Rattle.rom_blob_region.proofs.Beside.{block_most}
use Rattle.rom_blob_region.proofs.Places.{in_body, some_body}
use Rattle.rom_blob_region.specs.Tests.{ends_bare, end_tests}
use Rattle.rom_blob_region.specs.Walks.{LeadsToBlob, AreBlobMarks, AnswersBody}

-- the words of bytes stand inside of the region
module _ (n : ℕ) (w blocks : List ℕ) (link len x : ℕ) (le : 4 ≤ n) (few : len ≤ 256) (some : len ≢ 0) (leads : LeadsToBlob n w blocks link (order_for len) x) where
  pub last_inside : len % 8 ≢ 0 → slice_index w link + len / 8 < 16 + 6 * 2 ^ n
  last_inside rest = block_most n x (slice_index w link + len / 8) (in_body n len x (slice_index w link) (len / 8) le few leads.node leads.here (omega (arith, rest)))

module _ (n : ℕ) (w blocks : List ℕ) (b : ℕ) (marks : List Bool) (le : 4 ≤ n) where
  -- a key with bytes, which stand in a block that was marked
  body_there : (x : ℕ) (r : Result (Unit {0}) Break) → len_at n w b ≢ 0 → LeadsToBlob n w blocks (block_of n b + 3) (order_for (len_at n w b)) x → AreBlobMarks n (x ∷ blocks) marks → r ≡ checked (end_tests n w b) → AnswersBody n w blocks b r marks
  body_there x (Ok done) some leads are is = (
    inr (some, (x, leads, sym (passing (end_tests n w b) b (sym is)))),
    subst (λ (o : Option ℕ). AreBlobMarks n (some_block o ++ blocks) marks) (sym (some_body n w b le x some leads.node leads.here)) are,
  )
  body_there x (Err e) some leads are is = inr (some, inr (x, leads, sym (breaking (end_tests n w b) b e (sym is))))

  pub body_answer : (node x order : ℕ) (r : Result (Unit {0}) Break) → node ≡ block_of n b → order ≡ order_for (slice_index w (node + 1)) → slice_index w (node + 1) ≢ 0 → LeadsToBlob n w blocks (node + 3) order x → AreBlobMarks n (x ∷ blocks) marks
      → r ≡ checked (test (slice_index w (node + 3) + slice_index w (node + 1) / 8) Pad (ends_bare w (slice_index w (node + 3)) (slice_index w (node + 1))) ∷ []) → AnswersBody n w blocks b r marks
  body_answer node x order r here least some leads are is =
      body_there x r
      (λ none. some (ap (λ (a : ℕ). slice_index w (a + 1)) here ∙ none))
      (subst (λ (a : ℕ). LeadsToBlob n w blocks (a + 3) (order_for (slice_index w (a + 1))) x) here (subst (λ (o : ℕ). LeadsToBlob n w blocks (node + 3) o x) least leads))
      are
      (is ∙ ap (λ (a : ℕ). checked (test (slice_index w (a + 3) + slice_index w (a + 1) / 8) Pad (ends_bare w (slice_index w (a + 3)) (slice_index w (a + 1))) ∷ [])) here)
