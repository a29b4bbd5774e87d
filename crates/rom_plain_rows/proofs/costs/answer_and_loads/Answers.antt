use Rattle.std.proofs.Common.{ℕ, sym, subst}
use Rattle.rom_blob_region.specs.State.{BlobState}
use Rattle.rom_blob_region.specs.Region.{BlobContents}
use Rattle.rom_plain_rows.proofs.costs.answer_and_loads.Goals as goal

pub answer_blob-answer-requires-clause-region : goal.answer_blob-answer-requires-clause-region
answer_blob-answer-requires-clause-region g c =
    let r = c.requires.region in
    subst (λ w. (s : BlobState) × (k : ℕ) × BlobContents 16 w s k) (sym c.begin-space.ensures.words) (r.0, r.1, r.2)
