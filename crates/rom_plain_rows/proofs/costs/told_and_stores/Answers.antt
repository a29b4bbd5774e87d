use Rattle.std.proofs.Common.{ℕ, ◌<◌, sym, subst}
use Rattle.rom_model.specs.History.{LAST_COUNT}
use Rattle.rom_blob_region.specs.State.{BlobState}
use Rattle.rom_blob_region.specs.Region.{BlobContents}
use Rattle.rom_plain_rows.proofs.costs.told_and_stores.Goals as goal

pub apply_blob-reply-requires-clause-region : goal.apply_blob-reply-requires-clause-region
apply_blob-reply-requires-clause-region g c = subst (λ w. (s : BlobState) × (k : ℕ) × BlobContents 16 w s k × (k < LAST_COUNT)) (sym c.begin-space.ensures.words) c.requires.region
