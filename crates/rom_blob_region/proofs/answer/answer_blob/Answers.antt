use Rattle.std.proofs.Common.{sym, ap, subst, ◌∙◌}
use Rattle.rom_model.specs.Space.{Looks}
use Rattle.rom_blob_region.specs.State.{blob_tell, blob_cost}
use Rattle.rom_blob_region.specs.declared.call.BlobQuery.{BlobQuery}
use Rattle.rom_blob_region.proofs.answer.answer_blob.Goals as goal

pub returns-in-Fetch-clause-told : goal.returns-in-Fetch-clause-told
returns-in-Fetch-clause-told g c s k held = c.fetch_blob.ensures.told s k held ∙ ap (λ (q : BlobQuery). blob_tell s q) (sym c.in-Fetch.is)

pub returns-in-Fetch-clause-looks : goal.returns-in-Fetch-clause-looks
returns-in-Fetch-clause-looks g c s k held = subst (λ (q : BlobQuery). Looks g.M.Look.shown (blob_cost c.args.order s q) c.args.space.now c.fetch_blob.new.space) (sym c.in-Fetch.is) (c.fetch_blob.ensures.looks s k held)

pub returns-in-Size-clause-told : goal.returns-in-Size-clause-told
returns-in-Size-clause-told g c s k held = c.count_blobs.ensures.told s k held ∙ ap (λ (q : BlobQuery). blob_tell s q) (sym c.in-Size.is)
