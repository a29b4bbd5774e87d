use Rattle.std.proofs.Common.{◌++◌, sym, ◌∙◌, subst}
use Rattle.rom_blob_region.specs.Region.{BlobContents}
use Rattle.rom_blob_carry.specs.Elements.{entries_in, all_sized}
use Rattle.rom_blob_carry.proofs.elements.all.BlobElements.of.Goals as goal

pub collect_keys-requires-clause-region : goal.collect_keys-requires-clause-region
collect_keys-requires-clause-region c =
    let q = c.requires.region in
    (q.0, q.1, subst (λ w. BlobContents c.args.order w q.0 q.1) (sym c.words-words.ensures) q.2)

pub returns-clause-are : goal.returns-clause-are
returns-clause-are c s k held =
    let keys = c.deref.ensures.value ∙ c.in_ok-collect_keys.ensures.keys s k (subst (λ w. BlobContents c.args.order w s k) (sym c.words-words.ensures) held) in
    c.in_ok-collect_all.ensures.collected s k held ∙ (λ i. entries_in (c.in_ok-kept.ensures.items i) ++ all_sized s (keys i))
