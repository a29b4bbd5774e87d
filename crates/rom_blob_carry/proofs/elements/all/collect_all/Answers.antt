use Rattle.std.proofs.Common.{sym, ◌∙◌, subst}
use Rattle.rom_blob_region.specs.Region.{BlobContents}
use Rattle.rom_blob_carry.specs.Elements.{entries_in, sized_in}
use Rattle.rom_blob_carry.proofs.Sizing.{five_behind}
use Rattle.rom_blob_carry.proofs.elements.all.collect_all.Goals as goal

pub collect_sized-requires-2-clause-region : goal.collect_sized-requires-2-clause-region
collect_sized-requires-2-clause-region c =
    let q = c.requires.region in
    (q.0, q.1, subst (λ w. BlobContents c.args.order w q.0 q.1) (sym (c.collect_sized.ensures.words)) q.2)

pub collect_sized-requires-3-clause-region : goal.collect_sized-requires-3-clause-region
collect_sized-requires-3-clause-region c =
    let q = c.requires.region in
    (q.0, q.1, subst (λ w. BlobContents c.args.order w q.0 q.1) (sym (c.collect_sized-2.ensures.words ∙ c.collect_sized.ensures.words)) q.2)

pub collect_sized-requires-4-clause-region : goal.collect_sized-requires-4-clause-region
collect_sized-requires-4-clause-region c =
    let q = c.requires.region in
    (q.0, q.1, subst (λ w. BlobContents c.args.order w q.0 q.1) (sym (c.collect_sized-3.ensures.words ∙ c.collect_sized-2.ensures.words ∙ c.collect_sized.ensures.words)) q.2)

pub collect_sized-requires-5-clause-region : goal.collect_sized-requires-5-clause-region
collect_sized-requires-5-clause-region c =
    let q = c.requires.region in
    (q.0, q.1, subst (λ w. BlobContents c.args.order w q.0 q.1) (sym (c.collect_sized-4.ensures.words ∙ c.collect_sized-3.ensures.words ∙ c.collect_sized-2.ensures.words ∙ c.collect_sized.ensures.words)) q.2)

pub returns-clause-collected : goal.returns-clause-collected
returns-clause-collected c s k held =
    let n = c.args.order in
    let keys = c.args.keys.now in
    five_behind (entries_in c.args.into.now.items) (sized_in 8 s keys) (sized_in 4 s keys) (sized_in 2 s keys) (sized_in 1 s keys) (sized_in 0 s keys) _ _ _ _ _
    (c.in_ok-collect_sized.ensures.collected s k held)
    (c.in_ok-collect_sized-2.ensures.collected s k (subst (λ w. BlobContents n w s k) (sym (c.collect_sized.ensures.words)) held))
    (c.in_ok-collect_sized-3.ensures.collected s k (subst (λ w. BlobContents n w s k) (sym (c.collect_sized-2.ensures.words ∙ c.collect_sized.ensures.words)) held))
    (c.in_ok-collect_sized-4.ensures.collected s k (subst (λ w. BlobContents n w s k) (sym (c.collect_sized-3.ensures.words ∙ c.collect_sized-2.ensures.words ∙ c.collect_sized.ensures.words)) held))
    (c.in_ok-collect_sized-5.ensures.collected s k (subst (λ w. BlobContents n w s k) (sym (c.collect_sized-4.ensures.words ∙ c.collect_sized-3.ensures.words ∙ c.collect_sized-2.ensures.words ∙ c.collect_sized.ensures.words)) held))
