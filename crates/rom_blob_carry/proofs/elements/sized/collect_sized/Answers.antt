use Rattle.std.proofs.Common.{◌++◌, take, get_or, sym, ◌∙◌, ap, subst, arith, append_assoc}
use Rattle.std.specs.FinMap as finite
use Rattle.std.proofs.lemmas.List.{take_all}
use Rattle.rom_blob_region.specs.Region.{BlobContents}
use Rattle.rom_blob_carry.specs.Elements.{entries_in, one_sized, sized_in}
use Rattle.rom_blob_carry.proofs.Sizing.{sized_more}
use Rattle.rom_blob_carry.proofs.elements.sized.collect_sized.Goals as goal

pub keep_sized-requires-clause-region : goal.keep_sized-requires-clause-region
keep_sized-requires-clause-region c =
    let q = c.requires.region in
    (q.0, q.1, subst (λ w. BlobContents c.args.order w q.0 q.1) (sym c.loop-key.invariant.image) q.2)

pub loop-key-preserved : goal.loop-key-preserved
loop-key-preserved c =
    let h = c.loop-key.invariant in
    let i = c.loop-key.key-index in
    let keys = c.args.keys.now in
    let key = get_or keys i 0 in
    record {
      image = c.keep_sized.ensures.words ∙ h.image;
      so_far = λ s k held.
          let more = c.in_ok-keep_sized.ensures.kept s k (subst (λ w. BlobContents c.args.order w s k) (sym h.image) held) in
          more ∙ ap (λ es. es ++ one_sized c.args.units key (finite.get s key)) (h.so_far s k held)
          ∙ append_assoc (entries_in c.args.into.now.items) (sized_in c.args.units s (take i keys)) (one_sized c.args.units key (finite.get s key))
          ∙ ap (λ es. entries_in c.args.into.now.items ++ es) (sized_more c.args.units s keys i c.loop-key-test.true);
      fit = λ fits. c.keep_sized.ensures.fit (h.fit fits);
    }

pub returns-clause-collected : goal.returns-clause-collected
returns-clause-collected c s k held = c.loop-key.invariant.so_far s k held ∙ ap (λ ks. entries_in c.args.into.now.items ++ sized_in c.args.units s ks) (take_all c.loop-key.key-index c.args.keys.now (omega arith))
