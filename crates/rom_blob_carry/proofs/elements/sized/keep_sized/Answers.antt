use Rattle.std.proofs.Common.{◌++◌, [], ◌∷◌, sym, ◌∙◌, ap, append-nil}
use Rattle.std.specs.FinMap as finite
use Rattle.std.proofs.lemmas.List.{map-append}
use Rattle.rom_blob_region.specs.State.{body_units}
use Rattle.rom_blob_carry.specs.declared.elements.kept.Kept.{Kept}
use Rattle.rom_blob_carry.specs.Elements.{entries_in}
use Rattle.rom_blob_carry.proofs.Sizing.{one_kept, none_kept, gone_kept, never_kept}
use Rattle.rom_blob_carry.proofs.elements.sized.keep_sized.Goals as goal

pub returns-in_err-of-in-Bytes-clause-words : goal.returns-in_err-of-in-Bytes-clause-words
returns-in_err-of-in-Bytes-clause-words c = let q = c.requires.region in (c.fetch_blob.ensures.looks q.0 q.1 q.2).image

pub returns-in_err-push-in-Bytes-clause-words : goal.returns-in_err-push-in-Bytes-clause-words
returns-in_err-push-in-Bytes-clause-words c = let q = c.requires.region in (c.fetch_blob.ensures.looks q.0 q.1 q.2).image

pub returns-in_ok-push-in-Bytes-clause-kept : goal.returns-in_ok-push-in-Bytes-clause-kept
returns-in_ok-push-in-Bytes-clause-kept c s k held =
    let kept : Kept = c.in_ok-of-in-Bytes.field-0 in
    let told = sym c.in-Bytes.is ∙ c.fetch_blob.ensures.told s k held in
    let key = c.in_ok-of-in-Bytes.ensures.key in
    let bytes = c.in_ok-of-in-Bytes.ensures.bytes in
    ap entries_in c.in_ok-push-in-Bytes.ensures.items ∙ map-append (λ (k : Kept). (k.key, k.bytes.items)) c.args.into.now.items (kept ∷ [])
    ∙ ap (λ es. entries_in c.args.into.now.items ++ es) ((λ i. (key i, bytes i) ∷ []) ∙ one_kept c.args.units c.args.key (finite.get s c.args.key) c.in-Bytes.bytes told (ap body_units (sym c.len.ensures.many) ∙ sym c.body_units.ensures.is ∙ c.if-body_units-units.true))

pub returns-in_ok-push-in-Bytes-clause-words : goal.returns-in_ok-push-in-Bytes-clause-words
returns-in_ok-push-in-Bytes-clause-words c = let q = c.requires.region in (c.fetch_blob.ensures.looks q.0 q.1 q.2).image

pub returns-else-body_units-units-clause-kept : goal.returns-else-body_units-units-clause-kept
returns-else-body_units-units-clause-kept c s k held =
    let told = sym c.in-Bytes.is ∙ c.fetch_blob.ensures.told s k held in
    sym (append-nil (entries_in c.args.into.now.items)) ∙ ap (λ es. entries_in c.args.into.now.items ++ es) (none_kept c.args.units c.args.key (finite.get s c.args.key) c.in-Bytes.bytes told (λ e. c.if-body_units-units.false (c.body_units.ensures.is ∙ ap body_units c.len.ensures.many ∙ e)))

pub returns-else-body_units-units-clause-words : goal.returns-else-body_units-units-clause-words
returns-else-body_units-units-clause-words c = let q = c.requires.region in (c.fetch_blob.ensures.looks q.0 q.1 q.2).image

pub returns-in-Missing : goal.returns-in-Missing
returns-in-Missing c =
    let q = c.requires.region in
    record {
      kept = λ s k held. sym (append-nil (entries_in c.args.into.now.items)) ∙ ap (λ es. entries_in c.args.into.now.items ++ es) (gone_kept c.args.units c.args.key (finite.get s c.args.key) (sym c.in-Missing.is ∙ c.fetch_blob.ensures.told s k held));
      fit = λ fits. fits;
      words = (c.fetch_blob.ensures.looks q.0 q.1 q.2).image;
    }

pub returns-in-Keys : goal.returns-in-Keys
returns-in-Keys c =
    let q = c.requires.region in
    record {
      kept = λ s k held. sym (append-nil (entries_in c.args.into.now.items)) ∙ ap (λ es. entries_in c.args.into.now.items ++ es) (never_kept c.in-Keys.field-0 c.args.units c.args.key (finite.get s c.args.key) (sym c.in-Keys.is ∙ c.fetch_blob.ensures.told s k held));
      fit = λ fits. fits;
      words = (c.fetch_blob.ensures.looks q.0 q.1 q.2).image;
    }
