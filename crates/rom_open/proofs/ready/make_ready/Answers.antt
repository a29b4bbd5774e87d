use Rattle.std.proofs.Common.{◌≡◌, ◌∙◌, ◌++◌, ap, inl, inr, rules, List, ℕ, drop, length, subst, sym, take}
use Rattle.std.proofs.Math.Seq.{take-append_seam}
use Rattle.rom_device.proofs.Going.{leaves_none, leaves_still}
use Rattle.rom_header.specs.Headers.{IsIdle}
use Rattle.rom_recover.specs.Recovered.{Mended}
use Rattle.rom_open.specs.Refusals.{named_order}
use Rattle.rom_open.proofs.Recovering.{doubts_from, images_from, quiet_then, read_leaves}
use Rattle.rom_open.proofs.Room.{room_for_header}
use Rattle.rom_open.proofs.Within.{opens_by}
use Rattle.rom_open.proofs.ready.make_ready.Goals as goal

pub returns-in_err-geometry-clause-opens : goal.returns-in_err-geometry-clause-opens
returns-in_err-geometry-clause-opens g c =
    let shown = g.D.Device.shown in
    let words = shown.words c.args.device.now in
    opens_by shown _ _ _ (search rules) (search rules) (search rules) (search rules) (search rules)
    (λ told. leaves_still shown (Mended (named_order words) words) _ _ _ (λ t i le left. g.met.D.Device.counts_now c.args.device.now t i told le left) (leaves_none shown (Mended (named_order words) words) c.args.device.now) (c.read_header.ensures.only.images told))
    (λ doubts left. read_leaves shown doubts (g.met.D.Device.doubts_told doubts) _ _ c.read_header.ensures.only)
    (search rules) (search rules) (search rules) (search rules)

pub returns-in_err-recover_into-clause-opens : goal.returns-in_err-recover_into-clause-opens
returns-in_err-recover_into-clause-opens g c =
    let shown = g.D.Device.shown in
    opens_by shown _ _ _ (λ few. absurd (room_for_header _ _ c.in_ok-geometry.ensures.fits few)) (search rules) (search rules) (search rules) (search rules)
    (λ told. images_from shown (named_order (shown.words c.args.device.now)) _ _ _ _ (λ t i le left. g.met.D.Device.counts_now c.args.device.now t i told le left) g.met.D.Device.tells_both c.read_header.ensures.only
    (λ words. search rules) c.recover_into.ensures.images told)
    (λ doubts left. doubts_from shown doubts (g.met.D.Device.doubts_told doubts) _ _ c.read_header.ensures.only (named_order (shown.words c.args.device.now)) _ _ (λ words. search rules) left (c.recover_into.ensures.doubts doubts))
    (λ told is. quiet_then shown _ _ _ c.read_header.ensures.only (c.recover_into.ensures.idle told (subst (λ (l : List ℕ). IsIdle l) (sym (c.read_header.ensures.only.words told)) is)).stays)
    (search rules) (search rules) (search rules)

pub returns-in_default-clause-opens : goal.returns-in_default-clause-opens
returns-in_default-clause-opens g c =
    let shown = g.D.Device.shown in
    opens_by shown _ _ _ (λ few. absurd (room_for_header _ _ c.in_ok-geometry.ensures.fits few)) tt (search rules) (search rules) (search rules)
    (λ told. images_from shown (named_order (shown.words c.args.device.now)) _ _ _ _ (λ t i le left. g.met.D.Device.counts_now c.args.device.now t i told le left) g.met.D.Device.tells_both c.read_header.ensures.only
    (λ words. search rules) c.recover_into.ensures.images told)
    (λ doubts left. doubts_from shown doubts (g.met.D.Device.doubts_told doubts) _ _ c.read_header.ensures.only (named_order (shown.words c.args.device.now)) _ _ (λ words. search rules) left (c.recover_into.ensures.doubts doubts))
    (λ told is. quiet_then shown _ _ _ c.read_header.ensures.only (c.recover_into.ensures.idle told (subst (λ (l : List ℕ). IsIdle l) (sym (c.read_header.ensures.only.words told)) is)).stays)
    (search rules) (λ told. record { reads = search rules; writes = search rules; syncs = search rules }) (search rules)

pub returns-in_err-recover_into-2-clause-opens : goal.returns-in_err-recover_into-2-clause-opens
returns-in_err-recover_into-2-clause-opens g c =
    let shown = g.D.Device.shown in
    opens_by shown _ _ _ (λ few. absurd (room_for_header _ _ c.in_ok-geometry.ensures.fits few)) (search rules) (search rules) (search rules) (search rules)
    (λ told. images_from shown (named_order (shown.words c.args.device.now)) _ _ _ _ (λ t i le left. g.met.D.Device.counts_now c.args.device.now t i told le left) g.met.D.Device.tells_both c.read_header.ensures.only
    (λ words. search rules) c.recover_into-2.ensures.images told)
    (λ doubts left. doubts_from shown doubts (g.met.D.Device.doubts_told doubts) _ _ c.read_header.ensures.only (named_order (shown.words c.args.device.now)) _ _ (λ words. search rules) left (c.recover_into-2.ensures.doubts doubts))
    (λ told is. quiet_then shown _ _ _ c.read_header.ensures.only (c.recover_into-2.ensures.idle told (subst (λ (l : List ℕ). IsIdle l) (sym (c.read_header.ensures.only.words told)) is)).stays)
    (search rules) (search rules) (search rules)

pub returns-clause-opens : goal.returns-clause-opens
returns-clause-opens g c =
    let shown = g.D.Device.shown in
    opens_by shown _ _ _ (λ few. absurd (room_for_header _ _ c.in_ok-geometry.ensures.fits few)) tt (search rules) (search rules) (search rules)
    (λ told. images_from shown (named_order (shown.words c.args.device.now)) _ _ _ _ (λ t i le left. g.met.D.Device.counts_now c.args.device.now t i told le left) g.met.D.Device.tells_both c.read_header.ensures.only
    (λ words. search rules) c.recover_into-2.ensures.images told)
    (λ doubts left. doubts_from shown doubts (g.met.D.Device.doubts_told doubts) _ _ c.read_header.ensures.only (named_order (shown.words c.args.device.now)) _ _ (λ words. search rules) left (c.recover_into-2.ensures.doubts doubts))
    (λ told is. quiet_then shown _ _ _ c.read_header.ensures.only (c.recover_into-2.ensures.idle told (subst (λ (l : List ℕ). IsIdle l) (sym (c.read_header.ensures.only.words told)) is)).stays)
    (search rules) (λ told. record { reads = search rules; writes = search rules; syncs = search rules }) (search rules)

taken : (n : ℕ) (new rest : List ℕ) → n ≡ length new → take n (new ++ rest) ≡ new
taken n new rest is = ap (λ k. take k (new ++ rest)) is ∙ take-append_seam new rest

pub returns-clause-rest : goal.returns-clause-rest
returns-clause-rest g c told =
    let done = c.in_ok-recover_into-2.ensures.done told in
    let kept = c.in_ok-recover_into-2.ensures.kept told (search rules) in
    let new : List ℕ = c.recover_into-2.new.image in
    let rest : List ℕ = drop (length new) c.in-Ok.image.items in
    let whole : take c.in-Ok.image.len (new ++ rest) ≡ new = taken c.in-Ok.image.len new rest (search rules) in
    record { heap = done.heap; idle = done.idle; main_is = sym kept ∙ sym whole; back_is = done.back_is ∙ (sym done.main_is ∙ (sym kept ∙ sym whole)) }

pub recover_into-requires-clause-room : goal.recover_into-requires-clause-room
recover_into-requires-clause-room g c = inl (search rules)

pub recover_into-requires-2-clause-room : goal.recover_into-requires-2-clause-room
recover_into-requires-2-clause-room g c = inr (search rules)
