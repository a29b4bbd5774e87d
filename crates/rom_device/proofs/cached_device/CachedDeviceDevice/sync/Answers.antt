use Rattle.std.proofs.Common.{sym, ◌∙◌}
use Rattle.rom_device.specs.Cached.{shown_by_cached}
use Rattle.rom_device.specs.Doubt.{and_first, and_last, settled_sure}
use Rattle.rom_device.specs.Over.{images_as_long}
use Rattle.rom_device.proofs.Caching.{length-with_run}
use Rattle.rom_device.proofs.cached_device.CachedDeviceDevice.sync.Goals as goal

pub returns-clause-certain : goal.returns-clause-certain
returns-clause-certain g c told i left =
    let shown = g.M.Medium.shown in
    let now = c.sync.new.self in
    let images = and_last g.M.Medium.lasting shown.tells_images told in
    settled_sure (shown_by_cached shown) now
    (λ j has. images_as_long shown now.pending now.medium j (λ k left. g.met.M.Medium.images_fit now.medium k images left) has ∙ sym (length-with_run now.pending (shown.words now.medium)))
    (c.if-not-sync.ensures.certain images) (λ at is. g.met.M.Medium.never_doubted (and_first g.M.Medium.lasting shown.tells_images told) now.medium at is.0) i left
