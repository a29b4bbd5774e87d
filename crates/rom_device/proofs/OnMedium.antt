-- What a device over a medium does is what its words do.
use Rattle.std.proofs.Common.{◌≡◌, ℕ, Bool, List, sym, subst}
use Rattle.rom_device.specs.Device.{ShownDevice, Runs, Does, OnlyReads}
use Rattle.rom_device.specs.Doubt.{and_last}
use Rattle.rom_device.specs.Cached.{shown_by_cached}
use Rattle.rom_device.specs.CachedDevice.{shown_by_device}
use Rattle.rom_device.specs.declared.cached.Cached.{Cached}
use Rattle.rom_device.specs.declared.cached_device.CachedDevice.{CachedDevice}

module _ {M : Type 0} {bound : _} (lasting : Bool) (shown : ShownDevice M) where
  runs_of : (step : List ℕ → List ℕ → Type 0) (a b : CachedDevice M bound) → Runs (shown_by_cached shown) step a.words b.words → Runs (shown_by_device lasting shown) step a b
  runs_of step a b runs = record { later = runs.later; now = runs.now; nothing_else = runs.nothing_else; keeps = runs.keeps }

  does_of : (step : List ℕ → List ℕ → Type 0) (a b : CachedDevice M bound) → Does (shown_by_cached shown) step a.words b.words → Does (shown_by_device lasting shown) step a b
  does_of step a b does = record {
    size = does.size;
    words = does.words;
    images = λ told. runs_of step a b (does.images (and_last lasting shown.tells_images told));
    doubts = λ told. runs_of step a b (does.images told);
    fewer = does.fewer;
  }

  pub device_does : (step : List ℕ → List ℕ → Type 0) (a b : CachedDevice M bound) (words : Cached M bound) → b.words ≡ words → Does (shown_by_cached shown) step a.words words → Does (shown_by_device lasting shown) step a b
  device_does step a b words is does = does_of step a b (subst (λ (w : Cached M bound). Does (shown_by_cached shown) step a.words w) (sym is) does)

  reads_of : (a b : CachedDevice M bound) → b.writes ≡ a.writes → b.syncs ≡ a.syncs → OnlyReads (shown_by_cached shown) a.words b.words → OnlyReads (shown_by_device lasting shown) a b
  reads_of a b writes syncs only = record {
    size = only.size;
    words = only.words;
    images = λ told. runs_of (λ old new. new ≡ old) a b (only.images (and_last lasting shown.tells_images told));
    doubts = λ told. runs_of (λ old new. new ≡ old) a b (only.images told);
    fewer = only.fewer;
    still = λ told. only.still (and_last lasting shown.tells_images told);
    writes = writes;
    syncs = syncs;
  }

  pub device_reads : (a b : CachedDevice M bound) (words : Cached M bound) → b.words ≡ words → b.writes ≡ a.writes → b.syncs ≡ a.syncs → OnlyReads (shown_by_cached shown) a.words words → OnlyReads (shown_by_device lasting shown) a b
  device_reads a b words is writes syncs only = reads_of a b writes syncs (subst (λ (w : Cached M bound). OnlyReads (shown_by_cached shown) a.words w) (sym is) only)
