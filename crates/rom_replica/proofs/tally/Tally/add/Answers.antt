use Rattle.std.proofs.Common.{◌≡◌, ◌⊎◌, ℕ, Some, refl, sym, subst, inl, inr, arith}
use Rattle.rom_follow.specs.declared.taken.MessageTaken.{MessageTaken}
use Rattle.rom_follow.specs.declared.taken.MessageTaken.TheVariants as taken
use Rattle.rom_replica.specs.Tallied.{AddsToTally}
use Rattle.rom_replica.specs.declared.stop.Stop.TheVariants.{DeviceFailed}
use Rattle.rom_replica.specs.declared.tally.Tally.{Tally}
use Rattle.rom_replica.proofs.tally.Tally.add.Goals as goal
use Rattle.rom_replica.proofs.tally.Tally.add.Goals.{in-Applied, in-Known, in-Early}

pub returns-in-NotAFrame : goal.returns-in-NotAFrame
returns-in-NotAFrame c = record { adds = rw c.in-NotAFrame.is (refl, refl) }

pub returns-in-Diverged : goal.returns-in-Diverged
returns-in-Diverged c = record { adds = rw c.in-Diverged.is (refl, refl) }

pub returns-in-Spent : goal.returns-in-Spent
returns-in-Spent c = record { adds = rw c.in-Spent.is (refl, refl) }

device_failed : (answer : MessageTaken) (len : ℕ) (tally : Tally) → (answer ≡ taken.Failed) ⊎ (answer ≡ taken.Doubt) → AddsToTally answer len tally tally (Some DeviceFailed)
device_failed answer len tally (inl is) = subst (λ (z : MessageTaken). AddsToTally z len tally tally (Some DeviceFailed)) (sym is) (refl, refl)
device_failed answer len tally (inr is) = subst (λ (z : MessageTaken). AddsToTally z len tally tally (Some DeviceFailed)) (sym is) (refl, refl)

pub returns-in-Failed : goal.returns-in-Failed
returns-in-Failed c = record { adds = device_failed c.args.taken c.args.len c.args.self.now c.in-Failed.is }

pub returns : goal.returns
returns c = elim c.match-taken.branch [
  | in-Applied w ↦ record { adds = rw w.in-Applied.is (record { applied_is = w.applied-is; known_is = omega (arith, w.known-is); early_is = omega (arith, w.early-is); bytes_is = refl }, refl) }
  | in-Known w ↦ record { adds = rw w.in-Known.is (record { applied_is = omega (arith, w.applied-is); known_is = w.known-is; early_is = omega (arith, w.early-is); bytes_is = refl }, refl) }
  | in-Early w ↦ record { adds = rw w.in-Early.is (record { applied_is = omega (arith, w.applied-is); known_is = omega (arith, w.known-is); early_is = w.early-is; bytes_is = refl }, refl) }
]
