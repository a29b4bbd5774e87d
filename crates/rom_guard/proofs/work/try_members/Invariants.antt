use Rattle.std.proofs.Common.{◌≡◌, ◌+◌, ◌-◌, ◌*◌, length, ℕ}
use Rattle.rom_model.specs.Space.{Stores}
use Rattle.rom_guard.specs.Working.{members_in}
use Rattle.rom_guard.proofs.Reaching.{Reached}
use Rattle.rom_guard.proofs.work.try_members.Given as goal

-- the members so far have succeeded, and what they were told has two words each
abbrev pub invariant-loop-i : goal.invariant-loop-i
invariant-loop-i g l = record {
  long : length l.told ≡ 2 + 2 * l.i;
  reached : (s : g.O.Object.State) (j : ℕ) → g.O.Object.Contents l.order (g.M.Look.shown.image l.fn.space) s (j + 1) →
      Reached g.O.Object.machine g.P.Members.shown l.order s j (members_in g.P.Members.shown l.words) l.i l.told (λ t. g.O.Object.Contents l.order (g.M.Look.shown.image l.space) t (j + 1));
  stores : Stores g.M.Look.shown ((g.O.Object.STORES - 1) * l.i) l.fn.space l.space;
}
