-- A heap of version 1 is told from one of version 2, as an upgrade asks.
use Rattle.std.specs.Prelude.{◌≡◌, ◌==◌, ◌&&◌, Bool, true, false, Option, Some, None, IfSome, slice_index}
use Rattle.std.proofs.Common.{arith}
use Rattle.std.proofs.lemmas.Bool.{eqb-true}
use Rattle.rom_heap.specs.Answers.{earlier}
use Rattle.rom_run.proofs.Accepted.{AreApart, IsToldApart}
use Rattle.rom_run.specs.Use.{heap_of}
use Rattle.rom_shell.specs.Run.{use_of}
use Rattle.rom_words.specs.Words.{Command, Try, Run, Format, Stat, Upgrade, Drill}

second : (a b : Bool) → (a && b) ≡ true → b ≡ true
second true b is = is
second false b is = absurd (let no : ⊥ = cc in no)

-- no well-formed region of version 1 says that it is of version 2
told_apart : IsToldApart earlier
told_apart order words state count (chains, region) next =
    let two : slice_index words 1 ≡ 2 = eqb-true (slice_index words 1) 2 (second (slice_index words 0 == 1) (slice_index words 1 == 2) next) in
    let one = region.version.version in
    absurd (omega (arith, one, two))

-- so of the heap of each command
pub apart_asked : (asked : Option Command) → IfSome (use_of asked) (λ does. AreApart earlier (heap_of does))
apart_asked (Some (Try scripts)) = tt
apart_asked (Some (Run file scripts)) = tt
apart_asked (Some (Format file order)) = tt
apart_asked (Some (Stat file)) = tt
apart_asked (Some (Upgrade file)) = told_apart
apart_asked (Some (Drill start callers calls)) = tt
apart_asked None = tt
