use Rattle.std.proofs.Common.{◌≡◌, ℕ, ◌*◌, ◌≤◌, ◌∙◌, ap, length, arith}
use Rattle.std.specs.Prelude.{Option, Some, None, IfSome}
use Rattle.std.specs.Option.{SomeIff}
use Rattle.rom_lines.proofs.Steps.{room_enough}
use Rattle.rom_lines.proofs.script.Script.reply_words.Goals as goal

at_least : (n m : ℕ) (P : Type 0) (o : Option ℕ) → SomeIff o P m → n ≤ m → IfSome o (λ many. n ≤ many)
at_least n m P None is le = tt
at_least n m P (Some many) is le = omega (arith, le, is.1)

pub returns : goal.returns
returns g c =
    let words = c.self.inside.words.items in
    let machine = g.O.Object.machine in
    let enough = room_enough _ machine.words_call machine.call_words g.met.O.Object.call_only words c.self.inside.cells.items c.self.invariant.0 in
    let many : c.len.result ≡ length words = c.len.ensures ∙ c.self.inside.words.ok.0 in
    rw (← ap (λ v. v.items) c.self.view_is) (at_least _ (c.len.result * 2) _ c.checked_mul.result c.checked_mul.ensures (omega (arith, enough, c.self.invariant.1, many)))
