use Rattle.std.proofs.Common.{◌≡◌, ◌+◌, ◌*◌, ◌/◌, ℕ, Bool, cond, ap, sym, subst, ◌∙◌, arith}
use Rattle.std.proofs.lemmas.Bool.{OnFalse_at}
use Rattle.rom_caller.specs.Standing.{Standing}
use Rattle.bank.specs.Tellers.{IsTeller}
use Rattle.bank.specs.declared.Tally.{Tally}
use Rattle.bank.proofs.Telling.{byte_is, looked, moved_one}
use Rattle.bank.proofs.TellersWorkTrio.work.Goals as goal
use Rattle.bank.proofs.TellersWorkTrio.work.Goals.{then-i, else-i}

pub total_in-requires : goal.total_in-requires
total_in-requires g c = let (s, k, at) = c.requires.opened in (_, (OnFalse_at c.update-told.ensures.updated.outside c.query-answer.ensures.answered.read).answer s k at)

pub loop-i-preserved : goal.loop-i-preserved
loop-i-preserved g c =
    let i = c.loop-i.i in let table = g.C.Calls.table in let base = g.C.Calls.base in let tally = c.loop-i.tally in let within = c.loop-i-test.true in
    let one = c.from.ensures ∙ byte_is c.was_moved.result ∙ ap (λ (b : Bool). let n : ℕ = cond b 1 0 in n) c.was_moved.ensures in
    let told = g.C.Calls.standing c.update-told.new.self in
    let counted : Tally = record { moved = tally.moved + c.from.result; reads = tally.reads } in
    let after : IsTeller table base (i + 1) (i / 16) told counted = moved_one table base (g.C.Calls.standing c.loop-i.caller) told i (i / 16) tally c.update-told.result _ (omega (arith, within)) c.update-told.ensures.updated (ap (λ (n : ℕ). tally.moved + n) one) c.loop-i.invariant.teller in
    record {
      most = omega (arith, within);
      teller = elim c.if-i.branch [
        | then-i w ↦
            let test = w.if-i.true in let tried : i + 1 ≡ 16 * (i / 16 + 1) = omega (arith, test) in let next : (i + 1) / 16 ≡ i / 16 + 1 = omega (arith, test) in
            let read = looked table base told (g.C.Calls.standing w.query-answer.new.self) (i / 16) w.total_in.result counted w.query-answer.result (omega (arith, within)) w.query-answer.ensures.answered w.total_in.ensures
            (subst (λ (n : ℕ). IsTeller table base n (i / 16) told counted) tried after) in
            subst (λ (z : ℕ × (ℕ × (Standing × Tally))). IsTeller table base z.0 z.1.0 z.1.1.0 z.1.1.1) (λ j. (sym tried j, (sym next j, (g.C.Calls.standing (sym w.caller-is j), sym w.tally-is j)))) read
        | else-i w ↦
            let test = w.if-i.false in let next : (i + 1) / 16 ≡ i / 16 = omega (arith, test) in
            subst (λ (z : ℕ × (Standing × Tally)). IsTeller table base (i + 1) z.0 z.1.0 z.1.1) (λ j. (sym next j, (g.C.Calls.standing (sym w.caller-is j), sym w.tally-is j))) after
      ];
    }
