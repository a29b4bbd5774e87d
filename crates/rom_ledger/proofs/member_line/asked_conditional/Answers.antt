use Rattle.std.specs.Prelude.{◌≡◌, ◌∷◌, [], codes, slice_index}
use Rattle.std.proofs.Common.{rules}
use Rattle.rom_ledger.proofs.Asking.{is_deq_if, one_number}
use Rattle.rom_ledger.proofs.member_line.asked_conditional.Goals as goal

pub returns-in-100-len1-clause-some : goal.returns-in-100-len1-clause-some
returns-in-100-len1-clause-some c =
    let name : c.args.name.now ≡ codes "deq-if" = search (rules, is_deq_if) in
    let numbers : c.args.numbers.now ≡ slice_index c.args.numbers.now 0 ∷ [] = search (rules, one_number) in
    λ i. (name i, numbers i)
