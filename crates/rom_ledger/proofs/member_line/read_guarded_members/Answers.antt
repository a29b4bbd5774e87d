use Rattle.std.proofs.Common.{◌≡◌, ◌≢◌, ◌+◌, ◌++◌, ◌∷◌, [], ◌∙◌, List, ℕ, Some, None, take, sym, subst, arith, length-set, slice_set}
use Rattle.std.specs.Prelude.{Option, option_map, IfNone}
use Rattle.std.specs.Borrow.{Bor}
use Rattle.std.proofs.lemmas.List.{take_more_set}
use Rattle.rom_script.proofs.Members.{AreSoFar, group_read, no_group_read, none_next, one_more}
use Rattle.rom_ledger.specs.Lines.{GuardedMembersFit, guarded_members_line}
use Rattle.rom_ledger.specs.declared.call.LedgerSingle.{LedgerSingle}
use Rattle.rom_ledger.proofs.MemberLines.{ledger_lines}
use Rattle.rom_ledger.proofs.member_line.read_guarded_members.Goals as goal

-- what is left is this
left : (text : List ℕ) (rest known : Option (Bor (List ℕ))) (so_far : List LedgerSingle) → rest ≡ known → AreSoFar ledger_lines text (option_map (λ b. b.now) rest) so_far → AreSoFar ledger_lines text (option_map (λ b. b.now) known) so_far
left text rest known so_far is all = subst (λ o. AreSoFar ledger_lines text (option_map (λ b. b.now) o) so_far) is all

pub returns-in_err-member-clause-none : goal.returns-in_err-member-clause-none
returns-in_err-member-clause-none c =
    let l = c.loop-rest in
    subst (λ o. IfNone o ((members : List LedgerSingle) → GuardedMembersFit members → c.args.text.now ≢ guarded_members_line members)) (sym c.from_residual.ensures)
    (none_next ledger_lines c.args.text.now c.in-Some.some.now (take l.len l.members) (left c.args.text.now l.rest (Some c.in-Some.some) (take l.len l.members) c.in-Some.is l.invariant.all) c.in_err-member.ensures.none)

pub loop-rest-preserved : goal.loop-rest-preserved
loop-rest-preserved c =
    let l = c.loop-rest in
    let member = c.in_ok-member.member in
    let behind = option_map (λ b. b.now) c.in_ok-member.behind in
    let more : take (l.len + 1) (slice_set l.members l.len member) ≡ take l.len l.members ++ member ∷ [] = take_more_set l.members l.len member (omega arith) in
    let all = left c.args.text.now l.rest (Some c.in-Some.some) (take l.len l.members) c.in-Some.is l.invariant.all in
    record {
      few = omega arith;
      cells = length-set l.members l.len member ∙ l.invariant.cells;
      all = subst (AreSoFar ledger_lines c.args.text.now behind) (sym more) (one_more ledger_lines c.args.text.now c.in-Some.some.now (take l.len l.members) all member behind c.in_ok-member.ensures.some.0 c.in_ok-member.ensures.some.1);
    }

pub returns-clause-some : goal.returns-clause-some
returns-clause-some c =
    let l = c.loop-rest in
    group_read ledger_lines c.args.text.now (take l.len l.members) (left c.args.text.now l.rest None (take l.len l.members) c.in_default.is l.invariant.all) c.of.result c.of.ensures

pub returns-clause-none : goal.returns-clause-none
returns-clause-none c =
    let l = c.loop-rest in
    no_group_read ledger_lines c.args.text.now (take l.len l.members) (left c.args.text.now l.rest None (take l.len l.members) c.in_default.is l.invariant.all) c.of.result c.of.ensures
