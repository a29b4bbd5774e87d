use Rattle.std.proofs.Common.{◌≡◌, ◌≢◌, ◌+◌, ◌++◌, ◌∷◌, [], ◌∙◌, List, ℕ, Some, None, take, sym, subst, arith, length-set, slice_set}
use Rattle.std.specs.Prelude.{Option, option_map, IfNone}
use Rattle.std.specs.Borrow.{Bor}
use Rattle.std.proofs.lemmas.List.{take_more_set}
use Rattle.rom_model.specs.declared.call.Single.{Single}
use Rattle.rom_script.specs.Lines.{MembersFit, members_line}
use Rattle.rom_script.proofs.Members.{AreSoFar, group_read, no_group_read, none_next, one_more, update_lines}
use Rattle.rom_script.proofs.group_line.read_members.Goals as goal

-- what is left is this
left : (text : List ℕ) (rest known : Option (Bor (List ℕ))) (so_far : List Single) → rest ≡ known → AreSoFar update_lines text (option_map (λ b. b.now) rest) so_far → AreSoFar update_lines text (option_map (λ b. b.now) known) so_far
left text rest known so_far is all = subst (λ o. AreSoFar update_lines text (option_map (λ b. b.now) o) so_far) is all

pub returns-in_err-call-clause-none : goal.returns-in_err-call-clause-none
returns-in_err-call-clause-none c =
    let l = c.loop-rest in
    subst (λ o. IfNone o ((calls : List Single) → MembersFit calls → c.args.text.now ≢ members_line calls)) (sym c.from_residual.ensures)
    (none_next update_lines c.args.text.now c.in-Some.members.now (take l.len l.calls) (left c.args.text.now l.rest (Some c.in-Some.members) (take l.len l.calls) c.in-Some.is l.invariant.all) c.in_err-call.ensures.none)

pub loop-rest-preserved : goal.loop-rest-preserved
loop-rest-preserved c =
    let l = c.loop-rest in
    let call = c.in_ok-call.call in
    let behind = option_map (λ b. b.now) c.in_ok-call.behind in
    let more : take (l.len + 1) (slice_set l.calls l.len call) ≡ take l.len l.calls ++ call ∷ [] = take_more_set l.calls l.len call (omega arith) in
    let all = left c.args.text.now l.rest (Some c.in-Some.members) (take l.len l.calls) c.in-Some.is l.invariant.all in
    record {
      few = omega arith;
      cells = length-set l.calls l.len call ∙ l.invariant.cells;
      all = subst (AreSoFar update_lines c.args.text.now behind) (sym more) (one_more update_lines c.args.text.now c.in-Some.members.now (take l.len l.calls) all call behind c.in_ok-call.ensures.some.0 c.in_ok-call.ensures.some.1);
    }

pub returns-clause-some : goal.returns-clause-some
returns-clause-some c =
    let l = c.loop-rest in
    group_read update_lines c.args.text.now (take l.len l.calls) (left c.args.text.now l.rest None (take l.len l.calls) c.in_default.is l.invariant.all) c.of.result c.of.ensures

pub returns-clause-none : goal.returns-clause-none
returns-clause-none c =
    let l = c.loop-rest in
    no_group_read update_lines c.args.text.now (take l.len l.calls) (left c.args.text.now l.rest None (take l.len l.calls) c.in_default.is l.invariant.all) c.of.result c.of.ensures
