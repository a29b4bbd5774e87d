use Rattle.std.proofs.Common.{◌≤◌, ◌/◌}
use Rattle.bank.specs.Tellers.{IsTeller}
use Rattle.bank.proofs.TellersWorkTrio.work.Given as goal

abbrev pub invariant-loop-i : goal.invariant-loop-i
invariant-loop-i g l = record {
  most : l.i ≤ 64;
  teller : IsTeller g.C.Calls.table g.C.Calls.base l.i (l.i / 16) (g.C.Calls.standing l.caller) l.tally;
}
