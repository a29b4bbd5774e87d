use Rattle.std.proofs.Common.{◌≡◌, ◌≤◌, length, take}
use Rattle.std.specs.Prelude.{option_map}
use Rattle.rom_script.proofs.Members.{AreSoFar, many_left}
use Rattle.rom_ledger.proofs.MemberLines.{ledger_lines}
use Rattle.rom_ledger.proofs.member_line.read_guarded_members.Given as goal

abbrev pub invariant-loop-rest : goal.invariant-loop-rest
invariant-loop-rest l = record {
  few : l.len ≤ 8;
  cells : length l.members ≡ 8;
  all : AreSoFar ledger_lines l.text (option_map (λ b. b.now) l.rest) (take l.len l.members);
}

abbrev pub decreases-loop-rest : goal.decreases-loop-rest
decreases-loop-rest l = many_left (option_map (λ b. b.now) l.rest)
