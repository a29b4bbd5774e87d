use Rattle.std.proofs.Common.{refl}
use Rattle.rom_ledger.proofs.Determined.{text_determines}
use Rattle.rom_ledger.proofs.program.run_ledger.Goals as goal

pub returns-clause-same : goal.returns-clause-same
returns-clause-same g c = record {
  call_line = λ line call reads. reads;
  query_line = λ line query reads. reads;
  empty_is = refl;
  step_is = λ n s count call. refl;
  tell_is = λ s query. refl;
  text_is = λ reply. refl;
  answer_is = λ answer. refl;
}

pub returns-clause-determined : goal.returns-clause-determined
returns-clause-determined g c = text_determines
