use Rattle.std.proofs.Common.{◌≡◌, take}
use Rattle.std.specs.List.{list_any}
use Rattle.rom_run.specs.Statuses as statuses
use Rattle.rom_run.proofs.results.Found.among_all.Given as goal

-- what is among the results of the callers so far
abbrev pub invariant-loop-own : goal.invariant-loop-own
invariant-loop-own g l = record {
  unread : l.found.unread ≡ list_any (λ v. list_any statuses.is_unread v.items) (take l.own-index l.results);
  faulted : l.found.faulted ≡ list_any (λ v. list_any statuses.is_faulted v.items) (take l.own-index l.results);
}
