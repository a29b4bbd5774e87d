-- The numbers of the statuses, and the one that results lead to.
use Rattle.std.specs.Prelude.{ℕ, Bool, true, false, if◌then◌else◌, List}
use Rattle.std.specs.List.{list_any}
use Rattle.rom_model.specs.declared.call.Updated.TheVariants.{Done, Spent, Failed, Doubt}
use Rattle.rom_model.specs.declared.line.LineResult.{LineResult}
use Rattle.rom_model.specs.declared.line.LineResult.TheVariants as outcome
use Rattle.rom_run.specs.declared.status.Status.{Status}
use Rattle.rom_run.specs.declared.status.Status.TheVariants as status

-- the number with which the program exits
abbrev pub exit_number : Status → ℕ
exit_number status.Done = 0
exit_number status.Unread = 1
exit_number status.NotACommand = 2
exit_number status.HeapRefused = 3
exit_number status.ScriptFailed = 4
exit_number status.SinkFailed = 5
exit_number status.NoMemory = 6
exit_number status.DeviceFailed = 7
exit_number status.ScriptTooLong = 8

-- the line was no command
abbrev pub is_unread : {R A : Type 0} → LineResult R A → Bool
is_unread outcome.Unread = true
is_unread (outcome.Update updated) = false
is_unread (outcome.Read answer front) = false

-- the device failed under the update
abbrev pub is_faulted : {R A : Type 0} → LineResult R A → Bool
is_faulted outcome.Unread = false
is_faulted (outcome.Update (Done reply place)) = false
is_faulted (outcome.Update Spent) = false
is_faulted (outcome.Update Failed) = true
is_faulted (outcome.Update Doubt) = true
is_faulted (outcome.Read answer front) = false

-- The status of results that are all printed: 7 where the device failed under an update, or else 1 where a line is unread, or else 0.
abbrev pub status_of : {R A : Type 0} → List (List (LineResult R A)) → ℕ
status_of results =
    if list_any (λ rs. list_any is_faulted rs) results then 7 else
    if list_any (λ rs. list_any is_unread rs) results then 1 else 0
