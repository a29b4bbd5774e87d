-- What a stop may leave of a memory device after a write that was listed.
use Rattle.std.proofs.Common.{◌≡◌, inl, ℕ, ◌+◌, ◌<◌, Bool, true, false, ◌||◌, if◌then◌else◌, List, [], ◌∷◌, ◌++◌, length, reverse, nat_le, is_err, is_some, Result, refl, sym, ◌∙◌, subst, arith}
use Rattle.rom_device.specs.Device.{After, Does, WritesMany, WritesWord}
use Rattle.rom_device.specs.Laid.{firsts}
use Rattle.rom_device.specs.Log.{MayLeave}
use Rattle.rom_device.specs.Images.{length-MayLeave, length-words_after}
use Rattle.rom_device.specs.Memory.{shown_by_memory, start_of, calls_of, room_of, trips_of, keeps_new, trip_of, Lists}
use Rattle.rom_device.specs.declared.call.LoggedCall.{LoggedCall}
use Rattle.rom_device.specs.declared.call.LoggedCall.TheVariants.{Write}
use Rattle.rom_device.specs.declared.memory.Memory.{Memory}
use Rattle.rom_device.proofs.Synced.{newest}
use Rattle.rom_device.specs.Over.{length-firsts, at-firsts}
use Rattle.rom_device.specs.Doubt.{untold}
use Rattle.rom_device.proofs.Going.{runs_none}
use Rattle.rom_device.proofs.Many.{many_none, many_on}
use Rattle.rom_device.proofs.Laid.{many_split, many_empty, firsts_none}

module _ (start : List ℕ) (calls : List LoggedCall) (at value : ℕ) (lands : Bool) where
  abbrev made : Bool → List LoggedCall
  made full = if full then calls else calls ++ Write at value lands ∷ []

  stays_leaving : (full : Bool) (i : List ℕ) → MayLeave start (reverse calls) i → MayLeave start (reverse (made full)) i
  stays_leaving true i may = may
  stays_leaving false i may = subst (λ (log : List LoggedCall). MayLeave start log i) (sym (newest calls (calls ++ Write at value lands ∷ []) (Write at value lands) refl)) record { from = i; was = may; by = inl refl }

  now_leaving : (full : Bool) → full ≡ false → (i : List ℕ) → After (WritesWord at value) (MayLeave start (reverse calls)) i → MayLeave start (reverse (made full)) i
  now_leaving true is i after = absurd (cc)
  now_leaving false is i after = subst (λ (log : List LoggedCall). MayLeave start log i) (sym (newest calls (calls ++ Write at value lands ∷ []) (Write at value lands) refl)) after

or_false : (a b : Bool) → (a || b) ≡ false → a ≡ false
or_false true b is = is
or_false false b is = refl

module _ {T E : Type 0} (at value : ℕ) (old new : Memory) (result : Result T E) (lists : Lists (Write at value true) old new result) where
  abbrev lands : Bool
  lands = keeps_new (room_of old) (trips_of old) (trip_of (room_of old) (trips_of old) (calls_of old) (Write at value true))

  leaving_as : (i : List ℕ) → MayLeave (start_of old) (reverse (made (start_of old) (calls_of old) at value lands (nat_le (room_of old) (length (calls_of old))))) i → shown_by_memory.leaves new i
  leaving_as i may = subst (λ (start : List ℕ). MayLeave start (reverse (calls_of new)) i) (sym lists.rest.start) (subst (λ (calls : List LoggedCall). MayLeave (start_of old) (reverse calls) i) (sym lists.calls) may)

  pub write_keeps : (i : List ℕ) → shown_by_memory.leaves old i → shown_by_memory.leaves new i
  write_keeps i may = leaving_as i (stays_leaving (start_of old) (calls_of old) at value lands (nat_le (room_of old) (length (calls_of old))) i may)

  pub write_leaves : is_err result ≡ false → (i : List ℕ) → After (WritesWord at value) (shown_by_memory.leaves old) i → shown_by_memory.leaves new i
  write_leaves well i after = leaving_as i (now_leaving (start_of old) (calls_of old) at value lands (nat_le (room_of old) (length (calls_of old)))
      (or_false (nat_le (room_of old) (length (calls_of old))) (is_some (trip_of (room_of old) (trips_of old) (calls_of old) (Write at value true))) (sym lists.fails ∙ well)) i after)

-- one write more, of the next of these words
pub leaves_next : {T E : Type 0} (at : ℕ) (f : ℕ → ℕ) (n : ℕ) (first old new : Memory) (result : Result T E) → is_err result ≡ false → ((i : List ℕ) → shown_by_memory.leaves first i → at + n < length i)
    → Lists (Write (at + n) (f n) true) old new result
    → ((i : List ℕ) → After (WritesMany at (firsts f n)) (shown_by_memory.leaves first) i → shown_by_memory.leaves old i)
    → (i : List ℕ) → After (WritesMany at (firsts f (n + 1))) (shown_by_memory.leaves first) i → shown_by_memory.leaves new i
leaves_next at f n first old new result well inside lists so_far i after =
    let split = many_split at f n after.from i (inside after.from after.was) after.by in
    write_leaves (at + n) (f n) old new result lists well i record { from = split.mid; was = so_far split.mid record { from = after.from; was = after.was; by = split.many }; by = split.last }

pub does_none : (at : ℕ) (values : List ℕ) (a : Memory) → Does shown_by_memory (WritesMany at values) a a
does_none at values a = record { size = refl; words = λ told. many_none at values (shown_by_memory.words a); images = λ told. runs_none shown_by_memory (WritesMany at values) (many_none at values) a; doubts = λ never. untold never; fewer = λ b is. is }

pub leaves_first : (at : ℕ) (f : ℕ → ℕ) (a : Memory) (i : List ℕ) → After (WritesMany at (firsts f 0)) (shown_by_memory.leaves a) i → shown_by_memory.leaves a i
leaves_first at f a i after = subst (λ (l : List ℕ). shown_by_memory.leaves a l) (sym (many_empty at after.from i (subst (λ (vs : List ℕ). WritesMany at vs after.from i) (firsts_none f) after.by))) after.was

-- and of all of them together
pub does_next : (at : ℕ) (f : ℕ → ℕ) (n total value : ℕ) → n < total → value ≡ f n → (a b c : Memory) → Does shown_by_memory (WritesMany at (firsts f total)) a b → Does shown_by_memory (WritesWord (at + n) value) b c → Does shown_by_memory (WritesMany at (firsts f total)) a c
does_next at f n total value lt is a b c so_far write =
    many_on shown_by_memory at (firsts f total) n (omega (arith, lt, length-firsts f total)) a b c so_far
    (subst (λ (v : ℕ). Does shown_by_memory (WritesWord (at + n) v) b c) (is ∙ sym (at-firsts f total n lt)) write)

pub images_long : (m : Memory) (i : List ℕ) → shown_by_memory.leaves m i → length i ≡ length (shown_by_memory.words m)
images_long m i may = length-MayLeave (start_of m) (reverse (calls_of m)) i may ∙ sym (length-words_after (start_of m) (reverse (calls_of m)))
