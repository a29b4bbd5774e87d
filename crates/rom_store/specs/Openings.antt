-- What contracts see of a heap that is opened for callers, and what is left of one that is not.
use Rattle.std.specs.Prelude.{◌≡◌, ℕ, ◌≤◌, List, [], Ok, Err, IsTrue}
use Rattle.atomic_table.specs.Seated.{TableId}
use Rattle.rom_model.specs.VecSpace.{words_of_space}
use Rattle.rom_model.specs.declared.unfit.Unfit.{Unfit}
use Rattle.rom_device.specs.Device.{IsSynced, Leaves, ShownDevice}
use Rattle.rom_header.specs.Held.{Holds}
use Rattle.rom_header.specs.Layout.{words_needed}
use Rattle.rom_header.specs.Regions.{IsCurrentRegion}
use Rattle.rom_recover.specs.Recovered.{IsDone, Mended}
use Rattle.rom_open.specs.AtRest.{IsHeapAtRest}
use Rattle.rom_open.specs.Calls.{HasOpeningFaults, OpeningCalls, is_late}
use Rattle.rom_open.specs.Refusals.{IsRefusal, NamesTooFew, named_order}
use Rattle.rom_open.specs.Within.{CallsOfOrder, WithinOpening}
use Rattle.rom_open.specs.declared.reasons.Why.{Why}
use Rattle.rom_combine.specs.Costs.{WithinHeap}
use Rattle.rom_twin.specs.declared.phase.Phase.TheVariants.{Clean}
use Rattle.rom_combine.specs.AtRest.{Locked}
use Rattle.rom_rule.specs.Views.{base_of, opening_plan, plan_of}
use Rattle.rom_rule.specs.declared.law.Key.{Key}
use Rattle.rom_store.specs.Callers.{Caller}
use Rattle.rom_store.specs.declared.begun.Begun.{Begun}

-- the table and its key, the device, and the callers
pub record Started (D : Type 0) : Type 0 where
  pub table_id : TableId
  pub key : Key
  pub device : D
  pub passes : List Caller

-- The core is of this table, as it was just made: nothing was published and no pass begun, the device needs no repair and no call of it has failed since, and the heap that it began with is the one that the key tells, whose image stands for some state and count and counts in each image that a stop leaves now.
pub record IsOpening {D S : Type 0} (shown : ShownDevice D) (Contents : ℕ → List ℕ → S → ℕ → Type 0) (table : TableId) (key : Key) (c : Locked D) (begun : Begun) : Type 0 where
  pub in_table : (c.table_id ≡ table) × (c.view.base ≡ base_of key)
  pub order : c.twin.order ≡ (base_of key).order
  pub formed : (let b = base_of key in (s : S) × (k : ℕ) × Contents b.order b.image s k)
  pub now : IsTrue shown.tells_images → (i : List ℕ) → shown.leaves c.twin.device i → IsCurrentRegion (base_of key).order i (base_of key).image
  pub clean : c.twin.phase ≡ Clean
  pub plan : plan_of c.view ≡ record (opening_plan c.view.base) { dealt = (plan_of c.view).dealt }
  pub alone : c.view.joined ≡ []
  pub order_is : begun.order ≡ (base_of key).order
  pub image_is : words_of_space begun.image.value ≡ (base_of key).image
  pub faults_is : begun.faults ≡ (base_of key).faults
  pub faults_now : shown.faults c.twin.device ≡ begun.faults

-- The heap on a device was not opened, for this reason, and the device is handed back.
pub record HasBeenRefused {D S : Type 0} (shown : ShownDevice D) (Contents : ℕ → List ℕ → S → ℕ → Type 0) (Rejects : ℕ → List ℕ → Unfit → Type 0) (was now : D) (why : Why) : Type 0 where
  -- it is the first test that fails, and too few words are told by their number
  pub refused : IsTrue shown.tells_words → IsRefusal Contents Rejects (shown.words was) why
  pub sizes : NamesTooFew (shown.size was) why
  -- the device has its length, of its words only the state and the two regions differ, and the same region counts wherever a stop is
  pub size : shown.size now ≡ shown.size was
  pub outside : IsTrue shown.tells_words → WithinHeap (named_order (shown.words was)) (shown.words was) (shown.words now)
  pub images : IsTrue shown.tells_images → Leaves shown (Mended (named_order (shown.words was)) (shown.words was)) was now
  -- after a region of version 1 or one that is malformed, or for want of memory, it has been recovered
  pub recovered : IsTrue shown.tells_words → IsTrue (is_late why) → IsDone (named_order (shown.words was)) (shown.words was) (shown.words now)
  pub certain : IsTrue (is_late why) → IsSynced shown now
  -- it was called as often as an opening calls it that ends so, which is no more than any does, and not after a call that failed
  pub calls : IsTrue shown.tells_words → OpeningCalls {T = Unit {0}} shown (shown.words was) was now (Err why)
  pub within : WithinOpening shown was now
  pub faults : HasOpeningFaults {T = Unit {0}} (Err why) (shown.faults was) (shown.faults now) (shown.failing now)

-- The heap on a device was opened, and the callers' table has its image.
pub record HasOpenedHeap {D S : Type 0} (shown : ShownDevice D) (Contents : ℕ → List ℕ → S → ℕ → Type 0) (was : D) (o : Started D) : Type 0 where
  -- the heap has the order that the device's header names, and the device has room for it
  pub order : IsTrue shown.tells_words → (base_of o.key).order ≡ named_order (shown.words was)
  pub fits : words_needed (base_of o.key).order ≤ shown.size was
  -- What the image stands for is what the device's words held before, and what they hold now.
  pub held : IsTrue shown.tells_words → (s : S) (k : ℕ) → Contents (base_of o.key).order (base_of o.key).image s k → Holds Contents (base_of o.key).order (shown.words was) s k
  pub holds : IsTrue shown.tells_words → (s : S) (k : ℕ) → Contents (base_of o.key).order (base_of o.key).image s k → Holds Contents (base_of o.key).order (shown.words o.device) s k
  -- Each image that a stop might have left by now could be left before, or holds what the image stands for, in the region that counted.
  pub held_images : IsTrue shown.tells_images → (s : S) (k : ℕ) → Contents (base_of o.key).order (base_of o.key).image s k → Leaves shown (λ i. Holds Contents (base_of o.key).order i s k) was o.device
  pub images : IsTrue shown.tells_images → Leaves shown (Mended (named_order (shown.words was)) (shown.words was)) was o.device
  -- no write is unsynced: where images are told, a stop leaves the words as they read
  pub certain : IsSynced shown o.device
  -- the device has its length, and of its words only the state and the two regions of the heap may differ
  pub size : shown.size o.device ≡ shown.size was
  pub outside : IsTrue shown.tells_words → WithinHeap (named_order (shown.words was)) (shown.words was) (shown.words o.device)
  -- no call of the device failed, and its count of faults is the one that the session begins with
  pub faults : (shown.faults o.device ≡ shown.faults was) × ((base_of o.key).faults ≡ shown.faults was)
  -- the device is at rest: its state is IDLE, and both regions are the image
  pub rest : IsTrue shown.tells_words → IsHeapAtRest (base_of o.key).order (base_of o.key).image (shown.words o.device)
  -- The device was called exactly as an opening of these words calls it: under IDLE, no write and one sync. That is no more than one opening calls it, and under IDLE every word stays; also where words are not told, it is no more than the longest opening of a heap of this order calls it.
  pub calls : IsTrue shown.tells_words → OpeningCalls {T = Unit {0}} shown (shown.words was) was o.device (Ok tt)
  pub within : WithinOpening shown was o.device
  pub by_order : CallsOfOrder shown (base_of o.key).order was o.device
