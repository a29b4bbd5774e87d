-- Whether the stream that a head begins may be followed on a heap.
use Rattle.std.specs.Prelude.{◌≡◌, ◌≢◌, ℕ, ◌+◌, ◌<◌, ◌≤◌}
use Rattle.rom_frame.specs.declared.head.Head.{Head}
use Rattle.rom_name.specs.Identities.{IsNamed}
use Rattle.rom_name.specs.declared.identity.Identity.{Identity}
use Rattle.rom_name.specs.declared.meeting.Meeting.{Meeting}
use Rattle.rom_name.specs.declared.meeting.Meeting.TheVariants.{Follow, Take, Raise, Refused}
use Rattle.rom_name.specs.declared.meeting.Refusal.{Refusal}
use Rattle.rom_name.specs.declared.meeting.Refusal.TheVariants.{NoName, OtherName, OlderEpoch, SkippedEpoch, Parted, Gap, Nameless}

-- Of a heap that has this identity and did so many updates, and of the stream whose head this is:
module _ (own : Identity) (count : ℕ) (h : Head) where
  -- Nothing was done on the heap, which has no name, and the stream begins with the first update of a heap that has one.
  pub record IsNewFor : Type 0 where
    pub unnamed : IsNamed own.name → ⊥
    pub named : IsNamed h.name
    pub none : count ≡ 0
    pub whole : h.first ≡ 0

  -- Both are of one heap, which has a name.
  pub record IsOfSameHeap : Type 0 where
    pub named : IsNamed own.name
    pub same : own.name ≡ h.name

  -- They are, and the stream is of the heap's own epoch, and lacks no update behind those that were done.
  pub record MayFollow : Type 0 where
    pub heap : IsOfSameHeap
    pub epoch : h.epoch ≡ own.epoch
    pub enough : h.first ≤ count

  -- They are, the stream is of the heap's next epoch, which began behind what was done here, and it lacks no update.
  pub record MayRaise : Type 0 where
    pub heap : IsOfSameHeap
    pub next : h.epoch ≡ own.epoch + 1
    pub together : count ≤ h.since
    pub enough : h.first ≤ count

  -- Why the stream is refused.
  abbrev pub IsRefusedFor : Refusal → Type 0
  IsRefusedFor NoName = (IsNamed own.name → ⊥) × (IsNewFor → ⊥)
  IsRefusedFor (OtherName name) = IsNamed own.name × (own.name ≢ h.name) × (name ≡ h.name)
  IsRefusedFor (OlderEpoch epoch have) = IsOfSameHeap × (h.epoch < own.epoch) × (epoch ≡ h.epoch) × (have ≡ own.epoch)
  IsRefusedFor (SkippedEpoch epoch have) = IsOfSameHeap × (own.epoch + 1 < h.epoch) × (epoch ≡ h.epoch) × (have ≡ own.epoch)
  IsRefusedFor (Parted since done) = IsOfSameHeap × (h.epoch ≡ own.epoch + 1) × (h.since < count) × (since ≡ h.since) × (done ≡ count)
  IsRefusedFor (Gap place) = IsOfSameHeap × (own.epoch ≤ h.epoch) × (h.epoch ≤ own.epoch + 1) × (own.epoch < h.epoch → count ≤ h.since) × (count < h.first) × (place ≡ count)
  IsRefusedFor Nameless = ⊥

  -- What is done of the stream.
  abbrev pub IsMeeting : Meeting → Type 0
  IsMeeting Follow = MayFollow
  IsMeeting (Take identity) = IsNewFor × (identity ≡ record { name = h.name; epoch = h.epoch; since = h.since })
  IsMeeting (Raise epoch since) = MayRaise × (epoch ≡ h.epoch) × (since ≡ h.since)
  IsMeeting (Refused refusal) = IsRefusedFor refusal
