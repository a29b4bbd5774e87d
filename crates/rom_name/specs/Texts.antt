-- What is printed of a stream that is refused, and of a copy that is made a primary.
use Rattle.std.specs.Prelude.{ℕ, ◌==◌, if◌then◌else◌, List, [], ◌∷◌, ◌++◌, codes, decimal, flat_map}
use Rattle.byteorder.specs.Endian.{big_bytes}
use Rattle.hex.specs.Hex.{encode_lower}
use Rattle.rom_frame.specs.declared.head.HeapName.{HeapName}
use Rattle.rom_text.specs.Text.{line_text}
use Rattle.rom_name.specs.declared.adoption.Adopted.{Adopted}
use Rattle.rom_name.specs.declared.adoption.AdoptRefused.{AdoptRefused}
use Rattle.rom_name.specs.declared.adoption.AdoptRefused.TheVariants as unadopted
use Rattle.rom_name.specs.declared.identity.Identity.{Identity}
use Rattle.rom_name.specs.declared.meeting.Refusal.{Refusal}
use Rattle.rom_name.specs.declared.meeting.Refusal.TheVariants.{NoName, OtherName, OlderEpoch, SkippedEpoch, Parted, Gap, Nameless}

-- a name is printed as 32 hexadecimal digits, the highest first
abbrev pub name_text : HeapName → List ℕ
name_text name = encode_lower (flat_map (big_bytes 8) (name.high ∷ name.low ∷ []))

-- why a stream is refused, without the LF
abbrev pub refusal_line : Refusal → List ℕ
refusal_line NoName = codes "refused: no name"
refusal_line (OtherName name) = codes "refused: another heap " ++ name_text name
refusal_line (OlderEpoch epoch have) = codes "refused: epoch " ++ decimal epoch ++ codes " is older than " ++ decimal have
refusal_line (SkippedEpoch epoch have) = codes "refused: epoch " ++ decimal epoch ++ codes " is more than one after " ++ decimal have
refusal_line (Parted since done) = codes "refused: parted at " ++ decimal since ++ codes ", count " ++ decimal done
refusal_line (Gap place) = codes "refused: lacks " ++ decimal place
refusal_line Nameless = codes "refused: nameless stream"

-- the line of a refusal
abbrev pub refusal_text : Refusal → List ℕ
refusal_text refusal = line_text (refusal_line refusal)

-- the line of an adoption
abbrev pub adopted_text : Adopted → List ℕ
adopted_text a = (codes "adopted " ++ name_text a.name) ++ line_text (codes " epoch " ++ decimal a.epoch ++ codes " at " ++ decimal a.count)

-- why a copy is made no primary, without the LF
abbrev pub unadopted_line : AdoptRefused → List ℕ
unadopted_line unadopted.NoHeap = codes "refused: not a heap"
unadopted_line unadopted.NoName = codes "refused: no name"
unadopted_line unadopted.LastEpoch = codes "refused: last epoch"
unadopted_line unadopted.Device = codes "device failed"

-- whose updates a heap that has a name holds
abbrev pub named_text : Identity → List ℕ
named_text i = (codes "name " ++ name_text i.name) ++ line_text (codes " epoch " ++ decimal i.epoch ++ codes " since " ++ decimal i.since)

-- the epoch of a heap that has a name, as a monitor reads it
abbrev pub epoch_text : Identity → List ℕ
epoch_text i = ((codes "# TYPE romulus_epoch gauge" ++ 10 ∷ codes "romulus_epoch{name=" ++ 34 ∷ []) ++ name_text i.name) ++ line_text ((34 ∷ codes "} ") ++ decimal i.epoch)

-- the line of an identity
abbrev pub identity_text : Identity → List ℕ
identity_text i = if i.name.high == 0 then line_text (codes "no name") else named_text i
