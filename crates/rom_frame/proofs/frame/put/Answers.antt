use Rattle.std.proofs.Common.{◌≡◌, ◌<◌, ◌^◌, length, ap, ◌∙◌, arith}
use Rattle.std.proofs.lemmas.List.{take_at}
use Rattle.std.proofs.lemmas.List.Elements.{All-from_get_or}
use Rattle.std.specs.Prelude.{flat_map}
use Rattle.byteorder.specs.Endian.{little_bytes}
use Rattle.rom_frame.specs.Frames.{bytes_of}
use Rattle.rom_frame.proofs.Coded.{length-bytes_of}
use Rattle.rom_frame.proofs.frame.put.Goals as goal

pub returns-clause-bytes : goal.returns-clause-bytes
unfolding bytes_of
returns-clause-bytes c =
    let is : c.write_u64_into.new.dst ≡ flat_map (little_bytes 8) c.args.words.now = c.write_u64_into.ensures in
    take_at c.write_u64_into.new.dst _ _ (omega (arith, ap length is, length-bytes_of c.args.words.now)) ∙ is

pub returns-clause-small : goal.returns-clause-small
returns-clause-small c = All-from_get_or (λ w. w < 2 ^ 64) c.args.words.now 0 (λ i within. omega (arith, c.type_inv.words i))
