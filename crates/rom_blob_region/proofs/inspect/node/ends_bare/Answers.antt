use Rattle.std.proofs.Common.{◌≡◌, ℕ, ◌+◌, ◌/◌, ◌%◌, ◌^◌, Bool, false, ◌∙◌, sym, ap}
use Rattle.std.specs.Prelude.{slice_index, ◌==◌, ◌||◌}
use Rattle.std.proofs.lemmas.Bool.{ne_eqb}
use Rattle.rom_blob_region.proofs.Numbers.{bits}
use Rattle.rom_blob_region.proofs.inspect.node.ends_bare.Goals as goal

pub returns-else-rest-eq0 : goal.returns-else-rest-eq0
returns-else-rest-eq0 c =
    let rest = c.args.len % 8 in
    let last = slice_index c.args.region.now (c.args.at + c.args.len / 8) in
    let some : (rest == 0) ≡ false = ne_eqb rest 0 c.if-rest-eq0.false in
    ap (λ (p : ℕ). last / p == 0) (bits rest) ∙ sym (ap (λ (t : Bool). t || (last / 256 ^ rest == 0)) some)
