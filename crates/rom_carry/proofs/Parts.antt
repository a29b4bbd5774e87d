-- The parts of lines: each is a script within the limits, and they are all lines.
use Rattle.std.proofs.Common.{◌≡◌, ℕ, zero, suc, ◌+◌, ◌-◌, ◌*◌, ◌<◌, ◌≤◌, List, [], ◌∷◌, ◌++◌, length, take, drop, refl, sym, ◌∙◌, ap, subst, arith}
use Rattle.std.specs.List.{AllByRecursion, flat_map}
use Rattle.std.proofs.Math.Nat.{mul-le-mul_right, suc-mul}
use Rattle.std.proofs.lemmas.Grind.{flat_map-append}
use Rattle.std.proofs.lemmas.List.{drop-drop, drop_all, length-take, take-append-drop}
use Rattle.rom_text.specs.Limits.{FitsScript}
use Rattle.rom_text.specs.Text.{line_text}
use Rattle.rom_carry.specs.Carried.{AreWritten, Bounds}
use Rattle.rom_carry.specs.Scripts.{part_of, parts_from, parts_of, script_of}
use Rattle.rom_carry.proofs.Carrying.{all_drop, all_take, script_lines, script_short}

-- a part is within what a script may have
pub part_fits : (bounds : Bounds) (number : ℕ) (lines : List (List ℕ)) → AreWritten bounds lines → bounds.part * (bounds.longest + 1) ≤ 1048576 → bounds.part ≤ 131072 → FitsScript (script_of (part_of bounds.part number lines))
part_fits bounds number lines written room few =
    let at = (number - 1) * bounds.part in
    let part = part_of bounds.part number lines in
    let most : length part ≤ bounds.part = omega (arith, length-take bounds.part (drop at lines)) in
    let short = script_short bounds.longest part (all_take _ bounds.part (drop at lines) (all_drop _ at lines written.short)) in
    let all = script_lines part (all_take _ bounds.part (drop at lines) (all_drop _ at lines written.plain)) in
    let times = mul-le-mul_right (bounds.longest + 1) most in
    (omega (arith, short, times, room), omega (arith, ap length all, most, few))

-- the scripts of the parts from that one on are the script of the lines from there on
parts_behind : (many m number more : ℕ) (lines : List (List ℕ)) → number ≡ m + 1 → length lines ≤ (m + more) * many → flat_map (λ script. script) (parts_from many number more lines) ≡ script_of (drop (m * many) lines)
parts_behind many m number zero lines is few = let e : m + 0 ≡ m = omega arith in sym (ap script_of (drop_all (m * many) lines (subst (λ k. length lines ≤ k * many) e few)))
parts_behind many m number (suc more) lines is few =
    let before : number - 1 ≡ m = omega (arith, is) in
    let e : m + suc more ≡ (m + 1) + more = omega arith in
    let next : m + 1 ≡ suc m = omega arith in
    let behind : (m + 1) * many ≡ m * many + many = ap (λ k. k * many) next ∙ suc-mul m many in
    (λ i. script_of (take many (drop (before i * many) lines)) ++ flat_map (λ script. script) (parts_from many (number + 1) more lines))
    ∙ ap (λ script. script_of (take many (drop (m * many) lines)) ++ script) (parts_behind many (m + 1) (number + 1) more lines (omega (arith, is)) (subst (λ k. length lines ≤ k * many) e few) ∙ ap (λ k. script_of (drop k lines)) behind ∙ ap script_of (sym (drop-drop many (m * many) lines)))
    ∙ sym (flat_map-append line_text (take many (drop (m * many) lines)) (drop many (drop (m * many) lines)))
    ∙ ap script_of (take-append-drop many (drop (m * many) lines))

-- the parts are all lines
pub parts_whole : (bounds : Bounds) (lines : List (List ℕ)) → length lines ≤ bounds.part * bounds.parts → script_of lines ≡ flat_map (λ script. script) (parts_of bounds.part bounds.parts lines)
parts_whole bounds lines few =
    let first : 0 * bounds.part ≡ 0 = omega arith in
    sym (parts_behind bounds.part 0 1 bounds.parts lines refl (omega (arith, few)) ∙ ap (λ k. script_of (drop k lines)) first)
