use Rattle.std.proofs.Common.{◌≡◌, ◌+◌, ◌-◌, ◌*◌, ◌++◌, ◌∷◌, [], ap, ◌∙◌, arith}
use Rattle.rom_script.specs.Drill.{put_line}
use Rattle.rom_script.proofs.Drills.{four_more}
use Rattle.rom_script.proofs.drill.push_keys.Goals as goal

pub returns-clause-lines : goal.returns-clause-lines
returns-clause-lines c =
    let key = 4 * (c.args.caller - 1) in
    let second : key + 2 ≡ key + 1 + 1 = omega arith in
    let third : key + 3 ≡ key + 1 + 1 + 1 = omega arith in
    four_more c.args.script.now.items c.push_key.new.script.items c.push_key-2.new.script.items c.push_key-3.new.script.items c.push_key-4.new.script.items
    (put_line key) (put_line (key + 1)) (put_line (key + 1 + 1)) (put_line (key + 1 + 1 + 1))
    c.in_ok-push_key.ensures
    c.in_ok-push_key-2.ensures
    (c.in_ok-push_key-3.ensures ∙ ap (λ k. c.push_key-2.new.script.items ++ put_line k ∷ []) second)
    (c.in_ok-push_key-4.ensures ∙ ap (λ k. c.push_key-3.new.script.items ++ put_line k ∷ []) third)
