use Rattle.std.proofs.Common.{rules, ◌≡◌, ◌⊎◌, ◌<◌, length, None, IfNone, Some, sym, subst}
use Rattle.rom_words.specs.Words.{said}
use Rattle.rom_words.specs.Words as spec
use Rattle.rom_words.proofs.Saying.{gives_next, gives_full, opens_next, stands_next, stands_full}
use Rattle.rom_words.proofs.said.read_said.Goals as goal

pub loop-word-preserved-in-Continue-1 : goal.loop-word-preserved-in-Continue-1
loop-word-preserved-in-Continue-1 c =
    gives_next _ c.loop-word.said c.add_option.new.self c.loop-word.ended c.loop-word.rest.now c.in-Some.word.now c.in-Some.behind.now c.in-Gives.name c.in-Gives.value
    c.loop-word.invariant (search rules) (search rules) (search rules) (search rules)

pub returns-in_err-add_option-in-Gives-clause-none : goal.returns-in_err-add_option-in-Gives-clause-none
returns-in_err-add_option-in-Gives-clause-none c =
    subst (λ o. IfNone o ((s : spec.Said) → said c.args.words.now None ≡ Some s → (17 < length s.plain) ⊎ (2 < length s.options))) (sym c.from_residual.ensures)
    (gives_full _ c.loop-word.said c.loop-word.ended c.loop-word.rest.now c.in-Some.word.now c.in-Some.behind.now c.in-Gives.name.now c.in-Gives.value.now
    c.loop-word.invariant (search rules) (search rules) (search rules))

pub loop-word-preserved-in-Opens : goal.loop-word-preserved-in-Opens
loop-word-preserved-in-Opens c =
    opens_next _ c.loop-word.said c.add_option-in-Opens.new.self c.loop-word.ended c.loop-word.rest.now c.in-Some.word.now c.in-Some.behind.now c.in_ok-value-in-Opens.behind.now c.in-Opens.name c.as_str-value.result
    c.loop-word.invariant (search rules) (search rules) (search rules) (search rules) (search rules) (search rules)

pub loop-word-preserved : goal.loop-word-preserved
loop-word-preserved c =
    stands_next _ c.loop-word.said c.add_plain.new.self c.loop-word.ended c.loop-word.rest.now c.as_str-word.result c.in-Some.behind.now
    c.loop-word.invariant (search rules) (search rules) (search rules) (search rules)

pub returns-in_err-add_plain-in-Stands-clause-none : goal.returns-in_err-add_plain-in-Stands-clause-none
returns-in_err-add_plain-in-Stands-clause-none c =
    subst (λ o. IfNone o ((s : spec.Said) → said c.args.words.now None ≡ Some s → (17 < length s.plain) ⊎ (2 < length s.options))) (sym c.from_residual-in_err-add_plain-in-Stands.ensures)
    (stands_full _ c.loop-word.said c.loop-word.ended c.loop-word.rest.now c.in-Some.word.now c.in-Some.behind.now
    c.loop-word.invariant (search rules) (search rules) (search rules))
