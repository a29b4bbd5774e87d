use Rattle.std.proofs.Common.{◌≡◌, ℕ, ◌+◌, Bool, true, ◌&&◌, List, refl, sym, ◌∙◌, subst}
use Rattle.std.proofs.lemmas.Bool.{and_parts, eqb-true, not-false}
use lib.Dec.{eqb}
use Rattle.rom_steady.specs.Rule.{IsKept}
use Rattle.rom_steady.specs.Watched.{StoodAt}
use Rattle.rom_steady.proofs.Reading.{read_whole}
use Rattle.rom_steady.proofs.steady.read_once.Goals as goal

-- four words that are the same twice
four : (a b c d e f i j : ℕ) (r : Bool) → r ≡ (eqb a b && (eqb c d && (eqb e f && eqb i j))) → r ≡ true → (a ≡ b) × (c ≡ d) × (e ≡ f) × (i ≡ j)
four a b c d e f i j r is so =
    let one = and_parts (eqb a b) (eqb c d && (eqb e f && eqb i j)) (sym is ∙ so) in
    let two = and_parts (eqb c d) (eqb e f && eqb i j) one.1 in
    let three = and_parts (eqb e f) (eqb i j) two.1 in
    (eqb-true a b one.0, eqb-true c d two.0, eqb-true e f three.0, eqb-true i j three.1)

pub returns-clause-whole : goal.returns-clause-whole
returns-clause-whole g c stages told kept =
    let shown = g.W.Watched.shown in
    let order = c.args.geometry in
    let first = c.in_ok-names in
    let names = c.in_ok-names.names in
    let again = c.in_ok-read_names.field-0 in
    let old = c.in_ok-before.before in
    let same = four again.high names.high again.low names.low again.epoch names.epoch again.since names.since _ refl (not-false _ (sym c.ne.ensures ∙ c.if-ne.false)) in
    let b = c.read_names.new.words in
    let d = c.read_age.new.words in
    let at_b = c.read_names.ensures.later.words in
    let at_d = c.read_age.ensures.later.words ∙ at_b in
    let at_e = c.read_back.ensures.later.words ∙ at_d in
    let version = subst (λ p. StoodAt shown b d (p + 1) old.version) c.back.ensures (c.in_ok-before.ensures.version told) in
    let count = subst (λ p. StoodAt shown b d (p + 2) old.count) c.back.ensures (c.in_ok-before.ensures.count told) in
    read_whole shown order stages c.args.words.now b d c.read_back.new.words c.is_as_old.new.words c.read_names-2.new.words kept
    c.read_names.ensures.later c.read_age.ensures.later c.read_back.ensures.later c.is_as_old.ensures.later c.read_names-2.ensures.later
    names again old.version old.count c.read_back.new.image
    (first.ensures.high told) (first.ensures.low told) (first.ensures.epoch told) (first.ensures.since told) version count
    (λ region stood. c.in_ok-read_back.ensures.read stages region told (subst (λ (w : ℕ → List ℕ). IsKept order stages w) (sym at_d) kept) stood c.if-not-branch.false)
    (c.in_ok-is_as_old.ensures.committed stages told (subst (λ (w : ℕ → List ℕ). IsKept order stages w) (sym at_e) kept) c.if-not-branch-2.false)
    (c.in_ok-read_names.ensures.high told) (c.in_ok-read_names.ensures.low told) (c.in_ok-read_names.ensures.epoch told) (c.in_ok-read_names.ensures.since told) same
