use Rattle.std.proofs.Common.{◌∙◌, subst, Result, Ok, Err, IfOk, Bool}
use Rattle.std.specs.Prelude.{IsTrue}
use Rattle.rom_steady.specs.Watched.{StoodFrom}
use Rattle.rom_steady.proofs.Reading.{clash, read_twice, read_uncopied}
use Rattle.rom_steady.proofs.region.read_back.Goals as goal

-- what follows where it was found
ok_then : {E : Type 0} {A B : Type 0} (r : Result Bool E) → IfOk r (λ is. IsTrue is → A) → (A → B) → IfOk r (λ is. IsTrue is → B)
ok_then (Ok is) found next = λ yes. next (found yes)
ok_then (Err failed) found next = tt

pub returns-then-branch-clause-read : goal.returns-then-branch-clause-read
returns-then-branch-clause-read g c stages region told kept stood =
    let shown = g.W.Watched.shown in
    let n = c.args.geometry in
    let image = c.read_words.new.into in
    let main = subst (λ at. StoodFrom shown c.is_copying.new.words c.read_words.new.self at image) c.main.ensures (c.in_ok-read_words.ensures.read told) in
    ok_then c.are_words.result (c.are_words.ensures.found told)
    (λ found. read_twice shown n stages c.args.words.now c.is_copying.new.words c.read_words.new.self c.are_words.new.words kept c.is_copying.ensures.later c.read_words.ensures.later c.are_words.ensures.later image region stood
    main (subst (λ at. StoodFrom shown c.read_words.new.self c.are_words.new.words at image) c.back.ensures found) (c.read_words.ensures.len ∙ c.requires.image))

pub returns-clause-read : goal.returns-clause-read
returns-clause-read g c stages region told kept stood is =
    let shown = g.W.Watched.shown in
    let image = c.read_words-2.new.into in
    let state = c.in_ok-is_copying.ensures.state told in
    read_uncopied shown c.args.geometry stages c.args.words.now c.is_copying.new.words c.read_words-2.new.self kept c.is_copying.ensures.later c.read_words-2.ensures.later state.0 image region stood
    state.1 (λ e. clash c.in_ok-is_copying.field-0 (state.2.1 e) c.if-branch.false) (subst (λ at. StoodFrom shown c.is_copying.new.words c.read_words-2.new.self at image) c.back-2.ensures (c.in_ok-read_words-2.ensures.read told)) (c.read_words-2.ensures.len ∙ c.requires.image)
