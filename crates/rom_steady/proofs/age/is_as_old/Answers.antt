use Rattle.std.proofs.Common.{◌≡◌, ◌≢◌, ◌⊎◌, ℕ, ◌+◌, inl, inr, refl, sym, ◌∙◌, subst, arith}
use Rattle.std.proofs.lemmas.Bool.{not-false}
use Rattle.rom_header.specs.Layout.{MAIN, back_at}
use Rattle.rom_steady.specs.Rule.{Stage, IsKept}
use Rattle.rom_steady.specs.Seen.{CommittedNoOlder}
use Rattle.rom_steady.specs.Watched.{ShownWatched, IsLater, StoodAt}
use Rattle.rom_steady.proofs.Reading.{alike, clash, found_young}
use Rattle.rom_steady.proofs.age.is_as_old.Goals.{else-branch-via-then-branch+in_ok-read_age+else-ne, else-branch-via-else-branch}
use Rattle.rom_steady.proofs.age.is_as_old.Goals as goal

-- the age that was found again is the one from before
again : {W : Type 0} (shown : ShownWatched W) (order : ℕ) (stages : ℕ → Stage) (a b c d : W) → IsKept order stages (shown.words a) → IsLater shown a b → IsLater shown b c → IsLater shown c d → (word version count found_version found_count back : ℕ) → StoodAt shown a b 3 word →
    (word ≢ 2) ⊎ (StoodAt shown b c (MAIN + 1) version × StoodAt shown b c (MAIN + 2) count) → back ≡ back_at order → StoodAt shown c d (back + 1) found_version → StoodAt shown c d (back + 2) found_count → (found_version ≡ version) × (found_count ≡ count) →
    CommittedNoOlder order stages (shown.words a) (shown.now a) (shown.now d) (version + count)
again shown order stages a b c d kept ab bc cd word version count found_version found_count back state main at_back v n same =
    found_young shown order stages a b c d kept ab bc cd word version count state main
    (subst (λ p. StoodAt shown c d (p + 1) version) at_back (subst (λ x. StoodAt shown c d (back + 1) x) same.0 v))
    (subst (λ p. StoodAt shown c d (p + 2) count) at_back (subst (λ x. StoodAt shown c d (back + 2) x) same.1 n))

pub returns-clause-committed : goal.returns-clause-committed
returns-clause-committed g c stages told kept is =
    let shown = g.W.Watched.shown in
    let order = c.args.geometry in
    let state = c.in_ok-is_copying.ensures.state told in
    let old = c.in_ok-read_age-2.field-0 in
    let same = alike old.version c.args.before.version old.count c.args.before.count c.eq.result c.eq.ensures is in
    let v = c.in_ok-read_age-2.ensures.version told in
    let n = c.in_ok-read_age-2.ensures.count told in
    elim c.else-branch.branch [
      | else-branch-via-then-branch+in_ok-read_age+else-ne w ↦
          let main_age = w.in_ok-read_age.field-0 in
          let main_same = alike main_age.version c.args.before.version main_age.count c.args.before.count _ refl (not-false _ (sym w.ne.ensures ∙ w.if-ne.false)) in
          let later : IsLater shown c.is_copying.new.words c.else-branch.words = subst (λ x. IsLater shown c.is_copying.new.words x) (sym w.words-is) w.read_age.ensures.later in
          let at_version = subst (λ x. StoodAt shown c.is_copying.new.words x (MAIN + 1) c.args.before.version) (sym w.words-is) (subst (λ x. StoodAt shown c.is_copying.new.words w.read_age.new.words (MAIN + 1) x) main_same.0 (subst (λ p. StoodAt shown c.is_copying.new.words w.read_age.new.words (p + 1) main_age.version) w.main.ensures (w.in_ok-read_age.ensures.version told))) in
          let at_count = subst (λ x. StoodAt shown c.is_copying.new.words x (MAIN + 2) c.args.before.count) (sym w.words-is) (subst (λ x. StoodAt shown c.is_copying.new.words w.read_age.new.words (MAIN + 2) x) main_same.1 (subst (λ p. StoodAt shown c.is_copying.new.words w.read_age.new.words (p + 2) main_age.count) w.main.ensures (w.in_ok-read_age.ensures.count told))) in
          again shown order stages _ _ _ _ kept c.is_copying.ensures.later later c.read_age-2.ensures.later state.0 c.args.before.version c.args.before.count old.version old.count c.back.result state.1 (inr (at_version, at_count)) c.back.ensures v n same
      | else-branch-via-else-branch w ↦
          let later : IsLater shown c.is_copying.new.words c.else-branch.words = subst (λ x. IsLater shown c.is_copying.new.words x) (sym w.words-is) (record { size = refl; later = omega arith; words = refl }) in
          let other : state.0 ≢ 2 = λ e. clash c.in_ok-is_copying.field-0 (state.2.1 e) w.if-branch.false in
          again shown order stages _ _ _ _ kept c.is_copying.ensures.later later c.read_age-2.ensures.later state.0 c.args.before.version c.args.before.count old.version old.count c.back.result state.1 (inl other) c.back.ensures v n same
    ]
