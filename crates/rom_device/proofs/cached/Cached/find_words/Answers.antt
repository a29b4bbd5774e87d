use Rattle.std.proofs.Common.{◌≡◌, ◌+◌, ◌-◌, ◌<◌, ◌≤◌, ◌∙◌, ℕ, length, List, IfSome, false, arith, rules, slice_index, subst, ap}
use Rattle.rom_device.specs.Run.{word_of_run}
use Rattle.rom_device.specs.Cached.{shown_by_cached}
use Rattle.std.proofs.lemmas.List.{places}
use borrow.Rule.Slice.PartMut.{put_mid}
use Rattle.rom_device.proofs.Agreeing.{gives_word, none_some, not_true, waits_on}
use Rattle.rom_device.proofs.Reading.{reads_then}
use Rattle.rom_device.proofs.Copied.{places-put_mid, places-set}
use Rattle.rom_device.proofs.cached.Cached.find_words.Goals as goal

pub loop-done-preserved : goal.loop-done-preserved
loop-done-preserved g c =
    let at : ℕ = c.args.at in
    let done : ℕ = c.loop-done.done in
    let pending = c.loop-done.self.pending in
    let shown = shown_by_cached g.M.Medium.shown in
    record {
      within = search rules;
      len = search rules;
      waits = places-put_mid (λ k seen. IfSome (word_of_run pending (at + k)) (λ word. seen ≡ word)) done c.copy-ahead.result c.loop-done.into c.copy-ahead.new.into c.loop-done.invariant.within (omega (arith, c.copy-ahead.ensures.most, c.copy-ahead.ensures.len)) c.loop-done.invariant.waits
          (λ k lt. subst (λ (n : ℕ). IfSome (word_of_run pending n) (λ word. slice_index c.copy-ahead.new.into k ≡ word)) (omega arith) (c.copy-ahead.ensures.waits k lt));
      told = λ tells. places-put_mid (λ k seen. seen ≡ slice_index (shown.words c.args.self.now) (at + k)) done c.copy-ahead.result c.loop-done.into c.copy-ahead.new.into c.loop-done.invariant.within (omega (arith, c.copy-ahead.ensures.most, c.copy-ahead.ensures.len)) (c.loop-done.invariant.told tells)
          (λ k lt.
          let there : at + done + k ≡ at + (done + k) = omega arith in
          c.copy-ahead.ensures.told tells k lt ∙ ap (λ (x : List ℕ). slice_index x (at + done + k)) (c.loop-done.invariant.only.words tells) ∙ ap (λ (n : ℕ). slice_index (shown.words c.args.self.now) n) there);
      pending = search rules;
      none = λ gone. omega (arith, c.loop-done.invariant.none gone, c.copy-ahead.ensures.none (c.loop-done.invariant.missing ∙ gone));
      faults = search rules;
      only = search rules;
      missing = search rules;
      failed = search rules;
    }

pub returns-in_default-clause-only : goal.returns-in_default-clause-only
returns-in_default-clause-only g c = reads_then (shown_by_cached g.M.Medium.shown) c.args.self.now c.loop-done.self c.find.new.self c.loop-done.invariant.only c.find.ensures.only

pub loop-done-preserved-then-ahead-eq0 : goal.loop-done-preserved-then-ahead-eq0
loop-done-preserved-then-ahead-eq0 g c =
    let at : ℕ = c.args.at in
    let done : ℕ = c.loop-done.done in
    let into : List ℕ = c.loop-done.into in
    let copied : List ℕ = c.copy-ahead.new.into in
    let ahead : ℕ = c.copy-ahead.result in
    let shown = shown_by_cached g.M.Medium.shown in
    let most : ahead ≤ length copied = omega (arith, c.copy-ahead.ensures.most, c.copy-ahead.ensures.len) in
    let inside : done < length into = c.loop-done-test.true in
    let long : length (put_mid done (length into - done) into copied) ≡ length into = grind (arith, places) in
    let now = c.find.new.self.pending in
    let there : g.M.Medium.missing c.loop-done.self.medium ≡ false = not_true (g.M.Medium.missing c.loop-done.self.medium) (λ gone. none_some c.find.result c.in-Some.word (c.find.ensures.none gone) c.in-Some.is) in
    record {
      within = search rules;
      len = search rules;
      waits = places-set (λ k seen. IfSome (word_of_run now (at + k)) (λ word. seen ≡ word)) (done + ahead) (put_mid done (length into - done) into copied) c.in-Some.word (omega (arith, long, inside, c.if-ahead-eq0.true))
          (places-put_mid (λ k seen. IfSome (word_of_run now (at + k)) (λ word. seen ≡ word)) done ahead into copied c.loop-done.invariant.within most
          (λ k lt. waits_on c.loop-done.self.pending now (at + k) (slice_index into k) c.find.ensures.pending (c.loop-done.invariant.waits k lt)) (λ k lt. absurd (omega (arith, lt, c.if-ahead-eq0.true))))
          (waits_on c.loop-done.self.pending now (at + (done + ahead)) c.in-Some.word c.find.ensures.pending (gives_word (word_of_run c.loop-done.self.pending (at + (done + ahead))) c.find.result c.in-Some.word c.in-Some.is (c.find.ensures.waits there)));
      told = λ tells. places-set (λ k seen. seen ≡ slice_index (shown.words c.args.self.now) (at + k)) (done + ahead) (put_mid done (length into - done) into copied) c.in-Some.word (omega (arith, long, inside, c.if-ahead-eq0.true))
          (places-put_mid (λ k seen. seen ≡ slice_index (shown.words c.args.self.now) (at + k)) done ahead into copied c.loop-done.invariant.within most (c.loop-done.invariant.told tells) (λ k lt. absurd (omega (arith, lt, c.if-ahead-eq0.true))))
          (c.in-Some.ensures.word tells ∙ ap (λ (x : List ℕ). slice_index x (at + (done + ahead))) (c.loop-done.invariant.only.words tells));
      pending = search rules;
      none = λ gone. absurd (none_some c.find.result c.in-Some.word (c.find.ensures.none (c.loop-done.invariant.missing ∙ gone)) c.in-Some.is);
      faults = search rules;
      only = reads_then shown c.args.self.now c.loop-done.self c.find.new.self c.loop-done.invariant.only c.find.ensures.only;
      missing = search rules;
      failed = search rules;
    }
