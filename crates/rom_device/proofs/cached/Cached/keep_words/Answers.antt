use Rattle.std.proofs.Common.{◌≡◌, inl, inr, ◌+◌, ◌-◌, ℕ, Option, Some, IfSome, arith, rules, slice_index, subst, sym}
use Rattle.std.proofs.lemmas.Bool.{cases_lt}
use Rattle.rom_device.specs.Run.{word_of_run}
use Rattle.rom_device.specs.Windows.{word_in}
use Rattle.rom_device.specs.Cached.{shown_by_cached}
use Rattle.rom_device.proofs.Many.{many_on, many_only, renewed_on, renewed_still}
use Rattle.rom_device.proofs.Passing.{now_written, still_written, writes_up_to}
use Rattle.rom_device.proofs.Caching.{length-with_run}
use Rattle.rom_device.proofs.cached.Cached.keep_words.Goals as goal

pub returns-then-not-keep-clause-written : goal.returns-then-not-keep-clause-written
returns-then-not-keep-clause-written g c told =
    let shown = shown_by_cached g.M.Medium.shown in
    still_written c.args.at c.loop-index.index (slice_index c.args.values.now c.loop-index.index) c.args.values.now (shown.words c.loop-index.self) (shown.words c.keep.new.self) (c.keep.ensures.does.words told) (c.loop-index.invariant.written told)

pub returns-then-not-keep-clause-failed_at : goal.returns-then-not-keep-clause-failed_at
returns-then-not-keep-clause-failed_at g c told less =
    let shown = shown_by_cached g.M.Medium.shown in
    let now = c.loop-index.self in
    writes_up_to c.args.at c.loop-index.index c.args.values.now (shown.words c.args.self.now) (shown.words now) (shown.words c.keep.new.self)
    (omega (arith, length-with_run now.pending (g.M.Medium.shown.words now.medium), now.long told, c.loop-index.invariant.does.size, c.requires, c.loop-index-test.true))
    (c.loop-index.invariant.only told) (c.loop-index.invariant.written told) (c.keep.ensures.does.words told)

pub returns-then-not-keep-clause-does : goal.returns-then-not-keep-clause-does
returns-then-not-keep-clause-does g c =
    many_on (shown_by_cached g.M.Medium.shown) c.args.at c.args.values.now c.loop-index.index c.loop-index-test.true c.args.self.now c.loop-index.self c.keep.new.self c.loop-index.invariant.does c.keep.ensures.does

pub returns-then-not-keep-clause-renews : goal.returns-then-not-keep-clause-renews
returns-then-not-keep-clause-renews g c =
    renewed_still (shown_by_cached g.M.Medium.shown) c.args.at c.loop-index.index c.loop-index.self c.keep.new.self c.keep.ensures.does.fewer c.loop-index.invariant.renews

pub loop-index-preserved : goal.loop-index-preserved
loop-index-preserved g c =
    let index : ℕ = c.loop-index.index in
    let shown = shown_by_cached g.M.Medium.shown in
    let now = c.loop-index.self in
    record {
      windows = record {
        here = λ k lt. elim (cases_lt k index) [
          | inl less ↦ subst (λ (o : Option ℕ). IfSome o (λ word. word ≡ slice_index c.args.values.now k)) (sym (c.keep.ensures.others (c.args.at + k) (λ same. omega (arith, less, same)))) (c.loop-index.invariant.windows.here k less)
          | inr not_less ↦
              let is : index ≡ k = omega (arith, lt, not_less) in
              subst (λ (n : ℕ). IfSome (word_in c.keep.new.self.windows (c.args.at + n)) (λ word. word ≡ slice_index c.args.values.now n)) is c.if-not-keep.ensures.window
        ];
        before = search rules;
        behind = search rules;
      };
      waits = λ some.
          let last : index + 1 - 1 ≡ index = omega arith in
          subst (λ (n : ℕ). word_of_run c.keep.new.self.pending (c.args.at + n) ≡ Some (slice_index c.args.values.now n)) (sym last) c.if-not-keep.ensures.waits;
      does = many_on shown c.args.at c.args.values.now index c.loop-index-test.true c.args.self.now now c.keep.new.self c.loop-index.invariant.does c.keep.ensures.does;
      renews = renewed_on shown c.args.at index now c.keep.new.self c.keep.ensures.does.fewer c.loop-index.invariant.renews c.if-not-keep.ensures.renews;
      only = λ told. many_only c.args.at index (slice_index c.args.values.now index) (shown.words c.args.self.now) (shown.words now) (shown.words c.keep.new.self) (c.loop-index.invariant.only told) (inr (c.if-not-keep.ensures.written told));
      written = λ told. now_written c.args.at index c.args.values.now (shown.words now) (shown.words c.keep.new.self)
          (omega (arith, length-with_run now.pending (g.M.Medium.shown.words now.medium), now.long told, c.loop-index.invariant.does.size, c.requires, c.loop-index-test.true)) (c.if-not-keep.ensures.written told) (c.loop-index.invariant.written told);
      none = search rules;
      faults = search rules;
      missing = search rules;
      failed = search rules;
    }
