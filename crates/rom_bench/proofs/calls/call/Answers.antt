use Rattle.std.proofs.Common.{◌+◌, arith, sym, subst}
use Rattle.rom_model.specs.Region.{Contents}
use Rattle.rom_bench.proofs.calls.call.Goals as goal

pub apply-requires-clause-region : goal.apply-requires-clause-region
apply-requires-clause-region c =
    let r = c.requires.region in
    (r.1.state, r.1.count, r.1.contents, omega (arith, r.1.within, r.2))

pub returns-in-Update : goal.returns-in-Update
returns-in-Update c = record {
  region = λ n holds.
      let done = c.apply.ensures.done holds.state holds.count holds.contents in
      record { state = _; count = holds.count + 1; contents = done.1; within = omega (arith, holds.within) };
}

pub returns-in-Ask : goal.returns-in-Ask
returns-in-Ask c = record {
  region = λ n holds.
      let looks = c.answer.ensures.looks holds.state holds.count holds.contents in
      record {
        state = holds.state;
        count = holds.count;
        contents = subst (λ words. Contents 16 words holds.state holds.count) (sym looks.image) holds.contents;
        within = omega (arith, holds.within);
      };
}

pub returns-in-Unread : goal.returns-in-Unread
returns-in-Unread c = record {
  region = λ n holds.
      record { state = holds.state; count = holds.count; contents = holds.contents; within = omega (arith, holds.within) };
}
