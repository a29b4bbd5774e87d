use Rattle.std.proofs.Common.{◌≡◌, ℕ, Bool, true, false, List, inl, inr, length, refl, rules, sym, subst, arith}
use Rattle.std.specs.Prelude.{is_err, Result, Ok, Err}
use Rattle.std.specs.Io.KnownBytes.{Appends}
use Rattle.std.proofs.lemmas.List.{take_all}
use Rattle.rom_text.specs.Streams.{Prints, ShownSink}
use Rattle.rom_combine.specs.Shipping.{Ships}
use Rattle.rom_ship.specs.Streams.{sunk}
use Rattle.rom_ship.proofs.stream.write_on.Goals as goal

-- what is printed is handed on
printed : {K T E : Type 0} (shown : ShownSink K) (old new : K) (r : Result T E) (text : List ℕ) → Prints shown old new r text →
    Ships (sunk shown old false) (sunk shown new (is_err r)) text
printed shown old new (Ok t) text p = record {
  many = length text;
  front = subst (λ (bs : List ℕ). Appends (shown.taken old) (shown.taken new) bs) (sym (take_all (length text) text (omega arith))) p.bytes;
  whole = λ no. p.bytes;
  ended = λ no. absurd (let never : false ≡ true = no in cc);
  cause = inl (refl, p.cause.none);
}
printed shown old new (Err e) text p = record {
  many = p.bytes.0;
  front = p.bytes.1;
  whole = λ no. absurd (let never : true ≡ false = no in cc);
  ended = λ no. absurd (let never : false ≡ true = no in cc);
  cause = inr (refl, refl, p.cause.failed.once);
}

pub returns-then-not-failing : goal.returns-then-not-failing
returns-then-not-failing g c =
    let on : c.args.failing.now ≡ false = search rules in
    subst (λ (b : Bool × Bool). Ships (sunk g.K.Sink.shown c.args.sink.now b.0) (sunk g.K.Sink.shown c.print_bytes.new.out b.1) c.args.bytes.now)
    (λ j. (sym on j, sym c.is_err.ensures.value j))
    (printed g.K.Sink.shown c.args.sink.now c.print_bytes.new.out c.print_bytes.result c.args.bytes.now c.print_bytes.ensures.prints)
