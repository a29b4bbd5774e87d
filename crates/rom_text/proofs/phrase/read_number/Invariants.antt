use Rattle.std.proofs.Common.{◌≡◌, ◌<◌, ◌^◌, take}
use Rattle.std.specs.Str.Parse.{AllDigits, digits_value}
use Rattle.rom_text.proofs.phrase.read_number.Given as goal

-- the bytes so far are digits, and they spell the number
abbrev pub invariant-loop-digit : goal.invariant-loop-digit
invariant-loop-digit l = record {
  digits : AllDigits 10 (take l.digit-index l.digits);
  value : digits_value 10 (take l.digit-index l.digits) ≡ l.number;
  fits : l.number < 2 ^ 64;
}
