use Rattle.std.proofs.Common.{arith}
use Rattle.rom_plain_rows.proofs.long.is_ready.Goals as goal

pub returns-in-Ok : goal.returns-in-Ok
returns-in-Ok c =
    let fit = c.in-Ok.ensures.fit in
    (record { least = omega (arith, c.if-order-lt4.false); most = omega (arith, c.if-order-gt16.false) }, fit.0, fit.1, fit.2, omega (arith, fit.2.1.count_is, c.if-words-ge-LAST_COUNT.false))
