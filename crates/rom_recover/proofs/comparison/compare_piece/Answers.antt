use Rattle.std.proofs.Common.{◌≡◌, ℕ, ◌+◌, arith, subst}
use Rattle.rom_recover.specs.Recovered.{AreTwins}
use Rattle.rom_recover.proofs.Pieces.{differ_at, twins_on}
use Rattle.rom_recover.proofs.comparison.compare_piece.Goals as goal

pub returns-in-Some-clause-twins : goal.returns-in-Some-clause-twins
returns-in-Some-clause-twins g c told =
    differ_at c.args.geometry c.args.from (c.main.result + c.args.from) (c.back.result + c.args.from) c.read_words.result c.read_words-read.result _ _ c.read_words.new.into c.read_words-read.new.into _ _
    (omega (arith, c.main.ensures)) (omega (arith, c.back.ensures)) (c.read_words.ensures.only.words told)
    (omega (arith, c.if-read_words-count.false, c.read_words-read.ensures.counts.within)) (omega (arith, c.read_words.ensures.counts.within, c.read_words.ensures.len))
    (omega (arith, c.read_words-read.ensures.counts.within, c.read_words-read.ensures.len)) (c.read_words.ensures.read told) (c.read_words-read.ensures.read told)
    c.in-Some.index (c.requires.idle told) (omega (arith, c.requires.within, c.read_words.ensures.counts.within)) (c.requires.so_far told)
    c.in-Some.ensures.within c.in-Some.ensures.differ c.in-Some.ensures.first

pub returns-clause-same : goal.returns-clause-same
returns-clause-same g c told =
    let read : ℕ = c.read_words-read.result in
    let all : read ≡ c.args.count = omega (arith, c.if-read-count.false, c.read_words-read.ensures.counts.within) in
    subst (λ (n : ℕ). AreTwins c.args.geometry (c.args.from + n) (g.D.Device.shown.words c.args.device.now)) all
    (twins_on c.args.geometry c.args.from (c.main.result + c.args.from) (c.back.result + c.args.from) c.read_words.result read _ _ c.read_words.new.into c.read_words-read.new.into _ _
    (omega (arith, c.main.ensures)) (omega (arith, c.back.ensures)) (c.read_words.ensures.only.words told)
    (omega (arith, c.if-read_words-count.false, c.read_words-read.ensures.counts.within)) (omega (arith, c.read_words.ensures.counts.within, c.read_words.ensures.len))
    (omega (arith, c.read_words-read.ensures.counts.within, c.read_words-read.ensures.len)) (c.read_words.ensures.read told) (c.read_words-read.ensures.read told)
    read (omega arith) (c.requires.so_far told) c.in_default.ensures.none)
