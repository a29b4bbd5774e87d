use Rattle.std.proofs.Common.{◌∙◌, ℕ, List, arith, sym}
use Rattle.rom_device.specs.Laid.{word_among, words_among}
use Rattle.rom_device.specs.Run.{nth_of}
use Rattle.rom_device.proofs.Handing.{hands_same}
use Rattle.rom_device.proofs.Waiting.{nth_is}
use Rattle.rom_device.proofs.run.Run.write.Goals as goal

pub returns-clause-hands : goal.returns-clause-hands
returns-clause-hands g c =
    let run = c.args.self.now in
    let bytes : List ℕ = c.head.result.now in
    hands_same g.M.Medium.shown run.first (word_among bytes) (nth_of run) (words_among bytes) run.count c.args.medium.now c.write_at.new.self c.write_at.result (omega (arith, c.head.ensures.len)) (λ k lt. c.head.ensures.words k lt ∙ sym (nth_is run k lt)) c.write_at.ensures.hands
