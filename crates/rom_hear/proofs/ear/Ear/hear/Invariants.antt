use Rattle.std.proofs.Common.{ℕ, List}
use Rattle.rom_hear.specs.Hearing.{AsksOnce, IsAt}
use Rattle.rom_hear.specs.declared.ear.Next.TheVariants as nexts
use Rattle.rom_hear.proofs.Hearing.{HasHeardOn}
use Rattle.rom_hear.proofs.ear.Ear.hear.Given as goal

-- in each round so far more was asked for, and nothing was handed out
abbrev pub invariant-loop-round : goal.invariant-loop-round
invariant-loop-round g l =
    let log = g.P.Peer.shown.log in
    record {
      heard : (lines : List (List ℕ)) → IsAt l.fn.self (log l.fn.peer) lines → HasHeardOn l.self (log l.fn.peer) (log l.peer) lines l._round;
      asks : AsksOnce g.P.Peer.shown l.fn.self l.self l.fn.peer l.peer nexts.Line;
    }
