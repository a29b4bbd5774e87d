use Rattle.std.proofs.Common.{◌≡◌, ℕ, List, IfSome, subst}
use Rattle.rom_header.specs.Held.{Holds}
use Rattle.rom_name.proofs.Counted.{holds_stays}
use Rattle.rom_name.proofs.Headed.{held_before}
use Rattle.rom_name.proofs.heading.head_of.Goals as goal

pub returns-in_err-own-clause-keeps : goal.returns-in_err-own-clause-keeps
returns-in_err-own-clause-keeps g c order i j s k = holds_stays g.O.Object.Contents order i j s k

pub returns-in_default-clause-keeps : goal.returns-in_default-clause-keeps
returns-in_default-clause-keeps g c order i j s k = holds_stays g.O.Object.Contents order i j s k

pub returns-in_err-name-clause-keeps : goal.returns-in_err-name-clause-keeps
returns-in_err-name-clause-keeps g c order i j s k = holds_stays g.O.Object.Contents order i j s k

pub returns-clause-keeps : goal.returns-clause-keeps
returns-clause-keeps g c order i j s k = holds_stays g.O.Object.Contents order i j s k

pub returns-clause-first : goal.returns-clause-first
returns-clause-first g c told order s k held =
    let words = g.D.Device.shown.words in
    let was = words c.args.device.now in
    let read = words c.read_own.new.device in
    let only : read ≡ was = c.read_own.ensures.only.words told in
    let before : Holds g.O.Object.Contents order read s k = held_before g.O.Object.Contents order read (words c.name_heap.new.device) s k (c.name_heap.ensures.does.words told).only held in
    subst (λ own. IfSome own (λ o. o.count ≡ k)) c.in-Some.is (c.in_ok-own.ensures.holds told order s k (subst (λ (l : List ℕ). Holds g.O.Object.Contents order l s k) only before))
