use Rattle.std.proofs.Common.{◌≤◌, subst, arith}
use Rattle.rom_lines.specs.Steps.{need}
use Rattle.rom_store.specs.Taking.{HasTakenOne, HasTakenWords, words_taken}
use Rattle.rom_store.specs.declared.work.Taken.TheVariants as taken
use Rattle.rom_store.proofs.Taking.{pushed}
use Rattle.rom_store.proofs.work.take_line.Goals as goal

pub push_update-requires-clause-reply : goal.push_update-requires-clause-reply
push_update-requires-clause-reply g c =
    let m = g.O.Object.machine in let line = c.requires.line in
    subst (λ z. HasTakenWords m.words_reply z c.take_one.new.told) c.in-Update.is (c.take_one.ensures.taken line.0 line.1).replied

pub push_update-requires-clause-room : goal.push_update-requires-clause-room
push_update-requires-clause-room g c =
    let m = g.O.Object.machine in let line = c.requires.line in
    let few = subst (λ z. words_taken m.words_reply z c.take_one.new.told ≤ need m.call_words line.0) c.in-Update.is (c.take_one.ensures.taken line.0 line.1).few in
    omega (arith, few, line.3)

pub returns-in-Update-clause-of : goal.returns-in-Update-clause-of
returns-in-Update-clause-of g c = (c.take_one.ensures.taken c.requires.line.0 c.requires.line.1).of

pub returns-in-Update-clause-number : goal.returns-in-Update-clause-number
returns-in-Update-clause-number g c = (c.take_one.ensures.taken c.requires.line.0 c.requires.line.1).number

pub returns-in-Update-clause-done : goal.returns-in-Update-clause-done
returns-in-Update-clause-done g c = λ asks says.
    let o = g.O.Object in let was = c.args.pass.now in let now = c.take_one.new.pass in let told = c.take_one.new.told in
    pushed o.machine o.Contents g.N.Label.base asks was now g.N.Label.table (taken.Update c.in-Update.became) told c.args.results.now c.push_update.new.self
    (subst (λ z. HasTakenOne o.machine o.Contents g.N.Label.base g.N.Label.table asks z told was now) c.in-Update.is (c.take_one.ensures.taken asks says)) c.push_update.ensures.added c.push_update.ensures.room

pub returns-in-Read-clause-of : goal.returns-in-Read-clause-of
returns-in-Read-clause-of g c = (c.take_one.ensures.taken c.requires.line.0 c.requires.line.1).of

pub returns-in-Read-clause-number : goal.returns-in-Read-clause-number
returns-in-Read-clause-number g c = (c.take_one.ensures.taken c.requires.line.0 c.requires.line.1).number

pub returns-in-Read-clause-done : goal.returns-in-Read-clause-done
returns-in-Read-clause-done g c = λ asks says.
    let o = g.O.Object in let was = c.args.pass.now in let now = c.take_one.new.pass in let told = c.take_one.new.told in
    pushed o.machine o.Contents g.N.Label.base asks was now g.N.Label.table (taken.Read c.in-Read.answer c.in-Read.front) told c.args.results.now c.push_read.new.self
    (subst (λ z. HasTakenOne o.machine o.Contents g.N.Label.base g.N.Label.table asks z told was now) c.in-Read.is (c.take_one.ensures.taken asks says)) c.push_read.ensures.added c.push_read.ensures.room

pub returns-in-Unread-clause-of : goal.returns-in-Unread-clause-of
returns-in-Unread-clause-of g c = (c.take_one.ensures.taken c.requires.line.0 c.requires.line.1).of

pub returns-in-Unread-clause-number : goal.returns-in-Unread-clause-number
returns-in-Unread-clause-number g c = (c.take_one.ensures.taken c.requires.line.0 c.requires.line.1).number

pub returns-in-Unread-clause-done : goal.returns-in-Unread-clause-done
returns-in-Unread-clause-done g c = λ asks says.
    let o = g.O.Object in let was = c.args.pass.now in let now = c.take_one.new.pass in let told = c.take_one.new.told in
    pushed o.machine o.Contents g.N.Label.base asks was now g.N.Label.table taken.Unread told c.args.results.now c.push_unread.new.self
    (subst (λ z. HasTakenOne o.machine o.Contents g.N.Label.base g.N.Label.table asks z told was now) c.in-Unread.is (c.take_one.ensures.taken asks says)) c.push_unread.ensures.added c.push_unread.ensures.room
