use Rattle.std.proofs.Common.{IsSome, subst, refl, sym}
use Rattle.rom_lines.specs.Steps.{IsLine}
use Rattle.rom_store.proofs.Taking.{took_none, took_read, took_update}
use Rattle.rom_store.proofs.work.take_one.Goals as goal

pub update_words-requires-clause-call : goal.update_words-requires-clause-call
update_words-requires-clause-call g c = let is = subst (IsLine g.O.Object.machine.words_call c.requires.line.0) c.in-Update.is c.requires.line.1 in subst IsSome (sym is.2) refl

pub update_words-requires-clause-few : goal.update_words-requires-clause-few
update_words-requires-clause-few g c = let is = subst (IsLine g.O.Object.machine.words_call c.requires.line.0) c.in-Update.is c.requires.line.1 in is.3

pub returns-in-Update : goal.returns-in-Update
returns-in-Update g c = record {
  taken = λ asks says.
      let o = g.O.Object in
      let is = subst (IsLine o.machine.words_call asks) c.in-Update.is says in
      let words = c.in-Update.words.now in
      let told = c.update_words.ensures in
      took_update o.machine o.Contents g.N.Label.base asks c.args.pass.now c.update_words.new.pass g.met.O.Object.one_contents g.N.Label.table is.0 words c.update_words.result c.update_words.new.told is.1 (g.met.O.Object.call_only words is.0 is.2) c.requires.few told.updated told.replied told.room;
}

pub returns-in-Ask : goal.returns-in-Ask
returns-in-Ask g c = record {
  taken = λ asks says.
      let o = g.O.Object in
      took_read o.machine o.Contents g.N.Label.base asks c.args.pass.now c.read-answer.new.pass g.N.Label.table c.in-Ask.query c.read-answer.result.0 c.read-answer.result.1 c.args.told.now (subst (IsLine o.machine.words_call asks) c.in-Ask.is says) c.read-answer.ensures.answered;
}

pub returns-in-Unread : goal.returns-in-Unread
returns-in-Unread g c = record {
  taken = λ asks says.
      let o = g.O.Object in
      took_none o.machine o.Contents g.N.Label.base asks c.args.pass.now g.N.Label.table c.args.told.now (subst (IsLine o.machine.words_call asks) c.in-Unread.is says) c.requires.of;
}
