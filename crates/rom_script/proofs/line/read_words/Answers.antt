use Rattle.std.proofs.Common.{◌≡◌, ◌++◌, codes, sym, subst}
use Rattle.std.specs.Prelude.{MatchOption}
use Rattle.rom_model.specs.declared.line.Step.TheVariants.{Unread}
use Rattle.rom_script.specs.Asking.{Asks}
use Rattle.rom_script.specs.Lines.{ReadsTrio}
use Rattle.rom_script.proofs.Asking.{NoGroup, asked_reads, group_text, no_phrase_reads}
use Rattle.rom_script.proofs.line.read_words.Goals as goal

pub returns-in-Some : goal.returns-in-Some
returns-in-Some c =
    let line = c.args.line.now in
    let told = c.put_group.ensures in
    let begins = subst (λ o. MatchOption o (NoGroup line) (λ x. line ≡ codes "tx " ++ x.now)) c.in-Some.is (group_text line c.strip_prefix.result c.strip_prefix.ensures.cases) in
    record { reads = (told.0, told.1, subst (λ l. ReadsTrio l told.0) (sym begins) told.2) }

pub returns-in-Some-read_phrase : goal.returns-in-Some-read_phrase
returns-in-Some-read_phrase c =
    let line = c.args.line.now in
    let phrase = c.in-Some-read_phrase.phrase in
    let told = c.put_asked.ensures in
    let other = subst (λ o. MatchOption o (NoGroup line) (λ x. line ≡ codes "tx " ++ x.now)) c.in_default.is (group_text line c.strip_prefix.result c.strip_prefix.ensures.cases) in
    record {
      reads = (
        told.0,
        told.1,
        asked_reads line phrase.name.now phrase.numbers.items told.0 other c.in-Some-read_phrase.ensures.words c.in-Some-read_phrase.ensures.fit
            (subst (λ ns. Asks phrase.name.now ns told.0) c.deref.ensures.0 told.2),
      );
    }

pub returns-in-None : goal.returns-in-None
returns-in-None c =
    let line = c.args.line.now in
    let other = subst (λ o. MatchOption o (NoGroup line) (λ x. line ≡ codes "tx " ++ x.now)) c.in_default.is (group_text line c.strip_prefix.result c.strip_prefix.ensures.cases) in
    record { reads = (Unread, (λ i. Unread), no_phrase_reads line other c.in-None.ensures.none) }
