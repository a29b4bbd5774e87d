use Rattle.std.proofs.Common.{◌≡◌, ◌∙◌, ◌<◌, ◌≤◌, length, codes, Some, ap, sym, subst}
use Rattle.clap.specs.Words.{found_of}
use Rattle.rom_words.specs.Wanted.{AsksForFew, named, texts}
use Rattle.rom_words.specs.Words.{Try, Run, Format, Stat, Upgrade, Drill}
use Rattle.rom_words.specs.declared.words.CommandAsked.TheVariants as asked
use Rattle.rom_words.proofs.Values.{asked_for, is_there, number_first, the_same, value_first, values_all}
use Rattle.rom_words.proofs.words.read_found.Goals as goal

pub names_at-requires : goal.names_at-requires
names_at-requires c =
    let has = asked_for (found_of c.args.found.now) c.args.asked.now (asked.Try c.in-Try.field-0) c.in-Try.is c.requires.matched in
    is_there _ _ (values_all (found_of c.args.found.now) (codes "SCRIPT") (texts c.in-Try.field-0.items) has)

pub name_at-requires : goal.name_at-requires
name_at-requires c =
    let has = asked_for (found_of c.args.found.now) c.args.asked.now (asked.Run c.in-Run.file c.in-Run.scripts) c.in-Run.is c.requires.matched in
    is_there _ _ (value_first (found_of c.args.found.now) (codes "FILE") c.in-Run.file.now has.0)

pub names_at-requires-in-Run : goal.names_at-requires-in-Run
names_at-requires-in-Run c =
    let has = asked_for (found_of c.args.found.now) c.args.asked.now (asked.Run c.in-Run.file c.in-Run.scripts) c.in-Run.is c.requires.matched in
    is_there _ _ (values_all (found_of c.args.found.now) (codes "SCRIPT") (texts c.in-Run.scripts.items) has.1)

pub name_at-requires-in-Format : goal.name_at-requires-in-Format
name_at-requires-in-Format c =
    let has = asked_for (found_of c.args.found.now) c.args.asked.now (asked.Format c.in-Format.file c.in-Format.order) c.in-Format.is c.requires.matched in
    is_there _ _ (value_first (found_of c.args.found.now) (codes "FILE") c.in-Format.file.now has.0)

pub number_at-order-requires : goal.number_at-order-requires
number_at-order-requires c =
    let has = asked_for (found_of c.args.found.now) c.args.asked.now (asked.Format c.in-Format.file c.in-Format.order) c.in-Format.is c.requires.matched in
    is_there _ _ (number_first (found_of c.args.found.now) (codes "order") 4 16 c.in-Format.order has.1)

pub name_at-requires-in-Stat : goal.name_at-requires-in-Stat
name_at-requires-in-Stat c =
    let has = asked_for (found_of c.args.found.now) c.args.asked.now (asked.Stat c.in-Stat.field-0) c.in-Stat.is c.requires.matched in
    is_there _ _ (value_first (found_of c.args.found.now) (codes "FILE") c.in-Stat.field-0.now has)

pub name_at-requires-in-Upgrade : goal.name_at-requires-in-Upgrade
name_at-requires-in-Upgrade c =
    let has = asked_for (found_of c.args.found.now) c.args.asked.now (asked.Upgrade c.in-Upgrade.field-0) c.in-Upgrade.is c.requires.matched in
    is_there _ _ (value_first (found_of c.args.found.now) (codes "FILE") c.in-Upgrade.field-0.now has)

pub number_at-start-requires : goal.number_at-start-requires
number_at-start-requires c =
    let has = asked_for (found_of c.args.found.now) c.args.asked.now (asked.Drill c.in-Drill.start c.in-Drill.callers c.in-Drill.calls) c.in-Drill.is c.requires.matched in
    is_there _ _ (number_first (found_of c.args.found.now) (codes "START") 0 18446744073709551615 c.in-Drill.start has.0)

pub number_at-callers-requires : goal.number_at-callers-requires
number_at-callers-requires c =
    let has = asked_for (found_of c.args.found.now) c.args.asked.now (asked.Drill c.in-Drill.start c.in-Drill.callers c.in-Drill.calls) c.in-Drill.is c.requires.matched in
    is_there _ _ (number_first (found_of c.args.found.now) (codes "callers") 1 16 c.in-Drill.callers has.1)

pub number_at-calls-requires : goal.number_at-calls-requires
number_at-calls-requires c =
    let has = asked_for (found_of c.args.found.now) c.args.asked.now (asked.Drill c.in-Drill.start c.in-Drill.callers c.in-Drill.calls) c.in-Drill.is c.requires.matched in
    is_there _ _ (number_first (found_of c.args.found.now) (codes "calls") 1 10000 c.in-Drill.calls has.2)

pub returns-in_ok-names_at-in-Try-clause-named : goal.returns-in_ok-names_at-in-Try-clause-named
returns-in_ok-names_at-in-Try-clause-named c =
    let has = asked_for (found_of c.args.found.now) c.args.asked.now (asked.Try c.in-Try.field-0) c.in-Try.is c.requires.matched in
    let scripts : c.in_ok-names_at-in-Try.field-0 ≡ texts c.in-Try.field-0.items = the_same _ _ (sym c.in_ok-names_at-in-Try.ensures ∙ values_all (found_of c.args.found.now) (codes "SCRIPT") (texts c.in-Try.field-0.items) has) in
    ap (λ scripts. Some (Try scripts)) scripts ∙ ap (λ a. named (Some a)) (sym c.in-Try.is)

pub returns-in_ok-names_at-in-Try-clause-few : goal.returns-in_ok-names_at-in-Try-clause-few
returns-in_ok-names_at-in-Try-clause-few c =
    let has = asked_for (found_of c.args.found.now) c.args.asked.now (asked.Try c.in-Try.field-0) c.in-Try.is c.requires.matched in
    let few : AsksForFew (asked.Try c.in-Try.field-0) = subst (λ a. AsksForFew a) c.in-Try.is c.requires.few in
    let scripts : c.in_ok-names_at-in-Try.field-0 ≡ texts c.in-Try.field-0.items = the_same _ _ (sym c.in_ok-names_at-in-Try.ensures ∙ values_all (found_of c.args.found.now) (codes "SCRIPT") (texts c.in-Try.field-0.items) has) in
    subst (λ names. (0 < length names) × (length names ≤ 16)) (sym scripts) few

pub returns-in_ok-scripts-in-Run-clause-few : goal.returns-in_ok-scripts-in-Run-clause-few
returns-in_ok-scripts-in-Run-clause-few c =
    let has = asked_for (found_of c.args.found.now) c.args.asked.now (asked.Run c.in-Run.file c.in-Run.scripts) c.in-Run.is c.requires.matched in
    let few : AsksForFew (asked.Run c.in-Run.file c.in-Run.scripts) = subst (λ a. AsksForFew a) c.in-Run.is c.requires.few in
    let scripts : c.in_ok-scripts-in-Run.scripts ≡ texts c.in-Run.scripts.items = the_same _ _ (sym c.in_ok-scripts-in-Run.ensures ∙ values_all (found_of c.args.found.now) (codes "SCRIPT") (texts c.in-Run.scripts.items) has.1) in
    subst (λ names. (0 < length names) × (length names ≤ 16)) (sym scripts) few

pub returns-in_ok-scripts-in-Run-clause-named : goal.returns-in_ok-scripts-in-Run-clause-named
returns-in_ok-scripts-in-Run-clause-named c =
    let has = asked_for (found_of c.args.found.now) c.args.asked.now (asked.Run c.in-Run.file c.in-Run.scripts) c.in-Run.is c.requires.matched in
    let file : c.in_ok-file-in-Run.file ≡ c.in-Run.file.now = the_same _ _ (sym c.in_ok-file-in-Run.ensures ∙ value_first (found_of c.args.found.now) (codes "FILE") c.in-Run.file.now has.0) in
    let scripts : c.in_ok-scripts-in-Run.scripts ≡ texts c.in-Run.scripts.items = the_same _ _ (sym c.in_ok-scripts-in-Run.ensures ∙ values_all (found_of c.args.found.now) (codes "SCRIPT") (texts c.in-Run.scripts.items) has.1) in
    (λ i. Some (Run (file i) (scripts i))) ∙ ap (λ a. named (Some a)) (sym c.in-Run.is)

pub returns-in_ok-file-in-Format-clause-named : goal.returns-in_ok-file-in-Format-clause-named
returns-in_ok-file-in-Format-clause-named c =
    let has = asked_for (found_of c.args.found.now) c.args.asked.now (asked.Format c.in-Format.file c.in-Format.order) c.in-Format.is c.requires.matched in
    let file : c.in_ok-file-in-Format.file ≡ c.in-Format.file.now = the_same _ _ (sym c.in_ok-file-in-Format.ensures ∙ value_first (found_of c.args.found.now) (codes "FILE") c.in-Format.file.now has.0) in
    let order : c.number_at-order.result ≡ c.in-Format.order = the_same _ _ (sym c.number_at-order.ensures.number ∙ number_first (found_of c.args.found.now) (codes "order") 4 16 c.in-Format.order has.1) in
    (λ i. Some (Format (file i) (order i))) ∙ ap (λ a. named (Some a)) (sym c.in-Format.is)

pub returns-in_ok-name_at-in-Stat-clause-named : goal.returns-in_ok-name_at-in-Stat-clause-named
returns-in_ok-name_at-in-Stat-clause-named c =
    let has = asked_for (found_of c.args.found.now) c.args.asked.now (asked.Stat c.in-Stat.field-0) c.in-Stat.is c.requires.matched in
    let file : c.in_ok-name_at-in-Stat.field-0 ≡ c.in-Stat.field-0.now = the_same _ _ (sym c.in_ok-name_at-in-Stat.ensures ∙ value_first (found_of c.args.found.now) (codes "FILE") c.in-Stat.field-0.now has) in
    ap (λ file. Some (Stat file)) file ∙ ap (λ a. named (Some a)) (sym c.in-Stat.is)

pub returns-in_ok-name_at-in-Upgrade-clause-named : goal.returns-in_ok-name_at-in-Upgrade-clause-named
returns-in_ok-name_at-in-Upgrade-clause-named c =
    let has = asked_for (found_of c.args.found.now) c.args.asked.now (asked.Upgrade c.in-Upgrade.field-0) c.in-Upgrade.is c.requires.matched in
    let file : c.in_ok-name_at-in-Upgrade.field-0 ≡ c.in-Upgrade.field-0.now = the_same _ _ (sym c.in_ok-name_at-in-Upgrade.ensures ∙ value_first (found_of c.args.found.now) (codes "FILE") c.in-Upgrade.field-0.now has) in
    ap (λ file. Some (Upgrade file)) file ∙ ap (λ a. named (Some a)) (sym c.in-Upgrade.is)

pub returns-in-Drill-clause-named : goal.returns-in-Drill-clause-named
returns-in-Drill-clause-named c =
    let has = asked_for (found_of c.args.found.now) c.args.asked.now (asked.Drill c.in-Drill.start c.in-Drill.callers c.in-Drill.calls) c.in-Drill.is c.requires.matched in
    let start : c.number_at-start.result ≡ c.in-Drill.start = the_same _ _ (sym c.number_at-start.ensures.number ∙ number_first (found_of c.args.found.now) (codes "START") 0 18446744073709551615 c.in-Drill.start has.0) in
    let callers : c.number_at-callers.result ≡ c.in-Drill.callers = the_same _ _ (sym c.number_at-callers.ensures.number ∙ number_first (found_of c.args.found.now) (codes "callers") 1 16 c.in-Drill.callers has.1) in
    let calls : c.number_at-calls.result ≡ c.in-Drill.calls = the_same _ _ (sym c.number_at-calls.ensures.number ∙ number_first (found_of c.args.found.now) (codes "calls") 1 10000 c.in-Drill.calls has.2) in
    (λ i. Some (Drill (start i) (callers i) (calls i))) ∙ ap (λ a. named (Some a)) (sym c.in-Drill.is)
