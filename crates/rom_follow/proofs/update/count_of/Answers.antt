use Rattle.std.proofs.Common.{◌≡◌, [], length, ap, ◌∙◌, arith}
use Rattle.rom_model.specs.Seen.{done_in}
use Rattle.rom_rule.specs.declared.views.View.{View}
use Rattle.rom_follow.proofs.Alone.{same_seen, seen_is_done}
use Rattle.rom_follow.proofs.update.count_of.Goals as goal

pub returns-clause-alone : goal.returns-clause-alone
returns-clause-alone g c = record {
  one = c.requires.alone.one;
  formed = c.requires.alone.formed;
  numbered = record { of = c.query-peeked.ensures.of; number = c.query-peeked.ensures.same.2 ∙ c.requires.alone.numbered.number };
  nobody = ap (λ (v : View). v.joined) {y = record c.args.pass.now.view { seen = c.query-peeked.new.pass.view.seen; moments = c.query-peeked.new.pass.view.moments; fronts = c.query-peeked.new.pass.view.fronts; steps = c.query-peeked.new.pass.view.steps }} c.query-peeked.ensures.still ∙ c.requires.alone.nobody;
}

pub returns-clause-none : goal.returns-clause-none
returns-clause-none g c =
    let formed = c.requires.alone.formed in
    let none : c.query-peeked.new.pass.view.outcomes ≡ [] = ap (λ (v : View). v.outcomes) {y = record c.args.pass.now.view { seen = c.query-peeked.new.pass.view.seen; moments = c.query-peeked.new.pass.view.moments; fronts = c.query-peeked.new.pass.view.fronts; steps = c.query-peeked.new.pass.view.steps }} c.query-peeked.ensures.still ∙ c.requires.none in
    (none, same_seen formed.1 c.query-peeked.new.pass.view.seen [] (seen_is_done g.N.Label.table g.N.Label.base c.query-peeked.new.pass formed.0 formed.1 (returns-clause-alone g c) formed.2 ∙ ap done_in none))

pub returns-clause-count : goal.returns-clause-count
returns-clause-count g c s k held =
    let none = returns-clause-none g c in
    omega (arith, c.query-peeked.ensures.front s k held, ap length none.1)
