use Rattle.std.proofs.Common.{◌≡◌, ◌≤◌, ◌++◌, ◌∙◌, ap, length, arith}
use Rattle.rom_model.specs.declared.words.TheConstants.{REPLY_WORDS}
use Rattle.rom_lines.proofs.Replies.{fit_behind, results_behind}
use Rattle.rom_lines.proofs.results.Results.push_done.Goals as goal

pub invariant_of-self : goal.invariant_of-self
invariant_of-self g c =
    let wr = g.O.Object.machine.words_reply in
    let came : c.extend_from_slice.new.self.items ≡ c.self.inside.words.items ++ c.as_slice.result.now = rw c.unwrap.ensures at c.extend_from_slice.ensures.items in
    let e1 : c.len.result ≡ length c.args.words.now = c.len.ensures.many in
    let e2 : c.len-from.result ≡ length c.self.inside.words.items = c.len-from.ensures ∙ c.self.inside.words.ok.0 in
    let few : length c.args.words.now ≤ REPLY_WORDS = omega (arith, c.len.ensures.within, e1) in
    rw (came, c.push_reserved.ensures.items, c.as_slice.ensures.words, e1, e2)
    (fit_behind wr c.self.inside.words.items c.args.words.now c.self.inside.answers.items c.self.inside.cells.items c.args.place c.self.invariant.0 few c.requires.reply, omega (arith, c.self.invariant.1, c.push_reserved.ensures.len, c.push_reserved.ensures.capacity))

pub returns-clause-added : goal.returns-clause-added
returns-clause-added g c reply e =
    let wr = g.O.Object.machine.words_reply in
    let came : c.extend_from_slice.new.self.items ≡ c.self.inside.words.items ++ c.as_slice.result.now = rw c.unwrap.ensures at c.extend_from_slice.ensures.items in
    let e1 : c.len.result ≡ length c.args.words.now = c.len.ensures.many in
    let e2 : c.len-from.result ≡ length c.self.inside.words.items = c.len-from.ensures ∙ c.self.inside.words.ok.0 in
    rw (← ap (λ r. r.items) c.self.view_is, came, c.push_reserved.ensures.items, c.as_slice.ensures.words, e1, e2)
    (results_behind wr c.self.inside.words.items c.args.words.now c.self.inside.answers.items c.self.inside.cells.items c.args.place reply c.self.invariant.0 e)
