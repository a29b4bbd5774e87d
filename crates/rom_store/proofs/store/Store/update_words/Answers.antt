-- What the caller takes are the words of what one pass told of its call.
use Rattle.std.proofs.Common.{◌≡◌, ◌∙◌, ◌+◌, ◌*◌, ◌∷◌, ◌<◌, ◌≤◌, List, ℕ, ap, arith, length, refl, subst, sym}
use Rattle.rom_model.specs.History.{LAST_COUNT}
use Rattle.rom_model.specs.Lawful.{as_words}
use Rattle.rom_model.specs.declared.call.Updated.{Updated}
use Rattle.rom_model.specs.declared.call.Updated.TheVariants as updated
use Rattle.rom_lines.specs.Replies.{HasReplyWords, updated_as}
use Rattle.rom_rule.specs.Calls.{answer_words, packed}
use Rattle.rom_rule.specs.declared.views.View.{View}
use Rattle.rom_store.proofs.Becoming.{IsReadBack, IsWithinPlaces, became_is, call_steps, done_reply, few_beside, none_undone}
use Rattle.rom_store.specs.Callers.{Caller, caller_at}
use Rattle.rom_store.proofs.Telling.{IsTaken, posted_same, told_all, told_few, told_some}
use Rattle.rom_store.proofs.store.Store.update_words.Given.{Over}
use Rattle.rom_store.proofs.store.Store.update_words.Goals as goal

pub post_words-requires-clause-call : goal.post_words-requires-clause-call
post_words-requires-clause-call g c s k = call_steps g.O.Object.machine c.args.words.now c.requires.call _ s k

-- what its pass told it
was_told : (g : Over) (c : goal.After-became_of g) → (u : Updated _) × IsWithinPlaces u × IsReadBack g.O.Object.machine u × (answer_words (as_words g.O.Object.machine u) ≡ c.take_into-word.result ∷ packed c.take_into-word.new.reply)
was_told g c = told_some g.O.Object.machine g.O.Object.Contents g.met.O.Object.reply_back c.post_words.new.seat.token.me.0 c.await_answer.new.seat.token.me.0 c.await_answer.ensures.told _ c.take_into-word.ensures.answer

became : (g : Over) (c : goal.After-became_of g) → (updated_as g.O.Object.machine.words_reply c.became_of.result c.take_into-word.new.reply ≡ (was_told g c).0) × HasReplyWords g.O.Object.machine.words_reply c.became_of.result c.take_into-word.new.reply
became g c = let told = was_told g c in became_is g.O.Object.machine told.0 c.became_of.result c.take_into-word.result c.take_into-word.new.reply told.1 told.2 told.3 c.became_of.ensures

told_words : (g : Over) (c : goal.After-became_of g) → answer_words (as_words g.O.Object.machine (updated_as g.O.Object.machine.words_reply c.became_of.result c.take_into-word.new.reply)) ≡ c.take_into-word.result ∷ packed c.take_into-word.new.reply
told_words g c = subst (λ u. answer_words (as_words g.O.Object.machine u) ≡ c.take_into-word.result ∷ packed c.take_into-word.new.reply) (sym (became g c).0) (was_told g c).3

taken : (g : Over) (c : goal.After-became_of g) → IsTaken g.O.Object.machine g.O.Object.Contents g.N.Label.base c.args.pass.now.view c.post_words.new.seat.token.me.0 c.await_answer.new.seat.token.me.0
    c.take_into-word.new.seat.token.me.0 c.args.words.now (updated_as g.O.Object.machine.words_reply c.became_of.result c.take_into-word.new.reply)
taken g c =
    let inside : View = c.pass.inside.seat.token.me.0 in
    let old : View = c.args.pass.now.view in
    let was : inside ≡ old = λ i. (c.pass.view_is i).view in
    let words = c.args.words.now in
    record {
      base_is = c.requires.of.base_is;
      idle = subst (λ (z : View). length z.calls ≡ length z.outcomes) was c.pass.invariant.1;
      laid = packed words;
      steps = inside.steps + length words + 2;
      posts = posted_same inside old c.post_words.new.seat.token.me.0 words words (packed words) (inside.steps + length words + 2) c.post_words.ensures.posted was refl;
      told_of = c.await_answer.ensures.told;
      more = c.await_answer.new.seat.token.me.0.steps + length c.take_into-word.new.reply + 2;
      takes = c.take_into-word.ensures.still;
      answer = c.take_into-word.result ∷ packed c.take_into-word.new.reply;
      taken = c.take_into-word.ensures.answer;
      told = told_words g c;
      low = subst IsWithinPlaces (sym (became g c).0) (was_told g c).1;
    }

pub returns-clause-updated : goal.returns-clause-updated
returns-clause-updated g c =
    let inside : Caller = caller_at c.pass.inside.seat in
    let was : inside ≡ c.args.pass.now = c.pass.view_is in
    let kept = c.take_into-word.ensures.same.0 ∙ (c.await_answer.ensures.same.0 ∙ (c.post_words.ensures.same.0 ∙ ap (λ (p : Caller). p.table_id) was)) in
    let taken_so = taken g c in
    let few : length c.args.pass.now.view.outcomes < LAST_COUNT = omega (arith, taken_so.idle, c.pass.inside.seat.counted, ap (λ (p : Caller). length p.view.calls) was) in
    told_all g.O.Object.machine g.O.Object.Contents g.met.O.Object.one_contents g.N.Label.table g.N.Label.base c.args.pass.now (caller_at c.take_into-word.new.seat) _ _ c.args.words.now _
    taken_so c.requires.of.table_is kept few

pub returns-clause-replied : goal.returns-clause-replied
returns-clause-replied g c = (became g c).1

pub returns-clause-reply : goal.returns-clause-reply
returns-clause-reply g c = λ place done.
    let m = g.O.Object.machine in
    let read = done_reply m g.met.O.Object.reply_only c.became_of.result c.take_into-word.new.reply place (became g c).1 done in
    ap (as_words m) read.1 ∙ ap (λ (ws : List ℕ). updated.Done ws place) read.2

pub returns-clause-none : goal.returns-clause-none
returns-clause-none g c why undone = none_undone g.O.Object.machine c.became_of.result c.take_into-word.result c.take_into-word.new.reply (told_words g c) why undone

pub returns-clause-room : goal.returns-clause-room
returns-clause-room g c =
    let m = g.O.Object.machine in
    few_beside m c.became_of.result c.take_into-word.result c.take_into-word.new.reply (2 * length c.args.words.now) (told_words g c) (λ place done.
    let read = done_reply m g.met.O.Object.reply_only c.became_of.result c.take_into-word.new.reply place (became g c).1 done in
    subst (λ ws. length ws ≤ 2 * length c.args.words.now) read.2 (told_few m g.O.Object.Contents _ _ _ _ _ _ _ (taken g c) g.met.O.Object.reply_few read.0 place read.1))
