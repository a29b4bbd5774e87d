use Rattle.std.proofs.Common.{◌≡◌, ℕ, sym, subst, ◌∙◌}
use Rattle.rom_model.specs.Region.{Contents}
use Rattle.rom_model.specs.State.{State}
use Rattle.rom_model.specs.Story.{Story}
use Rattle.rom_model.specs.Trio.{trio}
use Rattle.rom_model.specs.declared.call.Answer.TheVariants.{Total}
use Rattle.rom_store.specs.Closing.{ClosedSeen}
use Rattle.rom_store.specs.Sessions.{IsStoryOf}
use Rattle.bank.specs.Promise.{total_after}
use Rattle.bank.proofs.Whole.{all_tallied, all_read, keeps_total}
use Rattle.bank.proofs.run_tellers.Given as given
use Rattle.bank.proofs.run_tellers.Goals as goal

pub total_in-total-requires : goal.total_in-total-requires
total_in-total-requires g c = let (ready, is, has) = c.in-Ok.ensures.run in let (story, of) = has.run.story in (_, c.ask.ensures.told story.opening story.opening_count of.opening)

-- a story of the session as it is once the store was asked
story_of : (g : given.Over) (c : goal.After-total_in-total g) (story : Story State) → IsStoryOf trio Contents c.ask.new.self.session story → IsStoryOf trio Contents c.in-Ok.ran.closed.session story
story_of g c story is = subst (λ (z : ClosedSeen g.row.D.Denot). IsStoryOf trio Contents z.session story) c.ask.ensures.still is

-- the total is that of its last state
told : (g : given.Over) (c : goal.After-total_in-total g) (s : State) (k : ℕ) → (let session = c.in-Ok.ran.closed.session in Contents session.order session.image s k → Total c.total_in-total.result ≡ Total (total_after session.order s k session.history))
told g c s k at = sym c.total_in-total.ensures ∙ c.ask.ensures.told s k at

pub returns-clause-balanced : goal.returns-clause-balanced
returns-clause-balanced g c = λ story is. let (ready, made, has) = c.in-Ok.ensures.run in let of = story_of g c story is in
    keeps_total g.D.Device.shown c.in-Ok.ran.results.items c.in-Ok.ran.closed.session has.run.done story of (has.run.alone story of) c.total_in-total.result (told g c)

pub returns-clause-reads : goal.returns-clause-reads
returns-clause-reads g c = let (ready, made, has) = c.in-Ok.ensures.run in let (story, of) = has.run.story in
    all_read g.D.Device.shown c.in-Ok.ran.results.items c.in-Ok.ran.closed.session has.run.done story of (has.run.alone story of) c.total_in-total.result (told g c)

pub returns-clause-tallies : goal.returns-clause-tallies
returns-clause-tallies g c = λ story is. let (ready, made, has) = c.in-Ok.ensures.run in let of = story_of g c story is in
    all_tallied g.D.Device.shown c.in-Ok.ran.results.items c.in-Ok.ran.closed.session has.run.done story of (has.run.alone story of)

pub returns-clause-stood : goal.returns-clause-stood
returns-clause-stood g c = λ tells n s k held story is. c.in-Ok.ensures.stood tells n s k held story (story_of g c story is)
