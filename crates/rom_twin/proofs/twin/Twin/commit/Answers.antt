use Rattle.std.proofs.Common.{rules, ◌∙◌, ap, subst, arith}
use Rattle.rom_device.specs.Device.{Becomes, Does, Runs, WritesWord}
use Rattle.rom_header.specs.Headers.{state_word}
use Rattle.rom_header.specs.Layout.{STATE}
use Rattle.rom_header.specs.declared.header.State.TheVariants.{Copying}
use Rattle.rom_twin.specs.Images.{Committing}
use Rattle.rom_twin.specs.Seen.{committed, main_now}
use Rattle.rom_twin.proofs.Calls.{commit_since, commit_kept, commit_done, commit_failed, commit_main}
use Rattle.rom_twin.proofs.twin.Twin.commit.Goals as goal

pub invariant_of-self : goal.invariant_of-self
invariant_of-self g c = record { fits = omega (arith, c.self.invariant.fits, c.set_state.ensures.does.size); images = λ told. commit_failed g.D.Device.shown g.met.D.Device.reads_image g.met.D.Device.tells_both told _ (c.self.invariant.images told) c.set_state.new.device (ap (λ s. s.phase) c.self.view_is ∙ c.requires.phase) c.set_state.ensures.does }

pub invariant_of-self-2 : goal.invariant_of-self-2
invariant_of-self-2 g c = record { fits = omega (arith, c.self.invariant.fits, c.set_state.ensures.does.size); images = λ told. commit_done g.D.Device.shown g.met.D.Device.reads_image g.met.D.Device.tells_both told _ (c.self.invariant.images told) c.set_state.new.device (ap (λ s. s.phase) c.self.view_is ∙ c.requires.phase) c.set_state.ensures.does c.in_ok-set_state.ensures.certain c.in_ok-set_state.ensures.written }

pub returns-in_err-set_state-clause-since : goal.returns-in_err-set_state-clause-since
returns-in_err-set_state-clause-since g c told =
    subst (λ s. Runs g.D.Device.shown (Becomes (Committing s.order (committed g.D.Device.shown s) (main_now g.D.Device.shown s))) s.device c.set_state.new.device) c.self.view_is
    (commit_since g.D.Device.shown g.met.D.Device.reads_image g.met.D.Device.tells_both told _ (c.self.invariant.images told) c.set_state.new.device (ap (λ s. s.phase) c.self.view_is ∙ c.requires.phase) c.set_state.ensures.does)

pub returns-in_err-set_state-clause-kept : goal.returns-in_err-set_state-clause-kept
returns-in_err-set_state-clause-kept g c = record {
  order = search rules;
  size = search rules;
  committed_is = λ told. commit_kept g.D.Device.shown g.met.D.Device.reads_image g.met.D.Device.tells_both told _ (c.self.invariant.images told) c.set_state.new.device (ap (λ s. s.phase) c.self.view_is ∙ c.requires.phase) c.set_state.ensures.does ∙ ap (committed g.D.Device.shown) c.self.view_is;
  images = λ told. commit_failed g.D.Device.shown g.met.D.Device.reads_image g.met.D.Device.tells_both told _ (c.self.invariant.images told) c.set_state.new.device (ap (λ s. s.phase) c.self.view_is ∙ c.requires.phase) c.set_state.ensures.does;
}

pub returns-in_err-set_state-clause-main : goal.returns-in_err-set_state-clause-main
returns-in_err-set_state-clause-main g c told = commit_main g.D.Device.shown g.met.D.Device.reads_image g.met.D.Device.tells_both told _ (c.self.invariant.images told) c.set_state.new.device (ap (λ s. s.phase) c.self.view_is ∙ c.requires.phase) c.set_state.ensures.does ∙ ap (main_now g.D.Device.shown) c.self.view_is

pub returns-in_err-set_state-clause-does : goal.returns-in_err-set_state-clause-does
returns-in_err-set_state-clause-does g c = subst (λ s. Does g.D.Device.shown (WritesWord STATE (state_word Copying)) s.device c.set_state.new.device) c.self.view_is c.set_state.ensures.does

pub returns-clause-since : goal.returns-clause-since
returns-clause-since g c told =
    subst (λ s. Runs g.D.Device.shown (Becomes (Committing s.order (committed g.D.Device.shown s) (main_now g.D.Device.shown s))) s.device c.set_state.new.device) c.self.view_is
    (commit_since g.D.Device.shown g.met.D.Device.reads_image g.met.D.Device.tells_both told _ (c.self.invariant.images told) c.set_state.new.device (ap (λ s. s.phase) c.self.view_is ∙ c.requires.phase) c.set_state.ensures.does)

pub returns-clause-kept : goal.returns-clause-kept
returns-clause-kept g c = record {
  order = search rules;
  size = search rules;
  committed_is = λ told. commit_kept g.D.Device.shown g.met.D.Device.reads_image g.met.D.Device.tells_both told _ (c.self.invariant.images told) c.set_state.new.device (ap (λ s. s.phase) c.self.view_is ∙ c.requires.phase) c.set_state.ensures.does ∙ ap (committed g.D.Device.shown) c.self.view_is;
  images = λ told. commit_done g.D.Device.shown g.met.D.Device.reads_image g.met.D.Device.tells_both told _ (c.self.invariant.images told) c.set_state.new.device (ap (λ s. s.phase) c.self.view_is ∙ c.requires.phase) c.set_state.ensures.does c.in_ok-set_state.ensures.certain c.in_ok-set_state.ensures.written;
}

pub returns-clause-main : goal.returns-clause-main
returns-clause-main g c told = commit_main g.D.Device.shown g.met.D.Device.reads_image g.met.D.Device.tells_both told _ (c.self.invariant.images told) c.set_state.new.device (ap (λ s. s.phase) c.self.view_is ∙ c.requires.phase) c.set_state.ensures.does ∙ ap (main_now g.D.Device.shown) c.self.view_is

pub returns-clause-does : goal.returns-clause-does
returns-clause-does g c = subst (λ s. Does g.D.Device.shown (WritesWord STATE (state_word Copying)) s.device c.set_state.new.device) c.self.view_is c.set_state.ensures.does
