use Rattle.std.proofs.Common.{rules, ◌∙◌, ap, subst, arith}
use Rattle.rom_device.specs.Device.{Becomes, Does, Runs, WritesWord}
use Rattle.rom_header.specs.Headers.{state_word}
use Rattle.rom_header.specs.Layout.{STATE}
use Rattle.rom_header.specs.declared.header.State.TheVariants.{Mutating}
use Rattle.rom_twin.specs.Images.{Twins}
use Rattle.rom_twin.specs.Seen.{committed}
use Rattle.rom_twin.proofs.Calls.{begin_since, begin_kept, begin_done, begin_failed}
use Rattle.rom_twin.proofs.twin.Twin.begin.Goals as goal

pub invariant_of-self : goal.invariant_of-self
invariant_of-self g c = record { fits = omega (arith, c.self.invariant.fits, c.set_state.ensures.does.size); images = λ told. begin_failed g.D.Device.shown g.met.D.Device.reads_image g.met.D.Device.tells_both told _ (c.self.invariant.images told) c.set_state.new.device (ap (λ s. s.phase) c.self.view_is ∙ c.requires.phase) c.set_state.ensures.does }

pub invariant_of-self-2 : goal.invariant_of-self-2
invariant_of-self-2 g c = record { fits = omega (arith, c.self.invariant.fits, c.set_state.ensures.does.size); images = λ told. begin_done g.D.Device.shown g.met.D.Device.reads_image g.met.D.Device.tells_both told _ (c.self.invariant.images told) c.set_state.new.device (ap (λ s. s.phase) c.self.view_is ∙ c.requires.phase) c.set_state.ensures.does c.in_ok-set_state.ensures.certain c.in_ok-set_state.ensures.written }

pub returns-in_err-set_state-clause-since : goal.returns-in_err-set_state-clause-since
returns-in_err-set_state-clause-since g c told =
    subst (λ s. Runs g.D.Device.shown (Becomes (Twins s.order (committed g.D.Device.shown s))) s.device c.set_state.new.device) c.self.view_is
    (begin_since g.D.Device.shown g.met.D.Device.reads_image g.met.D.Device.tells_both told _ (c.self.invariant.images told) c.set_state.new.device (ap (λ s. s.phase) c.self.view_is ∙ c.requires.phase) c.set_state.ensures.does)

pub returns-in_err-set_state-clause-kept : goal.returns-in_err-set_state-clause-kept
returns-in_err-set_state-clause-kept g c = record {
  order = search rules;
  size = search rules;
  committed_is = λ told. begin_kept g.D.Device.shown g.met.D.Device.reads_image g.met.D.Device.tells_both told _ (c.self.invariant.images told) c.set_state.new.device (ap (λ s. s.phase) c.self.view_is ∙ c.requires.phase) c.set_state.ensures.does ∙ ap (committed g.D.Device.shown) c.self.view_is;
  images = λ told. begin_failed g.D.Device.shown g.met.D.Device.reads_image g.met.D.Device.tells_both told _ (c.self.invariant.images told) c.set_state.new.device (ap (λ s. s.phase) c.self.view_is ∙ c.requires.phase) c.set_state.ensures.does;
}

pub returns-in_err-set_state-clause-does : goal.returns-in_err-set_state-clause-does
returns-in_err-set_state-clause-does g c = subst (λ s. Does g.D.Device.shown (WritesWord STATE (state_word Mutating)) s.device c.set_state.new.device) c.self.view_is c.set_state.ensures.does

pub returns-clause-since : goal.returns-clause-since
returns-clause-since g c told =
    subst (λ s. Runs g.D.Device.shown (Becomes (Twins s.order (committed g.D.Device.shown s))) s.device c.set_state.new.device) c.self.view_is
    (begin_since g.D.Device.shown g.met.D.Device.reads_image g.met.D.Device.tells_both told _ (c.self.invariant.images told) c.set_state.new.device (ap (λ s. s.phase) c.self.view_is ∙ c.requires.phase) c.set_state.ensures.does)

pub returns-clause-kept : goal.returns-clause-kept
returns-clause-kept g c = record {
  order = search rules;
  size = search rules;
  committed_is = λ told. begin_kept g.D.Device.shown g.met.D.Device.reads_image g.met.D.Device.tells_both told _ (c.self.invariant.images told) c.set_state.new.device (ap (λ s. s.phase) c.self.view_is ∙ c.requires.phase) c.set_state.ensures.does ∙ ap (committed g.D.Device.shown) c.self.view_is;
  images = λ told. begin_done g.D.Device.shown g.met.D.Device.reads_image g.met.D.Device.tells_both told _ (c.self.invariant.images told) c.set_state.new.device (ap (λ s. s.phase) c.self.view_is ∙ c.requires.phase) c.set_state.ensures.does c.in_ok-set_state.ensures.certain c.in_ok-set_state.ensures.written;
}

pub returns-clause-does : goal.returns-clause-does
returns-clause-does g c = subst (λ s. Does g.D.Device.shown (WritesWord STATE (state_word Mutating)) s.device c.set_state.new.device) c.self.view_is c.set_state.ensures.does
