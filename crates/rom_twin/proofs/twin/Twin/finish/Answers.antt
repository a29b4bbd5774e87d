use Rattle.std.proofs.Common.{rules, ◌∙◌, ap, subst, arith}
use Rattle.rom_device.specs.Device.{Becomes, Does, Runs, WritesWord}
use Rattle.rom_header.specs.Headers.{state_word}
use Rattle.rom_header.specs.Layout.{STATE}
use Rattle.rom_header.specs.declared.header.State.TheVariants.{Idle}
use Rattle.rom_twin.specs.Images.{Twins}
use Rattle.rom_twin.specs.Seen.{committed}
use Rattle.rom_twin.proofs.Calls.{finish_since, finish_kept, finish_done}
use Rattle.rom_twin.proofs.twin.Twin.finish.Goals as goal

pub invariant_of-self : goal.invariant_of-self
invariant_of-self g c = record { fits = omega (arith, c.self.invariant.fits, c.write_state.ensures.does.size); images = λ told. finish_done g.D.Device.shown g.met.D.Device.reads_image g.met.D.Device.tells_both told _ (c.self.invariant.images told) c.write_state.new.device (ap (λ s. s.phase) c.self.view_is ∙ c.requires.phase) c.write_state.ensures.does }

pub returns-clause-since : goal.returns-clause-since
returns-clause-since g c told =
    subst (λ s. Runs g.D.Device.shown (Becomes (Twins s.order (committed g.D.Device.shown s))) s.device c.write_state.new.device) c.self.view_is
    (finish_since g.D.Device.shown g.met.D.Device.reads_image g.met.D.Device.tells_both told _ (c.self.invariant.images told) c.write_state.new.device (ap (λ s. s.phase) c.self.view_is ∙ c.requires.phase) c.write_state.ensures.does)

pub returns-clause-kept : goal.returns-clause-kept
returns-clause-kept g c = record {
  order = search rules;
  size = search rules;
  committed_is = λ told. finish_kept g.D.Device.shown g.met.D.Device.reads_image g.met.D.Device.tells_both told _ (c.self.invariant.images told) c.write_state.new.device (ap (λ s. s.phase) c.self.view_is ∙ c.requires.phase) c.write_state.ensures.does ∙ ap (committed g.D.Device.shown) c.self.view_is;
  images = λ told. finish_done g.D.Device.shown g.met.D.Device.reads_image g.met.D.Device.tells_both told _ (c.self.invariant.images told) c.write_state.new.device (ap (λ s. s.phase) c.self.view_is ∙ c.requires.phase) c.write_state.ensures.does;
}

pub returns-clause-does : goal.returns-clause-does
returns-clause-does g c = subst (λ s. Does g.D.Device.shown (WritesWord STATE (state_word Idle)) s.device c.write_state.new.device) c.self.view_is c.write_state.ensures.does
