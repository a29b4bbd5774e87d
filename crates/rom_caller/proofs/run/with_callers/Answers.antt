use Rattle.std.proofs.Common.{◌≡◌, ◌⊎◌, ℕ, List, refl, subst, sym, arith}
use Rattle.rom_header.specs.Held.{Holds}
use Rattle.rom_open.specs.declared.reasons.Why.TheVariants.{Device, OutOfMemory}
use Rattle.rom_store.specs.Sessions.{EachStory}
use Rattle.rom_caller.specs.Worked.{HasBegunWith}
use Rattle.rom_caller.proofs.Refusing.{as_told, goes_on, no_value, refused_held}
use Rattle.rom_caller.proofs.Behind.{has_run}
use Rattle.rom_caller.proofs.run.with_callers.Goals as goal

pub returns-clause-run : goal.returns-clause-run
returns-clause-run g c = (
  c.make_ready.new.device,
  c.in_default-make_ready.ensures.ready,
  has_run g.D.Device.shown g.O.Object.machine g.O.Object.Contents (g.W.Work.Did c.args.work.now) c.args.callers c.run_on.result.results.items c.make_ready.new.device c.in_ok-opening.opening c.run_on.result.closed
      c.in_ok-opening.ensures.opened c.run_on.ensures,
)

pub returns-clause-stood : goal.returns-clause-stood
returns-clause-stood g c = λ tells n s k held.
    let m = g.O.Object.machine in let Contents = g.O.Object.Contents in let shown = g.D.Device.shown in
    let w = g.world in let one = (g.met.O.Object w.𝓛 w.𝓜 w.𝓡 ((λ s x. x), (λ x. x), (λ x. x), λ x. x)).one_contents in
    let magic = held.current.heap.header.magic in
    let still = (c.make_ready.ensures.read tells (λ zero. omega (arith, zero, magic))).words tells in
    let run = has_run shown m Contents (g.W.Work.Did c.args.work.now) c.args.callers c.run_on.result.results.items c.make_ready.new.device c.in_ok-opening.opening c.run_on.result.closed c.in_ok-opening.ensures.opened c.run_on.ensures in
    goes_on m Contents one c.run_on.result.closed.session (shown.words c.make_ready.new.device) n s k (run.held tells) (subst (λ (w : List ℕ). Holds Contents n w s k) (sym still) held)

pub returns-clause-made : goal.returns-clause-made
returns-clause-made g c = λ tells n asked long zero.
    let m = g.O.Object.machine in let Contents = g.O.Object.Contents in let shown = g.D.Device.shown in
    let w = g.world in let one = (g.met.O.Object w.𝓛 w.𝓜 w.𝓡 ((λ s x. x), (λ x. x), (λ x. x), λ x. x)).one_contents in
    let run = has_run shown m Contents (g.W.Work.Did c.args.work.now) c.args.callers c.run_on.result.results.items c.make_ready.new.device c.in_ok-opening.opening c.run_on.result.closed c.in_ok-opening.ensures.opened c.run_on.ensures in
    (tt, goes_on m Contents one c.run_on.result.closed.session (shown.words c.make_ready.new.device) n m.empty 0 (run.held tells) ((c.in_default-make_ready.ensures.ready.made n asked tells zero).holds tells))

pub returns-in_err-opening-clause-kept : goal.returns-in_err-opening-clause-kept
returns-in_err-opening-clause-kept g c = λ tells n s k held.
    let magic = held.current.heap.header.magic in
    let still = (c.make_ready.ensures.read tells (λ zero. omega (arith, zero, magic))).words tells in
    let why = refused_held g.O.Object.Contents n (g.D.Device.shown.words c.args.device) s k held c.in_err-opening.ensures.refused tells still in
    as_told (λ refused. (refused.why ≡ Device) ⊎ (refused.why ≡ OutOfMemory)) c.from_residual.result c.from_residual.ensures.1 (λ e same. subst (λ refused. (refused.why ≡ Device) ⊎ (refused.why ≡ OutOfMemory)) (sym same) why)

pub returns-in_err-opening-clause-made : goal.returns-in_err-opening-clause-made
returns-in_err-opening-clause-made g c = λ tells n asked long zero.
    let words = g.D.Device.shown.words c.make_ready.new.device in
    let held = (c.in_default-make_ready.ensures.ready.made n asked tells zero).holds tells in
    let why = refused_held g.O.Object.Contents n words g.O.Object.machine.empty 0 held c.in_err-opening.ensures.refused tells refl in (
      as_told (λ refused. (refused.why ≡ Device) ⊎ (refused.why ≡ OutOfMemory)) c.from_residual.result c.from_residual.ensures.1 (λ e same. subst (λ refused. (refused.why ≡ Device) ⊎ (refused.why ≡ OutOfMemory)) (sym same) why),
      no_value _ (λ ran. EachStory g.O.Object.machine g.O.Object.Contents ran.closed.session (HasBegunWith n g.O.Object.machine.empty 0)) c.from_residual.result c.from_residual.ensures.1,
    )
