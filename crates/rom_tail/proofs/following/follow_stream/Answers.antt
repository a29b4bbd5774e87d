use Rattle.std.proofs.Common.{◌≡◌, ◌⊎◌, ◌∙◌, ap, arith, inl, inr, subst, sym, ⊎_elim}
use Rattle.std.proofs.lemmas.List.{with_items_is}
use Rattle.rom_model.specs.Story.{count}
use Rattle.rom_run.specs.Statuses.{exit_number}
use Rattle.rom_run.specs.declared.status.Status.{Status}
use Rattle.rom_run.specs.declared.status.Status.TheVariants.{DeviceFailed, HeapRefused, NoMemory}
use Rattle.rom_tail.specs.Promise.{IsStreamTailed, IsTailedStatus, IsToldOfTail}
use Rattle.rom_tail.specs.Tailed.{IsTailText}
use Rattle.rom_replica.specs.Promise.{OfOne}
use Rattle.rom_replica.proofs.Closed.{of_one, told_by}
use Rattle.rom_tail.proofs.following.follow_stream.Goals as goal

-- with a status of no heap no stream was followed
none_followed : {P : Type 0} (status : Status) → (status ≡ HeapRefused) ⊎ (status ≡ NoMemory) ⊎ (status ≡ DeviceFailed) → IsTailedStatus (exit_number status) → P
none_followed status is may =
    let number : (exit_number status ≡ 3) ⊎ (exit_number status ≡ 6) ⊎ (exit_number status ≡ 7) = ⊎_elim (λ three. inl (ap exit_number three)) (λ more. inr (⊎_elim (λ six. inl (ap exit_number six)) (λ seven. inr (ap exit_number seven)) more)) is in
    absurd (omega (arith, number, may))

pub returns-in-Err-clause-taken : goal.returns-in-Err-clause-taken
returns-in-Err-clause-taken g c = rw c.after.ensures (none_followed c.in-Err.worked.status c.in-Err.ensures.none.statuses)

pub returns-in-Ok-clause-story : goal.returns-in-Ok-clause-story
returns-in-Ok-clause-story g c =
    let shown = g.D.Device.shown in
    let device = c.args.device in
    let source = g.S.Source.shown in
    let sink = g.O.Sink.shown in
    let ended = c.end_tailed.ensures in
    let status = c.end_tailed.result.status in
    let f = c.in-Ok.tailed in
    let inputs = c.args.inputs.items in
    let left = c.tail_only.new.inputs in
    let scripts = c.end_tailed.result.scripts.items in
    let left_is : scripts ≡ left = ap (λ v. v.items) ended.inputs ∙ with_items_is c.args.inputs left (c.tail_only.ensures.many ∙ c.deref_mut.ensures.len) in
    rw (ended.session, ended.device)
    (told_by g.D.Device.shown c.args.device f.closed.device f.closed.session
    (λ callers story. OfOne inputs left (λ was now. IsStreamTailed shown device f.closed.device source was now f.tally f.stop story))
    (λ callers story. OfOne inputs scripts (λ was now. IsToldOfTail shown device f.closed.device source sink was now c.args.out.now c.end_tailed.new.out status story))
    (λ story of is. subst (λ xs. OfOne inputs xs (λ was now. IsToldOfTail shown device f.closed.device source sink was now c.args.out.now c.end_tailed.new.out status story)) (sym left_is)
    (of_one (λ was now. IsStreamTailed shown device f.closed.device source was now f.tally f.stop story) (λ was now. IsToldOfTail shown device f.closed.device source sink was now c.args.out.now c.end_tailed.new.out status story) inputs left
    (λ was now told. record {
      tally = f.tally;
      stop = f.stop;
      stream = told;
      printed = subst (λ k. IsTailText sink f.tally f.stop (count story) k c.end_tailed.new.out status) c.in-Ok.ensures.unprinted (ended.printed story of);
    }) is))
    (rw c.deref_mut.ensures.value at c.in-Ok.ensures.session))
