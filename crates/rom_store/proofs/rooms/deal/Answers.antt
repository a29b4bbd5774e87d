use Rattle.std.proofs.Common.{arith, ap, ◌∙◌, subst, length, map, ◌≡◌, ◌+◌, refl}
use Rattle.std.proofs.lemmas.List.{length-map}
use Rattle.rom_store.specs.Callers.{IsNewCaller}
use Rattle.rom_store.specs.Indexed.{Indexed}
use Rattle.rom_store.specs.Working.{HasReservedRoom}
use Rattle.rom_store.proofs.Places.{none_at, pop_at, last_at, push_at}
use Rattle.rom_store.proofs.Dealing.{next_job}
use Rattle.rom_store.proofs.rooms.deal.Goals as goal

pub loop-init : goal.loop-init
loop-init g c = record {
  passes_many = omega (arith, c.requires.passes_many);
  rooms_many = omega (arith, c.requires.rooms_many);
  jobs_many = omega (arith, ap length c.requires.none, c.args.jobs.now.ok);
  fresh = c.requires.fresh;
  rooms = c.requires.rooms;
  jobs = none_at _ _ c.requires.none;
  space = c.requires.space;
  passes_space = refl;
  rooms_space = refl;
}

pub loop-preserved : goal.loop-preserved
loop-preserved g c =
    let b = c.loop.invariant in
    let scripts = map (λ v. v.items) c.args.scripts.now in
    let ps = c.take_last-pass.new.self.items in
    let rs = c.take_last-results.new.self.items in
    let fresh = subst (Indexed (IsNewCaller g.O.Object.Contents g.N.Label.table g.N.Label.base)) c.take_last-pass.ensures.items b.fresh in
    let rooms = subst (Indexed (HasReservedRoom g.O.Object.machine.call_words scripts)) c.take_last-results.ensures.items b.rooms in
    let passes_left : length ps + (length c.loop.jobs.items + 1) ≡ length c.args.scripts.now = omega (arith, c.take_last-pass.ensures.len, b.passes_many, b.jobs_many, c.take_last-pass.new.self.ok, c.loop.jobs.ok) in
    let rooms_left : length rs ≡ length ps = omega (arith, c.take_last-pass.ensures.len, b.passes_many, c.take_last-results.ensures.len, b.rooms_many, c.take_last-pass.new.self.ok, c.take_last-results.new.self.ok) in
    record {
      passes_many = omega (arith, c.take_last-pass.ensures.len, b.passes_many);
      rooms_many = omega (arith, c.take_last-results.ensures.len, b.rooms_many);
      jobs_many = omega (arith, c.push_reserved.ensures.len, b.jobs_many);
      fresh = pop_at _ ps c.take_last-pass.result fresh;
      rooms = pop_at _ rs c.take_last-results.result rooms;
      jobs = rw c.push_reserved.ensures.items (push_at _ c.loop.jobs.items _ b.jobs (next_job g.O.Object.Contents g.N.Label.table g.N.Label.base g.O.Object.machine.call_words scripts (length ps) (length rs) (length c.loop.jobs.items) c.take_last-pass.result _
          (last_at _ ps c.take_last-pass.result fresh) (last_at _ rs c.take_last-results.result rooms) rooms_left (omega (arith, passes_left, length-map c.args.scripts.now (λ v. v.items)))));
      space = omega (arith, c.push_reserved.ensures.capacity, b.space);
      passes_space = c.take_last-pass.ensures.capacity ∙ b.passes_space;
      rooms_space = c.take_last-results.ensures.capacity ∙ b.rooms_space;
    }
