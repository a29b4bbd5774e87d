use Rattle.std.proofs.Common.{◌≡◌, ◌-◌, arith, ap, map, subst, sym}
use Rattle.rom_text.proofs.Prints.{printed, stopped, prints_stopped}
use Rattle.rom_replica.specs.Merging.{frames_left, merged_frames}
use Rattle.rom_replica.proofs.Writing.{IsUnderWay, cut, goes_on, no_turn, under_way, whole, whole_of_words}
use Rattle.rom_replica.proofs.ship.updates.print_merged.Goals as goal

pub loop-turn-init : goal.loop-turn-init
loop-turn-init g c =
    let all : c.args.count ≡ c.args.count - 0 = omega arith in
    let queues = map (λ caller. frames_left caller.at caller.script.now.items caller.results.now.items) c.args.callers.now in
    subst (λ n. IsUnderWay g.K.Sink.shown c.args.out.now c.args.count queues c.args.out.now n queues) all (under_way g.K.Sink.shown c.args.out.now c.args.count queues)

pub returns-in_err-print_frame-in-Some-clause-prints : goal.returns-in_err-print_frame-in-Some-clause-prints
returns-in_err-print_frame-in-Some-clause-prints g c =
    let k = g.K.Sink.shown in
    prints_stopped k _ _ _ c.from_residual.result _ c.from_residual.ensures.1
    (cut k c.args.out.now c.args.count (map (λ caller. frames_left caller.at caller.script.now.items caller.results.now.items) c.args.callers.now) c.loop-turn.out (map (λ caller. frames_left caller.at caller.script.now.items caller.results.now.items) c.loop-turn.callers)
    c.loop-turn._turn c.print_frame.new.out c.in-Some.ensures.next.0 (map (λ caller. frames_left caller.at caller.script.now.items caller.results.now.items) c.next.new.callers) c.loop-turn-test.true c.loop-turn.invariant (sym c.in-Some.ensures.next.2)
    (stopped k _ _ _ _ (c.in_err-print_frame-in-Some.ensures.prints c.in-Some.ensures.next.0 c.in-Some.ensures.next.1)))

pub loop-turn-preserved : goal.loop-turn-preserved
loop-turn-preserved g c =
    let k = g.K.Sink.shown in
    goes_on k c.args.out.now c.args.count (map (λ caller. frames_left caller.at caller.script.now.items caller.results.now.items) c.args.callers.now) c.loop-turn.out (map (λ caller. frames_left caller.at caller.script.now.items caller.results.now.items) c.loop-turn.callers)
    c.loop-turn._turn c.print_frame.new.out c.in-Some.ensures.next.0 (map (λ caller. frames_left caller.at caller.script.now.items caller.results.now.items) c.next.new.callers) c.loop-turn-test.true c.loop-turn.invariant (sym c.in-Some.ensures.next.2)
    (printed k _ _ _ _ (c.in_ok-print_frame-in-Some.ensures.prints c.in-Some.ensures.next.0 c.in-Some.ensures.next.1)) (c.in_ok-print_frame-in-Some.ensures.of_words c.in-Some.ensures.next.0 c.in-Some.ensures.next.1)

pub returns-in-None-clause-prints : goal.returns-in-None-clause-prints
returns-in-None-clause-prints g c =
    whole g.K.Sink.shown c.args.out.now c.args.count (map (λ caller. frames_left caller.at caller.script.now.items caller.results.now.items) c.args.callers.now) c.loop-turn.out (map (λ caller. frames_left caller.at caller.script.now.items caller.results.now.items) c.loop-turn.callers)
    (c.args.count - c.loop-turn._turn) c.loop-turn.invariant (no_turn (c.args.count - c.loop-turn._turn) _ (sym c.in-None.ensures.none))

pub returns-in-None-clause-of_words : goal.returns-in-None-clause-of_words
returns-in-None-clause-of_words g c =
    whole_of_words g.K.Sink.shown c.args.out.now c.args.count (map (λ caller. frames_left caller.at caller.script.now.items caller.results.now.items) c.args.callers.now) c.loop-turn.out (map (λ caller. frames_left caller.at caller.script.now.items caller.results.now.items) c.loop-turn.callers)
    (c.args.count - c.loop-turn._turn) c.loop-turn.invariant (no_turn (c.args.count - c.loop-turn._turn) _ (sym c.in-None.ensures.none))

pub returns-clause-prints : goal.returns-clause-prints
returns-clause-prints g c =
    let none : c.args.count - c.loop-turn._turn ≡ 0 = omega (arith, c.loop-turn-test.false) in
    whole g.K.Sink.shown c.args.out.now c.args.count (map (λ caller. frames_left caller.at caller.script.now.items caller.results.now.items) c.args.callers.now) c.loop-turn.out (map (λ caller. frames_left caller.at caller.script.now.items caller.results.now.items) c.loop-turn.callers)
    (c.args.count - c.loop-turn._turn) c.loop-turn.invariant (ap (λ n. merged_frames n (map (λ caller. frames_left caller.at caller.script.now.items caller.results.now.items) c.loop-turn.callers)) none)

pub returns-clause-of_words : goal.returns-clause-of_words
returns-clause-of_words g c =
    let none : c.args.count - c.loop-turn._turn ≡ 0 = omega (arith, c.loop-turn-test.false) in
    whole_of_words g.K.Sink.shown c.args.out.now c.args.count (map (λ caller. frames_left caller.at caller.script.now.items caller.results.now.items) c.args.callers.now) c.loop-turn.out (map (λ caller. frames_left caller.at caller.script.now.items caller.results.now.items) c.loop-turn.callers)
    (c.args.count - c.loop-turn._turn) c.loop-turn.invariant (ap (λ n. merged_frames n (map (λ caller. frames_left caller.at caller.script.now.items caller.results.now.items) c.loop-turn.callers)) none)
