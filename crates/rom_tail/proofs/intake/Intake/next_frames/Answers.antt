use Rattle.std.proofs.Common.{◌≡◌, ◌⊎◌, ℕ, ◌<◌, ◌++◌, ◌∷◌, [], List, Bool, true, false, ap, subst, sym, refl, ◌∙◌, arith, inl, inr, length, rules, eqb-true, append_assoc, append-nil}
use Rattle.std.proofs.KnownBytes.{Consumes-kept, Consumes-trans}
use Rattle.std.specs.Prelude.{◌==◌}
use Rattle.std.specs.Bool.{OnFalse, OnTrue}
use Rattle.rom_text.specs.Limits.{CameToEnd}
use Rattle.rom_text.specs.Streams.{ShownSource}
use Rattle.rom_text.proofs.Taking.{not_idle}
use Rattle.rom_frame.specs.Messages.{IsUnfinished}
use Rattle.rom_frame.specs.declared.frame.Frame.{Frame}
use Rattle.rom_replica.specs.Turns.{bytes_of_all}
use Rattle.rom_replica.specs.declared.stop.Stop.{Stop}
use Rattle.rom_replica.specs.declared.stop.Stop.TheVariants.{End, Broken}
use Rattle.rom_tail.specs.Fronts.{IsBroken}
use Rattle.rom_tail.specs.Intakes.{IsStopOfStream}
use Rattle.rom_tail.specs.Waiting.{waits_in}
use Rattle.rom_tail.specs.declared.few.TheConstants.{MOST}
use Rattle.rom_tail.proofs.intake.Intake.next_frames.Goals as goal

no_items : (fs : List Frame) → true ≡ (length fs == 0) → fs ≡ []
no_items [] none = refl
no_items (f ∷ fs) none = absurd (let long = eqb-true (length (f ∷ fs)) 0 (sym none) in omega (arith, long))

-- where no frame was cut off, all waits still
all_waits : (was now : List ℕ) (fs : List Frame) → was ≡ bytes_of_all fs ++ now → fs ≡ [] → was ≡ now
all_waits was now fs are none = are ∙ ap (λ (gs : List Frame). bytes_of_all gs ++ now) none

-- the end of a stream, in the midst of a message or not
ended : {S : Type 0} (source : ShownSource S) (waits : List ℕ) (old new : S) (stop : Stop) → IsUnfinished waits → CameToEnd source old new → ((stop ≡ End) × (waits ≡ [])) ⊎ ((stop ≡ Broken) × (0 < length waits)) → IsStopOfStream source waits old new stop
ended source waits old new stop less came (inl is) = subst (IsStopOfStream source waits old new) (sym is.0) (is.1, came)
ended source waits old new stop less came (inr is) = subst (IsStopOfStream source waits old new) (sym is.0) (inr (is.1, less, came))

unfinished : (waits : List ℕ) (fs : List Frame) → IsUnfinished waits ⊎ (length fs ≡ MOST) → fs ≡ [] → IsUnfinished waits
unfinished waits fs (inl less) none = less
unfinished waits fs (inr many) none = absurd (omega (arith, many, ap length none))

-- what stands behind the frames that were cut off
behind : (broken : Bool) (waits : List ℕ) (many : ℕ) → OnTrue broken (IsBroken waits) → OnFalse broken (IsUnfinished waits ⊎ (many ≡ MOST)) → IsUnfinished waits ⊎ IsBroken waits ⊎ (many ≡ MOST)
behind true waits many is other = inr (inl is)
behind false waits many is (inl less) = inl less
behind false waits many is (inr full) = inr (inr full)

pub returns-then-not-is_empty-clause-all : goal.returns-then-not-is_empty-clause-all
returns-then-not-is_empty-clause-all g c = behind c.cut-broken.result _ _ c.cut-broken.ensures.broken c.cut-broken.ensures.whole

pub returns-then-broken-clause-none : goal.returns-then-broken-clause-none
returns-then-broken-clause-none g c = no_items _ c.if-not-is_empty.ensures

pub returns-in_default-clause-taken : goal.returns-in_default-clause-taken
returns-in_default-clause-taken g c =
    let so = c.loop-broken.invariant in
    let fs = c.cut-broken.new.frames.items in
    let source = g.S.Source.shown in
    record {
      bytes = so.bytes;
      consumed = Consumes-kept (source.left c.args.stream.now) (source.left c.loop-broken.stream) (source.left c.more.new.stream) so.bytes so.consumed c.in_default.ensures.kept;
      are = sym so.waits ∙ c.if-broken.ensures.taken ∙ ap (λ (bs : List ℕ). bytes_of_all fs ++ bs) (sym c.in_default.ensures.none);
    }

pub returns-then-count-eq0-clause-none : goal.returns-then-count-eq0-clause-none
returns-then-count-eq0-clause-none g c = no_items _ c.if-not-is_empty.ensures

pub returns-then-count-eq0-clause-taken : goal.returns-then-count-eq0-clause-taken
returns-then-count-eq0-clause-taken g c =
    let so = c.loop-broken.invariant in
    let came = c.in-Ok.ensures.came in
    let fs = c.cut-broken.new.frames.items in
    let source = g.S.Source.shown in
    record {
      bytes = so.bytes ++ came.bytes;
      consumed = Consumes-trans (source.left c.args.stream.now) (source.left c.loop-broken.stream) (source.left c.more.new.stream) so.bytes came.bytes so.consumed came.consumed;
      are = sym (append_assoc (waits_in c.args.self.now) so.bytes came.bytes) ∙ ap (λ (bs : List ℕ). bs ++ came.bytes) (sym so.waits ∙ c.if-broken.ensures.taken)
          ∙ append_assoc (bytes_of_all fs) (waits_in c.cut-broken.new.self) came.bytes ∙ ap (λ (bs : List ℕ). bytes_of_all fs ++ bs) (sym came.behind);
    }

nothing : (bytes : List ℕ) → length bytes ≡ 0 → bytes ≡ []
nothing [] none = refl
nothing (b ∷ bytes) none = absurd (omega (arith, none))

pub returns-then-count-eq0-clause-stop : goal.returns-then-count-eq0-clause-stop
returns-then-count-eq0-clause-stop g c =
    let so = c.loop-broken.invariant in
    let read = c.in-Ok.ensures in
    let source = g.S.Source.shown in
    let none = no_items _ c.if-not-is_empty.ensures in
    let less = unfinished (waits_in c.cut-broken.new.self) _ c.if-broken.ensures.whole none in
    let same = read.came.behind ∙ ap (λ (bs : List ℕ). waits_in c.cut-broken.new.self ++ bs) (nothing read.came.bytes (read.came.many ∙ c.if-count-eq0.true)) ∙ append-nil (waits_in c.cut-broken.new.self) in
    ended source (waits_in c.more.new.self) c.args.stream.now c.more.new.stream c.end.result (subst IsUnfinished (sym same) less)
    (search rules) c.end.ensures

pub loop-broken-preserved : goal.loop-broken-preserved
loop-broken-preserved g c =
    let so = c.loop-broken.invariant in
    let read = c.in-Ok.ensures in
    let came = read.came in
    let source = g.S.Source.shown in
    let none = no_items _ c.if-not-is_empty.ensures in
    let same = all_waits (waits_in c.loop-broken.self) (waits_in c.cut-broken.new.self) _ c.if-broken.ensures.taken none in
    record {
      none = none;
      bytes = so.bytes ++ came.bytes;
      consumed = Consumes-trans (source.left c.args.stream.now) (source.left c.loop-broken.stream) (source.left c.more.new.stream) so.bytes came.bytes so.consumed came.consumed;
      waits = came.behind ∙ ap (λ (bs : List ℕ). bs ++ came.bytes) (sym same ∙ so.waits) ∙ append_assoc (waits_in c.args.self.now) so.bytes came.bytes;
      gave = record {
        idle = not_idle c.in-Ok.count _ _ c.if-count-eq0.false read.counts.idle ∙ so.gave.idle;
        faults = read.counts.faults ∙ so.gave.faults;
      };
    }
