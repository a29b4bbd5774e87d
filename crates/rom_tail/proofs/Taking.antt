-- What became of frames that were taken together, by what became of their calls.
use Rattle.std.proofs.Common.{◌≡◌, ◌≢◌, ℕ, ◌+◌, ◌<◌, ◌≤◌, ◌==◌, true, false, eqb-true, List, [], ◌∷◌, ◌++◌, length, map, take, refl, sym, ap, ◌∙◌, subst, arith, inl, inr, append-nil, length-append}
use Rattle.std.specs.Prelude.{Option, Some, None, option_map, slice_get}
use Rattle.std.specs.List.{AllByRecursion}
use Rattle.std.proofs.Math.Seq.{take-append_seam}
use Rattle.std.proofs.lemmas.List.{length-map, map-append, take-map, take-take}
use Rattle.std.proofs.lemmas.Option.{slice_get-map}
use Rattle.rom_rule.proofs.Told.{all_map}
use Rattle.rom_store.specs.Lone.{args_in, args_of, reply_of}
use Rattle.rom_frame.specs.declared.frame.Frame.{Frame}
use Rattle.rom_follow.specs.Following.{update_of}
use Rattle.rom_replica.specs.Turns.{applied}
use Rattle.rom_replica.specs.declared.stop.Stop.{Stop}
use Rattle.rom_replica.specs.declared.stop.Stop.TheVariants as stops
use Rattle.rom_tail.specs.Batches.{EndsAtFirst, IsCompared, call_in, many_next, reply_in, update_in}
use Rattle.rom_tail.specs.Chased.{Chased, DoesBatch, EndsShort, FindsFew, IsBatch, IsPublished, StopsAt, StopsAtFirst, TakesFrames}
use Rattle.rom_tail.specs.declared.batch.Took.{Took}
use Rattle.rom_tail.specs.declared.few.TheConstants.{MOST}
use Rattle.rom_tail.proofs.Lists.{both_agree, get_behind, get_in_take, no_element, there}
use Rattle.rom_replica.proofs.Turning.{applied_behind}
use Rattle.rom_tail.proofs.Turns.{applied_few, applied_first}

same_some : {X : Type 0} (x y : X) → Some x ≡ Some y → x ≡ y
same_some x y is = cc

-- frames none of which is next: nothing was done
pub none_taken : (frames : List Frame) (c : Chased) → applied c.count frames ≡ [] → TakesFrames frames c c record { counted = length frames; stop = None }
none_taken frames c none = record {
  before = frames;
  rest = [];
  more = [];
  passes = [];
  split = sym (append-nil frames);
  many = refl;
  history = sym (append-nil c.history);
  records = sym (append-nil c.records);
  one = omega arith;
  count_is = let same : c.count ≡ c.count + 0 = omega arith in same;
  few = tt;
  updates = ap (λ (n : ℕ). map update_of (take n [])) (ap length none) ∙ sym (ap (map update_in) none);
  calls = refl;
  stops = (tt, sym (ap length none));
}

module _ (frames : List Frame) (old new : Chased) (took : Took) (replies : List (List ℕ)) (done : ℕ) (short : Stop) (few : length frames ≤ MOST)
    (some : 0 < many_next old.count frames) (b : DoesBatch (map call_in (applied old.count frames)) old new replies done short) (c : IsCompared old.count frames replies done short took) where
  abbrev calls : List (List ℕ)
  calls = map call_in (applied old.count frames)

  abbrev m : ℕ
  m = many_next old.count c.before

  abbrev x : IsBatch calls old new b.more b.passes replies done short
  x = b.batch

  parts : calls ≡ map call_in (applied old.count c.before) ++ map call_in (applied (old.count + m) c.rest)
  parts = ap (λ (fs : List Frame). map call_in (applied old.count fs)) c.split ∙ ap (map call_in) (applied_behind old.count c.before c.rest) ∙ map-append call_in (applied old.count c.before) (applied (old.count + m) c.rest)

  m_long : length (map call_in (applied old.count c.before)) ≡ m
  m_long = length-map (applied old.count c.before) call_in

  first_calls : take m calls ≡ map call_in (applied old.count c.before)
  first_calls = (λ i. take (sym m_long i) (parts i)) ∙ take-append_seam (map call_in (applied old.count c.before)) (map call_in (applied (old.count + m) c.rest))

  calls_long : length calls ≡ many_next old.count frames
  calls_long = length-map (applied old.count frames) call_in

  updates : map update_of (take m b.more) ≡ map update_in (applied old.count c.before)
  updates = both_agree args_in reply_of call_in reply_in (take m b.more) (applied old.count c.before)
      (sym (take-map args_in m b.more) ∙ ap (take m) x.args ∙ take-take m done calls c.reached ∙ first_calls)
      (sym (take-map reply_of m b.more) ∙ ap (take m) x.replies_are ∙ take-take m done replies c.reached ∙ sym c.same)

  -- where something was done, the pass was published
  published : (s : Stop) → EndsShort calls old new b.more b.passes s → 0 < done → AllByRecursion IsPublished b.passes
  published stops.Spent ends any = ends.0
  published stops.DeviceFailed ends any = absurd (omega (arith, any, x.done_is, ap length ends.1))
  published stops.End ends any = absurd ends
  published stops.Broken ends any = absurd ends
  published stops.StreamFailed ends any = absurd ends
  published stops.TooLong ends any = absurd ends
  published stops.Diverged ends any = absurd ends

  abbrev Stopped : List Frame → Option Stop → Type 0
  Stopped left stop = StopsAtFirst frames old new c.before c.rest b.more b.passes left stop

  abbrev at_stop : Frame → Stop → Type 0
  at_stop f stop = StopsAt frames old new c.before c.rest b.more b.passes f stop

  -- the first that is left is a call of its own
  call_there : (f : Frame) (fs : List Frame) → c.rest ≡ f ∷ fs → f.place ≡ old.count + m → (slice_get calls m ≡ Some (call_in f)) × (m < length calls)
  call_there f fs left place =
      let rest : map call_in (applied (old.count + m) c.rest) ≡ call_in f ∷ map call_in (applied (old.count + m + 1) fs) = ap (λ (gs : List Frame). map call_in (applied (old.count + m) gs)) left ∙ ap (map call_in) (applied_first (old.count + m) f fs place) in
      let all : calls ≡ map call_in (applied old.count c.before) ++ call_in f ∷ map call_in (applied (old.count + m + 1) fs) = parts ∙ ap (λ (cs : List (List ℕ)). map call_in (applied old.count c.before) ++ cs) rest in (
        (λ i. slice_get (all i) (sym m_long i)) ∙ get_behind (map call_in (applied old.count c.before)) (map call_in (applied (old.count + m + 1) fs)) (call_in f),
        omega (arith, ap length all, m_long, length-append (map call_in (applied old.count c.before)) (call_in f ∷ map call_in (applied (old.count + m + 1) fs))),
      )

  -- no more were done
  by_short : (s : Stop) (f : Frame) (fs : List Frame) → EndsShort calls old new b.more b.passes s → c.rest ≡ f ∷ fs → f.place ≡ old.count + m → m ≡ done → at_stop f s
  by_short stops.Spent f fs ends left place all =
      let limit = ends.1 (omega (arith, x.done_is, all, (call_there f fs left place).1)) in (
        ends.0,
        omega (arith, all, x.done_is),
        elim limit [
          | inl full ↦ inl (omega (arith, full, x.count_is, place, all))
          | inr spent ↦ inr spent.0
        ],
      )
  by_short stops.DeviceFailed f fs ends left place all = ends
  by_short stops.End f fs ends left place all = absurd ends
  by_short stops.Broken f fs ends left place all = absurd ends
  by_short stops.StreamFailed f fs ends left place all = absurd ends
  by_short stops.TooLong f fs ends left place all = absurd ends
  by_short stops.Diverged f fs ends left place all = absurd ends

  -- it was told another reply
  by_other : (f : Frame) (fs : List Frame) (reply : List ℕ) → c.rest ≡ f ∷ fs → f.place ≡ old.count + m → m < done → slice_get replies m ≡ Some reply → reply ≢ reply_in f → at_stop f stops.Diverged
  by_other f fs reply left place lt told other =
      let e = there b.more m (omega (arith, lt, x.done_is)) in
      let args : e.0.args ≡ call_in f = same_some e.0.args (call_in f) (sym (slice_get-map args_in b.more m ∙ ap (option_map args_in) e.1) ∙ ap (λ (cs : List (List ℕ)). slice_get cs m) x.args ∙ get_in_take done m calls lt ∙ (call_there f fs left place).0) in
      let replied : e.0.reply ≡ reply = same_some e.0.reply reply (sym (slice_get-map reply_of b.more m ∙ ap (option_map reply_of) e.1) ∙ ap (λ (cs : List (List ℕ)). slice_get cs m) x.replies_are ∙ get_in_take done m replies lt ∙ told) in
      (published short x.ends (omega (arith, lt)), (e.0, e.1, args, λ same. other (sym replied ∙ same)))

  stopped : (left : List Frame) (stop : Option Stop) → c.rest ≡ left → EndsAtFirst old.count frames replies done short m left stop → Stopped left stop
  stopped [] None left ends =
      let all : c.before ≡ frames = sym (append-nil c.before) ∙ ap (λ (fs : List Frame). c.before ++ fs) (sym left) ∙ sym c.split in
      let m_is : m ≡ many_next old.count frames = ap (λ (fs : List Frame). many_next old.count fs) all in
      let full : done ≡ m = omega (arith, c.reached, x.fits, calls_long, m_is) in
      (published short x.ends (omega (arith, full, m_is, some)), omega (arith, full, x.done_is))
  stopped [] (Some stop) left ends = absurd ends
  stopped (f ∷ fs) None left ends = absurd ends
  stopped (f ∷ fs) (Some stop) left ends = (
    ends.place,
    elim ends.why [
      | inl short' ↦ subst (at_stop f) (sym short'.0) (by_short short f fs x.ends left ends.place short'.1)
      | inr other ↦ subst (at_stop f) (sym other.0) (by_other f fs other.2.0 left ends.place other.1 other.2.1 other.2.2)
    ],
  )

  -- what became of the frames
  pub takes : TakesFrames frames old new took
  takes = record {
    before = c.before;
    rest = c.rest;
    more = b.more;
    passes = b.passes;
    split = c.split;
    many = c.many;
    history = x.history;
    records = x.records;
    one = x.one;
    count_is = x.count_is ∙ ap (λ (n : ℕ). old.count + n) x.done_is;
    few = all_map (λ r. map args_of r.found ≡ calls) FindsFew b.passes (λ r found. omega (arith, ap length found, length-map r.found args_of, calls_long, applied_few old.count frames, few)) x.found;
    updates = updates;
    calls = x.args ∙ ap (λ (n : ℕ). take n calls) x.done_is;
    stops = stopped c.rest took.stop refl c.ends;
  }

-- whether any frame is next, by the list of calls
pub none_next : (fs : List Frame) (items : List (List ℕ)) → items ≡ map call_in fs → true ≡ (length items == 0) → fs ≡ []
none_next fs items are none = no_element fs (sym (length-map fs call_in) ∙ sym (ap length are) ∙ eqb-true (length items) 0 (sym none))

pub some_next : (fs : List Frame) (items : List (List ℕ)) → items ≡ map call_in fs → false ≡ (length items == 0) → 0 < length fs
some_next [] items are some = absurd (let zero : (length items == 0) ≡ true = ap (λ (l : List (List ℕ)). length l == 0) are in let no : false ≡ true = some ∙ zero in cc)
some_next (f ∷ fs) items are some = omega arith
