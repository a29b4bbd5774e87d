-- A stream that is followed on, and up to a stop.
use Rattle.std.proofs.Common.{◌≡◌, ◌≢◌, ℕ, ◌+◌, List, [], ◌∷◌, ◌++◌, length, map, take, refl, sym, ap, ◌∙◌, subst, arith, inl, inr, append-nil, append_assoc, length-append}
use Rattle.std.specs.Prelude.{Option, Some, None, slice_get}
use Rattle.std.specs.List.{AllByRecursion}
use Rattle.std.specs.Io.KnownBytes.{Consumes}
use Rattle.std.proofs.KnownBytes.{Consumes-nil, Consumes-trans}
use Rattle.std.proofs.Math.Seq.{take-append-add, take-append_seam}
use Rattle.std.proofs.lemmas.List.{length-map, length-take, map-append, take_all}
use Rattle.rom_model.specs.declared.entry.Entry.{Entry}
use Rattle.rom_model.specs.declared.record.PassRecord.{PassRecord}
use Rattle.rom_rule.proofs.Told.{all_append}
use Rattle.rom_store.specs.Lone.{args_in, reply_of}
use Rattle.rom_text.specs.Streams.{IsAskedOnce, ShownSource}
use Rattle.rom_frame.proofs.Hearing.{came_on, failed_on, gave_on}
use Rattle.rom_frame.specs.Frames.{IsOfWords}
use Rattle.rom_frame.specs.Messages.{GaveOn}
use Rattle.rom_frame.specs.declared.frame.Frame.{Frame}
use Rattle.rom_follow.specs.Following.{update_of}
use Rattle.rom_replica.proofs.Hearing.{asked_since}
use Rattle.rom_replica.specs.Turns.{applied, bytes_of_all, early, known}
use Rattle.rom_replica.specs.declared.stop.Stop.{Stop}
use Rattle.rom_replica.specs.declared.stop.Stop.TheVariants as stops
use Rattle.rom_tail.specs.Batches.{call_in, many_next, reply_in, update_in}
use Rattle.rom_tail.specs.Chased.{Chased, FindsFew, IsPublished, StopsAt, StopsAtFirst, TakesFrames}
use Rattle.rom_tail.specs.Intakes.{HasTaken, IsStopOfStream}
use Rattle.rom_tail.specs.Tailed.{HasGoneOn, HasStopped, IsAllDone, IsStopAt, IsTailed, TurnsTo}
use Rattle.rom_tail.specs.Tallied.{CountsFrames, IsTally}
use Rattle.rom_tail.specs.declared.batch.Took.{Took}
use Rattle.rom_tail.specs.declared.tally.Tally.{Tally}
use Rattle.rom_tail.proofs.Lists.{first_agrees, get_past, no_element}
use Rattle.rom_replica.proofs.Turning.{applied_behind, bytes_behind, early_behind, known_behind}

-- at first nothing was read or done
pub gone_nowhere : {X : Type 0} (source : ShownSource X) (was : X) (c : Chased) → c.history ≡ [] → c.records ≡ [] → HasGoneOn source c.count was [] was c record { applied = 0; known = 0; early = 0 }
gone_nowhere source was c history records = record {
  frames = [];
  of_words = tt;
  read = Consumes-nil (source.left was);
  gave = record { idle = refl; faults = refl };
  count_is = let same : c.count ≡ c.count + 0 = omega arith in same;
  updates = ap (map update_of) history;
  all = record { long = ap length history; published = subst (λ (rs : List PassRecord). AllByRecursion IsPublished rs) (sym records) tt };
  few = subst (λ (rs : List PassRecord). AllByRecursion FindsFew rs) (sym records) tt;
  tally_is = record { applied_is = refl; known_is = refl; early_is = refl };
}

asked : {X : Type 0} (source : ShownSource X) (was now : X) → GaveOn source was now → IsAskedOnce source was now
asked source was now gave = record { idle = inl gave.idle; faults = inl gave.faults }

-- The frames taken before, and those taken now.
module _ {X : Type 0} (source : ShownSource X) (n0 : ℕ) (was mid now : X) (waited waits : List ℕ) (c new : Chased) (tally tally' : Tally) (frames : List Frame) (took : Took)
    (so : HasGoneOn source n0 was waited mid c tally) (taken : HasTaken source waited waits mid now frames) (of_words : AllByRecursion IsOfWords frames) where
  abbrev had : List Frame
  had = so.frames

  all_words : AllByRecursion IsOfWords (had ++ frames)
  all_words = all_append IsOfWords had frames so.of_words of_words

  read : Consumes (source.left was) (source.left now) (bytes_of_all (had ++ frames) ++ waits)
  read = subst (Consumes (source.left was) (source.left now))
      (append_assoc (bytes_of_all had) waited taken.bytes ∙ ap (λ (bs : List ℕ). bytes_of_all had ++ bs) taken.are ∙ sym (append_assoc (bytes_of_all had) (bytes_of_all frames) waits) ∙ ap (λ (bs : List ℕ). bs ++ waits) (sym (bytes_behind had frames)))
      (Consumes-trans (source.left was) (source.left mid) (source.left now) (bytes_of_all had ++ waited) taken.bytes so.read taken.consumed)

  -- of frames behind those taken before
  next : (fs : List Frame) → applied n0 (had ++ fs) ≡ applied n0 had ++ applied c.count fs
  next fs = applied_behind n0 had fs ∙ ap (λ (k : ℕ). applied n0 had ++ applied k fs) (sym so.count_is)

  many : (fs : List Frame) → many_next n0 (had ++ fs) ≡ many_next n0 had + many_next c.count fs
  many fs = ap length (next fs) ∙ length-append (applied n0 had) (applied c.count fs)

  -- where the stream itself is the stop
  module _ (none : frames ≡ []) (stop : Stop) where
    since : (s : Stop) → IsStopOfStream source waits mid now s → IsStopOfStream source waits was now s
    since stops.End is = (is.0, came_on source was mid now so.gave is.1)
    since stops.Broken (inl is) = inl (is.0, gave_on source was mid now so.gave is.1)
    since stops.Broken (inr is) = inr (is.0, is.1, came_on source was mid now so.gave is.2)
    since stops.StreamFailed is = (is.0, failed_on source was mid now so.gave is.1)
    since stops.DeviceFailed is = absurd is
    since stops.TooLong is = absurd is
    since stops.Diverged is = absurd is
    since stops.Spent is = absurd is

    pub stream_stops : IsStopOfStream source waits mid now stop → IsAskedOnce source mid now → IsTailed source n0 was now c.history c.records tally stop
    stream_stops is asked_once =
        let same : had ++ frames ≡ had ++ [] = ap (λ (fs : List Frame). had ++ fs) none in
        record {
          frames = had;
          rest = [];
          bytes = waits;
          of_words = subst (AllByRecursion IsOfWords) same all_words;
          read = subst (λ (fs : List Frame). Consumes (source.left was) (source.left now) (bytes_of_all fs ++ waits)) same read;
          updates = ap (map update_of) (take_all (many_next n0 had) c.history (omega (arith, so.all.long))) ∙ so.updates;
          calls = first_agrees args_in reply_of call_in reply_in c.history (applied n0 had) so.updates ∙ ap (λ (fs : List Frame). map call_in (applied n0 fs)) (sym (append-nil had))
              ∙ sym (take_all (length c.history) (map call_in (applied n0 (had ++ []))) (omega (arith, so.all.long, length-map (applied n0 (had ++ [])) call_in, ap (λ (fs : List Frame). many_next n0 fs) (append-nil had))));
          few = so.few;
          stopped = (since stop is, so.all);
          tally_is = so.tally_is;
          asked_once = asked_since source 0 [] was mid now so.gave asked_once;
        }

  module _ (gave : GaveOn source mid now) (t : TakesFrames frames c new took) (counts : CountsFrames c.count (take took.counted frames) tally tally') where
    abbrev m : ℕ
    m = many_next c.count t.before

    before_is : take took.counted frames ≡ t.before
    before_is = (λ i. take (t.many i) (t.split i)) ∙ take-append_seam t.before t.rest

    counted : CountsFrames c.count t.before tally tally'
    counted = subst (λ (fs : List Frame). CountsFrames c.count fs tally tally') before_is counts

    now_gave : GaveOn source was now
    now_gave = gave_on source was mid now so.gave gave

    tally_now : IsTally n0 (had ++ t.before) tally'
    tally_now = record {
      applied_is = omega (arith, counted.applied_is, so.tally_is.applied_is, many t.before);
      known_is = omega (arith, counted.known_is, so.tally_is.known_is, known_behind n0 had t.before, ap (λ (k : ℕ). known k t.before) so.count_is);
      early_is = omega (arith, counted.early_is, so.tally_is.early_is, early_behind n0 had t.before, ap (λ (k : ℕ). early k t.before) so.count_is);
    }

    long : length c.history ≡ many_next n0 had
    long = so.all.long

    -- the first entries are the updates of the frames before a stop
    updates : map update_of (take (many_next n0 (had ++ t.before)) new.history) ≡ map update_in (applied n0 (had ++ t.before))
    updates =
        ap (λ (k : ℕ). map update_of (take k new.history)) (let sum : many_next n0 (had ++ t.before) ≡ length c.history + m = omega (arith, many t.before, long) in sum)
        ∙ ap (λ (es : List Entry). map update_of (take (length c.history + m) es)) t.history
        ∙ ap (map update_of) (take-append-add c.history t.more m)
        ∙ map-append update_of c.history (take m t.more)
        ∙ (λ i. so.updates i ++ t.updates i)
        ∙ sym (map-append update_in (applied n0 had) (applied c.count t.before))
        ∙ ap (map update_in) (sym (next t.before))

    calls : map args_in new.history ≡ take (length new.history) (map call_in (applied n0 (had ++ frames)))
    calls =
        let first : map args_in c.history ≡ map call_in (applied n0 had) = first_agrees args_in reply_of call_in reply_in c.history (applied n0 had) so.updates in
        let behind : List (List ℕ) = map call_in (applied c.count frames) in
        let sum : length new.history ≡ length (map call_in (applied n0 had)) + length t.more = omega (arith, ap length t.history, length-append c.history t.more, long, length-map (applied n0 had) call_in) in
        ap (map args_in) t.history ∙ map-append args_in c.history t.more ∙ (λ i. first i ++ t.calls i)
        ∙ sym (take-append-add (map call_in (applied n0 had)) behind (length t.more))
        ∙ (λ i. take (sym sum i) (sym (ap (map call_in) (next frames) ∙ map-append call_in (applied n0 had) (applied c.count frames)) i))

    few : AllByRecursion FindsFew new.records
    few = subst (AllByRecursion FindsFew) (sym t.records) (all_append FindsFew c.records t.passes so.few t.few)

    published : AllByRecursion IsPublished t.passes → AllByRecursion IsPublished new.records
    published passes = subst (AllByRecursion IsPublished) (sym t.records) (all_append IsPublished c.records t.passes so.all.published passes)

    all_done : AllByRecursion IsPublished t.passes → length t.more ≡ m → IsAllDone n0 (had ++ t.before) new.history new.records
    all_done passes all = record {
      long = omega (arith, ap length t.history, length-append c.history t.more, long, all, many t.before);
      published = published passes;
    }

    -- there is no stop among them
    pub goes_on : took.stop ≡ None → HasGoneOn source n0 was waits now new tally'
    goes_on on = by t.rest took.stop refl on t.stops
      where
        by : (left : List Frame) (stop : Option Stop) → t.rest ≡ left → stop ≡ None → StopsAtFirst frames c new t.before t.rest t.more t.passes left stop → HasGoneOn source n0 was waits now new tally'
        by [] None left is ends =
            let whole : frames ≡ t.before = t.split ∙ ap (λ (fs : List Frame). t.before ++ fs) left ∙ append-nil t.before in
            let same : had ++ frames ≡ had ++ t.before = ap (λ (fs : List Frame). had ++ fs) whole in
            let all = all_done ends.0 ends.1 in
            record {
              frames = had ++ t.before;
              of_words = subst (AllByRecursion IsOfWords) same all_words;
              read = subst (λ (fs : List Frame). Consumes (source.left was) (source.left now) (bytes_of_all fs ++ waits)) same read;
              gave = now_gave;
              count_is = omega (arith, t.count_is, ends.1, so.count_is, many t.before);
              updates = ap (map update_of) (sym (take_all (many_next n0 (had ++ t.before)) new.history (omega (arith, all.long)))) ∙ updates;
              all = all;
              few = few;
              tally_is = tally_now;
            }
        by [] (Some s) left is ends = absurd ends
        by (f ∷ fs) None left is ends = absurd ends
        by (f ∷ fs) (Some s) left is ends = cc

    -- or one of them is the stop
    stops_at : (f : Frame) (s : Stop) → f.place ≡ c.count + m → StopsAt frames c new t.before t.rest t.more t.passes f s → IsStopAt n0 new.history new.records (had ++ t.before) t.rest f s
    stops_at f stops.DeviceFailed place (failed, none) =
        let no_m : m ≡ 0 = omega (arith, ap length t.updates, length-map (take m t.more) update_of, length-map (applied c.count t.before) update_in, length-take m t.more, ap length none) in
        let no_calls : applied c.count t.before ≡ [] = no_element (applied c.count t.before) no_m in
        let left : applied c.count frames ≡ applied (n0 + many_next n0 (had ++ t.before)) t.rest =
        ap (λ (fs : List Frame). applied c.count fs) t.split ∙ applied_behind c.count t.before t.rest ∙ ap (λ (fs : List Frame). fs ++ applied (c.count + m) t.rest) no_calls
        ∙ ap (λ (k : ℕ). applied k t.rest) (let sum : c.count + m ≡ n0 + many_next n0 (had ++ t.before) = omega (arith, so.count_is, many t.before) in sum) in (
          omega (arith, ap length t.history, length-append c.history t.more, long, ap length none, no_m, many t.before),
          record {
            earlier = c.records ++ failed.earlier;
            pass = failed.pass;
            last = t.records ∙ ap (λ (rs : List PassRecord). c.records ++ rs) failed.last ∙ sym (append_assoc c.records failed.earlier (failed.pass ∷ []));
            published = all_append IsPublished c.records failed.earlier so.all.published failed.published;
            fate = failed.fate;
            found = failed.found ∙ ap (map call_in) left;
            len_is = failed.len_is;
          },
        )
    stops_at f stops.Diverged place (passes, e) = (
      published passes,
      (
        e.0,
        (λ i. slice_get (t.history i) ((let sum : many_next n0 (had ++ t.before) ≡ length c.history + m = omega (arith, many t.before, long) in sum) i)) ∙ get_past c.history t.more m ∙ e.1,
        e.2,
        e.3,
      ),
    )
    stops_at f stops.Spent place (passes, all, why) = (
      all_done passes all,
      elim why [
        | inl last ↦ inl last
        | inr spent ↦ inr (omega (arith, spent, ap length t.records, length-append c.records t.passes))
      ],
    )
    stops_at f stops.End place is = absurd is
    stops_at f stops.Broken place is = absurd is
    stops_at f stops.StreamFailed place is = absurd is
    stops_at f stops.TooLong place is = absurd is

    pub batch_stops : (stop : Stop) → took.stop ≡ Some stop → IsTailed source n0 was now new.history new.records tally' stop
    batch_stops stop is =
        let same : had ++ frames ≡ (had ++ t.before) ++ t.rest = ap (λ (fs : List Frame). had ++ fs) t.split ∙ sym (append_assoc had t.before t.rest) in
        record {
          frames = had ++ t.before;
          rest = t.rest;
          bytes = waits;
          of_words = subst (AllByRecursion IsOfWords) same all_words;
          read = subst (λ (fs : List Frame). Consumes (source.left was) (source.left now) (bytes_of_all fs ++ waits)) same read;
          updates = updates;
          calls = calls ∙ ap (λ (fs : List Frame). take (length new.history) (map call_in (applied n0 fs))) same;
          few = few;
          stopped = by t.rest took.stop is t.stops;
          tally_is = tally_now;
          asked_once = asked source was now now_gave;
        }
      where
        by : (left : List Frame) (o : Option Stop) → o ≡ Some stop → StopsAtFirst frames c new t.before t.rest t.more t.passes left o → HasStopped source n0 was now new.history new.records (had ++ t.before) t.rest waits left stop
        by [] None is ends = cc
        by [] (Some s) is ends = absurd ends
        by (f ∷ fs) None is ends = cc
        by (f ∷ fs) (Some s) is ends =
            let one : s ≡ stop = cc in (
              now_gave,
              omega (arith, ends.0, so.count_is, many t.before),
              subst (IsStopAt n0 new.history new.records (had ++ t.before) t.rest f) one (stops_at f s ends.0 ends.1),
            )

    -- what the turn comes to
    pub turns_to : (o : Option Stop) → took.stop ≡ o → TurnsTo source n0 was o waits now new tally'
    turns_to None is = goes_on is
    turns_to (Some stop) is = batch_stops stop is

-- no stream without an end is too long
pub not_long : {X : Type 0} (source : ShownSource X) (n0 : ℕ) (was now : X) (history : List Entry) (records : List PassRecord) (tally : Tally) (stop : Stop) → IsTailed source n0 was now history records tally stop → stop ≢ stops.TooLong
not_long source n0 was now history records tally stop t is = by t.rest (subst (λ (s : Stop). HasStopped source n0 was now history records t.frames t.rest t.bytes t.rest s) is t.stopped)
  where
    by : (left : List Frame) → HasStopped source n0 was now history records t.frames t.rest t.bytes left stops.TooLong → ⊥
    by [] stopped = stopped.0
    by (f ∷ fs) stopped = stopped.2
