-- What a stop may leave of words that an earlier program left, after one call more.
use Rattle.std.proofs.Common.{◌≡◌, ◌≢◌, ◌⊎◌, inl, inr, ⊎_elim, ℕ, ◌<◌, ◌≤◌, Bool, true, false, not, ◌&&◌, ◌||◌, ◌==◌, if◌then◌else◌, IsTrue, List, [], ◌∷◌, ◌++◌, length, reverse, nat_le, is_err, is_some, is_none, Option, Some, None, Result, slice_index, set, refl, sym, ap, ◌∙◌, subst, arith, length-set, get_or-set_other, get_or-set_same}
use Rattle.std.proofs.lemmas.Bool.{cases_eq, cases_lt}
use Rattle.std.proofs.lemmas.Bool.Decides.{nat_tests}
use Rattle.std.proofs.lemmas.List.{get_or_past}
use Rattle.std.proofs.lemmas.Grind.{same_number_lists}
use Rattle.rom_device.specs.Device.{After, Stays, WritesWord}
use Rattle.rom_device.specs.Images.{may_leave_words}
use Rattle.rom_device.specs.Log.{words_after, MayLeave}
use Rattle.rom_device.specs.Memory.{start_of, calls_of, room_of, trips_of, words_of_memory, as_listed, keeps_new, trip_of, Lists}
use Rattle.rom_device.specs.Older.{IsOver, MayLeaveOlder, MayLeaveOlderSince, handed, stale}
use Rattle.rom_device.specs.declared.call.LoggedCall.{LoggedCall}
use Rattle.rom_device.specs.declared.call.LoggedCall.TheVariants.{Read, Write, Sync}
use Rattle.rom_device.specs.declared.trip.Trip.{Trip}
use Rattle.rom_device.specs.declared.memory.Memory.{Memory}
use Rattle.rom_device.proofs.Synced.{newest}

-- the log after a call, where there was room for it and where there was none
abbrev pub Goes : LoggedCall → List LoggedCall → List LoggedCall → Type 0
Goes call old new = (new ≡ old) ⊎ (new ≡ call ∷ old)

pub goes : {T E : Type 0} (call : LoggedCall) (old new : Memory) (result : Result T E) → Lists call old new result
    → Goes (as_listed (room_of old) (trips_of old) (calls_of old) call) (reverse (calls_of old)) (reverse (calls_of new))
goes call old new result lists = by_room (nat_le (room_of old) (length (calls_of old))) lists.calls
  where
    made : LoggedCall
    made = as_listed (room_of old) (trips_of old) (calls_of old) call

    by_room : (full : Bool) → calls_of new ≡ (if full then calls_of old else calls_of old ++ made ∷ []) → Goes made (reverse (calls_of old)) (reverse (calls_of new))
    by_room true is = inl (ap reverse is)
    by_room false is = inr (newest (calls_of old) (calls_of new) made is)

-- a call that went well was listed, as it was asked for
or_false : (a b : Bool) → (a || b) ≡ false → (a ≡ false) × (b ≡ false)
or_false true b is = absurd (let never : true ≡ false = is in cc)
or_false false b is = (refl, is)

pub went_well : {T E : Type 0} (call : LoggedCall) (old new : Memory) (result : Result T E) → is_err result ≡ false → Lists call old new result
    → (reverse (calls_of new) ≡ as_listed (room_of old) (trips_of old) (calls_of old) call ∷ reverse (calls_of old)) × (is_some (trip_of (room_of old) (trips_of old) (calls_of old) call) ≡ false)
went_well call old new result well lists =
    let both = or_false (nat_le (room_of old) (length (calls_of old))) (is_some (trip_of (room_of old) (trips_of old) (calls_of old) call)) (sym lists.fails ∙ well) in
    (newest (calls_of old) (calls_of new) made (subst (λ (full : Bool). calls_of new ≡ (if full then calls_of old else calls_of old ++ made ∷ [])) both.0 lists.calls), both.1)
  where
    made : LoggedCall
    made = as_listed (room_of old) (trips_of old) (calls_of old) call

pub lands_well : (room : ℕ) (trips : List Trip) (trip : Option Trip) → is_some trip ≡ false → keeps_new room trips trip ≡ true
lands_well room trips None is = refl
lands_well room trips (Some trip) is = absurd (let never : true ≡ false = is in cc)

pub done_well : (trip : Option Trip) → is_some trip ≡ false → is_none trip ≡ true
done_well None is = refl
done_well (Some trip) is = absurd (let never : true ≡ false = is in cc)

-- each image after one call, by those before it
module _ (older base : List ℕ) (log : List LoggedCall) where
  pub after_read : (at : ℕ) (i : List ℕ) → MayLeaveOlder older base (Read at ∷ log) i → After Stays (MayLeaveOlder older base log) i
  after_read at i may = record { from = i; was = record { words = may.words; was = may.was; over = may.over }; by = refl }

  pub after_sync : (done : Bool) (i : List ℕ) → MayLeaveOlder older base (Sync done ∷ log) i → After Stays (MayLeaveOlder older base log) i
  after_sync true i may = record {
    from = i;
    was = record {
      words = may.words;
      was = subst (λ (x : List ℕ). MayLeave base log x) (sym may.was) (may_leave_words base log);
      over = record {
        as_long = may.over.as_long;
        each = λ k. ⊎_elim (λ same. inl same) (λ old. inr (first (stale older base log k) (not (handed log k)) old.0, old.1)) (may.over.each k);
      };
    };
    by = refl;
  }
    where
      first : (a b : Bool) → IsTrue (a && b) → IsTrue a
      first true b is = refl
      first false b is = absurd (let never : false ≡ true = is in cc)
  after_sync false i may = record { from = i; was = record { words = may.words; was = may.was; over = may.over }; by = refl }

  -- a word that is written: the image is one from before, or one in which that word was as it was
  module _ (at value : ℕ) (lands : Bool) (i : List ℕ) where
    undone : (x y : List ℕ) → MayLeave base log x → y ≡ set x at value → IsOver (stale older base log) older y i → (slice_index i at ≡ slice_index y at) ⊎ (IsTrue (stale older base log at) × (slice_index i at ≡ slice_index older at))
        → After (WritesWord at value) (MayLeaveOlder older base log) i
    undone x y was put over (inr old) = record {
      from = i;
      was = record {
        words = x;
        was = was;
        over = record {
          as_long = over.as_long ∙ ap length put ∙ length-set x at value;
          each = λ k. elim (cases_eq k at) [
            | inl is ↦ inr (subst (λ (j : ℕ). IsTrue (stale older base log j) × (slice_index i j ≡ slice_index older j)) (sym is) old)
            | inr other ↦ ⊎_elim (λ same. inl (same ∙ beside k other)) (λ old. inr old) (over.each k)
          ];
        };
      };
      by = inl refl;
    }
      where
        beside : (k : ℕ) → k ≢ at → slice_index y k ≡ slice_index x k
        beside k other = let stays : slice_index (set x at value) k ≡ slice_index x k = rw get_or-set_other refl in ap (λ (l : List ℕ). slice_index l k) put ∙ stays
    undone x y was put over (inl same) = record {
      from = set i at (slice_index x at);
      was = record {
        words = x;
        was = was;
        over = record {
          as_long = length-set i at (slice_index x at) ∙ long;
          each = λ k. elim (cases_eq k at) [
            | inl is ↦ inl (subst (λ (j : ℕ). slice_index (set i at (slice_index x at)) j ≡ slice_index x j) (sym is) here)
            | inr other ↦ ⊎_elim (λ same. inl (aside k other ∙ same ∙ beside k other)) (λ old. inr (old.0, aside k other ∙ old.1)) (over.each k)
          ];
        };
      };
      by = inr (same_number_lists i (set (set i at (slice_index x at)) at value) (sym (length-set (set i at (slice_index x at)) at value ∙ length-set i at (slice_index x at))) (λ k lt. elim (cases_eq k at) [
        | inl is ↦ subst (λ (j : ℕ). slice_index i j ≡ slice_index (set (set i at (slice_index x at)) at value) j) (sym is) (now (subst (λ (j : ℕ). j < length i) is lt))
        | inr other ↦
            let twice : slice_index (set (set i at (slice_index x at)) at value) k ≡ slice_index (set i at (slice_index x at)) k = rw get_or-set_other refl in
            sym (twice ∙ aside k other)
      ]));
    }
      where
        long : length i ≡ length x
        long = over.as_long ∙ ap length put ∙ length-set x at value

        beside : (k : ℕ) → k ≢ at → slice_index y k ≡ slice_index x k
        beside k other = let stays : slice_index (set x at value) k ≡ slice_index x k = rw get_or-set_other refl in ap (λ (l : List ℕ). slice_index l k) put ∙ stays

        aside : (k : ℕ) → k ≢ at → slice_index (set i at (slice_index x at)) k ≡ slice_index i k
        aside k other = rw get_or-set_other refl

        here : slice_index (set i at (slice_index x at)) at ≡ slice_index x at
        here = elim (cases_lt at (length i)) [
          | inl inside ↦ rw get_or-set_same refl
          | inr past ↦ get_or_past (set i at (slice_index x at)) at 0 (omega (arith, past, length-set i at (slice_index x at))) ∙ sym (get_or_past x at 0 (omega (arith, past, long)))
        ]

        now : at < length i → slice_index i at ≡ slice_index (set (set i at (slice_index x at)) at value) at
        now inside =
            let put_here : slice_index (set x at value) at ≡ value = (let fits : at < length x = omega (arith, inside, long) in rw get_or-set_same refl) in
            let put_there : slice_index (set (set i at (slice_index x at)) at value) at ≡ value = (let fits : at < length (set i at (slice_index x at)) = omega (arith, inside, length-set i at (slice_index x at)) in rw get_or-set_same refl) in
            same ∙ ap (λ (l : List ℕ). slice_index l at) put ∙ put_here ∙ sym put_there

    pub after_write : MayLeaveOlder older base (Write at value lands ∷ log) i → After (WritesWord at value) (MayLeaveOlder older base log) i
    after_write may = elim may.was.by [
      | inl stays ↦ record { from = i; was = record { words = may.was.from; was = may.was.was; over = subst (λ (x : List ℕ). IsOver (stale older base log) older x i) stays may.over }; by = inl refl }
      | inr put ↦ undone may.was.from may.words may.was.was put may.over (may.over.each at)
    ]

-- what a memory with older words shows of its images
abbrev pub log_of : Memory → List LoggedCall
log_of m = reverse (calls_of m)

abbrev pub leaves_of : List ℕ → Memory → List ℕ → Type 0
leaves_of older m = MayLeaveOlder older (start_of m) (log_of m)

abbrev pub since_of : List ℕ → Memory → ℕ → List ℕ → Type 0
since_of older m t = MayLeaveOlderSince older (start_of m) t (log_of m)

abbrev pub doubted_of : List ℕ → Memory → ℕ → Type 0
doubted_of older m at = IsTrue (stale older (start_of m) (log_of m) at && not (handed (log_of m) at))

-- a run of calls, as of a device
pub record RunsOlder (older : List ℕ) (step : List ℕ → List ℕ → Type 0) (a b : Memory) : Type 0 where
  pub later : length (reverse (calls_of a)) ≤ length (reverse (calls_of b))
  pub now : (i : List ℕ) → leaves_of older b i → After step (leaves_of older a) i
  pub nothing_else : (t : ℕ) (i : List ℕ) → since_of older b t i → since_of older a t i ⊎ After step (leaves_of older a) i
  pub keeps : (t : ℕ) (i : List ℕ) → t ≤ length (reverse (calls_of a)) → since_of older a t i → since_of older b t i

-- what one call does to the images
module _ (older : List ℕ) (a b : Memory) (same_start : start_of b ≡ start_of a) where
  was_so : (log : List LoggedCall) → log_of b ≡ log → (i : List ℕ) → leaves_of older b i → MayLeaveOlder older (start_of a) log i
  was_so log is i left = subst (λ (l : List LoggedCall). MayLeaveOlder older (start_of a) l i) is (subst (λ (x : List ℕ). MayLeaveOlder older x (log_of b) i) same_start left)

  since_so : (log : List LoggedCall) → log_of b ≡ log → (t : ℕ) (i : List ℕ) → since_of older b t i → MayLeaveOlderSince older (start_of a) t log i
  since_so log is t i left = subst (λ (l : List LoggedCall). MayLeaveOlderSince older (start_of a) t l i) is (subst (λ (x : List ℕ). MayLeaveOlderSince older x t (log_of b) i) same_start left)

  is_since : (log : List LoggedCall) → log_of b ≡ log → (t : ℕ) (i : List ℕ) → MayLeaveOlderSince older (start_of a) t log i → since_of older b t i
  is_since log is t i since = subst (λ (x : List ℕ). MayLeaveOlderSince older x t (log_of b) i) (sym same_start) (subst (λ (l : List LoggedCall). MayLeaveOlderSince older (start_of a) t l i) (sym is) since)

  pub runs_on : (step : List ℕ → List ℕ → Type 0) → ((x : List ℕ) → step x x) → (call : LoggedCall) → ((i : List ℕ) → MayLeaveOlder older (start_of a) (call ∷ log_of a) i → After step (leaves_of older a) i)
      → Goes call (log_of a) (log_of b) → RunsOlder older step a b
  runs_on step same call by (inl stays) = record {
    later = omega (arith, ap length stays);
    now = λ i left. record { from = i; was = was_so (log_of a) stays i left; by = same i };
    nothing_else = λ t i left. inl (since_so (log_of a) stays t i left);
    keeps = λ t i le left. is_since (log_of a) stays t i left;
  }
  runs_on step same call by (inr made) = record {
    later = omega (arith, ap length made);
    now = λ i left. by i (was_so (call ∷ log_of a) made i left);
    nothing_else = λ t i left. ⊎_elim (λ may. inr (by i may)) (λ earlier. inl earlier.1) (since_so (call ∷ log_of a) made t i left);
    keeps = λ t i le left. is_since (call ∷ log_of a) made t i (inr (le, left));
  }

  -- and to the places in doubt
  doubt_so : (log : List LoggedCall) → log_of b ≡ log → (at : ℕ) → doubted_of older b at → IsTrue (stale older (start_of a) log at && not (handed log at))
  doubt_so log is at here = subst (λ (l : List LoggedCall). IsTrue (stale older (start_of a) l at && not (handed l at))) is
      (subst (λ (x : List ℕ). IsTrue (stale older x (log_of b) at && not (handed (log_of b) at))) same_start here)

  no_less : (s h w : Bool) → IsTrue (s && not (w || h)) → IsTrue (s && not h)
  no_less s h true is = absurd (doubt_none s is)
    where
      doubt_none : (s : Bool) → IsTrue (s && false) → ⊥
      doubt_none true is = absurd (let never : false ≡ true = is in cc)
      doubt_none false is = absurd (let never : false ≡ true = is in cc)
  no_less s h false is = is

  no_more : (s h : Bool) → IsTrue ((s && not h) && not h) → IsTrue (s && not h)
  no_more true true is = is
  no_more true false is = is
  no_more false h is = is

  fewer_by : (call : LoggedCall) (at : ℕ) → IsTrue (stale older (start_of a) (call ∷ log_of a) at && not (handed (call ∷ log_of a) at)) → doubted_of older a at
  fewer_by (Read place) at is = is
  fewer_by (Write place value lands) at is = no_less (stale older (start_of a) (log_of a) at) (handed (log_of a) at) (lands && (place == at)) is
  fewer_by (Sync true) at is = no_more (stale older (start_of a) (log_of a) at) (handed (log_of a) at) is
  fewer_by (Sync false) at is = is

  pub fewer_on : (call : LoggedCall) → Goes call (log_of a) (log_of b) → (at : ℕ) → doubted_of older b at → doubted_of older a at
  fewer_on call (inl stays) at is = doubt_so (log_of a) stays at is
  fewer_on call (inr made) at is = fewer_by call at (doubt_so (call ∷ log_of a) made at is)

  pub renewed_by : (at value : ℕ) (lands : Bool) → lands ≡ true → log_of b ≡ Write at value lands ∷ log_of a → doubted_of older b at → ⊥
  renewed_by at value lands well made is = none (stale older (start_of a) (log_of a) at) (handed (log_of a) at) (lands && (at == at)) (ap (λ (l : Bool). l && (at == at)) well ∙ same at) (doubt_so (Write at value lands ∷ log_of a) made at is)
    where
      same : (k : ℕ) → (true && (k == k)) ≡ true
      same k = grind (arith, nat_tests)

      none : (s h w : Bool) → w ≡ true → IsTrue (s && not (w || h)) → ⊥
      none true h true is here = absurd (let never : false ≡ true = here in cc)
      none false h true is here = absurd (let never : false ≡ true = here in cc)
      none s h false is here = absurd (let never : false ≡ true = is in cc)

  pub settled_by : (done : Bool) → done ≡ true → log_of b ≡ Sync done ∷ log_of a → (i : List ℕ) → leaves_of older b i → (k : ℕ) → (slice_index i k ≡ slice_index (words_of_memory b) k) ⊎ doubted_of older b k
  settled_by done well made i left k =
      let log : List LoggedCall = Sync true ∷ log_of a in
      let is : log_of b ≡ log = made ∙ ap (λ (d : Bool). Sync d ∷ log_of a) well in
      settle (subst (λ (l : List LoggedCall). MayLeaveOlder older (start_of b) l i) is left) is k
    where
      twice : (s h : Bool) → IsTrue (s && not h) → IsTrue ((s && not h) && not h)
      twice true true is = is
      twice true false is = is
      twice false h is = is

      settle : MayLeaveOlder older (start_of b) (Sync true ∷ log_of a) i → log_of b ≡ Sync true ∷ log_of a → (k : ℕ) → (slice_index i k ≡ slice_index (words_of_memory b) k) ⊎ doubted_of older b k
      settle may is k = ⊎_elim
          (λ reads. inl (reads ∙ ap (λ (x : List ℕ). slice_index x k) may.was ∙ ap (λ (l : List LoggedCall). slice_index (words_after (start_of b) l) k) (sym is)))
          (λ old. inr (subst (λ (l : List LoggedCall). IsTrue (stale older (start_of b) l k && not (handed l k))) (sym is) (twice (stale older (start_of b) (log_of a) k) (handed (log_of a) k) old.0)))
          (may.over.each k)
