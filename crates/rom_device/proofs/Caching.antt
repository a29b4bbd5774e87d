-- How a cached medium goes on, as its medium does and as words are put behind those that wait.
use Rattle.std.proofs.Common.{◌≡◌, ◌≢◌, ◌⊎◌, inl, inr, ℕ, ◌+◌, ◌<◌, ◌≤◌, Bool, true, false, IsTrue, List, length, slice_index, Option, Some, None, IfSome, set, refl, sym, ◌∙◌, subst, arith}
use Rattle.rom_device.specs.Device.{ShownDevice, AreSettled, Stays, WritesWord, Does, OnlyReads}
use Rattle.rom_device.specs.Medium.{HandsOver}
use Rattle.rom_device.specs.Run.{nth_of, word_of_run, with_run, IsNextPlace}
use Rattle.rom_device.specs.Windows.{Knows}
use Rattle.rom_device.specs.Cached.{may_leave, shown_by_cached}
use Rattle.rom_device.specs.declared.run.Run.{Run}
use Rattle.rom_device.specs.declared.windows.Windows.{Windows}
use Rattle.rom_device.specs.declared.cached.Cached.{Cached}
use Rattle.rom_device.proofs.Laid.{laid_again}
use Rattle.rom_device.specs.Over.{length-laid}
use Rattle.std.specs.Bool.{OnTrue}
use Rattle.rom_device.proofs.Told.{on_true}
use Rattle.rom_device.proofs.Waiting.{nth_by_place, nth_put, run_has}
use Rattle.rom_device.proofs.Over.{laid_empty, over_reads, over_hands, over_handed, over_syncs, over_settled, over_puts, words_put}

pub knows_by : (w : Windows) (x y : List ℕ) → x ≡ y → Knows w x → Knows w y
knows_by w x y same knows = subst (λ (l : List ℕ). Knows w l) same knows

-- what waits and what is handed over, and waits on, reads the same
pub same_words : {M : Type 0} (shown : ShownDevice M) (run : Run) (m m' : M) (done : Bool) → IsTrue shown.tells_words → run.first + run.count ≤ length (shown.words m)
    → HandsOver shown run.first (nth_of run) run.count m m' done → with_run run (shown.words m) ≡ with_run run (shown.words m')
same_words shown run m m' done told fits hands = sym (laid_again run.first (nth_of run) run.count (shown.words m) (shown.words m') fits (hands.does.words told))

hands_true : {M : Type 0} (shown : ShownDevice M) (run : Run) (m m' : M) (done : Bool) → done ≡ true → HandsOver shown run.first (nth_of run) run.count m m' done → HandsOver shown run.first (nth_of run) run.count m m' true
hands_true shown run m m' done is hands = subst (λ (d : Bool). HandsOver shown run.first (nth_of run) run.count m m' d) is hands

-- and where none waits any longer
pub handed_words : {M : Type 0} (shown : ShownDevice M) (run none : Run) (m m' : M) (done : Bool) → done ≡ true → none.count ≡ 0 → IsTrue shown.tells_words
    → HandsOver shown run.first (nth_of run) run.count m m' done → with_run run (shown.words m) ≡ with_run none (shown.words m')
handed_words shown run none m m' done is empty told hands =
    sym (laid_empty none.first (nth_of none) none.count (shown.words m') empty ∙ (hands_true shown run m m' done is hands).written told)

-- a run that has one word more
pub record Longer (at value : ℕ) (a b : Run) : Type 0 where
  pub count : b.count ≡ a.count + 1
  pub place : b.first + a.count ≡ at
  pub first : 0 < a.count → b.first ≡ a.first
  pub word : word_of_run b at ≡ Some value
  pub others : (k : ℕ) → k ≢ at → word_of_run b k ≡ word_of_run a k

nth_others : (at value : ℕ) (a b : Run) → Longer at value a b → (k : ℕ) → k < a.count → nth_of a k ≡ nth_of b k
nth_others at value a b longer k lt = nth_by_place a b k (sym (longer.first (omega (arith, lt)))) (sym (longer.others (b.first + k) (omega (arith, lt, longer.place))))

-- the words then, whatever the medium's
pub longer_words : (at value : ℕ) (a b : Run) (x : List ℕ) → Longer at value a b → with_run b x ≡ set (with_run a x) at value
longer_words at value a b x longer = words_put plain (λ _. 0) (λ _. 0) (λ run. run) at value a b record {
  on_medium = refl;
  as_long = refl;
  count = longer.count;
  place = longer.place;
  first = longer.first;
  last = nth_put b a.count at value longer.place longer.word;
  others = nth_others at value a b longer;
}
  where
    plain : ShownDevice ℕ
    plain = record {
      size = λ _. 0;
      tells_words = true;
      words = λ _. x;
      tells_images = true;
      leaves = λ _ _. Unit {0};
      clock = λ _. 0;
      left_since = λ _ _ _. Unit {0};
      tells_doubts = false;
      doubted = λ _ _. ⊥;
      reads = λ _. 0;
      writes = λ _. 0;
      syncs = λ _. 0;
      faults = λ _. 0;
      failing = λ _. true;
    }

module _ {M : Type 0} {bound : _} (shown : ShownDevice M) where
  pub cached_puts : (at value : ℕ) (a b : Cached M bound) → b.medium ≡ a.medium → b.len ≡ a.len → Longer at value a.pending b.pending
      → ((i : List ℕ) → IsTrue shown.tells_images → shown.leaves a.medium i → at < length i) → Does (shown_by_cached shown) (WritesWord at value) a b
  cached_puts at value a b same long longer inside = over_puts shown (λ c. c.len) (λ c. c.medium) (λ c. c.pending) at value a b record {
    on_medium = same;
    as_long = long;
    count = longer.count;
    place = longer.place;
    first = longer.first;
    last = nth_put b.pending a.pending.count at value longer.place longer.word;
    others = nth_others at value a.pending b.pending longer;
  } inside

  pub cached_reads : (a b : Cached M bound) → b.len ≡ a.len → b.pending ≡ a.pending → OnlyReads shown a.medium b.medium → OnlyReads (shown_by_cached shown) a b
  cached_reads a b long same only = over_reads shown (λ c. c.len) (λ c. c.medium) (λ c. c.pending) a b long same only

  pub cached_hands : (a b : Cached M bound) (done : Bool) → b.len ≡ a.len → b.pending ≡ a.pending → (IsTrue shown.tells_words → a.pending.first + a.pending.count ≤ length (shown.words a.medium))
      → HandsOver shown a.pending.first (nth_of a.pending) a.pending.count a.medium b.medium done → OnlyReads (shown_by_cached shown) a b
  cached_hands a b done long same fits hands = over_hands shown (λ c. c.len) (λ c. c.medium) (λ c. c.pending) a b done long same fits hands

  pub cached_handed : (a b : Cached M bound) (done : Bool) → done ≡ true → b.len ≡ a.len → b.pending.count ≡ 0
      → HandsOver shown a.pending.first (nth_of a.pending) a.pending.count a.medium b.medium done → OnlyReads (shown_by_cached shown) a b
  cached_handed a b done is long none hands = over_handed shown (λ c. c.len) (λ c. c.medium) (λ c. c.pending) a b long none (hands_true shown a.pending a.medium b.medium done is hands)

  pub cached_syncs : (a b : Cached M bound) → b.len ≡ a.len → b.pending ≡ a.pending → a.pending.count ≡ 0
      → ((t : ℕ) (i : List ℕ) → IsTrue shown.tells_images → t ≤ shown.clock a.medium → shown.leaves a.medium i → shown.left_since a.medium t i)
      → Does shown Stays a.medium b.medium → Does (shown_by_cached shown) Stays a b
  cached_syncs a b long same none counts does = over_syncs shown (λ c. c.len) (λ c. c.medium) (λ c. c.pending) a b long same none counts does

pub length-with_run : (run : Run) (x : List ℕ) → length (with_run run x) ≡ length x
length-with_run run x = length-laid run.first (nth_of run) run.count x

pub follows_longer : (at value : ℕ) (a b : Run) → IsNextPlace a at → b.count ≡ a.count + 1 → b.first + a.count ≡ at → word_of_run b at ≡ Some value → ((k : ℕ) → k ≢ at → word_of_run b k ≡ word_of_run a k) → Longer at value a b
follows_longer at value a b follows count place word others = record {
  count = count;
  place = place;
  first = λ some. elim follows [ inl none ↦ absurd (omega (arith, some, none)) | inr next ↦ omega (arith, place, next.1) ];
  word = word;
  others = others;
}

pub found_word : (run : Run) (x : List ℕ) (b : ℕ) (found : Option ℕ) → run.first + run.count ≤ length x → found ≡ word_of_run run b → IfSome found (λ word. word ≡ slice_index (with_run run x) b)
found_word run x b None fits is = tt
found_word run x b (Some word) fits is = run_has run x b word fits (sym is)

-- after a sync of the medium, where none waits
pub settled : {M : Type 0} (shown : ShownDevice M) (run : Run) (m : M) (done : Bool) → run.count ≡ 0 → OnTrue done (AreSettled shown m)
    → OnTrue done ((i : List ℕ) → may_leave shown run m i → (b : ℕ) → (slice_index i b ≡ slice_index (with_run run (shown.words m)) b) ⊎ (shown.doubted m b × (word_of_run run b ≡ None)))
settled shown run m done none medium = on_true done (over_settled shown (λ _. 0) (λ _. m) (λ (r : Run). r) run none) medium
