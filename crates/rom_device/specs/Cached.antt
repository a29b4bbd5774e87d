-- What a contract sees of a medium whose words are read ahead and gathered.
use Rattle.std.specs.Prelude.{◌≡◌, ◌⊎◌, ℕ, ◌+◌, ◌<◌, Bool, List, slice_index, Option, None, Some, IfSome, false}
use Rattle.rom_device.specs.Device.{ShownDevice, After, WritesMany}
use Rattle.rom_device.specs.Run.{word_of_run, words_of_run, with_run}
use Rattle.rom_device.specs.declared.run.Run.{Run}
use Rattle.rom_device.specs.declared.cached.Cached.{Cached}

-- the words that wait stay, or all of them were handed over
abbrev pub HandedOver : Run → Run → Type 0
HandedOver old new = (new ≡ old) ⊎ ((b : ℕ) → word_of_run new b ≡ None)

-- where there is this word it is the one that was found
abbrev pub Gives : Option ℕ → Option ℕ → Type 0
Gives there found = IfSome there (λ word. found ≡ Some word)

-- the first of these words, so many from that place on, are as they wait where they wait
abbrev pub AsWaiting : Run → ℕ → ℕ → List ℕ → Type 0
AsWaiting waiting at count words = (k : ℕ) → k < count → IfSome (word_of_run waiting (at + k)) (λ word. slice_index words k ≡ word)

-- A stop may leave what it may leave of the medium, with each word by itself as it is there or as it waits.
abbrev pub may_leave : {M : Type 0} → ShownDevice M → Run → M → List ℕ → Type 0
may_leave shown waiting medium = After (WritesMany waiting.first (words_of_run waiting)) (shown.leaves medium)

-- The words of a medium with those that wait in their places, and the images of both, wherever a
-- value has the two. The moment is the medium's. A word in doubt is no longer so where another waits. No call is counted.
abbrev pub shown_over : {D M : Type 0} → ShownDevice M → (D → ℕ) → (D → M) → (D → Run) → ShownDevice D
shown_over shown size medium waiting = record {
  size = size;
  tells_words = shown.tells_words;
  words = λ d. with_run (waiting d) (shown.words (medium d));
  tells_images = shown.tells_images;
  leaves = λ d. may_leave shown (waiting d) (medium d);
  clock = λ d. shown.clock (medium d);
  left_since = λ d t i. may_leave shown (waiting d) (medium d) i ⊎ shown.left_since (medium d) t i;
  tells_doubts = false;
  doubted = λ d at. shown.doubted (medium d) at × (word_of_run (waiting d) at ≡ None);
  reads = λ _. 0;
  writes = λ _. 0;
  syncs = λ _. 0;
  faults = λ _. 0;
  failing = λ _. false;
}

module _ {M : Type 0} {bound : _} where
  -- whether a sync of the medium has failed
  abbrev pub has_failed_sync : Cached M bound → Bool
  has_failed_sync words = words.sync_failed

  -- the medium's words with those that wait in their places, and the images of both
  abbrev pub shown_by_cached : ShownDevice M → ShownDevice (Cached M bound)
  shown_by_cached shown = shown_over shown (λ c. c.len) (λ c. c.medium) (λ c. c.pending)
