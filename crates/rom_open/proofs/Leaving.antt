-- What an upgrade leaves of the device: the images, what they hold, and which words differ.
use Rattle.std.specs.Prelude.{◌≡◌, ℕ, ◌*◌, List, Result, Ok, Err, OnOk, IsTrue}
use Rattle.std.proofs.Common.{inl, inr, refl, sym, ◌∙◌, subst}
use Rattle.rom_model.specs.Blocks.{region_len}
use Rattle.rom_model.specs.Earlier.{Earlier}
use Rattle.rom_device.specs.Device.{ShownDevice, Becomes, Does, Leaves, Runs}
use Rattle.rom_device.proofs.Going.{leaves_by, leaves_on}
use Rattle.rom_header.specs.Held.{Holds, HoldsOne}
use Rattle.rom_header.specs.Layout.{MAIN, back_of}
use Rattle.rom_header.specs.Regions.{IsCurrentRegion, IsHeap, SameRegion}
use Rattle.rom_header.specs.Writing.{Alters, StateOrWithin}
use Rattle.rom_recover.specs.Recovered.{IsDone, Mended}
use Rattle.rom_open.specs.Opening.{MendsNamed}
use Rattle.rom_open.specs.Refusals.{named_order}
use Rattle.rom_open.proofs.Holding.{same_current}
use Rattle.rom_twin.specs.Images.{Twins}
use Rattle.rom_twin.proofs.Repairs.{state_or_joins}
use Rattle.rom_open.specs.Batch.{CountsEither, Renews}
use Rattle.rom_open.specs.Upgrading.{HoldsEither, Renewed, UpgradeImage, WithinNamed}
use Rattle.rom_open.proofs.Regions.{twins_region}

-- what a success promises
pub on_ok : {T E P : Type 0} (result : Result T E) (value : T) → result ≡ Ok value → OnOk result P → P
on_ok (Ok done) value is promise = promise
on_ok (Err refused) value is promise = cc

-- of the words before a recovery, the region that counted in them
module _ (n : ℕ) (x y region : List ℕ) (current : IsCurrentRegion n x region) (done : IsDone (named_order x) x y) where
  counted : IsCurrentRegion (named_order x) x done.region
  counted = record { heap = subst (λ (k : ℕ). IsHeap k x) (sym current.heap.header.order_is) current.heap; counts = done.counted }

  -- the recovered words have it
  pub done_same : SameRegion x y
  done_same = record {
    order = named_order x;
    region = done.region;
    words_are = counted;
    image_is = record { heap = done.heap; counts = inl (done.idle, done.main_is, done.back_is) };
  }

  -- and so has each image in which their back counts
  pub back_same : (i : List ℕ) → IsCurrentRegion (named_order x) i (back_of (named_order x) y) → SameRegion x i
  back_same i counts = record {
    order = named_order x;
    region = done.region;
    words_are = counted;
    image_is = subst (λ (l : List ℕ). IsCurrentRegion (named_order x) i l) done.back_is counts;
  }

module _ {S : Type 0} (Contents : ℕ → List ℕ → S → ℕ → Type 0) (earlier : Earlier S) (n : ℕ) (x m : List ℕ) (renews : Renews Contents earlier n x m) where
  pub named : n ≡ named_order x
  named = sym renews.current.heap.header.order_is

  pub was_held : Holds earlier.Contents n x renews.state renews.count
  was_held = record { region = renews.region; current = renews.current; contents = renews.was }

  -- an image in which the new region counts
  pub renewed : (i : List ℕ) → IsCurrentRegion n i m → Renewed Contents earlier x i
  renewed i counts = record {
    state = renews.state;
    count = renews.count;
    was = subst (λ (k : ℕ). Holds earlier.Contents k x renews.state renews.count) named was_held;
    is = subst (λ (k : ℕ). Holds Contents k i renews.state renews.count) named (record { region = m; current = counts; contents = renews.is });
  }

  -- each image of the batch on the recovered words y
  pub batch_image : (y : List ℕ) → IsDone (named_order x) x y → (i : List ℕ) → CountsEither n (back_of n y) m i → UpgradeImage Contents earlier x i
  batch_image y done i (inl old) = inl (back_same n x y renews.region renews.current done i (subst (λ (k : ℕ). IsCurrentRegion k i (back_of k y)) named old))
  batch_image y done i (inr new) = inr (renewed i new)

  module _ {D : Type 0} (shown : ShownDevice D) (a b c : D) where
    pub upgrade_leaves : IsDone (named_order x) x (shown.words b) → ((i : List ℕ) → shown.leaves b i → i ≡ shown.words b) → Leaves shown (Mended (named_order x) x) a b
        → Runs shown (Becomes (CountsEither n (back_of n (shown.words b)) m)) b c → Leaves shown (UpgradeImage Contents earlier x) a c
    upgrade_leaves done certain opened runs =
        leaves_on shown (Becomes (CountsEither n (back_of n (shown.words b)) m)) (UpgradeImage Contents earlier x) a b c
        (leaves_by shown (Mended (named_order x) x) (UpgradeImage Contents earlier x) a b (λ i mended. inl mended.same) opened)
        runs has
      where
        has : (w i : List ℕ) → shown.leaves b w → Becomes (CountsEither n (back_of n (shown.words b)) m) w i → UpgradeImage Contents earlier x i
        has w i left (inl same) = inl (subst (λ (l : List ℕ). SameRegion x l) (sym (same ∙ certain w left)) (done_same n x (shown.words b) renews.region renews.current done))
        has w i left (inr counts) = batch_image (shown.words b) done i counts

  -- an image with the new region in both holds what the words held
  pub twins_hold : HoldsOne earlier.Contents → (s : S) (k : ℕ) → Holds earlier.Contents (named_order x) x s k → (i : List ℕ) → Twins n m i → Holds Contents (named_order x) i s k
  twins_hold one s k held i twins = held_now one s k held i (renewed i (twins_region n m i twins))
    where
      held_now : HoldsOne earlier.Contents → (s : S) (k : ℕ) → Holds earlier.Contents (named_order x) x s k → (i : List ℕ) → Renewed Contents earlier x i → Holds Contents (named_order x) i s k
      held_now one s k held i new =
          let same = one x (named_order x) (named_order x) new.state s new.count k new.was held in
          subst (λ (z : S × ℕ). Holds Contents (named_order x) i z.0 z.1) (λ j. (same.1 j, same.2 j)) new.is

module _ {S : Type 0} (Contents : ℕ → List ℕ → S → ℕ → Type 0) (earlier : Earlier S) (one : HoldsOne earlier.Contents) (x : List ℕ) (s : S) (k : ℕ) (held : Holds earlier.Contents (named_order x) x s k) where
  -- what an upgrade may leave holds what the words held, in either version
  pub holds_either : (i : List ℕ) → UpgradeImage Contents earlier x i → HoldsEither Contents earlier (named_order x) i s k
  holds_either i (inl same) = inl (record { region = held.region; current = same_current (named_order x) x i held.region held.current same; contents = held.contents })
  holds_either i (inr new) =
      let same = one x (named_order x) (named_order x) new.state s new.count k new.was held in
      inr (subst (λ (z : S × ℕ). Holds Contents (named_order x) i z.0 z.1) (λ j. (same.1 j, same.2 j)) new.is)

-- a recovery changes no word outside, nor does the batch after it
pub mends_within : (x y : List ℕ) → MendsNamed x y → WithinNamed x y
mends_within x y (inl same) = subst (λ (l : List ℕ). WithinNamed x l) (sym same) (record { as_long = refl; before = λ k h other. refl; behind = λ k h. refl })
mends_within x y (inr mended) = mended.takes.others

module _ {D : Type 0} (shown : ShownDevice D) where
  pub alters_within : (a b : D) → Alters shown MendsNamed a b → Alters shown WithinNamed a b
  alters_within a b alters = record { size = alters.size; words = λ told. mends_within (shown.words a) (shown.words b) (alters.words told) }

  pub batch_within : (n : ℕ) (a b c : D) → Alters shown MendsNamed a b → (IsTrue shown.tells_words → n ≡ named_order (shown.words a)) → Does shown (StateOrWithin MAIN (2 * region_len n)) b c → Alters shown WithinNamed a c
  batch_within n a b c alters named does = record {
    size = does.size ∙ alters.size;
    words = λ told. state_or_joins MAIN (2 * region_len (named_order (shown.words a))) (shown.words a) (shown.words b) (shown.words c) (mends_within (shown.words a) (shown.words b) (alters.words told))
        (subst (λ (k : ℕ). StateOrWithin MAIN (2 * region_len k) (shown.words b) (shown.words c)) (named told) (does.words told));
  }
