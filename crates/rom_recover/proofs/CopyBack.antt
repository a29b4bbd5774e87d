-- What a copy of the region that counts leaves.
use Rattle.std.proofs.Common.{◌≡◌, ◌≢◌, ◌⊎◌, inl, inr, ℕ, ◌+◌, ◌<◌, ◌≤◌, List, get_or, set, refl, sym, ◌∙◌, subst, arith, get_or-set_other}
use Rattle.rom_model.specs.Blocks.{region_len}
use Rattle.rom_model.specs.Space.{ChangesOnly}
use Rattle.rom_model.proofs.Changes.{changes_set}
use Rattle.rom_device.specs.Device.{WritesWord}
use Rattle.rom_header.specs.Headers.{state_word}
use Rattle.rom_header.specs.Layout.{main_of, back_of, back_at}
use Rattle.rom_header.specs.Regions.{IsHeap, SameRegion, IsCounted}
use Rattle.rom_header.proofs.Parts.{part_moved, part_before, part_behind, heap_within, state_set}
use Rattle.rom_header.specs.declared.header.State.{State}
use Rattle.rom_header.specs.declared.header.State.TheVariants.{Idle, Mutating, Copying}
use Rattle.rom_recover.specs.Copied.{Copied, CopiesSome}
use Rattle.rom_recover.specs.Recovered.{IsDone, IsWay, TakesTwins, Mended}

-- both regions are the one that counted
record Both (n : ℕ) (x y : List ℕ) : Type 0 where
  heap : IsHeap n y
  region : List ℕ
  counts : IsCounted n x region
  main_is : main_of n y ≡ region
  back_is : back_of n y ≡ region

-- the state is written
state_idle : (n : ℕ) (x y : List ℕ) → Both n x y → IsDone n x (set y 3 0)
state_idle n x y done =
    let there = state_set n 0 y (let le : 0 ≤ 2 = omega arith in le) done.heap in
    record {
      heap = there.heap;
      idle = there.state_is;
      region = done.region;
      counted = done.counts;
      main_is = there.main_is ∙ done.main_is;
      back_is = there.back_is ∙ done.back_is;
    }

-- what a copy in this state leaves, in its midst and at its end
module _ (n : ℕ) (x : List ℕ) (is : IsHeap n x) where
  pub same : (s : State) (from to : ℕ) → IsWay n s from to → get_or x 3 0 ≡ state_word s → (y : List ℕ) → ChangesOnly to (region_len n) x y → SameRegion x y
  same Idle from to way state y only = elim way [ ]
  same Mutating from to way state y only =
      let within : ChangesOnly 8 (region_len n) x y = subst (λ (k : ℕ). ChangesOnly k (region_len n) x y) way.1 only in
      record {
        order = n;
        region = back_of n x;
        words_are = record { heap = is; counts = inr (inl (state, refl)) };
        image_is = record {
          heap = heap_within n 8 (region_len n) x y (omega arith) within is;
          counts = inr (inl (within.before 3 (omega arith) ∙ state, part_behind (back_at n) (region_len n) 8 (region_len n) x y within (omega (arith, is.long)) (omega arith)));
        };
      }
  same Copying from to way state y only =
      let within : ChangesOnly (back_at n) (region_len n) x y = subst (λ (k : ℕ). ChangesOnly k (region_len n) x y) way.1 only in
      record {
        order = n;
        region = main_of n x;
        words_are = record { heap = is; counts = inr (inr (state, refl)) };
        image_is = record {
          heap = heap_within n (back_at n) (region_len n) x y (omega arith) within is;
          counts = inr (inr (within.before 3 (omega arith) ∙ state, part_before 8 (region_len n) (back_at n) (region_len n) x y within (omega (arith, is.long)) (omega arith)));
        };
      }

  both : (s : State) (from to : ℕ) → IsWay n s from to → get_or x 3 0 ≡ state_word s → (y : List ℕ) → ChangesOnly to (region_len n) x y → Copied from to (region_len n) x y → Both n x y
  both Idle from to way state y only copied = elim way [ ]
  both Mutating from to way state y only copied =
      let within : ChangesOnly 8 (region_len n) x y = subst (λ (k : ℕ). ChangesOnly k (region_len n) x y) way.1 only in
      record {
        heap = heap_within n 8 (region_len n) x y (omega arith) within is;
        region = back_of n x;
        counts = inr (inl (state, refl));
        main_is = part_moved (back_at n) 8 (region_len n) x y within.as_long (omega (arith, is.long)) (omega (arith, is.long))
            (subst (λ (k : ℕ). Copied (back_at n) k (region_len n) x y) way.1 (subst (λ (k : ℕ). Copied k to (region_len n) x y) way.0 copied));
        back_is = part_behind (back_at n) (region_len n) 8 (region_len n) x y within (omega (arith, is.long)) (omega arith);
      }
  both Copying from to way state y only copied =
      let within : ChangesOnly (back_at n) (region_len n) x y = subst (λ (k : ℕ). ChangesOnly k (region_len n) x y) way.1 only in
      record {
        heap = heap_within n (back_at n) (region_len n) x y (omega arith) within is;
        region = main_of n x;
        counts = inr (inr (state, refl));
        main_is = part_before 8 (region_len n) (back_at n) (region_len n) x y within (omega (arith, is.long)) (omega arith);
        back_is = part_moved 8 (back_at n) (region_len n) x y within.as_long (omega (arith, is.long)) (omega (arith, is.long))
            (subst (λ (k : ℕ). Copied 8 k (region_len n) x y) way.1 (subst (λ (k : ℕ). Copied k to (region_len n) x y) way.0 copied));
      }

  -- each word is the old one or its twin's
  takes : (s : State) (from to : ℕ) → IsWay n s from to → (y : List ℕ) → CopiesSome x from to (region_len n) x y → TakesTwins n x y
  takes Idle from to way y copies = elim way [ ]
  takes Mutating from to way y copies =
      let here : CopiesSome x (back_at n) 8 (region_len n) x y = subst (λ (k : ℕ). CopiesSome x (back_at n) k (region_len n) x y) way.1 (subst (λ (k : ℕ). CopiesSome x k to (region_len n) x y) way.0 copies) in
      record {
        others = record { as_long = here.only.as_long; before = λ k lt other. here.only.before k lt; behind = λ k past. here.only.behind k (omega (arith, past)) };
        main = here.either;
        back = λ k lt. inl (here.only.behind (back_at n + k) (omega arith));
      }
  takes Copying from to way y copies =
      let here : CopiesSome x 8 (back_at n) (region_len n) x y = subst (λ (k : ℕ). CopiesSome x 8 k (region_len n) x y) way.1 (subst (λ (k : ℕ). CopiesSome x k to (region_len n) x y) way.0 copies) in
      record {
        others = record { as_long = here.only.as_long; before = λ k lt other. here.only.before k (omega (arith, lt)); behind = λ k past. here.only.behind k (omega (arith, past)) };
        main = λ k lt. inl (here.only.before (8 + k) (omega (arith, lt)));
        back = here.either;
      }

  takes_idle : (y : List ℕ) → TakesTwins n x y → TakesTwins n x (set y 3 0)
  takes_idle y so_far =
      let within : ChangesOnly 3 1 y (set y 3 0) = changes_set 3 1 y 3 0 (omega arith) (omega arith) in
      record {
        others = record {
          as_long = within.as_long ∙ so_far.others.as_long;
          before = λ k lt other. beside k other y ∙ so_far.others.before k lt other;
          behind = λ k past. within.behind k (omega (arith, past)) ∙ so_far.others.behind k past;
        };
        main = λ k lt. moved (8 + k) y (set y 3 0) (within.behind (8 + k) (omega arith)) (so_far.main k lt);
        back = λ k lt. moved (back_at n + k) y (set y 3 0) (within.behind (back_at n + k) (omega arith)) (so_far.back k lt);
      }
    where
      moved : (at : ℕ) (v w : List ℕ) {a b : ℕ} → get_or w at 0 ≡ get_or v at 0 → (get_or v at 0 ≡ a) ⊎ (get_or v at 0 ≡ b) → (get_or w at 0 ≡ a) ⊎ (get_or w at 0 ≡ b)
      moved at v w still (inl stays) = inl (still ∙ stays)
      moved at v w still (inr put) = inr (still ∙ put)

      beside : (k : ℕ) → k ≢ 3 → (v : List ℕ) → get_or (set v 3 0) k 0 ≡ get_or v k 0
      beside k other v = get_or-set_other v 3 k 0 0 other

  pub mended : (s : State) (from to : ℕ) → IsWay n s from to → get_or x 3 0 ≡ state_word s → (y : List ℕ) → CopiesSome x from to (region_len n) x y → Mended n x y
  mended s from to way state y copies = record { same = same s from to way state y copies.only; takes = takes s from to way y copies }

  pub finished : (s : State) (from to : ℕ) → IsWay n s from to → get_or x 3 0 ≡ state_word s → (y : List ℕ) → CopiesSome x from to (region_len n) x y → Copied from to (region_len n) x y → IsDone n x (set y 3 0)
  finished s from to way state y copies copied = state_idle n x y (both s from to way state y copies.only copied)

  -- and once the state may be written
  pub mended_on : (s : State) (from to : ℕ) → IsWay n s from to → get_or x 3 0 ≡ state_word s → (y : List ℕ) → CopiesSome x from to (region_len n) x y → Copied from to (region_len n) x y
      → (i : List ℕ) → WritesWord 3 0 y i → Mended n x i
  mended_on s from to way state y copies copied i (inl stays) = subst (λ (l : List ℕ). Mended n x l) (sym stays) (mended s from to way state y copies)
  mended_on s from to way state y copies copied i (inr put) =
      let done = finished s from to way state y copies copied in
      subst (λ (l : List ℕ). Mended n x l) (sym put) (record {
        same = record {
          order = n;
          region = done.region;
          words_are = record { heap = is; counts = done.counted };
          image_is = record { heap = done.heap; counts = inl (done.idle, done.main_is, done.back_is) };
        };
        takes = takes_idle y (takes s from to way y copies);
      })

pub equal_done : (n : ℕ) (x : List ℕ) → IsHeap n x → get_or x 3 0 ≡ 0 → ((k : ℕ) → k < region_len n → get_or x (8 + k) 0 ≡ get_or x (back_at n + k) 0) → IsDone n x x
equal_done n x is state same =
    let equal : main_of n x ≡ back_of n x = part_moved (back_at n) 8 (region_len n) x x refl (omega (arith, is.long)) (omega (arith, is.long)) same in
    record { heap = is; idle = state; region = main_of n x; counted = inl (state, refl, sym equal); main_is = refl; back_is = sym equal }
