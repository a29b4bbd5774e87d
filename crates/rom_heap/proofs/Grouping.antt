-- Updates that are done one after another.
use Rattle.std.proofs.Common.{◌≡◌, ℕ, ◌+◌, ◌*◌, ◌≤◌, Bool, true, false, List, [], ◌∷◌, ◌++◌, length, refl, sym, ap, subst, ◌∙◌, arith}
use Rattle.std.specs.Prelude.{IsTrue, not, if◌then◌else◌}
use Rattle.rom_model.specs.Space.{ShownSpace, Stores, Counts, HasRoom}
use Rattle.rom_model.specs.State.{State, one, state_after, replies_to, any_full, group, step_of, step}
use Rattle.rom_model.specs.Singles.{kind_of}
use Rattle.rom_model.specs.declared.call.Kind.{Kind}
use Rattle.rom_model.specs.declared.call.Call.{Call}
use Rattle.rom_model.specs.declared.call.Reply.{Reply}
use Rattle.rom_model.specs.declared.call.Reply.TheVariants as told
use Rattle.rom_model.specs.Region.{Contents}
use Rattle.rom_model.specs.declared.call.Single.{Single}
use Rattle.rom_model.specs.declared.call.Single.TheVariants.{Put, Del}
use Rattle.rom_model.specs.declared.call.SingleReply.{SingleReply}
use Rattle.rom_model.specs.declared.call.SingleReply.TheVariants as reply
use Rattle.rom_heap.specs.Updates.{most_stores, most_of_all, DoesUpdate, DoesUpdates}
use Rattle.rom_heap.proofs.Fitting.{state_append}

-- one update stores no more than this
pub few_stores : (n : ℕ) → n ≤ 16 → (c : Single) (r : SingleReply) → most_stores n c r ≤ 24
few_stores n most c reply.Queued = omega (arith, most)
few_stores n most c (reply.Head v) = omega (arith, most)
few_stores n most c reply.Added = omega (arith, most)
few_stores n most (Put k v) reply.NoPrior = omega (arith, most)
few_stores n most c reply.Removed = omega (arith, most)
few_stores n most (Del k) (reply.Was u) = omega (arith, most)
few_stores n most (Put k v) (reply.Was u) = omega arith
few_stores n most c reply.Moved = omega arith
few_stores n most c other = omega arith

pub few_of_all : (n : ℕ) → n ≤ 16 → (calls : List Single) (told : List SingleReply) → most_of_all n calls told ≤ 24 * length calls
few_of_all n most [] told = omega arith
few_of_all n most (c ∷ calls) [] = omega arith
few_of_all n most (c ∷ calls) (r ∷ told) = omega (arith, few_stores n most c r, few_of_all n most calls told)

most_append : (n : ℕ) (calls : List Single) (told : List SingleReply) (c : Single) (r : SingleReply) → length told ≡ length calls → most_of_all n (calls ++ c ∷ []) (told ++ r ∷ []) ≡ most_of_all n calls told + most_stores n c r
most_append n [] [] c r long = omega arith
most_append n [] (t ∷ told) c r long = absurd (omega (arith, long))
most_append n (x ∷ calls) [] c r long = absurd (omega (arith, long))
most_append n (x ∷ calls) (t ∷ told) c r long = let rest = most_append n calls told c r (omega (arith, long)) in omega (arith, rest)

replies_append : (n j : ℕ) (xs ys : List Single) (s : State) → replies_to n s j (xs ++ ys) ≡ replies_to n s j xs ++ replies_to n (state_after n s j xs) j ys
replies_append n j [] ys s = refl
replies_append n j (c ∷ xs) ys s = ap (λ rs. (one n s j c).1 ∷ rs) (replies_append n j xs ys (one n s j c).0)

module _ {M : Type 0} {shown : ShownSpace M} where
  pub does_none : {n : ℕ} {space : M} → DoesUpdates shown n [] [] space space
  does_none = record {
    steps_are = λ s j held. (refl, held);
    stores = record { loads_later = λ told. omega arith; stores_later = λ told. omega arith; most_stores = λ told. omega arith; limit = refl; rest = refl };
  }

  pub does_more : (n : ℕ) (calls : List Single) (told : List SingleReply) (c : Single) (r : SingleReply) {old mid new : M} → length told ≡ length calls → DoesUpdates shown n calls told old mid → DoesUpdate shown n c r mid new → DoesUpdates shown n (calls ++ c ∷ []) (told ++ r ∷ []) old new
  does_more n calls told c r {new = new} long all last =
      let many = most_append n calls told c r long in
      record {
        steps_are = λ s j held.
            let before = all.steps_are s j held in
            let t : State = state_after n s j calls in
            let after = last.step_is t j before.1 in (
              (λ i. before.0 i ++ after.0 i ∷ []) ∙ sym (replies_append n j calls (c ∷ []) s),
              subst (λ (x : State). Contents n (shown.image new) x (j + 1)) (sym (state_append n j calls (c ∷ []) s)) after.1,
            );
        stores = record {
          loads_later = λ told. omega (arith, all.stores.loads_later told, last.stores.loads_later told);
          stores_later = λ told. omega (arith, all.stores.stores_later told, last.stores.stores_later told);
          most_stores = λ told. omega (arith, many, all.stores.most_stores told, last.stores.most_stores told);
          limit = last.stores.limit ∙ all.stores.limit;
          rest = last.stores.rest ∙ all.stores.rest;
        };
      }

  -- the room that is left after some stores
  pub room_after : {k m : ℕ} (stores : ℕ) {old new : M} → (IsTrue shown.has_limit → IsTrue shown.tells_stores) → k + stores ≤ m → HasRoom shown m old → Stores shown k old new → HasRoom shown stores new
  room_after stores counts few room made told = omega (arith, room told, made.most_stores (counts told), made.limit)

  -- fewer than so many stores
  pub stores_fewer : {k : ℕ} (stores : ℕ) {old new : M} → k ≤ stores → Stores shown k old new → Stores shown stores old new
  stores_fewer stores few made = record { loads_later = made.loads_later; stores_later = made.stores_later; most_stores = λ told. omega (arith, made.most_stores told); limit = made.limit; rest = made.rest }

  -- stores, then one that is counted, then others
  pub stores_around : {k m : ℕ} (stores : ℕ) {old mid next new : M} → 1 + m ≤ stores → Stores shown 0 old mid → Counts shown k 1 mid next → Stores shown m next new → Stores shown stores old new
  stores_around stores few one two three = record {
    loads_later = λ told. omega (arith, one.loads_later told, two.loads_made told, three.loads_later told);
    stores_later = λ told. omega (arith, one.stores_later told, two.stores_made told, three.stores_later told);
    most_stores = λ told. omega (arith, one.most_stores told, two.stores_made told, three.most_stores told);
    limit = three.limit ∙ two.limit ∙ one.limit;
    rest = three.rest ∙ two.rest ∙ one.rest;
  }

  pub stores_none : {space : M} → Stores shown 0 space space
  stores_none = record { loads_later = λ told. omega arith; stores_later = λ told. omega arith; most_stores = λ told. omega arith; limit = refl; rest = refl }

-- what a group comes to
pub group_done : (n : ℕ) (s : State) (count : ℕ) (calls : List Single) → any_full (replies_to n s count calls) ≡ false → group n s count calls ≡ (state_after n s count calls, told.All (replies_to n s count calls))
group_done n s count calls is = ap (λ (b : Bool). if b then (s, told.Full) else (state_after n s count calls, told.All (replies_to n s count calls))) is

pub group_refused : (n : ℕ) (s : State) (count : ℕ) (calls : List Single) → any_full (replies_to n s count calls) ≡ true → group n s count calls ≡ (s, told.Full)
group_refused n s count calls is = ap (λ (b : Bool). if b then (s, told.Full) else (state_after n s count calls, told.All (replies_to n s count calls))) is

-- an update of that kind
pub by_kind : (n : ℕ) (s : State) (k : ℕ) (w : List ℕ) (call : Call) (kind : Kind Single (List Single)) (done : State × Reply) (result : Reply) → kind_of call ≡ kind → step_of n s k kind ≡ done → result ≡ done.1 → Contents n w done.0 (k + 1) →
    (result ≡ (step n s k call).1) × Contents n w (step n s k call).0 (k + 1)
by_kind n s k w call kind done result is comes told held =
    let same : step n s k call ≡ done = ap (step_of n s k) is ∙ comes in
    (told ∙ ap (λ d. d.1) (sym same), subst (λ t. Contents n w t (k + 1)) (ap (λ d. d.0) (sym same)) held)

-- whether a group fits, and what was found out
pub fit_is : (full fit : Bool) → fit ≡ not full → fit ≡ true → full ≡ false
fit_is true fit is seen = absurd (let no_way : false ≡ true = sym is ∙ seen in cc)
fit_is false fit is seen = refl

pub unfit_is : (full fit : Bool) → fit ≡ not full → fit ≡ false → full ≡ true
unfit_is true fit is seen = refl
unfit_is false fit is seen = absurd (let no_way : true ≡ false = sym is ∙ seen in cc)
