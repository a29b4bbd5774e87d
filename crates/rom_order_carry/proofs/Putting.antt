-- A key that is put behind all others.
use Rattle.std.proofs.Common.{◌≡◌, ℕ, ◌+◌, ◌-◌, ◌<◌, ◌≤◌, List, [], ◌∷◌, ◌++◌, length, take, drop, get_or, sym, ◌∙◌, ap, arith, append-nil}
use Rattle.std.specs.Prelude.{None, if◌then◌else◌}
use Rattle.std.specs.Ordering.{nat_cmp}
use Rattle.std.specs.FinMap as map
use Rattle.std.specs.FinMap.{find}
use Rattle.std.proofs.Math.Nat.{pow-le-pow_right}
use Rattle.std.proofs.lemmas.Bool.{lt-ltb}
use Rattle.std.proofs.lemmas.List.{drop_more, take-append-drop}
use Rattle.rom_order_region.specs.declared.call.OrderCall.TheVariants.{Put}
use Rattle.rom_order_region.specs.declared.call.OrderReply.TheVariants.{NoPrior, Full}
use Rattle.rom_order_region.specs.Keys.{EntriesRise}
use Rattle.rom_order_region.specs.Region.{room_for}
use Rattle.rom_order_region.specs.State.{Pairs, index_step, put_pair}
use Rattle.rom_order_region.proofs.Sorted.{entries_new, find_behind, has_entries, parts}

-- There is room in a heap of a greater order too.
pub room_above : (n greater : ℕ) → n ≤ greater → room_for n ≤ room_for greater
room_above n greater le =
    let least : n - 1 ≤ greater - 1 = omega (arith, le) in
    pow-le-pow_right (omega arith) least

-- a new index has no entries
pub no_entries : map.entries (map.empty {X = ℕ} {R = nat_cmp}) ≡ []
no_entries = has_entries (map.empty {X = ℕ} {R = nat_cmp}) [] tt (λ q. map.get-empty nat_cmp q)

-- the entries round the one at an index
pub round_entry : (es : List (ℕ × ℕ)) (i : ℕ) (d : ℕ × ℕ) → i < length es → take i es ++ get_or es i d ∷ drop (i + 1) es ≡ es
round_entry es i d lt = ap (λ xs. take i es ++ xs) (sym (drop_more es i d lt)) ∙ take-append-drop i es

-- What an index leaves that has the entries xs, where a key is put that is above theirs, and there is room.
pub record PutsBehind (n : ℕ) (s : Pairs) (count : ℕ) (xs : List (ℕ × ℕ)) (e : ℕ × ℕ) : Type 0 where
  pub step : index_step n s count (Put e.0 e.1) ≡ (map.insert s e.0 e.1, NoPrior)
  pub entries : map.entries (map.insert s e.0 e.1) ≡ xs ++ e ∷ []

pub puts_behind : (n : ℕ) (s : Pairs) (count : ℕ) (xs : List (ℕ × ℕ)) (e : ℕ × ℕ) (ys : List (ℕ × ℕ)) → map.entries s ≡ xs → EntriesRise (xs ++ e ∷ ys) → length xs < room_for n → PutsBehind n s count xs e
puts_behind n s count xs e ys are rises lt =
    let p = parts xs e ys rises in
    let none : map.get s e.0 ≡ None = map.get-entries s e.0 ∙ ap (λ es. find nat_cmp e.0 es) (are ∙ sym (append-nil xs)) ∙ find_behind e.0 xs [] p.below in
    let few : map.len s < room_for n = omega (arith, map.len-entries s, ap (λ es. length es) are, lt) in
    record {
      step = ap (λ o. put_pair n s e.0 e.1 o) none ∙ ap (λ b. if b then (map.insert s e.0 e.1, NoPrior) else (s, Full)) (lt-ltb (map.len s) (room_for n) few);
      entries = entries_new s e.0 e.1 xs [] (are ∙ sym (append-nil xs)) record { front = p.front; below = p.below; above = tt; back = tt };
    }
