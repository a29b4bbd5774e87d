-- What a move comes to, case by case.
use Rattle.std.proofs.Common.{◌≡◌, ◌≢◌, ℕ, ◌+◌, ◌-◌, ◌^◌, ◌<◌, ◌≤◌, Bool, true, false, ◌∙◌, ap, arith}
use Rattle.std.specs.Prelude.{◌==◌, nat_lt, if◌then◌else◌, None, Some}
use Rattle.std.proofs.lemmas.Bool.Decides.{nat_tests}
use Rattle.rom_model.specs.State.{State, value_of, written, transfer, shift}
use Rattle.rom_model.specs.declared.call.SingleReply.{SingleReply}
use Rattle.rom_model.specs.declared.call.SingleReply.TheVariants as reply
use Rattle.rom_map.specs.Map.{with_pairs}
use Rattle.rom_map.specs.Shift.{after_move}

if_true : (t : Bool) (x y : State × SingleReply) → t ≡ true → (if t then x else y) ≡ x
if_true t x y is = ap (λ (t : Bool). if t then x else y) is

if_false : (t : Bool) (x y : State × SingleReply) → t ≡ false → (if t then x else y) ≡ y
if_false t x y is = ap (λ (t : Bool). if t then x else y) is

below : (x y : ℕ) → x < y → nat_lt x y ≡ true
below x y less = grind (arith, nat_tests)

not_below : (x y : ℕ) → y ≤ x → nat_lt x y ≡ false
not_below x y ge = grind (arith, nat_tests)

same : (x y : ℕ) → x ≡ y → (x == y) ≡ true
same x y is = grind (arith, nat_tests)

other : (x y : ℕ) → x ≢ y → (x == y) ≡ false
other x y ne = grind (arith, nat_tests)

module _ (s : State) (a b d stamp : ℕ) where
  pub no_source : value_of s a ≡ None → after_move s a b d stamp ≡ (s, reply.Absent)
  no_source none = ap (λ o. transfer s stamp a b d o (value_of s b)) none

  module _ (u : ℕ) (source : value_of s a ≡ Some u) where
    pub no_target : value_of s b ≡ None → after_move s a b d stamp ≡ (s, reply.Absent)
    no_target none = λ i. transfer s stamp a b d (source i) (none i)

    module _ (w : ℕ) (target : value_of s b ≡ Some w) where
      both : after_move s a b d stamp ≡ shift s stamp a b d u w
      both = λ i. transfer s stamp a b d (source i) (target i)

      pub short : u < d → after_move s a b d stamp ≡ (s, reply.Short u)
      short less = both ∙ if_true (nat_lt u d) _ _ (below u d less)

      enough : d ≤ u → after_move s a b d stamp ≡ (if a == b then (s, reply.Moved) else
          if nat_lt (w + d) (2 ^ 64) then (with_pairs s (written (written s.pairs stamp a (u - d)) stamp b (w + d)), reply.Moved) else (s, reply.Over))
      enough ge = both ∙ if_false (nat_lt u d) _ _ (not_below u d ge)

      pub alone : d ≤ u → a ≡ b → after_move s a b d stamp ≡ (s, reply.Moved)
      alone ge one = enough ge ∙ if_true (a == b) _ _ (same a b one)

      pub over : d ≤ u → a ≢ b → 2 ^ 64 ≤ w + d → after_move s a b d stamp ≡ (s, reply.Over)
      over ge two much = enough ge ∙ if_false (a == b) _ _ (other a b two) ∙ if_false (nat_lt (w + d) (2 ^ 64)) _ _ (not_below (w + d) (2 ^ 64) much)

      pub moved : d ≤ u → a ≢ b → w + d < 2 ^ 64 → after_move s a b d stamp ≡ (with_pairs s (written (written s.pairs stamp a (u - d)) stamp b (w + d)), reply.Moved)
      moved ge two fits = enough ge ∙ if_false (a == b) _ _ (other a b two) ∙ if_true (nat_lt (w + d) (2 ^ 64)) _ _ (below (w + d) (2 ^ 64) fits)
