-- Updates by their words.
use Rattle.std.proofs.Common.{◌≡◌, ℕ, ◌+◌, ◌≤◌, length, arith, List, false, true, Option, Some, None, refl, sym, ap, ◌∙◌}
use Rattle.std.specs.Prelude.{IsSome, Bool, ◌&&◌, nat_le, option_map}
use Rattle.std.specs.Option.{option_map_or}
use Rattle.rom_model.specs.State.{State, one, step, step_of}
use Rattle.rom_model.specs.Machine.{on_words, weight_on_words}
use Rattle.rom_model.specs.Singles.{call_of, kind_of, reply_of}
use Rattle.rom_model.specs.Trio.{trio, weight, members}
use Rattle.rom_model.specs.Codes.{read_single, words_call, reply_words, single_reply_words}
use Rattle.rom_model.specs.declared.call.Call.{Call}
use Rattle.rom_model.specs.declared.call.Reply.{Reply}
use Rattle.rom_model.specs.declared.call.Single.{Single}
use Rattle.rom_model.specs.declared.call.SingleReply.{SingleReply}
use Rattle.std.proofs.lemmas.Bool.{leb-true}
use Rattle.rom_model.specs.Groups.{HasSize}
use Rattle.rom_model.specs.declared.call.Kind.{Kind}
use Rattle.rom_model.specs.declared.call.Kind.TheVariants as kind
use Rattle.rom_model.proofs.Tags.{has_size, plain_kind, plain_reply_words, single_is}

-- the call that words are those of
pub some_call : (o : Option Call) → IsSome o → (call : Call) × (o ≡ Some call)
some_call (Some call) is = (call, refl)
some_call None is = absurd (let never : false ≡ true = is in cc)

-- what the words of a call do
abbrev did : ℕ → State → ℕ → Option Call → Option (State × List ℕ)
did n s k o = option_map (λ call. let done = step n s k call in (done.0, reply_words done.1)) o

module _ (words : List ℕ) (call : Call) (is : words_call words ≡ Some call) where
  pub call_weight : weight_on_words trio words ≡ weight call
  call_weight = ap (λ (o : Option Call). option_map_or weight o 0) is

  -- they do what it does, and tell the words of what it is told
  pub call_done : (n : ℕ) (s : State) (k : ℕ) (reply : Reply) (told : List ℕ) → reply ≡ (step n s k call).1 → told ≡ reply_words reply → on_words trio n s k words ≡ Some ((step n s k call).0, told)
  call_done n s k reply told comes spelt = ap (did n s k) is ∙ (λ i. Some ((step n s k call).0, (sym (spelt ∙ ap reply_words comes)) i))

  -- where they begin with an update of one structure, it is that one
  module _ (x : Single) (first : option_map (λ (read : Single × List ℕ). read.0) (read_single words) ≡ Some x) where
    alone : call ≡ call_of x
    alone = single_is words x call first is

    pub single_weight : weight_on_words trio words ≡ 1
    single_weight = call_weight ∙ ap weight alone ∙ ap members (plain_kind x)

    pub single_done : (n : ℕ) (s : State) (k : ℕ) (reply : SingleReply) (told : List ℕ) → reply ≡ (one n s k x).1 → told ≡ single_reply_words reply → on_words trio n s k words ≡ Some ((one n s k x).0, told)
    single_done n s k reply told comes spelt =
        let same : step n s k call ≡ ((one n s k x).0, reply_of (one n s k x).1) = ap (step n s k) alone ∙ ap (step_of n s k) (plain_kind x) in
        let tells : reply_words (reply_of (one n s k x).1) ≡ told = plain_reply_words (one n s k x).1 ∙ (ap single_reply_words (sym comes) ∙ sym spelt) in
        ap (did n s k) is ∙ (ap (λ (done : State × Reply). Some (done.0, reply_words done.1)) same ∙ (λ i. Some ((one n s k x).0, tells i)))

and_right : (a b : Bool) → (a && b) ≡ true → b ≡ true
and_right true b is = is
and_right false b is = absurd (let never : false ≡ true = is in cc)

-- no call weighs more than a group of eight members
few_members : (kind : Kind Single (List Single)) → HasSize kind → members kind ≤ 8
few_members (kind.Single x) size = omega arith
few_members (kind.Several calls) size = leb-true (length calls) 8 (and_right (nat_le 2 (length calls)) (nat_le (length calls) 8) size)

pub weight_within : (words : List ℕ) → weight_on_words trio words ≤ 8
weight_within words = by_call (words_call words) refl
  where
    by_call : (o : Option Call) → words_call words ≡ o → weight_on_words trio words ≤ 8
    by_call (Some call) is = omega (arith, call_weight words call is, few_members (kind_of call) (has_size words call is))
    by_call None is = omega (arith, ap (λ (o : Option Call). option_map_or weight o 0) is)
