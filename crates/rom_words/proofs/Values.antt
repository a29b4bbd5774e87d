-- What the matches hold, as the getters give it.
use Rattle.std.proofs.Common.{◌≡◌, ℕ, List, [], ◌∷◌, Option, Some, None, option_map, ap, subst, ◌∙◌}
use Rattle.std.specs.Prelude.{IsSome, is_some, find, option_and_then, slice_get}
use Rattle.std.specs.Str.{bytes_eq}
use Rattle.clap.specs.Words.{first_value}
use Rattle.clap.specs.Walk.{Row, Text, all_of, rows_of}
use Rattle.clap.specs.declared.parser.matches.Found.{Found}
use Rattle.clap.proofs.WalkLemmas.{first_value-rows, raw_values-rows}
use Rattle.rom_words.specs.CommandLine.{HasAsked, HasNumber, HasValue, values_at}
use Rattle.rom_words.specs.Wanted.{named}
use Rattle.rom_words.specs.declared.words.CommandAsked.{CommandAsked}
use Rattle.rom_words.specs.Words.{number_within}

pub is_there : {X : Type 0} (o : Option X) (x : X) → o ≡ Some x → IsSome o
is_there o x e = ap is_some e

pub the_same : {X : Type 0} (x y : X) → Some x ≡ Some y → x ≡ y
the_same {X} x y e = ap or_first e
  where
    or_first : Option X → X
    or_first None = x
    or_first (Some z) = z

first_from_all : (o : Option Row) (v : Text) → option_map (λ r. r.values) o ≡ Some (v ∷ []) → option_and_then (λ r. slice_get r.values 0) o ≡ Some v
first_from_all None v e = cc
first_from_all (Some r) v e = ap (λ vs. slice_get vs 0) (the_same r.values (v ∷ []) e)

pub value_first : (f : Found) (id v : Text) → HasValue (rows_of f) id v → first_value f id ≡ Some v
value_first f id v e = first_value-rows f id ∙ first_from_all (find (λ r. bytes_eq r.id id) (rows_of f)) v e

pub number_first : (f : Found) (id : Text) (least most n : ℕ) → HasNumber (rows_of f) id least most n → option_and_then (number_within least most) (first_value f id) ≡ Some n
number_first f id least most n has = ap (option_and_then (number_within least most)) (value_first f id has.0 has.1) ∙ has.2

pub values_all : (f : Found) (id : Text) (vs : List Text) → all_of id (rows_of f) ≡ Some vs → values_at f id ≡ Some vs
values_all f id vs e = raw_values-rows f id ∙ e

-- what is asked for, where it is known which command it is
pub asked_for : (f : Found) (a b : CommandAsked) → a ≡ b → HasAsked (named (Some a)) (rows_of f) → HasAsked (named (Some b)) (rows_of f)
asked_for f a b e has = subst (λ a. HasAsked (named (Some a)) (rows_of f)) e has
