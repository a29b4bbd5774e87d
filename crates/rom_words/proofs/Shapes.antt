-- The commands as `clap` builds them.
use Rattle.std.proofs.Common.{◌≡◌, codes, ℕ, ◌≤◌, List, [], ◌∷◌, length, true, false, Option, Some, None, refl, arith}
use Rattle.std.specs.Prelude.{find, slice_get}
use Rattle.std.specs.List.{list_all}
use Rattle.std.proofs.lemmas.Bool.{le-leb}
use Rattle.clap.specs.Walk.{Rule, Text, answers_to}
use Rattle.clap.specs.Simple.{Shape, built, label_of, new_rule}
use Rattle.clap.specs.Takes.{use_passes, value_passes}
use Rattle.clap.proofs.OnLiterals.{clap_on_literals}
use Rattle.rom_words.specs.CommandLine.{command_line}
use Rattle.rom_words.proofs.Taken.{HasSub}
use Rattle.rom_words.proofs.Rows.{IsSingle, row}
use Rattle.rom_words.proofs.One.{IsFirst, IsOption}
use Rattle.rom_words.proofs.Many.{IsBefore, IsLast}

abbrev shape_or : Option Shape → Shape
shape_or None = command_line.top
shape_or (Some s) = s

-- the built subcommand of this name
abbrev pub leaf : Text → Shape
leaf name = shape_or (find (λ s. answers_to name (label_of s)) (built command_line).subs)

abbrev rule_or : Rule → Option Rule → Rule
rule_or d None = d
rule_or d (Some a) = a

abbrev pub its_rule : Text → ℕ → Rule
its_rule name n = rule_or (new_rule name) (slice_get (leaf name).rules n)

pub has_try : HasSub command_line (codes "try") (leaf (codes "try"))
unfolding clap_on_literals
has_try = record { simple = refl; bare = λ _. refl; passes = refl; met = refl; found = refl; top_defaults = refl; top_valid = λ _ _. refl; defaults = refl; no_defaults = (refl, tt); valid = λ _. refl }

pub has_run : HasSub command_line (codes "run") (leaf (codes "run"))
unfolding clap_on_literals
has_run = record { simple = refl; bare = λ _. refl; passes = refl; met = refl; found = refl; top_defaults = refl; top_valid = λ _ _. refl; defaults = refl; no_defaults = (refl, (refl, tt)); valid = λ _. refl }

pub has_format : HasSub command_line (codes "format") (leaf (codes "format"))
unfolding clap_on_literals
has_format = record { simple = refl; bare = λ _. refl; passes = refl; met = refl; found = refl; top_defaults = refl; top_valid = λ _ _. refl; defaults = refl; no_defaults = (refl, (refl, tt)); valid = λ _. refl }

pub has_stat : HasSub command_line (codes "stat") (leaf (codes "stat"))
unfolding clap_on_literals
has_stat = record { simple = refl; bare = λ _. refl; passes = refl; met = refl; found = refl; top_defaults = refl; top_valid = λ _ _. refl; defaults = refl; no_defaults = (refl, tt); valid = λ _. refl }

pub has_upgrade : HasSub command_line (codes "upgrade") (leaf (codes "upgrade"))
unfolding clap_on_literals
has_upgrade = record { simple = refl; bare = λ _. refl; passes = refl; met = refl; found = refl; top_defaults = refl; top_valid = λ _ _. refl; defaults = refl; no_defaults = (refl, tt); valid = λ _. refl }

pub has_drill : HasSub command_line (codes "drill") (leaf (codes "drill"))
unfolding clap_on_literals
has_drill = record { simple = refl; bare = λ _. refl; passes = refl; met = refl; found = refl; top_defaults = refl; top_valid = λ _ _. refl; defaults = refl; no_defaults = (refl, (refl, (refl, tt))); valid = λ _. refl }

-- ---- arguments with one value

abbrev Single : Text → ℕ → Type 0
Single name n = IsSingle (leaf name) (its_rule name n)

file_of_run : Single (codes "run") 0
file_of_run = record { own = refl; once = refl; takes = refl; set = refl }

pub file_of_format : (f : Text) → IsFirst (leaf (codes "format")) (its_rule (codes "format") 0) f
file_of_format f = record { single = record { own = refl; once = refl; takes = refl; set = refl }; found = refl; passes = λ rows e. rw e; self = refl; untrailing = refl }

pub file_of_stat : (f : Text) → IsFirst (leaf (codes "stat")) (its_rule (codes "stat") 0) f
file_of_stat f = record { single = record { own = refl; once = refl; takes = refl; set = refl }; found = refl; passes = λ rows e. rw e; self = refl; untrailing = refl }

pub file_of_upgrade : (f : Text) → IsFirst (leaf (codes "upgrade")) (its_rule (codes "upgrade") 0) f
file_of_upgrade f = record { single = record { own = refl; once = refl; takes = refl; set = refl }; found = refl; passes = λ rows e. rw e; self = refl; untrailing = refl }

pub start_of_drill : (f : Text) → IsFirst (leaf (codes "drill")) (its_rule (codes "drill") 0) f
start_of_drill f = record { single = record { own = refl; once = refl; takes = refl; set = refl }; found = refl; passes = λ rows e. rw e; self = refl; untrailing = refl }

pub order_of_format : (f v : Text) → IsOption (leaf (codes "format")) (its_rule (codes "format") 0) f (its_rule (codes "format") 1, v)
order_of_format f v = record { single = record { own = refl; once = refl; takes = refl; set = refl }; found = refl; one = refl; passes = λ rows e. rw e; self = refl; apart = (refl, refl) }

pub callers_of_drill : (f v : Text) → IsOption (leaf (codes "drill")) (its_rule (codes "drill") 0) f (its_rule (codes "drill") 1, v)
callers_of_drill f v = record { single = record { own = refl; once = refl; takes = refl; set = refl }; found = refl; one = refl; passes = λ rows e. rw e; self = refl; apart = (refl, refl) }

pub calls_of_drill : (f v : Text) → IsOption (leaf (codes "drill")) (its_rule (codes "drill") 0) f (its_rule (codes "drill") 2, v)
calls_of_drill f v = record { single = record { own = refl; once = refl; takes = refl; set = refl }; found = refl; one = refl; passes = λ rows e. rw e; self = refl; apart = (refl, refl) }

-- ---- scripts

any_text : (a : Rule) → ((v : Text) → value_passes a v ≡ true) → (vs : List Text) → list_all (value_passes a) vs ≡ true
any_text a e [] = refl
any_text a e (v ∷ vs) = rw (e v) (any_text a e vs)

try_passes : (words : List Text) → 1 ≤ length words → length words ≤ 16 → use_passes false (its_rule (codes "try") 0) words [] ≡ true
try_passes [] some few = absurd (omega (arith, some))
try_passes (v ∷ vs) some few = rw (le-leb 1 (length (v ∷ vs)) some, le-leb (length (v ∷ vs)) 16 few) (any_text (its_rule (codes "try") 0) (λ _. refl) (v ∷ vs))

run_passes : (f : Text) (words : List Text) → 1 ≤ length words → length words ≤ 16 → use_passes false (its_rule (codes "run") 1) words (row (its_rule (codes "run") 0) (f ∷ []) ∷ []) ≡ true
run_passes f [] some few = absurd (omega (arith, some))
run_passes f (v ∷ vs) some few = rw (le-leb 1 (length (v ∷ vs)) some, le-leb (length (v ∷ vs)) 16 few) (any_text (its_rule (codes "run") 1) (λ _. refl) (v ∷ vs))

pub scripts_of_try : (words : List Text) → 1 ≤ length words → length words ≤ 16 → IsLast (leaf (codes "try")) (its_rule (codes "try") 0) 1 [] words
scripts_of_try words some few = record {
  found = refl;
  own = refl;
  several = refl;
  set = refl;
  self = refl;
  untrailing = refl;
  new = refl;
  passes = try_passes words some few;
}

pub file_before_scripts : (f : Text) (words : List Text) → IsBefore (leaf (codes "run")) (its_rule (codes "run") 0) (its_rule (codes "run") 1) f words
file_before_scripts f words = record { single = file_of_run; found = refl; passes = refl; untrailing = refl; second = refl; other = refl }

pub scripts_of_run : (f : Text) (words : List Text) → 1 ≤ length words → length words ≤ 16 →
    IsLast (leaf (codes "run")) (its_rule (codes "run") 1) 2 (row (its_rule (codes "run") 0) (f ∷ []) ∷ []) words
scripts_of_run f words some few = record {
  found = refl;
  own = refl;
  several = refl;
  set = refl;
  self = refl;
  untrailing = refl;
  new = refl;
  passes = run_passes f words some few;
}
