-- Words that are a command are taken by `clap`, and its matches have what the command names.
use Rattle.std.proofs.Common.{◌≡◌, ◌⊎◌, inl, inr, codes, cond, ℕ, ◌≤◌, List, [], ◌∷◌, length, Bool, true, false, Option, Some, None, option_map, refl, sym, ap, subst, ◌∙◌, arith}
use Rattle.std.specs.Prelude.{IsSome, nat_lt, option_and_then, ◌&&◌}
use Rattle.std.specs.List.{list_all}
use Rattle.std.specs.Str.{bytes_eq}
use Rattle.std.proofs.lemmas.Bool.Decides.{nat_tests}
use Rattle.std.proofs.lemmas.Slice.Eq.{bytes_eq-Decides}
use Rattle.clap.specs.Walk.{Row, Text, all_of, nothing_held, walk_from}
use Rattle.clap.specs.Simple.{Shape, subcommand_of}
use Rattle.clap.specs.Takes.{takes}
use Rattle.rom_words.specs.CommandLine.{HasNamedWords, HasValue, command_line}
use Rattle.rom_words.specs.Words.{Command, Try, Run, Format, Stat, Upgrade, Drill, are_scripts, both_of, command, command_of, drill_from, drill_command, file_alone, format_command, has_bytes, number_within, run_command, said, stat_command, try_command, upgrade_command}
use Rattle.rom_words.specs.Words as spec
use Rattle.rom_words.proofs.Many.{Later, Then, later_ends, later_option, later_plain, then_ends, then_option, then_plain}
use Rattle.rom_words.proofs.One.{Each, IsFirst, IsOption, One, one_begins, one_ends, one_option, one_plain, said_as, Want}
use Rattle.rom_words.proofs.Rows.{Rests, row}
use Rattle.rom_words.proofs.Shapes.{calls_of_drill, callers_of_drill, file_before_scripts, file_of_format, file_of_stat, file_of_upgrade, has_drill, has_format, has_run, has_stat, has_try, has_upgrade, its_rule, leaf, order_of_format, scripts_of_run, scripts_of_try, start_of_drill}
use Rattle.rom_words.proofs.Taken.{HasSub, its_rows, taken}
use Rattle.rom_words.proofs.Turns.{Ends, walks}

-- `clap` takes the words, and has what the command names
pub record Matches (c : Command) (words : List Text) : Type 0 where
  pub takes : takes command_line words ≡ true
  pub rows : List Row
  pub its : option_map (λ p. p.1) (subcommand_of command_line words) ≡ Some rows
  pub has : HasNamedWords c rows

nothing_rests : (s : Shape) → Rests s nothing_held []
nothing_rests s = record { rows_are = refl; settles = refl }

-- ---- one plain word, and options

-- a command of this name that takes a file alone
file_found : (name : Text) (c : Command) (words : List Text) (f : Text) → HasSub command_line name (leaf name) → IsFirst (leaf name) (its_rule name 0) f →
    ((rows : List Row) → all_of (its_rule name 0).id rows ≡ Some (f ∷ []) → HasNamedWords c rows) → said words None ≡ Some (record { plain = f ∷ []; options = [] }) → Matches c (name ∷ words)
file_found name c words f has first gives e =
    let s = leaf name in
    let p = its_rule name 0 in
    let ends : Ends s (One s p f []) words (walk_from nothing_held) =
    walks s (One s p f []) (one_plain s p f first []) (one_option s p f first []) words nothing_held _ e (one_begins s p f [] nothing_held (nothing_rests s) tt tt) in
    let o = one_ends s p f [] ends.position _ ends.last in
    record {
      takes = taken command_line name s has words ends.passes o.rows o.rests;
      rows = o.rows;
      its = its_rows command_line name s has words ends.passes o.rows o.rests;
      has = gives o.rows o.plain;
    }

format_found : (words : List Text) (f v : Text) (n : ℕ) → said words None ≡ Some (record { plain = f ∷ []; options = (codes "order", v) ∷ [] }) → number_within 4 16 v ≡ Some n →
    Matches (Format f n) (codes "format" ∷ words)
format_found words f v n e is =
    let s = leaf (codes "format") in
    let p = its_rule (codes "format") 0 in
    let want : List Want = (its_rule (codes "format") 1, v) ∷ [] in
    let ends : Ends s (One s p f want) words (walk_from nothing_held) =
    walks s (One s p f want) (one_plain s p f (file_of_format f) want) (one_option s p f (file_of_format f) want) words nothing_held _ e
    (one_begins s p f want nothing_held (nothing_rests s) (order_of_format f v, tt) (tt, tt)) in
    let o = one_ends s p f want ends.position _ ends.last in
    record {
      takes = taken command_line (codes "format") s has_format words ends.passes o.rows o.rests;
      rows = o.rows;
      its = its_rows command_line (codes "format") s has_format words ends.passes o.rows o.rests;
      has = (o.plain, (v, o.options.0, is));
    }

-- the options of a drill, in this order
drill_in_order : (words : List Text) (f a b : Text) (x y : Want) (start callers calls : ℕ) → said words None ≡ Some (record { plain = f ∷ []; options = said_as x ∷ said_as y ∷ [] }) →
    Each (IsOption (leaf (codes "drill")) (its_rule (codes "drill") 0) f) (x ∷ y ∷ []) → bytes_eq x.0.id y.0.id ≡ false →
    ((rows : List Row) → HasValue rows (codes "START") f → HasValue rows x.0.id x.1 → HasValue rows y.0.id y.1 → HasNamedWords (Drill start callers calls) rows) →
    Matches (Drill start callers calls) (codes "drill" ∷ words)
drill_in_order words f a b x y start callers calls e options apart gives =
    let s = leaf (codes "drill") in
    let p = its_rule (codes "drill") 0 in
    let want : List Want = x ∷ y ∷ [] in
    let ends : Ends s (One s p f want) words (walk_from nothing_held) =
    walks s (One s p f want) (one_plain s p f (start_of_drill f) want) (one_option s p f (start_of_drill f) want) words nothing_held _ e
    (one_begins s p f want nothing_held (nothing_rests s) options ((apart, tt), (tt, tt))) in
    let o = one_ends s p f want ends.position _ ends.last in
    record {
      takes = taken command_line (codes "drill") s has_drill words ends.passes o.rows o.rests;
      rows = o.rows;
      its = its_rows command_line (codes "drill") s has_drill words ends.passes o.rows o.rests;
      has = gives o.rows o.plain o.options.0 o.options.1.0;
    }

drill_found : (words : List Text) (f a b : Text) (start callers calls : ℕ) →
    number_within 0 18446744073709551615 f ≡ Some start → number_within 1 16 a ≡ Some callers → number_within 1 10000 b ≡ Some calls →
    (said words None ≡ Some (record { plain = f ∷ []; options = (codes "callers", a) ∷ (codes "calls", b) ∷ [] })) ⊎ (said words None ≡ Some (record { plain = f ∷ []; options = (codes "calls", b) ∷ (codes "callers", a) ∷ [] })) →
    Matches (Drill start callers calls) (codes "drill" ∷ words)
drill_found words f a b start callers calls k m n (inl e) =
    drill_in_order words f a b (its_rule (codes "drill") 1, a) (its_rule (codes "drill") 2, b) start callers calls e (callers_of_drill f a, (calls_of_drill f b, tt)) refl
    (λ rows p x y. ((f, p, k), (a, x, m), (b, y, n)))
drill_found words f a b start callers calls k m n (inr e) =
    drill_in_order words f a b (its_rule (codes "drill") 2, b) (its_rule (codes "drill") 1, a) start callers calls e (calls_of_drill f b, (callers_of_drill f a, tt)) refl
    (λ rows p y x. ((f, p, k), (a, x, m), (b, y, n)))

-- ---- scripts

two_of : (a b c : Bool) → (a && b && c) ≡ true → (a ≡ true) × (b ≡ true)
two_of true true c e = (refl, refl)
two_of true false c e = cc
two_of false b c e = cc

few_scripts : (words : List Text) → are_scripts words ≡ true → (1 ≤ length words) × (length words ≤ 16)
few_scripts words e =
    let two = two_of (nat_lt 0 (length words)) (nat_lt (length words) 17) (list_all has_bytes words) e in
    (grind (arith, nat_tests, two.0), grind (arith, nat_tests, two.1))

try_found : (words scripts : List Text) → said words None ≡ Some (record { plain = scripts; options = [] }) → 1 ≤ length scripts → length scripts ≤ 16 →
    Matches (Try scripts) (codes "try" ∷ words)
try_found words [] e some few = absurd (omega (arith, some))
try_found words (v ∷ vs) e some few =
    let s = leaf (codes "try") in
    let m = its_rule (codes "try") 0 in
    let scripts : List Text = v ∷ vs in
    let last = scripts_of_try scripts some few in
    let ends : Ends s (Later s m 1 [] scripts) words (walk_from nothing_held) =
    walks s (Later s m 1 [] scripts) (later_plain s m 1 [] scripts last) (later_option s m 1 [] scripts last) words nothing_held _ e
    (record { none = refl; here = refl; stage = inl (record { rests = nothing_rests s; other = refl; all = refl }) }) in
    let rests = later_ends s m 1 [] scripts last v vs refl ends.position _ ends.last in
    record {
      takes = taken command_line (codes "try") s has_try words ends.passes _ rests;
      rows = row m scripts ∷ [];
      its = its_rows command_line (codes "try") s has_try words ends.passes _ rests;
      has = refl;
    }

run_found : (words scripts : List Text) (f : Text) → said words None ≡ Some (record { plain = f ∷ scripts; options = [] }) → 1 ≤ length scripts → length scripts ≤ 16 →
    Matches (Run f scripts) (codes "run" ∷ words)
run_found words [] f e some few = absurd (omega (arith, some))
run_found words (v ∷ vs) f e some few =
    let s = leaf (codes "run") in
    let p = its_rule (codes "run") 0 in
    let m = its_rule (codes "run") 1 in
    let scripts : List Text = v ∷ vs in
    let before = file_before_scripts f scripts in
    let last = scripts_of_run f scripts some few in
    let ends : Ends s (Then s p m f scripts) words (walk_from nothing_held) =
    walks s (Then s p m f scripts) (then_plain s p m f scripts before last) (then_option s p m f scripts before last) words nothing_held _ e
    (inl (record { none = refl; here = refl; rests = nothing_rests s; all = refl })) in
    let rests = then_ends s p m f scripts before last v vs refl ends.position _ ends.last in
    record {
      takes = taken command_line (codes "run") s has_run words ends.passes _ rests;
      rows = row p (f ∷ []) ∷ row m scripts ∷ [];
      its = its_rows command_line (codes "run") s has_run words ends.passes _ rests;
      has = (refl, refl);
    }

-- ---- from a command

abbrev command_or : Command → Option Command → Command
command_or d None = d
command_or d (Some c) = c

given : (c d : Command) (words : List Text) → Some c ≡ Some d → Matches c words → Matches d words
given c d words e m = subst (λ c. Matches c words) (ap (command_or c) e) m

from_try : (words plain : List Text) (options : List (Text × Text)) (c : Command) → said words None ≡ Some (record { plain = plain; options = options }) → try_command plain options ≡ Some c →
    Matches c (codes "try" ∷ words)
from_try words plain (o ∷ os) c e is = cc
from_try words plain [] c e is = go (are_scripts plain) refl is
  where
    go : (b : Bool) → are_scripts plain ≡ b → cond b (Some (Try plain)) None ≡ Some c → Matches c (codes "try" ∷ words)
    go false t is = cc
    go true t is = let few = few_scripts plain t in given (Try plain) c _ is (try_found words plain e few.0 few.1)

from_run : (words plain : List Text) (options : List (Text × Text)) (c : Command) → said words None ≡ Some (record { plain = plain; options = options }) → run_command plain options ≡ Some c →
    Matches c (codes "run" ∷ words)
from_run words [] options c e is = cc
from_run words (f ∷ fs) (o ∷ os) c e is = cc
from_run words (f ∷ fs) [] c e is = go (has_bytes f) (are_scripts fs) refl is
  where
    go : (a b : Bool) → are_scripts fs ≡ b → cond (a && b) (Some (Run f fs)) None ≡ Some c → Matches c (codes "run" ∷ words)
    go false b t is = cc
    go true false t is = cc
    go true true t is = let few = few_scripts fs t in given (Run f fs) c _ is (run_found words fs f e few.0 few.1)

from_format : (words plain : List Text) (options : List (Text × Text)) (c : Command) → said words None ≡ Some (record { plain = plain; options = options }) → format_command plain options ≡ Some c →
    Matches c (codes "format" ∷ words)
from_format words [] options c e is = cc
from_format words (f ∷ g ∷ gs) options c e is = cc
from_format words (f ∷ []) [] c e is = cc
from_format words (f ∷ []) (o ∷ p ∷ ps) c e is = cc
from_format words (f ∷ []) (o ∷ []) c e is = go (has_bytes f) (bytes_eq o.0 (codes "order")) (number_within 4 16 o.1) refl refl is
  where
    go : (a b : Bool) (n : Option ℕ) → bytes_eq o.0 (codes "order") ≡ b → number_within 4 16 o.1 ≡ n → cond (a && b) (option_map (Format f) n) None ≡ Some c → Matches c (codes "format" ∷ words)
    go false b n t m is = cc
    go true false n t m is = cc
    go true true None t m is = cc
    go true true (Some n) t m is =
        let named : o.0 ≡ codes "order" = (bytes_eq-Decides o.0 (codes "order")).0 t in
        given (Format f n) c _ is (format_found words f o.1 n (e ∙ ap (λ name. Some (record { plain = f ∷ []; options = (name, o.1) ∷ [] })) named) m)

-- from one that takes a file alone
from_file : (make : Text → Command) (name : Text) (words plain : List Text) (options : List (Text × Text)) (c : Command) →
    ((f : Text) → said words None ≡ Some (record { plain = f ∷ []; options = [] }) → Matches (make f) (name ∷ words)) →
    said words None ≡ Some (record { plain = plain; options = options }) → option_map make (file_alone plain options) ≡ Some c → Matches c (name ∷ words)
from_file make name words [] options c found e is = cc
from_file make name words (f ∷ g ∷ gs) options c found e is = cc
from_file make name words (f ∷ []) (o ∷ os) c found e is = cc
from_file make name words (f ∷ []) [] c found e is = go (has_bytes f) is
  where
    go : (a : Bool) → option_map make (cond a (Some f) None) ≡ Some c → Matches c (name ∷ words)
    go false is = cc
    go true is = given (make f) c _ is (found f e)

from_stat : (words plain : List Text) (options : List (Text × Text)) (c : Command) → said words None ≡ Some (record { plain = plain; options = options }) → stat_command plain options ≡ Some c →
    Matches c (codes "stat" ∷ words)
from_stat words plain options c =
    from_file Stat (codes "stat") words plain options c (λ f. file_found (codes "stat") (Stat f) words f has_stat (file_of_stat f) (λ rows has. has))

from_upgrade : (words plain : List Text) (options : List (Text × Text)) (c : Command) → said words None ≡ Some (record { plain = plain; options = options }) → upgrade_command plain options ≡ Some c →
    Matches c (codes "upgrade" ∷ words)
from_upgrade words plain options c =
    from_file Upgrade (codes "upgrade") words plain options c (λ f. file_found (codes "upgrade") (Upgrade f) words f has_upgrade (file_of_upgrade f) (λ rows has. has))

from_numbers : (words : List Text) (f a b : Text) (c : Command) (x y z : Option ℕ) →
    number_within 0 18446744073709551615 f ≡ x → number_within 1 16 a ≡ y → number_within 1 10000 b ≡ z → drill_from x y z ≡ Some c →
    (said words None ≡ Some (record { plain = f ∷ []; options = (codes "callers", a) ∷ (codes "calls", b) ∷ [] })) ⊎ (said words None ≡ Some (record { plain = f ∷ []; options = (codes "calls", b) ∷ (codes "callers", a) ∷ [] })) →
    Matches c (codes "drill" ∷ words)
from_numbers words f a b c None y z k m n is e = cc
from_numbers words f a b c (Some x) None z k m n is e = cc
from_numbers words f a b c (Some x) (Some y) None k m n is e = cc
from_numbers words f a b c (Some x) (Some y) (Some z) k m n is e = given (Drill x y z) c _ is (drill_found words f a b x y z k m n e)

from_drill : (words plain : List Text) (options : List (Text × Text)) (c : Command) → said words None ≡ Some (record { plain = plain; options = options }) → drill_command plain options ≡ Some c →
    Matches c (codes "drill" ∷ words)
from_drill words [] options c e is = cc
from_drill words (f ∷ g ∷ gs) options c e is = cc
from_drill words (f ∷ []) [] c e is = cc
from_drill words (f ∷ []) (o ∷ []) c e is = cc
from_drill words (f ∷ []) (o ∷ p ∷ q ∷ qs) c e is = cc
from_drill words (f ∷ []) (o ∷ p ∷ []) c e is =
    go (bytes_eq o.0 (codes "callers")) (bytes_eq p.0 (codes "calls")) (bytes_eq o.0 (codes "calls")) (bytes_eq p.0 (codes "callers")) refl refl refl refl is
  where
    pair : (m n : Text) → o.0 ≡ m → p.0 ≡ n → said words None ≡ Some (record { plain = f ∷ []; options = (m, o.1) ∷ (n, p.1) ∷ [] })
    pair m n k l = e ∙ (λ i. Some (record { plain = f ∷ []; options = (k i, o.1) ∷ (l i, p.1) ∷ [] }))

    go : (t u v w : Bool) → bytes_eq o.0 (codes "callers") ≡ t → bytes_eq p.0 (codes "calls") ≡ u → bytes_eq o.0 (codes "calls") ≡ v → bytes_eq p.0 (codes "callers") ≡ w →
        option_and_then (λ (values : Text × Text). drill_from (number_within 0 18446744073709551615 f) (number_within 1 16 values.0) (number_within 1 10000 values.1))
        (cond (t && u) (Some (o.1, p.1)) (cond (v && w) (Some (p.1, o.1)) None)) ≡ Some c → Matches c (codes "drill" ∷ words)
    go true true v w t u _ _ is =
        from_numbers words f o.1 p.1 c _ _ _ refl refl refl is
        (inl (pair (codes "callers") (codes "calls") ((bytes_eq-Decides o.0 (codes "callers")).0 t) ((bytes_eq-Decides p.0 (codes "calls")).0 u)))
    go true false true true t u v w is =
        from_numbers words f p.1 o.1 c _ _ _ refl refl refl is
        (inr (pair (codes "calls") (codes "callers") ((bytes_eq-Decides o.0 (codes "calls")).0 v) ((bytes_eq-Decides p.0 (codes "callers")).0 w)))
    go false u true true t _ v w is =
        from_numbers words f p.1 o.1 c _ _ _ refl refl refl is
        (inr (pair (codes "calls") (codes "callers") ((bytes_eq-Decides o.0 (codes "calls")).0 v) ((bytes_eq-Decides p.0 (codes "callers")).0 w)))
    go true false false w t u v x is = cc
    go true false true false t u v x is = cc
    go false u false w t _ v x is = cc
    go false u true false t _ v x is = cc

-- `clap` takes words that are a command, and has what it names
pub matched : (words : List Text) (c : Command) → command words ≡ Some c → Matches c words
matched [] c e = cc
matched (name ∷ words) c e = go (said words None) refl e
  where
    renamed : (other : Text) → bytes_eq name other ≡ true → Matches c (other ∷ words) → Matches c (name ∷ words)
    renamed other t m = subst (λ name. Matches c (name ∷ words)) (sym ((bytes_eq-Decides name other).0 t)) m

    by_name : (s : spec.Said) → said words None ≡ Some s → (t u v w x y : Bool) → bytes_eq name (codes "try") ≡ t → bytes_eq name (codes "run") ≡ u → bytes_eq name (codes "format") ≡ v →
        bytes_eq name (codes "stat") ≡ w → bytes_eq name (codes "upgrade") ≡ x → bytes_eq name (codes "drill") ≡ y →
        cond t (try_command s.plain s.options) (cond u (run_command s.plain s.options) (cond v (format_command s.plain s.options) (cond w (stat_command s.plain s.options)
        (cond x (upgrade_command s.plain s.options) (cond y (drill_command s.plain s.options) None))))) ≡ Some c →
        Matches c (name ∷ words)
    by_name s is true u v w x y k _ _ _ _ _ e = renamed (codes "try") k (from_try words s.plain s.options c is e)
    by_name s is false true v w x y _ k _ _ _ _ e = renamed (codes "run") k (from_run words s.plain s.options c is e)
    by_name s is false false true w x y _ _ k _ _ _ e = renamed (codes "format") k (from_format words s.plain s.options c is e)
    by_name s is false false false true x y _ _ _ k _ _ e = renamed (codes "stat") k (from_stat words s.plain s.options c is e)
    by_name s is false false false false true y _ _ _ _ k _ e = renamed (codes "upgrade") k (from_upgrade words s.plain s.options c is e)
    by_name s is false false false false false true _ _ _ _ _ k e = renamed (codes "drill") k (from_drill words s.plain s.options c is e)
    by_name s is false false false false false false _ _ _ _ _ _ e = cc

    go : (o : Option spec.Said) → said words None ≡ o → option_and_then (command_of name) o ≡ Some c → Matches c (name ∷ words)
    go None is e = cc
    go (Some s) is e =
        by_name s is (bytes_eq name (codes "try")) (bytes_eq name (codes "run")) (bytes_eq name (codes "format")) (bytes_eq name (codes "stat")) (bytes_eq name (codes "upgrade")) (bytes_eq name (codes "drill"))
        refl refl refl refl refl refl e

pub taken_where_some : (words : List Text) → IsSome (command words) → takes command_line words ≡ true
taken_where_some words some = go (command words) refl some
  where
    go : (o : Option Command) → command words ≡ o → IsSome o → takes command_line words ≡ true
    go None e some = cc
    go (Some c) e some = (matched words c e).takes
