-- What a walk of `clap` holds after uses of arguments with one value.
use Rattle.std.proofs.Common.{◌≡◌, List, [], ◌∷◌, ◌++◌, Bool, true, false, Some, None, refl, sym, ap, subst, ◌∙◌}
use Rattle.std.specs.Prelude.{◌&&◌, ◌||◌}
use Rattle.std.specs.Str.{bytes_eq}
use Rattle.std.proofs.lemmas.List.{append-nil}
use Rattle.clap.specs.Walk.{Held, Row, Rule, Text, action_of, all_of, arg_by_id, at_row, has_row, is_pending, more_values, positional_held, reacted, reading_by, settled, takes_several, takes_values, used, with_values, without}
use Rattle.clap.specs.Simple.{Shape}
use Rattle.clap.specs.Takes.{positional_passes, react_passes, settle_passes, use_passes}
use Rattle.clap.specs.declared.builder.action.ArgAction.TheVariants.{Set}
use Rattle.clap.specs.declared.parser.matches.ValueSource.TheVariants.{CommandLine}

-- the row of a use
abbrev pub row : Rule → List Text → Row
row a values = record { id = a.id; values = values; count = None; source = Some CommandLine; reading = reading_by a }

cases_or : (b c : Bool) → (b || c) ≡ false → (b ≡ false) × (c ≡ false)
cases_or true c e = cc
cases_or false c e = (refl, e)

not_there : (id : Text) (change : Row → List Row) (missing rows : List Row) → has_row id rows ≡ false → at_row id change missing rows ≡ rows ++ missing
not_there id change missing [] e = refl
not_there id change missing (r ∷ rs) e =
    let two = cases_or (bytes_eq r.id id) (has_row id rs) e in
    rw two.0 (ap (λ rows. r ∷ rows) (not_there id change missing rs two.1))

-- a first use of an argument puts its row behind the others
pub used_new : (a : Rule) (v : Text) (vs : List Text) (rows : List Row) → action_of a ≡ Set → has_row a.id rows ≡ false → used a (v ∷ vs) rows ≡ rows ++ row a (v ∷ vs) ∷ []
used_new a v vs rows set new =
    let bare : without a.id rows ≡ rows = not_there a.id (λ _. []) [] rows new ∙ append-nil rows in
    rw set (ap (with_values a.id (reading_by a) CommandLine (v ∷ vs)) bare ∙ not_there a.id (more_values CommandLine (v ∷ vs)) (row a (v ∷ vs) ∷ []) rows new)

-- whose row was not there has it behind the others
pub all_new : (id : Text) (rows : List Row) (r : Row) → has_row id rows ≡ false → bytes_eq r.id id ≡ true → all_of id (rows ++ r ∷ []) ≡ Some r.values
all_new id [] r e is = rw is
all_new id (q ∷ qs) r e is =
    let two = cases_or (bytes_eq q.id id) (has_row id qs) e in
    rw two.0 (all_new id qs r two.1 is)

-- a row that is there stays the first of its name
pub all_old : (id : Text) (rows : List Row) (r : Row) (values : List Text) → all_of id rows ≡ Some values → all_of id (rows ++ r ∷ []) ≡ Some values
all_old id [] r values e = cc
all_old id (q ∷ qs) r values e = go (bytes_eq q.id id) refl (all_old id qs r values)
  where
    go : (b : Bool) → bytes_eq q.id id ≡ b → (all_of id qs ≡ Some values → all_of id (qs ++ r ∷ []) ≡ Some values) → all_of id ((q ∷ qs) ++ r ∷ []) ≡ Some values
    go true b more = rw b (rw b at e)
    go false b more = rw b (more (rw b at e))

pub still_none : (id : Text) (rows : List Row) (r : Row) → has_row id rows ≡ false → bytes_eq r.id id ≡ false → has_row id (rows ++ r ∷ []) ≡ false
still_none id [] r e is = rw is
still_none id (q ∷ qs) r e is =
    let two = cases_or (bytes_eq q.id id) (has_row id qs) e in
    rw two.0 (still_none id qs r two.1 is)

-- ---- what is held, once what is pending counts as used

pub and_no : (b : Bool) → (b && false) ≡ false
and_no true = refl
and_no false = refl

pub both : (b c : Bool) → (b && c) ≡ true → (b ≡ true) × (c ≡ true)
both true c e = (refl, e)
both false c e = cc

pub record Rests (s : Shape) (h : Held) (rows : List Row) : Type 0 where
  pub rows_are : (settled s.rules h).rows ≡ rows
  pub settles : settle_passes s.rules s.args_override_self h ≡ true

-- an argument that takes one value a use
pub record IsSingle (s : Shape) (a : Rule) : Type 0 where
  pub own : arg_by_id s.rules a.id ≡ Some a
  pub once : takes_several a ≡ false
  pub takes : takes_values a ≡ true
  pub set : action_of a ≡ Set

module _ (s : Shape) (a : Rule) (single : IsSingle s a) (h : Held) (rows : List Row) (rest : Rests s h rows) (v : Text)
    (passes : use_passes s.args_override_self a (v ∷ []) rows ≡ true) where
  passes_now : use_passes s.args_override_self a (v ∷ []) (settled s.rules h).rows ≡ true
  passes_now = ap (use_passes s.args_override_self a (v ∷ [])) rest.rows_are ∙ passes

  pub pending_rests : Rests s (record (settled s.rules h) { pending = Some (a.id, v ∷ []) }) (used a (v ∷ []) rows)
  pending_rests = record {
    rows_are = rw single.own (ap (used a (v ∷ [])) rest.rows_are);
    settles = rw single.own passes_now;
  }

  pub positional_rests : Rests s (positional_held s.rules a v h) (used a (v ∷ []) rows)
  positional_rests =
      let held : positional_held s.rules a v h ≡ record (settled s.rules h) { pending = Some (a.id, v ∷ []) } = rw (single.once, and_no (is_pending a h.pending)) in
      subst (λ (h : Held). Rests s h (used a (v ∷ []) rows)) (sym held) pending_rests

  pub reacted_rests : Rests s (reacted s.rules a (v ∷ []) h) (used a (v ∷ []) rows)
  reacted_rests = record { rows_are = ap (used a (v ∷ [])) rest.rows_are; settles = refl }

  pub reacts : react_passes s.rules s.args_override_self a (v ∷ []) h ≡ true
  reacts = rw rest.settles passes_now

  pub goes : positional_passes s.rules s.args_override_self a h ≡ true
  goes = rw (single.once, and_no (is_pending a h.pending)) rest.settles
