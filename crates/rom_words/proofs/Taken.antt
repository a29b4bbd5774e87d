-- Where `clap` takes the words of a subcommand, and what it finds in them.
use Rattle.std.proofs.Common.{◌≡◌, cond, List, [], ◌∷◌, ◌++◌, Bool, true, false, Some, option_map, refl, sym, ap, ◌∙◌}
use Rattle.std.specs.Prelude.{find, fold, is_some, ◌&&◌}
use Rattle.std.specs.List.{list_all}
use Rattle.std.specs.Option.{option_map_or}
use Rattle.std.proofs.lemmas.List.{append_assoc, append-nil}
use Rattle.clap.specs.Walk.{Held, Names, Row, Rule, Text, Walk, answers_to, finished, has_row, nothing_held, settled, stop_after, walk, walk_from, walked, with_default}
use Rattle.clap.specs.Simple.{App, Shape, argument_words, built, entered, rows_at, is_simple, label_of, names_of, subcommand_of}
use Rattle.rom_words.proofs.One.{Each}
use Rattle.clap.specs.Takes.{built_takes, default_passes, entered_passes, is_valid, level_passes, takes, turn_passes, walk_passes}
use Rattle.rom_words.proofs.Rows.{Rests}

-- a walk that met a subcommand
abbrev stopped_at : Held → Text → List Text → Walk
stopped_at h name words = record (walk_from h) { stopped = Some (name, words) }

-- it keeps the words behind it
keeps : (c : List Rule) (names : Names) (h : Held) (name : Text) (met words : List Text) → fold (walked c names) (stopped_at h name met) words ≡ stopped_at h name (met ++ words)
unfolding walked
keeps c names h name met [] = ap (stopped_at h name) (sym (append-nil met))
keeps c names h name met (w ∷ words) = keeps c names h name (met ++ w ∷ []) words ∙ ap (stopped_at h name) (append_assoc met (w ∷ []) words)

passes_on : (s : Shape) (names : Names) (h : Held) (name : Text) (met words : List Text) → walk_passes s names (stopped_at h name met) words ≡ true
unfolding walked walk_passes
passes_on s names h name met [] = refl
passes_on s names h name met (w ∷ words) = passes_on s names h name (met ++ w ∷ []) words

no_default : (rows : List Row) (c : List Rule) → Each (λ a. a.defaults ≡ []) c → fold with_default rows c ≡ rows
no_default rows [] e = refl
no_default rows (a ∷ c) e = ap (λ rows. fold with_default rows c) one ∙ no_default rows c e.1
  where
    go : (b : Bool) → cond b rows rows ≡ rows
    go true = refl
    go false = refl

    one : with_default rows a ≡ rows
    one = rw e.0 (go (has_row a.id rows))

module _ (app : App) where
  -- the built command has the subcommand, whose arguments need no default and no other argument
  pub record HasSub (name : Text) (sub : Shape) : Type 0 where
    pub simple : is_simple app ≡ true
    pub bare : (words : List Text) → argument_words app words ≡ words
    pub passes : turn_passes (built app).top (names_of (built app)) (walk_from nothing_held) name ≡ true
    pub met : walked (built app).top.rules (names_of (built app)) (walk_from nothing_held) name ≡ stopped_at nothing_held name []
    pub found : find (λ s. answers_to name (label_of s)) (built app).subs ≡ Some sub
    pub top_defaults : list_all default_passes (built app).top.rules ≡ true
    pub top_valid : (rows : List Row) (b : Bool) → is_valid (built app).top rows b ≡ true
    pub defaults : list_all default_passes sub.rules ≡ true
    pub no_defaults : Each (λ a. a.defaults ≡ []) sub.rules
    pub valid : (rows : List Row) → is_valid sub rows false ≡ true

  module _ (name : Text) (sub : Shape) (has : HasSub name sub) (words : List Text) (passes : walk_passes sub [] (walk_from nothing_held) words ≡ true) (rows : List Row)
      (rests : Rests sub (fold (walked sub.rules []) (walk_from nothing_held) words).held rows) where
    whole_walk : walk (built app).top.rules (names_of (built app)) nothing_held (name ∷ words) ≡ stopped_at nothing_held name words
    whole_walk = ap (λ w. fold (walked (built app).top.rules (names_of (built app))) w words) has.met ∙ keeps (built app).top.rules (names_of (built app)) nothing_held name [] words

    whole_passes : walk_passes (built app).top (names_of (built app)) (walk_from nothing_held) (name ∷ words) ≡ true
    unfolding walk_passes
    whole_passes = rw (has.passes, has.met) (passes_on (built app).top (names_of (built app)) nothing_held name [] words)

    sub_passes : level_passes sub [] nothing_held words false ≡ true
    sub_passes = rw (passes, rests.settles, has.defaults) (has.valid (finished sub.rules (walk sub.rules [] nothing_held words).held))

    top_passes : (b : Bool) → level_passes (built app).top (names_of (built app)) nothing_held (name ∷ words) b ≡ true
    top_passes b = rw (whole_passes, whole_walk, has.top_defaults) (has.top_valid (finished (built app).top.rules nothing_held) b)

    stops : (walk (built app).top.rules (names_of (built app)) nothing_held (name ∷ words)).stopped ≡ Some (name, words)
    stops = ap (λ (w : Walk). w.stopped) whole_walk

    enters : entered_passes (built app) (Some (name, words)) ≡ true
    enters = ap (λ o. option_map_or (λ s. level_passes s [] nothing_held words false) o true) has.found ∙ sub_passes

    built_taken : built_takes (built app) nothing_held (name ∷ words) ≡ true
    built_taken =
        let b = is_some (entered (built app) (walk (built app).top.rules (names_of (built app)) nothing_held (name ∷ words)).stopped) in
        ap (λ o. entered_passes (built app) o && level_passes (built app).top (names_of (built app)) nothing_held (name ∷ words) b) stops
        ∙ (ap (λ c. c && level_passes (built app).top (names_of (built app)) nothing_held (name ∷ words) b) enters ∙ top_passes b)

    pub taken : takes app (name ∷ words) ≡ true
    taken = ap (λ b. b && built_takes (built app) nothing_held (argument_words app (name ∷ words))) has.simple ∙ (ap (built_takes (built app) nothing_held) (has.bare (name ∷ words)) ∙ built_taken)

    pub its_rows : option_map (λ p. p.1) (subcommand_of app (name ∷ words)) ≡ Some rows
    its_rows =
        ap (λ ws. option_map (λ (p : Text × List Row). p.1) (entered (built app) (stop_after (built app).top.rules (names_of (built app)) ws))) (has.bare (name ∷ words))
        ∙ (ap (λ o. option_map (λ (p : Text × List Row). p.1) (entered (built app) o)) stops
        ∙ (ap (λ o. option_map (λ (p : Text × List Row). p.1) (option_map (λ s. rows_at s words) o)) has.found
        ∙ ap (λ rows. Some rows) (no_default (settled sub.rules (walk sub.rules [] nothing_held words).held).rows sub.rules has.no_defaults ∙ rests.rows_are)))
