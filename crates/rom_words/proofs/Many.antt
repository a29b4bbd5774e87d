-- A command of `clap` whose last plain argument takes several words.
use Rattle.std.proofs.Common.{◌≡◌, ◌⊎◌, inl, inr, ℕ, List, [], ◌∷◌, ◌++◌, Bool, true, false, Some, refl, sym, ap, subst, ◌∙◌}
use Rattle.std.specs.Prelude.{unwrap_or, ◌||◌}
use Rattle.std.specs.Str.{bytes_eq}
use Rattle.std.proofs.lemmas.List.{append_assoc, append-nil}
use Rattle.clap.specs.Walk.{Held, Row, Rule, Text, action_of, arg_by_id, arg_by_index, has_row, is_pending, next_position, positional_held, settled_rows, takes_several, used, used_by_id}
use Rattle.clap.specs.Simple.{Shape}
use Rattle.clap.specs.Takes.{use_passes}
use Rattle.clap.specs.declared.builder.action.ArgAction.TheVariants.{Set}
use Rattle.rom_words.specs.Words as spec
use Rattle.rom_words.proofs.Turns.{TakesPlain, TakesOption, nothing}
use Rattle.rom_words.proofs.One.{head_is}
use Rattle.rom_words.proofs.Rows.{and_no, IsSingle, Rests, goes, positional_rests, row, used_new}

or_yes : (b c : Bool) → c ≡ true → (b || c) ≡ true
or_yes true c e = refl
or_yes false c e = e

module _ (s : Shape) (m : Rule) (place : ℕ) (rows : List Row) (words : List Text) where
  pub record IsLast : Type 0 where
    pub found : arg_by_index s.rules place ≡ Some m
    pub own : arg_by_id s.rules m.id ≡ Some m
    pub several : takes_several m ≡ true
    pub set : action_of m ≡ Set
    pub self : bytes_eq m.id m.id ≡ true
    pub untrailing : m.trailing_var_arg ≡ false
    pub new : has_row m.id rows ≡ false
    pub passes : use_passes s.args_override_self m words rows ≡ true

  -- none of the words has come
  pub record Fresh (h : Held) (left : List Text) : Type 0 where
    pub rests : Rests s h rows
    pub other : is_pending m h.pending ≡ false
    pub all : left ≡ words

  -- these have come, and wait for more
  pub record Busy (h : Held) (left : List Text) : Type 0 where
    pub done : List Text
    pub pending : h.pending ≡ Some (m.id, done)
    pub rows_are : h.rows ≡ rows
    pub parts : done ++ left ≡ words

  pub record Later (position : ℕ) (h : Held) (t : spec.Said) : Type 0 where
    pub none : t.options ≡ []
    pub here : position ≡ place
    pub stage : Fresh h t.plain ⊎ Busy h t.plain

  module _ (last : IsLast) where
    multiple_next : next_position m place ≡ place
    multiple_next = rw last.several

    pub later_plain : (position : ℕ) (h : Held) (w : Text) (ws : List Text) (options : List (Text × Text)) → Later position h (record { plain = w ∷ ws; options = options }) →
        TakesPlain s Later position h w (record { plain = ws; options = options })
    later_plain position h w ws options q = go q.stage
      where
        placed : next_position m position ≡ place
        placed = ap (next_position m) q.here ∙ multiple_next

        go : Fresh h (w ∷ ws) ⊎ Busy h (w ∷ ws) → TakesPlain s Later position h w (record { plain = ws; options = options })
        go (inl fresh) = record {
          a = m;
          found = ap (arg_by_index s.rules) q.here ∙ last.found;
          passes = or_yes _ _ fresh.rests.settles;
          untrailing = last.untrailing;
          next = record {
            none = q.none;
            here = placed;
            stage = inr (record { done = w ∷ []; pending = rw fresh.other; rows_are = rw fresh.other fresh.rests.rows_are; parts = fresh.all });
          };
        }
        go (inr busy) =
            let same : is_pending m h.pending ≡ true = ap (is_pending m) busy.pending ∙ last.self in
            record {
              a = m;
              found = ap (arg_by_index s.rules) q.here ∙ last.found;
              passes = rw (same, last.several);
              untrailing = last.untrailing;
              next = record {
                none = q.none;
                here = placed;
                stage = inr (record { done = busy.done ++ w ∷ []; pending = rw (same, last.several) (ap (λ p. Some ((unwrap_or p (m.id, [])).0, (unwrap_or p (m.id, [])).1 ++ w ∷ [])) busy.pending); rows_are = rw (same, last.several) busy.rows_are; parts = append_assoc busy.done (w ∷ []) ws ∙ busy.parts });
              };
            }

    pub later_option : (position : ℕ) (h : Held) (ws : List Text) (name value : Text) (options : List (Text × Text)) → Later position h (record { plain = ws; options = (name, value) ∷ options }) →
        TakesOption s Later position h name value (record { plain = ws; options = options })
    later_option position h ws name value options q = let bad : (name, value) ∷ options ≡ [] = q.none in cc

    -- at the end all the words are the argument's
    pub later_ends : (v : Text) (vs : List Text) → words ≡ v ∷ vs → (position : ℕ) (h : Held) → Later position h nothing → Rests s h (rows ++ row m words ∷ [])
    later_ends v vs some position h q = go q.stage
      where
        go : Fresh h [] ⊎ Busy h [] → Rests s h (rows ++ row m words ∷ [])
        go (inl fresh) = let bad : (let none : List Text = [] in none ≡ v ∷ vs) = fresh.all ∙ some in cc
        go (inr busy) =
            let all : busy.done ≡ words = sym (append-nil busy.done) ∙ busy.parts in
            let pending : h.pending ≡ Some (m.id, words) = busy.pending ∙ ap (λ words. Some (m.id, words)) all in
            let used_all : used m words rows ≡ rows ++ row m words ∷ [] = subst (λ (ws : List Text). used m ws rows ≡ rows ++ row m ws ∷ []) (sym some) (used_new m v vs rows last.set last.new) in
            record {
              rows_are = ap (λ p. settled_rows s.rules p h.rows) pending ∙ (ap (λ a. used_by_id a words h.rows) last.own ∙ (ap (used m words) busy.rows_are ∙ used_all));
              settles = rw (pending, last.own) (ap (use_passes s.args_override_self m words) busy.rows_are ∙ last.passes);
            }

-- ---- the same behind one plain word

module _ (s : Shape) (p m : Rule) (f : Text) (words : List Text) where
  abbrev with_file : List Row
  with_file = row p (f ∷ []) ∷ []

  pub record IsBefore : Type 0 where
    pub single : IsSingle s p
    pub found : arg_by_index s.rules 1 ≡ Some p
    pub passes : use_passes s.args_override_self p (f ∷ []) [] ≡ true
    pub untrailing : p.trailing_var_arg ≡ false
    pub second : next_position p 1 ≡ 2
    pub other : bytes_eq p.id m.id ≡ false

  pub record Before (position : ℕ) (h : Held) (t : spec.Said) : Type 0 where
    pub none : t.options ≡ []
    pub here : position ≡ 1
    pub rests : Rests s h []
    pub all : t.plain ≡ f ∷ words

  abbrev pub Then : ℕ → Held → spec.Said → Type 0
  Then position h t = Before position h t ⊎ Later s m 2 with_file words position h t

  module _ (before : IsBefore) (last : IsLast s m 2 with_file words) where
    pub then_plain : (position : ℕ) (h : Held) (w : Text) (ws : List Text) (options : List (Text × Text)) → Then position h (record { plain = w ∷ ws; options = options }) →
        TakesPlain s Then position h w (record { plain = ws; options = options })
    then_plain position h w ws options (inr later) =
        let t = later_plain s m 2 with_file words last position h w ws options later in
        record { a = t.a; found = t.found; passes = t.passes; untrailing = t.untrailing; next = inr t.next }
    then_plain position h w ws options (inl q) =
        let is = head_is w ws f words q.all in
        let passes : use_passes s.args_override_self p (w ∷ []) [] ≡ true = ap (λ w. use_passes s.args_override_self p (w ∷ []) []) is.0 ∙ before.passes in
        let added : used p (w ∷ []) [] ≡ with_file = used_new p w [] [] before.single.set refl ∙ ap (λ w. row p (w ∷ []) ∷ []) is.0 in
        record {
          a = p;
          found = ap (arg_by_index s.rules) q.here ∙ before.found;
          passes = goes s p before.single h [] q.rests w passes;
          untrailing = before.untrailing;
          next = inr (record {
            none = q.none;
            here = ap (next_position p) q.here ∙ before.second;
            stage = inl (record {
              rests = subst (Rests s (positional_held s.rules p w h)) added (positional_rests s p before.single h [] q.rests w passes);
              other = rw (before.single.once, and_no (is_pending p h.pending)) before.other;
              all = is.1;
            });
          });
        }

    pub then_option : (position : ℕ) (h : Held) (ws : List Text) (name value : Text) (options : List (Text × Text)) → Then position h (record { plain = ws; options = (name, value) ∷ options }) →
        TakesOption s Then position h name value (record { plain = ws; options = options })
    then_option position h ws name value options (inl q) = let bad : (name, value) ∷ options ≡ [] = q.none in cc
    then_option position h ws name value options (inr q) = let bad : (name, value) ∷ options ≡ [] = q.none in cc

    pub then_ends : (v : Text) (vs : List Text) → words ≡ v ∷ vs → (position : ℕ) (h : Held) → Then position h nothing → Rests s h (with_file ++ row m words ∷ [])
    then_ends v vs some position h (inl q) = let bad : (let none : List Text = [] in none ≡ f ∷ words) = q.all in cc
    then_ends v vs some position h (inr q) = later_ends s m 2 with_file words last v vs some position h q
