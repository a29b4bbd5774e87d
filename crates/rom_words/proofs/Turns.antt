-- How a walk of `clap` goes over plain words and options.
use Rattle.std.proofs.Common.{◌≡◌, ℕ, zero, suc, ◌≤◌, List, [], ◌∷◌, length, Bool, true, false, Option, Some, None, refl, sym, ap, subst, arith}
use Rattle.std.specs.Prelude.{if◌then◌else◌, nat_lt, fold}
use Rattle.clap.specs.Walk.{Held, Rule, Text, Waiting, idle, option, positional, Walk, arg_by_id, arg_by_index, arg_by_long, is_multiple, most_values, next_position, pending_count, positional_held, reacted, settled, takes_values, walked}
use Rattle.clap.specs.Simple.{Shape}
use Rattle.clap.specs.Takes.{positional_passes, react_passes, settle_passes, turn_passes, walk_passes}
use Rattle.rom_words.specs.Words.{begins_with_dash, said, said_by, sort_of, with_option, with_plain}
use Rattle.rom_words.specs.Words as spec
use Rattle.rom_words.proofs.Saying.{rest_said}
use Rattle.rom_words.proofs.Walking.{end_is, long_is, short_is, undashed}

-- between two words
abbrev pub between : Held → Waiting → ℕ → Bool → Walk
between h waiting position is_trailing = record { held = h; waiting = waiting; position = position; is_trailing = is_trailing; stopped = None }

abbrev pub waits : Bool → Waiting
waits busy = if busy then positional else idle

abbrev pub nothing : spec.Said
nothing = record { plain = []; options = [] }

module _ (s : Shape) (Q : ℕ → Held → spec.Said → Type 0) where
  -- a plain word goes to a positional
  pub record TakesPlain (position : ℕ) (h : Held) (w : Text) (t : spec.Said) : Type 0 where
    pub a : Rule
    pub found : arg_by_index s.rules position ≡ Some a
    pub passes : positional_passes s.rules s.args_override_self a h ≡ true
    pub untrailing : a.trailing_var_arg ≡ false
    pub next : Q (next_position a position) (positional_held s.rules a w h) t

  -- a value goes to the option of this name, in one word or two
  pub record TakesOption (position : ℕ) (h : Held) (name value : Text) (t : spec.Said) : Type 0 where
    pub a : Rule
    pub found : arg_by_long s.rules name ≡ Some a
    pub own : arg_by_id s.rules a.id ≡ Some a
    pub takes : takes_values a ≡ true
    pub one : nat_lt (pending_count a (Some (a.id, value ∷ []))) (most_values a) ≡ false
    pub settles : settle_passes s.rules s.args_override_self h ≡ true
    pub passes : react_passes s.rules s.args_override_self a (value ∷ []) h ≡ true
    pub next : Q position (reacted s.rules a (value ∷ []) h) t
    pub later : Q position (record (settled s.rules h) { pending = Some (a.id, value ∷ []) }) t

  -- the walk passes over the words, and ends where nothing more may come
  pub record Ends (words : List Text) (w : Walk) : Type 0 where
    pub passes : walk_passes s [] w words ≡ true
    pub position : ℕ
    pub last : Q position (fold (walked s.rules []) w words).held nothing

  go_on : (now next : Walk) (w : Text) (words : List Text) → turn_passes s [] now w ≡ true → walked s.rules [] now w ≡ next → Ends words next → Ends (w ∷ words) now
  unfolding walk_passes
  go_on now next w words passes is ends = record {
    passes = rw (passes, is) ends.passes;
    position = ends.position;
    last = subst (λ (x : Walk). Q ends.position (fold (walked s.rules []) x words).held nothing) (sym is) ends.last;
  }

  module _ (plain : (position : ℕ) (h : Held) (w : Text) (ws : List Text) (options : List (Text × Text)) → Q position h (record { plain = w ∷ ws; options = options }) →
      TakesPlain position h w (record { plain = ws; options = options }))
      (given : (position : ℕ) (h : Held) (ws : List Text) (name value : Text) (options : List (Text × Text)) → Q position h (record { plain = ws; options = (name, value) ∷ options }) →
      TakesOption position h name value (record { plain = ws; options = options })) where
    -- a plain word behind `--`
    trailing_word : (h : Held) (busy : Bool) (position : ℕ) (w : Text) (words : List Text) (t : spec.Said) (p : TakesPlain position h w t) →
        Ends words (between (positional_held s.rules p.a w h) (waits (is_multiple p.a)) (next_position p.a position) true) → Ends (w ∷ words) (between h (waits busy) position true)
    unfolding walked
    trailing_word h busy position w words t p ends = go_on _ _ w words (rw (p.found, p.passes)) (rw p.found) ends

    plain_word : (h : Held) (busy : Bool) (position : ℕ) (w : Text) (words : List Text) (t : spec.Said) (p : TakesPlain position h w t) → sort_of w ≡ spec.Stands →
        Ends words (between (positional_held s.rules p.a w h) (waits (is_multiple p.a)) (next_position p.a position) false) → Ends (w ∷ words) (between h (waits busy) position false)
    unfolding walked
    plain_word h true position w words t p k ends = go_on _ _ w words (rw (end_is w, long_is w, k, short_is w k, p.found, p.passes)) (rw (end_is w, long_is w, k, short_is w k, p.found)
        (ap (between (positional_held s.rules p.a w h) (waits (is_multiple p.a)) (next_position p.a position)) p.untrailing)) ends
    plain_word h false position w words t p k ends = go_on _ _ w words (rw (end_is w, long_is w, k, short_is w k, p.found, p.passes)) (rw (end_is w, long_is w, k, short_is w k, p.found)
        (ap (between (positional_held s.rules p.a w h) (waits (is_multiple p.a)) (next_position p.a position)) p.untrailing)) ends

    end_word : (h : Held) (busy : Bool) (position : ℕ) (w : Text) (words : List Text) → sort_of w ≡ spec.Ends →
        Ends words (between h (waits busy) position true) → Ends (w ∷ words) (between h (waits busy) position false)
    unfolding walked
    end_word h true position w words k ends = go_on _ _ w words (rw (end_is w, k)) (rw (end_is w, k)) ends
    end_word h false position w words k ends = go_on _ _ w words (rw (end_is w, k)) (rw (end_is w, k)) ends

    gives_word : (h : Held) (busy : Bool) (position : ℕ) (w : Text) (words : List Text) (n v : Text) (t : spec.Said) (p : TakesOption position h n v t) → sort_of w ≡ spec.Gives n v →
        Ends words (between (reacted s.rules p.a (v ∷ []) h) idle position false) → Ends (w ∷ words) (between h (waits busy) position false)
    unfolding walked
    gives_word h true position w words n v t p k ends = go_on _ _ w words (rw (end_is w, long_is w, k, p.found, p.takes, p.passes)) (rw (end_is w, long_is w, k, p.found, p.takes)) ends
    gives_word h false position w words n v t p k ends = go_on _ _ w words (rw (end_is w, long_is w, k, p.found, p.takes, p.passes)) (rw (end_is w, long_is w, k, p.found, p.takes)) ends

    -- the value of an option that was named by the word before
    value_word : (h : Held) (position : ℕ) (words : List Text) (n v : Text) (t : spec.Said) (p : TakesOption position h n v t) → sort_of v ≡ spec.Stands →
        Ends words (between (record (settled s.rules h) { pending = Some (p.a.id, v ∷ []) }) idle position false) →
        Ends (v ∷ words) (between (record (settled s.rules h) { pending = Some (p.a.id, []) }) (option p.a.id) position false)
    unfolding walked
    value_word h position words n v t p k ends = go_on _ _ v words (rw (end_is v, long_is v, k, short_is v k)) (rw (end_is v, long_is v, k, short_is v k, p.own, p.one)) ends

    opens_word : (h : Held) (busy : Bool) (position : ℕ) (w : Text) (words : List Text) (n v : Text) (t : spec.Said) (p : TakesOption position h n v t) → sort_of w ≡ spec.Opens n → sort_of v ≡ spec.Stands →
        Ends words (between (record (settled s.rules h) { pending = Some (p.a.id, v ∷ []) }) idle position false) → Ends (w ∷ v ∷ words) (between h (waits busy) position false)
    unfolding walked
    opens_word h true position w words n v t p k l ends =
        go_on _ _ w (v ∷ words) (rw (end_is w, long_is w, k, p.found, p.takes, p.settles)) (rw (end_is w, long_is w, k, p.found, p.takes)) (value_word h position words n v t p l ends)
    opens_word h false position w words n v t p k l ends =
        go_on _ _ w (v ∷ words) (rw (end_is w, long_is w, k, p.found, p.takes, p.settles)) (rw (end_is w, long_is w, k, p.found, p.takes)) (value_word h position words n v t p l ends)

    abbrev Walks : ℕ → Type 0
    Walks n = (words : List Text) → length words ≤ n → (h : Held) (busy : Bool) (position : ℕ) (trailing : Bool) (t : spec.Said) →
        rest_said trailing words None ≡ Some t → Q position h t → Ends words (between h (waits busy) position trailing)

    abbrev or_nothing : Option spec.Said → spec.Said
    or_nothing None = nothing
    or_nothing (Some t) = t

    stands : (n : ℕ) → Walks n → (w : Text) (words : List Text) → length words ≤ n → (h : Held) (busy : Bool) (position : ℕ) (t : spec.Said) →
        sort_of w ≡ spec.Stands → (o : Option spec.Said) → said words None ≡ o → with_plain w o ≡ Some t → Q position h t → Ends (w ∷ words) (between h (waits busy) position false)
    stands n more w words few h busy position t k None is e q = cc
    stands n more w words few h busy position t k (Some u) is e q =
        let p = plain position h w u.plain u.options (subst (Q position h) (sym (ap or_nothing e)) q) in
        plain_word h busy position w words u p k (more words few _ (is_multiple p.a) _ false u is p.next)

    gives : (n : ℕ) → Walks n → (w : Text) (words : List Text) → length words ≤ n → (h : Held) (busy : Bool) (position : ℕ) (t : spec.Said) (name value : Text) →
        sort_of w ≡ spec.Gives name value → (o : Option spec.Said) → said words None ≡ o → with_option name value o ≡ Some t → Q position h t → Ends (w ∷ words) (between h (waits busy) position false)
    gives n more w words few h busy position t name value k None is e q = cc
    gives n more w words few h busy position t name value k (Some u) is e q =
        let p = given position h u.plain name value u.options (subst (Q position h) (sym (ap or_nothing e)) q) in
        gives_word h busy position w words name value u p k (more words few _ false _ false u is p.next)

    opens : (n : ℕ) → Walks n → (w v : Text) (words : List Text) → length words ≤ n → (h : Held) (busy : Bool) (position : ℕ) (t : spec.Said) (name : Text) →
        sort_of w ≡ spec.Opens name → sort_of v ≡ spec.Stands → (o : Option spec.Said) → said words None ≡ o → with_option name v o ≡ Some t → Q position h t →
        Ends (w ∷ v ∷ words) (between h (waits busy) position false)
    opens n more w v words few h busy position t name k l None is e q = cc
    opens n more w v words few h busy position t name k l (Some u) is e q =
        let p = given position h u.plain name v u.options (subst (Q position h) (sym (ap or_nothing e)) q) in
        opens_word h busy position w words name v u p k l (more words few _ false _ false u is p.later)

    opens_any : (n : ℕ) → Walks n → (w : Text) (words : List Text) → length words ≤ n → (h : Held) (busy : Bool) (position : ℕ) (t : spec.Said) (name : Text) →
        sort_of w ≡ spec.Opens name → said words (Some name) ≡ Some t → Q position h t → Ends (w ∷ words) (between h (waits busy) position false)
    opens_any n more w [] few h busy position t name k e q = cc
    opens_any n more w (v ∷ words) few h busy position t name k e q = go (begins_with_dash v) refl
      where
        go : (b : Bool) → begins_with_dash v ≡ b → Ends (w ∷ v ∷ words) (between h (waits busy) position false)
        go true b = let bad : (let none : Option spec.Said = None in none ≡ Some t) = rw b at e in cc
        go false b = opens n more w v words (omega (arith, few)) h busy position t name k (undashed v b) (said words None) refl (rw b at e) q

    turn : (n : ℕ) → Walks n → (w : Text) (words : List Text) → length words ≤ n → (h : Held) (busy : Bool) (position : ℕ) (t : spec.Said) (k : spec.Sort) →
        sort_of w ≡ k → said_by k w words (said words) ≡ Some t → Q position h t → Ends (w ∷ words) (between h (waits busy) position false)
    turn n more w words few h busy position t spec.Ends k e q = end_word h busy position w words k (more words few h busy position true t e q)
    turn n more w words few h busy position t (spec.Gives name value) k e q = gives n more w words few h busy position t name value k (said words None) refl e q
    turn n more w words few h busy position t (spec.Opens name) k e q = opens_any n more w words few h busy position t name k e q
    turn n more w words few h busy position t spec.Stands k e q = stands n more w words few h busy position t k (said words None) refl e q
    turn n more w words few h busy position t spec.Refused k e q = cc

    -- the whole of a level's words
    level : (n : ℕ) → Walks n
    unfolding walk_passes
    level n [] few h busy position true t e q = record { passes = refl; position = position; last = subst (Q position h) (sym (ap or_nothing e)) q }
    level n [] few h busy position false t e q = record { passes = refl; position = position; last = subst (Q position h) (sym (ap or_nothing e)) q }
    level zero (w ∷ words) few h busy position trailing t e q = absurd (omega (arith, few))
    level (suc n) (w ∷ words) few h busy position true t e q =
        let p = plain position h w words [] (subst (Q position h) (sym (ap or_nothing e)) q) in
        trailing_word h busy position w words _ p (level n words (omega (arith, few)) _ (is_multiple p.a) _ true _ refl p.next)
    level (suc n) (w ∷ words) few h busy position false t e q = turn n (level n) w words (omega (arith, few)) h busy position t (sort_of w) refl e q

    -- what a walk makes of words that say so much
    pub walks : (words : List Text) (h : Held) (t : spec.Said) → said words None ≡ Some t → Q 1 h t → Ends words (between h idle 1 false)
    walks words h t e q = level (length words) words (omega arith) h false 1 false t e q
