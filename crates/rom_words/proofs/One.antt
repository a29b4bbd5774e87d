-- A command of `clap` with one plain word, and options with one value each.
use Rattle.std.proofs.Common.{◌≡◌, ℕ, List, [], ◌∷◌, ◌++◌, map, Bool, true, false, Some, refl, sym, ap, subst, ◌∙◌}
use Rattle.std.specs.Prelude.{if◌then◌else◌, unwrap_or, nat_lt}
use Rattle.std.specs.Str.{bytes_eq}
use Rattle.std.proofs.lemmas.List.{append_assoc, append-nil}
use Rattle.clap.specs.Walk.{Held, Row, Rule, Text, all_of, arg_by_index, arg_by_long, has_row, most_values, pending_count, positional_held, used}
use Rattle.clap.specs.Simple.{Shape}
use Rattle.clap.specs.Takes.{use_passes}
use Rattle.rom_words.specs.Words as spec
use Rattle.rom_words.proofs.Turns.{TakesPlain, TakesOption, nothing}
use Rattle.rom_words.proofs.Rows.{IsSingle, Rests, all_new, all_old, goes, pending_rests, positional_rests, reacted_rests, reacts, row, still_none, used_new}

-- ---- lists

abbrev pub Each : {X : Type 0} → (X → Type 0) → List X → Type 0
Each {X} P [] = Unit {0}
Each {X} P (x ∷ xs) = P x × Each P xs

each_push : {X : Type 0} (P : X → Type 0) (xs : List X) (y : X) → Each P xs → P y → Each P (xs ++ y ∷ [])
each_push P [] y e p = (p, tt)
each_push P (x ∷ xs) y e p = (e.0, each_push P xs y e.1 p)

each_with : {X : Type 0} (P R Q : X → Type 0) → ((x : X) → P x → R x → Q x) → (xs : List X) → Each P xs → Each R xs → Each Q xs
each_with P R Q f [] e d = tt
each_with P R Q f (x ∷ xs) e d = (f x e.0 d.0, each_with P R Q f xs e.1 d.1)

pub head_is : {X : Type 0} (x : X) (xs : List X) (y : X) (ys : List X) → x ∷ xs ≡ y ∷ ys → (x ≡ y) × (xs ≡ ys)
head_is {X} x xs y ys e = (ap head_or e, ap tail_or e)
  where
    head_or : List X → X
    head_or [] = x
    head_or (y ∷ ys) = y

    tail_or : List X → List X
    tail_or [] = []
    tail_or (y ∷ ys) = ys

-- ---- arguments that were used or that wait

-- a row for the argument is there with this value, or it waits for it
abbrev pub Slot : List Row → Text → Text → Bool → Type 0
Slot rows id value true = has_row id rows ≡ false
Slot rows id value false = all_of id rows ≡ Some (value ∷ [])

slot_other : (rows : List Row) (id value : Text) (waits : Bool) (r : Row) → bytes_eq r.id id ≡ false → Slot rows id value waits → Slot (rows ++ r ∷ []) id value waits
slot_other rows id value true r other e = still_none id rows r e other
slot_other rows id value false r other e = all_old id rows r (value ∷ []) e

abbrev pub Want : Type 0
Want = Rule × Text

-- how the words say an option
abbrev pub said_as : Want → Text × Text
said_as x = (unwrap_or x.0.long [], x.1)

abbrev pub AreApart : Rule → Rule → Type 0
AreApart a b = (bytes_eq a.id b.id ≡ false) × (bytes_eq b.id a.id ≡ false)

module _ (s : Shape) (p : Rule) (f : Text) where
  pub record IsOption (x : Want) : Type 0 where
    pub single : IsSingle s x.0
    pub found : arg_by_long s.rules (said_as x).0 ≡ Some x.0
    pub one : nat_lt (pending_count x.0 (Some (x.0.id, x.1 ∷ []))) (most_values x.0) ≡ false
    pub passes : (rows : List Row) → has_row x.0.id rows ≡ false → use_passes s.args_override_self x.0 (x.1 ∷ []) rows ≡ true
    pub self : bytes_eq x.0.id x.0.id ≡ true
    pub apart : AreApart p x.0

  pub record IsFirst : Type 0 where
    pub single : IsSingle s p
    pub found : arg_by_index s.rules 1 ≡ Some p
    pub passes : (rows : List Row) → has_row p.id rows ≡ false → use_passes s.args_override_self p (f ∷ []) rows ≡ true
    pub self : bytes_eq p.id p.id ≡ true
    pub untrailing : p.trailing_var_arg ≡ false

  -- each option that is still to come has another name than those behind it
  abbrev pub AllApart : List Want → Type 0
  AllApart [] = Unit {0}
  AllApart (x ∷ xs) = Each (λ y. bytes_eq x.0.id y.0.id ≡ false) xs × AllApart xs

  abbrev plain_left : Bool → List Text
  plain_left waits = if waits then f ∷ [] else []

  pub record One (want : List Want) (position : ℕ) (h : Held) (t : spec.Said) : Type 0 where
    pub rows : List Row
    pub rests : Rests s h rows
    pub waits : Bool
    pub slot : Slot rows p.id f waits
    pub first : waits ≡ true → position ≡ 1
    pub done : List Want
    pub left : List Want
    pub parts : done ++ left ≡ want
    pub told : Each (λ x. Slot rows x.0.id x.1 false) done
    pub waiting : Each (λ x. Slot rows x.0.id x.1 true) left
    pub options : Each IsOption left
    pub apart : AllApart left
    pub said : t ≡ record { plain = plain_left waits; options = map said_as left }

  module _ (start : IsFirst) (want : List Want) where
    abbrev At : ℕ → Held → spec.Said → Type 0
    At = One want

    pub one_plain : (position : ℕ) (h : Held) (w : Text) (ws : List Text) (options : List (Text × Text)) → At position h (record { plain = w ∷ ws; options = options }) →
        TakesPlain s At position h w (record { plain = ws; options = options })
    one_plain position h w ws options q = go q.waits q.slot q.first (ap (λ (s : spec.Said). s.plain) q.said)
      where
        go : (waits : Bool) → Slot q.rows p.id f waits → (waits ≡ true → position ≡ 1) → w ∷ ws ≡ plain_left waits →
            TakesPlain s At position h w (record { plain = ws; options = options })
        go false slot first e = cc
        go true slot first e =
            let is = head_is w ws f [] e in
            let r = row p (w ∷ []) in
            let passes : use_passes s.args_override_self p (w ∷ []) q.rows ≡ true = ap (λ w. use_passes s.args_override_self p (w ∷ []) q.rows) is.0 ∙ start.passes q.rows slot in
            let added = used_new p w [] q.rows start.single.set slot in
            record {
              a = p;
              found = ap (arg_by_index s.rules) (first refl) ∙ start.found;
              passes = goes s p start.single h q.rows q.rests w passes;
              untrailing = start.untrailing;
              next = record {
                rows = q.rows ++ r ∷ [];
                rests = subst (Rests s (positional_held s.rules p w h)) added (positional_rests s p start.single h q.rows q.rests w passes);
                waits = false;
                slot = all_new p.id q.rows r slot start.self ∙ ap (λ w. Some (w ∷ [])) is.0;
                first = λ bad. cc;
                done = q.done;
                left = q.left;
                parts = q.parts;
                told = each_with (λ x. Slot q.rows x.0.id x.1 false) (λ x. Slot q.rows x.0.id x.1 false) _ (λ x a b. all_old x.0.id q.rows r (x.1 ∷ []) a) q.done q.told q.told;
                waiting = each_with (λ x. Slot q.rows x.0.id x.1 true) IsOption _ (λ x a o. still_none x.0.id q.rows r a o.apart.0) q.left q.waiting q.options;
                options = q.options;
                apart = q.apart;
                said = (λ i. record { plain = is.1 i; options = (ap (λ (s : spec.Said). s.options) q.said) i });
              };
            }

    after_option : (position : ℕ) (h next : Held) (x : Want) (xs : List Want) (ws : List Text) (rows : List Row) (waits : Bool) (done : List Want) →
        Rests s next (used x.0 (x.1 ∷ []) rows) → Slot rows p.id f waits → (waits ≡ true → position ≡ 1) → done ++ x ∷ xs ≡ want → Each (λ x. Slot rows x.0.id x.1 false) done →
        Each (λ x. Slot rows x.0.id x.1 true) (x ∷ xs) → Each IsOption (x ∷ xs) → AllApart (x ∷ xs) → ws ≡ plain_left waits → At position next (record { plain = ws; options = map said_as xs })
    after_option position h next x xs ws rows waits done rests slot first parts told waiting options apart said =
        let r = row x.0 (x.1 ∷ []) in
        let added = used_new x.0 x.1 [] rows options.0.single.set waiting.0 in
        record {
          rows = rows ++ r ∷ [];
          rests = subst (Rests s next) added rests;
          waits = waits;
          slot = slot_other rows p.id f waits r options.0.apart.1 slot;
          first = first;
          done = done ++ x ∷ [];
          left = xs;
          parts = append_assoc done (x ∷ []) xs ∙ parts;
          told = each_push _ done x (each_with (λ x. Slot rows x.0.id x.1 false) (λ x. Slot rows x.0.id x.1 false) _ (λ x a b. all_old x.0.id rows r (x.1 ∷ []) a) done told told)
              (all_new x.0.id rows r waiting.0 options.0.self);
          waiting = each_with (λ x. Slot rows x.0.id x.1 true) (λ y. bytes_eq x.0.id y.0.id ≡ false) _ (λ y a o. still_none y.0.id rows r a o) xs waiting.1 apart.0;
          options = options.1;
          apart = apart.1;
          said = (λ i. record { plain = said i; options = map said_as xs });
        }

    pub one_option : (position : ℕ) (h : Held) (ws : List Text) (name value : Text) (options : List (Text × Text)) → At position h (record { plain = ws; options = (name, value) ∷ options }) →
        TakesOption s At position h name value (record { plain = ws; options = options })
    one_option position h ws name value options q = go q.left q.parts q.waiting q.options q.apart (ap (λ (s : spec.Said). s.options) q.said)
      where
        go : (left : List Want) → q.done ++ left ≡ want → Each (λ x. Slot q.rows x.0.id x.1 true) left → Each IsOption left → AllApart left → (name, value) ∷ options ≡ map said_as left →
            TakesOption s At position h name value (record { plain = ws; options = options })
        go [] parts waiting fits apart e = cc
        go (x ∷ xs) parts waiting fits apart e =
            let is = head_is (name, value) options (said_as x) (map said_as xs) e in
            let o = fits.0 in
            let passes = o.passes q.rows waiting.0 in
            let plain : ws ≡ plain_left q.waits = ap (λ (s : spec.Said). s.plain) q.said in
            let taken : TakesOption s At position h (said_as x).0 x.1 (record { plain = ws; options = map said_as xs }) = record {
              a = x.0;
              found = o.found;
              own = o.single.own;
              takes = o.single.takes;
              one = o.one;
              settles = q.rests.settles;
              passes = reacts s x.0 o.single h q.rows q.rests x.1 passes;
              next = after_option position h _ x xs ws q.rows q.waits q.done (reacted_rests s x.0 o.single h q.rows q.rests x.1 passes) q.slot q.first parts q.told waiting fits apart plain;
              later = after_option position h _ x xs ws q.rows q.waits q.done (pending_rests s x.0 o.single h q.rows q.rests x.1 passes) q.slot q.first parts q.told waiting fits apart plain;
            } in
            subst (λ (p : (Text × Text) × List (Text × Text)). TakesOption s At position h p.0.0 p.0.1 (record { plain = ws; options = p.1 })) (λ i. (sym is.0 i, sym is.1 i)) taken

  -- where nothing more may come, all has come
  pub record OneDone (want : List Want) (h : Held) : Type 0 where
    pub rows : List Row
    pub rests : Rests s h rows
    pub plain : all_of p.id rows ≡ Some (f ∷ [])
    pub options : Each (λ x. all_of x.0.id rows ≡ Some (x.1 ∷ [])) want

  pub one_ends : (want : List Want) (position : ℕ) (h : Held) → One want position h nothing → OneDone want h
  one_ends want position h q = go q.waits q.left q.slot q.parts (ap (λ (s : spec.Said). s.plain) q.said) (ap (λ (s : spec.Said). s.options) q.said)
    where
      go : (waits : Bool) (left : List Want) → Slot q.rows p.id f waits → q.done ++ left ≡ want → [] ≡ plain_left waits → [] ≡ map said_as left → OneDone want h
      go true left slot parts plain options = cc
      go false (x ∷ xs) slot parts plain options = cc
      go false [] slot parts plain options = record {
        rows = q.rows;
        rests = q.rests;
        plain = slot;
        options = subst (Each (λ x. all_of x.0.id q.rows ≡ Some (x.1 ∷ []))) (sym (append-nil q.done) ∙ parts) q.told;
      }

  -- before any word
  pub one_begins : (want : List Want) (h : Held) → Rests s h [] → Each IsOption want → AllApart want → One want 1 h (record { plain = f ∷ []; options = map said_as want })
  one_begins want h rests options apart = record {
    rows = [];
    rests = rests;
    waits = true;
    slot = refl;
    first = λ _. refl;
    done = [];
    left = want;
    parts = refl;
    told = tt;
    waiting = none_there want;
    options = options;
    apart = apart;
    said = refl;
  }
    where
      none_there : (want : List Want) → Each (λ x. Slot [] x.0.id x.1 true) want
      none_there [] = tt
      none_there (x ∷ xs) = (refl, none_there xs)
