-- Lemmas on plain words and options.
use Rattle.std.proofs.Common.{◌≡◌, ◌⊎◌, codes, cond, inl, inr, ℕ, ◌<◌, ◌≤◌, List, [], ◌∷◌, ◌++◌, map, length, get_or, Bool, true, false, Bor, Option, Some, None, option_map, refl, sym, ap, ◌∙◌, arith}
use Rattle.std.specs.Prelude.{option_and_then, nat_lt, ◌&&◌}
use Rattle.std.specs.List.{list_all}
use Rattle.std.specs.Str.{bytes_eq}
use Rattle.std.proofs.lemmas.List.{append_assoc, length-append, length-map, map-append}
use Rattle.std.proofs.lemmas.List.Folds.{list_all-map}
use Rattle.std.proofs.lemmas.Bool.{lt-ltb}
use Rattle.std.proofs.lemmas.Bool.Decides.{nat_tests}
use Rattle.rom_words.specs.declared.said.Said.{Said}
use Rattle.rom_words.specs.Wanted.{sort_at, texts, told}
use Rattle.rom_words.specs.Words.{begins_with_dash, said, said_by, with_plain, with_option, Command, Run, Stat, Upgrade, Drill, are_scripts, both_of, command, command_of, drill_from, drill_command, file_alone, format_command, has_bytes, number_within, run_command, try_command}
use Rattle.rom_words.specs.Words as spec

-- what stands before, and then what is said
abbrev pub behind : spec.Said → Option spec.Said → Option spec.Said
behind s = option_map (λ t. record { plain = s.plain ++ t.plain; options = s.options ++ t.options })

-- what the rest says, where a `--` stands before it or none does
abbrev pub rest_said : Bool → List (List ℕ) → Option (List ℕ) → Option spec.Said
rest_said true words waiting = Some (record { plain = words; options = [] })
rest_said false words waiting = said words waiting

one_more : (ended : Bool) (w : List ℕ) (ws : List (List ℕ)) → rest_said ended (w ∷ ws) None ≡ said_by (sort_at ended w) w ws (rest_said ended ws)
one_more true w ws = refl
one_more false w ws = refl

abbrev made : List (List ℕ) → List (List ℕ × List ℕ) → spec.Said
made plain options = record { plain = plain; options = options }

abbrev option_texts : List (Bor (List ℕ) × Bor (List ℕ)) → List (List ℕ × List ℕ)
option_texts = map (λ o. (o.0.now, o.1.now))

said_of : (ended : Bool) (rest : List (List ℕ)) (w : List ℕ) (ws : List (List ℕ)) (k : spec.Sort) → rest ≡ w ∷ ws → sort_at ended w ≡ k →
    rest_said ended rest None ≡ said_by k w ws (rest_said ended ws)
said_of ended rest w ws k r e = ap (λ r. rest_said ended r None) r ∙ one_more ended w ws ∙ ap (λ k. said_by k w ws (rest_said ended ws)) e

behind_option : (s : spec.Said) (n v : List ℕ) (o : Option spec.Said) → behind s (with_option n v o) ≡ behind (made s.plain (s.options ++ (n, v) ∷ [])) o
behind_option s n v None = refl
behind_option s n v (Some t) = ap (λ options. Some (made (s.plain ++ t.plain) options)) (sym (append_assoc s.options ((n, v) ∷ []) t.options))

told_option : (old new : Said) (n v : Bor (List ℕ)) → new.options.items ≡ old.options.items ++ (n, v) ∷ [] → new.plain ≡ old.plain →
    told new ≡ made (told old).plain ((told old).options ++ (n.now, v.now) ∷ [])
told_option old new n v o p =
    ap (λ plain. made (texts plain.items) (told new).options) p
    ∙ ap (made (told old).plain) (ap option_texts o ∙ map-append (λ o. (o.0.now, o.1.now)) old.options.items ((n, v) ∷ []))

option_next : (X : Option spec.Said) (old new : Said) (n v : Bor (List ℕ)) (o : Option spec.Said) → X ≡ behind (told old) (with_option n.now v.now o) →
    new.options.items ≡ old.options.items ++ (n, v) ∷ [] → new.plain ≡ old.plain → X ≡ behind (told new) o
option_next X old new n v o i e p = i ∙ (behind_option (told old) n.now v.now o ∙ ap (λ s. behind s o) (sym (told_option old new n v e p)))

-- behind `--NAME=VALUE`
pub gives_next : (X : Option spec.Said) (old new : Said) (ended : Bool) (rest : List (List ℕ)) (w : List ℕ) (ws : List (List ℕ)) (n v : Bor (List ℕ)) →
    X ≡ behind (told old) (rest_said ended rest None) → rest ≡ w ∷ ws → sort_at ended w ≡ spec.Gives n.now v.now →
    new.options.items ≡ old.options.items ++ (n, v) ∷ [] → new.plain ≡ old.plain → X ≡ behind (told new) (rest_said ended ws None)
gives_next X old new ended rest w ws n v i r k e p =
    option_next X old new n v (rest_said ended ws None) (i ∙ ap (behind (told old)) (said_of ended rest w ws (spec.Gives n.now v.now) r k)) e p

opened : (ended : Bool) (w : List ℕ) (n v : List ℕ) (ws : List (List ℕ)) → sort_at ended w ≡ spec.Opens n → begins_with_dash v ≡ false →
    rest_said ended (v ∷ ws) (Some n) ≡ with_option n v (rest_said ended ws None)
opened true w n v ws k d = cc
opened false w n v ws k d = rw d

-- behind `--NAME` and a value
pub opens_next : (X : Option spec.Said) (old new : Said) (ended : Bool) (rest : List (List ℕ)) (w : List ℕ) (ws more : List (List ℕ)) (n v : Bor (List ℕ)) →
    X ≡ behind (told old) (rest_said ended rest None) → rest ≡ w ∷ ws → ws ≡ v.now ∷ more → sort_at ended w ≡ spec.Opens n.now → begins_with_dash v.now ≡ false →
    new.options.items ≡ old.options.items ++ (n, v) ∷ [] → new.plain ≡ old.plain → X ≡ behind (told new) (rest_said ended more None)
opens_next X old new ended rest w ws more n v i r m k d e p =
    option_next X old new n v (rest_said ended more None)
    (i ∙ ap (behind (told old)) (said_of ended rest w ws (spec.Opens n.now) r k ∙ (ap (λ ws. rest_said ended ws (Some n.now)) m ∙ opened ended w n.now v.now more k d))) e p

abbrev parts_len : Option spec.Said → ℕ × ℕ
parts_len None = (0, 0)
parts_len (Some s) = (length s.plain, length s.options)

-- where there is no room for an option
full : (X : Option spec.Said) (old : Said) (n v : List ℕ) (o : Option spec.Said) → X ≡ behind (told old) (with_option n v o) → length old.options.items ≡ 2 →
    (s : spec.Said) → X ≡ Some s → (17 < length s.plain) ⊎ (2 < length s.options)
full X old n v None i two s x = let bad : (let s : Option spec.Said = Some s in s ≡ None) = sym x ∙ i in cc
full X old n v (Some t) i two s x =
    let same : length s.options ≡ length ((told old).options ++ (n, v) ∷ t.options) = ap (λ o. (parts_len o).1) (sym x ∙ i) in
    inr (omega (arith, same, two, length-append (told old).options ((n, v) ∷ t.options), length-map {B = List ℕ × List ℕ} old.options.items (λ (o : Bor (List ℕ) × Bor (List ℕ)). (o.0.now, o.1.now))))

-- where there is no room for the option of `--NAME=VALUE`
pub gives_full : (X : Option spec.Said) (old : Said) (ended : Bool) (rest : List (List ℕ)) (w : List ℕ) (ws : List (List ℕ)) (n v : List ℕ) →
    X ≡ behind (told old) (rest_said ended rest None) → rest ≡ w ∷ ws → sort_at ended w ≡ spec.Gives n v → length old.options.items ≡ 2 →
    (s : spec.Said) → X ≡ Some s → (17 < length s.plain) ⊎ (2 < length s.options)
gives_full X old ended rest w ws n v i r k two = full X old n v (rest_said ended ws None) (i ∙ ap (behind (told old)) (said_of ended rest w ws (spec.Gives n v) r k)) two

-- where there is no room for the option of `--NAME` and a value
pub opens_full : (X : Option spec.Said) (old : Said) (ended : Bool) (rest : List (List ℕ)) (w : List ℕ) (ws more : List (List ℕ)) (n v : List ℕ) →
    X ≡ behind (told old) (rest_said ended rest None) → rest ≡ w ∷ ws → ws ≡ v ∷ more → sort_at ended w ≡ spec.Opens n → begins_with_dash v ≡ false → length old.options.items ≡ 2 →
    (s : spec.Said) → X ≡ Some s → (17 < length s.plain) ⊎ (2 < length s.options)
opens_full X old ended rest w ws more n v i r m k d two =
    full X old n v (rest_said ended more None)
    (i ∙ ap (behind (told old)) (said_of ended rest w ws (spec.Opens n) r k ∙ (ap (λ ws. rest_said ended ws (Some n)) m ∙ opened ended w n v more k d))) two

behind_plain : (s : spec.Said) (w : List ℕ) (o : Option spec.Said) → behind s (with_plain w o) ≡ behind (made (s.plain ++ w ∷ []) s.options) o
behind_plain s w None = refl
behind_plain s w (Some t) = ap (λ plain. Some (made plain (s.options ++ t.options))) (sym (append_assoc s.plain (w ∷ []) t.plain))

-- behind a plain word
pub stands_next : (X : Option spec.Said) (old new : Said) (ended : Bool) (rest : List (List ℕ)) (w : Bor (List ℕ)) (ws : List (List ℕ)) →
    X ≡ behind (told old) (rest_said ended rest None) → rest ≡ w.now ∷ ws → sort_at ended w.now ≡ spec.Stands →
    new.plain.items ≡ old.plain.items ++ w ∷ [] → new.options ≡ old.options → X ≡ behind (told new) (rest_said ended ws None)
stands_next X old new ended rest w ws i r k p o =
    let same : told new ≡ made ((told old).plain ++ w.now ∷ []) (told old).options =
    ap (λ options. made (texts new.plain.items) (option_texts options.items)) o
    ∙ ap (λ plain. made plain (told old).options) (ap texts p ∙ map-append (λ s. s.now) old.plain.items (w ∷ [])) in
    i ∙ (ap (behind (told old)) (said_of ended rest w.now ws spec.Stands r k) ∙ (behind_plain (told old) w.now (rest_said ended ws None) ∙ ap (λ s. behind s (rest_said ended ws None)) (sym same)))

-- where there is no room for a plain word
pub stands_full : (X : Option spec.Said) (old : Said) (ended : Bool) (rest : List (List ℕ)) (w : List ℕ) (ws : List (List ℕ)) →
    X ≡ behind (told old) (rest_said ended rest None) → rest ≡ w ∷ ws → sort_at ended w ≡ spec.Stands → length old.plain.items ≡ 17 →
    (s : spec.Said) → X ≡ Some s → (17 < length s.plain) ⊎ (2 < length s.options)
stands_full X old ended rest w ws i r k many = go (rest_said ended ws None) (i ∙ ap (behind (told old)) (said_of ended rest w ws spec.Stands r k))
  where
    go : (o : Option spec.Said) → X ≡ behind (told old) (with_plain w o) → (s : spec.Said) → X ≡ Some s → (17 < length s.plain) ⊎ (2 < length s.options)
    go None i s x = let bad : (let s : Option spec.Said = Some s in s ≡ None) = sym x ∙ i in cc
    go (Some t) i s x =
        let same : length s.plain ≡ length ((told old).plain ++ w ∷ t.plain) = ap (λ o. (parts_len o).0) (sym x ∙ i) in
        inl (omega (arith, same, many, length-append (told old).plain (w ∷ t.plain), length-map old.plain.items (λ (s : Bor (List ℕ)). s.now)))

-- ---- commands

not_and : (a l : Bool) → (a && false && l) ≡ false
not_and true l = refl
not_and false l = refl

scripts_many : (words : List (List ℕ)) → 16 < length words → are_scripts words ≡ false
scripts_many words many = go (nat_lt (length words) 17) refl
  where
    go : (b : Bool) → nat_lt (length words) 17 ≡ b → are_scripts words ≡ false
    go true e = absurd (grind (arith, nat_tests))
    go false e = ap (λ b. nat_lt 0 (length words) && b && list_all has_bytes words) e ∙ not_and (nat_lt 0 (length words)) (list_all has_bytes words)

-- 1 to 16 words name scripts where none is empty
pub scripts_few : (words : List (Bor (List ℕ))) → 0 < length words → length words ≤ 16 → list_all (λ w. has_bytes w.now) words ≡ are_scripts (texts words)
scripts_few words some few =
    let len : length (texts words) ≡ length words = length-map words (λ w. w.now) in
    sym (rw (lt-ltb 0 (length (texts words)) (omega (arith, len, some)), lt-ltb (length (texts words)) 17 (omega (arith, len, few))) (list_all-map has_bytes (λ w. w.now) words))

-- more plain words or more options than any command has
abbrev pub IsTooMuch : List (List ℕ) → List (List ℕ × List ℕ) → Type 0
IsTooMuch plain options = (17 < length plain) ⊎ (2 < length options)

try_none : (plain : List (List ℕ)) (options : List (List ℕ × List ℕ)) → IsTooMuch plain options → try_command plain options ≡ None
try_none plain (o ∷ os) h = refl
try_none plain [] (inl h) = rw (scripts_many plain (omega (arith, h)))
try_none plain [] (inr h) = absurd (omega (arith, h))

run_none : (plain : List (List ℕ)) (options : List (List ℕ × List ℕ)) → IsTooMuch plain options → run_command plain options ≡ None
run_none [] options h = refl
run_none (f ∷ fs) (o ∷ os) h = refl
run_none (f ∷ fs) [] (inl h) = go (has_bytes f)
  where
    go : (b : Bool) → cond (b && are_scripts fs) (Some (Run f fs)) None ≡ None
    go true = rw (scripts_many fs (omega (arith, h)))
    go false = refl
run_none (f ∷ fs) [] (inr h) = absurd (omega (arith, h))

format_none : (plain : List (List ℕ)) (options : List (List ℕ × List ℕ)) → IsTooMuch plain options → format_command plain options ≡ None
format_none [] options h = refl
format_none (f ∷ g ∷ gs) options h = refl
format_none (f ∷ []) [] h = refl
format_none (f ∷ []) (o ∷ p ∷ ps) h = refl
format_none (f ∷ []) (o ∷ []) (inl h) = absurd (omega (arith, h))
format_none (f ∷ []) (o ∷ []) (inr h) = absurd (omega (arith, h))

file_none : (plain : List (List ℕ)) (options : List (List ℕ × List ℕ)) → IsTooMuch plain options → file_alone plain options ≡ None
file_none [] options h = refl
file_none (f ∷ g ∷ gs) options h = refl
file_none (f ∷ []) (o ∷ os) h = refl
file_none (f ∷ []) [] (inl h) = absurd (omega (arith, h))
file_none (f ∷ []) [] (inr h) = absurd (omega (arith, h))

drill_none : (plain : List (List ℕ)) (options : List (List ℕ × List ℕ)) → IsTooMuch plain options → drill_command plain options ≡ None
drill_none [] options h = refl
drill_none (f ∷ g ∷ gs) options h = refl
drill_none (f ∷ []) [] h = refl
drill_none (f ∷ []) (o ∷ []) h = refl
drill_none (f ∷ []) (o ∷ p ∷ q ∷ qs) h = refl
drill_none (f ∷ []) (o ∷ p ∷ []) (inl h) = absurd (omega (arith, h))
drill_none (f ∷ []) (o ∷ p ∷ []) (inr h) = absurd (omega (arith, h))

none_if : (b : Bool) (x y : Option Command) → x ≡ None → y ≡ None → cond b x y ≡ None
none_if true x y e f = e
none_if false x y e f = f

too_much : (name : List ℕ) (s : spec.Said) → IsTooMuch s.plain s.options → command_of name s ≡ None
too_much name s h =
    none_if (bytes_eq name (codes "try")) _ _ (try_none s.plain s.options h)
    (none_if (bytes_eq name (codes "run")) _ _ (run_none s.plain s.options h)
    (none_if (bytes_eq name (codes "format")) _ _ (format_none s.plain s.options h)
    (none_if (bytes_eq name (codes "stat")) _ _ (ap (option_map Stat) (file_none s.plain s.options h))
    (none_if (bytes_eq name (codes "upgrade")) _ _ (ap (option_map Upgrade) (file_none s.plain s.options h))
    (none_if (bytes_eq name (codes "drill")) _ _ (drill_none s.plain s.options h) refl)))))

-- words that say nothing, or too much, are no command
pub unsaid : (name : List ℕ) (words : List (List ℕ)) → ((s : spec.Said) → said words None ≡ Some s → IsTooMuch s.plain s.options) → command (name ∷ words) ≡ None
unsaid name words h = go (said words None) refl
  where
    go : (o : Option spec.Said) → said words None ≡ o → option_and_then (command_of name) (said words None) ≡ None
    go None e = rw e
    go (Some s) e = ap (option_and_then (command_of name)) e ∙ too_much name s (h s e)

-- a drill whose numbers were read
pub drilled : (plain : List (List ℕ)) (options : List (List ℕ × List ℕ)) (start callers calls : List ℕ) (a b k : ℕ) → plain ≡ start ∷ [] →
    Some (callers, calls) ≡ both_of (codes "callers") (codes "calls") options →
    Some a ≡ number_within 0 18446744073709551615 start → Some b ≡ number_within 1 16 callers → Some k ≡ number_within 1 10000 calls →
    Some (Drill a b k) ≡ drill_command plain options
drilled plain options start callers calls a b k p o x y z = sym (ap (λ plain. drill_command plain options) p ∙ go _ (sym o) (sym x) (sym y) (sym z))
  where
    go : (v : Option (List ℕ × List ℕ)) → v ≡ Some (callers, calls) → number_within 0 18446744073709551615 start ≡ Some a →
        number_within 1 16 callers ≡ Some b → number_within 1 10000 calls ≡ Some k →
        option_and_then (λ values. drill_from (number_within 0 18446744073709551615 start) (number_within 1 16 values.0) (number_within 1 10000 values.1)) v ≡ Some (Drill a b k)
    go v e f g h = ap (option_and_then (λ values. drill_from (number_within 0 18446744073709551615 start) (number_within 1 16 values.0) (number_within 1 10000 values.1))) e
        ∙ (ap (λ s. drill_from s (number_within 1 16 callers) (number_within 1 10000 calls)) f
        ∙ (ap (λ s. drill_from (Some a) s (number_within 1 10000 calls)) g ∙ ap (drill_from (Some a) (Some b)) h))

-- the one plain word
pub one_text : (words items : List (Bor (List ℕ))) (d : Bor (List ℕ)) → words ≡ items → 1 ≤ length words → length words < 2 → texts items ≡ (get_or words 0 d).now ∷ []
one_text words items d e some few = ap texts (sym e) ∙ go words some few
  where
    go : (words : List (Bor (List ℕ))) → 1 ≤ length words → length words < 2 → texts words ≡ (get_or words 0 d).now ∷ []
    go [] some few = absurd (omega (arith, some))
    go (w ∷ []) some few = refl
    go (w ∷ v ∷ ws) some few = absurd (omega (arith, few))
