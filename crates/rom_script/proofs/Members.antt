-- The text of a group's members, member by member.
use Rattle.std.specs.Prelude.{◌≡◌, ◌≢◌, ℕ, ◌+◌, ◌%◌, ◌^◌, ◌<◌, ◌≤◌, ◌==◌, Bool, true, false, not, ◌&&◌, List, [], ◌∷◌, ◌++◌, length, drop, codes, decimal, Option, Some, None, IfSome, IfNone, nat_le, if◌then◌else◌}
use Rattle.std.proofs.Common.{suc, refl, sym, ap, subst, ◌∙◌, arith, rules, append_assoc, append-nil}
use Rattle.std.specs.List.{AllByRecursion, flat_map, join_by, list_all}
use Rattle.std.proofs.lemmas.Bool.{ne_eqb, eq-eqb, false≢true, leb-true}
use Rattle.std.proofs.lemmas.Fmt.{decimal_by_steps}
use Rattle.std.proofs.lemmas.List.{append_cancel_left, length-append}
use Rattle.std.proofs.lemmas.List.Folds.{list_all-append}
use Rattle.rom_model.specs.declared.call.Single.{Single}
use Rattle.rom_model.specs.declared.call.Single.TheVariants as single
use Rattle.rom_model.specs.Groups.{is_size, sized}
use Rattle.rom_text.proofs.Reading.{both}
use Rattle.rom_script.specs.Lines.{SingleCallFits, single_line, spaced}
use Rattle.rom_script.specs.Members.{behind_line}

-- no semicolon is among the bytes
abbrev pub is_clear : List ℕ → Bool
is_clear bytes = list_all (λ b. not (b == 59)) bytes

pub both_clear : (xs ys : List ℕ) → is_clear xs ≡ true → is_clear ys ≡ true → is_clear (xs ++ ys) ≡ true
both_clear xs ys x y = list_all-append (λ b. not (b == 59)) xs ys ∙ (λ i. x i && y i)

digit_is_clear : (d : ℕ) → d < 10 → is_clear ((48 + d) ∷ []) ≡ true
digit_is_clear d small = ap (λ t. not t && true) (ne_eqb (48 + d) 59 (λ is. omega (arith, is, small)))

pub decimal_is_clear : (n : ℕ) → n < 2 ^ 64 → is_clear (decimal n) ≡ true
decimal_is_clear = decimal_by_steps (λ n ds. is_clear ds ≡ true) digit_is_clear (λ n ds much clear. both_clear ds ((48 + n % 10) ∷ []) clear (digit_is_clear (n % 10) (omega arith)))

-- the line of an update has none
pub single_is_clear : (c : Single) → SingleCallFits c → is_clear (single_line c) ≡ true
single_is_clear (single.Enq v) fits = decimal_is_clear v fits
single_is_clear single.Deq fits = refl
single_is_clear (single.Add k) fits = decimal_is_clear k fits
single_is_clear (single.Rem k) fits = decimal_is_clear k fits
single_is_clear (single.Put k v) fits = both_clear (decimal k) (spaced v) (decimal_is_clear k fits.0) (decimal_is_clear v fits.1)
single_is_clear (single.Del k) fits = decimal_is_clear k fits
single_is_clear (single.Move a b d) fits = both_clear (decimal a ++ spaced b) (spaced d) (both_clear (decimal a) (spaced b) (decimal_is_clear a fits.0) (decimal_is_clear b fits.1)) (decimal_is_clear d fits.2)

-- a semicolon is not clear
semicolon_clear : (x y : ℕ) (ys : List ℕ) → is_clear (x ∷ y ∷ ys) ≡ true → y ≢ 59
semicolon_clear x y ys clear is =
    let here : not (y == 59) ≡ true = (both (not (y == 59)) (is_clear ys) (both (not (x == 59)) (is_clear (y ∷ ys)) clear).1).0 in
    false≢true (sym (ap not (eq-eqb y 59 is)) ∙ here)

-- bytes without one do not stand where a separator does
not_behind : (x : ℕ) (xs : List ℕ) (b m : Option (List ℕ)) → is_clear (x ∷ xs) ≡ true → (x ∷ xs) ++ behind_line b ≢ behind_line m
not_behind x xs b None clear same = absurd (search rules)
not_behind x [] None (Some rest) clear same = absurd (search rules)
not_behind x [] (Some more) (Some rest) clear same = absurd (search rules)
not_behind x (y ∷ ys) b (Some rest) clear same = semicolon_clear x y ys clear (search rules)

-- a text is a member without a semicolon and what stands behind it in one way
same_first : (line member : List ℕ) (b m : Option (List ℕ)) → is_clear line ≡ true → is_clear member ≡ true → line ++ behind_line b ≡ member ++ behind_line m → line ≡ member
same_first [] [] b m clear_line clear_member same = refl
same_first [] (y ∷ ys) b m clear_line clear_member same = absurd (not_behind y ys m b clear_member (sym same))
same_first (x ∷ xs) [] b m clear_line clear_member same = absurd (not_behind x xs b m clear_line same)
same_first (x ∷ xs) (y ∷ ys) b m clear_line clear_member same =
    let heads : x ≡ y = search rules in
    λ i. heads i ∷ same_first xs ys b m (both (not (x == 59)) (is_clear xs) clear_line).1 (both (not (y == 59)) (is_clear ys) clear_member).1 (search rules) i

-- so is one before the first separator
first_is : (line member : List ℕ) (b m : Option (List ℕ)) → is_clear line ≡ true → IfSome b (λ rest. length member ≤ length line) → line ++ behind_line b ≡ member ++ behind_line m → line ≡ member
first_is [] [] b m clear early same = refl
first_is [] (y ∷ ys) None m clear early same = absurd (search rules)
first_is [] (y ∷ ys) (Some rest) m clear early same = absurd (omega (arith, early))
first_is (x ∷ xs) [] b m clear early same = absurd (not_behind x xs b m clear same)
first_is (x ∷ xs) (y ∷ ys) b m clear early same =
    let heads : x ≡ y = search rules in
    λ i. heads i ∷ first_is xs ys b m (both (not (x == 59)) (is_clear xs) clear).1 (still b early) (search rules) i
  where
    still : (b : Option (List ℕ)) → IfSome b (λ rest. length (y ∷ ys) ≤ length (x ∷ xs)) → IfSome b (λ rest. length ys ≤ length xs)
    still None early = early
    still (Some rest) early = omega (arith, early)

behind_is : (b m : Option (List ℕ)) → behind_line b ≡ behind_line m → b ≡ m
behind_is None None same = refl
behind_is None (Some rest) same = absurd (search rules)
behind_is (Some more) None same = absurd (search rules)
behind_is (Some more) (Some rest) same = ap Some (ap (drop 3) same)

-- How the members of groups are written: the line of each, whose numbers fit, and that has no semicolon.
pub record MemberLines (X : Type 0) : Type 1 where
  pub line : X → List ℕ
  pub Fits : X → Type 0
  pub clear : (x : X) → Fits x → is_clear (line x) ≡ true

-- the updates of a queue, a set and a map are written so
abbrev pub update_lines : MemberLines Single
update_lines = record { line = single_line; Fits = SingleCallFits; clear = single_is_clear }

module _ {X : Type 0} (shown : MemberLines X) where
  -- how the members of a group are written: one behind the other, between each two a semicolon with a space on either side
  abbrev pub group_line : List X → List ℕ
  group_line calls = join_by shown.line (codes " ; ") calls

  -- each of two to eight members fits
  abbrev pub GroupFits : List X → Type 0
  GroupFits calls = (is_size (length calls) ≡ true) × AllByRecursion shown.Fits calls

  -- a text's first member, where it begins with a member's line
  pub member_is : (text member : List ℕ) (m : Option (List ℕ)) (c : X) (behind : Option (List ℕ)) → shown.Fits c → text ≡ member ++ behind_line m →
      ((front back : List ℕ) → text ≡ front ++ behind_line (Some back) → length member ≤ length front) → text ≡ shown.line c ++ behind_line behind → member ≡ shown.line c
  member_is text member m c behind fits parts first is = sym (first_is (shown.line c) member behind m (shown.clear c fits) (early behind is) (sym is ∙ parts))
    where
      early : (b : Option (List ℕ)) → text ≡ shown.line c ++ behind_line b → IfSome b (λ rest. length member ≤ length (shown.line c))
      early None is = tt
      early (Some rest) is = first (shown.line c) rest is

  -- the members that a text of one or more is written as, or none where there is no text
  abbrev pub AreWritten : Option (List ℕ) → List X → Type 0
  AreWritten None calls = calls ≡ []
  AreWritten (Some members) calls = (calls ≢ []) × AllByRecursion shown.Fits calls × (members ≡ group_line calls)

  -- the text behind the first member
  abbrev text_of : List X → Option (List ℕ)
  text_of [] = None
  text_of (c ∷ calls) = Some (group_line (c ∷ calls))

  members_first : (c : X) (calls : List X) → group_line (c ∷ calls) ≡ shown.line c ++ behind_line (text_of calls)
  members_first c [] = refl
  members_first c (d ∷ calls) = ap (λ t. shown.line c ++ t) (append_assoc (codes " ; ") (shown.line d) (flat_map (λ c. codes " ; " ++ shown.line c) calls))

  text_written : (calls : List X) → AllByRecursion shown.Fits calls → AreWritten (text_of calls) calls
  text_written [] fits = refl
  text_written (c ∷ calls) fits = ((λ is. search rules), fits, refl)

-- What is read as a member, and the text behind it:
module _ {X : Type 0} (shown : MemberLines X) (members : List ℕ) (c : X) (behind : Option (List ℕ)) (fits : shown.Fits c) (is : members ≡ shown.line c ++ behind_line behind) where
  -- the members are that one and those behind it
  pub with_first : (calls : List X) → AreWritten shown behind calls → AreWritten shown (Some members) (c ∷ calls)
  with_first calls written = by_text behind is calls written
    where
      by_text : (behind : Option (List ℕ)) → members ≡ shown.line c ++ behind_line behind → (calls : List X) → AreWritten shown behind calls → AreWritten shown (Some members) (c ∷ calls)
      by_text None is [] written = ((λ no. search rules), (fits, tt), is)
      by_text None is (d ∷ calls) written = absurd (search rules)
      by_text (Some text) is [] written = absurd (written.0 refl)
      by_text (Some text) is (d ∷ calls) written = ((λ no. search rules), (fits, written.1), is ∙ ap (λ t. shown.line c ++ behind_line (Some t)) written.2 ∙ sym (members_first shown c (d ∷ calls)))

  -- and they are no others
  pub behind_first : (calls : List X) → AreWritten shown (Some members) calls → (more : List X) × AreWritten shown behind more × (length calls ≡ suc (length more))
  behind_first [] written = absurd (written.0 refl)
  behind_first (d ∷ calls) written =
      let same : shown.line d ++ behind_line (text_of shown calls) ≡ shown.line c ++ behind_line behind = sym (members_first shown d calls) ∙ sym written.2 ∙ is in
      let line : shown.line d ≡ shown.line c = same_first (shown.line d) (shown.line c) (text_of shown calls) behind (shown.clear d written.1.0) (shown.clear c fits) same in
      let rest : text_of shown calls ≡ behind = behind_is (text_of shown calls) behind (append_cancel_left (shown.line c) (behind_line (text_of shown calls)) (behind_line behind) (ap (λ t. t ++ behind_line (text_of shown calls)) (sym line) ∙ same)) in
      (calls, subst (λ b. AreWritten shown b calls) rest (text_written shown calls written.1.1), refl)

-- The text is written as the members so far and then those that the rest is written as, and as no others.
pub record AreSoFar {X : Type 0} (shown : MemberLines X) (text : List ℕ) (rest : Option (List ℕ)) (so_far : List X) : Type 0 where
  pub written : (more : List X) → AreWritten shown rest more → AreWritten shown (Some text) (so_far ++ more)
  pub only : (calls : List X) → AreWritten shown (Some text) calls → (more : List X) × AreWritten shown rest more × (length calls ≡ length so_far + length more)

pub none_so_far : {X : Type 0} (shown : MemberLines X) (text : List ℕ) → AreSoFar shown text (Some text) []
none_so_far shown text = record { written = λ more written. written; only = λ calls written. (calls, written, omega arith) }

-- the members of a group are written
group_written : {X : Type 0} (shown : MemberLines X) (text : List ℕ) (calls : List X) → GroupFits shown calls → text ≡ group_line shown calls → AreWritten shown (Some text) calls
group_written shown text calls fits is = ((λ no. omega (arith, leb-true 2 (length calls) (both (nat_le 2 (length calls)) (nat_le (length calls) 8) fits.0).0, ap length no)), fits.1, is)

-- There are members to come.
module _ {X : Type 0} (shown : MemberLines X) (text members : List ℕ) (so_far : List X) (all : AreSoFar shown text (Some members) so_far) where
  -- one of them is read
  pub one_more : (c : X) (behind : Option (List ℕ)) → shown.Fits c → members ≡ shown.line c ++ behind_line behind → AreSoFar shown text behind (so_far ++ c ∷ [])
  one_more c behind fits is = record {
    written = λ more written. subst (AreWritten shown (Some text)) (sym (append_assoc so_far (c ∷ []) more)) (all.written (c ∷ more) (with_first shown members c behind fits is more written));
    only = λ calls written.
        let rest = all.only calls written in
        let next = behind_first shown members c behind fits is rest.0 rest.1 in
        (next.0, next.1, omega (arith, rest.2, next.2, length-append so_far (c ∷ [])));
  }

  -- the next one is none, so the text is no group's
  pub none_next : ((c : X) (behind : Option (List ℕ)) → shown.Fits c → members ≢ shown.line c ++ behind_line behind) → (calls : List X) → GroupFits shown calls → text ≢ group_line shown calls
  none_next none calls fits is = let rest = all.only calls (group_written shown text calls fits is) in no_first rest.0 rest.1
    where
      no_first : (more : List X) → AreWritten shown (Some members) more → ⊥
      no_first [] written = written.0 refl
      no_first (c ∷ more) written = none c (text_of shown more) written.1.0 (written.2 ∙ members_first shown c more)

-- All are read: they are the group's.
module _ {X : Type 0} (shown : MemberLines X) (text : List ℕ) (calls : List X) (all : AreSoFar shown text None calls) where
  pub group_read : (o : Option (List X)) → o ≡ sized calls → IfSome o (λ calls. GroupFits shown calls × (text ≡ group_line shown calls))
  group_read o is = subst (λ o. IfSome o (λ calls. GroupFits shown calls × (text ≡ group_line shown calls))) (sym is) (by_size (is_size (length calls)) refl)
    where
      whole : AreWritten shown (Some text) calls
      whole = subst (AreWritten shown (Some text)) (append-nil calls) (all.written [] refl)

      by_size : (b : Bool) → is_size (length calls) ≡ b → IfSome (if b then Some calls else None) (λ calls. GroupFits shown calls × (text ≡ group_line shown calls))
      by_size true size = ((size, whole.1), whole.2)
      by_size false size = tt

  pub no_group_read : (o : Option (List X)) → o ≡ sized calls → IfNone o ((calls : List X) → GroupFits shown calls → text ≢ group_line shown calls)
  no_group_read o is = subst (λ o. IfNone o ((calls : List X) → GroupFits shown calls → text ≢ group_line shown calls)) (sym is) (by_size (is_size (length calls)) refl)
    where
      as_many : (other : List X) → GroupFits shown other → text ≡ group_line shown other → length other ≡ length calls
      as_many other fits is = let rest = all.only other (group_written shown text other fits is) in omega (arith, rest.2, ap length rest.1)

      by_size : (b : Bool) → is_size (length calls) ≡ b → IfNone (if b then Some calls else None) ((calls : List X) → GroupFits shown calls → text ≢ group_line shown calls)
      by_size true size = tt
      by_size false size = λ other fits is. false≢true (sym size ∙ ap is_size (sym (as_many other fits is)) ∙ fits.0)

-- the bytes that are left, and one for a text that may have none
abbrev pub many_left : Option (List ℕ) → ℕ
many_left None = 0
many_left (Some text) = suc (length text)
