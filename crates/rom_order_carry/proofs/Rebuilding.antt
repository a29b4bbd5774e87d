-- The lines of the entries of an index rebuild it.
use Rattle.std.proofs.Common.{◌≡◌, ℕ, ◌+◌, ◌≤◌, List, [], ◌∷◌, ◌++◌, map, length, decimal, refl, sym, ◌∙◌, ap, subst, arith, append_assoc, append-nil, length-append}
use Rattle.std.specs.FinMap as finite
use Rattle.std.specs.List.{AllByRecursion}
use Rattle.std.proofs.lemmas.List.{length-map}
use Rattle.rom_model.specs.Blocks.{IsOrder}
use Rattle.rom_text.proofs.Numbers.{number_short}
use Rattle.rom_text.specs.Lines.{AreRead, spaced}
use Rattle.rom_carry.specs.Carried.{AreWritten, RebuildLines}
use Rattle.rom_carry.specs.Rebuilds.{after_steps, told_by_steps}
use Rattle.rom_carry.specs.Scripts.{IsPlain}
use Rattle.rom_carry.proofs.Carrying.{above_append, above_digits, carried, plain_line, told_many, updates}
use Rattle.rom_order.specs.Index.{index}
use Rattle.rom_order.specs.Lines.{ReadsIndex}
use Rattle.rom_order_region.specs.declared.call.OrderCall.{OrderCall}
use Rattle.rom_order_region.specs.declared.call.OrderCall.TheVariants.{Put}
use Rattle.rom_order_region.specs.declared.call.OrderReply.{OrderReply}
use Rattle.rom_order_region.specs.declared.call.OrderReply.TheVariants.{NoPrior, Full}
use Rattle.rom_order_region.specs.Keys.{EntriesRise}
use Rattle.rom_order_region.specs.Region.{IndexContents, room_for}
use Rattle.rom_order_region.specs.State.{Pairs, index_step}
use Rattle.rom_order_region.proofs.Frame.{half_small}
use Rattle.rom_order_region.proofs.Sorted.{rises}
use Rattle.rom_order_carry.specs.Carries.{CarriesIndex, IsFull, SameIndex}
use Rattle.rom_order_carry.specs.Entries.{EntryFits, ORDER_BOUNDS, entry_line}
use Rattle.rom_order_carry.proofs.Putting.{no_entries, puts_behind, room_above}
use Rattle.rom_order_carry.proofs.Told.{few_keys}

-- the updates that put entries in
abbrev pub puts : List (ℕ × ℕ) → List OrderCall
puts es = map (λ e. Put e.0 e.1) es

-- What the updates leave of an index with the entries xs.
pub record PutsAll (n : ℕ) (s : Pairs) (count : ℕ) (xs es : List (ℕ × ℕ)) : Type 0 where
  pub entries : finite.entries (after_steps index n s count (updates (puts es))) ≡ xs ++ es
  pub none_full : AllByRecursion (λ reply. IsFull reply → ⊥) (told_by_steps index n s count (updates (puts es)))

pub puts_all : (n : ℕ) (s : Pairs) (count : ℕ) (xs es : List (ℕ × ℕ)) → finite.entries s ≡ xs → EntriesRise (xs ++ es) → length xs + length es ≤ room_for n → PutsAll n s count xs es
puts_all n s count xs [] are rise fits = record { entries = are ∙ sym (append-nil xs); none_full = tt }
puts_all n s count xs (e ∷ es) are rise fits =
    let put = puts_behind n s count xs e es are rise (omega (arith, fits)) in
    let next = (index_step n s count (Put e.0 e.1)).0 in
    let next_is : next ≡ finite.insert s e.0 e.1 = ap (λ (d : Pairs × OrderReply). d.0) put.step in
    let rest = puts_all n next (count + 1) (xs ++ e ∷ []) es (ap (λ m. finite.entries m) next_is ∙ put.entries) (subst EntriesRise (sym (append_assoc xs (e ∷ []) es)) rise) (omega (arith, fits, length-append xs (e ∷ []))) in
    record {
      entries = rest.entries ∙ append_assoc xs (e ∷ []) es;
      none_full = ((λ full. let never : NoPrior ≡ Full = sym (ap (λ (d : Pairs × OrderReply). d.1) put.step) ∙ full in cc), rest.none_full);
    }

read_each : (es : List (ℕ × ℕ)) → AllByRecursion EntryFits es → AreRead ReadsIndex (map entry_line es) (updates (puts es))
read_each [] fit = tt
read_each (e ∷ es) fit = ((fit.0, refl), read_each es fit.1)

-- in a heap with room for the entries
pub rebuilt : (n : ℕ) (s : Pairs) → AllByRecursion EntryFits (finite.entries s) → finite.len s ≤ room_for n → RebuildLines index ReadsIndex SameIndex IsFull n (map entry_line (finite.entries s)) s
rebuilt n s fit room =
    let es = finite.entries s in
    let all = puts_all n finite.empty 0 [] es no_entries (rises s) (omega (arith, room, finite.len-entries s)) in
    record {
      steps = updates (puts es);
      read = read_each es fit;
      rebuild = record {
        same = finite.same_entries_map (after_steps index n finite.empty 0 (updates (puts es))) s all.entries;
        none_refused = all.none_full;
        answered = told_many index n finite.empty 0 (puts es) ∙ sym (length-map (puts es) _);
      };
    }

line_short : (e : ℕ × ℕ) → EntryFits e → length (entry_line e) ≤ 45
line_short e fit = omega (arith, length-append (decimal e.0) (spaced e.1), number_short e.0 fit.0, number_short e.1 fit.1)

line_plain : (e : ℕ × ℕ) → IsPlain (entry_line e)
line_plain e = plain_line (entry_line e) (above_append (decimal e.0) (32 ∷ decimal e.1) (above_digits e.0) (above_digits e.1))

short_each : (es : List (ℕ × ℕ)) → AllByRecursion EntryFits es → AllByRecursion (λ line. length line ≤ 45) (map entry_line es)
short_each [] fit = tt
short_each (e ∷ es) fit = (line_short e fit.0, short_each es fit.1)

plain_each : (es : List (ℕ × ℕ)) → AllByRecursion IsPlain (map entry_line es)
plain_each [] = tt
plain_each (e ∷ es) = (line_plain e, plain_each es)

-- the lines are within their bounds
pub lines_written : (n : ℕ) (es : List (ℕ × ℕ)) → IsOrder n → AllByRecursion EntryFits es → length es ≤ room_for n → AreWritten ORDER_BOUNDS (map entry_line es)
lines_written n es order fit few = record { few = omega (arith, length-map es entry_line, few, half_small n order); short = short_each es fit; plain = plain_each es }

-- they carry the index over
pub index_carried : (n : ℕ) (w : List ℕ) (s : Pairs) (k : ℕ) → IsOrder n → AllByRecursion EntryFits (finite.entries s) → IndexContents n w s k → CarriesIndex n s (map entry_line (finite.entries s))
index_carried n w s k order fit held =
    let few = few_keys held.1 in (
      refl,
      carried index ReadsIndex SameIndex IsFull ORDER_BOUNDS n s (map entry_line (finite.entries s)) (lines_written n (finite.entries s) order fit (omega (arith, few, finite.len-entries s)))
          (λ greater above is. rebuilt greater s fit (omega (arith, few, room_above n greater above))),
    )
