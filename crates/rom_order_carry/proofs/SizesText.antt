-- The texts that tell the size of an index, as they are printed.
use Rattle.std.proofs.Common.{◌≡◌, ℕ, ◌-◌, ◌*◌, ◌/◌, List, [], ◌∷◌, ◌++◌, sym, ◌∙◌, ap, append_assoc}
use Rattle.std.specs.Prelude.{codes, decimal}
use Rattle.std.specs.FinMap as map
use Rattle.std.specs.List.{flat_map}
use Rattle.rom_carry.specs.Gauges.{gauge_text}
use Rattle.rom_text.specs.Text.{line_text}
use Rattle.rom_order_region.specs.Query.{total}
use Rattle.rom_order_region.specs.Region.{room_for}
use Rattle.rom_order_region.specs.State.{Pairs}
use Rattle.rom_order_carry.specs.Sizes.{measures_text, sizes_text}

-- the pieces of the sizes, printed one after another
abbrev pub pieces_text : (order count keys free sum : List ℕ) → List ℕ
pieces_text order count keys free sum =
    flat_map (λ piece. piece) (codes "order " ∷ order ∷ (10 ∷ codes "count ") ∷ count ∷ (10 ∷ codes "keys ") ∷ keys ∷ (10 ∷ codes "free ") ∷ free ∷ (10 ∷ codes "total ") ∷ sum ∷ (10 ∷ []) ∷ [])

line_then : (name value rest : List ℕ) → line_text (name ++ value) ++ rest ≡ name ++ (value ++ 10 ∷ rest)
line_then name value rest = append_assoc (name ++ value) (10 ∷ []) rest ∙ append_assoc name value (10 ∷ rest)

module _ (order count keys free sum : List ℕ) where
  abbrev fifth : List ℕ
  fifth = line_text (codes "total " ++ sum)

  abbrev fourth : List ℕ
  fourth = line_text (codes "free " ++ free) ++ fifth

  abbrev third : List ℕ
  third = line_text (codes "keys " ++ keys) ++ fourth

  abbrev second : List ℕ
  second = line_text (codes "count " ++ count) ++ third

  lines_are : line_text (codes "order " ++ order) ++ second ≡ pieces_text order count keys free sum
  lines_are =
      line_then (codes "order ") order second ∙ ap (λ rest. codes "order " ++ (order ++ 10 ∷ rest))
      (line_then (codes "count ") count third ∙ ap (λ rest. codes "count " ++ (count ++ 10 ∷ rest))
      (line_then (codes "keys ") keys fourth ∙ ap (λ rest. codes "keys " ++ (keys ++ 10 ∷ rest))
      (line_then (codes "free ") free fifth)))

pub sizes_are : (n : ℕ) (s : Pairs) (k count keys free sum : ℕ) → count ≡ k → keys ≡ map.len s → free ≡ room_for n - keys → sum ≡ total (map.entries s) → pieces_text (decimal n) (decimal count) (decimal keys) (decimal free) (decimal sum) ≡ sizes_text n s k
sizes_are n s k count keys free sum count_is keys_is free_is sum_is =
    let left : free ≡ room_for n - map.len s = free_is ∙ (λ i. room_for n - keys_is i) in
    sym (lines_are (decimal n) (decimal count) (decimal keys) (decimal free) (decimal sum))
    ∙ (λ i. line_text (codes "order " ++ decimal n) ++ (line_text (codes "count " ++ decimal (count_is i)) ++ (line_text (codes "keys " ++ decimal (keys_is i)) ++ (line_text (codes "free " ++ decimal (left i)) ++ line_text (codes "total " ++ decimal (sum_is i))))))

-- the gauges, printed one after another
abbrev pub gauges_text : (keys free percent sum : ℕ) → List ℕ
gauges_text keys free percent sum = gauge_text (codes "keys") keys ++ (gauge_text (codes "free_keys") free ++ (gauge_text (codes "free_percent") percent ++ gauge_text (codes "total") sum))

pub measures_are : (n : ℕ) (s : Pairs) (k keys free percent sum : ℕ) → keys ≡ map.len s → free ≡ room_for n - keys → percent ≡ free * 100 / room_for n → sum ≡ total (map.entries s) → gauges_text keys free percent sum ≡ measures_text n s k
measures_are n s k keys free percent sum keys_is free_is percent_is sum_is =
    let left : free ≡ room_for n - map.len s = free_is ∙ (λ i. room_for n - keys_is i) in
    let part : percent ≡ (room_for n - map.len s) * 100 / room_for n = percent_is ∙ (λ i. left i * 100 / room_for n) in
    λ i. gauge_text (codes "keys") (keys_is i) ++ (gauge_text (codes "free_keys") (left i) ++ (gauge_text (codes "free_percent") (part i) ++ gauge_text (codes "total") (sum_is i)))
