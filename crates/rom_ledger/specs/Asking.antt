-- What the words of a line ask for.
use Rattle.std.specs.Prelude.{ℕ, List, [], ◌∷◌, codes}
use Rattle.rom_ledger.specs.declared.call.Conditional.{Conditional}
use Rattle.rom_ledger.specs.declared.call.Conditional.TheVariants.{Inc, New, Cas, DeqIf}

-- the first word of a conditional update's line, and the numbers behind it
abbrev pub conditional_phrase : Conditional → List ℕ × List ℕ
conditional_phrase (Inc k d) = (codes "inc", k ∷ d ∷ [])
conditional_phrase (New k v) = (codes "new", k ∷ v ∷ [])
conditional_phrase (Cas k u v) = (codes "cas", k ∷ u ∷ v ∷ [])
conditional_phrase (DeqIf v) = (codes "deq-if", v ∷ [])
