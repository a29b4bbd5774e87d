-- What a monitor reads, in the text format of Prometheus.
use Rattle.std.specs.Prelude.{ℕ, List, [], ◌∷◌, ◌++◌, codes, decimal}
use Rattle.std.specs.List.{flat_map}

-- the type of a gauge of this name, and its value
abbrev pub gauge_text : List ℕ → ℕ → List ℕ
gauge_text name value = flat_map (λ piece. piece) (codes "# TYPE romulus_" ∷ name ∷ (codes " gauge" ++ 10 ∷ codes "romulus_") ∷ name ∷ codes " " ∷ decimal value ∷ (10 ∷ []) ∷ [])
