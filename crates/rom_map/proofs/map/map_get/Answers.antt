use Rattle.std.proofs.Common.{rules, ◌≡◌, ℕ, Option, sym, ◌∙◌, ap}
use Rattle.std.specs.Prelude.{None, Some, IsSomeAnd, MatchOption}
use Rattle.rom_map.specs.declared.entry.Entry.{Entry}
use Rattle.rom_map.proofs.map.map_get.Goals as goal

-- the value of an entry that was found
value_of : (held value : Option ℕ) (Node : Entry → Type 0) (Post : Entry → ℕ → Type 0) (entry : Option Entry)
    → ((e : Entry) (v : ℕ) → Post e v → v ≡ e.value)
    → MatchOption entry (held ≡ None) (λ entry. (held ≡ Some entry.value) × Node entry)
    → MatchOption entry (value ≡ None) (λ entry. IsSomeAnd value (Post entry)) → value ≡ held
value_of held value Node Post None reads is told = told ∙ sym is
value_of held None Node Post (Some entry) reads is told = absurd told
value_of held (Some v) Node Post (Some entry) reads is told = ap Some (reads entry v told) ∙ sym is.0

pub returns-clause-is : goal.returns-clause-is
returns-clause-is g c s k held = value_of _ c.map.result _ _ c.find_entry.result (λ e v p. search rules) (c.find_entry.ensures.is held.0 s k held.1) c.map.ensures.cases
