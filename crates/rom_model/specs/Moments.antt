-- The moments at which the entries of a history were committed.
use Rattle.std.specs.Prelude.{ℕ, ◌-◌, List, [], ◌∷◌, ◌++◌, replicate}
use Rattle.rom_model.specs.declared.record.PassRecord.{PassRecord}

-- For each entry that these passes added to the history, which had this length, the moment at which its pass was committed.
abbrev pub moments_of : ℕ → List PassRecord → List ℕ
moments_of len [] = []
moments_of len (r ∷ rs) = replicate (r.len - len) r.committed ++ moments_of r.len rs
