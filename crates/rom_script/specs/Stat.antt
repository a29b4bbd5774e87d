-- The five lines of a heap.
use Rattle.std.specs.Prelude.{◌⊎◌, ℕ, ◌-◌, List, ◌++◌, codes, decimal}
use Rattle.rom_model.specs.State.{State, cap, live, tell}
use Rattle.rom_model.specs.declared.call.Answer.{Answer}
use Rattle.rom_model.specs.declared.call.Query.TheVariants.{Len, Total}
use Rattle.rom_text.specs.Runs.{IsCutShort, IsWhollyWritten}
use Rattle.rom_text.specs.Streams.{ShownSink}
use Rattle.rom_text.specs.Text.{line_text}
use Rattle.rom_script.specs.Trio.{answer_text}

-- five lines: of the order, the count of updates, the sizes, the elements that there is room for, and the total
abbrev pub stat_lines : ℕ → ℕ → Answer → ℕ → Answer → List ℕ
stat_lines order count sizes free total =
    line_text (codes "order " ++ decimal order) ++ line_text (codes "count " ++ decimal count) ++ line_text (answer_text sizes) ++ line_text (codes "free " ++ decimal free) ++ line_text (answer_text total)

-- those of a heap of this order with this state and this count
abbrev pub stat_text : ℕ → State → ℕ → List ℕ
stat_text order state count = stat_lines order count (tell state Len) (cap order - live state) (tell state Total)

-- the text is written, or some of it from its front where the sink failed
abbrev pub IsWrittenOrCutShort : {O : Type 0} → ShownSink O → O → O → List ℕ → Type 0
IsWrittenOrCutShort sink old new text = IsWhollyWritten sink old new text ⊎ IsCutShort sink old new text
