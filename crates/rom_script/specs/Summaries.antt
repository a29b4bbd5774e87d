-- What a drill tells of its results, as a text.
use Rattle.rom_text.specs.Text.{ShownText}
use Rattle.rom_script.specs.Drill.{drill_lines}
use Rattle.rom_script.specs.declared.summary.Summary.{Summary}

-- how a summary is printed: as a drill's five lines
abbrev pub shown_summary : ShownText Summary
shown_summary = record { text = λ s. drill_lines s.start s.callers s.calls s.enqueued s.dequeued s.sizes s.total s.count; Fits = λ s. Unit {0} }
