-- What a contract sees of an adapted stream.
use Rattle.std.specs.Prelude.{◌≡◌, Bool, false, is_none, None}
use Rattle.rom_text.specs.declared.adapt.Adapted.{Adapted}
use Rattle.rom_text.specs.Streams.{ShownSink, ShownSource}

module _ {R : Type 0} where
  -- whether there is no reader or writer in it
  abbrev pub is_missing : Adapted R → Bool
  is_missing a = is_none a.inner

  -- an adapted reader as a source: nothing is told of the bytes that are left
  abbrev pub shown_source : ShownSource (Adapted R)
  shown_source = record { left = λ a. None; faults = λ a. a.faults; idle = λ a. a.idle; ended = λ a. a.ended }

  -- an adapted writer as a sink: nothing is told of the bytes that were taken
  abbrev pub shown_sink : ShownSink (Adapted R)
  shown_sink = record { taken = λ a. None; faults = λ a. a.faults; failing = λ a. a.failing; Rest = Unit {0}; rest = λ a. tt }

  -- no call was counted yet
  pub record HasMadeNoCalls (a : Adapted R) : Type 0 where
    pub faults : shown_source.faults a ≡ 0
    pub idle : shown_source.idle a ≡ 0
    pub ended : shown_source.ended a ≡ false
    pub failing : shown_sink.failing a ≡ false
