-- The frames of updates, as a shipper hands them on.
use Rattle.std.specs.Prelude.{ℕ, Bool, true, List, None}
use Rattle.rom_text.specs.Streams.{ShownSink}
use Rattle.rom_frame.specs.Frames.{bytes_of, frame_words}
use Rattle.rom_combine.specs.Shipping.{Shipped, ShownShipper}
use Rattle.rom_ship.specs.declared.stream.FrameStream.{FrameStream}

-- the frame of an update that was done at a place, by the words of its call and of its reply
abbrev pub frame_text : ℕ → List ℕ → List ℕ → List ℕ
frame_text place args reply = bytes_of (frame_words place args reply)

-- what was handed on by a sink alone, and whether that has failed
abbrev pub sunk : {K : Type 0} → ShownSink K → K → Bool → Shipped
sunk shown sink failing = record { taken = shown.taken sink; faults = shown.faults sink; failing = failing }

-- a stream of frames hands on the frame of each update, and shows what its sink has taken
abbrev pub shown_stream : {K : Type 0} → ShownSink K → ShownShipper (FrameStream K)
shown_stream shown = record {
  tells = true;
  text = frame_text;
  state = λ s. sunk shown s.sink s.failing;
  last = λ s. None;
}
