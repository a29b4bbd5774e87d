use Rattle.std.proofs.Common.{None, inl, inr, refl, sym}
use Rattle.rom_ship.proofs.Streamed.{some_failed, stories_streamed}
use Rattle.rom_ship.proofs.streaming.talk_streaming.Goals as goal

pub returns-in_default : goal.returns-in_default
returns-in_default g c =
    let ended = c.end_unmet.ensures in
    rw (ended.ended, ended.stream) record {
      promise = record {
        met = c.head_of.new.device;
        named = c.head_of.ensures.does;
        head = None;
        begun = c.stream_behind-stream.result;
        led = c.stream_behind-stream.ensures.led;
        ends = inl (c.in_default.ensures.cause.failed, record { status_is = refl; told = ended.told; rest = ended.rest; device = refl; peers = refl; none = refl; stream = refl });
        streamed = tt;
      };
    }

pub returns-then-has_failed : goal.returns-then-has_failed
returns-then-has_failed g c =
    let ended = c.end_unmet-then-has_failed.ensures in
    let read = c.in-Ok.ensures in
    rw (ended.ended, ended.stream) record {
      promise = record {
        met = c.head_of.new.device;
        named = c.head_of.ensures.does;
        head = c.in-Ok.head;
        begun = c.stream_behind-stream-2.result;
        led = c.stream_behind-stream-2.ensures.led;
        ends = inr (
          record { is = read.head; unfailed = read.cause.none; certain = read.certain },
          inl (some_failed c.in-Ok.head _ c.stream_behind-stream-2.ensures.on (sym c.if-has_failed.ensures.failed), sym c.if-has_failed.ensures.failed, record { status_is = refl; told = ended.told; rest = ended.rest; device = refl; peers = refl; none = refl; stream = refl }),
        );
        streamed = tt;
      };
    }

pub returns : goal.returns
returns g c =
    let o = g.O.Object in
    let read = c.in-Ok.ensures in
    let led = c.stream_behind-stream-2.ensures.led in
    let promise = c.talk_shipping.ensures.promise in
    let result = c.talk_shipping.result in
    record {
      promise = record {
        met = c.head_of.new.device;
        named = c.head_of.ensures.does;
        head = c.in-Ok.head;
        begun = c.stream_behind-stream-2.result;
        led = led;
        ends = inr (record { is = read.head; unfailed = read.cause.none; certain = read.certain }, inr (sym c.if-has_failed.ensures.failed, promise));
        streamed = stories_streamed o.machine o.Contents g.D.Device.shown g.W.Sink.shown c.head_of.new.device result.0.device c.args.sink c.stream_behind-stream-2.result result.1 c.in-Ok.head
            led read.first _ result.0.session promise.talk.story promise.shipped;
      };
    }
