use Rattle.std.proofs.Common.{◌≡◌, inl, refl, rules, Bool, true, false, is_err, Result, Ok, Err, OnOk}
use Rattle.rom_device.specs.Device.{WritesWord}
use Rattle.rom_device.specs.Doubt.{untold}
use Rattle.rom_device.specs.declared.call.LoggedCall.TheVariants.{Write}
use Rattle.rom_device.proofs.Older.{after_write, fewer_on, goes, lands_well, renewed_by, runs_on, went_well}
use Rattle.rom_device.specs.Resumed.{older_of, log_of}
use Rattle.rom_device.specs.Memory.{start_of, calls_of, room_of, trips_of, keeps_new, trip_of}
use Rattle.rom_device.proofs.resumed.ResumedDevice.write.Goals as goal

pub returns-clause-does : goal.returns-clause-does
returns-clause-does c =
    let old = c.args.self.now in
    let next = goes (Write c.args.at c.args.value true) old.memory c.write.new.self c.write.result c.write.ensures.lists in
    let lands : Bool = keeps_new (room_of old.memory) (trips_of old.memory) (trip_of (room_of old.memory) (trips_of old.memory) (calls_of old.memory) (Write c.args.at c.args.value true)) in
    record {
      size = search rules;
      words = c.write.ensures.does.words;
      images = λ never. untold never;
      doubts = λ told. let runs = runs_on (older_of old) old.memory c.write.new.self c.write.ensures.lists.rest.start (WritesWord c.args.at c.args.value) (λ x. inl refl) (Write c.args.at c.args.value lands) (λ i. after_write (older_of old) (start_of old.memory) (log_of old) c.args.at c.args.value lands i) next in record { later = runs.later; now = runs.now; nothing_else = runs.nothing_else; keeps = runs.keeps };
      fewer = fewer_on (older_of old) old.memory c.write.new.self c.write.ensures.lists.rest.start (Write c.args.at c.args.value lands) next;
    }

on_ok : {T E P : Type 0} (result : Result T E) → (is_err result ≡ false → P) → OnOk result P
on_ok (Ok done) holds = holds refl
on_ok (Err failed) holds = tt

pub returns-clause-renews : goal.returns-clause-renews
returns-clause-renews c =
    let old = c.args.self.now in
    let trip = trip_of (room_of old.memory) (trips_of old.memory) (calls_of old.memory) (Write c.args.at c.args.value true) in
    on_ok c.write.result (λ well.
    let listed = went_well (Write c.args.at c.args.value true) old.memory c.write.new.self c.write.result well c.write.ensures.lists in
    renewed_by (older_of old) old.memory c.write.new.self c.write.ensures.lists.rest.start c.args.at c.args.value (keeps_new (room_of old.memory) (trips_of old.memory) trip) (lands_well (room_of old.memory) (trips_of old.memory) trip listed.1) listed.0)
