-- Which calls fail, by the trips and the calls made before.
use Rattle.std.specs.Prelude.{ℕ, ◌+◌, Bool, true, false, ◌&&◌, ◌==◌, nat_le, nat_lt, count_by, find, List, Option}
use Rattle.rom_device.specs.declared.call.CallKind.{CallKind}
use Rattle.rom_device.specs.declared.call.CallKind.TheVariants.{Read, Write, Sync}
use Rattle.rom_device.specs.declared.call.LoggedCall.{LoggedCall}
use Rattle.rom_device.specs.declared.trip.Trip.{Trip}
use Rattle.rom_device.specs.Log.{call_kind, place_of}

-- calls of one kind, of which reads and writes are also within some words
abbrev pub same_calls : CallKind → CallKind → Bool → Bool
same_calls Read Read within = within
same_calls Write Write within = within
same_calls Sync Sync within = true
same_calls _ _ within = false

-- whether a trip counts such a call
abbrev pub covers : Trip → CallKind → ℕ → Bool
covers trip call at = same_calls trip.call call (nat_le trip.from at && nat_lt at trip.to)

-- how many of these calls a trip counts
abbrev pub calls_counted : Trip → List LoggedCall → ℕ
calls_counted trip calls = count_by (λ made. covers trip (call_kind made) (place_of made)) calls

-- whether such a call is the one that fails by a trip, where these were made before it
abbrev pub fires : Trip → List LoggedCall → CallKind → ℕ → Bool
fires trip calls call at = covers trip call at && (calls_counted trip calls + 1 == trip.nth)

-- the first trip by which such a call fails
abbrev pub trip_at : List Trip → List LoggedCall → CallKind → ℕ → Option Trip
trip_at trips calls call at = find (λ trip. fires trip calls call at) trips
