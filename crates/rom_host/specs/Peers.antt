-- What a contract sees of a peer at real files.
use Rattle.std.specs.Prelude.{◌≡◌, ℕ, ◌/◌, nat_lt, false, List, length, Option, None, if◌then◌else◌}
use Rattle.rom_hear.specs.Peers.{ShownPeer}
use Rattle.rom_host.specs.declared.peer.HostPeer.{HostPeer}
use Rattle.rom_host.specs.declared.peer.Pair.{Pair}

-- Of the bytes that pass nothing is told. The names of its files stay.
abbrev pub shown_host : {K : Type 0} → ShownPeer K HostPeer
shown_host = record { log = λ p. None; idle = λ p. p.idle; ended = λ p. p.ended; unheard = λ p. p.unheard; unsaid = λ p. p.unsaid; failing = λ p. p.failing; Rest = Option Pair; rest = λ p. p.pair }

-- no call was counted yet
pub record IsUntried (p : HostPeer) : Type 0 where
  pub idle : p.idle ≡ 0
  pub ended : p.ended ≡ false
  pub unheard : p.unheard ≡ 0
  pub unsaid : p.unsaid ≡ 0
  pub failing : p.failing ≡ false

-- How many peers the names make: one at the standard streams where there is no pair, else one at each.
abbrev pub peers_named : List (List ℕ) → ℕ
peers_named names = if nat_lt (length names) 2 then 1 else length names / 2
