-- What a contract sees of a client in memory.
use Rattle.std.specs.Prelude.{◌≡◌, ◌==◌, ℕ, Bool, false, List, [], length, drop, Some}
use Rattle.std.specs.List.{list_any}
use Rattle.rom_hear.specs.Events.{Event}
use Rattle.rom_hear.specs.Marks.{log_in}
use Rattle.rom_hear.specs.Peers.{ShownPeer}
use Rattle.rom_hear.specs.declared.memory.Client.{Client}

module _ {K : Type 0} where
  -- what the client tells
  abbrev pub client_log : Client K → List (Event K)
  client_log c = log_in c.passed

  -- the bytes that it has not given yet
  abbrev pub client_left : Client K → List ℕ
  client_left c = drop c.at c.text.items

  -- how many bytes pass at most at a time
  abbrev pub client_piece : Client K → ℕ
  client_piece c = c.piece

  -- how many bytes it takes in all
  abbrev pub client_room : Client K → ℕ
  client_room c = c.room

  -- how many of them it has taken
  abbrev pub client_taken : Client K → ℕ
  client_taken c = c.taken

  -- the numbers of the askings that fail, counted from 1
  abbrev pub client_trips : Client K → List ℕ
  client_trips c = c.trips.items

  -- how many askings were made
  abbrev pub askings_of : Client K → ℕ
  askings_of c = c.askings

  -- how many calls it stands
  abbrev pub client_calls : Client K → ℕ
  client_calls c = c.calls

  -- whether an asking of this number fails
  abbrev pub trips_at : Client K → ℕ → Bool
  trips_at c asking = list_any (λ trip. trip == asking) (client_trips c)

  -- it has stood as many calls as it does
  abbrev pub IsSpent : Client K → Type 0
  IsSpent c = length c.passed.marks.items ≡ client_calls c

  -- how it was made: its whole text, its piece, its trips, its room and its calls
  abbrev pub made_of : Client K → List ℕ × ℕ × List ℕ × ℕ × ℕ
  made_of c = (c.text.items, client_piece c, client_trips c, client_room c, client_calls c)

  -- as a peer, which tells its log
  abbrev pub shown_client : ShownPeer K (Client K)
  shown_client = record { log = λ c. Some (client_log c); idle = λ c. c.idle; ended = λ c. c.ended; unheard = λ c. c.unheard; unsaid = λ c. c.unsaid; failing = λ c. c.failing; Rest = List ℕ × ℕ × List ℕ × ℕ × ℕ; rest = made_of }

  -- nothing has passed yet, and nothing was asked for or said in vain
  pub record IsUnmet (c : Client K) : Type 0 where
    pub log : client_log c ≡ []
    pub askings : askings_of c ≡ 0
    pub taken : client_taken c ≡ 0
    pub idle : shown_client.idle c ≡ 0
    pub ended : shown_client.ended c ≡ false
    pub unheard : shown_client.unheard c ≡ 0
    pub unsaid : shown_client.unsaid c ≡ 0
    pub failing : shown_client.failing c ≡ false

  -- no call changes how it is made
  pub record IsSameClient (old new : Client K) : Type 0 where
    pub piece : client_piece new ≡ client_piece old
    pub room : client_room new ≡ client_room old
    pub trips : client_trips new ≡ client_trips old
    pub calls : client_calls new ≡ client_calls old
