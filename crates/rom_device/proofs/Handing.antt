-- Values that are handed over, under other names.
use Rattle.std.proofs.Common.{◌≡◌, ℕ, ◌<◌, Bool, List, subst}
use Rattle.std.specs.Bool.{OnTrue}
use Rattle.rom_device.specs.Device.{ShownDevice, After, Does, WritesMany}
use Rattle.rom_device.specs.Laid.{firsts, laid}
use Rattle.rom_device.specs.Medium.{HandsOver}
use Rattle.rom_device.proofs.Laid.{firsts-same, laid-same}

hands_by : {M : Type 0} (shown : ShownDevice M) (at : ℕ) (f g : ℕ → ℕ) (n : ℕ) (old new : M) (done : Bool) → ((k : ℕ) → k < n → f k ≡ g k) → HandsOver shown at f n old new done → HandsOver shown at g n old new done
hands_by shown at f g n old new done same hands =
    let values : firsts f n ≡ firsts g n = firsts-same f g n same in
    let over : laid at f n (shown.words old) ≡ laid at g n (shown.words old) = laid-same at f g n (shown.words old) same in
    record {
      does = subst (λ (vs : List ℕ). Does shown (WritesMany at vs) old new) values hands.does;
      written = λ told. subst (λ (l : List ℕ). OnTrue done (shown.words new ≡ l)) over (hands.written told);
      renewed = hands.renewed;
      keeps = hands.keeps;
      each = λ told. subst (λ (vs : List ℕ). OnTrue done ((i : List ℕ) → After (WritesMany at vs) (shown.leaves old) i → shown.leaves new i)) values (hands.each told);
    }

pub hands_same : {M : Type 0} (shown : ShownDevice M) (at : ℕ) (f g : ℕ → ℕ) (m n : ℕ) (old new : M) (done : Bool) → m ≡ n → ((k : ℕ) → k < n → f k ≡ g k) → HandsOver shown at f m old new done → HandsOver shown at g n old new done
hands_same shown at f g m n old new done many same hands = hands_by shown at f g n old new done same (subst (λ (c : ℕ). HandsOver shown at f c old new done) many hands)
