use Rattle.std.proofs.Common.{◌≡◌, ◌∷◌, ◌++◌, [], true, arith, length, ap, rules}
use Rattle.rom_device.specs.declared.call.LoggedCall.TheVariants.{Sync}
use Rattle.rom_device.specs.Doubt.{untold}
use Rattle.rom_device.proofs.Synced.{newest, sync_now, sync_since, sync_keeps}
use Rattle.rom_device.proofs.memory.MemoryDevice.sync.Goals as goal

pub returns-clause-does : goal.returns-clause-does
returns-clause-does c =
    let listed : c.list.new.made.items ≡ c.args.self.now.made.items ++ Sync true ∷ [] = search rules in
    let is = newest c.args.self.now.made.items c.list.new.made.items (Sync true) listed in
    record {
      size = search rules;
      words = search rules;
      images = λ told. record {
        later = omega (arith, ap length is);
        now = λ i may. sync_now _ _ _ i is may;
        nothing_else = λ t i since. sync_since _ _ _ t i is since;
        keeps = λ t i le since. sync_keeps _ _ _ t i is le since;
      };
      doubts = λ never. untold never;
      fewer = λ b is. is;
    }
