use Rattle.rom_blob_region.proofs.inspect.follow.+is_marked_in.Given as goal

abbrev pub decreases-is_marked_in : goal.decreases-is_marked_in
decreases-is_marked_in l = l.want
