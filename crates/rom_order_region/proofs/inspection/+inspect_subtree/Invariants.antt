use Rattle.rom_order_region.proofs.inspection.+inspect_subtree.Given as goal

-- the levels that are left
abbrev pub decreases-inspect_subtree : goal.decreases-inspect_subtree
decreases-inspect_subtree l = l.levels
