use Rattle.nv_zeroed.proofs.zeroed.Zeroed.+copy.Given as goal

abbrev pub decreases-copy : goal.decreases-copy
decreases-copy l = l.len
