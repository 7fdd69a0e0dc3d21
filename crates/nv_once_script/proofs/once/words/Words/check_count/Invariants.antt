use Rattle.std.proofs.Common.{◌≡◌, ◌≤◌, length, drop}
use Rattle.nv_once_script.proofs.once.words.Words.check_count.Given as goal

-- the words that are left, of those that there were
abbrev pub invariant-loop-found : goal.invariant-loop-found
invariant-loop-found l = (l._found ≤ length l.self) × (drop l._found l.self ≡ l.words)
