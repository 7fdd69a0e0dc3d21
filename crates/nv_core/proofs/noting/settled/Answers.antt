use Rattle.std.proofs.Common.{arith}
use Rattle.nv_core.proofs.Notes.{settled-is, settled-past}
use Rattle.nv_core.proofs.noting.settled.Goals as goal

pub returns-then-guest-ge-MOST_GUESTS : goal.returns-then-guest-ge-MOST_GUESTS
returns-then-guest-ge-MOST_GUESTS c = settled-past c.args.notes c.args.guest c.if-guest-ge-MOST_GUESTS.true

pub returns : goal.returns
returns c = settled-is c.args.notes c.args.guest (let below = c.if-guest-ge-MOST_GUESTS.false in omega (arith, below))
