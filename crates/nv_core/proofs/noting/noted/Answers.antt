use Rattle.std.proofs.Common.{arith}
use Rattle.nv_core.proofs.Notes.{noted-is, noted-past}
use Rattle.nv_core.proofs.noting.noted.Goals as goal

pub returns-then-guest-ge-MOST_GUESTS : goal.returns-then-guest-ge-MOST_GUESTS
returns-then-guest-ge-MOST_GUESTS c = noted-past c.args.notes c.args.guest c.if-guest-ge-MOST_GUESTS.true

pub returns : goal.returns
returns c = noted-is c.args.notes c.args.guest (let below = c.if-guest-ge-MOST_GUESTS.false in omega (arith, below))
