use Rattle.std.proofs.Common.{refl}
use Rattle.nv_fine.proofs.Owns.{commands-owned, completions-owned, entries-owned}
use Rattle.nv_fine.proofs.laws.what_is_in_the_drive_is_the_mediators.Goals as goal

pub returns-clause-start : goal.returns-clause-start
returns-clause-start c = λ s disk kept. record { lanes = refl; clear = λ lane at there within. refl }

pub returns-clause-commands : goal.returns-clause-commands
returns-clause-commands c = λ s o zeroes accesses f lane id k accepted sound fresh is there. commands-owned s o accepted sound fresh zeroes accesses f is lane id k there

pub returns-clause-entries : goal.returns-clause-entries
returns-clause-entries c = λ s o zeroes accesses f lane slot tail d accepted sound fresh is there at between.
    entries-owned s o accepted sound fresh zeroes accesses f is lane slot tail d there at between

pub returns-clause-completions : goal.returns-clause-completions
returns-clause-completions c = λ s o zeroes accesses f lane slot l d accepted sound fresh is found there between.
    completions-owned s o accepted sound fresh zeroes accesses f is lane slot l d found there between
