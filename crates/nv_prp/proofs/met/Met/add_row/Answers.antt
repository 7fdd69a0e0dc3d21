use Rattle.std.proofs.Common.{ℕ, ◌+◌, ◌-◌, ◌≤◌, ◌++◌, List, length, Some, sym, ap, subst, ◌∙◌}
use Rattle.std.specs.List.{filter, range_with_len}
use Rattle.nv_prp.specs.Built.{starts_page}
use Rattle.nv_prp.specs.Met.{Met, met_later}
use Rattle.nv_prp.proofs.Entries.{met_more-first, met_more-later, met_of}
use Rattle.nv_prp.proofs.met.Met.add_row.Goals as goal

pub add_later-requires-clause-room : goal.add_later-requires-clause-room
add_later-requires-clause-room c =
    let later = met_more-later c.args.self.now _ (range_with_len c.args.from c.args.len) (sym (ap (λ (m : Met). m.first) c.self.view_is) ∙ c.in-Some.is) in
    subst (λ (m : Met). length m.entries ≤ 32) later c.requires.room

pub add_later-requires-in-None-clause-room : goal.add_later-requires-in-None-clause-room
add_later-requires-in-None-clause-room c =
    let first = met_more-first c.args.self.now c.args.from c.args.len (sym (ap (λ (m : Met). m.first) c.self.view_is) ∙ c.in-None.is) c.requires.some in
    let room : length (c.args.self.now.entries ++ filter starts_page (range_with_len (c.args.from + 1) (c.args.len - 1))) ≤ 32 =
    subst (λ (m : Met). length m.entries ≤ 32) first c.requires.room in
    subst
    (λ (xs : List ℕ). length (xs ++ filter starts_page (range_with_len (c.args.from + 1) (c.args.len - 1))) ≤ 32)
    (sym (ap (λ (m : Met). m.entries) c.self.view_is)) room

pub returns-in-Some : goal.returns-in-Some
returns-in-Some c =
    c.add_later.ensures
    ∙ sym (met_more-later c.args.self.now _ (range_with_len c.args.from c.args.len) (sym (ap (λ (m : Met). m.first) c.self.view_is) ∙ c.in-Some.is))

pub returns-in-None : goal.returns-in-None
returns-in-None c =
    c.add_later-in-None.ensures
    ∙ ap (λ (m : Met). met_later (met_of (Some c.args.from) m.entries) (range_with_len (c.args.from + 1) (c.args.len - 1))) c.self.view_is
    ∙ sym (met_more-first c.args.self.now c.args.from c.args.len (sym (ap (λ (m : Met). m.first) c.self.view_is) ∙ c.in-None.is) c.requires.some)
