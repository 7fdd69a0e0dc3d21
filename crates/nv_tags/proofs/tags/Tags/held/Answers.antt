use Rattle.std.proofs.Common.{List, length, slice_index, ℕ, arith, ap, ◌∙◌}
use Rattle.nv_tags.specs.Numbers.{ByGuest}
use Rattle.nv_tags.specs.Tags.{is_of}
use Rattle.nv_tags.proofs.Masks.{ones-tags_in}
use Rattle.nv_tags.proofs.Owners.{of-guest, numbered-seen}
use Rattle.nv_tags.proofs.tags.Tags.held.Goals as goal

pub returns : goal.returns
returns c =
    ones-tags_in (slice_index c.self.inside.owned c.from.result) (omega arith)
    ∙ ap (λ (xs : List ℕ). length xs)
    (numbered-seen ByGuest c.self.inside.states c.self.inside.claims c.self.inside.leaders c.self.inside.groups c.self.invariant.0 c.self.inside.owned c.self.inside.owned
    c.self.invariant.2 c.args.self.now (is_of c.args.guest) c.args.guest c.from.result c.self.view_is c.from.ensures c.requires (of-guest c.args.guest))
