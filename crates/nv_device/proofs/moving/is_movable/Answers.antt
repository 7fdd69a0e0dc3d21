use Rattle.std.proofs.Common.{◌≡◌, ℕ, true, false, List, length, refl, sym, ap, subst, ◌∙◌}
use Rattle.std.specs.List.{list_all}
use Rattle.nv_device.specs.Moving.{IsRangeOnDisk}
use Rattle.nv_device.specs.Pages.{piece_in}
use Rattle.nv_device.proofs.SpellLemmas.{below-pieces, pieces-below}
use Rattle.nv_device.proofs.UnitLemmas.{range-there}
use Rattle.nv_device.proofs.moving.is_movable.Goals as goal

pub returns-then-not-pieces_lie_in : goal.returns-then-not-pieces_lie_in
returns-then-not-pieces_lie_in c =
    let all : c.pieces_lie_in.result ≡ list_all (piece_in (length c.args.host.now)) c.args.command.now.pieces =
    c.pieces_lie_in.ensures ∙ ap (list_all (piece_in (length c.args.host.now))) (c.pieces.ensures ∙ c.places.ensures) in (
      λ is. absurd (let e : false ≡ true = is in cc),
      λ movable. sym c.if-not-pieces_lie_in.true ∙ all ∙ below-pieces (length c.args.host.now) c.args.command.now.pieces movable.bytes,
    )

pub range_of-requires-clause-bytes : goal.range_of-requires-clause-bytes
range_of-requires-clause-bytes c =
    pieces-below (length c.args.host.now) c.args.command.now.pieces
    (sym (c.pieces_lie_in.ensures ∙ ap (list_all (piece_in (length c.args.host.now))) (c.pieces.ensures ∙ c.places.ensures)) ∙ c.if-not-pieces_lie_in.false)

pub range_of-requires-clause-number : goal.range_of-requires-clause-number
range_of-requires-clause-number c =
    (range-there c.args.blocks c.args.number c.args.command.now (c.deallocates_ranges.ensures.0 c.if-not-deallocates_ranges.false).0 c.requires.left c.requires.held).1

pub range_of-requires-clause-enough : goal.range_of-requires-clause-enough
range_of-requires-clause-enough c =
    (range-there c.args.blocks c.args.number c.args.command.now (c.deallocates_ranges.ensures.0 c.if-not-deallocates_ranges.false).0 c.requires.left c.requires.held).0

pub returns-then-not-deallocates_ranges : goal.returns-then-not-deallocates_ranges
returns-then-not-deallocates_ranges c = (
  λ is. record {
    bytes = pieces-below (length c.args.host.now) c.args.command.now.pieces
        (sym (c.pieces_lie_in.ensures ∙ ap (list_all (piece_in (length c.args.host.now))) (c.pieces.ensures ∙ c.places.ensures)) ∙ c.if-not-pieces_lie_in.false);
    range = λ opcode deallocate. (let e : false ≡ true = sym c.if-not-deallocates_ranges.true ∙ c.deallocates_ranges.ensures.1 (opcode, deallocate) in absurd (cc));
  },
  λ movable. refl,
)

pub returns : goal.returns
returns c =
    let R : List ℕ → Type 0 = λ range. IsRangeOnDisk c.args.blocks range in
    let told = c.deallocates_ranges.ensures.0 c.if-not-deallocates_ranges.false in (
      λ is. record {
        bytes = pieces-below (length c.args.host.now) c.args.command.now.pieces
            (sym (c.pieces_lie_in.ensures ∙ ap (list_all (piece_in (length c.args.host.now))) (c.pieces.ensures ∙ c.places.ensures)) ∙ c.if-not-pieces_lie_in.false);
        range = λ opcode deallocate. subst R c.range_of.ensures (c.is_range_on_disk.ensures.0 is);
      },
      λ movable. c.is_range_on_disk.ensures.1 (subst R (sym c.range_of.ensures) (movable.range told.0 told.1)),
    )
