use Rattle.std.proofs.Common.{◌≤◌, List, All, length, sym, ap, subst, ◌∙◌, arith}
use Rattle.nv_entry.specs.Submission.{slba_of}
use Rattle.nv_model.specs.Judge.{count_of}
use Rattle.nv_ns.specs.Extents.{Cut, cuts}
use Rattle.nv_plan.specs.Told.{IsAddressed}
use Rattle.nv_plan.proofs.CutPlaces.{all-addressed, few-cuts, one-cut, small-cuts}
use Rattle.nv_plan.proofs.given.GrantRef.parted.Goals as goal
use Rattle.nv_plan.proofs.given.GrantRef.parted.Goals.{then-len-gt1+else-len-gt1-2, else-len-gt1}

pub cut_up-requires-clause-small : goal.cut_up-requires-clause-small
cut_up-requires-clause-small c =
    small-cuts c.args.self.now.ns.now (slba_of c.args.sqe.now) (count_of c.args.sqe.now) c.as_slice.result.now
    (c.as_slice.ensures.items ∙ c.parts_of-parts.ensures.value) c.parts_of-parts.ensures.short

pub cut_up-requires-clause-addressed : goal.cut_up-requires-clause-addressed
cut_up-requires-clause-addressed c =
    subst (All IsAddressed) (sym c.pieces.ensures)
    (all-addressed c.args.self.now.map.now c.args.places c.host_len-known.ensures.sound c.requires.mapped)

pub returns : goal.returns
returns c =
    let few : length (cuts c.args.self.now.ns.now (slba_of c.args.sqe.now) (count_of c.args.sqe.now)) ≤ 1 = elim c.if-len-gt1.branch [
      | then-len-gt1+else-len-gt1-2 w ↦
          (let many = w.len-then-len-gt1.ensures.value in
          let are = ap (λ (parts : List Cut). length parts) w.parts_of-parts.ensures.value in
          let most = w.if-len-gt1-2.false in omega arith)
      | else-len-gt1 w ↦
          (let many = c.len.ensures.value in
          let no_more = few-cuts c.args.self.now.ns.now (slba_of c.args.sqe.now) (count_of c.args.sqe.now) in
          let most = w.if-len-gt1.false in omega arith)
    ] in
    c.one.ensures
    ∙ sym (one-cut c.args.self.now.ns.now (slba_of c.args.sqe.now) (count_of c.args.sqe.now) c.args.places c.requires.inside (omega arith) few
    c.requires.len c.requires.some)
