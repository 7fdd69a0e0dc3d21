use Rattle.std.proofs.Common.{◌≡◌, ◌-◌, ◌%◌, arith}
use Rattle.nv_mem.specs.GuestMap.{mapped}
use Rattle.nv_admin.proofs.Exits.{exit}
use Rattle.nv_admin.proofs.PageBuffers.{everywhere-none, page-faulty_first, page-faulty_second, page-spells_one, page-spells_two}
use Rattle.nv_admin.proofs.page_buffer.PageBuffer.of.Goals as goal

pub returns-in_err-check_entry-clause-reading : goal.returns-in_err-check_entry-clause-reading
returns-in_err-check_entry-clause-reading c =
    rw (← c.prp1-prp1.ensures, ← c.prp2-prp2.ensures, exit c.from_residual.result c.in_err-check_entry.field-0.0 c.from_residual.ensures.1)
    (page-faulty_first (λ _. 0) (mapped c.args.map.now.regions) c.prp1-prp1.result c.prp2-prp2.result c.in_err-check_entry.field-0.0
    c.in_err-check_entry.ensures.fault)

pub returns-in_err-check_entry-2-clause-reading : goal.returns-in_err-check_entry-2-clause-reading
returns-in_err-check_entry-2-clause-reading c =
    rw (
      ← c.prp1-prp1.ensures,
      ← c.prp2-prp2.ensures,
      exit c.from_residual-in_err-check_entry-2.result c.in_err-check_entry-2.field-0.0 c.from_residual-in_err-check_entry-2.ensures.1,
    )
    (page-faulty_second (λ _. 0) (mapped c.args.map.now.regions) c.prp1-prp1.result c.prp2-prp2.result c.in_err-check_entry-2.field-0.0
    c.in_ok-check_entry.ensures.fault c.if-offset-gt0.true c.in_err-check_entry-2.ensures.fault)

pub returns-in_ok-check_entry-2-clause-reading : goal.returns-in_ok-check_entry-2-clause-reading
returns-in_ok-check_entry-2-clause-reading c =
    rw (← c.prp1-prp1.ensures, ← c.prp2-prp2.ensures)
    (page-spells_two (λ _. 0) (mapped c.args.map.now.regions) c.prp1-prp1.result c.prp2-prp2.result
    c.in_ok-check_entry.ensures.fault c.if-offset-gt0.true
    c.in_ok-check_entry-2.ensures.fault)

pub returns-else-offset-gt0-clause-reading : goal.returns-else-offset-gt0-clause-reading
returns-else-offset-gt0-clause-reading c =
    rw (← c.prp1-prp1.ensures, ← c.prp2-prp2.ensures)
    (page-spells_one (λ _. 0) (mapped c.args.map.now.regions) c.prp1-prp1.result c.prp2-prp2.result
    c.in_ok-check_entry.ensures.fault (omega arith))

pub returns-else-offset-gt0-clause-in_map : goal.returns-else-offset-gt0-clause-in_map
returns-else-offset-gt0-clause-in_map c = record {
  within = omega arith;
  first = c.in_ok-check_entry.ensures.in_map;
  second =
      let none : 4096 - (4096 - c.prp1-prp1.result % 4096) ≡ 0 = omega arith in
      everywhere-none (mapped c.args.map.now.regions) c.prp2-prp2.result (4096 - (4096 - c.prp1-prp1.result % 4096)) none;
}
