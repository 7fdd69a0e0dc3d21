use Rattle.nv_admin.proofs.Written.{IsWrittenTo-end, IsWrittenTo-first, IsWrittenTo-last, IsWrittenTo-next}
use Rattle.nv_admin.proofs.data_structure.write_fields.Goals as goal

pub loop-field-init : goal.loop-field-init
loop-field-init c = IsWrittenTo-first c.args.fields.now c.args.bytes.now c.requires.zeros c.requires.fields

pub write-requires-clause-field : goal.write-requires-clause-field
write-requires-clause-field c =
    (IsWrittenTo-last c.args.fields.now c.loop-field.bytes c.loop-field.left.now c.in-Some.before.now c.in-Some.field.now c.loop-field.invariant
    c.in-Some.ensures.cases.0).0

pub loop-field-preserved : goal.loop-field-preserved
loop-field-preserved c =
    IsWrittenTo-next c.args.fields.now c.loop-field.bytes c.write.new.bytes c.loop-field.left.now c.in-Some.before.now c.in-Some.field.now
    c.loop-field.invariant c.in-Some.ensures.cases.0 c.write.ensures c.write.auto.bytes

pub returns : goal.returns
returns c = IsWrittenTo-end c.args.fields.now c.loop-field.bytes c.loop-field.left.now c.in_default.ensures.cases c.loop-field.invariant
