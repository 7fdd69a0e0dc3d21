-- What a handle owns: nothing where it is null, and else the mediator at it, as a box does.
use base.Fml.{Fml, ftrue, ffalse}
use base.Stored.{Coded}
use denote.RawPtr.{Ptr, block_ptr, null_ptr}
use Rattle.std.specs.Prelude.{Option, None, Some}
use Rattle.std.specs.Box.Ownership.{box_owns}
use Rattle.std.specs.declared.alloc.Global.{Global}
use Rattle.std.specs.contracts.impls.GlobalAllocator.TheImpl.{ghosts}
use Rattle.core.specs.contracts.option.Option as option
use Rattle.nv_c.specs.contracts.held.Held.{the_row}

abbrev pub hosted_coded : Coded (Option the_row.Denot)
hosted_coded = (option.the_row the_row).coded

-- the heap's handle, which is one value
abbrev pub heap : Global
heap = record { memory = record { seal = tt } }

-- a box of the heap
abbrev pub boxed : Ptr → the_row.Denot → Fml
boxed = box_owns (ghosts.dealloc_token heap) the_row

abbrev pub hosts : Ptr → Option the_row.Denot → Fml
hosts null_ptr None = ftrue
hosts null_ptr (Some x) = ffalse
hosts (block_ptr b o) None = ffalse
hosts (block_ptr b o) (Some x) = boxed (block_ptr b o) x
