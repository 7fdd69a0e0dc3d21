use Rattle.std.proofs.Common.{◌+◌, ◌/◌, ◌≤◌, length, vec_len, vec_capacity}
use Rattle.nv_mem.specs.GuestMap.{mapped}
use Rattle.nv_sgl.proofs.Parts.{Progress, behind_blocks}
use Rattle.nv_sgl.proofs.cursor.read_part.Given as goal

abbrev pub invariant-front : goal.invariant-front
invariant-front g l = record {
  within : l.count ≤ l.most;
  progress : Progress (mapped l.map.regions) l.dest l.fn.cursor l.bytes l.fn.blocks.items (behind_blocks l.fn.cursor l.count l.total) l.rest l.blocks.items;
  room : vec_len l.blocks + length l.rest / 16 ≤ vec_capacity l.blocks;
}

abbrev pub decreases-front : goal.decreases-front
decreases-front g l = length l.rest

abbrev pub invariant-others : goal.invariant-others
invariant-others g l = record {
  progress : Progress (mapped l.map.regions) l.dest l.fn.cursor l.bytes l.fn.blocks.items l.cursor l.rest l.blocks.items;
  room : vec_len l.blocks + length l.rest / 16 ≤ vec_capacity l.blocks;
}

abbrev pub decreases-others : goal.decreases-others
decreases-others g l = length l.rest
