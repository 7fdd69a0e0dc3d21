-- Worked examples of a namespace of one extent, computed by the checker.
use Rattle.std.proofs.Common.{◌≡◌, ◌-◌, ◌^◌, Some, None, [], ◌∷◌, refl}
use Rattle.nv_ns.specs.Extents.{Namespace, cut_out}

-- ten blocks from disk block 100 on
abbrev ten : Namespace
ten = record { base = 100; blocks = 10 } ∷ []

all_blocks : cut_out ten 0 10 ≡ Some (record { first = 0; start = 100; count = 10 } ∷ [])
all_blocks = refl

last_block : cut_out ten 9 1 ≡ Some (record { first = 0; start = 109; count = 1 } ∷ [])
last_block = refl

past_the_last : cut_out ten 10 1 ≡ None
past_the_last = refl

one_too_many : cut_out ten 9 2 ≡ None
one_too_many = refl

more_than_there_are : cut_out ten 0 11 ≡ None
more_than_there_are = refl

no_blocks_at_the_end : cut_out ten 10 0 ≡ Some []
no_blocks_at_the_end = refl

no_blocks_past_the_end : cut_out ten 11 0 ≡ None
no_blocks_past_the_end = refl

-- the sum of 64 bits would be 1
sum_that_would_wrap : cut_out ten (2 ^ 64 - 1) 2 ≡ None
sum_that_would_wrap = refl

no_blocks_at_all : cut_out (record { base = 7; blocks = 0 } ∷ []) 0 1 ≡ None
no_blocks_at_all = refl
