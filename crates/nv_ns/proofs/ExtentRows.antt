-- Worked examples of namespaces of several extents, computed by the checker.
use Rattle.std.proofs.Common.{◌≡◌, ◌-◌, ◌^◌, true, false, Some, None, [], ◌∷◌, refl}
use Rattle.nv_ns.specs.BlockRange.{in_namespace}
use Rattle.nv_ns.specs.Extents.{Namespace, blocks_in, cut_out, cuts, is_namespace, place_in}

-- 32 blocks from disk block 1000 on, and then 32 from 3000 on
abbrev two : Namespace
two = record { base = 1000; blocks = 32 } ∷ record { base = 3000; blocks = 32 } ∷ []

-- the order of a namespace is not the disk's: 4 blocks from 900, then 2 from 500, 3 from 100 and 5 from 700
abbrev four : Namespace
four =
    record { base = 900; blocks = 4 } ∷ record { base = 500; blocks = 2 } ∷ record { base = 100; blocks = 3 } ∷ record { base = 700; blocks = 5 } ∷ []

all_blocks : blocks_in two ≡ 64
all_blocks = refl

first_block : place_in two 0 ≡ 1000
first_block = refl

last_before_the_join : place_in two 31 ≡ 1031
last_before_the_join = refl

first_behind_the_join : place_in two 32 ≡ 3000
first_behind_the_join = refl

last_block : place_in two 63 ≡ 3031
last_block = refl

over_the_join : cuts two 31 2 ≡ record { first = 0; start = 1031; count = 1 } ∷ record { first = 1; start = 3000; count = 1 } ∷ []
over_the_join = refl

over_the_join_by_more : cuts two 30 4 ≡ record { first = 0; start = 1030; count = 2 } ∷ record { first = 2; start = 3000; count = 2 } ∷ []
over_the_join_by_more = refl

-- a run that ends exactly at a join meets one extent alone, and so does one that begins there
up_to_the_join : cuts two 30 2 ≡ record { first = 0; start = 1030; count = 2 } ∷ []
up_to_the_join = refl

from_the_join_on : cuts two 32 3 ≡ record { first = 0; start = 3000; count = 3 } ∷ []
from_the_join_on = refl

whole_namespace : cut_out two 0 64 ≡ Some (record { first = 0; start = 1000; count = 32 } ∷ record { first = 32; start = 3000; count = 32 } ∷ [])
whole_namespace = refl

one_past_the_end : cut_out two 63 2 ≡ None
one_past_the_end = refl

the_last_two : cut_out two 62 2 ≡ Some (record { first = 0; start = 3030; count = 2 } ∷ [])
the_last_two = refl

is_out_at_63 : in_namespace 63 2 (blocks_in two) ≡ false
is_out_at_63 = refl

-- no blocks are no cuts, up to and with the place behind the last block
no_blocks : cut_out two 31 0 ≡ Some []
no_blocks = refl

no_blocks_at_the_end : cut_out two 64 0 ≡ Some []
no_blocks_at_the_end = refl

no_blocks_past_the_end : cut_out two 65 0 ≡ None
no_blocks_past_the_end = refl

-- the sum of 64 bits would be 1
sum_that_would_wrap : cut_out two (2 ^ 64 - 1) 2 ≡ None
sum_that_would_wrap = refl

-- three extents at once, in the namespace's order
three_at_once : cuts four 3 5 ≡ record { first = 0; start = 903; count = 1 }
    ∷ record { first = 1; start = 500; count = 2 }
    ∷ record { first = 3; start = 100; count = 2 }
    ∷ []
three_at_once = refl

all_four : cuts four 0 14 ≡ record { first = 0; start = 900; count = 4 }
    ∷ record { first = 4; start = 500; count = 2 }
    ∷ record { first = 6; start = 100; count = 3 }
    ∷ record { first = 9; start = 700; count = 5 }
    ∷ []
all_four = refl

-- what a namespace may be
may_be : is_namespace two ≡ true
may_be = refl

no_extents : is_namespace [] ≡ false
no_extents = refl

-- a base and all blocks are one too many: 63 blocks and this one
too_far : is_namespace (record { base = 0; blocks = 63 } ∷ record { base = 2 ^ 64 - 64; blocks = 1 } ∷ []) ≡ false
too_far = refl

-- 62 and this one are not
just_near_enough : is_namespace (record { base = 0; blocks = 62 } ∷ record { base = 2 ^ 64 - 64; blocks = 1 } ∷ []) ≡ true
just_near_enough = refl
