-- The sizes and limits of the project, each under one name. Blocks of 512 bytes and pages of 4 KiB are the only formats (NVM Command Set
-- Specification 1.0, "LBA Format"; Base Specification 2.0, "Controller Configuration", MPS); the others are the project's own (profile).
use Rattle.std.specs.Prelude.{ℕ, ◌+◌, ◌*◌, ◌/◌}
use Rattle.nv_mem.specs.Page.{page_size}

-- the bytes of a logical block
abbrev pub block : ℕ
block = 512

-- the bytes of a memory page
abbrev pub page : ℕ
page = page_size

-- the bytes of a range of Dataset Management
abbrev pub range_size : ℕ
range_size = 16

-- the most bytes of a list that are wanted at once
abbrev pub part_size : ℕ
part_size = 4096

-- the most blocks of a transfer: 128 KiB, as MDTS 5 says
abbrev pub most_blocks : ℕ
most_blocks = 256

-- the most bytes of a transfer
abbrev pub most_bytes : ℕ
most_bytes = block * most_blocks

-- the most entries of a PRP list: one for each page of a transfer but the first, in which it may begin anywhere
abbrev pub most_entries : ℕ
most_entries = most_bytes / page

-- the most pages in which a transfer lies
abbrev pub most_pages : ℕ
most_pages = most_entries + 1

-- the most descriptors of a list, where a guest has no limit of its own
abbrev pub most_descriptors : ℕ
most_descriptors = 1024

-- the most slots of a queue, as CAP.MQES says
abbrev pub most_slots : ℕ
most_slots = 1024

-- the last number of a queue: there are eight I/O queues beside the admin queue
abbrev pub last_queue : ℕ
last_queue = 8

-- the most event requests that are held, as AERL says
abbrev pub most_requests : ℕ
most_requests = 4

-- the most bytes of the memory of a controller that serves one guest alone
abbrev pub largest_memory : ℕ
largest_memory = 16777216

-- the most blocks of its namespace
abbrev pub largest_namespace : ℕ
largest_namespace = 65536
