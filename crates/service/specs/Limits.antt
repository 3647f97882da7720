-- The limits of the tables, the sizes of the records and the factors of entries, each said once
use Rattle.std.specs.Prelude.{ℕ}

-- jobs have the numbers 0 to 63
abbrev pub job_count : ℕ
job_count = 64

abbrev pub last_job : ℕ
last_job = 63

-- the most places of the tile table and of the operations table, and the most bytes of a journal
abbrev pub most_tiles : ℕ
most_tiles = 4096

abbrev pub most_operations : ℕ
most_operations = 1024

abbrev pub most_bytes : ℕ
most_bytes = 65536

-- the bytes of a record: of an open, a commit, an abort or a rule; of an operation; and of one without a sheet
abbrev pub short_size : ℕ
short_size = 4

abbrev pub operation_size : ℕ
operation_size = 12

abbrev pub older_size : ℕ
older_size = 10

-- an entry is sheet, kind, job and key
abbrev pub sheet_factor : ℕ
sheet_factor = 281474976710656

abbrev pub kind_factor : ℕ
kind_factor = 1099511627776

abbrev pub job_factor : ℕ
job_factor = 4294967296
