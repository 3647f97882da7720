-- What came before reading ended or failed.
use Rattle.std.specs.Prelude.{Result, Ok, Err, ℕ}
use Rattle.terminal.specs.declared.Unreadable.{Unreadable}

-- how many bytes were read, whether reading failed after them or not
abbrev pub bytes_in : Result ℕ Unreadable → ℕ
bytes_in (Ok bytes) = bytes
bytes_in (Err e) = e.bytes
