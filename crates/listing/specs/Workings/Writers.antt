-- The bytes that a writer of records has written.
use Rattle.std.specs.Prelude.{◌≡◌, ℕ, false, List, ◌++◌}
use Rattle.std.specs.Global.{Vec}
use Rattle.csv.specs.Writing.{default_writer, fields_written, has_written, writer_pending, writer_setup, writer_under}
use Rattle.csv.specs.declared.writer.Writer.{Writer}

-- all bytes that a writer of comma-separated values was told to write: those in its vector, then those
-- in its buffer
abbrev pub written : Writer (Vec ℕ) → List ℕ
written writer = (writer_under writer).items ++ writer_pending writer

-- the writer of comma-separated values has the default settings, and the next field begins a record
pub record IsAtRecord (writer : Writer (Vec ℕ)) : Type 0 where
  pub fields : fields_written writer ≡ 0
  pub wrote : has_written writer ≡ false
  pub setup : writer_setup writer ≡ default_writer
