-- How many bytes were read, against the buffer that has them and the reader that gave them.
use Rattle.std.specs.Prelude.{◌≡◌, ◌<◌, ◌≤◌, List, Option, Result, Ok, Err, ℕ, length, take}
use Rattle.std.specs.Io.KnownBytes.{Consumes, IsAtEnd}

-- where no read failed, the bytes read stand at the start of the buffer
abbrev pub Within : {E : Type 0} → Result ℕ E → List ℕ → Type 0
Within (Ok n) bytes = (n ≤ length bytes) × (n ≡ length (take n bytes))
Within (Err error) bytes = Unit {0}

-- where no read failed, of a reader whose bytes are known: those read are its first, in order, and it has none left
-- unless the buffer is full
abbrev pub ReadsAll : {E : Type 0} → Result ℕ E → Option (List ℕ) → Option (List ℕ) → List ℕ → Type 0
ReadsAll (Ok n) before after bytes = Consumes before after (take n bytes) × (n < length bytes → IsAtEnd after)
ReadsAll (Err error) before after bytes = Unit {0}
