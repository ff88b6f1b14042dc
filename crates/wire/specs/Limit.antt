-- The size limit. Definitions only.
use Rattle.std.specs.Prelude.{ℕ}

-- "Container or output: at most 1,073,741,824 bytes."
abbrev pub limit : ℕ
limit = 1073741824
