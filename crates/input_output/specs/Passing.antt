-- Which errors of a call pass if it is made again.
-- Assumes nothing: these are definitions.
use Rattle.std.specs.Prelude.{Bool, true, false, cond, ℤ, pos, negsuc, eqb, Some, None}
use Rattle.std.specs.declared.io.Error.{Error}
use Rattle.std.specs.IoError.{raw_os_error}

-- EINTR and EAGAIN: a signal came first; it would have had to wait
abbrev pub passes : ℤ → Bool
passes (pos error) = cond (eqb error 4) true (eqb error 11)
passes (negsuc error) = false

-- an error of std passes if the system gave it and its number does
abbrev pub error_passes : Error → Bool
error_passes error = elim (raw_os_error error) [ Some code ↦ passes code | None ↦ false ]
