-- What the functions that write the lines of an answer ask and give.
-- Assumes nothing: these are definitions.
use Rattle.std.specs.Prelude.{◌⊎◌, ℕ, ◌+◌, ◌-◌, ◌≤◌, ◌<◌, List, length, take, drop}
use Rattle.listing_text.specs.Promises.{WroteText}
use Rattle.listing.specs.Answer.{windows_listed, window_lines}
use Rattle.listing_request.specs.declared.Request.{Request}
use Rattle.listing.specs.declared.Step.{Step}

-- no line of an answer is longer: three numbers of 10 digits, with a byte after each
abbrev pub longest_line : ℕ
longest_line = 33

-- there is room for a line from `at` on
abbrev pub LineRoom : List ℕ → ℕ → Type 0
LineRoom out at = at + longest_line ≤ length out

-- an output that has room for a line, and in which the first `waiting` bytes wait to be written
pub record ReadyOutput (out : List ℕ) (waiting : ℕ) : Type 0 where
  pub long : longest_line ≤ length out
  pub inside : waiting ≤ length out

-- the lines about the windows from `from` on, up to the one that comes next, were written: all that are left, or as
-- many as have room
pub record Lists (q : Request) (from : ℕ) (out : List ℕ) (at : ℕ) (step : Step) (out' : List ℕ) : Type 0 where
  pub goes : from ≤ step.next
  pub wrote : WroteText (window_lines from (take (step.next - from) (drop from (windows_listed q)))) out at step.at out'
  pub inside : step.at ≤ length out
  pub full : (length (windows_listed q) ≤ step.next) ⊎ (length out < step.at + longest_line)
