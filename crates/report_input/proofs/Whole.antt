-- Whatever the pieces in which an input comes, what is told in the end is what `report_of` says of all its bytes. Assumes nothing.
use mathlib.Core.Path.{◌≡◌, sym, ap, ◌∙◌}
use Prim.Native.Nat.{ℕ}
use mathlib.Core.List.{List, [], ◌++◌, append_assoc, append-nil}
use Rattle.report_held.specs.Input.{report_of}
use Rattle.report_held.specs.Promises.{resumed}
use Rattle.report_held.specs.declared.Held.{Held}
use Rattle.report_input.specs.Fed.{Fed, fed_none, fed_more}

-- with what comes after them
pub fed_resumed : {bytes : List ℕ} {held : Held} {batch : List ℕ} → Fed bytes held batch → (more : List ℕ) → resumed held batch more ≡ report_of (bytes ++ more)
fed_resumed (fed_none batch start) more = start batch more
fed_resumed (fed_more {bytes} {piece} f feeds) more = feeds.same more ∙ fed_resumed f (piece ++ more) ∙ ap report_of (sym (append_assoc bytes piece more))

-- at the end, which is what `finish` answers
pub fed_whole : {bytes : List ℕ} {held : Held} {batch : List ℕ} → Fed bytes held batch → resumed held batch [] ≡ report_of bytes
fed_whole {bytes} f = fed_resumed f [] ∙ ap report_of (append-nil bytes)
